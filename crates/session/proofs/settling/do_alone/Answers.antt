use Rattle.std.proofs.Common.{Bool, true, false, Some, ℕ, List, refl, subst}
use Rattle.std.proofs.lemmas.Fn.{says_at}
use Rattle.std.specs.Fn.{FnReturnsAt}
use Rattle.session.specs.Talks.{single}
use Rattle.session.proofs.TalkLemmas.{alone_goes_on, alone_leads, cut_shown, reply_shown, stopped_alone}
use Rattle.session.proofs.settling.do_alone.Goals as goal

pub returns-in-Err-clause-goes_on : goal.returns-in-Err-clause-goes_on
returns-in-Err-clause-goes_on g c d first before o dialog line under_way tried is = c.in-Err.ensures.settles d first before o dialog false under_way tried

pub returns-then-was_cut-clause-goes_on : goal.returns-then-was_cut-clause-goes_on
returns-then-was_cut-clause-goes_on g c d first before o dialog line under_way tried is =
    let mid = c.settle.new.files in
    let new = c.answer_behind-reply.new.files in
    let cut_before = λ (b : Bool). FnReturnsAt g.C.Fn c.args.was_cut.now mid.fs.system.blocks.buffers.station b in
    let cut = λ (b : Bool). FnReturnsAt g.C.Fn c.args.was_cut.now new.fs.system.blocks.buffers.station b in
    let at = c.in-Ok.ensures.settles d first before o dialog false under_way tried in
    let reply = c.answer_behind-reply.result in
    stopped_alone d first o mid _ c.settle.new.kept cut_before dialog c.in-Ok.done at new _ cut c.args.command.now reply c.show_cut.result
    (alone_leads d first o mid new _ c.settle.new.kept cut_before dialog c.args.command.now reply c.in-Ok.done at c.answer_behind-reply.ensures)
    (cut_shown cut (single c.args.command.now reply) _ _ c.show_cut.result
    (subst (λ s. FnReturnsAt g.C.Fn c.args.was_cut.now s true) c.station.ensures (says_at g.C.Fn c.was_cut.ensures c.if-was_cut.true)) c.show_cut.ensures.shows)

pub returns-in-Ok-show_reply-clause-goes_on : goal.returns-in-Ok-show_reply-clause-goes_on
returns-in-Ok-show_reply-clause-goes_on g c d first before o dialog line under_way tried is =
    let mid = c.settle.new.files in
    let new = c.answer_behind-reply.new.files in
    let cut_before = λ (b : Bool). FnReturnsAt g.C.Fn c.args.was_cut.now mid.fs.system.blocks.buffers.station b in
    let at = c.in-Ok.ensures.settles d first before o dialog false under_way tried in
    let reply = c.answer_behind-reply.result in
    record {
      step = Some (c.args.command.now, reply);
      comes = is;
      under_way = alone_goes_on d first o mid new _ c.settle.new.kept cut_before dialog c.args.command.now reply _ line c.in-Ok-show_reply.ensures.shows c.in-Ok.done at c.answer_behind-reply.ensures;
      refused = c.is_refusal.ensures;
    }

pub returns-clause-goes_on : goal.returns-clause-goes_on
returns-clause-goes_on g c d first before o dialog line under_way tried is =
    let mid = c.settle.new.files in
    let new = c.answer_behind-reply.new.files in
    let cut_before = λ (b : Bool). FnReturnsAt g.C.Fn c.args.was_cut.now mid.fs.system.blocks.buffers.station b in
    let cut = λ (b : Bool). FnReturnsAt g.C.Fn c.args.was_cut.now new.fs.system.blocks.buffers.station b in
    let at = c.in-Ok.ensures.settles d first before o dialog false under_way tried in
    let reply = c.answer_behind-reply.result in
    stopped_alone d first o mid _ c.settle.new.kept cut_before dialog c.in-Ok.done at new _ cut c.args.command.now reply c.in-Err-show_reply.status
    (alone_leads d first o mid new _ c.settle.new.kept cut_before dialog c.args.command.now reply c.in-Ok.done at c.answer_behind-reply.ensures)
    (reply_shown cut (single c.args.command.now reply) reply _ _ c.in-Err-show_reply.status refl c.in-Err-show_reply.ensures.shows)
