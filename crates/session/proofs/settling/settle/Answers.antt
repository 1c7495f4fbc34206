use Rattle.std.proofs.Common.{Bool, true, false, subst}
use Rattle.std.proofs.lemmas.Fn.{says_at}
use Rattle.std.specs.Fn.{FnReturnsAt}
use Rattle.session.proofs.TalkLemmas.{settled, stopped_cut, stopped_shown}
use Rattle.session.proofs.settling.settle.Goals as goal

pub returns-then-was_cut-clause-settles : goal.returns-then-was_cut-clause-settles
returns-then-was_cut-clause-settles g c d first before o dialog promised under_way tried =
    let new = c.commit-done.new.self in
    let cut = λ (b : Bool). FnReturnsAt g.C.Fn c.args.was_cut.now new.fs.system.blocks.buffers.station b in
    stopped_cut d first o before new _ _ c.args.kept.now c.args.kept.now dialog promised under_way c.args.files.now cut c.commit-done.result c.show_cut.result tried c.commit-done.ensures
    (subst (λ s. FnReturnsAt g.C.Fn c.args.was_cut.now s true) c.station.ensures (says_at g.C.Fn c.was_cut.ensures c.if-was_cut.true)) c.show_cut.ensures.shows

pub returns-in-Ok-clause-settles : goal.returns-in-Ok-clause-settles
returns-in-Ok-clause-settles g c d first before o dialog promised under_way tried =
    let new = c.commit-done.new.self in
    let cut = λ (b : Bool). FnReturnsAt g.C.Fn c.args.was_cut.now new.fs.system.blocks.buffers.station b in
    settled d first o before new _ _ c.args.kept.now c.show_kept.new.kept dialog promised under_way c.args.files.now cut c.commit-done.result c.is_lost.result tried c.commit-done.ensures
    (subst (λ s. FnReturnsAt g.C.Fn c.args.was_cut.now s false) c.station.ensures (says_at g.C.Fn c.was_cut.ensures c.if-was_cut.false)) c.is_lost.ensures (c.in-Ok.ensures.shows under_way.lines under_way.owes)

pub returns-in-Err-clause-settles : goal.returns-in-Err-clause-settles
returns-in-Err-clause-settles g c d first before o dialog promised under_way tried =
    let new = c.commit-done.new.self in
    let cut = λ (b : Bool). FnReturnsAt g.C.Fn c.args.was_cut.now new.fs.system.blocks.buffers.station b in
    stopped_shown d first o before new _ _ c.args.kept.now c.show_kept.new.kept dialog promised under_way c.args.files.now cut c.commit-done.result c.is_lost.result c.in-Err.status tried c.commit-done.ensures
    c.is_lost.ensures (c.in-Err.ensures.shows under_way.lines under_way.owes)
