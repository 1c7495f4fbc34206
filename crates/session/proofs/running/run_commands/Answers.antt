use Rattle.std.proofs.Common.{Bool, true, false, sym, ◌∙◌, subst}
use Rattle.std.proofs.lemmas.Fn.{says_at}
use Rattle.std.specs.Fn.{FnReturnsAt}
use Rattle.session.proofs.AnswerLemmas.{done_none}
use Rattle.session.proofs.RunLemmas.{both_true, ends_before, ends_done, ends_refused, ends_shown_short, not_both, reached_more, reached_none}
use Rattle.session.specs.Answers.{is_refusal}
use Rattle.session.proofs.running.run_commands.Goals as goal

pub returns-then-was_cut-clause-ends : goal.returns-then-was_cut-clause-ends
returns-then-was_cut-clause-ends g c =
    let fs = c.args.fs.now in
    let cut = λ (b : Bool). FnReturnsAt g.C.Fn c.args.was_cut.now fs.system.blocks.buffers.station b in
    ends_before fs c.args.commands.now c.args.stops _ cut _ c.show_cut.result (done_none fs c.begins.ensures)
    (subst (λ s. FnReturnsAt g.C.Fn c.args.was_cut.now s true) c.station.ensures (says_at g.C.Fn c.was_cut.ensures c.if-was_cut.true)) c.show_cut.ensures.shows

pub loop-command-init : goal.loop-command-init
loop-command-init g c =
    let fs = c.args.fs.now in
    let cut = λ (b : Bool). FnReturnsAt g.C.Fn c.args.was_cut.now fs.system.blocks.buffers.station b in
    reached_none fs c.args.commands.now c.args.stops _ cut (done_none fs c.begins.ensures)
    (subst (λ s. FnReturnsAt g.C.Fn c.args.was_cut.now s false) c.station.ensures (says_at g.C.Fn c.was_cut.ensures c.if-was_cut.false))

pub returns-in-Err-clause-ends : goal.returns-in-Err-clause-ends
returns-in-Err-clause-ends g c =
    let before = λ (b : Bool). FnReturnsAt g.C.Fn c.args.was_cut.now c.loop-command.fs.system.blocks.buffers.station b in
    let now = λ (b : Bool). FnReturnsAt g.C.Fn c.args.was_cut.now c.answer.new.fs.system.blocks.buffers.station b in
    ends_shown_short c.args.fs.now c.args.commands.now c.args.stops _ c.loop-command.fs c.answer.new.fs before now c.loop-command.command-index c.command-item.result _ _ c.loop-command-test.true c.command-item.is
    c.loop-command.invariant c.in-Err.status c.in-Err.ensures.shows

pub returns-then-ends_run-clause-ends : goal.returns-then-ends_run-clause-ends
returns-then-ends_run-clause-ends g c =
    let before = λ (b : Bool). FnReturnsAt g.C.Fn c.args.was_cut.now c.loop-command.fs.system.blocks.buffers.station b in
    let now = λ (b : Bool). FnReturnsAt g.C.Fn c.args.was_cut.now c.answer.new.fs.system.blocks.buffers.station b in
    let both = both_true c.args.stops (is_refusal c.in-Ok.reply) (sym c.ends_run.ensures ∙ c.if-ends_run.true) in
    ends_refused c.args.fs.now c.args.commands.now c.args.stops _ c.loop-command.fs c.answer.new.fs before now c.loop-command.command-index c.command-item.result _ _ c.loop-command-test.true c.command-item.is
    c.loop-command.invariant c.in-Ok.reply c.in-Ok.ensures.shows both.0 both.1

pub loop-command-preserved : goal.loop-command-preserved
loop-command-preserved g c =
    let before = λ (b : Bool). FnReturnsAt g.C.Fn c.args.was_cut.now c.loop-command.fs.system.blocks.buffers.station b in
    let now = λ (b : Bool). FnReturnsAt g.C.Fn c.args.was_cut.now c.answer.new.fs.system.blocks.buffers.station b in
    reached_more c.args.fs.now c.args.commands.now c.args.stops _ c.loop-command.fs c.answer.new.fs before now c.loop-command.command-index c.command-item.result _ _ c.loop-command-test.true c.command-item.is
    c.loop-command.invariant c.in-Ok.reply c.in-Ok.ensures.shows (not_both c.args.stops (is_refusal c.in-Ok.reply) (sym c.ends_run.ensures ∙ c.if-ends_run.false))

pub returns-clause-ends : goal.returns-clause-ends
returns-clause-ends g c =
    let now = λ (b : Bool). FnReturnsAt g.C.Fn c.args.was_cut.now c.loop-command.fs.system.blocks.buffers.station b in
    ends_done c.args.fs.now c.args.commands.now c.args.stops _ c.loop-command.fs now c.loop-command.command-index _ c.loop-command-test.false c.loop-command.invariant
