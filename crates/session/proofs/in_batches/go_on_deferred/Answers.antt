use Rattle.std.proofs.Common.{Bool, true, ◌≤◌, ℕ, sym, subst}
use Rattle.std.specs.Fn.{FnReturnsAt}
use Rattle.session.specs.declared.durability.Durability.TheVariants.{Deferred}
use Rattle.session.proofs.TalkLemmas.{stopped_waiting_on, waits_on}
use Rattle.session.proofs.in_batches.go_on_deferred.Goals as goal

pub returns-in-Ok-clause-goes_on : goal.returns-in-Ok-clause-goes_on
returns-in-Ok-clause-goes_on g c first o dialog under_way =
    let may = c.may_wait_on.ensures c.if-may_wait_on.true in
    waits_on first c.args.files.now o _ _ c.args.kept.now c.show_kept.new.kept dialog c.args.done.is_promise c.args.milliseconds c.args.bytes under_way may.0 (subst (λ (n : ℕ). n ≤ c.args.bytes) c.waiting-waiting.ensures may.1)
    (c.in-Ok.ensures.shows under_way.lines under_way.owes)

pub returns-in-Err-clause-goes_on : goal.returns-in-Err-clause-goes_on
returns-in-Err-clause-goes_on g c first o dialog under_way =
    let cut = λ (b : Bool). FnReturnsAt g.C.Fn c.args.was_cut.now c.args.files.now.fs.system.blocks.buffers.station b in
    let may = c.may_wait_on.ensures c.if-may_wait_on.true in
    stopped_waiting_on first c.args.files.now o _ _ c.args.kept.now c.show_kept.new.kept dialog c.args.done.is_promise c.args.milliseconds c.args.bytes under_way may.0 (subst (λ (n : ℕ). n ≤ c.args.bytes) c.waiting-waiting.ensures may.1)
    cut c.in-Err.status (c.in-Err.ensures.shows under_way.lines under_way.owes)

pub returns-clause-goes_on : goal.returns-clause-goes_on
returns-clause-goes_on g c first o dialog under_way = c.settle_deferred.ensures.goes_on (Deferred c.args.milliseconds c.args.bytes) first o dialog c.args.done.is_promise under_way
