use Rattle.std.proofs.Common.{ℕ, ◌/◌, sym, subst, rules, arith}
use Rattle.blocktree.specs.Trees.{IsSoundAt}
use Rattle.planning.specs.Steps.{found_in, tree_of}
use Rattle.planning.proofs.StepLaws.{goes_on}
use Rattle.planning.proofs.number.plan_number.Goals as goal
use Rattle.planning.proofs.PromiseLaws.{plans_err, plans_file, plans_marks, plans_reads, plans_then, plans_unread}
use Rattle.planning.specs.Space.{number_nodes}

pub returns-clause-planned : goal.returns-clause-planned
returns-clause-planned g c = λ o way fresh.
    let said = c.inodes_are_put_one_by_one.ensures in
    let shown = c.place_number.ensures.step.reads.same o.disk o.shows in
    goes_on (record { there = said.there; others = said.others; behind = said.behind }) c.args.draft.now c.place_number.new.draft c.mark_placed.new.draft o.disk o.before c.args.inodes.now.geometry
    (tree_of o) (found_in o) c.args.file.now c.put_inode.new.file c.args.number c.in_ok-placed.placed.inode _ _
    way o.once o.exact fresh (search rules) (search rules) c.place_number.ensures.step.grows c.place_number.ensures.step.parts c.in_ok-placed.ensures.blocks.given
    (c.in_ok-placed.ensures.placed o way.settled) c.mark_placed.ensures.step.grows c.mark_placed.ensures.step.next c.in_ok-mark_placed.ensures.marked
    (c.in_ok-put_inode.ensures.put o.disk shown) (c.in_ok-put_inode.ensures.whole o.disk shown) c.in_ok-put_inode.ensures.long

pub returns-in_err-placed-clause-damaged : goal.returns-in_err-placed-clause-damaged
returns-in_err-placed-clause-damaged g c = λ o same sound bad. c.in_err-placed.ensures.damaged o same (search rules)

pub returns-in_err-put_inode-clause-damaged : goal.returns-in_err-put_inode-clause-damaged
returns-in_err-put_inode-clause-damaged g c = λ o same sound bad.
    c.in_err-put_inode.ensures.damaged o.disk (c.place_number.ensures.step.reads.same o.disk o.shows) (search rules)
    (subst (λ (n : ℕ). IsSoundAt n o.disk c.args.file.now.tree (c.args.number / 21)) (sym c.place_number.ensures.step.reads.count) sound)

pub returns-in_err-placed-clause-step : goal.returns-in_err-placed-clause-step
returns-in_err-placed-clause-step g c = plans_err c.from_residual.result c.from_residual.ensures.1 (plans_file c.in_err-placed.ensures.step)

pub returns-in_err-mark_placed-clause-step : goal.returns-in_err-mark_placed-clause-step
returns-in_err-mark_placed-clause-step g c =
    plans_err c.from_residual-in_err-mark_placed.result c.from_residual-in_err-mark_placed.ensures.1 (plans_then (plans_file c.in_ok-placed.ensures.step) (plans_marks c.in_err-mark_placed.ensures.step tt) (omega arith))

pub returns-in_err-put_inode-clause-step : goal.returns-in_err-put_inode-clause-step
returns-in_err-put_inode-clause-step g c =
    plans_then {n = number_nodes c.args.inodes.now c.args.number} (plans_then (plans_file c.in_ok-placed.ensures.step) (plans_marks c.in_ok-mark_placed.ensures.step c.in_ok-mark_placed.ensures.marked.others) (omega arith)) (plans_unread {n = 0} c.from_residual-in_err-put_inode.result c.from_residual-in_err-put_inode.ensures.1 c.in_err-put_inode.ensures.reads) (omega arith)

pub returns-clause-step : goal.returns-clause-step
returns-clause-step g c =
    plans_then {n = number_nodes c.args.inodes.now c.args.number} (plans_then (plans_file c.in_ok-placed.ensures.step) (plans_marks c.in_ok-mark_placed.ensures.step c.in_ok-mark_placed.ensures.marked.others) (omega arith)) (plans_reads {n = 0} c.in_ok-put_inode.ensures.reads) (omega arith)

pub returns-in_err-put_inode-clause-file : goal.returns-in_err-put_inode-clause-file
returns-in_err-put_inode-clause-file g c = c.put_inode.ensures.file

pub returns-clause-file : goal.returns-clause-file
returns-clause-file g c = c.put_inode.ensures.file
