use Rattle.std.proofs.Common.{ℕ, inl, inr, sym, subst, ◌∙◌, rules, arith}
use Rattle.blocktree.specs.Trees.{IsSoundAt}
use Rattle.planning.specs.Plans.{HasInodeMap}
use Rattle.planning.specs.Steps.{found_in, tree_of}
use Rattle.planning.proofs.PromiseLaws.{file_some, file_then, parts_err, parts_of, parts_same, parts_then, plans_err}
use Rattle.planning.proofs.SettledLaws.{over_read}
use Rattle.planning.proofs.StartLaws.{not_own}
use Rattle.planning.proofs.points.plan_changes.Goals as goal

pub returns-in_err-plan_numbers-clause-damaged : goal.returns-in_err-plan_numbers-clause-damaged
returns-in_err-plan_numbers-clause-damaged g c = λ o same sound bad. c.in_err-plan_numbers.ensures.damaged o same sound (search rules)

pub returns-in_err-plan_inode_map-clause-damaged : goal.returns-in_err-plan_inode_map-clause-damaged
returns-in_err-plan_inode_map-clause-damaged g c = λ o same sound bad.
    let step = c.plan_numbers.ensures.step in
    c.in_err-plan_inode_map.ensures.damaged (over_read step.reads o) (λ b. step.grows.settled.settled b ∙ same b)
    (λ i. subst (λ n. IsSoundAt n o.disk c.plan_numbers.new.file.tree i) (sym step.reads.count) (c.plan_numbers.ensures.file.sound (g.B.Blocks.count c.args.blocks.now) o.disk i (sound i)))
    (search rules)

pub returns-clause-planned : goal.returns-clause-planned
returns-clause-planned g c = λ o no_hole from start.
    let inodes = c.args.inodes.now in
    let done = c.in_ok-plan_numbers.ensures.planned o from start in
    record {
      changed = done.way.plan.changed;
      just = done.just;
      map = subst (λ (k : ℕ). HasInodeMap inodes.numbers.bytes.items done.way.plan.changed k c.plan_inode_map.new.draft o.disk o.before inodes.geometry (tree_of o) (found_in o) c.plan_inode_map.new.file) done.from_is
          (c.in_ok-plan_inode_map.ensures.planned (over_read c.plan_numbers.ensures.step.reads o) no_hole done.way (not_own inodes done.way.plan.changed done.just inodes.changes 1 (omega arith)));
    }

pub returns-in_err-plan_numbers-clause-step : goal.returns-in_err-plan_numbers-clause-step
returns-in_err-plan_numbers-clause-step g c =
    parts_of (plans_err c.from_residual.result c.from_residual.ensures.1 c.in_err-plan_numbers.ensures.step) (λ o w counts. omega arith)

pub returns-in_err-plan_inode_map-clause-step : goal.returns-in_err-plan_inode_map-clause-step
returns-in_err-plan_inode_map-clause-step g c =
    parts_err c.from_residual-in_err-plan_inode_map.result c.from_residual-in_err-plan_inode_map.ensures.1 (parts_then (parts_same c.in_ok-plan_numbers.ensures.step) c.in_err-plan_inode_map.ensures.step (λ w. omega arith))

pub returns-clause-step : goal.returns-clause-step
returns-clause-step g c = parts_then (parts_same c.in_ok-plan_numbers.ensures.step) c.in_ok-plan_inode_map.ensures.step (λ w. omega arith)

pub returns-in_err-plan_numbers-clause-file : goal.returns-in_err-plan_numbers-clause-file
returns-in_err-plan_numbers-clause-file g c = file_some (λ i is. inr is) c.plan_numbers.ensures.file

pub returns-in_err-plan_inode_map-clause-file : goal.returns-in_err-plan_inode_map-clause-file
returns-in_err-plan_inode_map-clause-file g c =
    file_then (λ i is. inl is) (file_some (λ i is. inr is) c.plan_numbers.ensures.file) c.plan_inode_map.ensures.file

pub returns-clause-file : goal.returns-clause-file
returns-clause-file g c = file_then (λ i is. inl is) (file_some (λ i is. inr is) c.plan_numbers.ensures.file) c.plan_inode_map.ensures.file
