use Rattle.std.proofs.Common.{arith, ◌∙◌, rules}
use Rattle.planning.specs.Steps.{tree_of}
use Rattle.planning.proofs.MapFileLaws.{map_file_later}
use Rattle.planning.proofs.block_map.plan_last.Goals as goal
use Rattle.planning.proofs.PromiseLaws.{plans_err, plans_puts, plans_seen, plans_then, plans_unread}
use Rattle.planning.specs.Space.{map_file_nodes}

pub returns-in_err-map-clause-damaged : goal.returns-in_err-map-clause-damaged
returns-in_err-map-clause-damaged g c = λ o sound bad. c.in_err-map.ensures.damaged o (search rules)

pub returns-clause-planned : goal.returns-clause-planned
returns-clause-planned g c = λ o start p fresh.
    let shown = c.plan_block_map.ensures.step.reads.same o.disk o.shows in
    record {
      map = c.in_ok-map.map;
      planned = map_file_later c.args.draft.now c.plan_block_map.new.draft c.put.new.self o.disk o.before c.args.inodes.now.geometry (tree_of o) p c.in_ok-map.map c.put.ensures.step.grows c.put.ensures.step.map
          (c.in_ok-map.ensures.planned o start p fresh);
      put = λ e has. c.in_ok-put.ensures.stored e has ∙ c.in_ok-block.ensures.put o.disk shown;
      whole = c.in_ok-block.ensures.whole o.disk shown;
      long = c.in_ok-block.ensures.long;
    }

pub returns-in_err-map-clause-step : goal.returns-in_err-map-clause-step
returns-in_err-map-clause-step g c = plans_err c.from_residual.result c.from_residual.ensures.1 c.in_err-map.ensures.step

pub returns-in_err-block-clause-step : goal.returns-in_err-block-clause-step
returns-in_err-block-clause-step g c =
    plans_then c.in_ok-map.ensures.step (plans_unread {n = 0} c.from_residual-in_err-block.result c.from_residual-in_err-block.ensures.1 c.in_err-block.ensures.reads) (omega arith)

pub returns-in_err-put-clause-step : goal.returns-in_err-put-clause-step
returns-in_err-put-clause-step g c =
    plans_err c.from_residual-in_err-put.result c.from_residual-in_err-put.ensures.1 (plans_then (plans_then {k = map_file_nodes c.args.draft.now.map.count} c.in_ok-map.ensures.step (plans_seen {n = 0} c.in_ok-block.ensures.reads) (omega arith)) (plans_puts c.in_err-put.ensures.step) (omega arith))

pub returns-clause-step : goal.returns-clause-step
returns-clause-step g c =
    plans_then (plans_then {k = map_file_nodes c.args.draft.now.map.count} c.in_ok-map.ensures.step (plans_seen {n = 0} c.in_ok-block.ensures.reads) (omega arith)) (plans_puts c.in_ok-put.ensures.step) (omega arith)
