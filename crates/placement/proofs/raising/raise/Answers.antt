use Rattle.std.proofs.Common.{arith}
use Rattle.blocktree.specs.PlaceMaps.{place_at}
use Rattle.conspoint.specs.Groups.{group}
use Rattle.placement.proofs.RaiseLaws.{AreOver, over_err, over_none, over_settled, raised_follows, raised_group, raised_placed, raised_step}
use Rattle.placement.proofs.raising.raise.Goals as goal
use Rattle.placement.proofs.raising.raise.Goals.{After-height-old, After-new-none}

-- where the settled file has a height over this one, and where it has none
settled_are : (c : After-height-old) → AreOver c.args.settled.now c.args.height c.height-over.result.now c.height-old.result.now
settled_are c = over_settled c.args.settled.now c.height-over.result.now c.height-old.result.now c.args.height (omega (arith, c.if-above-len.true, c.len.ensures)) (c.height-old.ensures.layout c.requires.alike) c.height-over.ensures.nodes c.height-old.ensures.nodes

none_are : (c : After-new-none) → AreOver c.args.settled.now c.args.height c.new-none.result c.new-none.result
none_are c = over_none c.args.settled.now c.new-none.result c.args.height (omega (arith, c.if-above-len.false, c.len.ensures)) c.new-none.ensures.holes

pub returns-then-above-len-clause-step : goal.returns-then-above-len-clause-step
returns-then-above-len-clause-step c = raised_step (settled_are (goal.at.returns-then-above-len-clause-step c).After-height-old) c.in_ok-placed.ensures.step

pub returns-then-above-len-clause-groups : goal.returns-then-above-len-clause-groups
returns-then-above-len-clause-groups c = λ e has j lt.
    raised_group (settled_are (goal.at.returns-then-above-len-clause-groups c).After-height-old) e j (group c.args.nodes.now j) (place_at c.in_ok-placed.placed j) (c.in_ok-placed.ensures.groups e has j lt)

pub returns-then-above-len-clause-follows : goal.returns-then-above-len-clause-follows
returns-then-above-len-clause-follows c = λ j lt.
    raised_follows (settled_are (goal.at.returns-then-above-len-clause-follows c).After-height-old) j (group c.args.nodes.now j) (place_at c.in_ok-placed.placed j) (c.in_ok-placed.ensures.follows j lt)

pub returns-then-above-len-clause-placed : goal.returns-then-above-len-clause-placed
returns-then-above-len-clause-placed c =
    raised_placed (settled_are (goal.at.returns-then-above-len-clause-placed c).After-height-old) c.args.draft.now c.place_over.new.draft c.in_ok-placed.placed c.requires.settled c.in_ok-placed.ensures.placed

pub returns-in_err-placed-clause-step : goal.returns-in_err-placed-clause-step
returns-in_err-placed-clause-step c =
    over_err c.from_residual.result c.from_residual.ensures.1 (raised_step (settled_are (goal.at.returns-in_err-placed-clause-step c).After-height-old) c.in_err-placed.ensures.step)

pub returns-clause-step : goal.returns-clause-step
returns-clause-step c = raised_step (none_are (goal.at.returns-clause-step c).After-new-none) c.in_ok-raised.ensures.step

pub returns-clause-groups : goal.returns-clause-groups
returns-clause-groups c = λ e has j lt.
    raised_group (none_are (goal.at.returns-clause-groups c).After-new-none) e j (group c.args.nodes.now j) (place_at c.in_ok-raised.raised j) (c.in_ok-raised.ensures.groups e has j lt)

pub returns-clause-follows : goal.returns-clause-follows
returns-clause-follows c = λ j lt.
    raised_follows (none_are (goal.at.returns-clause-follows c).After-new-none) j (group c.args.nodes.now j) (place_at c.in_ok-raised.raised j) (c.in_ok-raised.ensures.follows j lt)

pub returns-clause-placed : goal.returns-clause-placed
returns-clause-placed c =
    raised_placed (none_are (goal.at.returns-clause-placed c).After-new-none) c.args.draft.now c.place_over-2.new.draft c.in_ok-raised.raised c.requires.settled c.in_ok-raised.ensures.placed

pub returns-in_err-raised-clause-step : goal.returns-in_err-raised-clause-step
returns-in_err-raised-clause-step c =
    over_err c.from_residual-in_err-raised.result c.from_residual-in_err-raised.ensures.1 (raised_step (none_are (goal.at.returns-in_err-raised-clause-step c).After-new-none) c.in_err-raised.ensures.step)
