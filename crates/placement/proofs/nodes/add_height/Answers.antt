use Rattle.std.proofs.Common.{Contains, refl, arith}
use Rattle.std.specs.Prelude.{max}
use Rattle.placement.specs.Nodes.{node}
use Rattle.placement.proofs.AmongLaws.{left_among}
use Rattle.placement.proofs.ListLaws.{left_join, left_whole}
use Rattle.placement.proofs.nodes.add_height.Goals as goal

pub returns-then-height-gt0-clause-left : goal.returns-then-height-gt0-clause-left
returns-then-height-gt0-clause-left c = λ b.
    left_whole c.args.count b c.args.from.now (node c.args.to.now c.args.height) (Contains c.args.blocks.now.items b) (Contains c.add_left.new.blocks.items b) c.requires.short (c.in_ok-add_left.ensures.left b)

pub returns-clause-left : goal.returns-clause-left
returns-clause-left c = λ b.
    let from = c.args.from.now in
    let to = node c.args.to.now c.args.height in
    let was = Contains c.args.blocks.now.items b in
    let next = c.max.result in
    let past = max next c.args.count in
    left_whole past b from to was (Contains c.add_left-3.new.blocks.items b) (λ i le. c.requires.short i (omega (arith, le)))
    (left_join next c.args.count past b from to was (Contains c.add_changed.new.blocks.items b) (Contains c.add_left-3.new.blocks.items b) refl
    (left_join 1 c.args.kept next b from to was (Contains c.add_left-2.new.blocks.items b) (Contains c.add_changed.new.blocks.items b) (omega arith) (c.in_ok-add_left-2.ensures.left b)
    (left_among 1 c.args.kept b c.args.changed.now from to (Contains c.add_left-2.new.blocks.items b) (Contains c.add_changed.new.blocks.items b) c.requires.among
    (c.requires.kept (omega (arith, c.if-height-gt0.false))) (c.in_ok-add_changed.ensures.left b)))
    (c.in_ok-add_left-3.ensures.left b))

pub returns-in_err-add_left-3-clause-within : goal.returns-in_err-add_left-3-clause-within
returns-in_err-add_left-3-clause-within c = λ disk all low. c.add_left-3.ensures.within disk all (c.add_changed.ensures.within disk all (c.add_left-2.ensures.within disk all low))

pub returns-clause-within : goal.returns-clause-within
returns-clause-within c = λ disk all low. c.add_left-3.ensures.within disk all (c.add_changed.ensures.within disk all (c.add_left-2.ensures.within disk all low))
