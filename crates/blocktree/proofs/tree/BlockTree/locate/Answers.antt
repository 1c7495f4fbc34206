use Rattle.std.proofs.Common.{◌∙◌, ap, sym, length}
use Rattle.layout.proofs.ZeroLaws.{length-zeros}
use Rattle.blocktree.specs.Places.{pointed}
use Rattle.blocktree.proofs.SlotLaws.{settled_past, settled_within}
use Rattle.blocktree.proofs.tree.BlockTree.locate.Goals as goal

pub returns-then-i-self-clause-found : goal.returns-then-i-self-clause-found
returns-then-i-self-clause-found g c = λ disk shows. c.in_default.ensures.none disk ∙ settled_past _ disk _ _ _ _ c.if-i-self.true

pub returns-in-Hole-clause-found : goal.returns-in-Hole-clause-found
returns-in-Hole-clause-found g c = λ disk shows.
    c.in_default.ensures.none disk ∙ settled_within _ disk _ _ _ _ _ c.if-i-self.false (c.in_ok-find_place.ensures.place disk shows) ∙ ap (pointed disk) c.in-Hole.is

pub returns-in_ok-make_resident-in-Block-clause-found : goal.returns-in_ok-make_resident-in-Block-clause-found
returns-in_ok-make_resident-in-Block-clause-found g c = λ disk shows.
    c.in_default.ensures.none disk ∙ settled_within _ disk _ _ _ _ _ c.if-i-self.false (c.in_ok-find_place.ensures.place disk shows) ∙ ap (pointed disk) c.in-Block.is

pub returns-in-Hole-clause-sound : goal.returns-in-Hole-clause-sound
returns-in-Hole-clause-sound g c = λ disk shows not lt. (
  c.in_ok-find_place.ensures.sound disk shows,
  ap (λ p. length (pointed disk p)) (sym (c.in_ok-find_place.ensures.place disk shows) ∙ c.in-Hole.is) ∙ length-zeros 4096,
)
