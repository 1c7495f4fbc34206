use Rattle.std.proofs.Common.{ap, ◌∙◌, ◌/◌, arith}
use Rattle.std.proofs.lemmas.Nat.Bits.{bit_at-zero}
use Rattle.std.specs.Int.{bit_at}
use Rattle.blockmap.specs.Maps.{settled_at}
use Rattle.conspoint.proofs.DraftLemmas.{plane_touched}
use Rattle.conspoint.proofs.draft.Draft.take_plane.Goals as goal

pub invariant_of-self-clause-changed : goal.invariant_of-self-clause-changed
invariant_of-self-clause-changed c =
    plane_touched c.args.self.now.map c.take_plane.new.self c.args.set (λ b. bit_at (settled_at c.args.self.now.map.parts.items b) 0) c.take_plane.result (λ b none. ap (λ x. bit_at x 0) none ∙ bit_at-zero 0) (λ all sets b lt differs. all (b / 1024) (omega (arith, lt, c.args.self.now.map.covers))) c.take_plane.ensures.put.count c.take_plane.ensures.put.settled
    c.take_plane.ensures.put.plane_is c.take_plane.ensures.touched c.take_plane.ensures.put.refused c.args.self.now.changed
