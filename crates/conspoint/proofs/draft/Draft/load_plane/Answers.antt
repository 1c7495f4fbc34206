use Rattle.std.proofs.Common.{ap, ◌∙◌, ◌/◌, arith}
use Rattle.std.proofs.lemmas.Nat.Bits.{bit_at-zero}
use Rattle.std.specs.Int.{bit_at}
use Rattle.blockmap.specs.Maps.{settled_at}
use Rattle.conspoint.proofs.DraftLemmas.{plane_touched}
use Rattle.conspoint.proofs.draft.Draft.load_plane.Goals as goal

pub invariant_of-self-clause-changed : goal.invariant_of-self-clause-changed
invariant_of-self-clause-changed c =
    plane_touched c.args.self.now.map c.load_plane.new.self 0 (λ b. bit_at (settled_at c.args.self.now.map.parts.items b) c.args.set) c.load_plane.result (λ b none. ap (λ x. bit_at x c.args.set) none ∙ bit_at-zero c.args.set) (λ all sets b lt differs. all (b / 1024) (omega (arith, lt, c.args.self.now.map.covers))) c.load_plane.ensures.put.count c.load_plane.ensures.put.settled
    c.load_plane.ensures.put.plane_is c.load_plane.ensures.touched c.load_plane.ensures.put.refused c.args.self.now.changed
