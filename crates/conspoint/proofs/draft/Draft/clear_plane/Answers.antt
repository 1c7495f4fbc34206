use Rattle.std.proofs.Common.{refl}
use Rattle.conspoint.proofs.DraftLemmas.{cleared_touched, plane_touched}
use Rattle.conspoint.proofs.draft.Draft.clear_plane.Goals as goal

pub invariant_of-self-clause-changed : goal.invariant_of-self-clause-changed
invariant_of-self-clause-changed c =
    plane_touched c.args.self.now.map c.clear_plane.new.self c.args.set (λ b. 0) c.clear_plane.result (λ b none. refl) (cleared_touched c.args.self.now.map c.clear_plane.new.self c.args.set) c.clear_plane.ensures.put.count c.clear_plane.ensures.put.settled
    c.clear_plane.ensures.put.plane_is c.clear_plane.ensures.touched c.clear_plane.ensures.put.refused c.args.self.now.changed
