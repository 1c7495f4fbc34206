use Rattle.std.proofs.Common.{arith, ℕ, refl, sym, subst, ◌≡◌}
use Rattle.images.specs.Contents.{content_of}
use Rattle.images.specs.Nodes.{held}
use Rattle.images.specs.Soundness.{HasNoHole}
use Rattle.placement.specs.Files.{IsBasedOn, IsPlaced, content_with, is_one, object_block}
use Rattle.placement.specs.Layouts.{AreSettledNodes, inode_with}
use Rattle.placement.specs.Nodes.{AreSettledIn, AreWithin}
use Rattle.placement.proofs.HoleLaws.{no_hole_left, none_left}
use Rattle.placement.proofs.FileLaws.{content_is, file_placed, object_ends, object_whole, of_one}
use Rattle.placement.proofs.MovedLaws.{moved_taken}
use Rattle.placement.proofs.StepLaws.{both_err, both_ok, both_out, read_before, read_ended}
use Rattle.placement.proofs.file.place_file.Goals as goal

pub returns-in_err-settled-clause-step : goal.returns-in_err-settled-clause-step
returns-in_err-settled-clause-step g c =
    both_err c.from_residual.result c.from_residual.ensures.1 (read_ended c.in_err-settled.ensures.reads c.in_err-settled.ensures.why)

pub returns-in_err-laid-clause-step : goal.returns-in_err-laid-clause-step
returns-in_err-laid-clause-step g c =
    both_err c.from_residual-in_err-laid.result c.from_residual-in_err-laid.ensures.1 (read_before c.in_ok-settled.ensures.reads c.in_err-laid.ensures.step)

pub returns-in_err-placed-clause-step : goal.returns-in_err-placed-clause-step
returns-in_err-placed-clause-step g c =
    both_out c.from_residual-in_err-placed.result c.from_residual-in_err-placed.ensures.1 (read_before c.in_ok-settled.ensures.reads c.in_ok-laid.ensures.step)

pub returns-clause-step : goal.returns-clause-step
returns-clause-step g c = both_ok (read_before c.in_ok-settled.ensures.reads c.in_ok-laid.ensures.step)

pub returns-clause-blocks : goal.returns-clause-blocks
returns-clause-blocks g c =
    let laid = c.in_ok-laid.ensures.laid.placed in
    record {
      taken = c.in_ok-placed.ensures.taken_within c.args.draft.now.map.count laid.within;
      freed = c.in_ok-placed.ensures.freed_within c.args.draft.now.map.count (subst (λ (n : ℕ). AreWithin n c.in_ok-settled.settled) c.requires c.in_ok-settled.ensures.nodes.within);
      given = λ b is. moved_taken c.args.draft.now c.lay.new.draft c.in_ok-settled.settled c.in_ok-laid.laid.nodes b laid ((c.in_ok-placed.ensures.taken b).0 (of_one c.in_ok-placed.placed.taken.items b is));
    }

pub lay-requires-clause-settled : goal.lay-requires-clause-settled
lay-requires-clause-settled g c = subst (λ (n : ℕ). AreSettledIn n c.in_ok-settled.settled) c.requires c.in_ok-settled.ensures.nodes

pub returns-clause-placed : goal.returns-clause-placed
returns-clause-placed g c = λ s disk base shows change.
    let o = c.args.object.now in
    let settled = c.in_ok-settled.settled in
    let laid = c.in_ok-laid.laid in
    let placed = c.in_ok-placed.placed in
    let is = sym c.in_ok-placed.ensures.inode in
    let known = subst (λ t. AreSettledNodes disk base t settled) c.tree.ensures (c.in_ok-settled.ensures.settled s disk base shows (subst (IsBasedOn base) (sym c.tree.ensures) change.based) change.sound) in
    let stands = c.in_ok-laid.ensures.stands s disk base (c.in_ok-settled.ensures.reads.same disk shows) change known in
    let ends = object_ends disk o change.ends in
    record {
      placed = λ e has same. subst (λ f. IsPlaced s e (held disk base) f (is_one placed.taken.items) (is_one placed.freed.items)) is
          (file_placed s c.args.draft.now c.lay.new.draft disk e base o laid.body (object_block disk o) settled laid.nodes change known (stands e has same) ends c.in_ok-laid.ensures.laid.placed
          placed.taken.items placed.freed.items c.in_ok-placed.ensures.taken c.in_ok-placed.ensures.freed
          (λ level i. object_whole disk base o change.based change.sound.bytes.readable 0 (c.in_ok-laid.ensures.whole level) i (omega arith)));
      content = λ e has same. subst (λ f. content_of (held e f) ≡ content_with o (object_block disk o)) is
          (content_is s c.args.draft.now c.lay.new.draft disk e base o laid.body (object_block disk o) settled laid.nodes change known (stands e has same) ends c.in_ok-laid.ensures.laid.placed
          placed.taken.items placed.freed.items c.in_ok-placed.ensures.taken c.in_ok-placed.ensures.freed);
      no_hole = λ whole e has same. subst (λ f. HasNoHole (held e f)) is
          (no_hole_left disk e base (inode_with o laid.body) o settled laid.nodes whole known.tree refl refl known.nodes (stands e has same).nodes c.in_ok-laid.ensures.stored);
      whole = λ all e has same. subst (λ f. HasNoHole (held e f)) is
          (none_left e (inode_with o laid.body) o settled laid.nodes all refl refl (stands e has same).nodes c.in_ok-laid.ensures.stored);
    }
