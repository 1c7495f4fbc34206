use Rattle.std.proofs.Common.{ℕ, sym, subst, ◌≡◌, ◌∙◌}
use Rattle.layout.specs.Places.{Blocks}
use Rattle.layout.specs.declared.pointer.Pointer.TheVariants.{Block}
use Rattle.images.specs.Contents.{content_of}
use Rattle.images.specs.Nodes.{held}
use Rattle.placement.specs.Files.{IsBasedOn, IsPlaced, content_with, is_one, object_block, with_first}
use Rattle.placement.specs.Layouts.{AreSettledNodes}
use Rattle.placement.specs.Nodes.{AreSettledIn, AreWithin}
use Rattle.placement.proofs.FileLaws.{content_is, file_placed, first_ends, first_whole, object_ends, object_whole, of_one}
use Rattle.placement.proofs.MovedLaws.{moved_taken}
use Rattle.placement.proofs.StepLaws.{both_err, both_ok, both_out, place_ended, read_ended}
use Rattle.placement.proofs.but_first.place_file_but_first.Goals as goal

pub returns-in_err-settled-clause-step : goal.returns-in_err-settled-clause-step
returns-in_err-settled-clause-step g c =
    both_err c.from_residual.result c.from_residual.ensures.1 (read_ended c.in_err-settled.ensures.reads c.in_err-settled.ensures.why)

pub returns-in_err-all-clause-step : goal.returns-in_err-all-clause-step
returns-in_err-all-clause-step g c =
    both_err c.from_residual-in_err-all.result c.from_residual-in_err-all.ensures.1 (place_ended c.in_ok-settled.ensures.reads c.in_err-all.ensures.step)

pub returns-in_err-placed-clause-step : goal.returns-in_err-placed-clause-step
returns-in_err-placed-clause-step g c =
    both_out c.from_residual-in_err-placed.result c.from_residual-in_err-placed.ensures.1 (place_ended c.in_ok-settled.ensures.reads c.in_ok-all.ensures.step)

pub returns-clause-step : goal.returns-clause-step
returns-clause-step g c = both_ok (place_ended c.in_ok-settled.ensures.reads c.in_ok-all.ensures.step)

pub returns-clause-blocks : goal.returns-clause-blocks
returns-clause-blocks g c =
    let laid = c.in_ok-all.ensures.laid.placed in
    record {
      taken = c.in_ok-placed.ensures.taken_within c.args.draft.now.map.count laid.within;
      freed = c.in_ok-placed.ensures.freed_within c.args.draft.now.map.count (subst (λ (n : ℕ). AreWithin n c.in_ok-settled.settled) c.requires.disk c.in_ok-settled.ensures.nodes.within);
      given = λ b is. moved_taken c.args.draft.now c.lay_but_first.new.draft c.in_ok-settled.settled c.in_ok-all.all.0.nodes b laid ((c.in_ok-placed.ensures.taken b).0 (of_one c.in_ok-placed.placed.taken.items b is));
    }

pub lay_but_first-requires-clause-settled : goal.lay_but_first-requires-clause-settled
lay_but_first-requires-clause-settled g c = subst (λ (n : ℕ). AreSettledIn n c.in_ok-settled.settled) c.requires.disk c.in_ok-settled.ensures.nodes

pub returns-clause-placed : goal.returns-clause-placed
returns-clause-placed g c = λ s disk base shows change.
    let o = c.args.object.now in
    let settled = c.in_ok-settled.settled in
    let laid = c.in_ok-all.all.0 in
    let first = c.in_ok-all.all.1 in
    let placed = c.in_ok-placed.placed in
    let is = sym c.in_ok-placed.ensures.inode in
    let known = subst (λ t. AreSettledNodes disk base t settled) c.tree.ensures (c.in_ok-settled.ensures.settled s disk base shows (subst (IsBasedOn base) (sym c.tree.ensures) change.based) change.sound) in
    let stands = c.in_ok-all.ensures.stands s disk base change known in
    let block = λ (e : Blocks). with_first (e first) (object_block disk o) in
    let ends = λ (e : Blocks). first_ends (e first) (object_block disk o) o.file.size c.requires.some (object_ends disk o change.ends) in
    record {
      placed = λ e has same whole. subst (λ f. IsPlaced s e (held disk base) f (is_one placed.taken.items) (is_one placed.freed.items)) is
          (file_placed s c.args.draft.now c.lay_but_first.new.draft disk e base o laid.body (block e) settled laid.nodes change known (stands e has same) (ends e) c.in_ok-all.ensures.laid.placed
          placed.taken.items placed.freed.items c.in_ok-placed.ensures.taken c.in_ok-placed.ensures.freed
          (λ level. first_whole (e first) (object_block disk o) whole (object_whole disk base o change.based change.sound.bytes.readable 1 c.in_ok-all.ensures.whole)));
      there = λ e has same. subst (λ f. (held e f).place 0 0 ≡ Block first) is ((stands e has same).nodes.places 0 0 ∙ c.in_ok-all.ensures.first);
      content = λ e has same. subst (λ f. content_of (held e f) ≡ content_with o (block e)) is
          (content_is s c.args.draft.now c.lay_but_first.new.draft disk e base o laid.body (block e) settled laid.nodes change known (stands e has same) (ends e) c.in_ok-all.ensures.laid.placed
          placed.taken.items placed.freed.items c.in_ok-placed.ensures.taken c.in_ok-placed.ensures.freed);
    }
