-- What is laid out of an object, over the places of its blocks: for `lay_blocks` and `lay_but_first`.
use Rattle.std.proofs.Common.{◌≡◌, ℕ, ◌≤◌, ◌<◌, Result, sym, ◌∙◌, arith}
use Rattle.std.specs.Prelude.{min}
use Rattle.std.proofs.lemmas.Bool.{cond_below}
use Rattle.layout.specs.declared.pointer.Pointer.TheVariants.{Hole}
use Rattle.blocktree.specs.Places.{block_count}
use Rattle.blocktree.specs.declared.place_map.PlaceMap.{PlaceMap}
use Rattle.conspoint.specs.Drafts.{Grows}
use Rattle.conspoint.specs.declared.draft.Draft.{Draft}
use Rattle.conspoint.specs.declared.error.PlanError.{PlanError}
use Rattle.inode.specs.declared.object.Object.{Object}
use Rattle.placement.specs.declared.file.Laid.{Laid}
use Rattle.placement.specs.declared.nodes.Nodes.{Nodes}
use Rattle.placement.specs.Files.{file_level}
use Rattle.placement.specs.Layouts.{AreLowest, AreRaised, IsLaidOver}
use Rattle.placement.specs.Nodes.{node}
use Rattle.placement.specs.Steps.{PlacesHeights}
use Rattle.placement.proofs.HeldLaws.{nodes_fall}
use Rattle.placement.proofs.PlacedLaws.{one_placed, placed_both, placed_over}
use Rattle.placement.proofs.RaiseLaws.{placed_heights}

module _ {first : ℕ} {o : Object} {settled : Nodes} {a b c : Draft} {places : PlaceMap} {l : Laid}
    (lowest : AreLowest first (block_count o.file.size) o.file.tree settled a b places)
    (raised : AreRaised (block_count o.file.size) (file_level o.file) settled places b c l.nodes) where
  pub laid_over : {U : Type 0} {r : Result U PlanError} → Grows a b → PlacesHeights (block_count o.file.size) (file_level o.file) settled places b c r → first ≤ 1
      → l.kept ≡ min o.file.tree.kept (block_count o.file.size) → IsLaidOver o settled a c l
  laid_over before step low kept =
      let level = file_level o.file in
      let over = placed_heights (block_count o.file.size) level settled places step in
      record {
        placed = placed_over a c settled l.nodes level (omega (arith, raised.heights))
            (placed_both a b c settled l.nodes 0 1 level before over.grows (one_placed a b settled l.nodes 0 places lowest.placed raised.lowest_are) raised.placed);
        short = λ m i past. raised.end m i (omega (arith, past, nodes_fall settled.layout (block_count o.file.size) m));
        kept = λ i some lt not.
            let within : i < block_count o.file.size = omega (arith, lt, kept) in
            let here : i < o.file.tree.kept = omega (arith, lt, kept) in
            raised.lowest_are i ∙ lowest.unchanged i within (omega (arith, low, some)) not ∙ sym (cond_below i o.file.tree.kept (node settled 0 i) Hole here);
      }
