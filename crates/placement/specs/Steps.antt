-- What the steps that place a file promise.
use Rattle.std.specs.Prelude.{ℕ, zero, suc, ◌≡◌, ◌<◌, ◌≤◌, All, true, Result, OnOk, IsErrOf}
use Rattle.layout.specs.declared.trees.Layout.{Layout}
use Rattle.images.specs.Sums.{sum_below}
use Rattle.blocktree.specs.Names.{nodes_at}
use Rattle.blocktree.specs.declared.place_map.PlaceMap.{PlaceMap}
use Rattle.buffers.specs.Reads.{ReadsBlocks}
use Rattle.buffers.specs.declared.blocks.Blocks.{Ghosts}
use Rattle.conspoint.specs.Drafts.{Grows, IsReserved, WasTaken}
use Rattle.conspoint.specs.Errors.{IsReadFault}
use Rattle.conspoint.specs.Space.{Lacks, TakesAtMost}
use Rattle.conspoint.specs.Steps.{Places}
use Rattle.conspoint.specs.declared.draft.Draft.{Draft}
use Rattle.conspoint.specs.declared.error.PlanError.{PlanError}
use Rattle.conspoint.specs.declared.error.PlanError.TheVariants.{NoSpace}
use Rattle.placement.specs.Files.{is_one}
use Rattle.placement.specs.Nodes.{StaysUnder}
use Rattle.placement.specs.declared.file.PlacedFile.{PlacedFile}
use Rattle.placement.specs.declared.nodes.Nodes.{Nodes}

-- a step that places blocks, so many at the most, and reads settled ones: it may fail as a read
-- does, and for want of space only where fewer are left
pub record ReadsAndPlaces {B T : Type 0} (G : Ghosts B) (n : ℕ) (blocks after : B) (old new : Draft) (result : Result T PlanError) : Type 0 where
  pub reads : ReadsBlocks G IsReadFault blocks after result
  pub grows : Grows old new
  pub parts : new.map.parts.items ≡ old.map.parts.items
  pub others : (p : ℕ) → IsReserved old p → IsReserved new p
  pub takes : OnOk result (TakesAtMost n old new)
  pub lacks : IsErrOf result NoSpace → Lacks n old

-- these numbers count, at each height of a level but the lowest, each node over so many blocks that
-- is stored
abbrev pub CountsHeights : (ℕ → ℕ → ℕ) → ℕ → ℕ → Nodes → PlaceMap → Type 0
CountsHeights w blocks level settled lowest =
    (h j : ℕ) → 1 ≤ h → h < level → j < nodes_at settled.layout blocks h → w h j ≡ 0 → StaysUnder settled lowest h j

-- how many that are at a height
unfoldable pub raise_stores : Layout → ℕ → (ℕ → ℕ → ℕ) → ℕ → ℕ
raise_stores layout blocks w zero = 0
raise_stores layout blocks w (suc h) = sum_below (w (suc h)) (nodes_at layout blocks (suc h))

-- a step that places the nodes over so many blocks of a file at a level, which lie there
abbrev pub PlacesHeights : {T : Type 0} → ℕ → ℕ → Nodes → PlaceMap → Draft → Draft → Result T PlanError → Type 0
PlacesHeights blocks level settled lowest old new result =
    (w : ℕ → ℕ → ℕ) → CountsHeights w blocks level settled lowest
    → Places (sum_below (raise_stores settled.layout blocks w) level) old new result

-- the blocks that were given out between two drafts for a file that is placed lie on the disk, as
-- those do that it leaves
pub record HasBlocks (old new : Draft) (p : PlacedFile) : Type 0 where
  pub taken : All (λ b. b < old.map.count) p.taken.items
  pub freed : All (λ b. b < old.map.count) p.freed.items
  pub given : (b : ℕ) → is_one p.taken.items b ≡ true → WasTaken old new b
