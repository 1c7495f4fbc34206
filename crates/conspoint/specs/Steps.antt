-- What each step of a plan promises of the draft: it only grows, and what was reserved stays so. So
-- many blocks are taken at the most; for want of space a step fails only where fewer are left, and
-- else only for want of memory.
use Rattle.std.specs.Prelude.{ℕ, ◌≡◌, Result, OnOk, IfErr, IsErrOf}
use Rattle.layout.specs.declared.pointer.Pointer.{Pointer}
use Rattle.images.specs.Sums.{sum_below}
use Rattle.conspoint.specs.declared.draft.Draft.{Draft}
use Rattle.conspoint.specs.declared.error.PlanError.{PlanError}
use Rattle.conspoint.specs.declared.error.PlanError.TheVariants.{NoSpace}
use Rattle.conspoint.specs.Drafts.{Grows, IsReserved, IsShortage}
use Rattle.conspoint.specs.Space.{CountsGroups, Lacks, TakesAtMost}

-- a step that may change entries of the map
pub record Takes {T : Type 0} (n : ℕ) (old new : Draft) (result : Result T PlanError) : Type 0 where
  pub grows : Grows old new
  pub others : (p : ℕ) → IsReserved old p → IsReserved new p
  pub takes : OnOk result (TakesAtMost n old new)
  pub lacks : IsErrOf result NoSpace → Lacks n old
  pub shortage : IfErr result IsShortage

-- a step that changes none
pub record Places {T : Type 0} (n : ℕ) (old new : Draft) (result : Result T PlanError) : Type 0 where
  pub grows : Grows old new
  pub parts : new.map.parts.items ≡ old.map.parts.items
  pub others : (p : ℕ) → IsReserved old p → IsReserved new p
  pub takes : OnOk result (TakesAtMost n old new)
  pub lacks : IsErrOf result NoSpace → Lacks n old
  pub shortage : IfErr result IsShortage

-- a step that places indirect blocks over so many groups of nodes: as many are taken as count each
-- group over which one is stored
pub record PlacesOver {T : Type 0} (count : ℕ) (settled nodes : ℕ → ℕ → Pointer) (old new : Draft) (result : Result T PlanError) : Type 0 where
  pub grows : Grows old new
  pub parts : new.map.parts.items ≡ old.map.parts.items
  pub others : (p : ℕ) → IsReserved old p → IsReserved new p
  pub takes : OnOk result ((w : ℕ → ℕ) → CountsGroups w count settled nodes → TakesAtMost (sum_below w count) old new)
  pub lacks : IsErrOf result NoSpace → (w : ℕ → ℕ) → CountsGroups w count settled nodes → Lacks (sum_below w count) old
  pub shortage : IfErr result IsShortage

-- a step that only changes entries of the map, and can't fail
pub record Keeps (old new : Draft) : Type 0 where
  pub grows : Grows old new
  pub next : new.map.next ≡ old.map.next
  pub blocks : new.blocks.items ≡ old.blocks.items
  pub others : (p : ℕ) → IsReserved old p → IsReserved new p

-- the same of one that fails where there is no memory
pub record Marks {T : Type 0} (old new : Draft) (result : Result T PlanError) : Type 0 where
  pub grows : Grows old new
  pub next : new.map.next ≡ old.map.next
  pub blocks : new.blocks.items ≡ old.blocks.items
  pub others : (p : ℕ) → IsReserved old p → IsReserved new p
  pub why : IsErrOf result NoSpace → ⊥
  pub shortage : IfErr result IsShortage

-- a step that plans bytes at places that are reserved
pub record Puts {T : Type 0} (old new : Draft) (result : Result T PlanError) : Type 0 where
  pub grows : Grows old new
  pub map : new.map ≡ old.map
  pub why : IsErrOf result NoSpace → ⊥
  pub shortage : IfErr result IsShortage
