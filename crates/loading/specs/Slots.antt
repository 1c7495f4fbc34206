-- The two slots of a disk, and the newest root that stands in one.
use Rattle.std.specs.Prelude.{ℕ, ◌≡◌, ◌⊎◌, ◌↔◌, ◌*◌, ◌<◌, List, Option, Some}
use Rattle.station.specs.Moments.{Meaning}
use Rattle.layout.specs.Opens.{HoldsRoot, IsNewest}
use Rattle.layout.specs.declared.TheConstants.{SLOT_A, SLOT_B}
use Rattle.layout.specs.declared.root.Root.{Root}

-- the sector of one of the two slots
abbrev pub IsSlot : ℕ → Type 0
IsSlot n = (n ≡ SLOT_A) ⊎ (n ≡ SLOT_B)

-- what was read of a slot: the root that it holds, if it holds one
abbrev pub TellsRoot : List ℕ → Option Root → Type 0
TellsRoot bytes slot = (r : Root) → HoldsRoot bytes r ↔ (slot ≡ Some r)

-- no slot of a disk of so many sectors, as far as it has them, holds a root
abbrev pub HasNoRoot : ℕ → (ℕ → List ℕ) → Type 0
HasNoRoot sectors disk = (n : ℕ) (r : Root) → IsSlot n → n < sectors → HoldsRoot (disk n) r → ⊥

-- the newest root of a disk, and the slot that it stands in
pub record IsNewestAt (slot : ℕ) (root : Root) (disk : ℕ → List ℕ) : Type 0 where
  pub is_slot : IsSlot slot
  pub there : HoldsRoot (disk slot) root
  pub newest : IsNewest root (disk SLOT_A) (disk SLOT_B)

-- a station has the sizes of a root's image
pub record FitsStation (r : Root) (m : Meaning) : Type 0 where
  pub sectors : m.sectors ≡ 8 * r.geometry.blocks
  pub nvram : m.nvram_bytes ≡ 2 * r.geometry.half
