-- What a planned consistency point is.
use Rattle.std.specs.Prelude.{ℕ, ◌≡◌, ◌≢◌, ◌⊎◌, ◌+◌, ◌*◌, ◌/◌, ◌<◌, ◌≤◌, List, length, get_or, All}
use Rattle.layout.specs.declared.TheConstants.{SLOT_A, SLOT_B, BLOCK_BYTES, ROOT_BYTES}
use Rattle.blockmap.specs.Maps.{IsTouched, entry_at, settled_at}
use Rattle.blockmap.specs.Parts.{Part}
use Rattle.conspoint.specs.declared.plan.PlannedBlock.{PlannedBlock}

-- the blocks in the order of their writing, how many of them are written, the sector of the new
-- root, and its bytes
pub record Planned : Type 0 where
  pub blocks : List PlannedBlock
  pub written : ℕ
  pub slot : ℕ
  pub root : List ℕ

-- no two have one place
abbrev pub AreApart : List PlannedBlock → Type 0
AreApart blocks = (i j : ℕ) (d : PlannedBlock)
    → i < j → j < length blocks → (get_or blocks i d).place ≢ (get_or blocks j d).place

-- whole blocks, each behind the two that the slots of the roots lie in, and each at a place of its
-- own
pub record ArePlacedBehindSlots (blocks : List PlannedBlock) : Type 0 where
  pub behind : All (λ b. 2 ≤ b.place) blocks
  pub sizes : All (λ b. length b.bytes ≡ BLOCK_BYTES) blocks
  pub apart : AreApart blocks

-- the sector of one of the two slots
abbrev pub IsSlot : ℕ → Type 0
IsSlot n = (n ≡ SLOT_A) ⊎ (n ≡ SLOT_B)

pub record IsPlanned (p : Planned) : Type 0 where
  pub blocks : ArePlacedBehindSlots p.blocks
  pub written : p.written ≤ length p.blocks
  pub slot : IsSlot p.slot
  pub root : length p.root ≡ ROOT_BYTES

-- the places lie on a disk of so many sectors, and so do the slots
pub record FitsDisk (sectors : ℕ) (p : Planned) : Type 0 where
  pub slots : 16 ≤ sectors
  pub blocks : All (λ b. 8 * b.place + 8 ≤ sectors) p.blocks

-- what holds of the blocks planned so far, where free blocks below this one may be given out
pub record AreDrafted (count next : ℕ) (IsFree : ℕ → Type 0) (blocks : List PlannedBlock) : Type 0 where
  pub planned : ArePlacedBehindSlots blocks
  pub below : All (λ b. b.place < next) blocks
  pub within : All (λ b. b.place < count) blocks
  pub free : All (λ b. IsFree b.place) blocks

-- A changed entry of a block of the disk lies in a part of the map that is stored anew. Behind the
-- disk's end a 0 stays.
pub record ChangesTouched (count : ℕ) (parts : List Part) : Type 0 where
  pub within : (b : ℕ) → b < count → entry_at parts b ≢ settled_at parts b → IsTouched parts (b / 1024)
  pub past : (b : ℕ) → count ≤ b → settled_at parts b ≡ 0 → entry_at parts b ≡ 0
