-- What the map's functions change of it.
use Rattle.std.specs.Prelude.{ℕ, ◌≡◌, Bool, Result, OnOk, OnErr, length}
use Rattle.blockmap.specs.Bits.{SetsBit, SetsPlane}
use Rattle.blockmap.specs.Maps.{IsTouched, KeepsSettled, OnlyChanges, entry_at, settled_at}
use Rattle.blockmap.specs.declared.map.BlockMap.{BlockMap}
use Rattle.blockmap.specs.declared.map.TheConstants.{FIRST_BLOCK}

-- There may be room for more changes, and no entry changes.
pub record HasMadeRoom (old new : BlockMap) : Type 0 where
  pub count : new.count ≡ old.count
  pub next : new.next ≡ old.next
  pub settled : KeepsSettled old.parts.items new.parts.items
  pub entries : (b : ℕ) → entry_at new.parts.items b ≡ entry_at old.parts.items b

-- A block is put into a set or taken out of it. Nothing else changes, and no more of the map is
-- stored for it.
pub record PutsBlock (set block : ℕ) (is_in : Bool) (old new : BlockMap) : Type 0 where
  pub count : new.count ≡ old.count
  pub next : new.next ≡ old.next
  pub settled : KeepsSettled old.parts.items new.parts.items
  pub bit : SetsBit set is_in (entry_at old.parts.items block) (entry_at new.parts.items block)
  pub others : OnlyChanges block old.parts.items new.parts.items
  pub same : (j : ℕ) → IsTouched new.parts.items j → IsTouched old.parts.items j

-- A set is made these bits, or no entry changes.
pub record PutsPlane {E : Type 0} (set : ℕ) (plane : ℕ → ℕ) (old new : BlockMap) (result : Result (Unit {0}) E) : Type 0 where
  pub count : new.count ≡ old.count
  pub next : new.next ≡ old.next
  pub settled : KeepsSettled old.parts.items new.parts.items
  pub plane_is : OnOk result ((count : ℕ) → SetsPlane count set plane (entry_at old.parts.items) (entry_at new.parts.items))
  pub refused : OnErr result ((b : ℕ) → entry_at new.parts.items b ≡ entry_at old.parts.items b)

-- These are the settled entries now, nothing is changed, and nothing given out.
pub record SwitchesTo (entry : ℕ → ℕ) (old new : BlockMap) : Type 0 where
  pub count : new.count ≡ old.count
  pub next : new.next ≡ FIRST_BLOCK
  pub parts : length new.parts.items ≡ length old.parts.items
  pub settled : (b : ℕ) → settled_at new.parts.items b ≡ entry b
  pub entries : (b : ℕ) → entry_at new.parts.items b ≡ entry b
  pub untouched : (j : ℕ) → IsTouched new.parts.items j → ⊥
