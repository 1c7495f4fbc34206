-- The block map: what each block's entry says, and that it says just what the root names.
use Rattle.std.specs.Prelude.{ℕ, ◌≡◌, ◌≢◌, ◌↔◌, ◌/◌, ◌%◌, ◌<◌, ◌≤◌}
use Rattle.std.specs.Int.{bit_at}
use Rattle.layout.specs.Maps.{map_entry}
use Rattle.layout.specs.declared.pointer.Pointer.TheVariants.{Block}
use Rattle.layout.specs.declared.root.Root.{Root}
use Rattle.images.specs.Nodes.{Names, IsOnce, file_block}
use Rattle.images.specs.Roots.{HeldTree, Reach, Whole, slot}

abbrev pub HasBit : ℕ → ℕ → Type 0
HasBit k x = bit_at x k ≡ 1

-- a block's entry, 1,024 of which are a block of file 2
unfoldable pub entry : HeldTree → ℕ → ℕ
entry t b = map_entry (file_block (t 2) (b / 1024)) (b % 1024)

-- the blocks of the system's own: the two that hold the roots, and the snapshots' root blocks
pub data IsSystem (r : Root) (b : ℕ) : Type 0 where
  roots : (low : b < 2) → IsSystem r b
  head : (k : ℕ) → (is : slot r k ≡ Block b) → IsSystem r b

-- Bit 0 of an entry says that the active tree names the block, bit k of 1 to 30 that the tree of
-- the snapshot in slot k does, bit 31 that it is the system's own. No other bit is set.
pub record IsExact (r : Root) (w : Whole) : Type 0 where
  pub active : (b : ℕ) → HasBit 0 (entry w.active b) ↔ Reach w.active b
  pub frozen : (b k : ℕ) → 1 ≤ k → k ≢ 31 → HasBit k (entry w.active b) ↔ Reach (w.frozen k) b
  pub system : (b : ℕ) → HasBit 31 (entry w.active b) ↔ IsSystem r b

-- each block belongs to one file
abbrev pub HasFilesApart : HeldTree → Type 0
HasFilesApart t = (n m b : ℕ) → Names (t n) b → Names (t m) b → n ≡ m

-- and to one node of it: no block is named twice
pub record NamesOnce (t : HeldTree) : Type 0 where
  pub apart : HasFilesApart t
  pub each : (n : ℕ) → IsOnce (t n)
