-- What is planned so far of a consistency point: file by file, until all that changed is planned.
use Rattle.std.specs.Prelude.{ℕ, ◌≡◌, ◌≢◌, ◌⊎◌, ◌↔◌, ◌<◌, ◌≤◌, Bool, true, false, ◌==◌, if◌then◌else◌}
use Rattle.std.specs.Int.{bit_at}
use Rattle.layout.specs.Limits.{Sizes}
use Rattle.layout.specs.Places.{Blocks}
use Rattle.layout.specs.declared.inode.Inode.{Inode}
use Rattle.layout.specs.declared.pointer.Pointer.TheVariants.{Block}
use Rattle.images.specs.Nodes.{held, IsOnce}
use Rattle.images.specs.Roots.{HeldTree, Reach}
use Rattle.images.specs.BlockMap.{HasBit}
use Rattle.images.specs.Points.{MarksPlane}
use Rattle.images.specs.Soundness.{IsSoundFile, FitsNumber}

-- what a point starts from: the settled entries of the map, and which of their sets has the blocks
-- of the tree
pub record Before : Type 0 where
  pub entry : ℕ → ℕ
  pub plane : ℕ

-- the new inode of each number, which of them are changed, and the blocks that were taken for each,
-- none of them before this one
pub record PlannedInodes : Type 0 where
  pub inode : ℕ → Inode
  pub changed : ℕ → Bool
  pub taken : ℕ → ℕ → Bool
  pub from : ℕ

-- nothing is planned over a tree
abbrev pub unplanned : ℕ → HeldTree → PlannedInodes
unplanned from t = record { inode = λ n. (t n).inode; changed = λ n. false; taken = λ n b. false; from = from }

-- one number more, with its new inode and the blocks that were taken for it
abbrev pub with_planned_file : ℕ → Inode → (ℕ → Bool) → PlannedInodes → PlannedInodes
with_planned_file n f taken p =
    record {
      inode = λ k. if k == n then f else p.inode k;
      changed = λ k. if k == n then true else p.changed k;
      taken = λ k. if k == n then taken else p.taken k;
      from = p.from;
    }

-- of no block the sets but the active tree's change
abbrev pub KeepsSets : (ℕ → ℕ) → (ℕ → ℕ) → Type 0
KeepsSets before after = (b i : ℕ) → i ≢ 0 → bit_at (after b) i ≡ bit_at (before b) i

-- set 0 of these blocks is as it was
abbrev pub KeepsActive : (ℕ → ℕ) → (ℕ → ℕ) → Type 0
KeepsActive before after = (b : ℕ) → bit_at (after b) 0 ≡ bit_at (before b) 0

-- set 0 of these blocks is what the point starts from
abbrev pub HasActive : Before → (ℕ → ℕ) → Type 0
HasActive before after = (b : ℕ) → bit_at (after b) 0 ≡ bit_at (before.entry b) before.plane

-- the map's marks of a number: the freed blocks go out of set 0, the taken ones into it
pub record IsMarked (taken freed : ℕ → Bool) (before after : ℕ → ℕ) : Type 0 where
  pub active : (b : ℕ) → HasBit 0 (after b) ↔ ((HasBit 0 (before b) × (freed b ≡ false)) ⊎ (taken b ≡ true))
  pub others : KeepsSets before after

-- What holds of what is planned so far, on a disk e that has the blocks planned for it: of each
-- changed number, of each other one, of the blocks that were taken, all before this one, and of set
-- 0 of the map, as it is now, over the settled set of the tree.
pub record IsProgress (s : Sizes) (t : HeldTree) (e : Blocks) (next : ℕ) (before : Before) (after : ℕ → ℕ) (p : PlannedInodes) : Type 0 where
  pub moves : (n m i b : ℕ) → p.changed n ≡ true → (held e (p.inode n)).place m i ≡ Block b → ((t n).place m i ≡ Block b) ⊎ (p.taken n b ≡ true)
  pub each : (n : ℕ) → p.changed n ≡ true → IsOnce (held e (p.inode n))
  pub sound : (n : ℕ) → p.changed n ≡ true → IsSoundFile s (held e (p.inode n))
  pub kinds : (n : ℕ) → p.changed n ≡ true → FitsNumber n (p.inode n).kind
  pub stays : (n : ℕ) → p.changed n ≡ false → p.inode n ≡ (t n).inode
  pub free : (n b : ℕ) → p.taken n b ≡ true → before.entry b ≡ 0
  pub starts : p.from ≤ next
  pub behind : (n b : ℕ) → p.taken n b ≡ true → p.from ≤ b
  pub below : (n b : ℕ) → p.taken n b ≡ true → b < next
  pub once : (n m b : ℕ) → p.taken n b ≡ true → p.taken m b ≡ true → n ≡ m
  pub marks : MarksPlane p.changed t before.plane (λ n. held e (p.inode n)) before.entry after

-- the blocks that are taken for a number were free, and were given out after those before
pub record AreTaken (low high : ℕ) (before : Before) (taken : ℕ → Bool) : Type 0 where
  pub free : (b : ℕ) → taken b ≡ true → before.entry b ≡ 0
  pub behind : (b : ℕ) → taken b ≡ true → low ≤ b
  pub below : (b : ℕ) → taken b ≡ true → b < high

-- the tree's blocks are its set of the settled map
abbrev pub IsExactPlane : HeldTree → Before → Type 0
IsExactPlane t before = (b : ℕ) → HasBit before.plane (before.entry b) ↔ Reach t b
