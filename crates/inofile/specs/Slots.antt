-- What memory has of the numbers.
use Rattle.std.specs.Prelude.{ℕ, ◌≤◌, ◌<◌, Option, Some, None}
use Rattle.std.specs.Ordering.{nat_cmp}
use Rattle.std.specs.BTreeMap as tree
use Rattle.model.specs.declared.limits.TheConstants.{ROOT_NUMBER}
use Rattle.inofile.specs.declared.inode_file.ObjectSlot.{ObjectSlot}
use Rattle.inofile.specs.declared.inode_file.ObjectSlot.TheVariants.{AsSettled, Loaded, Changed}

abbrev pub IsChangedSlot : Option ObjectSlot → Type 0
IsChangedSlot (Some AsSettled) = ⊥
IsChangedSlot (Some (Loaded object)) = ⊥
IsChangedSlot (Some (Changed object)) = Unit {0}
IsChangedSlot None = ⊥

-- only the root directory's number and ordinary ones, of so many, are changed
abbrev pub ChangesObjects : ℕ → tree.BTreeMap ℕ ObjectSlot → Type 0
ChangesObjects inodes slots =
    (n : ℕ) → IsChangedSlot (tree.get nat_cmp slots n) → (ROOT_NUMBER ≤ n) × (n < inodes)
