-- The blocks of a changed file.
use Rattle.std.specs.Prelude.{ℕ, ◌<◌, ◌≤◌, List}
use Rattle.std.specs.Ordering.{nat_cmp}
use Rattle.std.specs.BTreeMap as tree
use Rattle.buffers.specs.Disks.{IsWhole}
use Rattle.blocktree.specs.Trees.{slot_bytes}
use Rattle.blocktree.specs.declared.tree.BlockTree.{BlockTree}

-- block i as it is in memory where it is changed, and else these bytes
abbrev pub changed_or : BlockTree → ℕ → List ℕ → List ℕ
changed_or t i below = slot_bytes (tree.get nat_cmp t.slots i) below

-- over whole blocks, those from the first and before the last of these are whole
abbrev pub AreWholeOver : BlockTree → ℕ → ℕ → Type 0
AreWholeOver t first last =
    (i : ℕ) → first ≤ i → i < last → (below : List ℕ) → IsWhole below → IsWhole (changed_or t i below)
