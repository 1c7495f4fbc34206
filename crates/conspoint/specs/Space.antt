-- How many of the free blocks a step of a plan takes.
use Rattle.std.specs.Prelude.{ℕ, ◌+◌, ◌<◌, ◌≤◌, ◌≡◌, ◌⊎◌, nat_lt, if◌then◌else◌}
use Rattle.std.specs.Ordering.{nat_cmp}
use Rattle.std.specs.BTreeMap as tree
use Rattle.layout.specs.declared.TheConstants.{BLOCK_POINTERS}
use Rattle.layout.specs.declared.pointer.Pointer.{Pointer}
use Rattle.layout.specs.declared.pointer.Pointer.TheVariants.{Hole}
use Rattle.images.specs.Sums.{sum_below}
use Rattle.blocktree.specs.declared.tree.BlockTree.{BlockTree}
use Rattle.blocktree.specs.Trees.{slot_stores}
use Rattle.blockmap.specs.Space.{left}
use Rattle.conspoint.specs.declared.draft.Draft.{Draft}

-- so many blocks at the most were given out between two drafts
abbrev pub TakesAtMost : ℕ → Draft → Draft → Type 0
TakesAtMost n old new = left old.map ≤ left new.map + n

-- fewer blocks than these are left to be given out
abbrev pub Lacks : ℕ → Draft → Type 0
Lacks n d = left d.map < n

-- how many for block i of a file, of which those before `first` don't count
abbrev pub block_stores : BlockTree → ℕ → ℕ → ℕ
block_stores t first i = if nat_lt i first then 0 else slot_stores (tree.get nat_cmp t.slots i)

-- how many of a file's blocks from `first` on are changed, of those below n
abbrev pub changed_blocks : BlockTree → ℕ → ℕ → ℕ
changed_blocks t first n = sum_below (block_stores t first) n

-- no block is stored over these nodes: none moved, or all are holes
abbrev pub StoresNone : (ℕ → Pointer) → (ℕ → Pointer) → Type 0
StoresNone old new = ((i : ℕ) → i < BLOCK_POINTERS → new i ≡ old i) ⊎ ((i : ℕ) → i < BLOCK_POINTERS → new i ≡ Hole)

-- these numbers count each of the first so many groups over which a block is stored
abbrev pub CountsGroups : (ℕ → ℕ) → ℕ → (ℕ → ℕ → Pointer) → (ℕ → ℕ → Pointer) → Type 0
CountsGroups w count old new = (j : ℕ) → j < count → w j ≡ 0 → StoresNone (old j) (new j)
