-- The blocks that a settled inode names: those of the file's bytes and the indirect ones over them.
use Rattle.std.specs.Prelude.{ℕ, zero, suc, ◌≡◌, ◌⊎◌, ◌<◌, List}
use Rattle.std.specs.Int.{div_ceil}
use Rattle.layout.specs.Trees.{fan_out}
use Rattle.layout.specs.declared.pointer.Pointer.{Pointer}
use Rattle.layout.specs.declared.pointer.Pointer.TheVariants.{Block}
use Rattle.layout.specs.declared.trees.Layout.{Layout}
use Rattle.blocktree.specs.PlaceMaps.{place_at}
use Rattle.blocktree.specs.Places.{place}
use Rattle.blocktree.specs.declared.place_map.PlaceMap.{PlaceMap}

-- How many nodes stand at a height over so many blocks of a file: at height 0 the blocks
-- themselves, and then one over as many of those below as an indirect block has pointers.
unfoldable pub nodes_at : Layout → ℕ → ℕ → ℕ
nodes_at layout count zero = count
nodes_at layout count (suc height) = div_ceil (nodes_at layout count height) (fan_out layout)

-- these are the places of the first so many nodes at this depth
abbrev pub AreNodes : Layout → (ℕ → List ℕ) → List Pointer → ℕ → ℕ → PlaceMap → Type 0
AreNodes layout disk pointers depth count nodes =
    (i : ℕ) → i < count → place_at nodes i ≡ place layout disk pointers depth i

-- one of the first so many nodes at this depth lies there
abbrev pub IsNodePlace : Layout → (ℕ → List ℕ) → List Pointer → ℕ → ℕ → ℕ → Type 0
IsNodePlace layout disk pointers depth count p =
    (i : ℕ) × (i < count) × (place layout disk pointers depth i ≡ Block p)

-- one of the first so many nodes at this depth lies there, or one above them
unfoldable pub IsNamed : Layout → (ℕ → List ℕ) → List Pointer → ℕ → ℕ → ℕ → Type 0
IsNamed layout disk pointers zero count p = IsNodePlace layout disk pointers zero count p
IsNamed layout disk pointers (suc depth) count p =
    IsNodePlace layout disk pointers (suc depth) count p
    ⊎ IsNamed layout disk pointers depth (div_ceil count (fan_out layout)) p
