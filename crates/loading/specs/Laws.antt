-- Statements of laws: what is read of files and trees in their grammar is what images mean.
use Rattle.std.specs.Prelude.{ℕ, ◌≡◌, ◌↔◌, ◌<◌, ◌≤◌}
use Rattle.layout.specs.Inode.{IsInode, inode_bytes}
use Rattle.layout.specs.Limits.{Sizes, AreSizes}
use Rattle.layout.specs.Places.{Blocks}
use Rattle.layout.specs.declared.inode.Inode.{Inode}
use Rattle.blocktree.specs.Trees.{IsSoundAt}
use Rattle.blocktree.specs.declared.tree.BlockTree.{BlockTree}
use Rattle.inode.specs.Bases.{IsBased}
use Rattle.inode.specs.Bodies.{inode_block}
use Rattle.images.specs.Faults.{IsMapGrammar}
use Rattle.images.specs.Nodes.{file_block, held}
use Rattle.images.specs.Roots.{free_inode, inode_bytes_at, tree}
use Rattle.images.specs.Soundness.{Detail, IsReadable, IsHeldFile}
use Rattle.loading.specs.Readings.{IsBodyPath, IsMapFile, IsWholeBody}

-- a file in its grammar reads as it is held
abbrev pub ReadAsHeld : Type 0
ReadAsHeld = (detail : Detail) (s : Sizes) (disk : Blocks) (f : Inode) → IsHeldFile detail s (held disk f)
    → inode_block disk f ≡ file_block (held disk f)

-- all that stands over its blocks is in its grammar
abbrev pub HaveSoundPaths : Type 0
HaveSoundPaths = (detail : Detail) (s : Sizes) (disk : Blocks) (f : Inode) (i : ℕ) → IsHeldFile detail s (held disk f)
    → IsBodyPath f.layout s.blocks disk f.body f.size i

-- where its blocks can be read, so can those of a tree that is based on it
abbrev pub AreBasedSound : Type 0
AreBasedSound = (detail : Detail) (s : Sizes) (disk : Blocks) (f : Inode) (t : BlockTree) (k : ℕ) → IsHeldFile detail s (held disk f)
    → IsReadable (held disk f) → IsBased f t → IsSoundAt s.blocks disk t k

-- and so can its blocks as they are read
abbrev pub HaveWholeBodies : Type 0
HaveWholeBodies = (detail : Detail) (s : Sizes) (disk : Blocks) (f : Inode) → IsHeldFile detail s (held disk f)
    → IsReadable (held disk f) ↔ IsWholeBody f.layout disk f.body f.size

-- of a map in its grammar all blocks are stored
abbrev pub AreMapFiles : Type 0
AreMapFiles = (detail : Detail) (s : Sizes) (disk : Blocks) (f : Inode) → IsHeldFile detail s (held disk f)
    → IsMapGrammar (held disk f) → IsMapFile disk f

-- a tree has the inodes that the inode file's bytes spell
abbrev pub SpellTrees : Type 0
SpellTrees = (s : Sizes) (disk : Blocks) (top i : Inode) (n : ℕ)
    → AreSizes s → top.layout ≡ s.layout → 1 ≤ n → n < s.inodes → IsInode s i
    → inode_bytes_at (file_block (held disk top)) n ≡ inode_bytes i
    → tree disk s.inodes top n ≡ held disk i

-- and past the last number free ones
abbrev pub EndTrees : Type 0
EndTrees = (disk : Blocks) (inodes : ℕ) (top : Inode) (n : ℕ) → 1 ≤ n → inodes ≤ n
    → tree disk inodes top n ≡ held disk (free_inode top.layout)

-- all of these
pub record TreesReadAsHeld : Type 0 where
  pub reads : ReadAsHeld
  pub paths : HaveSoundPaths
  pub based : AreBasedSound
  pub whole : HaveWholeBodies
  pub stored : AreMapFiles
  pub spells : SpellTrees
  pub ends : EndTrees
