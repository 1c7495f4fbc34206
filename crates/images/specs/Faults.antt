-- The nine faults that images may have: of each, that it doesn't stand in them.
use Rattle.std.specs.Prelude.{ℕ, ◌≡◌, ◌*◌, ◌/◌, ◌<◌, ◌≤◌, List, length}
use Rattle.layout.specs.StateLimits.{limits_of}
use Rattle.layout.specs.FileBytes.{byte_in, EndsAt}
use Rattle.layout.specs.Limits.{Sizes}
use Rattle.layout.specs.Maps.{IsTaken}
use Rattle.layout.specs.Opens.{IsNewest}
use Rattle.layout.specs.Places.{blocks_of}
use Rattle.layout.specs.Record.{Change}
use Rattle.layout.specs.declared.TheConstants.{BLOCK_BYTES, SLOT_A, SLOT_B}
use Rattle.layout.specs.declared.kind.Kind.TheVariants.{Directory}
use Rattle.layout.specs.declared.pointer.Pointer.TheVariants.{Block}
use Rattle.layout.specs.declared.root.Root.{Root}
use Rattle.model.specs.Volumes.{CountsNames, IsNaming, Volume}
use Rattle.model.specs.declared.limits.TheConstants.{FIRST_NUMBER, ROOT_NUMBER}
use Rattle.images.specs.BlockMap.{IsExact, NamesOnce}
use Rattle.images.specs.Contents.{HoldsVolume, content_bytes, content_of, tree_contents}
use Rattle.images.specs.Nodes.{Held, file_block}
use Rattle.images.specs.Replaying.{ReplaysWithin}
use Rattle.images.specs.Roots.{HeldTree, Whole, slot, whole}
use Rattle.images.specs.Snapshots.{AreSnapshots}
use Rattle.images.specs.Sizes.{HoldsVolumeIn}
use Rattle.images.specs.Soundness.{FitsNumber, HasNoHole, IsFileGrammar, IsReadable, IsWithin, MapsNumbers, SpellsInodes, by_sizes}
use Rattle.images.specs.States.{LogHoldsChanges}

-- ---- 1: the roots

-- a station of so many sectors and bytes has the sizes of a root's image
pub record HasSizesOf (r : Root) (sectors nvram_bytes : ℕ) : Type 0 where
  pub disk : sectors ≡ 8 * r.geometry.blocks
  pub nvram : nvram_bytes ≡ 2 * r.geometry.half

-- this is the newest root of the two slots, any other one is older and of its sizes, and the
-- station has these sizes
pub record HasRoots (r : Root) (sectors : ℕ) (disk : ℕ → List ℕ) (nvram : List ℕ) : Type 0 where
  pub newest : IsNewest r (disk SLOT_A) (disk SLOT_B)
  pub sizes : HasSizesOf r sectors (length nvram)

-- ---- 3: the grammar of a tree

-- a map's file has no hole, and zeros past its end, in a block that can be read
pub record IsMapGrammar (h : Held) : Type 0 where
  pub stored : HasNoHole h
  pub last : (b : ℕ) → h.place 0 (h.inode.size / BLOCK_BYTES) ≡ Block b
      → length (h.bytes 0 (h.inode.size / BLOCK_BYTES)) ≡ BLOCK_BYTES
  pub ends : EndsAt h.inode.size (byte_in (file_block h))

-- the inode map has the file system's own numbers as taken, and none past the last one
pub record MapsWithin (inodes : ℕ) (bytes : List ℕ) : Type 0 where
  pub own : (n : ℕ) → n < FIRST_NUMBER → IsTaken bytes n
  pub past : (n : ℕ) → inodes ≤ n → IsTaken bytes n → ⊥

-- the inodes, indirect blocks and maps of a tree are in their grammar, in an image of these sizes
pub record IsTreeGrammar (s : Sizes) (t : HeldTree) : Type 0 where
  pub files : (n : ℕ) → IsFileGrammar s (t n)
  pub kinds : (n : ℕ) → FitsNumber n (t n).inode.kind
  pub root : (t ROOT_NUMBER).inode.kind ≡ Directory
  pub inodes : SpellsInodes s.inodes (file_block (t 0)) t
  pub inode_map : IsMapGrammar (t 1)
  pub block_map : IsMapGrammar (t 2)
  pub readable : IsReadable (t 1)
  pub numbers : MapsWithin s.inodes (content_bytes (content_of (t 1)))

-- ---- 3, 4, 6, 7, 8: a tree

-- 7: the directories of a tree can be read, and give names to its objects
pub record HoldsNames (inodes : ℕ) (t : HeldTree) : Type 0 where
  pub readable : (n : ℕ) → (t n).inode.kind ≡ Directory → IsReadable (t n)
  pub volume : Volume
  pub holds : HoldsVolume inodes (tree_contents t) volume
  pub naming : IsNaming volume

-- 7, 8: its files count their names too
pub record HoldsGraph (inodes : ℕ) (t : HeldTree) : Type 0 where
  pub names : HoldsNames inodes t
  pub counts : CountsNames names.volume

-- no fault stands in a tree, in an image of these sizes
pub record IsFaultless (s : Sizes) (t : HeldTree) : Type 0 where
  pub grammar : IsTreeGrammar s t
  pub once : NamesOnce t
  pub numbers : MapsNumbers t
  pub names : HoldsGraph s.inodes t

-- ---- 9: the log

-- the log holds records, which apply one after the other, within the limits, over the volume of a
-- root's tree, and change in part only blocks that can be read
pub record HasLog (r : Root) (w : Whole) (nvram : List ℕ) (changes : List Change) : Type 0 where
  pub first : Volume
  pub last : Volume
  pub holds : HoldsVolumeIn by_sizes r.geometry.inodes (tree_contents w.active) first
  pub log : LogHoldsChanges r nvram changes
  pub replays : ReplaysWithin (limits_of r.geometry) first changes last

-- ---- all

-- None of the nine faults stands under a root, beside those of the roots: in its snapshots, in its
-- tree and each of theirs, whose files are no larger than its version allows, in its block map, and
-- in the log of these records.
pub record IsFaultlessUnder (r : Root) (w : Whole) (nvram : List ℕ) (changes : List Change) : Type 0 where
  pub snapshots : AreSnapshots r w
  pub active : IsFaultless r.geometry w.active
  pub frozen : (k block : ℕ) → slot r k ≡ Block block → IsFaultless r.geometry (w.frozen k)
  pub within : IsWithin r.version w.active
  pub frozen_within : (k block : ℕ) → slot r k ≡ Block block → IsWithin r.version (w.frozen k)
  pub readable : IsReadable (w.active 2)
  pub exact : IsExact r w
  pub log : HasLog r w nvram changes

-- none of the nine faults stands in a disk of so many sectors and an NVRAM
pub record HasNoFault (sectors : ℕ) (disk : ℕ → List ℕ) (nvram : List ℕ) : Type 0 where
  pub root : Root
  pub changes : List Change
  pub roots : HasRoots root sectors disk nvram
  pub under : IsFaultlessUnder root (whole (blocks_of disk) root) nvram changes
