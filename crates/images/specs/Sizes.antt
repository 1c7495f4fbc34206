-- What is known of a volume where the bytes of files are not: how many there are, and which of
-- their blocks can be read.
use Rattle.std.specs.Prelude.{ℕ, ◌≡◌, ◌↔◌, ◌*◌, ◌<◌, List, length, slice_index, Option, Some}
use Rattle.layout.specs.declared.TheConstants.{BLOCK_BYTES}
use Rattle.layout.specs.declared.kind.Kind.{Kind}
use Rattle.layout.specs.declared.kind.Kind.TheVariants as kinds
use Rattle.model.specs.Volumes.{Node, Volume, file_node, link_node}
use Rattle.images.specs.Contents.{Content, StandsAs}
use Rattle.images.specs.Soundness.{Detail, by_bytes, by_sizes}

-- Block i of a file with these bytes can be read: where it can't, its first byte is none.
abbrev pub IsReadBlock : List ℕ → ℕ → Type 0
IsReadBlock bytes i = slice_index bytes (BLOCK_BYTES * i) < 256

-- so the bytes of a file tell which of its blocks can be read
abbrev pub TellsBlocks : (ℕ → List ℕ) → List ℕ → Type 0
TellsBlocks block bytes = (i : ℕ) → IsReadBlock bytes i ↔ (length (block i) ≡ BLOCK_BYTES)

-- block i of a file can be read, where this isn't known of all of them
abbrev pub CanReadBlock : Detail → (ℕ → List ℕ) → ℕ → Type 0
CanReadBlock by_bytes block i = Unit {0}
CanReadBlock by_sizes block i = length (block i) ≡ BLOCK_BYTES

-- The object of this kind that a content stands for, but that the bytes of a file or link may be
-- any others of its size. A directory's blocks can be read.
abbrev pub IsSizedAs : Kind → ℕ → Content → Option Node → Type 0
IsSizedAs kinds.File inodes c o =
    (bytes : List ℕ) × (length bytes ≡ c.size) × TellsBlocks c.block bytes
    × (o ≡ Some (file_node c.attributes c.links bytes))
IsSizedAs kinds.Directory inodes c o =
    ((i : ℕ) → length (c.block i) ≡ BLOCK_BYTES) × StandsAs kinds.Directory inodes c o
IsSizedAs kinds.Link inodes c o =
    (text : List ℕ) × (length text ≡ c.size) × (o ≡ Some (link_node c.attributes text))
IsSizedAs kind inodes c o = StandsAs kind inodes c o

-- a content of this kind stands for this object of a volume of so many inodes, or for none, in so
-- much detail
abbrev pub StandsAsIn : Detail → Kind → ℕ → Content → Option Node → Type 0
StandsAsIn by_bytes kind inodes content found = StandsAs kind inodes content found
StandsAsIn by_sizes kind inodes content found = IsSizedAs kind inodes content found

abbrev pub StandsForIn : Detail → ℕ → Content → Option Node → Type 0
StandsForIn detail inodes content found = StandsAsIn detail content.kind inodes content found

-- the numbered objects of an image of so many inodes, in so much detail
abbrev pub HoldsVolumeIn : Detail → ℕ → (ℕ → Content) → Volume → Type 0
HoldsVolumeIn detail inodes files v = (n : ℕ) → StandsForIn detail inodes (files n) (v n)
