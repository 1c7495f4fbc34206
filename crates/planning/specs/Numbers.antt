-- What a consistency point makes of one number.
use Rattle.std.specs.Prelude.{ℕ, ◌≡◌, Bool, nat_lt, if◌then◌else◌}
use Rattle.layout.specs.Trees.{has_attributes}
use Rattle.layout.specs.Bytes.{zeros}
use Rattle.layout.specs.Inode.{FitsKind}
use Rattle.layout.specs.Limits.{Sizes}
use Rattle.layout.specs.Places.{Blocks}
use Rattle.layout.specs.declared.TheConstants.{BLOCK_BYTES}
use Rattle.layout.specs.declared.inode.Inode.{Inode}
use Rattle.layout.specs.declared.kind.Kind.TheVariants as kinds
use Rattle.model.specs.Attributes.{FitAttributes}
use Rattle.blocktree.specs.Places.{block_count}
use Rattle.images.specs.Contents.{Content, content_of}
use Rattle.images.specs.Nodes.{Held, held, Names, IsOnce}
use Rattle.images.specs.Roots.{free_inode}
use Rattle.images.specs.Soundness.{IsSoundFile, IsOrdinary}
use Rattle.inode.specs.Bases.{IsBased}
use Rattle.inode.specs.Files.{IsFile}
use Rattle.inode.specs.declared.object.Object.{Object}
use Rattle.blockmap.specs.Maps.{IsFree}
use Rattle.conspoint.specs.declared.draft.Draft.{Draft}
use Rattle.placement.specs.Files.{IsPlaced}

-- a content with zeros past its end
abbrev pub trimmed : Content → Content
trimmed c = record c { block = λ i. if nat_lt i (block_count c.size) then c.block i else zeros BLOCK_BYTES }

-- a settled file in its grammar, whose blocks are in use under the map of a draft
pub record IsSettledFile (s : Sizes) (d : Draft) (disk : Blocks) (f : Inode) : Type 0 where
  pub blocks : s.blocks ≡ d.map.count
  pub sound : IsSoundFile s (held disk f)
  pub once : IsOnce (held disk f)
  pub used : (b : ℕ) → Names (held disk f) b → IsFree d.map.parts.items b → ⊥

-- A number's new inode, on a disk e that has the blocks planned for it: its file is placed, and is
-- this one.
pub record IsNumberPlaced (s : Sizes) (e : Blocks) (old : Held) (found : Content) (f : Inode) (taken freed : ℕ → Bool) : Type 0 where
  pub placed : IsPlaced s e old f taken freed
  pub kind : IsOrdinary f.kind
  pub content : content_of (held e f) ≡ found

-- on a disk e nothing is left of a file but a free inode that names no block
pub record IsCleared (s : Sizes) (e : Blocks) (old : Held) (f : Inode) (taken freed : ℕ → Bool) : Type 0 where
  pub placed : IsPlaced s e old f taken freed
  pub none : (b : ℕ) → Names (held e f) b → ⊥
  pub kind : f.kind ≡ kinds.Free
  pub content : (d : Blocks) → content_of (held e f) ≡ trimmed (content_of (held d (free_inode s.layout)))

-- an object in memory that may be placed over a settled inode
pub record IsObjectOver (s : Sizes) (disk : Blocks) (settled : Inode) (o : Object) : Type 0 where
  pub based : IsBased settled o.file.tree
  pub ends : IsFile disk o.file
  pub attributes : FitAttributes (has_attributes settled.layout) o.status.attributes
  pub kind : FitsKind o.status.kind s o.status.attributes o.status.links o.file.size
