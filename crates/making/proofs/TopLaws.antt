-- The inode file over nothing.
use Rattle.std.proofs.Common.{◌≡◌, ℕ, ◌/◌, ◌%◌, List, ap, sym, ◌∙◌}
use Rattle.std.specs.Prelude.{slice_index, ◌==◌, if◌then◌else◌}
use Rattle.model.specs.Attributes.{no_attributes}
use Rattle.layout.specs.Bytes.{zeros}
use Rattle.layout.specs.Places.{Blocks}
use Rattle.layout.specs.declared.inode.Inode.{Inode}
use Rattle.layout.specs.declared.kind.Kind.TheVariants as kinds
use Rattle.blocktree.specs.Places.{block_count}
use Rattle.images.specs.Contents.{Content, content_of}
use Rattle.images.specs.Nodes.{held}
use Rattle.inode.specs.Files.{IsFile, file_block}
use Rattle.inode.specs.declared.file.File.{File}
use Rattle.inode.specs.declared.object.Status.{Status}
use Rattle.inode.specs.declared.object.Object.{Object}
use Rattle.placement.specs.Files.{content_with, object_block, with_first}
use Rattle.making.specs.Plans.{IsTopOn}
use Rattle.making.specs.Starts.{nothing}
use Rattle.making.proofs.StartLaws.{zeros_or}
use Rattle.layout.proofs.ZeroLaws.{zero_byte}
use Rattle.images.proofs.EmptyLaws.{held_inode}

-- a file of zeros ends anywhere
pub zeros_end : (f : File) → ((i : ℕ) → file_block nothing f i ≡ zeros 4096) → IsFile nothing f
zeros_end f blocks p past = ap (λ (b : List ℕ). slice_index b (p % 4096)) (blocks (p / 4096)) ∙ zero_byte (p % 4096) 4096

pub top_on : (e : Blocks) (first : ℕ) (f : Inode) (o : Object) → o.status ≡ record { kind = kinds.InodeFile; attributes = no_attributes; links = 1 } → ((i : ℕ) → file_block nothing o.file i ≡ zeros 4096)
    → content_of (held e f) ≡ content_with o (with_first (e first) (object_block nothing o)) → IsTopOn e first f
top_on e first f o status blocks content = record {
  kind = ap (λ (i : Inode). i.kind) (sym (held_inode e f)) ∙ ap (λ (c : Content). c.kind) content ∙ ap (λ (a : Status). a.kind) status;
  blocks = λ i. ap (λ (c : Content). c.block i) content
      ∙ ap (λ (x : List ℕ). if i == 0 then e first else x) (zeros_or i (block_count o.file.size) (file_block nothing o.file i) (blocks i));
}
