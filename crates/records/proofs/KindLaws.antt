-- Objects in memory that are files.
use Rattle.std.proofs.Common.{◌≡◌, ℕ, false, inl, inr, Option, Some, IsTrue, refl, ap, sym, subst, ◌∙◌, List, [], unwrap_or}
use Rattle.std.proofs.lemmas.Bool.{both_ways, cases_Bool}
use Rattle.layout.specs.declared.kind.Kind.{Kind}
use Rattle.layout.specs.declared.kind.Kind.TheVariants as kinds
use Rattle.images.specs.Soundness.{Detail}
use Rattle.inode.specs.Files.{bytes_of_file}
use Rattle.inode.specs.declared.object.Object.{Object}
use Rattle.model.specs.Edits.{read_at}
use Rattle.inofile.specs.Settled.{content_of_object}
use Rattle.records.specs.Reading.{ReadsNumber}
use Rattle.images.specs.Sizes.{StandsAsIn}
use Rattle.inofile.proofs.DetailLaws.{HasSizeOf, by_size}
use Rattle.model.specs.Volumes.{Node, Volume, bytes_of_node, file_node, is_directory_node, is_file_node}
use Rattle.images.specs.Contents.{Content, StandsAs, content_bytes}
use Rattle.images.proofs.KindLaws.{no_directory}

no_file : {X : Type 0} (o node : Option Node) → o ≡ node → is_file_node node ≡ false → IsTrue (is_file_node o) → X
no_file o node same not is = absurd (both_ways (is_file_node node) not (sym (ap is_file_node same) ∙ is))

-- what stands for a file is one
pub file_kind : (k : Kind) (inodes : ℕ) (c : Content) (o : Option Node) → HasSizeOf k inodes c o → IsTrue (is_file_node o) → k ≡ kinds.File
file_kind kinds.Free inodes c o stands is = no_file o _ stands refl is
file_kind kinds.File inodes c o stands is = refl
file_kind kinds.Directory inodes c o stands is = no_file o _ stands.2 refl is
file_kind kinds.Link inodes c o stands is = no_file o _ stands.2 refl is
file_kind kinds.InodeFile inodes c o stands is = no_file o _ stands refl is
file_kind kinds.InodeMap inodes c o stands is = no_file o _ stands refl is
file_kind kinds.BlockMap inodes c o stands is = no_file o _ stands refl is

-- what is a file in memory stands for one, and nothing else does
pub file_stands : (k : Kind) (inodes : ℕ) (c : Content) (o : Option Node) → StandsAs k inodes c o → k ≡ kinds.File → o ≡ Some (file_node c.attributes c.links (content_bytes c))
file_stands k inodes c o stands is = subst (λ (x : Kind). StandsAs x inodes c o) is stands

module _ (detail : Detail) (k : Kind) (inodes : ℕ) (c : Content) (o : Option Node) (in_detail : StandsAsIn detail k inodes c o) where
  is_sized : HasSizeOf k inodes c o
  is_sized = by_size detail k inodes c o in_detail

  pub is_kind : IsTrue (is_file_node o) → k ≡ kinds.File
  is_kind is = file_kind k inodes c o is_sized is

  pub sized_file : k ≡ kinds.File → HasSizeOf kinds.File inodes c o
  sized_file is = subst (λ (x : Kind). HasSizeOf x inodes c o) is is_sized

  pub held_file : IsTrue (is_file_node o) → HasSizeOf kinds.File inodes c o
  held_file is = sized_file (is_kind is)

  pub not_file : (k ≡ kinds.File → ⊥) → is_file_node o ≡ false
  not_file other = elim (cases_Bool (is_file_node o)) [ inl is ↦ absurd (other (is_kind is)) | inr not ↦ not ]

-- what stands for a directory is one
pub directory_kind : (k : Kind) (inodes : ℕ) (c : Content) (o : Option Node) → HasSizeOf k inodes c o → IsTrue (is_directory_node o) → k ≡ kinds.Directory
directory_kind kinds.Free inodes c o stands is = no_directory o _ stands refl is
directory_kind kinds.File inodes c o stands is = no_directory o _ stands.2 refl is
directory_kind kinds.Directory inodes c o stands is = refl
directory_kind kinds.Link inodes c o stands is = no_directory o _ stands.2 refl is
directory_kind kinds.InodeFile inodes c o stands is = no_directory o _ stands refl is
directory_kind kinds.InodeMap inodes c o stands is = no_directory o _ stands refl is
directory_kind kinds.BlockMap inodes c o stands is = no_directory o _ stands refl is

-- ---- what is read of a file

pub part_read : (disk : ℕ → List ℕ) (inodes : ℕ) (o : Object) (v : Volume) (n offset count : ℕ) (bytes : List ℕ) → o.status.kind ≡ kinds.File
    → StandsAs o.status.kind inodes (content_of_object disk o) (v n) → bytes ≡ read_at offset count (bytes_of_file disk o.file) → ReadsNumber v n offset count (Some bytes)
part_read disk inodes o v n offset count bytes kind stands read =
    let is = file_stands o.status.kind inodes (content_of_object disk o) (v n) stands kind in
    (ap is_file_node is, read ∙ ap (λ (node : Option Node). read_at offset count (unwrap_or (bytes_of_node node) [])) (sym is))
