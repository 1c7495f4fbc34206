-- What is known of volumes and objects in so much detail.
use Rattle.std.proofs.Common.{◌≡◌, ◌⊎◌, ◌*◌, ◌<◌, ◌≤◌, ◌∙◌, ℕ, List, [], Option, Some, IsSome, length, refl, sym, ap, subst, arith}
use Rattle.std.proofs.lemmas.List.{get_or_past}
use Rattle.model.specs.declared.limits.Limits.{Limits}
use Rattle.layout.specs.FileBytes.{byte_in, first_bytes}
use Rattle.layout.specs.declared.kind.Kind.TheVariants as kinds
use Rattle.model.specs.Records.{Edit}
use Rattle.model.specs.Volumes.{IsGraph, Node, Volume, file_node, link_node}
use Rattle.images.specs.Contents.{Content, StandsAs, content_bytes}
use Rattle.images.specs.Sizes.{CanReadBlock, StandsAsIn}
use Rattle.images.specs.Soundness.{Detail, by_bytes, by_sizes}
use Rattle.inofile.specs.Objects.{EndsIn}
use Rattle.layout.proofs.PartLaws.{length-first_bytes}
use Rattle.inode.specs.Files.{IsFile}
use Rattle.inode.specs.declared.file.File.{File}
use Rattle.records.specs.Planning.{IsKnownVolume, IsVolumeForEdit}

pub known_of : (detail : Detail) (limits : Limits) (change : Edit) (v : Volume) → IsVolumeForEdit detail limits change v → IsKnownVolume detail limits v
known_of by_bytes limits change v volume = volume
known_of by_sizes limits change v volume = volume.0

pub graph_of : (detail : Detail) (limits : Limits) (v : Volume) → IsKnownVolume detail limits v → IsGraph v
graph_of by_bytes limits v volume = volume.graph
graph_of by_sizes limits v volume = volume.graph

pub numbers_of : (detail : Detail) (limits : Limits) (v : Volume) → IsKnownVolume detail limits v → (n : ℕ) → IsSome (v n) → (n ≡ 3) ⊎ ((4 ≤ n) × (n < limits.inodes))
numbers_of by_bytes limits v volume = volume.keeps.numbers
numbers_of by_sizes limits v volume = volume.numbers

pub ends_of : (detail : Detail) (disk : ℕ → List ℕ) (file : File) → IsFile disk file → EndsIn detail disk file
ends_of by_bytes disk file ends = ends
ends_of by_sizes disk file ends = tt

-- ---- what stands for an object in whatever detail

pub can_read : (detail : Detail) (block : ℕ → List ℕ) → ((i : ℕ) → length (block i) ≡ 4096) → (i : ℕ) → CanReadBlock detail block i
can_read by_bytes block whole i = tt
can_read by_sizes block whole i = whole i

pub still_read : (detail : Detail) (old new : ℕ → List ℕ) → (((i : ℕ) → length (old i) ≡ 4096) → (i : ℕ) → length (new i) ≡ 4096) → ((i : ℕ) → CanReadBlock detail old i) → (i : ℕ) → CanReadBlock detail new i
still_read by_bytes old new keeps can i = tt
still_read by_sizes old new keeps can i = keeps can i

pub directory_in : (detail : Detail) (inodes : ℕ) (c : Content) (o : Option Node) → ((i : ℕ) → CanReadBlock detail c.block i) → StandsAs kinds.Directory inodes c o → StandsAsIn detail kinds.Directory inodes c o
directory_in by_bytes inodes c o can stands = stands
directory_in by_sizes inodes c o can stands = (can, stands)

pub file_in : (detail : Detail) (inodes : ℕ) (c : Content) → c.size ≡ 0 → ((i : ℕ) → length (c.block i) ≡ 4096) → StandsAsIn detail kinds.File inodes c (Some (file_node c.attributes c.links []))
file_in by_bytes inodes c none whole = ap (λ (n : ℕ). Some (file_node c.attributes c.links (first_bytes (byte_in c.block) n))) (sym none)
file_in by_sizes inodes c none whole = (
  [],
  sym none,
  λ i. (λ is. whole i, λ is. subst (λ (n : ℕ). n < 256) (sym (get_or_past [] (4096 * i) 0 (omega arith))) (omega arith)),
  refl,
)

pub link_in : (detail : Detail) (inodes : ℕ) (c : Content) (text : List ℕ) → content_bytes c ≡ text → StandsAsIn detail kinds.Link inodes c (Some (link_node c.attributes text))
link_in by_bytes inodes c text is = ap (λ (l : List ℕ). Some (link_node c.attributes l)) (sym is)
link_in by_sizes inodes c text is = (text, ap length (sym is) ∙ length-first_bytes (byte_in c.block) c.size, refl)
