-- What is told of the stored blocks of a file, by equal tests of them.
use Rattle.std.proofs.Common.{◌≡◌, ℕ, zero, suc, ◌/◌, ◌%◌, Bool, false, not, inl, inr, List, [], length, Option, Some, None, unwrap_or, refl, ap, sym, subst, ◌∙◌}
use Rattle.std.specs.Prelude.{IsFalse, slice_index}
use Rattle.std.specs.Ordering.{nat_cmp}
use Rattle.std.specs.BTreeMap as tree
use Rattle.std.proofs.lemmas.Bool.{false≢true}
use Rattle.layout.proofs.PartLaws.{length-first_bytes}
use Rattle.layout.proofs.ZeroLaws.{zero_byte}
use Rattle.layout.specs.Bytes.{zeros}
use Rattle.layout.specs.FileBytes.{EndsAt, byte_in}
use Rattle.layout.specs.Limits.{Sizes}
use Rattle.layout.specs.Places.{pointed}
use Rattle.layout.specs.declared.inode.Body.{Body}
use Rattle.layout.specs.declared.inode.Body.TheVariants.{Inline, Pointers}
use Rattle.layout.specs.declared.inode.Inode.{Inode}
use Rattle.layout.specs.declared.kind.Kind.{Kind}
use Rattle.layout.specs.declared.kind.Kind.TheVariants as kinds
use Rattle.layout.specs.declared.pointer.Pointer.{Pointer}
use Rattle.layout.specs.declared.pointer.Pointer.TheVariants.{Hole, Block}
use Rattle.blocktree.proofs.StoredLaws.{hole_is_zeros}
use Rattle.blocktree.specs.Trees.{is_stored}
use Rattle.images.specs.Contents.{Content, StandsAs}
use Rattle.images.specs.Nodes.{body_block, held, place_at_height}
use Rattle.images.specs.Sizes.{StandsForIn}
use Rattle.images.specs.Soundness.{IsSoundFile, by_bytes}
use Rattle.inode.specs.declared.object.Object.{Object}
use Rattle.inofile.specs.Inodes.{slot_object}
use Rattle.inofile.specs.Objects.{IsObjectOrNone}
use Rattle.inofile.specs.Settled.{content_of_object, held_content}
use Rattle.inofile.specs.Volumes.{IsVolumeOf, SlotStandsFor}
use Rattle.inofile.specs.declared.inode_file.InodeFile.{InodeFile}
use Rattle.inofile.specs.declared.inode_file.ObjectSlot.{ObjectSlot}
use Rattle.inofile.specs.declared.inode_file.ObjectSlot.TheVariants.{AsSettled, Loaded, Changed}
use Rattle.model.proofs.CountLemmas.{same_count}
use Rattle.model.specs.Holes.{CountsStored, FindsFirst, FindsHole, IsFirst, TellsExtent}
use Rattle.model.specs.Volumes.{Node, Volume, bytes_of_node, directory_node, file_node, link_node, is_file_node}
use Rattle.model.specs.declared.reply.Extent.{Extent}
use Rattle.records.specs.Reading.{TellsNumber, TellsSettled, TellsStored, body_stores, settled_stored, stored_by, stored_in}
use Rattle.records.proofs.BlockLaws.{byte_of}
use Rattle.records.proofs.KindLaws.{file_stands, not_file}

module _ (f g : ℕ → Bool) (same : (k : ℕ) → f k ≡ g k) (size offset : ℕ) where
  first_same : (place : ℕ) → IsFirst g size offset place → IsFirst f size offset place
  first_same place is = record { from = is.from; within = is.within; passes = same _ ∙ is.passes; before = λ p low high. same _ ∙ is.before p low high }

  pub finds_same : (found : Option ℕ) → FindsFirst g size offset found → FindsFirst f size offset found
  finds_same (Some place) is = first_same place is
  finds_same None none = λ p low high. same _ ∙ none p low high

  pub counts_same : (count : ℕ) → CountsStored g size count → CountsStored f size count
  counts_same count counts = same_count _ _ count (λ k. ((λ is. (is.0, same k ∙ is.1)), (λ is. (is.0, sym (same k) ∙ is.1)))) counts

hole_same : (f g : ℕ → Bool) → ((k : ℕ) → f k ≡ g k) → (size offset : ℕ) (found : Option ℕ) → FindsHole g size offset found → FindsHole f size offset found
hole_same f g same size offset (Some place) (inl is) = inl (finds_same (λ k. not (f k)) (λ k. not (g k)) (λ k. ap not (same k)) size offset (Some place) is)
hole_same f g same size offset (Some place) (inr (low, end, none)) =
    inr (low, end, finds_same (λ k. not (f k)) (λ k. not (g k)) (λ k. ap not (same k)) size offset None none)
hole_same f g same size offset None past = past

-- what is told by one test is told by an equal one
extent_same : (f g : ℕ → Bool) → ((k : ℕ) → f k ≡ g k) → (size offset : ℕ) (extent : Extent) → TellsExtent g size offset extent → TellsExtent f size offset extent
extent_same f g same size offset extent told = record {
  blocks = counts_same f g same size offset extent.blocks told.blocks;
  next_data = finds_same f g same size offset extent.data told.next_data;
  next_hole = hole_same f g same size offset extent.hole told.next_hole;
}

-- what is told of a file in memory is told of the one that it stands for
pub extent_told : (disk over : ℕ → List ℕ) (inodes : ℕ) (o : Object) (v : Volume) (n offset : ℕ) (stored : ℕ → Bool) (extent : Extent) → o.status.kind ≡ kinds.File
    → StandsAs o.status.kind inodes (content_of_object disk o) (v n) → ((k : ℕ) → stored k ≡ is_stored over o.file.tree k)
    → TellsExtent (is_stored over o.file.tree) o.file.size offset extent → TellsNumber v stored n offset (Some extent)
extent_told disk over inodes o v n offset stored extent kind stands same told =
    let content = content_of_object disk o in
    let is = file_stands o.status.kind inodes content (v n) stands kind in
    let long : length (unwrap_or (bytes_of_node (v n)) []) ≡ o.file.size =
    ap (λ (node : Option Node). length (unwrap_or (bytes_of_node node) [])) is ∙ length-first_bytes (byte_in content.block) content.size in
    (ap is_file_node is, subst (λ (size : ℕ). TellsExtent stored size offset extent) (sym long) (extent_same stored (is_stored over o.file.tree) same o.file.size offset extent told))

-- what memory says is stored tells it
pub tells_stored : (disk : ℕ → List ℕ) (settled : ℕ → Inode) (s : InodeFile) → TellsStored disk s (stored_in disk settled s)
tells_stored disk settled s n o is k = ap (λ (x : Option Object). stored_by disk (settled n) x k) is

-- so do the settled inodes of what isn't in memory
pub tells_settled : (disk : ℕ → List ℕ) (settled : ℕ → Inode) (s : InodeFile) → TellsSettled disk settled s (stored_in disk settled s)
tells_settled disk settled s n is k = ap (λ (x : Option Object). stored_by disk (settled n) x k) is

-- ---- holes

-- a byte of what is no file
no_bytes : (node : Option Node) (p : ℕ) → is_file_node node ≡ false → slice_index (unwrap_or (bytes_of_node node) []) p ≡ 0
no_bytes None p other = refl
no_bytes (Some (directory_node attributes names)) p other = refl
no_bytes (Some (link_node attributes text)) p other = refl
no_bytes (Some (file_node attributes links bytes)) p other = absurd (false≢true (sym other))

-- a byte that is 0 among a file's blocks is so in the file
kind_zeros : (k : Kind) (inodes : ℕ) (c : Content) (node : Option Node) (p : ℕ) → StandsAs k inodes c node → EndsAt c.size (byte_in c.block) → byte_in c.block p ≡ 0
    → slice_index (unwrap_or (bytes_of_node node) []) p ≡ 0
kind_zeros kinds.File inodes c node p stands ends none =
    ap (λ (o : Option Node). slice_index (unwrap_or (bytes_of_node o) []) p) stands ∙ byte_of (byte_in c.block) c.size p ends ∙ none
kind_zeros kinds.Free inodes c node p stands ends none = no_bytes node p (not_file by_bytes kinds.Free inodes c node stands (λ is. cc))
kind_zeros kinds.Directory inodes c node p stands ends none = no_bytes node p (not_file by_bytes kinds.Directory inodes c node stands (λ is. cc))
kind_zeros kinds.Link inodes c node p stands ends none = no_bytes node p (not_file by_bytes kinds.Link inodes c node stands (λ is. cc))
kind_zeros kinds.InodeFile inodes c node p stands ends none = no_bytes node p (not_file by_bytes kinds.InodeFile inodes c node stands (λ is. cc))
kind_zeros kinds.InodeMap inodes c node p stands ends none = no_bytes node p (not_file by_bytes kinds.InodeMap inodes c node stands (λ is. cc))
kind_zeros kinds.BlockMap inodes c node p stands ends none = no_bytes node p (not_file by_bytes kinds.BlockMap inodes c node stands (λ is. cc))

module _ (disk : ℕ → List ℕ) (inodes : ℕ) (settled : Inode) (node : Option Node) (p : ℕ) where
  body_zeros : (body : Body) (place : Pointer) (k : ℕ) → IsFalse (body_stores body place k) → body_block body (pointed disk place) k ≡ zeros 4096
  body_zeros (Inline bytes) place zero hole = absurd (false≢true (sym hole))
  body_zeros (Inline bytes) place (suc k) hole = refl
  body_zeros (Pointers pointers) Hole k hole = refl
  body_zeros (Pointers pointers) (Block block) k hole = absurd (false≢true (sym hole))

  settled_zeros : (sizes : Sizes) → IsSoundFile sizes (held disk settled) → StandsForIn by_bytes inodes (held_content disk settled) node → IsFalse (settled_stored disk settled (p / 4096))
      → slice_index (unwrap_or (bytes_of_node node) []) p ≡ 0
  unfolding held
  settled_zeros sizes sound stands hole =
      let zeros_there = body_zeros settled.body (place_at_height disk settled 0 (p / 4096)) (p / 4096) hole in
      let byte : byte_in (held_content disk settled).block p ≡ 0 = ap (λ (block : List ℕ). slice_index block (p % 4096)) zeros_there ∙ zero_byte (p % 4096) 4096 in
      kind_zeros settled.kind inodes (held_content disk settled) node p stands sound.bytes.ends byte

  object_zeros : (object : Option Object) → IsObjectOrNone by_bytes disk inodes settled object node → IsFalse (stored_by disk settled object (p / 4096)) → slice_index (unwrap_or (bytes_of_node node) []) p ≡ 0
  object_zeros None stands hole = ap (λ (o : Option Node). slice_index (unwrap_or (bytes_of_node o) []) p) stands
  object_zeros (Some o) stands hole =
      let byte : byte_in (content_of_object disk o).block p ≡ 0 = ap (λ (block : List ℕ). slice_index block (p % 4096)) (hole_is_zeros disk o.file.tree (p / 4096) hole) ∙ zero_byte (p % 4096) 4096 in
      kind_zeros o.status.kind inodes (content_of_object disk o) node p stands.stands stands.ends byte

  slot_zeros : (sizes : Sizes) → IsSoundFile sizes (held disk settled) → (slot : Option ObjectSlot) → SlotStandsFor by_bytes disk inodes settled slot node
      → IsFalse (stored_by disk settled (slot_object slot) (p / 4096)) → slice_index (unwrap_or (bytes_of_node node) []) p ≡ 0
  slot_zeros sizes sound None stands hole = settled_zeros sizes sound stands hole
  slot_zeros sizes sound (Some AsSettled) stands hole = settled_zeros sizes sound stands hole
  slot_zeros sizes sound (Some (Loaded object)) stands hole = object_zeros object stands.1 hole
  slot_zeros sizes sound (Some (Changed object)) stands hole = object_zeros object stands hole

-- a byte of a file in a block that isn't stored is 0
pub holes_zeros : (count : ℕ) (disk : ℕ → List ℕ) (settled : ℕ → Inode) (s : InodeFile) (v : Volume) (n p : ℕ) → IsVolumeOf count disk settled s v
    → IsFalse (stored_in disk settled s n (p / 4096)) → slice_index (unwrap_or (bytes_of_node (v n)) []) p ≡ 0
holes_zeros count disk settled s v n p volume hole = slot_zeros disk s.geometry.inodes (settled n) (v n) p s.geometry (volume.inodes.sound n) (tree.get nat_cmp s.slots n) (volume.objects n) hole
