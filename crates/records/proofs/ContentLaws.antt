-- Bytes that a file in memory gets.
use Rattle.std.proofs.Common.{◌≡◌, ◌+◌, ◌-◌, ◌++◌, ◌≤◌, ℕ, List, length, take, drop, Option, Some, None, Result, Ok, Err, IfOk, IfSome, IsTrue, refl, sym, ap, subst, ◌∙◌, append_assoc, inl, inr, arith}
use Rattle.std.proofs.Math.Path.{fun_ext}
use Rattle.std.proofs.lemmas.Bool.{cases_eq}
use Rattle.model.specs.declared.limits.Limits.{Limits}
use Rattle.layout.specs.Bytes.{zeros}
use Rattle.layout.specs.FileBytes.{byte_in, first_bytes, EndsAt}
use Rattle.layout.specs.Inode.{FitsKind}
use Rattle.layout.specs.Limits.{Sizes}
use Rattle.layout.specs.declared.inode.Inode.{Inode}
use Rattle.layout.specs.declared.kind.Kind.{Kind}
use Rattle.layout.specs.declared.kind.Kind.TheVariants as kinds
use Rattle.model.specs.Edits.{resized, written}
use Rattle.model.specs.Records.{CanEdit, edited, size_before, touches_of, with_file_bytes, with_node_mode, work_by}
use Rattle.model.specs.Room.{cost}
use Rattle.model.specs.Touches.{touches_object}
use Rattle.model.specs.declared.attributes.Touch.TheVariants.{Data}
use Rattle.model.specs.Volumes.{Node, Volume, file_node, is_file_node, with_node}
use Rattle.model.specs.declared.errno.Errno.TheVariants.{EFBIG}
use Rattle.images.specs.Replaying.{LeavesPlace}
use Rattle.images.specs.Contents as images
use Rattle.images.specs.Contents.{Content, StandsAs}
use Rattle.images.specs.Sizes.{IsSizedAs, StandsAsIn, StandsForIn, TellsBlocks}
use Rattle.images.specs.Soundness.{Detail, by_bytes, by_sizes}
use Rattle.inode.specs.Changes.{changed_block}
use Rattle.inode.specs.Edges.{filled, written_list}
use Rattle.inode.specs.Files.{IsCommitted, IsFile, IsSameFile, block_with, byte_with, bytes_of_file, bytes_with, file_block}
use Rattle.inode.specs.Room.{size_room, write_room}
use Rattle.inode.specs.declared.file_update.FileUpdate.{FileUpdate}
use Rattle.inode.specs.declared.file.File.{File}
use Rattle.inode.specs.declared.object.Object.{Object}
use Rattle.inofile.specs.Inodes.{IsKnown}
use Rattle.inofile.specs.Objects.{EndsIn, IsObjectIn}
use Rattle.inofile.specs.Settled.{content_of_object}
use Rattle.inofile.specs.declared.inode_file.InodeFile.{InodeFile}
use Rattle.records.specs.Contents.{KeepsRecordBounds, KeepsRewriteBounds, Resizes, RewriteRoom, Rewrites, RewritesFile, bytes_after, end_of, mode_after, rewriting}
use Rattle.records.specs.Obstacles.{BarsEdit, may_bar}
use Rattle.records.specs.Plans.{KnowsEdited}
use Rattle.records.specs.Room.{StoresIn, step_costs}
use Rattle.records.specs.Steps.{with_given_mode}
use Rattle.records.specs.declared.contents.Rewrite.{Rewrite}
use Rattle.records.specs.declared.contents.Rewrite.TheVariants.{Write, Truncate, Set}
use Rattle.records.proofs.KindLaws.{file_stands, is_kind}
use Rattle.model.proofs.ObjectLaws.{node_here, node_other}
use Rattle.records.proofs.SizeLaws.{write_costs}

-- ---- lists of bytes

pub written_is : (offset : ℕ) (bytes file : List ℕ) → written_list file offset bytes ≡ written offset bytes file
unfolding zeros
written_is offset bytes file = sym (append_assoc (take offset file ++ zeros (offset - length file)) bytes (drop (offset + length bytes) file))

pub resized_is : (size : ℕ) (file : List ℕ) → filled size file ≡ resized size file
unfolding zeros
resized_is size file = refl

-- ---- a change that is prepared

-- it does to the same file what it does to the other
pub rewrites_same : (disk : ℕ → List ℕ) (f : List ℕ → List ℕ) (old new : File) (change : FileUpdate) → IsSameFile old new
    → EndsAt change.size (byte_with disk old change) → bytes_with disk old change ≡ f (bytes_of_file disk old) → Rewrites disk f new change
rewrites_same disk f old new change same ends bytes = record {
  ends = subst (λ (b : ℕ → List ℕ). EndsAt change.size (byte_in (changed_block b change.size change.first change.pieces.items))) was ends;
  bytes = subst (λ (b : ℕ → List ℕ). first_bytes (byte_in (changed_block b change.size change.first change.pieces.items)) change.size ≡ f (first_bytes (byte_in b) new.size)) was
      (bytes ∙ ap (λ (n : ℕ). f (first_bytes (byte_in (file_block disk old)) n)) (sym same.size));
}
  where
    was : file_block disk old ≡ file_block disk new
    was = sym (fun_ext {f = file_block disk new} {g = file_block disk old} (same.blocks disk))

-- so it does with which of its blocks can be read
pub resizes_same : (disk : ℕ → List ℕ) (f : List ℕ → List ℕ) (old new : File) (change : FileUpdate) → IsSameFile old new → Resizes disk f old change → Resizes disk f new change
resizes_same disk f old new change same sizes bytes long tells =
    let was : file_block disk old ≡ file_block disk new = sym (fun_ext {f = file_block disk new} {g = file_block disk old} (same.blocks disk)) in
    subst (λ (b : ℕ → List ℕ). (length (f bytes) ≡ change.size) × TellsBlocks (changed_block b change.size change.first change.pieces.items) (f bytes)) was
    (sizes bytes (long ∙ same.size) (subst (λ (b : ℕ → List ℕ). TellsBlocks b bytes) (sym was) tells))

-- ---- and put in force

module _ (disk : ℕ → List ℕ) (old new : File) (change : FileUpdate) (done : IsCommitted old change new) where
  blocks_are : file_block disk new ≡ block_with disk old change
  blocks_are = fun_ext {f = file_block disk new} {g = block_with disk old change} (done.blocks disk)

  bytes_are : bytes_of_file disk new ≡ bytes_with disk old change
  bytes_are = ap (first_bytes (byte_in (file_block disk new))) done.size ∙ ap (λ (b : ℕ → List ℕ). first_bytes (byte_in b) change.size) blocks_are

  ends_there : EndsAt change.size (byte_with disk old change) → IsFile disk new
  ends_there ends =
      subst (λ (n : ℕ). EndsAt n (byte_in (file_block disk new))) (sym done.size)
      (subst (λ (b : ℕ → List ℕ). EndsAt change.size (byte_in b)) (sym blocks_are) ends)

-- ---- objects that are files

module _ (inodes size : ℕ) (block : ℕ → List ℕ) (f : List ℕ → List ℕ) (c : Content) (found : Option Node) (is : IsTrue (is_file_node found)) where
  abbrev after : Content
  after = record { kind = c.kind; attributes = c.attributes; links = c.links; size = size; block = block }

  fits_after : (detail : Detail) (k : Kind) (s : Sizes) → StandsAsIn detail k inodes c found → FitsKind k s c.attributes c.links c.size → FitsKind k s c.attributes c.links size
  fits_after detail k s stands fits =
      let kind = is_kind detail k inodes c found stands is in
      subst (λ (x : Kind). FitsKind x s c.attributes c.links size) (sym kind) (subst (λ (x : Kind). FitsKind x s c.attributes c.links c.size) kind fits)

  stands_after : images.content_bytes after ≡ f (images.content_bytes c) → (k : Kind) → StandsAs k inodes c found → StandsAs k inodes after (with_file_bytes f found)
  stands_after same k stands =
      let kind = is_kind by_bytes k inodes c found stands is in
      subst (λ (x : Kind). StandsAs x inodes after (with_file_bytes f found)) (sym kind)
      (ap (with_file_bytes f) (file_stands k inodes c found stands kind) ∙ ap (λ (b : List ℕ). Some (file_node c.attributes c.links b)) (sym same))

  sized_after : ((bytes : List ℕ) → length bytes ≡ c.size → TellsBlocks c.block bytes → (length (f bytes) ≡ size) × TellsBlocks block (f bytes)) → (k : Kind) → IsSizedAs k inodes c found
      → IsSizedAs k inodes after (with_file_bytes f found)
  sized_after sizes k stands =
      let kind = is_kind by_sizes k inodes c found stands is in
      let held = subst (λ (x : Kind). IsSizedAs x inodes c found) kind stands in
      let now = sizes held.0 held.1 held.2 in
      subst (λ (x : Kind). IsSizedAs x inodes after (with_file_bytes f found)) (sym kind) (f held.0, now.0, now.1, ap (with_file_bytes f) held.3)

-- a file in memory with other bytes
module _ (disk : ℕ → List ℕ) (inodes : ℕ) (o : Object) (found : Option Node) (f : List ℕ → List ℕ) (change : FileUpdate) (new : File) (is : IsTrue (is_file_node found)) (done : IsCommitted o.file change new) where
  abbrev rewritten : Object
  rewritten = record { status = o.status; file = new; known = o.known }

  stands_in : (detail : Detail) → RewritesFile detail disk f o.file change → StandsForIn detail inodes (content_of_object disk o) found
      → StandsForIn detail inodes (content_of_object disk rewritten) (with_file_bytes f found)
  stands_in by_bytes rewrites was =
      stands_after inodes new.size (file_block disk new) f (content_of_object disk o) found is (bytes_are disk o.file new change done ∙ rewrites.bytes) o.status.kind was
  stands_in by_sizes rewrites was =
      sized_after inodes new.size (file_block disk new) f (content_of_object disk o) found is (λ bytes long tells.
      let now = rewrites bytes long tells in
      (now.0 ∙ sym done.size, subst (λ (b : ℕ → List ℕ). TellsBlocks b (f bytes)) (sym (blocks_are disk o.file new change done)) now.1)) o.status.kind was

  ends_in : (detail : Detail) → RewritesFile detail disk f o.file change → EndsIn detail disk new
  ends_in by_bytes rewrites = ends_there disk o.file new change done rewrites.ends
  ends_in by_sizes rewrites = tt

-- a file is no directory
file_apart : {X : Type 0} (k : Kind) → k ≡ kinds.File → k ≡ kinds.Directory → X
file_apart k file directory = cc

pub bytes_put : (detail : Detail) (disk : ℕ → List ℕ) (inodes : ℕ) (settled : Inode) (o : Object) (found : Option Node) (f : List ℕ → List ℕ) (change : FileUpdate) (new : File)
    → IsObjectIn detail disk inodes settled o found → IsTrue (is_file_node found) → RewritesFile detail disk f o.file change → IsCommitted o.file change new
    → IsObjectIn detail disk inodes settled (record { status = o.status; file = new; known = o.known }) (with_file_bytes f found)
bytes_put detail disk inodes settled o found f change new was is rewrites done = record {
  kind = was.kind;
  attributes = was.attributes;
  fits = λ s. fits_after inodes new.size (file_block disk new) f (content_of_object disk o) found is detail o.status.kind s was.stands (was.fits s);
  stands = stands_in disk inodes o found f change new is done detail rewrites was.stands;
  ends = ends_in disk inodes o found f change new is done detail rewrites;
  base = done.base settled was.base;
  known = λ directory. file_apart o.status.kind (is_kind detail o.status.kind inodes (content_of_object disk o) found was.stands is) directory;
}

-- ---- the record of a change

pub file_changed : (limits : Limits) (v : Volume) (n : ℕ) (rewrite : Rewrite) → CanEdit limits v (rewriting n rewrite) → IsTrue (is_file_node (v n))
file_changed limits v n (Write offset bytes) can = can.0
file_changed limits v n (Truncate size) can = can.0
file_changed limits v n (Set mode size) can = can.0

pub rewriting_applies : (limits : Limits) (v : Volume) (n : ℕ) (rewrite : Rewrite) → IsTrue (is_file_node (v n)) → KeepsRewriteBounds limits rewrite → CanEdit limits v (rewriting n rewrite)
rewriting_applies limits v n (Write offset bytes) is keeps = (is, keeps.0, keeps.1, keeps.2)
rewriting_applies limits v n (Truncate size) is keeps = (is, keeps)
rewriting_applies limits v n (Set mode size) is keeps = (is, keeps.0, keeps.1)

pub rewriting_place : (limits : Limits) (v : Volume) (n : ℕ) (rewrite : Rewrite) → LeavesPlace limits v (rewriting n rewrite)
rewriting_place limits v n (Write offset bytes) = tt
rewriting_place limits v n (Truncate size) = tt
rewriting_place limits v n (Set mode size) = tt

-- an object is changed twice
changed_twice : (n : ℕ) (o : Option Node) (f : Option Node → Option Node) (v : Volume) → with_node n (f (with_node n o v n)) (with_node n o v) ≡ with_node n (f o) v
changed_twice n o f v =
    fun_ext {f = with_node n (f (with_node n o v n)) (with_node n o v)} {g = with_node n (f o) v} (λ k. elim (cases_eq k n) [
      | inl here ↦ node_here n k (f (with_node n o v n)) (with_node n o v) here ∙ ap f (node_here n n o v refl) ∙ sym (node_here n k (f o) v here)
      | inr other ↦ node_other n k (f (with_node n o v n)) (with_node n o v) other ∙ node_other n k o v other ∙ sym (node_other n k (f o) v other)
    ])

pub rewriting_applied : (n : ℕ) (rewrite : Rewrite) (v : Volume) → edited (rewriting n rewrite) v ≡ with_node n (with_given_mode (mode_after rewrite) (with_file_bytes (bytes_after rewrite) (v n))) v
rewriting_applied n (Write offset bytes) v = refl
rewriting_applied n (Truncate size) v = refl
rewriting_applied n (Set mode size) v = changed_twice n (with_file_bytes (resized size) (v n)) (with_node_mode mode) v

pub rewriting_knows : (n : ℕ) (rewrite : Rewrite) (s : InodeFile) → IsKnown s n → KnowsEdited s (rewriting n rewrite)
rewriting_knows n (Write offset bytes) s known = known
rewriting_knows n (Truncate size) s known = known
rewriting_knows n (Set mode size) s known = known

pub bounds_kept : (limits : Limits) (v : Volume) (n : ℕ) (rewrite : Rewrite) → CanEdit limits v (rewriting n rewrite) → KeepsRewriteBounds limits rewrite
bounds_kept limits v n (Write offset bytes) can = (can.1, can.2, can.3)
bounds_kept limits v n (Truncate size) can = can.1
bounds_kept limits v n (Set mode size) can = (can.1, can.2)

-- what is written or cut ends within the limit
pub end_within : (limits : Limits) (rewrite : Rewrite) → KeepsRewriteBounds limits rewrite → end_of rewrite ≤ limits.file_bytes
end_within limits (Write offset bytes) keeps = keeps.2
end_within limits (Truncate size) keeps = keeps
end_within limits (Set mode size) keeps = keeps.1

pub record_bounds : (limits : Limits) (rewrite : Rewrite) → KeepsRewriteBounds limits rewrite → KeepsRecordBounds rewrite
record_bounds limits (Write offset bytes) keeps = (keeps.0, keeps.1)
record_bounds limits (Truncate size) keeps = tt
record_bounds limits (Set mode size) keeps = tt

-- what is told of an answer twice is told of it at once
pub told_both : {T E : Type 0} (r : Result T E) (P Q : T → Type 0) → IfOk r P → IfOk r Q → IfOk r (λ x. P x × Q x)
told_both (Ok x) P Q one two = (one, two)
told_both (Err e) P Q one two = tt

-- ---- a change that doesn't apply

pub tells_rewriting : (n : ℕ) (rewrite : Rewrite) → IsTrue (may_bar (rewriting n rewrite) EFBIG)
tells_rewriting n (Write offset bytes) = refl
tells_rewriting n (Truncate size) = refl
tells_rewriting n (Set mode size) = refl

-- it touches the file's data
pub rewriting_touches : (n : ℕ) (rewrite : Rewrite) (v : Volume) → touches_object Data n ≡ touches_of (rewriting n rewrite) v
rewriting_touches n (Write offset bytes) v = refl
rewriting_touches n (Truncate size) v = refl
rewriting_touches n (Set mode size) v = refl

pub bars_rewriting : (limits : Limits) (v : Volume) (n : ℕ) (rewrite : Rewrite) → (CanEdit limits v (rewriting n rewrite) → ⊥) → BarsEdit limits v (rewriting n rewrite) EFBIG
bars_rewriting limits v n (Write offset bytes) never = never
bars_rewriting limits v n (Truncate size) never = never
bars_rewriting limits v n (Set mode size) never = never

-- ---- what it may store

-- a change stores so many blocks more at the most, and two are left of what the steps of its record cost
pub rewrite_within : (n : ℕ) (rewrite : Rewrite) (o : Option Object) (change : FileUpdate) (v : Volume) → IfSome o (λ x. x.file.size ≡ size_before v n) → RewriteRoom rewrite o change
    → (more : ℕ) × StoresIn o change more × (more + 2 ≤ cost step_costs (work_by v (rewriting n rewrite)))
rewrite_within n (Write offset bytes) None change v same room = (0, tt, omega (arith, write_costs (size_before v n) offset (length bytes.now)))
rewrite_within n (Write offset bytes) (Some o) change v same room = (
  write_room o.file.size offset (length bytes.now),
  room,
  subst (λ (size : ℕ). write_room size offset (length bytes.now) + 2 ≤ cost step_costs (work_by v (rewriting n (Write offset bytes)))) (sym same)
      (write_costs (size_before v n) offset (length bytes.now)),
)
rewrite_within n (Truncate size) None change v same room = (0, tt, omega arith)
rewrite_within n (Truncate size) (Some o) change v same room = (size_room o.file.size size, room, omega arith)
rewrite_within n (Set mode size) None change v same room = (0, tt, omega arith)
rewrite_within n (Set mode size) (Some o) change v same room = (size_room o.file.size size, room, omega arith)
