-- Objects in memory that are touched.
use Rattle.std.proofs.Common.{◌≡◌, ◌+◌, ◌*◌, ◌≤◌, ℕ, zero, suc, Bool, true, false, List, length, Option, Some, None, IfSome, refl, ap, ◌∙◌, arith}
use Rattle.std.specs.Prelude.{max, nat_lt, if◌then◌else◌}
use Rattle.std.proofs.lemmas.Bool.{false≢true}
use Rattle.layout.specs.Inode.{FitsKind}
use Rattle.layout.specs.Limits.{Sizes}
use Rattle.layout.specs.StateLimits.{costs_of, limits_of}
use Rattle.layout.specs.declared.TheConstants.{SINGLE_BYTES}
use Rattle.layout.specs.Trees.{has_attributes}
use Rattle.layout.specs.declared.inode.Inode.{Inode}
use Rattle.layout.specs.declared.kind.Kind.{Kind}
use Rattle.layout.specs.declared.kind.Kind.TheVariants as kinds
use Rattle.layout.specs.declared.trees.Layout.{Layout}
use Rattle.layout.specs.declared.trees.Layout.TheVariants.{Plain, Summed}
use Rattle.model.specs.declared.attributes.Attributes.{Attributes}
use Rattle.model.specs.declared.attributes.Touch.{Touch}
use Rattle.model.specs.declared.attributes.Touch.TheVariants as touch
use Rattle.model.specs.declared.time.Time.{Time}
use Rattle.model.specs.Attributes.{KeepsTime}
use Rattle.model.specs.Records.{Edit, marked_nodes, size_before, touches_of, with_node_attributes, work_by, create, link, remove_name, rename, write, truncate, change_attributes, set_file}
use Rattle.model.specs.Room.{Work, adds_name, removes_name, puts_bytes, changes_size, changes_bits, cost, touched}
use Rattle.model.specs.Touches.{Touches, touched_at}
use Rattle.model.specs.Volumes.{Node, Volume, directory_node, entries, file_node, link_node}
use Rattle.model.proofs.MarkLemmas.{touched_fit}
use Rattle.model.proofs.OptionLaws.{none_some}
use Rattle.images.specs.Contents.{Content}
use Rattle.images.specs.Sizes.{StandsAsIn}
use Rattle.images.specs.Soundness.{Detail, by_bytes, by_sizes}
use Rattle.inode.specs.declared.object.Object.{Object}
use Rattle.inofile.specs.Objects.{IsObjectIn, IsObjectKind, IsObjectOrNone}
use Rattle.inofile.specs.Room.{room_of}
use Rattle.inofile.specs.Settled.{content_of_object}
use Rattle.inofile.specs.declared.inode_file.InodeFile.{InodeFile}
use Rattle.inofile.specs.declared.inode_file.ObjectSlot.{ObjectSlot}
use Rattle.inofile.specs.declared.inode_file.ObjectSlot.TheVariants.{Changed}
use Rattle.records.specs.Marks.{MarksVolume, mark_room, touch_room}
use Rattle.records.specs.Room.{CountsObject, RaisesFile, step_costs}
use Rattle.records.proofs.RoomLaws.{more}
use Rattle.records.proofs.StepLaws.{attributes_set, with_attributes}

-- ---- an object that is touched

-- its kind asks for no time
fits_touched : (k : Kind) (s : Sizes) (time : Time) (t : Touch) (a : Attributes) (links size : ℕ) → IsObjectKind k → FitsKind k s a links size → FitsKind k s (touched_at time t a) links size
fits_touched kinds.Free s time t a links size is fits = absurd is
fits_touched kinds.File s time t a links size is fits = fits
fits_touched kinds.Directory s time t a links size is fits = fits
fits_touched kinds.Link s time touch.Data a links size is fits = fits
fits_touched kinds.Link s time touch.Status a links size is fits = fits
fits_touched kinds.InodeFile s time t a links size is fits = absurd is
fits_touched kinds.InodeMap s time t a links size is fits = absurd is
fits_touched kinds.BlockMap s time t a links size is fits = absurd is

pub object_touched : (detail : Detail) (disk : ℕ → List ℕ) (inodes : ℕ) (settled : Inode) (o : Object) (found : Option Node) (time : Time) (t : Touch) → KeepsTime (has_attributes settled.layout) (Some time)
    → IsObjectIn detail disk inodes settled o found
    → IsObjectIn detail disk inodes settled (with_attributes o (touched_at time t o.status.attributes)) (with_node_attributes (touched_at time t) found)
object_touched detail disk inodes settled o found time t keeps was =
    attributes_set detail disk inodes settled o found (touched_at time t)
    (touched_fit (has_attributes settled.layout) time t o.status.attributes keeps was.attributes)
    (λ s. fits_touched o.status.kind s time t o.status.attributes o.status.links o.file.size was.kind (was.fits s)) was

-- ---- what it may store

-- an object stands for one
never_none : (detail : Detail) (k : Kind) (inodes : ℕ) (c : Content) → IsObjectKind k → StandsAsIn detail k inodes c None → ⊥
never_none detail kinds.Free inodes c is stands = is
never_none by_bytes kinds.File inodes c is stands = none_some stands
never_none by_sizes kinds.File inodes c is stands = none_some stands.3
never_none by_bytes kinds.Directory inodes c is stands = none_some stands.2
never_none by_sizes kinds.Directory inodes c is stands = none_some stands.1.2
never_none by_bytes kinds.Link inodes c is stands = none_some stands
never_none by_sizes kinds.Link inodes c is stands = none_some stands.2
never_none detail kinds.InodeFile inodes c is stands = is
never_none detail kinds.InodeMap inodes c is stands = is
never_none detail kinds.BlockMap inodes c is stands = is

module _ (detail : Detail) (disk : ℕ → List ℕ) (inodes : ℕ) (settled : Inode) (slot : Option ObjectSlot) (base : Option Node) (f : Attributes → Attributes) where
  object_never_none : {X : Type 0} (o : Object) → IsObjectIn detail disk inodes settled o None → X
  object_never_none o is = absurd (never_none detail o.status.kind inodes (content_of_object disk o) is.kind is.stands)

  -- the block of the inode, and the indirect one over it
  pub touched_room : (found : Option Node) (was new : Option Object) → IsObjectOrNone detail disk inodes settled was found → IsObjectOrNone detail disk inodes settled new (with_node_attributes f found)
      → CountsObject was slot → RaisesFile was new 0 → room_of (Some (Changed new)) base (with_node_attributes f found) ≤ room_of slot base found + 2
  touched_room None was None stands stands_new had raises = omega arith
  touched_room None was (Some p) stands stands_new had raises = object_never_none p stands_new
  touched_room (Some found) None new stands stands_new had raises = absurd cc
  touched_room (Some (directory_node old names)) (Some o) new stands stands_new had raises =
      omega (arith, more detail disk inodes settled slot base (directory_node old names) (directory_node (f old) names) o new 0 had raises (omega arith))
  touched_room (Some (link_node old text)) (Some o) new stands stands_new had raises =
      omega (arith, more detail disk inodes settled slot base (link_node old text) (link_node (f old) text) o new 0 had raises (omega arith))
  touched_room (Some (file_node old zero bytes)) (Some o) new stands stands_new had raises =
      omega (arith, more detail disk inodes settled slot base (file_node old zero bytes) (file_node (f old) zero bytes) o new 0 had raises (omega arith))
  touched_room (Some (file_node old (suc links) bytes)) (Some o) new stands stands_new had raises =
      omega (arith, more detail disk inodes settled slot base (file_node old (suc links) bytes) (file_node (f old) (suc links) bytes) o new 0 had raises (omega arith))

-- ---- marks, one behind the other

-- nothing is marked
pub marks_none : (s : InodeFile) → MarksVolume s s (λ v. v) 0
marks_none s = record {
  geometry = refl;
  keeps = λ n is. is;
  stays = λ n is. is;
  volume = λ {detail} count disk settled v volume. volume;
  room = λ {detail} base count disk settled v volume. omega arith;
}

pub marks_then : {s t u : InodeFile} {f g : Volume → Volume} {k l : ℕ} → MarksVolume s t f k → MarksVolume t u g l → MarksVolume s u (λ v. g (f v)) (k + l)
marks_then {f = f} first last = record {
  geometry = last.geometry ∙ first.geometry;
  keeps = λ n is. last.keeps n (first.keeps n is);
  stays = λ n is. last.stays n (first.stays n is);
  volume = λ {detail} count disk settled v volume. last.volume count disk settled (f v) (first.volume count disk settled v volume);
  room = λ {detail} base count disk settled v volume.
      let one = first.room base count disk settled v volume in
      let two = last.room base count disk settled (f v) (first.volume count disk settled v volume) in
      omega (arith, one, two);
}

-- ---- the same marks

-- where there is a time, the same is touched
module _ (one other : Option Time) (a b : Touches) (same : one ≡ other) (touches : IfSome other (λ _. a ≡ b)) where
  pub same_marks : (v : Volume) → marked_nodes one a v ≡ marked_nodes other b v
  same_marks v = ap (λ (t : Option Time). marked_nodes t a v) same ∙ by other touches
    where
      by : (time : Option Time) → IfSome time (λ _. a ≡ b) → marked_nodes time a v ≡ marked_nodes time b v
      by None is = refl
      by (Some time) is = ap (λ (t : Touches). marked_nodes (Some time) t v) is

  pub same_room : touch_room one a ≡ touch_room other b
  same_room = ap (λ (t : Option Time). touch_room t a) same ∙ by other touches
    where
      by : (time : Option Time) → IfSome time (λ _. a ≡ b) → touch_room time a ≡ touch_room time b
      by None is = refl
      by (Some time) is = ap (touch_room (Some time)) is

-- ---- what a record costs

-- what its steps cost is within its cost
steps_cost : (layout : Layout) (blocks : ℕ) (work : Work) → cost step_costs work ≤ cost (costs_of layout blocks) work
steps_cost Plain blocks adds_name = omega arith
steps_cost Summed blocks adds_name = omega arith
steps_cost layout blocks removes_name = omega arith
steps_cost Plain blocks (puts_bytes size offset count) = omega arith
steps_cost Summed blocks (puts_bytes size offset count) = beside_it (nat_lt SINGLE_BYTES (max size (offset + count)))
  where
    beside_it : (past : Bool) → 2 * touched offset count + (if past then 8 else 6) ≤ 2 * touched offset count + (if past then 16 else 16)
    beside_it true = omega arith
    beside_it false = omega arith
steps_cost Plain blocks (changes_size size to) = omega arith
steps_cost Summed blocks (changes_size size to) = omega arith
steps_cost Plain blocks changes_bits = omega arith
steps_cost Summed blocks changes_bits = omega arith

-- an object, if there is one, costs two
mark_most : (number : Option ℕ) → mark_room number ≤ 2
mark_most None = omega arith
mark_most (Some number) = omega arith

-- so many more are left for what is touched
touches_left : (blocks : ℕ) (v : Volume) (time : Time) (edit : Edit) → cost step_costs (work_by v edit) + touch_room (Some time) (touches_of edit v) ≤ cost (costs_of Summed blocks) (work_by v edit)
touches_left blocks v time (create number parent made name) = omega arith
touches_left blocks v time (link number parent name) = omega arith
touches_left blocks v time (remove_name parent name) = omega (arith, mark_most (entries v parent name))
touches_left blocks v time (rename d x k y) = omega (arith, mark_most (entries v d x), mark_most (entries v k y))
touches_left blocks v time (write number offset bytes) = beside_it (nat_lt SINGLE_BYTES (max (size_before v number) (offset + length bytes)))
  where
    beside_it : (past : Bool) → 2 * touched offset (length bytes) + (if past then 8 else 6) + 2 ≤ 2 * touched offset (length bytes) + (if past then 16 else 16)
    beside_it true = omega arith
    beside_it false = omega arith
touches_left blocks v time (truncate number size) = omega arith
touches_left blocks v time (change_attributes number permissions modified) = omega arith
touches_left blocks v time (set_file number mode size) = omega arith

-- with all that it touches, what a record does costs no more than the record
pub touches_cost : (s : Sizes) (v : Volume) (time : Option Time) (edit : Edit) → KeepsTime (limits_of s).has_attributes time
    → cost step_costs (work_by v edit) + touch_room time (touches_of edit v) ≤ cost (limits_of s).costs (work_by v edit)
touches_cost s v time edit keeps = by s.layout time keeps
  where
    by : (layout : Layout) (time : Option Time) → KeepsTime (has_attributes layout) time → cost step_costs (work_by v edit) + touch_room time (touches_of edit v) ≤ cost (costs_of layout s.blocks) (work_by v edit)
    by layout None keeps = omega (arith, steps_cost layout s.blocks (work_by v edit))
    by Plain (Some time) keeps = absurd (false≢true keeps.0)
    by Summed (Some time) keeps = touches_left s.blocks v time edit
