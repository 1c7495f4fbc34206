use Rattle.std.proofs.Common.{◌+◌, ◌≤◌, ℕ, List, Some, sym, subst, ◌∙◌, arith}
use Rattle.std.specs.Ordering.{nat_cmp}
use Rattle.std.specs.BTreeMap.{get}
use Rattle.layout.specs.Limits.{Sizes}
use Rattle.layout.specs.Trees.{has_attributes}
use Rattle.layout.specs.declared.inode.Inode.{Inode}
use Rattle.layout.specs.declared.trees.Layout.{Layout}
use Rattle.model.specs.Attributes.{KeepsTime}
use Rattle.model.specs.Records.{with_node_attributes}
use Rattle.model.specs.Touches.{touched_at}
use Rattle.model.specs.Volumes.{Volume, with_node}
use Rattle.images.specs.Soundness.{Detail}
use Rattle.inofile.specs.Objects.{IsObjectOrNone}
use Rattle.inofile.specs.Room.{memory_room}
use Rattle.inofile.specs.Volumes.{IsVolumeIn}
use Rattle.inofile.proofs.ObjectLaws.{held_inode}
use Rattle.paths.proofs.Objects.{object_or_none}
use Rattle.records.proofs.MarkLaws.{touched_room}
use Rattle.records.proofs.RoomLaws.{counts_object}
use Rattle.records.proofs.marks.touch_number.Goals as goal

pub returns : goal.returns
returns c =
    let s = c.args.inodes.now in
    let n = c.get-n.result in
    let take = c.take-object.ensures in
    let set = c.commit_set.ensures in
    let f = touched_at c.args.time.now c.args.touch in
    let touches : (detail : Detail) (count : ℕ) (disk : ℕ → List ℕ) (settled : ℕ → Inode) (v : Volume) → IsVolumeIn detail count disk settled s v
    → IsObjectOrNone detail disk s.geometry.inodes (settled n) c.touch_object.new.object (with_node_attributes f (v n)) = λ detail count disk settled v volume.
    c.touch_object.ensures.touches detail disk s.geometry.inodes (settled n) (v n)
    (subst (λ (l : Layout). KeepsTime (has_attributes l) (Some c.args.time.now)) (sym (held_inode s.geometry disk (settled n) (volume.inodes.sound n)).layout) c.requires.time)
    (object_or_none detail disk s.geometry.inodes (settled n) c.take-object.result (v n) (take.stands _ count disk settled v volume) (take.stands_for_none _ count disk settled v volume)) in
    record {
      geometry = set.geometry ∙ take.geometry;
      keeps = λ k is. set.keeps k (take.keeps k is);
      stays = λ k is. set.stays k (take.stays k is);
      volume = λ {detail} count disk settled v volume.
          subst (λ (k : ℕ). IsVolumeIn detail count disk settled c.commit_set.new.self (with_node k (with_node_attributes f (v k)) v)) c.get-n.ensures
          (set.back c.take-object.result count disk settled v (with_node_attributes f (v n)) (take.without _ count disk settled v volume)
          (subst (λ (z : Sizes). IsObjectOrNone detail disk z.inodes (settled n) c.touch_object.new.object (with_node_attributes f (v n))) (sym take.geometry) (touches detail count disk settled v volume)));
      room = λ {detail} base count disk settled v volume.
          let o = object_or_none detail disk s.geometry.inodes (settled n) c.take-object.result (v n) (take.stands _ count disk settled v volume) (take.stands_for_none _ count disk settled v volume) in
          let raised = touched_room detail disk s.geometry.inodes (settled n) (get nat_cmp s.slots n) (base n) f (v n) c.take-object.result c.touch_object.new.object o (touches detail count disk settled v volume)
          (counts_object detail count disk settled s v n c.take-object.result volume take.loaded) c.touch_object.ensures.room in
          let sums = set.room s base v (with_node_attributes f (v n)) take.geometry take.slots in
          subst (λ (k : ℕ). memory_room base c.commit_set.new.self (with_node k (with_node_attributes f (v k)) v) ≤ memory_room base s v + 2) c.get-n.ensures (omega (arith, sums, raised));
    }
