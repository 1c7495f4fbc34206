use Rattle.std.proofs.Common.{◌≡◌, ◌+◌, ◌≤◌, ℕ, Option, ap, sym, subst, ◌∙◌, arith}
use Rattle.std.specs.Ordering.{nat_cmp}
use Rattle.std.specs.BTreeMap.{get}
use Rattle.layout.specs.Limits.{Sizes}
use Rattle.inode.specs.declared.object.Object.{Object}
use Rattle.inofile.specs.Inodes.{loaded}
use Rattle.inofile.specs.Objects.{IsObjectOrNone}
use Rattle.inofile.specs.Room.{memory_room}
use Rattle.inofile.specs.Volumes.{IsVolumeIn}
use Rattle.model.specs.Volumes.{Node, Volume, with_node}
use Rattle.records.specs.Room.{UpdateRoom}
use Rattle.records.specs.Steps.{FitsUpdate, Updates}
use Rattle.paths.proofs.Objects.{object_or_none}
use Rattle.records.proofs.RoomLaws.{counts_object}
use Rattle.records.proofs.StandLaws.{stays_at_hand}
use Rattle.records.proofs.steps.commit_update.Goals as goal

pub update_object-requires : goal.update_object-requires
update_object-requires c =
    subst (λ (o : Option Object). FitsUpdate o c.args.step.update) (ap (loaded c.args.inodes.now) (sym c.get-n.ensures) ∙ sym c.take-object.ensures.loaded) c.requires.fits

pub returns : goal.returns
returns c =
    let s = c.args.inodes.now in
    let n = c.get-n.result in
    let take = c.take-object.ensures in
    let set = c.commit_set.ensures in
    let geometry = set.geometry ∙ take.geometry in
    record {
      geometry = geometry;
      keeps = λ k is. set.keeps k (take.keeps k is);
      stays = λ k is. set.stays k (take.stays k is);
      at_hand = stays_at_hand s c.commit_set.new.self geometry (λ k is. set.keeps k (take.keeps k is)) (λ k is. set.stays k (take.stays k is)) c.args.step.number c.requires.at_hand;
      rest = λ k ne. set.rest k (λ e. ne (sym (e ∙ c.get-n.ensures))) ∙ take.rest k (λ e. ne (sym (e ∙ c.get-n.ensures)));
      volume = λ {detail} count disk settled v w volume on.
          let steps = subst (λ (k : ℕ). (to : Option Node) × Updates detail disk s.geometry.inodes (settled k) (v k) (loaded s k) c.args.step.update to × (w ≡ with_node k to v)) (sym c.get-n.ensures) on in
          let o = object_or_none detail disk s.geometry.inodes (settled n) c.take-object.result (v n) (take.stands _ count disk settled v volume) (take.stands_for_none _ count disk settled v volume) in
          let up = subst (λ (x : Option Object). Updates detail disk s.geometry.inodes (settled n) (v n) x c.args.step.update steps.0) (sym take.loaded) steps.1 in
          subst (λ (x : Volume). IsVolumeIn detail count disk settled c.commit_set.new.self x) (sym steps.2)
          (set.back c.take-object.result count disk settled v steps.0 (take.without _ count disk settled v volume)
          (subst (λ (z : Sizes). IsObjectOrNone detail disk z.inodes (settled n) c.update_object.new.object steps.0) (sym take.geometry)
          (c.update_object.ensures.updates detail disk s.geometry.inodes (settled n) (v n) steps.0 o up)));
      room = λ {detail} base count disk settled v w k volume on room.
          let steps = subst (λ (k : ℕ). (to : Option Node) × Updates detail disk s.geometry.inodes (settled k) (v k) (loaded s k) c.args.step.update to × (w ≡ with_node k to v)) (sym c.get-n.ensures) on in
          let o = object_or_none detail disk s.geometry.inodes (settled n) c.take-object.result (v n) (take.stands _ count disk settled v volume) (take.stands_for_none _ count disk settled v volume) in
          let up = subst (λ (x : Option Object). Updates detail disk s.geometry.inodes (settled n) (v n) x c.args.step.update steps.0) (sym take.loaded) steps.1 in
          let few = subst (λ (x : Option Object). UpdateRoom x c.args.step.update k) (ap (loaded s) (sym c.get-n.ensures) ∙ sym take.loaded) room in
          let raised = c.update_object.ensures.room detail disk s.geometry.inodes (settled n) (base n) (v n) steps.0 (get nat_cmp s.slots n) k o up
          (counts_object detail count disk settled s v n c.take-object.result volume take.loaded) few in
          let sums = set.room s base v steps.0 take.geometry take.slots in
          subst (λ (x : Volume). memory_room base c.commit_set.new.self x ≤ memory_room base s v + k) (sym steps.2) (omega (arith, sums, raised));
    }
