use Rattle.std.proofs.Common.{refl, ap, sym, subst, ◌≡◌, ◌+◌, ◌∙◌, Some, IsSome, Bool}
use Rattle.std.specs.Ordering.{nat_cmp}
use Rattle.std.specs.BTreeMap.{get}
use Rattle.std.specs.Option.{option_map}
use Rattle.layout.specs.Limits.{Sizes}
use Rattle.model.specs.Volumes.{with_node}
use Rattle.images.specs.Sums.{sum_below}
use Rattle.inofile.specs.Settled.{content_of_object}
use Rattle.inofile.specs.Room.{number_room, room_of}
use Rattle.inofile.specs.Inodes.{IsKnownSlot, slot_object}
use Rattle.inofile.specs.Slots.{IsChangedSlot}
use Rattle.inofile.specs.declared.inode_file.ObjectSlot.TheVariants.{Changed}
use Rattle.inofile.proofs.SlotLaws.{contents_with, each_slot, other_changes, other_objects, puts}
use Rattle.inofile.proofs.VolumeLaws.{Notes, note_maps, other_slot, own_stay, set_stands}
use Rattle.inofile.proofs.RoomLaws.{given_room}
use Rattle.inofile.proofs.inode_file.InodeFile.commit_set.Goals as goal

pub returns : goal.returns
returns c =
    let old = c.args.self.now.slots in
    let new = c.insert.new.self in
    let number = c.args.number in
    let object = c.args.object in
    let before = c.args.self.now.numbers.bytes.items in
    let after = c.note.new.self.bytes.items in
    let up = puts old new number (Changed object) c.insert.result c.insert.ensures.updates c.insert.ensures.absent c.requires.room in
    let noted = subst (λ (b : Bool). Notes number b before after) c.is_some.ensures (record { here = c.note.ensures.here; own = c.note.ensures.own; others = c.note.ensures.others }) in
    record {
      geometry = refl;
      file = refl;
      stays = λ n known. each_slot old new number (Some (Changed object)) up IsKnownSlot tt n known;
      keeps = λ n room. each_slot old new number (Some (Changed object)) up IsSome refl n room;
      set = λ disk settled n. contents_with old new number (Some (Changed object)) up disk settled (option_map (content_of_object disk) object) refl n;
      volume = λ count disk settled v node is stands. record {
        inodes = is.inodes;
        mapped = note_maps _ disk c.args.self.now.geometry.inodes (settled number) before after v number object node is.mapped noted stands;
        own = own_stay number node v c.requires.low is.own;
        objects = set_stands _ disk c.args.self.now.geometry.inodes settled old new number (Some (Changed object)) up v object node refl (λ n ne. is.objects n) stands;
      };
      back = λ was count disk settled v node is stands. record {
        inodes = is.inodes;
        mapped = note_maps _ disk c.args.self.now.geometry.inodes (settled number) before after v number object node is.mapped noted stands;
        own = own_stay number node v c.requires.low is.own;
        objects = set_stands _ disk c.args.self.now.geometry.inodes settled old new number (Some (Changed object)) up v object node refl is.others stands;
      };
      loaded = ap slot_object up.1;
      rest = other_objects old new number (Some (Changed object)) up;
      changed = subst IsChangedSlot (sym up.1) tt;
      others = other_changes old new number (Some (Changed object)) up;
      slot = up.1;
      slots = λ n ne. other_slot old new number n (Some (Changed object)) up ne;
      room = λ before base v node sizes same.
          let sum = given_room base v before.slots new c.args.self.now.geometry.inodes number (Some (Changed object)) node c.requires.high up.1
          (λ n ne. other_slot old new number n (Some (Changed object)) up ne ∙ same n ne) in
          subst (λ (g : Sizes). sum_below (λ n. room_of (get nat_cmp new n) (base n) (with_node number node v n)) c.args.self.now.geometry.inodes + number_room base before v number
          ≡ sum_below (number_room base before v) g.inodes + room_of (Some (Changed object)) (base number) node) sizes sum;
    }
