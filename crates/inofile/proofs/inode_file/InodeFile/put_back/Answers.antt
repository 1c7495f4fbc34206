use Rattle.std.proofs.Common.{Option, Some, refl, sym, subst}
use Rattle.std.specs.Ordering.{nat_cmp}
use Rattle.std.specs.BTreeMap.{get, Updates}
use Rattle.inofile.specs.Volumes.{SlotStandsFor}
use Rattle.inofile.specs.declared.inode_file.ObjectSlot.{ObjectSlot}
use Rattle.inofile.proofs.VolumeLaws.{all_stand, back_stands, inserted, known_some}
use Rattle.inofile.proofs.inode_file.InodeFile.put_back.Goals as goal

pub returns-clause-volume : goal.returns-clause-volume
returns-clause-volume c = λ detail was count disk settled v is same stays. record {
  inodes = is.inodes;
  mapped = is.mapped;
  own = is.own;
  objects = all_stand detail disk c.args.self.now.geometry.inodes settled c.args.self.now.slots c.insert.new.self c.args.number (Some c.slot_with-slot.result)
      (inserted c.insert.result (Updates nat_cmp c.args.self.now.slots c.insert.new.self c.args.number (Some c.slot_with-slot.result)) (get nat_cmp c.args.self.now.slots c.args.number)
      c.insert.ensures.updates c.insert.ensures.absent (known_some (get nat_cmp c.args.self.now.slots c.args.number) c.requires)) v v (λ n ne. refl) is.others
      (subst (λ (x : Option ObjectSlot). SlotStandsFor detail disk c.args.self.now.geometry.inodes (settled c.args.number) x (v c.args.number)) (sym c.slot_with-slot.ensures)
      (back_stands detail disk c.args.self.now.geometry.inodes (settled c.args.number) (get nat_cmp c.args.self.now.slots c.args.number) was c.args.object (v c.args.number) c.requires same stays is.taken));
}
