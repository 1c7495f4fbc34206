use Rattle.std.proofs.Common.{◌+◌, ◌≤◌, Option, Some, sym, subst, arith}
use Rattle.model.specs.Attributes.{set_given}
use Rattle.model.specs.Volumes.{Node}
use Rattle.inofile.specs.Objects.{IsObjectOrNone}
use Rattle.inofile.specs.Room.{room_of}
use Rattle.inofile.specs.declared.inode_file.ObjectSlot.TheVariants.{Changed}
use Rattle.records.specs.Room.{UpdateRoom}
use Rattle.records.specs.Steps.{FitsUpdate, Updates}
use Rattle.records.specs.declared.steps.Update.{Update}
use Rattle.records.proofs.MarkLaws.{touched_room}
use Rattle.records.proofs.RoomLaws.{bytes_room, links_room, names_room, set_room}
use Rattle.records.proofs.steps.update_object.Goals as goal

pub commit_edit-requires : goal.commit_edit-requires
commit_edit-requires c = subst (FitsUpdate c.args.object.now) c.in-Names.is c.requires

pub commit_file-requires : goal.commit_file-requires
commit_file-requires c = subst (FitsUpdate c.args.object.now) c.in-Bytes.is c.requires

pub returns-in-Set-clause-updates : goal.returns-in-Set-clause-updates
returns-in-Set-clause-updates c = λ detail disk inodes settled found to stands updates.
    subst (λ (u : Update). Updates detail disk inodes settled found c.args.object.now u to) c.in-Set.is updates

pub returns-in-Names-clause-updates : goal.returns-in-Names-clause-updates
returns-in-Names-clause-updates c = λ detail disk inodes settled found to stands updates.
    let up = subst (λ (u : Update). Updates detail disk inodes settled found c.args.object.now u to) c.in-Names.is updates in
    subst (λ (o : Option Node). IsObjectOrNone detail disk inodes settled c.commit_edit.new.object o) (sym up.2) (c.commit_edit.ensures.edits detail disk inodes settled found up.0 stands up.1)

pub returns-in-Attributes-clause-updates : goal.returns-in-Attributes-clause-updates
returns-in-Attributes-clause-updates c = λ detail disk inodes settled found to stands updates.
    let up = subst (λ (u : Update). Updates detail disk inodes settled found c.args.object.now u to) c.in-Attributes.is updates in
    subst (λ (o : Option Node). IsObjectOrNone detail disk inodes settled c.set_attributes.new.object o) (sym up.1) (c.set_attributes.ensures.sets detail disk inodes settled found stands up.0)

pub returns-in-Bytes-clause-updates : goal.returns-in-Bytes-clause-updates
returns-in-Bytes-clause-updates c = λ detail disk inodes settled found to stands updates.
    let up = subst (λ (u : Update). Updates detail disk inodes settled found c.args.object.now u to) c.in-Bytes.is updates in
    subst (λ (o : Option Node). IsObjectOrNone detail disk inodes settled c.commit_file.new.object o) (sym up.3) (c.commit_file.ensures.rewrites detail disk inodes settled found up.0 stands up.1 up.2)

pub returns-in-Links-clause-updates : goal.returns-in-Links-clause-updates
returns-in-Links-clause-updates c = λ detail disk inodes settled found to stands updates.
    let up = subst (λ (u : Update). Updates detail disk inodes settled found c.args.object.now u to) c.in-Links.is updates in
    subst (λ (o : Option Node). IsObjectOrNone detail disk inodes settled c.set_links.new.object o) (sym up.2) (c.set_links.ensures.sets detail disk inodes settled found stands up.0 up.1)

pub returns-in-Set-clause-room : goal.returns-in-Set-clause-room
returns-in-Set-clause-room c = λ detail disk inodes settled base found to slot k stands updates had room.
    let up = subst (λ (u : Update). Updates detail disk inodes settled found c.args.object.now u to) c.in-Set.is updates in
    let few = subst (λ (u : Update). UpdateRoom c.args.object.now u k) c.in-Set.is room in
    set_room detail disk inodes settled slot base found to c.args.object.now c.in-Set.new k up few

pub returns-in-Names-clause-room : goal.returns-in-Names-clause-room
returns-in-Names-clause-room c = λ detail disk inodes settled base found to slot k stands updates had room.
    let up = subst (λ (u : Update). Updates detail disk inodes settled found c.args.object.now u to) c.in-Names.is updates in
    let few = subst (λ (u : Update). UpdateRoom c.args.object.now u k) c.in-Names.is room in
    subst (λ (o : Option Node). room_of (Some (Changed c.commit_edit.new.object)) base o ≤ room_of slot base found + k) (sym up.2)
    (names_room detail disk inodes settled slot base found c.args.object.now c.commit_edit.new.object c.in-Names.edit k up.0 up.1 had c.commit_edit.ensures.room few)

pub returns-in-Attributes-clause-room : goal.returns-in-Attributes-clause-room
returns-in-Attributes-clause-room c = λ detail disk inodes settled base found to slot k stands updates had room.
    let up = subst (λ (u : Update). Updates detail disk inodes settled found c.args.object.now u to) c.in-Attributes.is updates in
    let few = subst (λ (u : Update). UpdateRoom c.args.object.now u k) c.in-Attributes.is room in
    let f = set_given c.in-Attributes.permissions c.in-Attributes.modified in
    let raised = touched_room detail disk inodes settled slot base f found c.args.object.now c.set_attributes.new.object stands
    (c.set_attributes.ensures.sets detail disk inodes settled found stands up.0) had c.set_attributes.ensures.room in
    subst (λ (o : Option Node). room_of (Some (Changed c.set_attributes.new.object)) base o ≤ room_of slot base found + k) (sym up.1) (omega (arith, raised, few))

pub returns-in-Bytes-clause-room : goal.returns-in-Bytes-clause-room
returns-in-Bytes-clause-room c = λ detail disk inodes settled base found to slot k stands updates had room.
    let up = subst (λ (u : Update). Updates detail disk inodes settled found c.args.object.now u to) c.in-Bytes.is updates in
    let few = subst (λ (u : Update). UpdateRoom c.args.object.now u k) c.in-Bytes.is room in
    subst (λ (o : Option Node). room_of (Some (Changed c.commit_file.new.object)) base o ≤ room_of slot base found + k) (sym up.3)
    (bytes_room detail disk inodes settled slot base found c.args.object.now c.commit_file.new.object up.0 c.in-Bytes.change c.in-Bytes.mode k stands up.1 had c.commit_file.ensures.room few)

pub returns-in-Links-clause-room : goal.returns-in-Links-clause-room
returns-in-Links-clause-room c = λ detail disk inodes settled base found to slot k stands updates had room.
    let up = subst (λ (u : Update). Updates detail disk inodes settled found c.args.object.now u to) c.in-Links.is updates in
    let few = subst (λ (u : Update). UpdateRoom c.args.object.now u k) c.in-Links.is room in
    subst (λ (o : Option Node). room_of (Some (Changed c.set_links.new.object)) base o ≤ room_of slot base found + k) (sym up.2)
    (links_room detail disk inodes settled slot base found c.args.object.now c.set_links.new.object c.in-Links.links k stands up.0 had c.set_links.ensures.room few)
