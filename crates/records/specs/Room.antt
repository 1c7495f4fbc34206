-- By how much updates and steps may raise what a consistency point may store.
use Rattle.std.specs.Prelude.{ℕ, ◌≡◌, ◌+◌, ◌≤◌, Option, Some, None, IfSome}
use Rattle.layout.specs.StateLimits.{costs_of}
use Rattle.layout.specs.declared.trees.Layout.TheVariants.{Plain}
use Rattle.model.specs.declared.costs.Costs.{Costs}
use Rattle.dirs.specs.Room.{piece_count}
use Rattle.inode.specs.Room.{StoresMore, edit_room, file_room}
use Rattle.inode.specs.declared.file_update.FileUpdate.{FileUpdate}
use Rattle.inode.specs.declared.object.Object.{Object}
use Rattle.inofile.specs.Inodes.{loaded}
use Rattle.inofile.specs.Room.{slot_room}
use Rattle.inofile.specs.declared.inode_file.InodeFile.{InodeFile}
use Rattle.inofile.specs.declared.inode_file.ObjectSlot.{ObjectSlot}
use Rattle.records.specs.declared.steps.ObjectUpdate.{ObjectUpdate}
use Rattle.records.specs.declared.steps.Update.{Update}
use Rattle.records.specs.declared.steps.Update.TheVariants as updates

-- a change of the object's bytes stores so many blocks more at the most
abbrev pub StoresIn : Option Object → FileUpdate → ℕ → Type 0
StoresIn o change k = IfSome o (λ x. StoresMore x.file change k)

-- an update of an object raises what its number needs by so much at the most
abbrev pub UpdateRoom : Option Object → Update → ℕ → Type 0
UpdateRoom o (updates.Set None) k = 3 ≤ k
UpdateRoom o (updates.Set (Some object)) k = 7 + file_room object.file ≤ k
UpdateRoom o (updates.Names edit) k = edit_room (piece_count edit) + 2 ≤ k
UpdateRoom o (updates.Attributes permissions modified) k = 2 ≤ k
UpdateRoom o (updates.Bytes change mode) k = (more : ℕ) × (more + 2 ≤ k) × StoresIn o change more
UpdateRoom o (updates.Links links) k = 6 ≤ k

-- a new object's file needs so few blocks: those of the longest text of a link, and of the places
-- over them
abbrev pub HasRoomOfNew : Object → Type 0
HasRoomOfNew o = file_room o.file ≤ 5

-- where there is an object, there is one then, whose file needs so many blocks more at the most
abbrev pub RaisesFile : Option Object → Option Object → ℕ → Type 0
RaisesFile old new k =
    (o : Object) → old ≡ Some o → (p : Object) × (new ≡ Some p) × (file_room p.file ≤ file_room o.file + k)

-- so does a step
abbrev pub StepRoom : InodeFile → ObjectUpdate → ℕ → Type 0
StepRoom s step k = UpdateRoom (loaded s step.number) step.update k

-- and a step, if there is one
abbrev pub SomeRoom : InodeFile → Option ObjectUpdate → ℕ → Type 0
SomeRoom s None k = Unit {0}
SomeRoom s (Some step) k = StepRoom s step k

-- what memory has of a number counts the object that it has there
abbrev pub CountsObject : Option Object → Option ObjectSlot → Type 0
CountsObject o slot = IfSome o (λ x. file_room x.file ≤ slot_room slot)

-- what the steps of a record's edit cost, without the objects that it touches beside them: what the
-- record does on a file system that keeps no times, where a removal asks for more than its steps do
abbrev pub step_costs : Costs
step_costs = record (costs_of Plain 0) { removes_name = 13 }
