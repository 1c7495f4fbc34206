-- What updates and steps add to what a consistency point may store.
use Rattle.std.proofs.Common.{◌≡◌, ◌∙◌, ℕ, zero, suc, ◌+◌, ◌≤◌, List, Bool, true, false, Option, Some, None, IsTrue, if◌then◌else◌, refl, ap, sym, subst, arith}
use Rattle.std.specs.Ordering.{nat_cmp}
use Rattle.std.specs.BTreeMap.{get}
use Rattle.std.proofs.lemmas.Bool.{false≢true}
use Rattle.layout.specs.DirectoryNames.{NameMap}
use Rattle.layout.specs.declared.inode.Inode.{Inode}
use Rattle.model.specs.declared.attributes.Attributes.{Attributes}
use Rattle.model.specs.Attributes.{set_mode}
use Rattle.model.specs.Records.{with_file_bytes}
use Rattle.model.specs.Volumes.{Node, Volume, directory_node, file_node, link_node, is_file_node, is_orphan}
use Rattle.dirs.specs.Room.{piece_count}
use Rattle.dirs.specs.declared.edit.Edit.{Edit}
use Rattle.inode.specs.Room.{edit_room, file_room}
use Rattle.inode.specs.declared.file_update.FileUpdate.{FileUpdate}
use Rattle.inode.specs.declared.object.Object.{Object}
use Rattle.inofile.specs.Inodes.{loaded}
use Rattle.images.specs.Soundness.{Detail}
use Rattle.inofile.specs.Objects.{IsObjectOrNone}
use Rattle.inofile.specs.Room.{orphan_room, room_of, slot_room}
use Rattle.inofile.specs.Volumes.{IsVolumeIn}
use Rattle.inofile.specs.declared.inode_file.InodeFile.{InodeFile}
use Rattle.inofile.specs.declared.inode_file.ObjectSlot.{ObjectSlot}
use Rattle.inofile.specs.declared.inode_file.ObjectSlot.TheVariants.{Changed}
use Rattle.inofile.proofs.RoomLaws.{changed_room, gone_room, known_room, moved_once, unnamed_room}
use Rattle.records.specs.Entering.{EditsIn, with_node_names}
use Rattle.records.specs.Plans.{AreBeside}
use Rattle.records.specs.Room.{CountsObject, RaisesFile, SomeRoom, StoresIn, UpdateRoom}
use Rattle.records.specs.Steps.{Commits, with_given_mode, with_node_links}
use Rattle.records.specs.declared.steps.ObjectUpdate.{ObjectUpdate}
use Rattle.records.specs.declared.steps.Update.TheVariants as updates

-- ---- one number

most_orphans : (o : Option Node) → orphan_room o ≤ 4
most_orphans o = of_bool (is_orphan o)
  where
    of_bool : (b : Bool) → (if b then 4 else 0) ≤ 4
    of_bool true = omega arith
    of_bool false = omega arith

-- the number gets this object, or none
pub set_room : (detail : Detail) (disk : ℕ → List ℕ) (inodes : ℕ) (settled : Inode) (slot : Option ObjectSlot) (base found to : Option Node) (was object : Option Object) (k : ℕ)
    → IsObjectOrNone detail disk inodes settled object to → UpdateRoom was (updates.Set object) k → room_of (Some (Changed object)) base to ≤ room_of slot base found + k
set_room detail disk inodes settled slot base found to was None k none room =
    subst (λ (o : Option Node). room_of (Some (Changed None)) base o ≤ room_of slot base found + k) (sym none) (omega (arith, gone_room slot base found, room))
set_room detail disk inodes settled slot base found to was (Some new) k is room = omega (arith, room, most_orphans to, moved_once base to)

module _ (detail : Detail) (disk : ℕ → List ℕ) (inodes : ℕ) (settled : Inode) (slot : Option ObjectSlot) (base : Option Node) where
  -- its file needs more: it has a name if it had one, and else it may lose it
  pub more : (old new : Node) (o : Object) (after : Option Object) (k : ℕ) → file_room o.file ≤ slot_room slot → RaisesFile (Some o) after k → orphan_room (Some new) ≤ orphan_room (Some old)
      → room_of (Some (Changed after)) base (Some new) ≤ room_of slot base (Some old) + (k + 2)
  more old new o after k had raises names =
      let p = raises o refl in
      subst (λ (x : Option Object). room_of (Some (Changed x)) base (Some new) ≤ room_of slot base (Some old) + (k + 2)) (sym p.1) (changed_room slot base old new o p.0 k had p.2 names)

  less : (old new : Node) (o : Object) (after : Option Object) → file_room o.file ≤ slot_room slot → RaisesFile (Some o) after 0
      → room_of (Some (Changed after)) base (Some new) ≤ room_of slot base (Some old) + 6
  less old new o after had raises =
      let p = raises o refl in
      subst (λ (x : Option Object). room_of (Some (Changed x)) base (Some new) ≤ room_of slot base (Some old) + 6) (sym p.1)
      (unnamed_room slot base old new o p.0 0 had p.2 (most_orphans (Some new)))

  -- a directory has other names
  pub names_room : (found : Option Node) (was after : Option Object) (edit : Edit) (k : ℕ) (f : NameMap → NameMap) → EditsIn disk inodes f found was edit → CountsObject was slot
      → RaisesFile was after (edit_room (piece_count edit)) → UpdateRoom was (updates.Names edit) k → room_of (Some (Changed after)) base (with_node_names f found) ≤ room_of slot base found + k
  names_room found None after edit k f edits had raises room = absurd edits
  names_room found (Some o) after edit k f edits had raises room =
      subst (λ (x : Option Node). room_of (Some (Changed after)) base (with_node_names f x) ≤ room_of slot base x + k) (sym edits.stands)
      (omega (
        arith,
        room,
        more (directory_node o.status.attributes edits.names) (directory_node o.status.attributes (f edits.names)) o after (edit_room (piece_count edit)) had raises (omega arith),
      ))

  -- a file has other bytes, and a mode, where it is given
  pub bytes_room : (found : Option Node) (was after : Option Object) (f : List ℕ → List ℕ) (change : FileUpdate) (mode : Option ℕ) (k : ℕ) → IsObjectOrNone detail disk inodes settled was found → IsTrue (is_file_node found)
      → CountsObject was slot → ((m : ℕ) → StoresIn was change m → RaisesFile was after m) → UpdateRoom was (updates.Bytes change mode) k
      → room_of (Some (Changed after)) base (with_given_mode mode (with_file_bytes f found)) ≤ room_of slot base found + k
  bytes_room None was after f change mode k is file had raises room = absurd (false≢true file)
  bytes_room (Some (link_node attributes text)) was after f change mode k is file had raises room = absurd (false≢true file)
  bytes_room (Some (directory_node old names)) was after f change mode k is file had raises room = absurd (false≢true file)
  bytes_room (Some (file_node attributes links bytes)) None after f change mode k is file had raises room = absurd cc
  bytes_room (Some (file_node attributes links bytes)) (Some o) after f change mode k is file had raises room = by mode links
    where
      -- its count of names is the same
      same : (a b : Attributes) (n : ℕ) (x y : List ℕ) → orphan_room (Some (file_node a n x)) ≤ orphan_room (Some (file_node b n y))
      same a b zero x y = omega arith
      same a b (suc n) x y = omega arith

      by : (mode : Option ℕ) (n : ℕ) → room_of (Some (Changed after)) base (with_given_mode mode (Some (file_node attributes n (f bytes)))) ≤ room_of slot base (Some (file_node attributes n bytes)) + k
      by None n =
          omega (arith, room.1, more (file_node attributes n bytes) (file_node attributes n (f bytes)) o after room.0 had (raises room.0 room.2) (same attributes attributes n (f bytes) bytes))
      by (Some mode) n =
          omega (arith, room.1, more (file_node attributes n bytes) (file_node (set_mode mode attributes) n (f bytes)) o after room.0 had (raises room.0 room.2) (same (set_mode mode attributes) attributes n (f bytes) bytes))

  -- a file has so many names
  pub links_room : (found : Option Node) (was after : Option Object) (links k : ℕ) → IsObjectOrNone detail disk inodes settled was found → IsTrue (is_file_node found)
      → CountsObject was slot → RaisesFile was after 0 → 6 ≤ k → room_of (Some (Changed after)) base (with_node_links links found) ≤ room_of slot base found + k
  links_room None was after links k is file had raises room = absurd (false≢true file)
  links_room (Some (link_node attributes text)) was after links k is file had raises room = absurd (false≢true file)
  links_room (Some (directory_node old names)) was after links k is file had raises room = absurd (false≢true file)
  links_room (Some (file_node attributes old bytes)) None after links k is file had raises room = absurd cc
  links_room (Some (file_node attributes old bytes)) (Some o) after links k is file had raises room =
      omega (arith, room, less (file_node attributes old bytes) (file_node attributes links bytes) o after had raises)

-- what is in memory of a number counts the object that it has there
pub counts_object : (detail : Detail) (count : ℕ) (disk : ℕ → List ℕ) (settled : ℕ → Inode) (s : InodeFile) (v : Volume) (n : ℕ) (o : Option Object) → IsVolumeIn detail count disk settled s v
    → o ≡ loaded s n → CountsObject o (get nat_cmp s.slots n)
counts_object detail count disk settled s v n None is same = tt
counts_object detail count disk settled s v n (Some o) is same = known_room detail count disk settled s v n o is (sym same)

-- an object is this one then
pub raises_to : {old : Option Object} {was : Object} (new : Object) (k : ℕ) → old ≡ Some was → file_room new.file ≤ file_room was.file + k → RaisesFile old (Some new) k
raises_to {was = was} new k is few o there =
    let both : Some was ≡ Some o = sym is ∙ there in
    let same : was ≡ o = cc in
    (new, refl, subst (λ (x : Object). file_room new.file ≤ file_room x.file + k) same few)

-- four are kept for an orphan
pub orphan_is : (o : Option Node) → is_orphan o ≡ true → orphan_room o ≡ 4
orphan_is o is = ap (λ (b : Bool). if b then 4 else 0) is

-- ---- steps behind another one

module _ {s t : InodeFile} where
  -- a step, if there is one, raises no more behind one that there may be
  pub room_behind : (other step : Option ObjectUpdate) (k : ℕ) → Commits s t other → AreBeside other step → SomeRoom s step k → SomeRoom t step k
  room_behind other None k commits beside room = tt
  room_behind None (Some step) k commits beside room = subst (λ (o : Option Object). UpdateRoom o step.update k) (sym (commits.rest step.number tt)) room
  room_behind (Some other) (Some step) k commits beside room =
      subst (λ (o : Option Object). UpdateRoom o step.update k) (sym (commits.rest step.number (λ e. beside (sym e)))) room

-- what is raised twice
pub raises_then : {a b c : Option Object} (k : ℕ) → RaisesFile a b k → RaisesFile b c 0 → RaisesFile a c k
raises_then k first second o is =
    let p = first o is in
    let q = second p.0 p.1 in
    let one = p.2 in
    let two = q.2 in
    (q.0, q.1, omega (arith, one, two))
