-- What an update of a number adds to what a consistency point may store.
use Rattle.std.proofs.Common.{◌≡◌, ◌≢◌, ◌∙◌, ℕ, zero, suc, ◌+◌, ◌*◌, ◌<◌, ◌≤◌, inl, inr, true, false, refl, ap, sym, subst, arith, List, Option, Some, None}
use Rattle.std.specs.Prelude.{if◌then◌else◌, Bool}
use Rattle.std.specs.Ordering.{nat_cmp}
use Rattle.std.specs.BTreeMap.{BTreeMap, get, Updates}
use Rattle.std.proofs.lemmas.Bool.{cases_eq}
use Rattle.layout.specs.declared.inode.Inode.{Inode}
use Rattle.model.specs.Records.{count_orphans}
use Rattle.model.specs.Volumes.{Node, Volume, is_orphan, with_node}
use Rattle.model.proofs.ObjectLaws.{node_here, node_other}
use Rattle.images.specs.Sums.{sum_below}
use Rattle.images.proofs.SumLaws.{change_at, sums_each}
use Rattle.images.specs.Soundness.{Detail}
use Rattle.inode.specs.Room.{file_room}
use Rattle.inode.specs.declared.object.Object.{Object}
use Rattle.inode.proofs.RoomLaws.{loaded_none, same_room}
use Rattle.inofile.specs.Inodes.{loaded, slot_object, HasNoChange, IsChangedSlot}
use Rattle.inofile.specs.Objects.{IsSameOrNone, IsUntouched}
use Rattle.inofile.specs.Room.{has_moved, memory_room, orphan_room, number_room, room_of, slot_room, NeedsNoMore}
use Rattle.inofile.specs.Volumes.{IsVolumeIn, SlotStandsFor, slot_with}
use Rattle.inofile.specs.declared.inode_file.ObjectSlot.{ObjectSlot}
use Rattle.inofile.specs.declared.inode_file.ObjectSlot.TheVariants.{AsSettled, Loaded, Changed}
use Rattle.inofile.specs.declared.inode_file.InodeFile.{InodeFile}
use Rattle.inofile.proofs.VolumeLaws.{other_slot}

-- ---- one number that is set

pub given_room : (base v : Volume) (before after : BTreeMap ℕ ObjectSlot) (inodes number : ℕ) (slot : Option ObjectSlot) (node : Option Node) → number < inodes
    → get nat_cmp after number ≡ slot → ((n : ℕ) → n ≢ number → get nat_cmp after n ≡ get nat_cmp before n)
    → sum_below (λ n. room_of (get nat_cmp after n) (base n) (with_node number node v n)) inodes + room_of (get nat_cmp before number) (base number) (v number)
    ≡ sum_below (λ n. room_of (get nat_cmp before n) (base n) (v n)) inodes + room_of slot (base number) node
given_room base v before after inodes number slot node high there rest =
    let f : ℕ → ℕ = λ n. room_of (get nat_cmp after n) (base n) (with_node number node v n) in
    let g : ℕ → ℕ = λ n. room_of (get nat_cmp before n) (base n) (v n) in
    let others : (k : ℕ) → k ≢ number → f k ≡ g k = λ k ne.
    ap (λ (x : Option ObjectSlot). room_of x (base k) (with_node number node v k)) (rest k ne)
    ∙ ap (λ (o : Option Node). room_of (get nat_cmp before k) (base k) o) (node_other number k node v ne) in
    let here : f number ≡ room_of slot (base number) node =
    ap (λ (x : Option ObjectSlot). room_of x (base number) (with_node number node v number)) there
    ∙ ap (λ (o : Option Node). room_of slot (base number) o) (node_here number number node v refl) in
    let sums = change_at f g number inodes high others in
    omega (arith, sums, here)

-- a number that needs nothing is set
pub set_needs : (old new : BTreeMap ℕ ObjectSlot) (number : ℕ) (slot : Option ObjectSlot) → slot_room slot ≡ 0 → Updates nat_cmp old new number slot
    → (n k : ℕ) → slot_room (get nat_cmp old n) ≤ k → slot_room (get nat_cmp new n) ≤ k
set_needs old new number slot none up n k le = elim (cases_eq n number) [
  | inl e ↦
      let here : slot_room (get nat_cmp new n) ≡ 0 = ap (λ (m : ℕ). slot_room (get nat_cmp new m)) e ∙ ap slot_room up.1 ∙ none in
      omega (arith, here)
  | inr ne ↦ subst (λ (x : Option ObjectSlot). slot_room x ≤ k) (sym (other_slot old new number n slot up ne)) le
]

same_slot : (slot : Option ObjectSlot) (was now : Option Object) → IsSameOrNone was now → slot_room (slot_with now slot) ≤ slot_room (slot_with was slot)
same_slot None was now same = omega arith
same_slot (Some AsSettled) was now same = omega arith
same_slot (Some (Loaded out)) was now same = omega arith
same_slot (Some (Changed out)) None None same = omega arith
same_slot (Some (Changed out)) None (Some o) same = absurd same
same_slot (Some (Changed out)) (Some o) None same = absurd same
same_slot (Some (Changed out)) (Some old) (Some new) same = omega (arith, same_room old.file new.file same.file)

-- an object is taken out, prepared, and put back
pub back_needs : (before taken after : InodeFile) (number : ℕ) (was now : Option Object) → IsSameOrNone was now
    → ((n : ℕ) → n ≢ number → get nat_cmp taken.slots n ≡ get nat_cmp before.slots n) → slot_with was (get nat_cmp taken.slots number) ≡ get nat_cmp before.slots number
    → ((n : ℕ) → n ≢ number → get nat_cmp after.slots n ≡ get nat_cmp taken.slots n) → get nat_cmp after.slots number ≡ slot_with now (get nat_cmp taken.slots number)
    → NeedsNoMore before after
back_needs before taken after number was now same out back others here n k le = elim (cases_eq n number) [
  | inr ne ↦ subst (λ (x : Option ObjectSlot). slot_room x ≤ k) (sym (others n ne ∙ out n ne)) le
  | inl e ↦
      let needed : slot_room (get nat_cmp before.slots number) ≤ k = subst (λ (m : ℕ). slot_room (get nat_cmp before.slots m) ≤ k) e le in
      let first : slot_room (slot_with was (get nat_cmp taken.slots number)) ≡ slot_room (get nat_cmp before.slots number) = ap slot_room back in
      let last : slot_room (get nat_cmp after.slots number) ≡ slot_room (slot_with now (get nat_cmp taken.slots number)) = ap slot_room here in
      subst (λ (m : ℕ). slot_room (get nat_cmp after.slots m) ≤ k) (sym e) (omega (arith, needed, first, last, same_slot (get nat_cmp taken.slots number) was now same))
]

-- where no number needs more, neither does memory
pub needs_room : (base v : Volume) (old new : InodeFile) → new.geometry ≡ old.geometry → NeedsNoMore old new → memory_room base new v ≤ memory_room base old v
needs_room base v old new sizes needs =
    let each : (n : ℕ) → number_room base new v n ≤ number_room base old v n = λ n. omega (arith, needs n (slot_room (get nat_cmp old.slots n)) (omega arith)) in
    let count : memory_room base new v ≡ sum_below (number_room base new v) old.geometry.inodes = cc sizes in
    omega (arith, count, sums_each (number_room base new v) (number_room base old v) old.geometry.inodes each)

-- ---- objects in memory

-- a loaded object needs nothing
pub untouched_room : (o : Object) → IsUntouched o → file_room o.file ≡ 0
untouched_room o is = loaded_none o.file is.kept is.count is.depth is.none is.few

slot_has : (detail : Detail) (disk : ℕ → List ℕ) (inodes : ℕ) (settled : Inode) (slot : Option ObjectSlot) (found : Option Node) (o : Object) → SlotStandsFor detail disk inodes settled slot found
    → slot_object slot ≡ Some o → file_room o.file ≤ slot_room slot
slot_has detail disk inodes settled None found o stands is = absurd cc
slot_has detail disk inodes settled (Some AsSettled) found o stands is = absurd cc
slot_has detail disk inodes settled (Some (Loaded None)) found o stands is = absurd cc
slot_has detail disk inodes settled (Some (Loaded (Some p))) found o stands is =
    let same : p ≡ o = cc in
    let none = subst (λ (x : Object). file_room x.file ≡ 0) same (untouched_room p stands.0.1) in
    omega (arith, none)
slot_has detail disk inodes settled (Some (Changed None)) found o stands is = absurd cc
slot_has detail disk inodes settled (Some (Changed (Some p))) found o stands is =
    let same : p ≡ o = cc in
    subst (λ (x : Object). file_room x.file ≤ 2 + file_room p.file) same (omega arith)

-- what is in memory of a number has room for the file that it has there
pub known_room : (detail : Detail) (count : ℕ) (disk : ℕ → List ℕ) (settled : ℕ → Inode) (s : InodeFile) (v : Volume) (n : ℕ) (o : Object) → IsVolumeIn detail count disk settled s v
    → loaded s n ≡ Some o → file_room o.file ≤ slot_room (get nat_cmp s.slots n)
known_room detail count disk settled s v n o is there = slot_has detail disk s.geometry.inodes (settled n) (get nat_cmp s.slots n) (v n) o (is.objects n) there

-- ---- the updates, where what memory has of the number is an object whose file needs no more than that

-- a number moves once
pub moved_once : (a b : Option Node) → has_moved a b ≤ 1
moved_once None None = omega arith
moved_once None (Some b) = omega arith
moved_once (Some a) None = omega arith
moved_once (Some a) (Some b) = omega arith

-- a file or directory is changed, and needs so many blocks more; it has a name if it had one
pub changed_room : (slot : Option ObjectSlot) (settled : Option Node) (old new : Node) (o p : Object) (k : ℕ) → file_room o.file ≤ slot_room slot → file_room p.file ≤ file_room o.file + k
    → orphan_room (Some new) ≤ orphan_room (Some old) → room_of (Some (Changed (Some p))) settled (Some new) ≤ room_of slot settled (Some old) + (k + 2)
changed_room slot None old new o p k had needs names = omega (arith, had, needs, names)
changed_room slot (Some was) old new o p k had needs names = omega (arith, had, needs, names)

-- the same where it may lose its last name
pub unnamed_room : (slot : Option ObjectSlot) (settled : Option Node) (old new : Node) (o p : Object) (k : ℕ) → file_room o.file ≤ slot_room slot → file_room p.file ≤ file_room o.file + k
    → orphan_room (Some new) ≤ 4 → room_of (Some (Changed (Some p))) settled (Some new) ≤ room_of slot settled (Some old) + (k + 6)
unnamed_room slot None old new o p k had needs names = omega (arith, had, needs, names)
unnamed_room slot (Some was) old new o p k had needs names = omega (arith, had, needs, names)

-- an object is made
pub made_room : (slot : Option ObjectSlot) (settled now : Option Node) (new : Node) (p : Object) → orphan_room (Some new) ≡ 0
    → room_of (Some (Changed (Some p))) settled (Some new) ≤ room_of slot settled now + (3 + file_room p.file)
made_room slot settled now new p named = omega (arith, moved_once settled (Some new), named)

-- one goes
pub gone_room : (slot : Option ObjectSlot) (settled now : Option Node) → room_of (Some (Changed None)) settled None ≤ room_of slot settled now + 3
gone_room slot settled now = omega (arith, moved_once settled None)

-- an orphan goes, and nothing more is needed
pub dropped_room : (slot : Option ObjectSlot) (settled now : Option Node) → orphan_room now ≡ 4 → room_of (Some (Changed None)) settled None ≤ room_of slot settled now
dropped_room slot settled now orphans = omega (arith, moved_once settled None, orphans)

-- ---- memory without a change

no_change : (slot : Option ObjectSlot) → (IsChangedSlot slot → ⊥) → slot_room slot ≡ 0
no_change None not = refl
no_change (Some AsSettled) not = refl
no_change (Some (Loaded object)) not = refl
no_change (Some (Changed object)) not = absurd (not tt)

unmoved : (o : Option Node) → has_moved o o ≡ 0
unmoved None = refl
unmoved (Some node) = refl

pub orphan_four : (o : Option Node) → orphan_room o ≡ 4 * (if is_orphan o then 1 else 0)
orphan_four o = of_bool (is_orphan o)
  where
    of_bool : (b : Bool) → (if b then 4 else 0) ≡ 4 * (if b then 1 else 0)
    of_bool true = refl
    of_bool false = refl

-- behind a point, and as an image is opened, what is kept for the orphans is all
pub clean_room : (s : InodeFile) (v : Volume) → HasNoChange s → (n : ℕ) → sum_below (number_room v s v) n ≡ 4 * count_orphans n v
unfolding sum_below
clean_room s v none zero = refl
clean_room s v none (suc n) = omega (arith, clean_room s v none n, no_change (get nat_cmp s.slots n) (none n), unmoved (v n), orphan_four (v n))
