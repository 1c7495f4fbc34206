-- What is pledged of the disk's blocks, and what of them is free.
use Rattle.std.proofs.Common.{◌≡◌, ◌∙◌, inl, inr, ℕ, zero, suc, ◌+◌, ◌*◌, ◌≤◌, List, [], ◌∷◌, ◌++◌, Option, Some, None, Bool, true, false, refl, replicate, ap, sym, arith}
use Rattle.std.specs.Prelude.{IsTrue, IsFalse, if◌then◌else◌, ◌==◌}
use Rattle.std.proofs.lemmas.Bool.{cases_lt}
use Rattle.std.proofs.lemmas.List.{length-replicate}
use Rattle.model.specs.declared.session.Session.{Session}
use Rattle.model.specs.declared.limits.Limits.{Limits}
use Rattle.layout.specs.Limits.{Sizes}
use Rattle.layout.specs.Places.{blocks_of}
use Rattle.model.specs.Attributes.{no_attributes}
use Rattle.model.specs.Records.{Change, Edit, Replays, applied, cost_of_all, count_orphans, pledged_for, work_of, create, link, remove_name, rename, write, truncate, change_attributes, set_file}
use Rattle.model.specs.Room.{cost}
use Rattle.model.specs.States.{State}
use Rattle.model.specs.Trees.{Description}
use Rattle.model.specs.Volumes.{Volume, file_node}
use Rattle.blockmap.specs.Maps.{free_below, settled_at}
use Rattle.blockmap.specs.Parts.{Part}
use Rattle.blockmap.specs.Space.{left}
use Rattle.blockmap.specs.declared.map.BlockMap.{BlockMap}
use Rattle.images.specs.Roots.{HeldTree, whole}
use Rattle.images.specs.Room.{free_under}
use Rattle.images.specs.Sums.{sum_below}
use Rattle.inofile.specs.Room.{number_room}
use Rattle.inofile.specs.declared.inode_file.InodeFile.{InodeFile}
use Rattle.inofile.proofs.RoomLaws.{orphan_four}
use Rattle.planning.proofs.RoomLaws.{none_first}
use Rattle.oplog.specs.LogEnd.{LogEnd, HasRoomInHalf, next_of}
use Rattle.replay.specs.Costs.{IsSizeBefore, IsSizeBy}
use Rattle.station.specs.declared.station.Station.{Ghosts}
use Rattle.system.specs.Images.{Base}
use Rattle.system.specs.Memory.{HasEntries}
use Rattle.descriptors.specs.declared.table.Descriptors.{Descriptors}
use Rattle.system.specs.Systems.{HasState, HasStateBy, IsServing, meaning_of, system_parts}
use Rattle.system.specs.declared.system.System.{System}
use Rattle.system.proofs.SystemLaws.{at_rest, sizes}

-- ---- what is pledged

-- a record more costs what it costs the volume that the others lead to
costs_more : (limits : Limits) (v : Volume) (changes : List Change) (last : Volume) (change : Change) (k : ℕ) → Replays limits v changes last → k ≡ cost limits.costs (work_of last change)
    → cost_of_all limits.costs v (changes ++ change ∷ []) ≡ cost_of_all limits.costs v changes + k
costs_more limits v [] last change k replays is = omega (arith, is, ap (λ (u : Volume). cost limits.costs (work_of u change)) replays)
costs_more limits v (c ∷ changes) last change k replays is = omega (arith, costs_more limits (applied c v) changes last change k replays.1 is)

pub one_pledged : (limits : Limits) (first : Volume) (changes : List Change) (last : Volume) (change : Change) (pledged k : ℕ) → Replays limits first changes last → k ≡ cost limits.costs (work_of last change)
    → pledged ≡ pledged_for limits first changes → pledged + k ≡ pledged_for limits first (changes ++ change ∷ [])
one_pledged limits first changes last change pledged k replays is so_far = omega (arith, so_far, costs_more limits first changes last change k replays is)

false_is : (b : Bool) → (IsTrue b → ⊥) → IsFalse b
false_is true not_true = absurd (not_true refl)
false_is false not_true = refl

-- a record that was logged had room
pub had_room : (log : LogEnd) (n : ℕ) → (IsFalse log.is_stopped × (HasRoomInHalf log n → ⊥) → ⊥) → (IsTrue log.is_stopped → ⊥) → HasRoomInHalf log n
had_room log n not_full not_stopped = elim (cases_lt log.half (next_of log.end + 5 + n + 1)) [
  | inl lt ↦ absurd (not_full (false_is log.is_stopped not_stopped, λ fits. absurd (omega (arith, lt, fits))))
  | inr ge ↦ ge
]

-- ---- what is free

pub free_same : (t : HeldTree) (map : BlockMap) → HasEntries t map → (n : ℕ) → free_below map.parts.items n ≡ free_under t n
unfolding free_below sum_below
free_same t map has zero = refl
free_same t map has (suc b) = λ i. free_same t map has b i + (if has b i == 0 then 1 else 0)

abbrev pub free_of : Base → ℕ
free_of base = free_under (whole (blocks_of base.disk) base.root).active base.root.geometry.blocks

-- what a system keeps of it, whatever objects and open files memory would serve by
pub free_with : {S : Type 0} {G : Ghosts S} (known : InodeFile) (files : Descriptors) (said : Session) (f : System S G) (table : ℕ → Option Description) (s : State)
    → (serves : IsServing (meaning_of f) (record (system_parts f) { inodes = known; files = files; session = said }) table s) → f.free ≡ free_of serves.settled
free_with known files said f table s serves =
    f.counted ∙ ap (free_below f.map.parts.items) f.count
    ∙ free_same (whole (blocks_of serves.settled.disk) serves.settled.root).active f.map serves.entries f.root.geometry.blocks
    ∙ ap (λ (g : Sizes). free_under (whole (blocks_of serves.settled.disk) serves.settled.root).active g.blocks) (sym (sizes serves))

pub free_by : {S : Type 0} {G : Ghosts S} (known : InodeFile) (f : System S G) (table : ℕ → Option Description) (s : State) → (serves : HasStateBy known f table s) → f.free ≡ free_of serves.settled
free_by {G = G} known f table s serves = free_with {G = G} known f.files f.session f table s serves

pub free_is : {S : Type 0} {G : Ghosts S} (f : System S G) (table : ℕ → Option Description) (s : State) → (serves : HasState f table s) → f.free ≡ free_of serves.settled
free_is {G = G} f table s serves = free_by {G = G} f.inodes f table s serves

-- where no consistency point is under way it is so under the root
pub rest_free : {S : Type 0} {G : Ghosts S} (known : InodeFile) (f : System S G) (table : ℕ → Option Description) (s : State) → HasStateBy known f table s → f.blocks.pending ≡ None
    → f.free ≡ free_under (whole (blocks_of (meaning_of f).seen.disk) f.root).active f.root.geometry.blocks
rest_free {G = G} known f table s serves none = free_by {G = G} known f table s serves ∙ ap free_of (at_rest serves none).base

free_settled : (given m : BlockMap) → ((b : ℕ) → settled_at given.parts.items b ≡ settled_at m.parts.items b) → (n : ℕ) → free_below given.parts.items n ≡ free_below m.parts.items n
unfolding free_below
free_settled given m settled zero = refl
free_settled given m settled (suc b) = λ i. free_settled given m settled b i + (if settled b i == 0 then 1 else 0)

-- with a map of the same settled entries it is the same
pub still_counted : {S : Type 0} {G : Ghosts S} (f : System S G) (given : BlockMap) → given.count ≡ f.map.count → ((b : ℕ) → settled_at given.parts.items b ≡ settled_at f.map.parts.items b)
    → f.free ≡ free_below given.parts.items given.count
still_counted f given count settled = f.counted ∙ sym (ap (free_below given.parts.items) count ∙ free_settled given f.map settled f.map.count)

-- no more blocks are free than there are
pub few_free : (items : List Part) (n : ℕ) → free_below items n ≤ n
unfolding free_below
few_free items zero = omega arith
few_free items (suc b) = grind (arith, few_free items b)

-- what is left of its map with no change is all that
pub all_left : {S : Type 0} {G : Ghosts S} (known : InodeFile) (f : System S G) (table : ℕ → Option Description) (s : State) → HasStateBy known f table s → f.blocks.pending ≡ None
    → (given : BlockMap) → given.next ≡ 2 → given.count ≡ f.map.count → ((b : ℕ) → settled_at given.parts.items b ≡ settled_at f.map.parts.items b) → left given ≡ f.free
unfolding left
all_left known f table s serves none given fresh count settled =
    let rest = at_rest serves none in
    let w = whole (blocks_of (meaning_of f).seen.disk) f.root in
    let low : free_below given.parts.items given.next ≡ 0 =
    ap (free_below given.parts.items) fresh ∙ free_settled given f.map settled 2 ∙ free_same w.active f.map rest.entries 2 ∙ none_first f.root w rest.under.holds.sound.exact in
    omega (arith, still_counted f given count settled, low)

-- ---- what a record costs

-- a volume whose files all have so many bytes
abbrev pub files_of : ℕ → Volume
files_of size n = Some (file_node no_attributes 1 (replicate size 0))

-- in it a record's file has this size
sized_by : (edit : Edit) (size : ℕ) → IsSizeBy (files_of size) edit size
sized_by (create number parent made name) size = tt
sized_by (link number parent name) size = tt
sized_by (remove_name parent name) size = tt
sized_by (rename parent name new_parent new_name) size = tt
sized_by (write number offset bytes) size = sym (length-replicate size 0)
sized_by (truncate number new) size = sym (length-replicate size 0)
sized_by (change_attributes number permissions modified) size = tt
sized_by (set_file number mode new) size = sym (length-replicate size 0)

pub files_sized : (change : Change) (size : ℕ) → IsSizeBefore (files_of size) change size
files_sized change size = sized_by change.edit size

-- ---- orphans

-- 4 blocks of what memory needs are for each
pub orphans_least : (base : Volume) (s : InodeFile) (v : Volume) (n : ℕ) → 4 * count_orphans n v ≤ sum_below (number_room base s v) n
unfolding sum_below
orphans_least base s v zero = omega arith
orphans_least base s v (suc n) = omega (arith, orphans_least base s v n, orphan_four (v n))
