-- What a cut leaves of a point that is planned for a system.
use Rattle.std.proofs.Common.{◌≡◌, ◌≢◌, ◌⊎◌, inl, inr, ℕ, ◌+◌, ◌-◌, ◌*◌, ◌/◌, ◌<◌, ◌≤◌, ◌^◌, List, [], Option, None, Result, Ok, Err, refl, ap, sym, subst, ◌∙◌, arith}
use Rattle.std.specs.Prelude.{IfErr, IfOk, IsErrAnd, OnOk}
use Rattle.station.specs.declared.station.Station.{Ghosts}
use Rattle.station.specs.Images.{Images, Unchanged}
use Rattle.station.specs.Moments.{Meaning, MayLeave, After, Goes, LeavesOnly}
use Rattle.station.proofs.Moments.{joined, leaves_unchanged, weaker}
use Rattle.layout.specs.Log.{LogHolds, EpochHolds, IsUnopened, half_of}
use Rattle.layout.specs.Limits.{Sizes}
use Rattle.layout.specs.Opens.{HoldsRoot}
use Rattle.layout.specs.SnapRoot.{Snapshot}
use Rattle.layout.specs.Places.{blocks_of}
use Rattle.layout.specs.Root.{root_bytes}
use Rattle.layout.specs.declared.root.Root.{Root}
use Rattle.model.specs.Records.{count_orphans}
use Rattle.layout.specs.StateLimits.{fixed_of, limits_of}
use Rattle.model.specs.Paths.{Name}
use Rattle.model.specs.States.{Forgets, State}
use Rattle.model.specs.Trees.{Description}
use Rattle.model.specs.Volumes.{Volume}
use Rattle.blockmap.specs.Maps.{settled_at}
use Rattle.blockmap.specs.declared.map.BlockMap.{BlockMap}
use Rattle.images.specs.BlockMap.{entry}
use Rattle.images.specs.Cuts as points
use Rattle.images.specs.Cuts.{Write, AreFree, LeavesFree}
use Rattle.images.specs.Contents.{HoldsVolume, tree_contents}
use Rattle.inofile.specs.Room.{memory_room}
use Rattle.inofile.specs.Volumes.{IsVolumeOf}
use Rattle.inofile.specs.declared.inode_file.InodeFile.{InodeFile}
use Rattle.loading.specs.Images.{inodes_of}
use Rattle.descriptors.specs.declared.table.Descriptors.{Descriptors}
use Rattle.images.specs.Roots.{HeldTree, whole}
use Rattle.images.specs.SnapshotSteps.{SnapshotStep, unchanged, taken, restored, kept_after}
use Rattle.images.specs.States.{Opens, OpensBy, state_of}
use Rattle.oplog.specs.LogEnd.{LogEnd, Bodies, all_bodies, no_bodies, StandsAt}
use Rattle.conspoint.specs.Cuts.{StaysOutside, HasNewRoot, HasRootOrLost, LosesSlot}
use Rattle.conspoint.specs.Plans.{Planned}
use Rattle.conspoint.specs.Writes.{writes_of}
use Rattle.system.specs.Images.{OpensTo}
use Rattle.system.specs.Laws.{CutLaws}
use Rattle.overlay.specs.Overlays.{planned_disk}
use Rattle.overlay.specs.declared.pending.PendingPoint.{PendingPoint}
use Rattle.planning.specs.Changes.{HasRestored, IsStepOf, SharesNone, starting_tree}
use Rattle.planning.specs.Plans.{IsPlannable}
use Rattle.planning.specs.declared.change.SnapshotChange.{SnapshotChange}
use Rattle.planning.specs.declared.change.SnapshotChange.TheVariants as changes
use Rattle.system.specs.Plans.{IsPlannedOver, LeavesRoom}
use Rattle.system.specs.Points.{HasRoomFor, HasRoomToPlan, HasRoomToStep, MayCheckpoint, MayCheckpointOver, StartsActive, turned}
use Rattle.system.specs.Slots.{IsNewestAt, other_slot}
use Rattle.system.specs.Systems.{Parts, HasState, HasStateBy, IsServing, disk_of, disk_over, meaning_of}
use Rattle.system.specs.declared.system.System.{System}
use Rattle.system.proofs.RoomLaws.{orphans_least, rest_free}
use Rattle.system.proofs.SystemLaws.{AtRest, all_open, at_rest, extends_itself, one_opens, reads_open, root_sizes}

-- what holds of an answer that is Ok
pub of_ok : {X E : Type 0} (r : Result X E) (x : X) (P : X → Type 0) → r ≡ Ok x → IfOk r P → P x
of_ok {X = X} {E = E} r x P is h = subst (λ (q : Result X E). IfOk q P) is h

pub on_ok : {X E : Type 0} {A : Type 0} (r : Result X E) (x : X) → r ≡ Ok x → OnOk r A → A
on_ok {X = X} {E = E} {A = A} r x is h = subst (λ (q : Result X E). OnOk q A) is h

-- what holds of an error
pub of_err : {X E : Type 0} (r : Result X E) (e : E) (P : E → Type 0) → r ≡ Err e → IfErr r P → P e
of_err {X = X} {E = E} r e P is h = subst (λ (q : Result X E). IfErr q P) is h

-- an error that is passed on
pub passed_on : {X E : Type 0} (P : Result X E → Type 0) (r : Result X E) (e : E) → IsErrAnd r (λ f. f ≡ e) → P (Err e) → P r
passed_on P (Ok x) e is h = absurd is
passed_on {X = X} {E = E} P (Err f) e is h = subst (λ (q : E). P (Err q)) (sym is) h

-- ---- the log under the new root

second_is : (epoch : ℕ) (bytes : List ℕ) (bodies : List (List ℕ)) → IsUnopened epoch bytes → EpochHolds epoch bytes bodies → bodies ≡ []
second_is epoch bytes bodies none (inl is) = absurd (none.not_open is.0 is.1)
second_is epoch bytes bodies none (inr shut) = shut.1

-- a root of the epoch that records go to covers all
covered : CutLaws → (log : LogEnd) (g : ℕ) (bodies : Bodies) (nvram : List ℕ) → g + 4 < 2 ^ 64 → StandsAt log g bodies nvram → LogHolds log.half log.epoch nvram []
covered laws log g bodies nvram small stands = elim stands.other [
  | inl first ↦
      subst (λ (e : ℕ). LogHolds log.half e nvram []) (sym first.0)
      (subst (LogHolds log.half (g + 1) nvram)
      (second_is (g + 2) (half_of log.half (g + 2) nvram) stands.holds.second first.1 stands.holds.second_held)
      (laws.one log.half g nvram (all_bodies bodies) (omega (arith, small)) stands.holds))
  | inr second ↦ subst (λ (e : ℕ). LogHolds log.half e nvram []) (sym second.0) (laws.both log.half g nvram (all_bodies bodies) small stands.holds)
]

-- its generation is later
pub later : (log : LogEnd) (g : ℕ) (bodies : Bodies) (nvram : List ℕ) → StandsAt log g bodies nvram → g < log.epoch
later log g bodies nvram stands = elim stands.other [ inl first ↦ omega (arith, first.0) | inr second ↦ omega (arith, second.0) ]

-- ---- before the root, and with it

pub other_is : (r : Root) (d : ℕ → List ℕ) (slot other : ℕ) → IsNewestAt slot r d → other ≡ other_slot slot → points.IsOtherSlot r d other
other_is r d slot other newest is = elim newest.is_slot [
  | inl a ↦ inl (is ∙ ap other_slot a, subst (λ (n : ℕ). HoldsRoot (d n) r) a newest.there)
  | inr b ↦ inr (is ∙ ap other_slot b, subst (λ (n : ℕ). HoldsRoot (d n) r) b newest.there)
]

pub outside : (r : Root) (d : ℕ → List ℕ) (writes : List Write) (n : ℕ) → AreFree r d writes → entry (whole (blocks_of d) r).active (n / 8) ≢ 0 → points.IsOutsideWrites writes n
outside r d writes n free some = λ k w lt same. some (ap (entry (whole (blocks_of d) r).active) (sym same) ∙ free k w lt)

-- what memory stands for may be planned over a system
pub plannable : {m : Meaning} {k : Parts} {table : ℕ → Option Description} {s : State} (serves : IsServing m k table s)
    → k.pending ≡ None → MayLeave m m.seen → (other generation : ℕ) (given : BlockMap) → other ≡ other_slot k.slot → generation ≡ k.log.epoch
    → ((b : ℕ) → settled_at given.parts.items b ≡ settled_at k.map.parts.items b)
    → (change : SnapshotChange) (files : Descriptors) (memory : InodeFile) (base v : Volume) → MayCheckpointOver change (blocks_of (disk_over k m.seen.disk)) k.root files memory table base v
    → IsPlannable change k.root m.seen.disk other generation given memory base v
plannable {m} {k} {table} serves none here other generation given other_one epoch same change files memory base v may =
    let rest = at_rest serves none in
    let seen = subst (λ (d : ℕ → List ℕ). MayCheckpointOver change (blocks_of d) k.root files memory table base v) (ap (λ (l : Option PendingPoint). planned_disk l m.seen.disk) none) may in
    record {
      other = other_is k.root m.seen.disk k.slot other rest.under.newest other_one;
      later = subst (λ (n : ℕ). k.root.generation < n) (sym epoch) (later k.log k.root.generation rest.lasts.bodies m.seen.nvram (rest.left serves.honest m.seen here).log_stands);
      sound = rest.under.holds.sound;
      entries = λ b. same b ∙ rest.entries b;
      restored = seen.restored;
      holds = seen.base_held;
      base_volume = seen.base_volume;
      memory = seen.stands;
      volume = seen.volume;
    }

module _ (laws : CutLaws) {m : Meaning} {k : Parts} {table : ℕ → Option Description} {s : State}
    (serves : IsServing m k table s) (none : k.pending ≡ None) (size : m.sectors ≡ 8 * k.root.geometry.blocks) (half : k.log.half ≡ k.root.geometry.half)
    (p : Planned) (new : Root) (step : SnapshotStep) (v : Volume) (planned : IsPlannedOver step m.seen.disk k.root k.slot k.log.epoch p new v) where
  abbrev after : State
  after = turned (limits_of k.root.geometry) k.session step v table serves.first serves.snapshots

  abbrev rest : AtRest serves
  rest = at_rest serves none

  pub unfinished : (c : Images) → After (StaysOutside p.blocks) m c → OpensTo m s c
  unfinished c (d, here, stays) =
      let left = rest.left serves.honest d here in
      one_opens laws rest.lasts (root_sizes serves size half) c (record {
        same = λ n some. laws.unfinished p.blocks d c stays n (outside k.root m.seen.disk (writes_of p.blocks) n planned.point.free some) ∙ left.same n some;
        log_stands = subst (StandsAt k.log k.root.generation rest.lasts.bodies) (sym stays.nvram) left.log_stands;
      })

  module _ (here : MayLeave m m.seen) where
    -- a disk with the new root
    pub with_root : (c : Images) → HasNewRoot p m.seen c → points.HasRootWritten (writes_of p.blocks) p.slot (root_bytes new) m.seen.disk c.disk
    with_root c has =
        subst (λ (bytes : List ℕ). points.HasRootWritten (writes_of p.blocks) p.slot bytes m.seen.disk c.disk) planned.bytes
        (laws.finished p m.seen c has)

    -- what the system reads
    abbrev pub reads : Opens m.sectors m.seen.disk m.seen.nvram s
    reads = reads_open laws rest.lasts (root_sizes serves size half) m.seen.nvram (rest.left serves.honest m.seen here).log_stands.holds

    -- what a mount finds behind it
    found_after : Forgets after (state_of (limits_of k.root.geometry) v (kept_after step serves.first serves.snapshots))
    found_after = record { tree = laws.forgets (limits_of k.root.geometry) v v table planned.point.volume (extends_itself v); rest = refl }

    pub finished : (c : Images) → HasNewRoot p m.seen c → OpensTo m after c
    finished c has =
        let stands = (rest.left serves.honest m.seen here).log_stands in
        let small : k.root.generation + 4 < 2 ^ 64 = omega (arith, rest.under.newest.there.root.head.last) in
        let holds = covered laws k.log k.root.generation rest.lasts.bodies m.seen.nvram small stands in
        record {
          opens = (subst (λ (nvram : List ℕ). OpensBy m.sectors c.disk nvram after []) (sym has.nvram)
              (laws.opens m.sectors m.seen.disk c.disk m.seen.nvram s (writes_of p.blocks) p.slot new v step [] v reads planned.point (with_root c has)
              (record {
                are = λ i d lt. absurd (omega (arith, lt));
                log = subst (λ (h : ℕ). LogHolds h new.generation m.seen.nvram []) (half ∙ ap (λ s. s.half) (sym planned.point.geometry))
                    (subst (λ (g : ℕ). LogHolds k.log.half g m.seen.nvram []) (sym planned.covers) holds);
              })
              refl after found_after planned.room.spent planned.room.leaves
              (omega (arith, planned.room.enough)))).opens;
        }

    -- a disk on which the sector of the new root is lost
    pub lost : (c : Images) → LosesSlot p m.seen c → OpensTo m s c
    lost c loses = record {
      opens = subst (λ (nvram : List ℕ). Opens m.sectors c.disk nvram s) (sym loses.nvram)
          (laws.without_slot m.sectors m.seen.disk c.disk m.seen.nvram s (writes_of p.blocks) p.slot reads planned.point.free planned.point.slot (laws.lost p m.seen c loses)).opens;
    }

    -- while it is planned and written
    pub at_any_moment : (mid now : Meaning) → Goes Unchanged m mid → LeavesOnly mid now (λ c. After (StaysOutside p.blocks) mid c ⊎ HasRootOrLost p mid.seen c)
        → LeavesOnly m now (λ c. OpensTo m s c ⊎ OpensTo m after c)
    at_any_moment mid now goes writes =
        let went = goes serves.honest in
        joined m mid now (λ c. OpensTo m s c ⊎ OpensTo m after c)
        (leaves_unchanged m mid (λ c. OpensTo m s c ⊎ OpensTo m after c) (λ honest c left. inl (all_open serves size half laws honest c left)) goes)
        (weaker mid now (λ c. After (StaysOutside p.blocks) mid c ⊎ HasRootOrLost p mid.seen c) (λ c. OpensTo m s c ⊎ OpensTo m after c) writes (λ c. λ one. elim one [
          | inl later_on ↦
              let before = went.now later_on.0 later_on.1 in
              inl (unfinished c (before.0, before.1, subst (λ (x : Images). StaysOutside p.blocks x c) before.2 later_on.2))
          | inr began ↦ elim began [
            | inl has ↦ inr (finished c (subst (λ (x : Images). HasNewRoot p x c) went.seen has))
            | inr loses ↦ inl (lost c (subst (λ (x : Images). LosesSlot p x c) went.seen loses))
          ]
        ]))

-- ---- what is asked of a point

-- a system serves a state, and its root covers all of it
abbrev pub OnceCovered : Meaning → Parts → (ℕ → Option Description) → State → Type 0
OnceCovered m k table s = (serves : IsServing m k table s) × (serves.lasts.bodies ≡ no_bodies) × (serves.first ≡ serves.running)

-- what a system serves it may settle, if the point starts from the tree that is there
module _ {S : Type 0} {G : Ghosts S} (f : System S G) {table : ℕ → Option Description} {s : State} (serves : HasState f table s) where
  abbrev seen_disk : ℕ → List ℕ
  seen_disk = disk_of f

  checkpoints_with : (change : SnapshotChange) → HasRestored change f.root (whole (blocks_of seen_disk) f.root) → starting_tree change (whole (blocks_of seen_disk) f.root) ≡ (whole (blocks_of seen_disk) f.root).active
      → MayCheckpoint change f f.inodes table serves.first serves.running
  checkpoints_with change none tree = record {
    restored = none;
    base_held = subst (λ (t : HeldTree). HoldsVolume f.root.geometry.inodes (tree_contents t) serves.first) (sym tree) serves.under.holds.holds;
    base_volume = serves.under.holds.volume;
    stands = subst (λ (t : HeldTree). IsVolumeOf f.root.geometry.blocks (blocks_of seen_disk) (inodes_of t) f.inodes serves.running) (sym tree) serves.memory.stands;
    volume = serves.memory.volume;
    mounted = serves.mounted;
    fits = serves.fits;
  }

  pub checkpoints_running : (change : SnapshotChange) (step : SnapshotStep) → IsStepOf change f.root step → StartsActive step → MayCheckpoint change f f.inodes table serves.first serves.running
  checkpoints_running changes.Unchanged step is active = checkpoints_with changes.Unchanged tt refl
  checkpoints_running (changes.Take k order name) step is active = checkpoints_with (changes.Take k order name) tt refl
  checkpoints_running (changes.Delete k) step is active = checkpoints_with (changes.Delete k) tt refl
  checkpoints_running (changes.Restore k file) step is active = absurd (subst StartsActive is.1 active)

  -- the disk has room for what it needs
  pub has_room : f.blocks.pending ≡ None → (change : SnapshotChange) → HasRoomToStep change f → HasRoomToPlan change f (memory_room serves.first f.inodes serves.running)
  has_room rests changes.Unchanged room = omega (arith, serves.stored, (at_rest serves rests).all, (at_rest serves rests).lasts.pledges, (at_rest serves rests).lasts.reserved, rest_free {G = G} f.inodes f table s serves rests)
  has_room rests (changes.Take k order name) room = omega (arith, serves.stored, (at_rest serves rests).all, room)
  has_room rests (changes.Delete k) room = omega (arith, serves.stored, (at_rest serves rests).all, (at_rest serves rests).lasts.pledges, (at_rest serves rests).lasts.reserved, rest_free {G = G} f.inodes f table s serves rests)
  has_room rests (changes.Restore k file) room = absurd room

-- there is room for what memory needs, and what every point stores
pub needs_fit : (change : SnapshotChange) (fixed free needs : ℕ) → HasRoomFor change fixed free needs → needs + fixed ≤ free
needs_fit changes.Unchanged fixed free needs room = room
needs_fit (changes.Take k order name) fixed free needs room = omega (arith, room)
needs_fit (changes.Delete k) fixed free needs room = room
needs_fit (changes.Restore k file) fixed free needs room = omega (arith, room)

-- where no snapshot is taken or restored, what every point stores is given back, and else it is free twice
pub kept_by : (change : SnapshotChange) (root : Root) (step : SnapshotStep) (fixed free needs : ℕ) → IsStepOf change root step → HasRoomFor change fixed free needs
    → (SharesNone step × (needs + fixed ≤ free)) ⊎ ((step ≡ unchanged → ⊥) × (needs + 2 * fixed ≤ free))
kept_by changes.Unchanged root step fixed free needs is room = inl (subst SharesNone (sym is) tt, room)
kept_by (changes.Take k order name) root step fixed free needs is room = inr (λ same. other_taken (sym is ∙ same), room)
  where
    other_taken : {k : ℕ} {q : Snapshot} → taken k q ≡ unchanged → ⊥
    other_taken same = cc
kept_by (changes.Delete k) root step fixed free needs is room = inl (subst SharesNone (sym is.1) tt, room)
kept_by (changes.Restore k file) root step fixed free needs is room = inr (λ same. other_restored (sym is.1 ∙ same), room)
  where
    other_restored : {k : ℕ} {name : Name} → restored k name ≡ unchanged → ⊥
    other_restored same = cc

-- A point is planned over a system: where it does nothing with the snapshots, it spends no more than was pledged, if memory needs no more.
abbrev pub IsPlannedFrom : {S : Type 0} {G : Ghosts S} → System S G → (base v : Volume) → SnapshotStep → Planned → Root → Type 0
IsPlannedFrom f base v step p new =
    (planned : IsPlannedOver step (meaning_of f).seen.disk f.root f.slot f.log.epoch p new v)
    × (step ≡ unchanged → memory_room base f.inodes v ≤ f.pledged → planned.room.spent + 4 * count_orphans f.root.geometry.inodes v ≤ f.pledged)

-- what is planned leaves so many blocks free, if it does but for what memory needs, and for what every point stores where a snapshot is taken or restored
pub leaves_room : {S : Type 0} {G : Ghosts S} (known : InodeFile) (f : System S G) (table : ℕ → Option Description) (s : State) (serves : HasStateBy known f table s) → f.blocks.pending ≡ None
    → (change : SnapshotChange) (step : SnapshotStep) (base v : Volume) → IsStepOf change f.root step → HasRoomToPlan change f (memory_room base f.inodes v) → (writes : List Write) (new : Root)
    → (SharesNone step → (spent : ℕ) → memory_room base f.inodes v ≤ spent + 4 * count_orphans f.inodes.geometry.inodes v
    → LeavesFree spent f.root (blocks_of (meaning_of f).seen.disk) writes new)
    → ((spent : ℕ) → memory_room base f.inodes v + fixed_of f.root.geometry.blocks ≤ spent + 4 * count_orphans f.inodes.geometry.inodes v
    → LeavesFree spent f.root (blocks_of (meaning_of f).seen.disk) writes new)
    → (room : LeavesRoom (meaning_of f).seen.disk f.root v writes new)
    × (step ≡ unchanged → memory_room base f.inodes v ≤ f.pledged → room.spent + 4 * count_orphans f.root.geometry.inodes v ≤ f.pledged)
leaves_room {G = G} known f table s serves rests change step base v asked has writes new none_taken any =
    let needs = memory_room base f.inodes v in
    let orphans = 4 * count_orphans f.inodes.geometry.inodes v in
    let fixed = fixed_of f.root.geometry.blocks in
    let least = orphans_least base f.inodes v f.inodes.geometry.inodes in
    let sizes = ap (λ (x : Sizes). count_orphans x.inodes v) f.sizes in
    let free = rest_free {G = G} known f table s serves rests in
    elim (kept_by change f.root step fixed f.free needs asked has) [
      | inl (none, enough) ↦ (
        record {
          spent = needs - orphans;
          leaves = none_taken none (needs - orphans) (omega (arith, least));
          enough = omega (arith, least, enough, sizes, free);
        },
        λ same few. omega (arith, least, few, sizes),
      )
      | inr (other, enough) ↦ (
        record {
          spent = needs + fixed - orphans;
          leaves = any (needs + fixed - orphans) (omega (arith, least));
          enough = omega (arith, least, enough, sizes, free);
        },
        λ same. absurd (other same),
      )
    ]
