use Rattle.std.proofs.Common.{◌≡◌, ◌∙◌, ℕ, Option, None, Bool, Result, refl, subst, sym}
use Rattle.std.proofs.lemmas.Bool.{false≢true}
use Rattle.station.specs.declared.station.Station.{Ghosts}
use Rattle.layout.specs.Places.{Blocks, blocks_of}
use Rattle.model.specs.Paths.{Name}
use Rattle.model.specs.Records.{without_orphans}
use Rattle.model.specs.Room.{a_restore}
use Rattle.model.specs.States.{State}
use Rattle.model.specs.Trees.{Description}
use Rattle.model.specs.Volumes.{Volume}
use Rattle.model.specs.declared.command.Command.TheVariants.{SnapRestore}
use Rattle.images.specs.Roots.{whole}
use Rattle.images.specs.SnapshotSteps.{restored}
use Rattle.images.specs.Snapshots.{HasSnapshot}
use Rattle.overlay.specs.Overlays.{ReadsOver, planned_disk}
use Rattle.snapshots.specs.Found.{snapshot_found}
use Rattle.snapshots.specs.declared.finding.FoundSnapshot.{FoundSnapshot}
use Rattle.system.specs.Counting.{no_call}
use Rattle.system.specs.Restoring.{CountsKept, RestoresSlot}
use Rattle.system.specs.Serving.{ServesState}
use Rattle.system.specs.CheckpointCommands.{Checkpoints}
use Rattle.system.specs.Systems.{IsServing, disk_of, system_parts}
use Rattle.system.specs.declared.error.PointError.{PointError}
use Rattle.system.specs.declared.system.System.{System}
use Rattle.system.proofs.CountingLaws.{all_read}
use Rattle.system.proofs.LookedLaws.{ServesOver, reads_nothing}
use Rattle.system.proofs.PointLaws.{passed_on}
use Rattle.system.proofs.RestoringLaws.{isnt_damaged, keeps, kept_volume, may_restore, restore_step, restored_state, room_for, short_to_restore}
use Rattle.system.proofs.CheckpointLaws.{KeepsServing, covered_keeps, does_by, no_space, not_covered, pointed, read_keeps, unread}
use Rattle.system.proofs.SnapshotLaws.{finds, has_named, still_has}
use Rattle.system.proofs.ViewLaws.{stays_read}
use Rattle.system.proofs.system.System.restore.Given.{Over}
use Rattle.system.proofs.system.System.restore.Goals as goal
use Rattle.system.proofs.system.System.restore.Goals.{After-load_restored}

-- what is promised of it, where the snapshot stands in its slot and no file is open
abbrev Stood : {S : Type 0} {G : Ghosts S} → System S G → Name → FoundSnapshot → State → Type 0
Stood f name found s = HasSnapshot f.root (whole (blocks_of (disk_of f)) f.root) found.slot (snapshot_found name found) × (s.tree.descriptors ≡ (λ fd. None))

abbrev Restores : {S : Type 0} {G : Ghosts S} → (old new : System S G) → Name → FoundSnapshot → Result Bool PointError → Type 0
Restores old new name found = Checkpoints old new (Stood old name found) (SnapRestore name)

pub returns-in_err-checkpoint : goal.returns-in_err-checkpoint
returns-in_err-checkpoint g c =
    let fs = c.args.self.now in
    let name = c.args.name.now in
    let found = c.args.found.now in
    passed_on (Restores {G = g.S.Station} fs c.checkpoint.new.self name found) c.from_residual.result c.in_err-checkpoint.field-0.0 c.from_residual.ensures.1
    (not_covered fs c.checkpoint.new.self _ (SnapRestore name) c.in_err-checkpoint.field-0.0 c.in_err-checkpoint.ensures
    (λ s served p. (restored_state served name found p.0 p.1, λ room. a_restore (room.orphans_of name), λ room. restore_step served name found p.0 p.1 room)))

-- ---- what is read of its tree

reads : (g : Over) (c : After-load_restored g)
    → ReadsOver (g.S.Station.meaning c.checkpoint.new.self.blocks.buffers.station) (g.S.Station.meaning c.load_restored.new.blocks.buffers.station) c.checkpoint.new.self.blocks.pending c.load_restored.new.blocks.pending
reads g c = c.load_restored.ensures.reads.reads c.checkpoint.new.self.blocks (reads_nothing g.S.Station c.checkpoint.new.self.blocks)

-- what the system serves then it serves on
on : (g : Over) (c : After-load_restored g) (s : State) → (served : ServesState {G = g.S.Station} c.checkpoint.new.self s) → ServesOver {G = g.S.Station} c.checkpoint.new.self c.load_restored.new.blocks c.checkpoint.new.self.inodes s
on g c s served = stays_read {G = g.S.Station} c.checkpoint.new.self c.load_restored.new.blocks s (reads g c) c.load_restored.ensures.reads.same served

abbrev Then : (g : Over) (c : After-load_restored g) → (ℕ → Option Description) → State → Type 0
Then g c =
    IsServing (g.S.Station.meaning c.load_restored.new.blocks.buffers.station)
    (record (system_parts {G = g.S.Station} c.checkpoint.new.self) { kept = c.load_restored.new.blocks.buffers.kept; pending = c.load_restored.new.blocks.pending })

keeps_read : (g : Over) (c : After-load_restored g)
    → (g.S.Station.meaning c.load_restored.new.blocks.buffers.station).failed_reads ≡ (g.S.Station.meaning c.checkpoint.new.self.blocks.buffers.station).failed_reads
    → KeepsServing {G = g.S.Station} no_call c.args.self.now (g.S.Station.meaning c.load_restored.new.blocks.buffers.station) c.checkpoint.new.self.log (Then g c)
keeps_read g c same =
    let mid = c.checkpoint.new.self in
    let m = g.S.Station.meaning mid.blocks.buffers.station in
    let n = g.S.Station.meaning c.load_restored.new.blocks.buffers.station in
    read_keeps {G = g.S.Station} c.args.self.now mid n {Has = Then g c} no_call (covered_keeps c.args.self.now mid c.in_ok-checkpoint.ensures) (reads g c).below (all_read m n (reads g c).below same)
    (λ s served. c.served_states_open.ensures s.tree.descriptors s served) (on g c)

pub returns-in-Err : goal.returns-in-Err
returns-in-Err g c =
    let fs = c.args.self.now in
    let mid = c.checkpoint.new.self in
    let made = c.in_ok-checkpoint.ensures in
    let load = c.in-Err.ensures in
    let name = c.args.name.now in
    let found = c.args.found.now in
    let after = (goal.at.returns-in-Err g c).After-load_restored in
    unread fs _ _ (SnapRestore name) mid (covered_keeps fs mid made) (λ s served. c.served_states_open.ensures s.tree.descriptors s served) (reads g after).below refl (on g after) c.in-Err.error _ c.from.ensures load.reads.device
    (λ s served p is.
    let v = (made.covered s served).serves in
    let there = still_has (made.slots s served) found.slot (snapshot_found name found) p.0 in
    isnt_damaged c.in-Err.error (load.restores (blocks_of (disk_of {G = g.S.Station} mid)) v.shows v.first v.snapshots v.under.holds name (finds v name found there)) is)

-- what was read changes nothing else
pub invariant_of-self-clause-sectors : goal.invariant_of-self-clause-sectors
invariant_of-self-clause-sectors g c = (reads g (goal.at.invariant_of-self-clause-sectors g c).After-load_restored).below.same.sectors ∙ c.checkpoint.new.self.sectors

pub invariant_of-self-clause-nvram : goal.invariant_of-self-clause-nvram
invariant_of-self-clause-nvram g c = (reads g (goal.at.invariant_of-self-clause-nvram g c).After-load_restored).below.same.nvram_bytes ∙ c.checkpoint.new.self.nvram

pub point_over-requires-clause-rests : goal.point_over-requires-clause-rests
point_over-requires-clause-rests g c = (reads g (goal.at.point_over-requires-clause-rests g c).After-load_restored).pending ∙ c.in_ok-checkpoint.ensures.rests

-- the disk that is read then has the snapshot in its slot
there : (g : Over) (c : After-load_restored g) (s : State) (served : ServesState {G = g.S.Station} c.checkpoint.new.self s)
    → HasSnapshot c.checkpoint.new.self.root (whole (blocks_of (disk_of {G = g.S.Station} c.checkpoint.new.self)) c.checkpoint.new.self.root) c.args.found.now.slot (snapshot_found c.args.name.now c.args.found.now)
    → HasSnapshot c.checkpoint.new.self.root (whole (blocks_of (planned_disk c.load_restored.new.blocks.pending (g.S.Station.meaning c.load_restored.new.blocks.buffers.station).seen.disk)) c.checkpoint.new.self.root)
    c.args.found.now.slot (snapshot_found c.args.name.now c.args.found.now)
there g c s served has =
    subst (λ (disk : Blocks). HasSnapshot c.checkpoint.new.self.root (whole disk c.checkpoint.new.self.root) c.args.found.now.slot (snapshot_found c.args.name.now c.args.found.now))
    (c.load_restored.ensures.reads.same (blocks_of (disk_of {G = g.S.Station} c.checkpoint.new.self)) served.shows).is has

pub returns-then-not-has_room_besides : goal.returns-then-not-has_room_besides
unfolding on
returns-then-not-has_room_besides g c =
    let fs = c.args.self.now in
    let mid = c.checkpoint.new.self in
    let made = c.in_ok-checkpoint.ensures in
    let load = c.in-Ok.ensures in
    let name = c.args.name.now in
    let found = c.args.found.now in
    let after = (goal.at.returns-then-not-has_room_besides g c).After-load_restored in
    no_space fs _ _ (SnapRestore name)
    (keeps_read g after load.reads.counted)
    (λ s served p.
    let covered = made.covered s served in
    let v = covered.serves in
    let over = on g after s v in
    let d = blocks_of (disk_of {G = g.S.Station} mid) in
    let is = (load.reads.same d v.shows).is in
    let has = still_has (made.slots s served) found.slot (snapshot_found name found) p.0 in
    let at = there g after s v has in
    let counts = subst (λ (x : Blocks). CountsKept x mid.root found.slot c.in-Ok.loaded.1) is (load.restores d v.shows v.first v.snapshots v.under.holds name (finds v name found has)).1 in (
      record { rests = (reads g after).pending ∙ covered.rests; serves = over; no_record = covered.no_record; held = covered.held },
      (
        restored_state over name found at p.1,
        λ room. a_restore (room.orphans_of name),
        λ room. restore_step over name found at p.1 room,
        short_to_restore over name found at p.1 _ (keeps over name found at p.1) c.in-Ok.loaded.1 counts (λ room. false≢true (sym c.if-not-has_room_besides.true ∙ c.has_room_besides.ensures.1 room)),
      ),
    ))

pub returns : goal.returns
returns g c =
    let fs = c.args.self.now in
    let mid = c.checkpoint.new.self in
    let made = c.in_ok-checkpoint.ensures in
    let load = c.in-Ok.ensures in
    let name = c.args.name.now in
    let found = c.args.found.now in
    let new = c.point_over.new.self in
    let after = (goal.at.returns g c).After-load_restored in
    let none : Volume = λ k. None in
    subst (Restores {G = g.S.Station} fs new name found) (sym c.made_of.ensures)
    (pointed fs new _ (SnapRestore name)
    (keeps_read g after load.reads.counted)
    c.point_over.result (c.point_over.ensures none none) (λ s served p.
    let v = (made.covered s served).serves in
    let over = on g after s v in
    let d = blocks_of (disk_of {G = g.S.Station} mid) in
    let is = (load.reads.same d v.shows).is in
    let has = still_has (made.slots s served) found.slot (snapshot_found name found) p.0 in
    let at = there g after s v has in
    let loaded = load.restores d v.shows v.first v.snapshots v.under.holds name (finds v name found has) in
    let slots = subst (λ (x : Blocks). RestoresSlot x mid.root found.slot c.in-Ok.loaded.0) is loaded.0 in
    let counts = subst (λ (x : Blocks). CountsKept x mid.root found.slot c.in-Ok.loaded.1) is loaded.1 in
    let finding = c.mounts_find_volumes.ensures in
    let base = kept_volume over name found at p.1 in
    does_by c.point_over.result s (SnapRestore name) (c.point_over.ensures base (without_orphans base)) over (restored_state over name found at p.1) refl (λ room. a_restore (room.orphans_of name))
    (λ room. restore_step over name found at p.1 room) (λ room work is. cc)
    (restored found.slot name, record { is = (name, refl); can = has_named over name found at c.requires.slot }, may_restore over name found at p.1 finding c.in-Ok.loaded.0 slots, refl)
    (room_for over name found at p.1 finding c.in-Ok.loaded.0 slots mid.free c.in-Ok.loaded.1 counts (c.has_room_besides.ensures.0 c.if-not-has_room_besides.false))))
