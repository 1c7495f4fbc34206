use Rattle.std.proofs.Common.{◌≡◌, inl, inr, ◌++◌, ◌∷◌, [], None, Bool, Result, refl, subst, sym, ◌∙◌}
use Rattle.std.proofs.lemmas.Bool.{cases_lt, false≢true}
use Rattle.station.specs.declared.station.Station.{Ghosts}
use Rattle.layout.specs.Places.{blocks_of}
use Rattle.model.specs.Paths.{Name, first_refusal}
use Rattle.model.specs.Records.{without_orphans}
use Rattle.model.specs.Room.{a_snapshot}
use Rattle.model.specs.States.{with_snapshots}
use Rattle.model.specs.Steps.{take_tests}
use Rattle.model.specs.Volumes.{tree_of}
use Rattle.model.specs.declared.command.Command.TheVariants.{SnapTake}
use Rattle.images.specs.SnapshotSteps.SnapshotStep.{taken}
use Rattle.snapshots.specs.Taken.{MayTake}
use Rattle.snapshots.specs.declared.taking.Taking.{Taking}
use Rattle.system.specs.CheckpointCommands.{Checkpoints}
use Rattle.system.specs.Systems.{disk_of}
use Rattle.system.specs.declared.error.PointError.{PointError}
use Rattle.system.specs.declared.system.System.{System}
use Rattle.system.proofs.PointLaws.{passed_on}
use Rattle.system.proofs.CheckpointLaws.{covered_keeps, does_by, no_order, no_space, not_covered, pointed}
use Rattle.system.proofs.SnapshotLaws.{can_take, forgets_running, late_order, short_to_take, take_done, take_step}
use Rattle.system.proofs.ViewLaws.{closed}
use Rattle.system.proofs.system.System.take.Goals as goal

-- what is promised of it, where it may be taken
abbrev Takes : {S : Type 0} {G : Ghosts S} → (old new : System S G) → Name → Taking → Result Bool PointError → Type 0
Takes old new name t = Checkpoints old new (λ s. MayTake (blocks_of (disk_of old)) old.root name t × (first_refusal (take_tests s name) ≡ None)) (SnapTake name)

pub returns-in_err-checkpoint : goal.returns-in_err-checkpoint
returns-in_err-checkpoint g c =
    let fs = c.args.self.now in
    let name = c.args.name.now in
    passed_on (Takes {G = g.S.Station} fs c.checkpoint.new.self name c.args.taking.now) c.from_residual.result c.in_err-checkpoint.field-0.0 c.from_residual.ensures.1
    (not_covered fs c.checkpoint.new.self _ (SnapTake name) c.in_err-checkpoint.field-0.0 c.in_err-checkpoint.ensures (λ s served p. (
      _,
      λ room. a_snapshot,
      λ room. take_done s name _ p.1 (forgets_running {G = g.S.Station} fs s c.cuts_open.ensures.forgets served),
    )))

pub returns-then-not-has_room_to_take : goal.returns-then-not-has_room_to_take
returns-then-not-has_room_to_take g c =
    let fs = c.args.self.now in
    let mid = c.checkpoint.new.self in
    let made = c.in_ok-checkpoint.ensures in
    no_space fs mid _ (SnapTake c.args.name.now) (covered_keeps fs mid made)
    (λ s served p. (
      made.covered s served,
      (
        _,
        λ room. a_snapshot,
        λ room. take_done s c.args.name.now _ p.1 (forgets_running {G = g.S.Station} fs s c.cuts_open.ensures.forgets served),
        short_to_take {G = g.S.Station} mid (λ room. false≢true (sym c.if-not-has_room_to_take.true ∙ c.has_room_to_take.ensures.1 room)),
      ),
    ))

pub returns-in_default : goal.returns-in_default
returns-in_default g c =
    let fs = c.args.self.now in
    let mid = c.checkpoint.new.self in
    let made = c.in_ok-checkpoint.ensures in
    let t = c.args.taking.now in
    no_order fs mid _ (SnapTake c.args.name.now) c.lacks_order.result (covered_keeps fs mid made) c.lacks_order.ensures (λ s served p.
    elim (cases_lt t.order 4611686018427387904) [
      | inl low ↦ absurd (false≢true (c.in_default.ensures.within.1 (p.0.first, low)))
      | inr high ↦ late_order (made.slots s served) c.args.name.now t mid.log.epoch p.0 high made.empty.epoch
    ])

pub returns : goal.returns
returns g c =
    let fs = c.args.self.now in
    let mid = c.checkpoint.new.self in
    let name = c.args.name.now in
    let t = c.args.taking.now in
    let made = c.in_ok-checkpoint.ensures in
    subst (Takes {G = g.S.Station} fs c.point_with.new.self name t) (sym c.made_of.ensures)
    (pointed fs c.point_with.new.self _ (SnapTake name) (covered_keeps fs mid made) c.point_with.result c.point_with.ensures.makes (λ s served p.
    let covered = made.covered s served in
    let over = covered.serves in
    let can = can_take (made.slots s served) name t mid.is_root p.0 (c.in-Some.ensures.within.0 refl).1 in
    does_by c.point_with.result s (SnapTake name) c.point_with.ensures.makes over (with_snapshots (over.snapshots ++ (name, tree_of (without_orphans over.first) closed) ∷ []) s) refl (λ room. a_snapshot)
    (λ room. take_step {G = g.S.Station} mid s c.cuts_open.ensures.forgets name over covered.held p.1) (λ room work is. cc)
    (taken t.slot (record { order = t.order; name = name; inode_file = mid.root.inode_file }), record { is = refl; can = can }, tt, refl)
    (c.has_room_to_take.ensures.0 c.if-not-has_room_to_take.false)))
