use Rattle.std.proofs.Common.{Bool, Result, refl, subst, sym}
use Rattle.station.specs.declared.station.Station.{Ghosts}
use Rattle.layout.specs.Places.{blocks_of}
use Rattle.model.specs.Paths.{Name}
use Rattle.model.specs.Room.{nothing}
use Rattle.model.specs.declared.command.Command.TheVariants.{SnapDelete}
use Rattle.images.specs.Roots.{whole}
use Rattle.images.specs.SnapshotSteps.SnapshotStep.{deleted}
use Rattle.images.specs.Snapshots.{HasSnapshot}
use Rattle.snapshots.specs.Found.{snapshot_found}
use Rattle.snapshots.specs.declared.finding.FoundSnapshot.{FoundSnapshot}
use Rattle.system.specs.CheckpointCommands.{Checkpoints}
use Rattle.system.specs.Systems.{disk_of}
use Rattle.system.specs.declared.error.PointError.{PointError}
use Rattle.system.specs.declared.system.System.{System}
use Rattle.system.proofs.CoveringLaws.{ended_slots, not_ended}
use Rattle.system.proofs.PointLaws.{passed_on}
use Rattle.system.proofs.CheckpointLaws.{does_by, finished_keeps, not_covered, pointed}
use Rattle.system.proofs.SnapshotLaws.{delete_step, has_named, still_has, without}
use Rattle.system.proofs.system.System.delete.Goals as goal

-- what is promised of it, where it stands in its slot
abbrev Deletes : {S : Type 0} {G : Ghosts S} → (old new : System S G) → Name → FoundSnapshot → Result Bool PointError → Type 0
Deletes old new name found =
    Checkpoints old new (λ s. HasSnapshot old.root (whole (blocks_of (disk_of old)) old.root) found.slot (snapshot_found name found)) (SnapDelete name)

pub returns-in_err-finish : goal.returns-in_err-finish
returns-in_err-finish g c =
    let fs = c.args.self.now in
    let name = c.args.name.now in
    let found = c.args.found.now in
    passed_on (Deletes {G = g.S.Station} fs c.finish.new.self name found) c.from_residual.result c.in_err-finish.field-0.0 c.from_residual.ensures.1
    (not_covered fs c.finish.new.self _ (SnapDelete name) c.in_err-finish.field-0.0 (not_ended fs c.finish.new.self c.in_err-finish.field-0.0 c.in_err-finish.ensures)
    (λ s served has. (without served name found has, λ room. nothing, λ room. delete_step served name found has)))

pub returns : goal.returns
returns g c =
    let fs = c.args.self.now in
    let mid = c.finish.new.self in
    let name = c.args.name.now in
    let found = c.args.found.now in
    let ended = finished_keeps fs mid c.in_ok-finish.ensures in
    subst (Deletes {G = g.S.Station} fs c.point_with.new.self name found) (sym c.made_of.ensures)
    (pointed fs c.point_with.new.self _ (SnapDelete name) ended c.point_with.result c.point_with.ensures.makes (λ s served has.
    let over = ended.serves s served in
    let there = still_has (ended_slots fs mid c.in_ok-finish.ensures s served) found.slot (snapshot_found name found) has in
    does_by c.point_with.result s (SnapDelete name) c.point_with.ensures.makes over (without over name found there) refl (λ room. nothing) (λ room. delete_step over name found there) (λ room work is. cc)
    (deleted found.slot name, record { is = (name, refl); can = has_named over name found there c.requires }, tt, refl) tt))
