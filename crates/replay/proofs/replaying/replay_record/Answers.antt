use Rattle.std.proofs.Common.{◌≡◌, ◌⊎◌, ◌∙◌, ℕ, Err, IfErr, IfOk, Result, ap, refl, sym, subst, arith}
use Rattle.std.specs.Result.{IsErrOf}
use Rattle.model.specs.declared.limits.Limits.{Limits}
use Rattle.layout.specs.StateLimits.{limits_of}
use Rattle.layout.specs.Limits.{Sizes}
use Rattle.layout.specs.Record.{Change, IsChange, change_of}
use Rattle.layout.specs.Trees.{has_attributes}
use Rattle.layout.specs.declared.trees.Layout.{Layout}
use Rattle.layout.proofs.TimeLaws.{time_kept}
use Rattle.model.specs.Records.{Applies, applied, work_of}
use Rattle.model.specs.Room.{cost}
use Rattle.model.specs.declared.errno.Errno.{Errno}
use Rattle.buffers.specs.declared.error.BlockError.{BlockError}
use Rattle.buffers.specs.declared.error.BlockError.TheVariants.{Damaged, Device, NoMemory}
use Rattle.images.specs.Replaying.{LeavesPlace, ReadsIn}
use Rattle.inofile.specs.Volumes.{IsVolumeIn}
use Rattle.inofile.proofs.RoomLaws.{needs_room}
use Rattle.records.specs.Failures.{read_outcome}
use Rattle.records.specs.Obstacles.{IsObstacle}
use Rattle.records.specs.Preparing.{IsKnownVolume, IsVolumeFor}
use Rattle.replay.proofs.GraphLaws.{applies_so, applies_within, known_after, reads_in, volume_for}
use Rattle.records.specs.Prepared.{DoesIn}
use Rattle.records.specs.Standing.{StandsIn}
use Rattle.records.specs.declared.failure.Failure.{Failure}
use Rattle.records.specs.declared.prepared.Prepared.{Prepared}
use Rattle.records.proofs.ObstacleLaws.{bar_stops}
use Rattle.replay.proofs.Errors.{undamaged}
use Rattle.replay.proofs.replaying.replay_record.Goals as goal

-- the layout of an image's sizes, as it is told
read_so : (s : Sizes) (layout : Layout) → layout ≡ s.layout → (change : Change) → IsChange (has_attributes layout) change → IsChange (limits_of s).has_attributes change
read_so s layout is change reads = subst (λ (l : Layout). IsChange (has_attributes l) change) is reads

spelled_so : (s : Sizes) (layout : Layout) → layout ≡ s.layout → (change : Change) → IsChange (limits_of s).has_attributes change → IsChange (has_attributes layout) change
spelled_so s layout is change spells = subst (λ (l : Layout). IsChange (has_attributes l) change) (sym is) spells

pub prepare-requires : goal.prepare-requires
prepare-requires g c =
    let logged = change_of c.in-Some.logged in
    time_kept c.args.inodes.now.geometry.layout logged.time
    (read_so c.args.inodes.now.geometry c.layout.result (c.layout.ensures ∙ ap (λ (s : Sizes). s.layout) c.geometry.ensures) logged c.in-Some.ensures.found.0).time

pub returns-in-Err-Refused-clause-replays : goal.returns-in-Err-Refused-clause-replays
returns-in-Err-Refused-clause-replays g c detail disk settled v change shows has spells applies =
    let limits = (limits_of c.args.inodes.now.geometry) in
    let logged = change_of c.in-Some.logged in
    let same : logged ≡ change = c.in-Some.ensures.only change (spelled_so c.args.inodes.now.geometry c.layout.result (c.layout.ensures ∙ ap (λ (s : Sizes). s.layout) c.geometry.ensures) change spells.is) spells.spelled in
    let bars = c.prepare.ensures.refused {detail = detail} disk settled v (record { shows = shows; volume = has.memory }, has.volume)
    (subst (λ (x : Change). IsVolumeFor detail limits x v) (sym same) (volume_for detail limits change v has.volume applies)) in
    let is = c.in-Err-Refused.is ∙ ap (λ (f : Failure). Err f) c.in-Err-Refused.field-0-is in
    absurd (bar_stops limits v logged.edit c.in-Err-Refused._errno
    (subst (λ (r : Result Prepared Failure). IfOk (read_outcome r) (λ q. IfErr q (IsObstacle limits v logged))) is bars) (subst (Applies limits v) (sym same) (applies_so detail limits v change applies)).edit)

pub returns-in-Err-Read-clause-replays : goal.returns-in-Err-Read-clause-replays
returns-in-Err-Read-clause-replays g c detail disk settled v change shows has spells applies =
    let same : change_of c.in-Some.logged ≡ change = c.in-Some.ensures.only change (spelled_so c.args.inodes.now.geometry c.layout.result (c.layout.ensures ∙ ap (λ (s : Sizes). s.layout) c.geometry.ensures) change spells.is) spells.spelled in
    let failed = c.in-Err-Read.is ∙ ap (λ (f : Failure). Err f) c.in-Err-Read.field-0-is in
    subst (λ (e : BlockError). (e ≡ NoMemory) ⊎ (e ≡ Device)) (cc) (undamaged (λ (_ : Result Prepared Errno). Unit {0}) (Err c.in-Err-Read.error) refl (λ is.
    c.prepare.ensures.damaged {detail = detail} disk settled v (record { shows = shows; volume = has.memory })
    (subst (λ (x : Change). ReadsIn detail v x.edit) (sym same) (reads_in detail (limits_of c.args.inodes.now.geometry) v change applies))
    (subst (λ (r : Result Prepared Failure). IsErrOf (read_outcome r) Damaged) (sym failed) is)))

pub returns-clause-replays : goal.returns-clause-replays
returns-clause-replays g c detail disk settled v change shows has spells applies =
    let limits = (limits_of c.args.inodes.now.geometry) in
    let count = g.B.Blocks.count c.args.blocks.now in
    let logged = change_of c.in-Some.logged in
    let same : logged ≡ change = c.in-Some.ensures.only change (spelled_so c.args.inodes.now.geometry c.layout.result (c.layout.ensures ∙ ap (λ (s : Sizes). s.layout) c.geometry.ensures) change spells.is) spells.spelled in
    let stands : StandsIn detail g.B.Blocks disk settled v c.args.blocks.now c.args.inodes.now = record { shows = shows; volume = has.memory } in
    let looks = c.prepare.ensures.looks in
    let kept = looks.kept disk settled v stands in
    let did = subst (λ (r : Result Prepared Failure). IfOk r (λ x. DoesIn detail disk settled c.prepare.new.inodes v x logged)) c.in-Ok.is (c.prepare.ensures.does disk settled v stands) in
    let does = subst (λ (x : Change). DoesIn detail disk settled c.prepare.new.inodes v c.in-Ok.prepared x) same did in
    let memory = subst (λ (k : ℕ). IsVolumeIn detail k disk settled c.prepare.new.inodes v) looks.reads.count kept.volume in
    let before = c.size_before.ensures detail count disk settled v memory did.edit.knows in
    let can = applies_so detail limits v change applies in
    let here = subst (λ (x : Change). c.cost_of-cost.result ≡ cost (limits_of c.prepare.new.inodes.geometry).costs (work_of v x)) same
    (c.cost_of-cost.ensures.cost v before ∙ ap (λ (l : Limits). cost l.costs (work_of v logged)) c.limits.ensures) in (
      subst (λ (s : Sizes). c.cost_of-cost.result ≡ cost (limits_of s).costs (work_of v change)) looks.geometry here,
      record {
        memory = c.commit.ensures.volume detail count disk settled v change memory does;
        volume = subst (λ (s : Sizes). IsKnownVolume detail (limits_of s) (applied change v)) (sym (c.commit.ensures.geometry ∙ looks.geometry))
            (known_after detail limits v change (λ volume. c.records_keep_volumes.ensures limits v change volume can) has.volume can);
      },
      λ base. omega (arith, here, c.commit.ensures.room detail base count disk settled v change memory does, needs_room base v c.args.inodes.now c.prepare.new.inodes looks.geometry looks.needs),
    )

pub returns-clause-few : goal.returns-clause-few
returns-clause-few g c = c.cost_of-cost.ensures.few c.prepare.new.inodes.geometry (ap (λ (l : Limits). l.costs) c.limits.ensures)

pub returns-clause-applies : goal.returns-clause-applies
returns-clause-applies g c detail disk settled v shows has =
    let limits = (limits_of c.args.inodes.now.geometry) in
    let logged = change_of c.in-Some.logged in
    let stands : StandsIn detail g.B.Blocks disk settled v c.args.blocks.now c.args.inodes.now = record { shows = shows; volume = has.memory } in
    let looks = c.prepare.ensures.looks in
    let kept = looks.kept disk settled v stands in
    let does = subst (λ (r : Result Prepared Failure). IfOk r (λ x. DoesIn detail disk settled c.prepare.new.inodes v x logged)) c.in-Ok.is (c.prepare.ensures.does disk settled v stands) in
    let can = subst (λ (r : Result Prepared Failure). IfOk r (λ _. Applies limits v logged)) c.in-Ok.is (c.prepare.ensures.applies disk settled v (stands, has.volume)) in
    let place = subst (λ (r : Result Prepared Failure). IfOk r (λ _. LeavesPlace limits v logged.edit)) c.in-Ok.is (c.prepare.ensures.place disk settled v (stands, has.volume)) in
    let reads = subst (λ (r : Result Prepared Failure). IfOk r (λ _. ReadsIn detail v logged.edit)) c.in-Ok.is (c.prepare.ensures.reads disk settled v (stands, has.volume)) in
    let count = g.B.Blocks.count c.args.blocks.now in
    let memory = subst (λ (k : ℕ). IsVolumeIn detail k disk settled c.prepare.new.inodes v) looks.reads.count kept.volume in (
      logged,
      record { is = read_so c.args.inodes.now.geometry c.layout.result (c.layout.ensures ∙ ap (λ (s : Sizes). s.layout) c.geometry.ensures) logged c.in-Some.ensures.found.0; spelled = c.in-Some.ensures.found.1 },
      applies_within detail limits v logged can place reads,
      record {
        memory = c.commit.ensures.volume detail count disk settled v logged memory does;
        volume = subst (λ (s : Sizes). IsKnownVolume detail (limits_of s) (applied logged v)) (sym (c.commit.ensures.geometry ∙ looks.geometry))
            (known_after detail limits v logged (λ volume. c.records_keep_volumes.ensures limits v logged volume can) has.volume can);
      },
    )
