use Rattle.std.proofs.Common.{◌∙◌, not, Option, Err, IfOk, IsTrue, refl, sym, ap, subst}
use Rattle.std.specs.Result.{IsOkAnd}
use Rattle.layout.specs.StateLimits.{limits_of}
use Rattle.layout.specs.Limits.{Sizes}
use Rattle.model.specs.Volumes.{IsVolume, is_file_node}
use Rattle.model.specs.declared.reply.Stat.{Stat}
use Rattle.paths.proofs.Looks.{looks_more}
use Rattle.records.specs.Failures.{read_outcome}
use Rattle.records.specs.declared.failure.Failure.{Failure}
use Rattle.records.proofs.StandLaws.{no_look}
use Rattle.calls.specs.Stat.{TellsStat}
use Rattle.calls.specs.Truncate.{TruncatesFile}
use Rattle.calls.specs.declared.changed.Changing.{Changing}
use Rattle.calls.proofs.OpenLaws.{is_file_at, opens_truncated, opens_damaged, opens_no_file, opens_whole, opens_exclusive}
use Rattle.calls.proofs.PrepareSteps.{fails, grants, refuses}
use Rattle.calls.proofs.preparing.open.open_object.Goals as goal

pub returns-then-wants_new-clause-opens : goal.returns-then-wants_new-clause-opens
returns-then-wants_new-clause-opens g c = refuses no_look refl
    (λ disk settled v table stands volume mounted o object plain tells fd. opens_exclusive c.args.now _ o c.args.flags (sym c.wants_new.ensures ∙ c.if-wants_new.true) tells fd)

pub returns-in_err-stat-clause-opens : goal.returns-in_err-stat-clause-opens
returns-in_err-stat-clause-opens g c =
    let all = c.in_err-stat.ensures.told in
    fails {X = Stat} _ c.from_residual.result c.from_residual.ensures.1 all.looks all.own all.damaged (λ disk settled v table stands volume mounted errno is o object plain.
    opens_damaged v c.args.number o object (subst (λ (f : Failure). IfOk (read_outcome {T = Stat} (Err f)) (TellsStat v c.args.number)) is (all.tells disk settled v stands)))

pub returns-in_default-clause-opens : goal.returns-in_default-clause-opens
returns-in_default-clause-opens g c = refuses c.in_ok-stat.ensures.told.looks refl (λ disk settled v table stands volume mounted o object plain.
    let old = sym c.wants_new.ensures ∙ c.if-wants_new.false in
    let told = c.in_ok-stat.ensures.told.tells disk settled v stands in
    opens_no_file (limits_of c.args.inodes.now.geometry) c.args.now v table c.args.number o object c.args.flags old c.in_ok-stat.stat told c.in_default.not-File (plain (ap not old)))

pub returns-then-not-flags-clause-opens : goal.returns-then-not-flags-clause-opens
returns-then-not-flags-clause-opens g c = grants c.in_ok-stat.ensures.told.looks tt tt (λ disk settled v stands. tt) (λ disk settled v table stands volume mounted o object plain.
    let old = sym c.wants_new.ensures ∙ c.if-wants_new.false in
    let told = c.in_ok-stat.ensures.told.tells disk settled v stands in
    opens_whole (limits_of c.args.inodes.now.geometry) c.args.now v table c.args.number o object c.args.flags old c.in_ok-stat.stat told c.in-File.is c.volumes_tell_links.ensures volume c.if-not-flags.true)

pub returns-in_err-changing-clause-opens : goal.returns-in_err-changing-clause-opens
returns-in_err-changing-clause-opens g c =
    let first = c.in_ok-stat.ensures.told.looks in
    let truncate = c.in_err-changing.ensures in
    let n = c.args.number in
    fails {X = Option Changing} _ c.from_residual-in_err-changing.result c.from_residual-in_err-changing.ensures.1 (looks_more first truncate.looks) truncate.own
    (λ disk settled v stands bad. truncate.damaged disk settled v (first.kept disk settled v stands) bad)
    (λ disk settled v table stands volume mounted errno is o object plain.
    let old = sym c.wants_new.ensures ∙ c.if-wants_new.false in
    let all = subst (λ (s : Sizes). IsVolume (limits_of s) v) (sym first.geometry) volume in
    let file = is_file_at (limits_of c.args.inodes.now.geometry) c.args.now v table n o object c.args.flags old c.in_ok-stat.stat (c.in_ok-stat.ensures.told.tells disk settled v stands) c.in-File.is in
    absurd (subst (λ (f : Failure). IfOk (read_outcome {T = Option Changing} (Err f)) (λ r. IsTrue (is_file_node (v n)) → IsOkAnd r (TruncatesFile (limits_of c.stat_number.new.inodes.geometry) c.args.now v table n 0))) is
    (truncate.answers disk settled v table (first.kept disk settled v stands) all mounted) file))

pub returns-clause-opens : goal.returns-clause-opens
returns-clause-opens g c =
    let first = c.in_ok-stat.ensures.told.looks in
    grants (looks_more first c.in_ok-changing.ensures.looks) c.in_ok-changing.ensures.ready c.in_ok-changing.ensures.timed
    (λ disk settled v stands. c.in_ok-changing.ensures.does disk settled v (first.kept disk settled v stands))
    (λ disk settled v table stands volume mounted o object plain.
    let limits = limits_of c.args.inodes.now.geometry in
    let n = c.args.number in
    let old = sym c.wants_new.ensures ∙ c.if-wants_new.false in
    let told = c.in_ok-stat.ensures.told.tells disk settled v stands in
    let all = subst (λ (s : Sizes). IsVolume (limits_of s) v) (sym first.geometry) volume in
    let file = is_file_at limits c.args.now v table n o object c.args.flags old c.in_ok-stat.stat told c.in-File.is in
    opens_truncated limits c.args.now v table n o object c.args.flags old c.in_ok-stat.stat told c.in-File.is c.volumes_tell_links.ensures volume c.records_keep_volumes.ensures c.if-not-flags.false c.in_ok-changing.changing
    (subst (λ (s : Sizes). TruncatesFile (limits_of s) c.args.now v table n 0 c.in_ok-changing.changing) first.geometry (c.in_ok-changing.ensures.answers disk settled v table (first.kept disk settled v stands) all mounted file)))
