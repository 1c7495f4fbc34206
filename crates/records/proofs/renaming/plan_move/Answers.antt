use Rattle.std.proofs.Common.{◌≡◌, ◌∙◌, ℕ, List, Option, None, Some, Err, IfErr, refl, ap, sym, subst}
use Rattle.std.proofs.lemmas.Bool.{both_ways}
use Rattle.layout.specs.StateLimits.{limits_of}
use Rattle.layout.specs.Directory.{IsEntry}
use Rattle.layout.specs.Limits.{Sizes}
use Rattle.layout.specs.declared.inode.Inode.{Inode}
use Rattle.model.specs.Records.{rename}
use Rattle.model.specs.Volumes.{Volume}
use Rattle.paths.specs.Standing.{StandsIn}
use Rattle.records.specs.Moving.{Moves, MovesOver, Replaces, ReplacesBy}
use Rattle.records.specs.Obstacles.{BarsEdit}
use Rattle.images.specs.Soundness.{Detail}
use Rattle.records.proofs.DetailLaws.{known_of}
use Rattle.records.proofs.Deciding.{follows, obstructs, passes}
use Rattle.records.proofs.Failures.{refused_by}
use Rattle.records.proofs.MoveLaws.{entry_named}
use Rattle.records.proofs.ObstacleLaws.{bars_rename, bars_replacing}
use Rattle.records.proofs.StandLaws.{no_look}
use Rattle.records.proofs.renaming.plan_move.Goals as goal

pub returns-then-not-is_name : goal.returns-then-not-is_name
returns-then-not-is_name g c = obstructs no_look refl (λ detail disk settled v known volume name. both_ways c.is_name.result c.if-not-is_name.true (c.is_name.ensures.1 name))

pub returns-then-not-fits : goal.returns-then-not-fits
returns-then-not-fits g c = obstructs no_look refl (λ detail disk settled v known volume.
    let inodes = c.args.inodes.now.geometry.inodes in
    let count : c.inodes.result ≡ inodes = c.inodes.ensures.value ∙ ap (λ (s : Sizes). s.inodes) c.geometry.ensures in
    let n = c.args.number in
    let is = entry_named detail (limits_of c.args.inodes.now.geometry) v c.args.parent c.args.name.now n c.args.new_name.now
    (known_of detail (limits_of c.args.inodes.now.geometry) (rename c.args.parent c.args.name.now c.args.new_parent c.args.new_name.now) v volume) known.1.there (c.is_name.ensures.0 c.if-not-is_name.false) in
    absurd (both_ways c.fits.result c.if-not-fits.true (c.fits.ensures.1 (subst (λ (k : ℕ). IsEntry k (record { number = n; name = c.args.new_name.now })) (sym count) is))))

-- where nothing has the new name
pub returns-in_default : goal.returns-in_default
returns-in_default g c =
    let moves = λ (detail : Detail) (disk : ℕ → List ℕ) (settled : ℕ → Inode) (v : Volume) (is : MovesOver v c.args.parent c.args.name.now c.args.number c.args.new_parent c.args.new_name.now c.args.target).
    let m : Moves detail disk settled v c.args.parent c.args.name.now c.args.number c.args.new_parent c.args.new_name.now None = record {
      there = is.there;
      replaces = subst (λ (o : Option ℕ). Replaces detail disk settled v c.args.number o None) (sym (is.over ∙ c.in_default.is)) tt;
    } in
    m in
    follows no_look c.place.ensures
    (λ detail disk settled v known. (known.0, moves detail disk settled v known.1))
    (λ detail disk settled v known. (known.0, moves detail disk settled v known.1, known.2))

-- where another object has it

pub returns-in_err-step : goal.returns-in_err-step
returns-in_err-step g c =
    let failed = c.in_err-step.ensures in
    passes _ c.from_residual.result c.from_residual.ensures.1 failed.replaced.looks failed.own
    (λ detail disk settled v known volume.
    let d = c.args.parent in
    let x = c.args.name.now in
    let n = c.args.number in
    let m = c.in-Some.other in
    let k = c.args.new_parent in
    let y = c.args.new_name.now in
    refused_by (ReplacesBy detail disk settled v n m) (λ r. IfErr r (BarsEdit (limits_of c.args.inodes.now.geometry) v (rename d x k y))) _ (Err _) refl
    (λ errno bars.
    bars_rename (limits_of c.args.inodes.now.geometry) v d x n m k y errno known.1.there (known.1.over ∙ c.in-Some.is)
    (bars_replacing (limits_of c.args.inodes.now.geometry) detail disk settled v d n m k y errno known.2 bars))
    (failed.replaced.found disk settled v known.0))
    (λ detail disk settled v stands reads is. failed.replaced.damaged disk settled v stands is)

pub returns : goal.returns
returns g c =
    let took = c.in_ok-step.ensures.replaced in
    let step = Some c.in_ok-step.step in
    let moves = λ (detail : Detail) (disk : ℕ → List ℕ) (settled : ℕ → Inode) (v : Volume) (stands : StandsIn detail g.B.Blocks disk settled v c.args.blocks.now c.args.inodes.now) (is : MovesOver v c.args.parent c.args.name.now c.args.number c.args.new_parent c.args.new_name.now c.args.target).
    let m : Moves detail disk settled v c.args.parent c.args.name.now c.args.number c.args.new_parent c.args.new_name.now step = record {
      there = is.there;
      replaces = subst (λ (o : Option ℕ). Replaces detail disk settled v c.args.number o step) (sym (is.over ∙ c.in-Some.is)) (took.found disk settled v stands);
    } in
    m in
    follows took.looks c.place-2.ensures
    (λ detail disk settled v known. (took.looks.kept disk settled v known.0, moves detail disk settled v known.0 known.1))
    (λ detail disk settled v known. (took.looks.kept disk settled v known.0, moves detail disk settled v known.0 known.1, known.2))
