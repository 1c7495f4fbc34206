use Rattle.std.proofs.Common.{ℕ, ◌≡◌, ◌==◌, ◌≤◌, Err, IfErr, ap, sym, subst, ◌∙◌}
use Rattle.std.specs.Prelude.{◌&&◌, is_none}
use Rattle.layout.specs.StateLimits.{limits_of}
use Rattle.layout.specs.Limits.{Sizes}
use Rattle.model.specs.Records.{applied, stamped, set_file}
use Rattle.model.specs.Volumes.{IsVolume, tree_of}
use Rattle.model.specs.declared.errno.Errno.TheVariants.{EFBIG}
use Rattle.paths.proofs.Looks.{looks_more, looks_ok}
use Rattle.records.specs.Obstacles.{BarsEdit}
use Rattle.records.specs.Rewriting.{SetsBoth}
use Rattle.records.specs.declared.contents.Rewrite.TheVariants.{Set}
use Rattle.records.proofs.Failures.{damaged_by, damaged_read, looks_failed, looks_read, read_told, refusal_is, refused_by}
use Rattle.records.proofs.RewriteLaws.{rewritten, sets_all}
use Rattle.records.proofs.rewriting.set_bytes.Goals as goal

pub returns-in_err-now-clause-damaged : goal.returns-in_err-now-clause-damaged
returns-in_err-now-clause-damaged g c = λ disk settled v stands. damaged_read c.from_residual.result c.from_residual.ensures.1 (c.in_err-now.ensures.damaged disk settled v stands)

pub returns-in_err-now-clause-answers : goal.returns-in_err-now-clause-answers
returns-in_err-now-clause-answers g c = λ disk settled v table stands volume mounted is.
    read_told (SetsBoth (limits_of c.args.inodes.now.geometry) c.args.time v table c.args.number c.args.mode c.args.size) _ c.from_residual.result c.from_residual.ensures.1

pub returns-then-is_idle-clause-answers : goal.returns-then-is_idle-clause-answers
returns-then-is_idle-clause-answers g c = λ disk settled v table stands volume mounted is.
    let size = c.in_ok-now.ensures.found disk settled v stands is in
    ap (λ (k : ℕ). is_none c.args.time && c.args.size == k) (sym size) ∙ sym c.is_idle.ensures ∙ c.if-is_idle.true

pub returns-in_err-prepared-clause-looks : goal.returns-in_err-prepared-clause-looks
returns-in_err-prepared-clause-looks g c = looks_failed _ c.from_residual-in_err-prepared.result c.from_residual-in_err-prepared.ensures.1 (looks_more c.in_ok-now.ensures.looks c.in_err-prepared.ensures.decides.looks)

pub returns-in_err-prepared-clause-own : goal.returns-in_err-prepared-clause-own
returns-in_err-prepared-clause-own g c = refused_by (λ r. IfErr r (λ e. e ≡ EFBIG)) _ _ c.from_residual-in_err-prepared.result c.from_residual-in_err-prepared.ensures.1 (λ errno own. own) c.in_err-prepared.ensures.own

pub returns-in_err-prepared-clause-answers : goal.returns-in_err-prepared-clause-answers
returns-in_err-prepared-clause-answers g c = λ disk settled v table stands volume mounted is.
    let looks = c.in_ok-now.ensures.looks in
    let failed = c.in_err-prepared.ensures in
    let all = subst (λ (s : Sizes). IsVolume (limits_of s) v) (sym looks.geometry) volume in
    let within = subst (λ (s : Sizes). c.args.size ≤ (limits_of s).file_bytes) (sym looks.geometry) c.requires.within in
    refused_by (λ r. IfErr r (λ errno. ⊥)) _ _ c.from_residual-in_err-prepared.result c.from_residual-in_err-prepared.ensures.1 (λ errno never. never)
    (refusal_is (λ errno. ⊥) (BarsEdit (limits_of c.size_at.new.inodes.geometry) v (set_file c.args.number c.args.mode c.args.size)) (Err _) failed.own (failed.decides.refused disk settled v (looks.kept disk settled v stands) all) (λ never. never (is, (subst (λ (m : ℕ). m ≤ 4095) c.bits.ensures.same c.bits.ensures.fits), within)))

pub returns-in_err-prepared-clause-damaged : goal.returns-in_err-prepared-clause-damaged
returns-in_err-prepared-clause-damaged g c = λ disk settled v stands.
    damaged_by _ c.from_residual-in_err-prepared.result c.from_residual-in_err-prepared.ensures.1 (c.in_err-prepared.ensures.decides.damaged disk settled v (c.in_ok-now.ensures.looks.kept disk settled v stands) tt)

pub returns-clause-looks : goal.returns-clause-looks
returns-clause-looks g c = looks_ok (looks_more c.in_ok-now.ensures.looks c.in_ok-prepared.ensures.decides.looks)

pub returns-clause-does : goal.returns-clause-does
returns-clause-does g c = λ disk settled v stands. c.in_ok-prepared.ensures.decides.does disk settled v (c.in_ok-now.ensures.looks.kept disk settled v stands)

pub returns-clause-answers : goal.returns-clause-answers
returns-clause-answers g c = λ disk settled v table stands volume mounted is.
    let limits = (limits_of c.args.inodes.now.geometry) in
    let n = c.args.number in
    let t = tree_of v table in
    let size = c.in_ok-now.ensures.found disk settled v stands is in
    let all = rewritten limits v table volume mounted c.records_change_trees.ensures c.args.time n (Set c.args.mode c.args.size) (record { time = c.requires.time; edit = (is, (subst (λ (m : ℕ). m ≤ 4095) c.bits.ensures.same c.bits.ensures.fits), c.requires.within) }) in
    (all.0, sets_all c.args.time t n c.args.size c.args.mode (tree_of (applied (stamped c.args.time (set_file n c.args.mode c.args.size)) v) table) (ap (λ (k : ℕ). is_none c.args.time && c.args.size == k) (sym size) ∙ sym c.is_idle.ensures ∙ c.if-is_idle.false) all.1)

pub returns-in_err-now-clause-looks : goal.returns-in_err-now-clause-looks
returns-in_err-now-clause-looks g c = looks_read c.from_residual.result c.from_residual.ensures.1 c.in_err-now.ensures.looks

pub returns-then-is_idle-clause-looks : goal.returns-then-is_idle-clause-looks
returns-then-is_idle-clause-looks g c = looks_ok c.in_ok-now.ensures.looks
