use Rattle.std.proofs.Common.{rules, ◌≡◌, ◌+◌, length, true, false, inl, inr, Err, IfErr, nat_lt, arith}
use Rattle.std.proofs.lemmas.Bool.{cases_lt, le-ltb}
use Rattle.std.proofs.lemmas.Bool.Decides.{nat_tests}
use Rattle.layout.specs.StateLimits.{limits_of}
use Rattle.model.specs.Paths.{is_empty}
use Rattle.model.specs.Records.{CanEdit, applied, stamped, write}
use Rattle.model.specs.Volumes.{tree_of}
use Rattle.model.specs.declared.errno.Errno.TheVariants.{EFBIG}
use Rattle.records.specs.Obstacles.{BarsEdit}
use Rattle.records.specs.Rewriting.{PutsBytes}
use Rattle.records.specs.declared.contents.Rewrite.TheVariants.{Write}
use Rattle.records.proofs.Failures.{damaged_by, looks_failed, refusal_is, refused_by}
use Rattle.records.proofs.RewriteLaws.{filled, past_limit, puts_all, puts_nothing, puts_too_much, rewritten, some_bytes}
use Rattle.records.proofs.rewriting.write_bytes.Goals as goal

pub returns-then-is_empty-clause-answers : goal.returns-then-is_empty-clause-answers
returns-then-is_empty-clause-answers g c = λ disk settled v table stands volume mounted is also.
    let none : is_empty c.args.bytes.now ≡ true = first_of (search rules, grind (arith, nat_tests)) in
    puts_nothing (limits_of c.args.inodes.now.geometry) c.args.time (tree_of v table) c.args.number c.args.offset c.args.bytes.now also none

pub returns-in_err-prepared-clause-looks : goal.returns-in_err-prepared-clause-looks
returns-in_err-prepared-clause-looks g c = looks_failed _ c.from_residual.result c.from_residual.ensures.1 c.in_err-prepared.ensures.decides.looks

pub returns-in_err-prepared-clause-own : goal.returns-in_err-prepared-clause-own
returns-in_err-prepared-clause-own g c = refused_by (λ r. IfErr r (λ e. e ≡ EFBIG)) _ _ c.from_residual.result c.from_residual.ensures.1 (λ errno own. own) c.in_err-prepared.ensures.own

pub returns-in_err-prepared-clause-answers : goal.returns-in_err-prepared-clause-answers
returns-in_err-prepared-clause-answers g c = λ disk settled v table stands volume mounted is.
    let failed = c.in_err-prepared.ensures in
    let offset = c.args.offset in
    let bytes = c.args.bytes.now in
    let none : is_empty bytes ≡ false = first_of (search rules, grind (arith, nat_tests)) in
    let past : (CanEdit (limits_of c.args.inodes.now.geometry) v (write c.args.number offset bytes) → ⊥) → nat_lt (limits_of c.args.inodes.now.geometry).file_bytes (offset + length bytes) ≡ true = λ never. elim (cases_lt (limits_of c.args.inodes.now.geometry).file_bytes (offset + length bytes)) [
      | inl lt ↦ past_limit (limits_of c.args.inodes.now.geometry).file_bytes (offset + length bytes) lt
      | inr le ↦ absurd (never (is, filled bytes none, c.requires.few, le))
    ] in
    let puts = PutsBytes (limits_of c.args.inodes.now.geometry) c.args.time v table c.args.number offset bytes in
    refused_by (λ r. IfErr r (λ errno. puts (Err errno))) _ _ c.from_residual.result c.from_residual.ensures.1 (λ errno done. done)
    (refusal_is (λ errno. puts (Err errno)) (BarsEdit (limits_of c.args.inodes.now.geometry) v (write c.args.number offset bytes)) (Err _) failed.own (failed.decides.refused disk settled v stands volume)
    (λ never also. puts_too_much (limits_of c.args.inodes.now.geometry) c.args.time (tree_of v table) c.args.number offset bytes also none (past never)))

pub returns-in_err-prepared-clause-damaged : goal.returns-in_err-prepared-clause-damaged
returns-in_err-prepared-clause-damaged g c = λ disk settled v stands. damaged_by _ c.from_residual.result c.from_residual.ensures.1 (c.in_err-prepared.ensures.decides.damaged disk settled v stands tt)

pub returns-clause-answers : goal.returns-clause-answers
returns-clause-answers g c = λ disk settled v table stands volume mounted is.
    let limits = (limits_of c.args.inodes.now.geometry) in
    let n = c.args.number in
    let bytes = c.args.bytes.now in
    let change = stamped c.args.time (write n c.args.offset bytes) in
    let can = c.in_ok-prepared.ensures.decides.applies disk settled v stands in
    let told = rewritten limits v table volume mounted c.records_change_trees.ensures c.args.time n (Write c.args.offset c.args.bytes) can in (
      told.0,
      λ also. puts_all (limits_of c.args.inodes.now.geometry) c.args.time (tree_of v table) n c.args.offset bytes also (tree_of (applied change v) table) (some_bytes bytes can.edit.1) (le-ltb (limits_of c.args.inodes.now.geometry).file_bytes (c.args.offset + length bytes) can.edit.3) told.1,
    )

pub returns-clause-does : goal.returns-clause-does
returns-clause-does g c = λ disk settled v stands. c.in_ok-prepared.ensures.decides.does disk settled v stands
