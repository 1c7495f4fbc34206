use Rattle.std.proofs.Common.{◌∙◌, refl, sym, subst}
use Rattle.records.specs.Failures.{read_outcome}
use Rattle.records.specs.Moving.{Releases}
use Rattle.records.proofs.Failures.{read_failed}
use Rattle.records.proofs.Looking.{behind, besides, fails, found_nothing, tells}
use Rattle.records.proofs.MoveLaws.{other_alone, same_kind, true_alone}
use Rattle.records.proofs.renaming.replace.Goals as goal

pub returns-then-is_same-clause-replaced : goal.returns-then-is_same-clause-replaced
returns-then-is_same-clause-replaced g c = tells found_nothing (λ detail disk settled v now any. c.is_same.ensures.yes c.if-is_same.true)

pub returns-in_err-is_directory-clause-replaced : goal.returns-in_err-is_directory-clause-replaced
returns-in_err-is_directory-clause-replaced g c = fails (read_outcome c.from_residual.result) (read_failed _ c.from_residual.result c.from_residual.ensures.1) c.in_err-is_directory.ensures

pub returns-in_err-other_is-clause-replaced : goal.returns-in_err-other_is-clause-replaced
returns-in_err-other_is-clause-replaced g c =
    fails (read_outcome c.from_residual-in_err-other_is.result) (read_failed _ c.from_residual-in_err-other_is.result c.from_residual-in_err-other_is.ensures.1) (behind c.in_ok-is_directory.ensures c.in_err-other_is.ensures)

pub returns-then-is_directory-clause-replaced : goal.returns-then-is_directory-clause-replaced
returns-then-is_directory-clause-replaced g c = tells (besides c.in_ok-is_directory.ensures c.in_ok-other_is.ensures) (λ detail disk settled v now both. (
  c.is_same.ensures.no c.if-is_same.false,
  (sym both.0 ∙ c.if-is_directory.true, sym both.1 ∙ true_alone _ _ c.if-is_directory-other_is.true c.if-is_directory.true),
))

pub returns-then-is_directory-other_is-clause-replaced : goal.returns-then-is_directory-other_is-clause-replaced
returns-then-is_directory-other_is-clause-replaced g c = tells (besides c.in_ok-is_directory.ensures c.in_ok-other_is.ensures) (λ detail disk settled v now both. (
  c.is_same.ensures.no c.if-is_same.false,
  (sym both.0 ∙ c.if-is_directory.false, sym both.1 ∙ other_alone _ _ c.if-is_directory-other_is.true c.if-is_directory.false),
))

pub returns-in_err-released-clause-replaced : goal.returns-in_err-released-clause-replaced
returns-in_err-released-clause-replaced g c =
    fails (read_outcome c.from_residual-in_err-released.result) (read_failed _ c.from_residual-in_err-released.result c.from_residual-in_err-released.ensures.1)
    (behind c.in_ok-is_directory.ensures (behind c.in_ok-other_is.ensures c.in_err-released.ensures.released))

pub returns-in_default-clause-replaced : goal.returns-in_default-clause-replaced
returns-in_default-clause-replaced g c =
    tells (besides c.in_ok-is_directory.ensures (besides c.in_ok-other_is.ensures c.in_ok-released.ensures.released))
    (λ detail disk settled v now both. (
      c.is_same.ensures.no c.if-is_same.false,
      (sym both.1.0 ∙ sym (same_kind _ _ c.if-is_directory-other_is.false) ∙ both.0, subst (Releases detail disk settled v c.args.other) c.in_default.is both.1.1),
    ))

pub returns-clause-replaced : goal.returns-clause-replaced
returns-clause-replaced g c =
    tells (besides c.in_ok-is_directory.ensures (besides c.in_ok-other_is.ensures c.in_ok-released.ensures.released))
    (λ detail disk settled v now both.
    let goes = subst (Releases detail disk settled v c.args.other) c.in-Some.is both.1.1 in
    (refl, (c.is_same.ensures.no c.if-is_same.false, sym both.1.0 ∙ sym (same_kind _ _ c.if-is_directory-other_is.false) ∙ both.0, goes.1), goes.0))
