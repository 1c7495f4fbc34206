use Rattle.std.proofs.Common.{◌↔◌, Bool, Option, IfSome, IsTrue, refl, sym, subst, ◌∙◌}
use Rattle.std.proofs.lemmas.Bool.{false≢true}
use Rattle.layout.specs.StateLimits.{limits_of}
use Rattle.layout.specs.Limits.{Sizes}
use Rattle.model.specs.Records.{IsBelow}
use Rattle.model.specs.Volumes.{entries}
use Rattle.paths.proofs.Looks.{looks_err, looks_more, looks_ok}
use Rattle.paths.proofs.LookingUp.{same_error}
use Rattle.records.specs.Planning.{IsKnownVolume}
use Rattle.records.proofs.BelowLaws.{below_self, no_directory_empty, only_itself}
use Rattle.records.proofs.Looking.{behind}
use Rattle.records.proofs.StandLaws.{no_look}
use Rattle.records.proofs.below.is_below.Goals as goal

pub returns-then-is_same-clause-looks : goal.returns-then-is_same-clause-looks
returns-then-is_same-clause-looks g c = looks_ok no_look

pub returns-then-is_same-clause-below : goal.returns-then-is_same-clause-below
returns-then-is_same-clause-below g c = λ detail disk settled v stands known. (
  λ is. subst (IsBelow (entries v) c.args.top) (c.is_same.ensures.yes c.if-is_same.true) (below_self (entries v) c.args.top),
  λ below. refl,
)

pub returns-in_err-is_directory-clause-looks : goal.returns-in_err-is_directory-clause-looks
returns-in_err-is_directory-clause-looks g c = looks_err c.from_residual.result c.from_residual.ensures.1 c.in_err-is_directory.ensures.looks

pub returns-in_err-is_directory-clause-damaged : goal.returns-in_err-is_directory-clause-damaged
returns-in_err-is_directory-clause-damaged g c = λ detail disk settled v stands is.
    c.in_err-is_directory.ensures.damaged {detail = detail} disk settled v stands (same_error c.from_residual.result _ _ c.from_residual.ensures.1 is)

pub returns-then-not-is_directory-clause-looks : goal.returns-then-not-is_directory-clause-looks
returns-then-not-is_directory-clause-looks g c = looks_ok c.in_ok-is_directory.ensures.looks

-- below what is no directory there is nothing else
pub returns-then-not-is_directory-clause-below : goal.returns-then-not-is_directory-clause-below
returns-then-not-is_directory-clause-below g c = λ detail disk settled v stands known. (
  λ is. absurd (false≢true is),
  λ below.
      let empty = no_directory_empty v c.args.top (sym (c.in_ok-is_directory.ensures.found {detail = detail} disk settled v stands) ∙ c.if-not-is_directory.true) in
      absurd (c.is_same.ensures.no c.if-is_same.false (sym (only_itself v c.args.top c.args.number empty below))),
)

pub returns-in_err-climbed-clause-looks : goal.returns-in_err-climbed-clause-looks
returns-in_err-climbed-clause-looks g c =
    looks_err c.from_residual-in_err-climbed.result c.from_residual-in_err-climbed.ensures.1 (looks_more c.in_ok-is_directory.ensures.looks c.in_err-climbed.ensures.looks)

pub returns-in_err-climbed-clause-damaged : goal.returns-in_err-climbed-clause-damaged
returns-in_err-climbed-clause-damaged g c = λ detail disk settled v stands is.
    (behind c.in_ok-is_directory.ensures c.in_err-climbed.ensures).damaged {detail = detail} disk settled v stands
    (same_error c.from_residual-in_err-climbed.result _ _ c.from_residual-in_err-climbed.ensures.1 is)

pub returns-in-Some-clause-looks : goal.returns-in-Some-clause-looks
returns-in-Some-clause-looks g c = looks_ok (looks_more c.in_ok-is_directory.ensures.looks c.in_ok-climbed.ensures.looks)

pub returns-in-Some-clause-below : goal.returns-in-Some-clause-below
returns-in-Some-clause-below g c = λ detail disk settled v stands known.
    subst (λ (o : Option Bool). IfSome o (λ below. IsTrue below ↔ IsBelow (entries v) c.args.top c.args.number)) c.in-Some.is
    ((behind c.in_ok-is_directory.ensures c.in_ok-climbed.ensures).found {detail = detail} disk settled v stands (subst (λ (s : Sizes). IsKnownVolume detail (limits_of s) v) (sym c.in_ok-is_directory.ensures.looks.geometry) known))

pub returns-in-None-clause-looks : goal.returns-in-None-clause-looks
returns-in-None-clause-looks g c = looks_more (looks_more c.in_ok-is_directory.ensures.looks c.in_ok-climbed.ensures.looks) c.look_below.ensures.looks

pub returns-in-None-clause-below : goal.returns-in-None-clause-below
returns-in-None-clause-below g c = λ detail disk settled v stands known.
    c.look_below.ensures.below detail disk settled v ((behind c.in_ok-is_directory.ensures c.in_ok-climbed.ensures).looks.kept {detail = detail} disk settled v stands)

pub returns-in-None-clause-damaged : goal.returns-in-None-clause-damaged
returns-in-None-clause-damaged g c = λ detail disk settled v stands.
    c.look_below.ensures.damaged detail disk settled v ((behind c.in_ok-is_directory.ensures c.in_ok-climbed.ensures).looks.kept {detail = detail} disk settled v stands)
