-- Tests, one list behind another.
use Rattle.std.proofs.Common.{◌≡◌, inl, inr, [], ◌∷◌, ◌++◌, Some, None, refl, sym, ◌∙◌}
use Rattle.std.proofs.lemmas.Bool.{cases_Bool, cond-true, cond-false}
use Rattle.model.specs.declared.errno.Errno.{Errno}
use Rattle.model.specs.Paths.{Tests, first_refusal}
use Rattle.model.proofs.OptionLaws.{none_some, some_none}

pub first_append : (a b : Tests) → first_refusal a ≡ None → first_refusal (a ++ b) ≡ first_refusal b
first_append [] b e = refl
first_append (test ∷ a) b e =
    elim (cases_Bool test.0) [
      | inl t ↦ some_none (sym (cond-true test.0 (Some test.1) (first_refusal a) t) ∙ e)
      | inr f ↦ cond-false test.0 (Some test.1) (first_refusal (a ++ b)) f ∙ first_append a b (sym (cond-false test.0 (Some test.1) (first_refusal a) f) ∙ e)
    ]

pub first_in_front : (a b : Tests) (errno : Errno) → first_refusal a ≡ Some errno → first_refusal (a ++ b) ≡ Some errno
first_in_front [] b errno e = none_some e
first_in_front (test ∷ a) b errno e =
    elim (cases_Bool test.0) [
      | inl t ↦ cond-true test.0 (Some test.1) (first_refusal (a ++ b)) t ∙ sym (cond-true test.0 (Some test.1) (first_refusal a) t) ∙ e
      | inr f ↦ cond-false test.0 (Some test.1) (first_refusal (a ++ b)) f ∙ first_in_front a b errno (sym (cond-false test.0 (Some test.1) (first_refusal a) f) ∙ e)
    ]
