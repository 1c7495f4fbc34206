-- Refusals of calls by a path are their own.
use Rattle.std.proofs.Common.{◌≡◌, inl, inr, ℕ, ℤ, List, [], ◌∷◌, Option, None, Some, IsTrue, refl, sym, subst, ◌∙◌}
use Rattle.std.proofs.lemmas.Bool.{cases_Bool, cond-true, cond-false, false≢true}
use Rattle.model.specs.declared.limits.Limits.{Limits}
use Rattle.model.specs.Changing.{given_size_tests, link_text_tests, size_tests}
use Rattle.model.specs.Paths.{Tests, first_refusal, text_tests, new_text_tests}
use Rattle.model.specs.Records.{Change, Edit, change_attributes, set_file, create, truncate, link, rename, remove_name, write}
use Rattle.model.specs.declared.errno.Errno.{Errno}
use Rattle.model.specs.declared.errno.Errno.TheVariants.{ENOENT, ENOTDIR, ENAMETOOLONG, ELOOP, ESTALE, DAMAGED}
use Rattle.model.proofs.LooseLemmas.{some_same}
use Rattle.paths.specs.Refusals.{is_walk_refusal}
use Rattle.records.specs.Obstacles.{may_bar, tells_obstacle}
use Rattle.calls.specs.Refusals.{is_path_refusal}
use Rattle.model.proofs.OptionLaws.{none_some}

pub walk_refusal : (e : Errno) → IsTrue (is_walk_refusal e) → IsTrue (is_path_refusal e)
walk_refusal ENOENT is = refl
walk_refusal ENOTDIR is = refl
walk_refusal ENAMETOOLONG is = refl
walk_refusal ELOOP is = refl
walk_refusal ESTALE is = refl
walk_refusal DAMAGED is = refl
walk_refusal _ is = absurd (false≢true is)

abbrev AllOwn : Tests → Type 0
AllOwn [] = Unit {0}
AllOwn (test ∷ tests) = IsTrue (is_path_refusal test.1) × AllOwn tests

first_own : (tests : Tests) (e : Errno) → AllOwn tests → first_refusal tests ≡ Some e → IsTrue (is_path_refusal e)
first_own [] e own is = none_some is
first_own (test ∷ tests) e own is =
    elim (cases_Bool test.0) [
      | inl t ↦ subst (λ (x : Errno). IsTrue (is_path_refusal x)) (some_same (sym (cond-true test.0 (Some test.1) (first_refusal tests) t) ∙ is)) own.0
      | inr f ↦ first_own tests e own.1 (sym (cond-false test.0 (Some test.1) (first_refusal tests) f) ∙ is)
    ]

pub text_own : (limits : Limits) (text : List ℕ) (e : Errno) → first_refusal (text_tests limits text) ≡ Some e → IsTrue (is_path_refusal e)
text_own limits text e is = first_own (text_tests limits text) e (refl, (refl, (refl, (refl, (refl, (refl, (refl, tt))))))) is

pub new_text_own : (limits : Limits) (text : List ℕ) (e : Errno) → first_refusal (new_text_tests limits text) ≡ Some e → IsTrue (is_path_refusal e)
new_text_own limits text e is = first_own (new_text_tests limits text) e (refl, (refl, (refl, (refl, (refl, (refl, (refl, (refl, tt)))))))) is

pub link_text_own : (limits : Limits) (text : List ℕ) (e : Errno) → first_refusal (link_text_tests limits text) ≡ Some e → IsTrue (is_path_refusal e)
link_text_own limits text e is = first_own (link_text_tests limits text) e (refl, (refl, (refl, tt))) is

pub size_own : (limits : Limits) (size : ℤ) (e : Errno) → first_refusal (size_tests limits size) ≡ Some e → IsTrue (is_path_refusal e)
size_own limits size e is = first_own (size_tests limits size) e (refl, (refl, tt)) is

pub given_size_own : (limits : Limits) (size : Option ℤ) (e : Errno) → first_refusal (given_size_tests limits size) ≡ Some e → IsTrue (is_path_refusal e)
given_size_own limits None e is = none_some is
given_size_own limits (Some size) e is = size_own limits size e is

-- an obstacle to a record is told by an errno of paths
edit_own : (edit : Edit) (e : Errno) → IsTrue (may_bar edit e) → IsTrue (is_path_refusal e)
edit_own edit DAMAGED is = refl
edit_own (create n d made x) e is = is
edit_own (link n d x) e is = is
edit_own (remove_name d x) e is = is
edit_own (rename d x k y) e is = is
edit_own (write n offset bytes) e is = is
edit_own (truncate n size) e is = is
edit_own (change_attributes n permissions modified) e is = is
edit_own (set_file n mode size) e is = is

pub obstacle_own : (change : Change) (e : Errno) → IsTrue (tells_obstacle change e) → IsTrue (is_path_refusal e)
obstacle_own change e is = edit_own change.edit e is
