-- Tests by the limits of an image.
use Rattle.std.proofs.Common.{◌≡◌, ◌≢◌, ◌≤◌, ◌∙◌, ℕ, ℤ, nat_abs, List, [], ◌∷◌, length, Option, Some, None, false, ap, arith}
use Rattle.std.specs.Prelude.{◌==◌, IfSome}
use Rattle.std.specs.List.{AllByRecursion, list_any}
use Rattle.std.proofs.lemmas.List.Elements.{All-from_recursion}
use Rattle.std.proofs.lemmas.Bool.{eqb-false, ltb-false, or_parts}
use Rattle.model.specs.declared.limits.Limits.{Limits}
use Rattle.model.specs.Changing.{given_size_tests, link_text_tests, size_tests}
use Rattle.model.specs.Paths.{IsLinkText, Tests, first_refusal}
use Rattle.model.specs.declared.errno.Errno.{Errno}
use Rattle.model.proofs.LeadLemmas.{all_passed}

-- what some limits refuse is what the same ones do
pub by_limits : {refusal : Option Errno} {limits same : Limits} (tests : Limits → Tests) → limits ≡ same → refusal ≡ first_refusal (tests limits) → refusal ≡ first_refusal (tests same)
by_limits tests are is = is ∙ ap (λ (l : Limits). first_refusal (tests l)) are

-- a size that passed its tests
pub size_within : (limits : Limits) (size : ℤ) → first_refusal (size_tests limits size) ≡ None → nat_abs size ≤ limits.file_bytes
size_within limits size passed = ltb-false limits.file_bytes (nat_abs size) (all_passed (size_tests limits size) passed).1.0

pub given_size_within : (limits : Limits) (size : Option ℤ) → first_refusal (given_size_tests limits size) ≡ None → IfSome size (λ z. nat_abs z ≤ limits.file_bytes)
given_size_within limits None passed = tt
given_size_within limits (Some size) passed = size_within limits size passed

-- the text of a link that did
not_zeros : (text : List ℕ) → list_any (λ byte. byte == 0) text ≡ false → AllByRecursion (λ byte. byte ≢ 0) text
not_zeros [] e = tt
not_zeros (x ∷ text) e = let both = or_parts (x == 0) (list_any (λ byte. byte == 0) text) e in (eqb-false x 0 both.0, not_zeros text both.1)

pub link_text_within : (limits : Limits) (text : List ℕ) → first_refusal (link_text_tests limits text) ≡ None → IsLinkText limits.path_bytes text
link_text_within limits text passed =
    let pass = all_passed (link_text_tests limits text) passed in
    record {
      some = let filled : length text ≢ 0 = eqb-false (length text) 0 pass.0 in omega (arith, filled);
      short = ltb-false limits.path_bytes (length text) pass.1.1.0;
      plain = All-from_recursion (λ byte. byte ≢ 0) text (not_zeros text pass.1.0);
    }
