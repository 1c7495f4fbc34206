-- What the kernel forgets, one node behind the other.
use Rattle.std.proofs.Common.{◌≡◌, ℕ, suc, ◌/◌, ◌<◌, ◌≤◌, Bool, true, false, cond, ltb, List, [], ◌∷◌, length, drop, Option, Some, None, refl, sym, ap, ◌∙◌, arith}
use Rattle.std.proofs.lemmas.Bool.{ltb-true, ltb-false}
use Rattle.std.proofs.lemmas.List.{length-drop, drop-drop}
use Rattle.layout.specs.Bytes.{number}
use Rattle.layout.specs.Reading.{number_read}
use Rattle.layout.proofs.Formats.{some_is, unless_then}
use Rattle.fuse.specs.Forgets.{forgets_in, all_forgets}

nothing_behind : {A : Type 0} (b : Bool) (x : A) → ◌≡◌ {A = Option A} None (cond b None (Some x)) → b ≡ true
nothing_behind true x e = refl
nothing_behind false x e = absurd cc

-- bytes that have no number
pub too_short : (n : ℕ) (bytes : List ℕ) → None ≡ number_read n bytes → length bytes < n
too_short n bytes e = ltb-true _ _ (nothing_behind (ltb (length bytes) n) (number n bytes, drop n bytes) e)

-- a number and the bytes behind it
pub record IsFront (n : ℕ) (bytes : List ℕ) (x : ℕ) (rest : List ℕ) : Type 0 where
  pub long : n ≤ length bytes
  pub number_is : x ≡ number n bytes
  pub rest_is : rest ≡ drop n bytes

pub front_is : (n : ℕ) (bytes : List ℕ) (x : ℕ) (rest : List ℕ) → Some (x, rest) ≡ number_read n bytes → IsFront n bytes x rest
front_is n bytes x rest e =
    let g = unless_then (ltb (length bytes) n) (Some (number n bytes, drop n bytes)) (x, rest) (sym e) in
    let same = some_is (number n bytes, drop n bytes) (x, rest) g.1 in
    record { long = ltb-false _ _ g.0; number_is = λ i. (sym same i).0; rest_is = λ i. (sym same i).1 }

pub forgets_none : (bytes : List ℕ) → length bytes < 16 → all_forgets bytes ≡ []
unfolding forgets_in
forgets_none bytes few =
    let none : length bytes / 16 ≡ 0 = omega arith in
    ap (λ (n : ℕ). forgets_in n bytes) none

pub forgets_some : (bytes : List ℕ) (node : ℕ) (behind : List ℕ) (lookups : ℕ) (rest : List ℕ) → IsFront 8 bytes node behind → IsFront 8 behind lookups rest
    → all_forgets bytes ≡ record { node = node; lookups = lookups } ∷ all_forgets rest
unfolding forgets_in
forgets_some bytes node behind lookups rest first second =
    let first_length = ap (λ (l : List ℕ). length l) first.rest_is ∙ length-drop 8 bytes in
    let second_length = ap (λ (l : List ℕ). length l) second.rest_is ∙ length-drop 8 behind in
    let one_more : length bytes / 16 ≡ suc (length rest / 16) = omega (arith, first_length, second_length, first.long, second.long) in
    let rest_is : rest ≡ drop 16 bytes = second.rest_is ∙ ap (λ (l : List ℕ). drop 8 l) first.rest_is ∙ drop-drop 8 8 bytes in
    let lookups_is : lookups ≡ number 8 (drop 8 bytes) = second.number_is ∙ ap (λ (l : List ℕ). number 8 l) first.rest_is in
    ap (λ (n : ℕ). forgets_in n bytes) one_more
    ∙ (λ i. record { node = sym first.number_is i; lookups = sym lookups_is i } ∷ forgets_in (length rest / 16) (sym rest_is i))
