-- Lists of what was found, and tables of numbers, with one more.
use Rattle.std.proofs.Common.{◌≡◌, ◌≢◌, ◌∙◌, inl, inr, ℕ, zero, suc, ◌+◌, ◌<◌, ◌≤◌, ◌==◌, if◌then◌else◌, List, [], ◌∷◌, ◌++◌, length, get_or, set, length-set, length-append, Some, refl, sym, ap, subst, arith}
use Rattle.std.specs.Prelude.{slice_get}
use Rattle.std.proofs.lemmas.List.Sums.{sum_by-set}
use Rattle.std.proofs.lemmas.Bool.{cond-true, cond-false, eq-eqb, ne_eqb}
use Rattle.model.proofs.OptionLaws.{none_some}
use Rattle.model.proofs.ListLaws.{get_pushed}
use Rattle.checker.specs.Names.{AreWithin}
use Rattle.checker.specs.Walks.{GoesOn, unnamed_rows}
use Rattle.checker.specs.declared.names.NumberRow.{NumberRow}

module _ {X : Type 0} where
  pub get_front : (xs ys : List X) (i : ℕ) (x : X) → slice_get xs i ≡ Some x → slice_get (xs ++ ys) i ≡ Some x
  get_front [] ys i x is = none_some is
  get_front (y ∷ xs) ys zero x is = is
  get_front (y ∷ xs) ys (suc i) x is = get_front xs ys i x is

-- ---- a table and what is found, as they go on

pub goes_none : (table : List NumberRow) (found : List ℕ) → GoesOn table found table found
goes_none table found = record { length_is = refl; keeps = λ i n is. is; fewer = omega arith; within = λ are. are }

pub goes_more : {a b c : List NumberRow} {f g h : List ℕ} → GoesOn a f b g → GoesOn b g c h → GoesOn a f c h
goes_more {g = g} {h = h} first last = record {
  length_is = last.length_is ∙ first.length_is;
  keeps = λ i n is. last.keeps i n (first.keeps i n is);
  fewer = omega (arith, first.fewer, last.fewer);
  within = λ are. subst (λ (k : ℕ). AreWithin k h) first.length_is (last.within (subst (λ (k : ℕ). AreWithin k g) (sym first.length_is) (first.within are)));
}

abbrev weight : NumberRow → ℕ
weight row = if row.names == 0 then 1 else 0

weight_none : (row : NumberRow) → row.names ≡ 0 → weight row ≡ 1
weight_none row none = cond-true (row.names == 0) 1 0 (eq-eqb row.names 0 none)

weight_some : (row : NumberRow) → row.names ≢ 0 → weight row ≡ 0
weight_some row some = cond-false (row.names == 0) 1 0 (ne_eqb row.names 0 some)

-- one row has another value, with more names
module _ (table : List NumberRow) (n : ℕ) (old new : NumberRow) (low : n < length table) (is : get_or table n old ≡ old) (some : new.names ≢ 0) where
  unnamed_set : unnamed_rows (set table n new) + weight old ≡ unnamed_rows table
  unnamed_set =
      let sums = sum_by-set weight table n new old low in
      let here : weight (get_or table n old) ≡ weight old = ap weight is in
      let none : weight new ≡ 0 = weight_some new some in
      omega (arith, sums, here, none)

  pub goes_named : (found : List ℕ) → GoesOn table found (set table n new) found
  goes_named found = record {
    length_is = length-set table n new;
    keeps = λ i m at. at;
    fewer = omega (arith, unnamed_set);
    within = λ are. are;
  }

  pub goes_found : (found : List ℕ) → old.names ≡ 0 → 1 ≤ n → GoesOn table found (set table n new) (found ++ n ∷ [])
  goes_found found none least = record {
    length_is = length-set table n new;
    keeps = λ i m at. get_front found (n ∷ []) i m at;
    fewer = omega (arith, unnamed_set, weight_none old none, length-append found (n ∷ []));
    within = λ are i m at. elim (get_pushed found n i m at) [
      | inl before ↦ are i m before
      | inr here ↦ subst (λ (k : ℕ). (1 ≤ k) × (k < length table)) (sym here.1) (least, low)
    ];
  }
