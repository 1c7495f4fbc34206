-- Counted names, as a sorted list.
use Rattle.std.proofs.Common.{◌≡◌, ◌≢◌, ◌↔◌, inl, inr, ℕ, zero, suc, List, [], ◌∷◌, length, Bool, true, false, ◌||◌, bytes_eq, refl, sym, ap, subst, ◌∙◌}
use Rattle.std.specs.List.{list_any, AllByRecursion}
use Rattle.std.specs.List.Sorted.{IsStrictlySortedBy}
use Rattle.std.specs.declared.cmp.Ordering.{Ordering}
use Rattle.std.specs.declared.cmp.Ordering.TheVariants.{Less, Equal, Greater}
use Rattle.std.specs.Ordering.{nat_cmp, match_ordering, ordering_reverse}
use Rattle.std.specs.Cmp.Lexicographic.{slice_cmp}
use Rattle.std.specs.BTreeSet.{insert_key}
use Rattle.std.specs.FinMap.{slice_cmp-IsAntisymmetric, nat_cmp-IsAntisymmetric}
use Rattle.std.proofs.Math.Bool.{or-false}
use Rattle.std.proofs.lemmas.Bool.{or_cases, or_left, or_right, false≢true, both_ways}
use Rattle.std.proofs.lemmas.Cmp.{nat_list_cmp_total}
use Rattle.std.proofs.lemmas.Slice.Eq.{bytes_eq-Decides}
use Rattle.model.specs.Counting.{Counts}
use Rattle.model.specs.Paths.{Name}
use Rattle.model.proofs.ListingLemmas.{names_apart}
use Rattle.dirs.proofs.ListingLaws.{or_again, or_assoc, or_comm}

-- names by their bytes
abbrev by_bytes : Name → Name → Ordering
by_bytes = slice_cmp nat_cmp

abbrev put : List Name → Name → List Name
put = insert_key by_bytes

abbrev pub has : List Name → Name → Bool
has names n = list_any (bytes_eq n) names

abbrev Above : Name → List Name → Type 0
Above x names = AllByRecursion (λ y. by_bytes x y ≡ Less) names

has-put : (names : List Name) (a n : Name) → has (put names a) n ≡ (has names n || bytes_eq n a)
has-put [] a n = or-false (bytes_eq n a)
has-put (x ∷ names) a n =
    elim (by_bytes a x) as (λ o. by_bytes a x ≡ o → has (match_ordering o (a ∷ x ∷ names) (x ∷ names) (x ∷ put names a)) n ≡ ((bytes_eq n x || has names n) || bytes_eq n a)) [
      | Less ↦ λ e. or_comm (bytes_eq n a) (bytes_eq n x || has names n)
      | Equal ↦ λ e. or_again (bytes_eq n x) (has names n) ∙ ap (λ m. (bytes_eq n x || has names n) || bytes_eq n m) (sym (slice_cmp-IsAntisymmetric nat_cmp-IsAntisymmetric a x e))
      | Greater ↦ λ e. ap (λ b. bytes_eq n x || b) (has-put names a n) ∙ or_assoc (bytes_eq n x) (has names n) (bytes_eq n a)
    ] refl

above-put : (x a : Name) (names : List Name) → by_bytes x a ≡ Less → Above x names → Above x (put names a)
above-put x a [] less above = (less, tt)
above-put x a (y ∷ names) less above =
    elim (by_bytes a y) as (λ o. Above x (match_ordering o (a ∷ y ∷ names) (y ∷ names) (y ∷ put names a))) [
      | Less ↦ (less, above)
      | Equal ↦ above
      | Greater ↦ (above.0, above-put x a names less above.1)
    ]

above_too : (a x : Name) (names : List Name) → by_bytes a x ≡ Less → Above x names → Above a names
above_too a x [] less above = tt
above_too a x (y ∷ names) less above = (nat_list_cmp_total.trans a x y less above.0, above_too a x names less above.1)

sorted-put : (names : List Name) (a : Name) → IsStrictlySortedBy by_bytes names → IsStrictlySortedBy by_bytes (put names a)
unfolding IsStrictlySortedBy
sorted-put [] a sorted = (tt, tt)
sorted-put (x ∷ names) a sorted =
    elim (by_bytes a x) as (λ o. by_bytes a x ≡ o → IsStrictlySortedBy by_bytes (match_ordering o (a ∷ x ∷ names) (x ∷ names) (x ∷ put names a))) [
      | Less ↦ λ e. ((e, above_too a x names e sorted.0), sorted)
      | Equal ↦ λ e. sorted
      | Greater ↦ λ e. (above-put x a names (nat_list_cmp_total.antisymm x a ∙ ap ordering_reverse e) sorted.0, sorted-put names a sorted.1)
    ] refl

length-put : (names : List Name) (a : Name) → has names a ≡ false → length (put names a) ≡ suc (length names)
length-put [] a none = refl
length-put (x ∷ names) a none =
    elim (by_bytes a x) as (λ o. by_bytes a x ≡ o → length (match_ordering o (a ∷ x ∷ names) (x ∷ names) (x ∷ put names a)) ≡ suc (length (x ∷ names))) [
      | Less ↦ λ e. refl
      | Equal ↦ λ e. absurd (both_ways (has (x ∷ names) a) none (or_left (bytes_eq a x) (has names a) ((bytes_eq-Decides a x).1 (slice_cmp-IsAntisymmetric nat_cmp-IsAntisymmetric a x e))))
      | Greater ↦ λ e. ap (λ n. suc n) (length-put names a (behind (bytes_eq a x) (has names a) none))
    ] refl
  where
    behind : (b c : Bool) → (b || c) ≡ false → c ≡ false
    behind true c e = absurd (false≢true (sym e))
    behind false c e = e

-- names that have a property, counted, are a sorted list of that length
pub record IsListOf (P : Name → Type 0) (count : ℕ) (names : List Name) : Type 0 where
  pub sorted : IsStrictlySortedBy (slice_cmp nat_cmp) names
  pub whole : (n : Name) → (has names n ≡ true) ↔ P n
  pub many : length names ≡ count

pub counted_list : (count : ℕ) (P : Name → Type 0) → Counts P count → (names : List Name) × IsListOf P count names
unfolding IsStrictlySortedBy
counted_list zero P none = ([], record { sorted = tt; whole = λ n. (λ e. absurd (false≢true e), λ is. absurd (none n is)); many = refl })
counted_list (suc count) P (a, here, rest) =
    let (names, are) = counted_list count (λ b. P b × (b ≢ a)) rest in
    let absent : has names a ≡ false = not_true (has names a) (λ e. ((are.whole a).0 e).1 refl) in (
      put names a,
      record {
        sorted = sorted-put names a are.sorted;
        whole = λ n. (
          λ e. elim (or_cases (has names n) (bytes_eq n a) (sym (has-put names a n) ∙ e)) [
            | inl before ↦ ((are.whole n).0 before).0
            | inr same ↦ subst P (sym ((bytes_eq-Decides n a).0 same)) here
          ],
          λ is. has-put names a n ∙ elim (names_apart n a) [
            | inl same ↦ or_right (has names n) (bytes_eq n a) ((bytes_eq-Decides n a).1 same)
            | inr other ↦ or_left (has names n) (bytes_eq n a) ((are.whole n).1 (is, other))
          ],
        );
        many = length-put names a absent ∙ ap (λ n. suc n) are.many;
      },
    )
  where
    not_true : (b : Bool) → (b ≡ true → ⊥) → b ≡ false
    not_true true e = absurd (e refl)
    not_true false e = refl
