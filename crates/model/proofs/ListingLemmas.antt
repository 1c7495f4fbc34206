-- The names in a directory, as a sorted list and as a count.
use Rattle.std.proofs.Common.{◌≡◌, ◌≢◌, ◌⊎◌, ◌↔◌, inl, inr, List, [], ◌∷◌, ◌++◌, length, Bool, true, Contains, IsSome, bytes_eq, refl, sym, ap, subst, ◌∙◌}
use Rattle.std.specs.List.{list_any, AllByRecursion}
use Rattle.std.specs.List.Sorted.{IsStrictlySortedBy}
use Rattle.std.specs.declared.cmp.Ordering.TheVariants.{Less, Equal}
use Rattle.std.specs.Cmp.{IsTotalOrder}
use Rattle.std.specs.Ordering.{nat_cmp}
use Rattle.std.specs.declared.cmp.Ordering.{Ordering}
use Rattle.std.specs.Cmp.Lexicographic.{slice_cmp}
use Rattle.std.proofs.lemmas.Bool.{cases_Bool, or_cases, or_left, or_right, both_ways, false≢true}
use Rattle.std.proofs.lemmas.Slice.Eq.{bytes_eq-Decides}
use Rattle.std.proofs.lemmas.Cmp.{nat_list_eq_equiv, nat_list_cmp_total, tied_itself}
use Rattle.std.proofs.lemmas.Map.Views.{list_any-from_Contains, Contains-from_any}
use Rattle.model.specs.Counting.{Counts}
use Rattle.model.specs.Paths.{Name, Path}
use Rattle.model.specs.Trees.{Tree}
use Rattle.model.specs.Outcomes.{IsListing}

differ : {X : Type 0} → Equal ≡ Less → X
differ e = cc

pub names_apart : (x y : Name) → (x ≡ y) ⊎ (x ≢ y)
names_apart x y =
    elim (cases_Bool (bytes_eq x y)) [
      | inl e ↦ inl ((bytes_eq-Decides x y).0 e)
      | inr e ↦ inr (λ same. both_ways (bytes_eq x y) e ((bytes_eq-Decides x y).1 same))
    ]

abbrev has : List Name → Name → Bool
has names n = list_any (bytes_eq n) names

all_has : (P : Name → Type 0) (names : List Name) (n : Name) → AllByRecursion P names → has names n ≡ true → P n
all_has P [] n all e = absurd (false≢true e)
all_has P (x ∷ names) n all e =
    elim (or_cases (bytes_eq n x) (has names n) e) [
      | inl same ↦ subst P (sym ((bytes_eq-Decides n x).0 same)) all.0
      | inr later ↦ all_has P names n all.1 later
    ]

apart : (x n : Name) → slice_cmp nat_cmp x n ≡ Less → n ≢ x
apart x n less same = differ (sym (tied_itself nat_list_cmp_total x) ∙ ap (slice_cmp nat_cmp x) (sym same) ∙ less)

-- a sorted list counts what it has
sorted_counts : (names : List Name) (P : Name → Type 0) → IsStrictlySortedBy (slice_cmp nat_cmp) names → ((n : Name) → (has names n ≡ true) ↔ P n) → Counts P (length names)
unfolding IsStrictlySortedBy
sorted_counts [] P sorted whole = λ n is. false≢true ((whole n).1 is)
sorted_counts (x ∷ names) P sorted whole = (
  x,
  (whole x).0 (or_left (bytes_eq x x) (has names x) ((bytes_eq-Decides x x).1 refl)),
  sorted_counts names (λ n. P n × (n ≢ x)) sorted.1 (λ n. (
    λ later. ((whole n).0 (or_right (bytes_eq n x) (has names n) later), apart x n (all_has (λ y. slice_cmp nat_cmp x y ≡ Less) names n sorted.0 later)),
    λ is. elim (or_cases (bytes_eq n x) (has names n) ((whole n).1 is.0)) [
      | inl same ↦ absurd (is.1 ((bytes_eq-Decides n x).0 same))
      | inr later ↦ later
    ],
  )),
)

pub listing_counts : (t : Tree) (p : Path) (names : List Name) → IsListing t p names → Counts (λ name. IsSome (t.objects (p ++ name ∷ []))) (length names)
listing_counts t p names listing =
    sorted_counts names (λ name. IsSome (t.objects (p ++ name ∷ []))) listing.sorted (λ n. (
      λ e. (listing.whole n).0 (Contains-from_any (λ x y. (bytes_eq-Decides x y).0) n names e),
      λ some. list_any-from_Contains nat_list_eq_equiv n names ((listing.whole n).1 some),
    ))

-- names that have one order are one list
module _ (cmp : Name → Name → Ordering) (total : IsTotalOrder cmp) where
  below_apart : (x n : Name) → cmp x n ≡ Less → n ≢ x
  below_apart x n less same = differ (sym (tied_itself total x) ∙ ap (cmp x) (sym same) ∙ less)

  pub sorted_once : (xs ys : List Name) → IsStrictlySortedBy cmp xs → IsStrictlySortedBy cmp ys → ((n : Name) → (has xs n ≡ true) ↔ (has ys n ≡ true)) → xs ≡ ys
  unfolding IsStrictlySortedBy
  sorted_once [] [] sx sy both = refl
  sorted_once [] (y ∷ ys) sx sy both = absurd (false≢true ((both y).1 (or_left (bytes_eq y y) (has ys y) ((bytes_eq-Decides y y).1 refl))))
  sorted_once (x ∷ xs) [] sx sy both = absurd (false≢true ((both x).0 (or_left (bytes_eq x x) (has xs x) ((bytes_eq-Decides x x).1 refl))))
  sorted_once (x ∷ xs) (y ∷ ys) sx sy both =
      let same : x ≡ y = first_same in
      λ i. same i ∷ sorted_once xs ys sx.1 sy.1 (λ n. (later_too same n, later_back same n)) i
    where
      x_there : has (y ∷ ys) x ≡ true
      x_there = (both x).0 (or_left (bytes_eq x x) (has xs x) ((bytes_eq-Decides x x).1 refl))

      y_there : has (x ∷ xs) y ≡ true
      y_there = (both y).1 (or_left (bytes_eq y y) (has ys y) ((bytes_eq-Decides y y).1 refl))

      first_same : x ≡ y
      first_same =
          elim (or_cases (bytes_eq x y) (has ys x) x_there) [
            | inl same ↦ (bytes_eq-Decides x y).0 same
            | inr later ↦ elim (or_cases (bytes_eq y x) (has xs y) y_there) [
              | inl same ↦ sym ((bytes_eq-Decides y x).0 same)
              | inr after ↦
                  let below : cmp y x ≡ Less = all_has (λ z. cmp y z ≡ Less) ys x sy.0 later in
                  let above : cmp x y ≡ Less = all_has (λ z. cmp x z ≡ Less) xs y sx.0 after in
                  absurd (below_apart x x (total.trans x y x above below) refl)
            ]
          ]

      later_too : x ≡ y → (n : Name) → has xs n ≡ true → has ys n ≡ true
      later_too same n later =
          elim (or_cases (bytes_eq n y) (has ys n) ((both n).0 (or_right (bytes_eq n x) (has xs n) later))) [
            | inl first ↦ absurd (below_apart x n (all_has (λ z. cmp x z ≡ Less) xs n sx.0 later) ((bytes_eq-Decides n y).0 first ∙ sym same))
            | inr after ↦ after
          ]

      later_back : x ≡ y → (n : Name) → has ys n ≡ true → has xs n ≡ true
      later_back same n later =
          elim (or_cases (bytes_eq n x) (has xs n) ((both n).1 (or_right (bytes_eq n y) (has ys n) later))) [
            | inl first ↦ absurd (below_apart y n (all_has (λ z. cmp y z ≡ Less) ys n sy.0 later) ((bytes_eq-Decides n x).0 first ∙ same))
            | inr after ↦ after
          ]

listed_is : (t : Tree) (p : Path) (names : List Name) → IsListing t p names → (n : Name) → (has names n ≡ true) ↔ IsSome (t.objects (p ++ n ∷ []))
listed_is t p names listing n = (
  λ e. (listing.whole n).0 (Contains-from_any (λ x y. (bytes_eq-Decides x y).0) n names e),
  λ some. list_any-from_Contains nat_list_eq_equiv n names ((listing.whole n).1 some),
)

pub listing_once : (t : Tree) (p : Path) (names others : List Name) → IsListing t p names → IsListing t p others → names ≡ others
listing_once t p names others one other =
    sorted_once (slice_cmp nat_cmp) nat_list_cmp_total names others one.sorted other.sorted (λ n. (
      λ e. (listed_is t p others other n).1 ((listed_is t p names one n).0 e),
      λ e. (listed_is t p names one n).1 ((listed_is t p others other n).0 e),
    ))

-- the same of lists that have the same members
pub members_once : (cmp : Name → Name → Ordering) → IsTotalOrder cmp → (xs ys : List Name) → IsStrictlySortedBy cmp xs → IsStrictlySortedBy cmp ys
    → ((n : Name) → Contains xs n → Contains ys n) → ((n : Name) → Contains ys n → Contains xs n) → xs ≡ ys
members_once cmp total xs ys sx sy there back =
    sorted_once cmp total xs ys sx sy (λ n. (
      λ e. list_any-from_Contains nat_list_eq_equiv n ys (there n (Contains-from_any (λ x y. (bytes_eq-Decides x y).0) n xs e)),
      λ e. list_any-from_Contains nat_list_eq_equiv n xs (back n (Contains-from_any (λ x y. (bytes_eq-Decides x y).0) n ys e)),
    ))
