-- A directory that is told in parts, in the order of its names' cookies.
use Rattle.std.proofs.Common.{◌≡◌, ◌⊎◌, inl, inr, ℕ, zero, suc, ◌≤◌, ◌<◌, List, [], ◌∷◌, ◌++◌, length, get_or, All, Contains, Bool, true, false, Some, refl, sym, ap, subst, ◌∙◌, arith}
use Rattle.std.specs.Prelude.{nat_lt, filter, slice_get, slice_index_or}
use Rattle.std.specs.Cmp.{IsTotalOrder, nat_cmp_is}
use Rattle.std.specs.Ordering.{nat_cmp, ordering_then}
use Rattle.std.specs.Cmp.Lexicographic.{slice_cmp}
use Rattle.std.specs.List.Sorted.{IsStrictlySortedBy}
use Rattle.std.specs.declared.cmp.Ordering.{Ordering}
use Rattle.std.specs.declared.cmp.Ordering.TheVariants.{Less, Greater}
use Rattle.std.proofs.lemmas.Bool.{cases_Bool, cases_lt, cases_order, cond_both, and_from, and_parts, false≢true, ltb-true, ltb-false, lt-ltb}
use Rattle.std.proofs.lemmas.Cmp.{nat_list_cmp_total, on_total}
use Rattle.std.proofs.lemmas.Map.Keys.{Less-from_sorted, sorted_tail}
use Rattle.std.proofs.lemmas.List.Elements.{All-head, All-tail}
use Rattle.model.specs.Paths.{Name}
use Rattle.model.specs.Entries.{AreTold, Part, cookie_cmp, cookie_of, end_of, is_between, is_told}
use Rattle.model.proofs.OptionLaws.{some_same}
use Rattle.model.specs.Laws.{PartsTellOnce}

pub cookie_total : IsTotalOrder cookie_cmp
cookie_total = on_total (λ (name : Name). cookie_of name ∷ name) nat_list_cmp_total

-- ---- members

behind : (x y : Name) (xs : List Name) → Contains xs y → Contains (x ∷ xs) y
behind x y xs (k, low, is) = (suc k, omega (arith, low), is)

first_or_later : (x y : Name) (xs : List Name) → Contains (x ∷ xs) y → (x ≡ y) ⊎ Contains xs y
first_or_later x y xs (zero, low, is) = inl is
first_or_later x y xs (suc k, low, is) = inr (k, omega (arith, low), is)

none_in : (y : Name) → ¬ Contains [] y
none_in y (k, low, is) = absurd (omega (arith, low))

filter_shorter : (p q : Name → Bool) → ((y : Name) → p y ≡ true → q y ≡ true) → (xs : List Name) → length (filter p xs) ≤ length (filter q xs)
filter_shorter p q more [] = omega arith
filter_shorter p q more (x ∷ xs) =
    let rest : length (filter p xs) ≤ length (filter q xs) = filter_shorter p q more xs in
    cond_both (p x) (x ∷ filter p xs) (filter p xs) (λ (l : List Name). length l ≤ length (filter q (x ∷ xs)))
    (λ e. cond_both (q x) (x ∷ filter q xs) (filter q xs) (λ (l : List Name). length (x ∷ filter p xs) ≤ length l) (λ f. omega (arith, rest)) (λ f. absurd (false≢true (sym f ∙ more x e))))
    (λ e. cond_both (q x) (x ∷ filter q xs) (filter q xs) (λ (l : List Name). length (filter p xs) ≤ length l) (λ f. omega (arith, rest)) (λ f. rest))

filter_has : (p : Name → Bool) (xs : List Name) → 1 ≤ length (filter p xs) → (y : Name) × Contains xs y × (p y ≡ true)
filter_has p [] = λ some. absurd (omega (arith, some))
filter_has p (x ∷ xs) =
    cond_both (p x) (x ∷ filter p xs) (filter p xs) (λ (l : List Name). 1 ≤ length l → (y : Name) × Contains (x ∷ xs) y × (p y ≡ true))
    (λ e some. (x, (0, omega arith, refl), e))
    (λ e some. let found = filter_has p xs some in (found.0, behind x found.0 xs found.1, found.2))

-- ---- cookies

positive : (x : Name) → 1 ≤ cookie_of x
positive x = omega arith

-- what stands before another has no greater cookie
rises : (a b : Name) (m n : ℕ) → slice_cmp nat_cmp (m ∷ a) (n ∷ b) ≡ Less → m ≤ n
rises a b m n less =
    elim (cases_order m n) [
      | inl e ↦ omega (arith, e)
      | inr apart ↦ elim apart [
        | inl below ↦ omega (arith, below)
        | inr above ↦
            let greater : slice_cmp nat_cmp (m ∷ a) (n ∷ b) ≡ Greater =
            sym (ap (λ (o : Ordering). ordering_then o (slice_cmp nat_cmp a b)) (nat_cmp_is m n Greater above)) in
            apart_orders (sym greater ∙ less)
      ]
    ]
  where
    apart_orders : {X : Type 0} → Greater ≡ Less → X
    apart_orders e = cc

cookies_rise : (a b : Name) → cookie_cmp a b ≡ Less → cookie_of a ≤ cookie_of b
cookies_rise a b less = rises a b (cookie_of a) (cookie_of b) less

-- where a part ends
ends_below : (bound after : ℕ) (told : List Name) → after < bound → ((y : Name) → Contains told y → cookie_of y < bound) → end_of after told < bound
ends_below bound after [] low all = low
ends_below bound after (x ∷ told) low all = ends_below bound (cookie_of x) told (all x (0, omega arith, refl)) (λ y has. all y (behind x y told has))

ends_above : (after : ℕ) (told : List Name) → IsStrictlySortedBy cookie_cmp told → ((y : Name) → Contains told y → after ≤ cookie_of y) → after ≤ end_of after told
ends_above after [] sorted all = omega arith
ends_above after (x ∷ told) sorted all =
    let rest = ends_above (cookie_of x) told (sorted_tail cookie_cmp x told sorted) (λ y (k, low, is).
    cookies_rise x y (subst (λ (z : Name). cookie_cmp x z ≡ Less) (same_at told k y low ∙ is) (Less-from_sorted cookie_cmp (x ∷ told) 0 (suc k) y sorted (omega arith) (omega (arith, low))))) in
    let first = all x (0, omega arith, refl) in
    omega (arith, rest, first)
  where
    same_at : (xs : List Name) (k : ℕ) (y : Name) → k < length xs → get_or xs k y ≡ slice_index_or xs k y
    same_at xs k y low = refl

ends_at : (after : ℕ) (told : List Name) (x : Name) → IsStrictlySortedBy cookie_cmp told → Contains told x → cookie_of x ≤ end_of after told
ends_at after [] x sorted has = absurd (none_in x has)
ends_at after (y ∷ told) x sorted has =
    elim (first_or_later y x told has) [
      | inl same ↦
          let low = ends_above (cookie_of y) told (sorted_tail cookie_cmp y told sorted) (λ z (k, low, is).
          cookies_rise y z (subst (λ (w : Name). cookie_cmp y w ≡ Less) is (Less-from_sorted cookie_cmp (y ∷ told) 0 (suc k) z sorted (omega arith) (omega (arith, low))))) in
          let e : cookie_of y ≡ cookie_of x = ap cookie_of same in
          omega (arith, low, e)
      | inr later ↦ ends_at (cookie_of y) told x (sorted_tail cookie_cmp y told sorted) later
    ]

-- ---- what a part tells

module _ (names : List Name) (after count : ℕ) where
  between_more : (lower upper : ℕ) → lower ≤ upper → (y : Name) → is_between after lower y ≡ true → is_between after upper y ≡ true
  between_more lower upper less y is =
      let both = and_parts (nat_lt after (cookie_of y)) (nat_lt (cookie_of y) lower) is in
      let low = ltb-true (cookie_of y) lower both.1 in
      and_from (nat_lt after (cookie_of y)) (nat_lt (cookie_of y) upper) both.0 (lt-ltb (cookie_of y) upper (omega (arith, low, less)))

  -- what is told stands behind the cookie
  told_behind : (x : Name) → is_told names after count x ≡ true → after < cookie_of x
  told_behind x is = ltb-true after (cookie_of x) (and_parts (nat_lt after (cookie_of x)) _ is).0

  -- what has no greater cookie than one that is told is told
  told_before : (x y : Name) → is_told names after count y ≡ true → after < cookie_of x → cookie_of x ≤ cookie_of y → is_told names after count x ≡ true
  told_before x y is low less =
      let few = ltb-true (length (filter (is_between after (cookie_of y)) names)) count (and_parts (nat_lt after (cookie_of y)) _ is).1 in
      let shorter = filter_shorter (is_between after (cookie_of x)) (is_between after (cookie_of y)) (between_more (cookie_of x) (cookie_of y) less) names in
      and_from (nat_lt after (cookie_of x)) _ (lt-ltb after (cookie_of x) low) (lt-ltb _ count (omega (arith, few, shorter)))

  -- where a name stands behind the cookie, some name is told
  some_told : 1 ≤ count → (bound : ℕ) (x : Name) → cookie_of x ≤ bound → Contains names x → after < cookie_of x → (y : Name) × Contains names y × (is_told names after count y ≡ true)
  some_told some zero x small has low = absurd (omega (arith, small, low))
  some_told some (suc bound) x small has low =
      elim (cases_Bool (nat_lt (length (filter (is_between after (cookie_of x)) names)) count)) [
        | inl few ↦ (x, has, and_from (nat_lt after (cookie_of x)) _ (lt-ltb after (cookie_of x) low) few)
        | inr many ↦
            let more = ltb-false (length (filter (is_between after (cookie_of x)) names)) count many in
            let found = filter_has (is_between after (cookie_of x)) names (omega (arith, more, some)) in
            let both = and_parts (nat_lt after (cookie_of found.0)) (nat_lt (cookie_of found.0) (cookie_of x)) found.2 in
            let least = ltb-true after (cookie_of found.0) both.0 in
            let lower = ltb-true (cookie_of found.0) (cookie_of x) both.1 in
            some_told some bound found.0 (omega (arith, lower, small)) found.1 least
      ]

-- ---- parts one after the other

-- behind its cookie a name is told no more
told_no_more : (x : Name) (after : ℕ) (parts : List Part) → AreTold after parts → cookie_of x ≤ after → (part : Part) (k : ℕ) → slice_get parts k ≡ Some part → ¬ Contains part.told x
told_no_more x after [] told past part k at has = absurd cc
told_no_more x after (first ∷ parts) told past part zero at has =
    let same : first ≡ part = some_same at in
    let there = ((told.1.whole x).0 (subst (λ (p : Part). Contains p.told x) (sym same) has)).1 in
    let low = told_behind first.names after first.count x there in
    absurd (omega (arith, low, past))
told_no_more x after (first ∷ parts) told past part (suc k) at has =
    let above = ends_above after first.told told.1.sorted (λ y there. let low = told_behind first.names after first.count y ((told.1.whole y).0 there).1 in omega (arith, low)) in
    told_no_more x (end_of after first.told) parts told.2 (omega (arith, above, past)) part k at has

in_front : (parts : List Part) (last other : Part) (m : ℕ) → slice_get parts m ≡ Some other → slice_get (parts ++ last ∷ []) m ≡ Some other
in_front [] last other m at = absurd cc
in_front (part ∷ parts) last other zero at = at
in_front (part ∷ parts) last other (suc m) at = in_front parts last other m at

abbrev IsToldOnce : Name → List Part → Type 0
IsToldOnce x parts =
    (part : Part) × (k : ℕ) × (slice_get parts k ≡ Some part) × Contains part.told x
    × ((other : Part) (m : ℕ) → slice_get parts m ≡ Some other → Contains other.told x → m ≡ k)

told_just_once : (x : Name) (after : ℕ) (parts : List Part) (last : Part) → AreTold after (parts ++ last ∷ []) → last.told ≡ [] → All (λ part. Contains part.names x) (parts ++ last ∷ []) → after < cookie_of x → IsToldOnce x parts
told_just_once x after [] last told none all low =
    let has = All-head (λ part. Contains part.names x) last [] all in
    let found = some_told last.names after last.count told.0 (cookie_of x) x (omega arith) has low in
    absurd (none_in found.0 (subst (λ (l : List Name). Contains l found.0) none ((told.1.whole found.0).1 (found.1, found.2))))
told_just_once x after (first ∷ parts) last told none all low =
    let has = All-head (λ part. Contains part.names x) first (parts ++ last ∷ []) all in
    elim (cases_Bool (is_told first.names after first.count x)) [
      | inl is ↦
          let there = (told.1.whole x).1 (has, is) in
          let past = ends_at after first.told x told.1.sorted there in
          (first, 0, refl, there, λ other m at again. first_alone past other m at again)
      | inr not_told ↦
          let next = end_low not_told in
          let found = told_just_once x (end_of after first.told) parts last told.2 none (All-tail (λ part. Contains part.names x) first (parts ++ last ∷ []) all) next in
          (found.0, suc found.1, found.2, found.3, λ other m at again. later_alone not_told found.1 found.4 other m at again)
    ]
  where
    first_alone : cookie_of x ≤ end_of after first.told → (other : Part) (m : ℕ) → slice_get (first ∷ parts) m ≡ Some other → Contains other.told x → m ≡ 0
    first_alone past other zero at again = refl
    first_alone past other (suc m) at again = absurd (told_no_more x (end_of after first.told) (parts ++ last ∷ []) told.2 past other m (in_front parts last other m at) again)

    end_low : is_told first.names after first.count x ≡ false → end_of after first.told < cookie_of x
    end_low not_told = ends_below (cookie_of x) after first.told low (λ y there.
        elim (cases_lt (cookie_of y) (cookie_of x)) [
          | inl below ↦ below
          | inr past ↦ absurd (false≢true (sym not_told ∙ told_before first.names after first.count x y ((told.1.whole y).0 there).1 low past))
        ])

    later_alone : is_told first.names after first.count x ≡ false → (k : ℕ) → ((other : Part) (m : ℕ) → slice_get parts m ≡ Some other → Contains other.told x → m ≡ k)
        → (other : Part) (m : ℕ) → slice_get (first ∷ parts) m ≡ Some other → Contains other.told x → m ≡ suc k
    later_alone not_told k only other zero at again =
        let same : first ≡ other = some_same at in
        absurd (false≢true (sym not_told ∙ ((told.1.whole x).0 (subst (λ (p : Part). Contains p.told x) (sym same) again)).1))
    later_alone not_told k only other (suc m) at again = ap suc (only other m at again)

pub parts_tell_once : PartsTellOnce
parts_tell_once parts last name told none all = told_just_once name 0 parts last told none all (positive name)
