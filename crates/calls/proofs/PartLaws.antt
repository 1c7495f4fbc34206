-- The part of a directory's names that a call tells.
use Rattle.std.proofs.Common.{◌≡◌, inl, inr, ℕ, zero, suc, ◌-◌, ◌+◌, ◌≤◌, ◌<◌, List, [], ◌∷◌, ◌++◌, length, get_or, take, map, All, Contains, Bool, true, false, cond, ◌&&◌, nat_lt, refl, sym, ap, subst, ◌∙◌, arith}
use Rattle.std.specs.Prelude.{filter, slice_index}
use Rattle.std.specs.Cmp.{IsTotalOrder, nat_cmp_is}
use Rattle.std.specs.Ordering.{nat_cmp, ordering_then, is_eq, is_lt, eq_by_cmp, ordering_reverse}
use Rattle.std.specs.Cmp.Lexicographic.{slice_cmp}
use Rattle.std.specs.List.{AllByRecursion}
use Rattle.std.specs.List.Sorted.{IsStrictlySortedBy, IsPermutation, IsSortedBy}
use Rattle.std.specs.declared.cmp.Ordering.{Ordering}
use Rattle.std.specs.declared.cmp.Ordering.TheVariants.{Less, Equal, Greater}
use Rattle.std.proofs.lemmas.Bool.{cases_lt, cases_order, cond_both, and_from, and_parts, false≢true, ltb-true, lt-ltb, le-ltb}
use Rattle.std.proofs.lemmas.Cmp.{nat_list_cmp_total, on_total, eq_by_cmp_equiv}
use Rattle.std.proofs.lemmas.List as lists
use Rattle.std.proofs.lemmas.List.{map-append, length-map, length-take-le, get_or-take}
use Rattle.std.proofs.lemmas.List.Elements.{All-get_or, All-head, All-tail, All-take, filter-append}
use Rattle.std.proofs.lemmas.List.Kept.{IsStrictlySortedBy-filter}
use Rattle.std.proofs.lemmas.List.Sorted.{IsPermutation-map, IsPermutation-sym, All-permutation, Contains-permutation, sum_by-IsPermutation}
use Rattle.std.proofs.lemmas.List.Sums.{length-filter}
use Rattle.std.proofs.lemmas.Map.Keys.{IsDistinct-from_sorted, IsDistinct-IsPermutation, Less-from_sorted, apart_from_distinct, sorted_from_all_adjacent}
use Rattle.model.specs.Paths.{Name}
use Rattle.model.specs.Entries.{IsPart, cookie_cmp, cookie_of, is_between}
use Rattle.calls.specs.Parts.{AreBehind, IsMarked, EndsPart, IsToldPart, told_names}
use Rattle.dirs.specs.declared.directory.NumberedName.{NumberedName}
use Rattle.dirs.specs.Listings.{AreInOrder, listed_names}
use Rattle.calls.specs.declared.reading.part.ToldName.{ToldName}

cookie_total : IsTotalOrder cookie_cmp
cookie_total = on_total (λ (name : Name). cookie_of name ∷ name) nat_list_cmp_total

-- ---- lists

module _ {X : Type 0} where
  -- a filter by two tests
  filter_twice : (p q : X → Bool) (xs : List X) → filter (λ x. p x && q x) xs ≡ filter q (filter p xs)
  filter_twice p q [] = refl
  filter_twice p q (x ∷ xs) =
      elim (p x) as (λ b. cond (b && q x) (x ∷ filter (λ y. p y && q y) xs) (filter (λ y. p y && q y) xs) ≡ filter q (cond b (x ∷ filter p xs) (filter p xs))) [
        | true ↦ ap (λ l. cond (q x) (x ∷ l) l) (filter_twice p q xs)
        | false ↦ filter_twice p q xs
      ]

  behind : (x y : X) (xs : List X) → Contains xs y → Contains (x ∷ xs) y
  behind x y xs (k, low, is) = (suc k, omega (arith, low), is)

  filter_keeps : (p : X → Bool) (x : X) (xs : List X) → Contains xs x → p x ≡ true → Contains (filter p xs) x
  filter_keeps p x [] (k, low, is) = λ _. absurd (omega (arith, low))
  filter_keeps p x (y ∷ xs) (zero, low, is) = λ passes. subst (λ l. Contains l x) (sym (ap (λ b. cond b (y ∷ filter p xs) (filter p xs)) (ap p is ∙ passes))) (zero, omega arith, is)
  filter_keeps p x (y ∷ xs) (suc k, low, is) = λ passes.
      let later = filter_keeps p x xs (k, omega (arith, low), is) passes in
      elim (p y) as (λ b. Contains (cond b (y ∷ filter p xs) (filter p xs)) x) [ true ↦ behind y x (filter p xs) later | false ↦ later ]

  filter_tells : (p : X → Bool) (x : X) (xs : List X) → Contains (filter p xs) x → Contains xs x × (p x ≡ true)
  filter_tells p x [] = λ has. absurd (omega (arith, has.1))
  filter_tells p x (y ∷ xs) =
      elim (p y) as (λ b. p y ≡ b → Contains (cond b (y ∷ filter p xs) (filter p xs)) x → Contains (y ∷ xs) x × (p x ≡ true)) [
        | true ↦ λ e has. first y e (filter_tells p x xs) has
        | false ↦ λ e has. let later = filter_tells p x xs has in (behind y x xs later.0, later.1)
      ] refl
    where
      first : (y : X) → p y ≡ true → (Contains (filter p xs) x → Contains xs x × (p x ≡ true)) → Contains (y ∷ filter p xs) x → Contains (y ∷ xs) x × (p x ≡ true)
      first y e more (zero, low, is) = ((zero, omega arith, is), sym (ap p is) ∙ e)
      first y e more (suc k, low, is) = let later = more (k, omega (arith, low), is) in (behind y x xs later.0, later.1)

  -- how many pass, where none does from a place on, or each does up to one
  few_pass : (p : X → Bool) (xs : List X) (m : ℕ) → ((k : ℕ) (d : X) → m ≤ k → k < length xs → p (get_or xs k d) ≡ false) → length (filter p xs) ≤ m
  few_pass p [] m none = omega arith
  few_pass p (x ∷ xs) zero none =
      subst (λ b. length (cond b (x ∷ filter p xs) (filter p xs)) ≤ zero) (sym (none 0 x (omega arith) (omega arith)))
      (few_pass p xs zero (λ k d low high. none (suc k) d (omega arith) (omega (arith, high))))
  few_pass p (x ∷ xs) (suc m) none =
      let rest : length (filter p xs) ≤ m = few_pass p xs m (λ k d low high. none (suc k) d (omega (arith, low)) (omega (arith, high))) in
      cond_both (p x) (x ∷ filter p xs) (filter p xs) (λ (l : List X). length l ≤ suc m) (λ e. omega (arith, rest)) (λ e. omega (arith, rest))

  many_pass : (p : X → Bool) (xs : List X) (m : ℕ) → m ≤ length xs → ((k : ℕ) (d : X) → k < m → p (get_or xs k d) ≡ true) → m ≤ length (filter p xs)
  many_pass p xs zero within each = omega arith
  many_pass p [] (suc m) within each = absurd (omega (arith, within))
  many_pass p (x ∷ xs) (suc m) within each =
      let rest : m ≤ length (filter p xs) = many_pass p xs m (omega (arith, within)) (λ k d low. each (suc k) d (omega (arith, low))) in
      subst (λ b. suc m ≤ length (cond b (x ∷ filter p xs) (filter p xs))) (sym (each 0 x (omega arith))) (omega (arith, rest))

  map-take : {Y : Type 0} (f : X → Y) (k : ℕ) (xs : List X) → map f (take k xs) ≡ take k (map f xs)
  map-take f zero xs = refl
  map-take f (suc k) [] = refl
  map-take f (suc k) (x ∷ xs) = ap (λ l. f x ∷ l) (map-take f k xs)

  permuted_filter : (p : X → Bool) (xs ys : List X) → IsPermutation xs ys → length (filter p ys) ≡ length (filter p xs)
  permuted_filter p xs ys moved = length-filter p ys ∙ sum_by-IsPermutation (λ x. cond (p x) 1 0) xs ys moved ∙ sym (length-filter p xs)

-- the first of a list in order are in order
each_taken : {X : Type 0} (P : X → Type 0) (k : ℕ) (xs : List X) → AllByRecursion P xs → AllByRecursion P (take k xs)
each_taken P zero xs each = tt
each_taken P (suc k) [] each = tt
each_taken P (suc k) (x ∷ xs) each = (each.0, each_taken P k xs each.1)

sorted_take : {X : Type 0} (c : X → X → Ordering) (k : ℕ) (xs : List X) → IsStrictlySortedBy c xs → IsStrictlySortedBy c (take k xs)
unfolding IsStrictlySortedBy
sorted_take c zero xs sorted = tt
sorted_take c (suc k) [] sorted = tt
sorted_take c (suc k) (x ∷ xs) sorted = (each_taken (λ y. c x y ≡ Less) k xs sorted.0, sorted_take c k xs sorted.1)

-- ---- names and their cookies

cookies_same : (names : List NumberedName) (told : List ToldName) → All (IsMarked names) told → map (λ t. t.cookie) told ≡ map cookie_of (told_names told)
cookies_same names [] marked = refl
cookies_same names (t ∷ told) marked =
    let first = All-head (IsMarked names) t told marked in
    let rest = cookies_same names told (All-tail (IsMarked names) t told marked) in
    ap (λ c. c ∷ map (λ x. x.cookie) told) first.cookie ∙ ap (λ l. cookie_of t.numbered.name.items ∷ l) rest

-- what stands before another has no greater cookie
rises : (a b : Name) (m n : ℕ) → slice_cmp nat_cmp (m ∷ a) (n ∷ b) ≡ Less → m ≤ n
rises a b m n less =
    elim (cases_order m n) [
      | inl e ↦ omega (arith, e)
      | inr apart ↦ elim apart [
        | inl below ↦ omega (arith, below)
        | inr above ↦
            let greater : slice_cmp nat_cmp (m ∷ a) (n ∷ b) ≡ Greater =
            sym (ap (λ (o : Ordering). ordering_then o (slice_cmp nat_cmp a b)) (nat_cmp_is m n Greater above)) in
            apart_orders (sym greater ∙ less)
      ]
    ]
  where
    apart_orders : {X : Type 0} → Greater ≡ Less → X
    apart_orders e = cc

cookies_rise : (names : List Name) → IsStrictlySortedBy cookie_cmp names → (i j : ℕ) → i ≤ j → j < length names → slice_index (map cookie_of names) i ≤ slice_index (map cookie_of names) j
cookies_rise names sorted i j low high =
    elim (cases_lt i j) [
      | inl less ↦
          let d : Name = [] in
          let rise = rises (get_or names i d) (get_or names j d) (cookie_of (get_or names i d)) (cookie_of (get_or names j d)) (Less-from_sorted cookie_cmp names i j d sorted less high) in
          subst (λ (c : ℕ). c ≤ slice_index (map cookie_of names) j) (sym (lists.get_or-map cookie_of names i d 0 (omega arith)))
          (subst (λ (c : ℕ). cookie_of (get_or names i d) ≤ c) (sym (lists.get_or-map cookie_of names j d 0 high)) rise)
      | inr more ↦
          let same : i ≡ j = omega (arith, more, low) in
          subst (λ (k : ℕ). slice_index (map cookie_of names) i ≤ slice_index (map cookie_of names) k) same (omega arith)
    ]

-- ---- a part

abbrev is_lower : ℕ → Name → Bool
is_lower c name = nat_lt (cookie_of name) c

abbrev pub is_behind : ℕ → Name → Bool
is_behind after name = nat_lt after (cookie_of name)

-- names in the order of their cookies, and where a part of them ends
module _ (count end : ℕ) (told : List Name) (sorted : IsStrictlySortedBy cookie_cmp told) (some : 1 ≤ count) (ends : EndsPart (map cookie_of told) count end) where
  cookie_at : (k : ℕ) (d : Name) → k < length told → slice_index (map cookie_of told) k ≡ cookie_of (get_or told k d)
  cookie_at k d low = lists.get_or-map cookie_of told k d 0 low

  few_lower : (m : ℕ) → m < length told → length (filter (is_lower (slice_index (map cookie_of told) m)) told) ≤ m
  few_lower m within = few_pass (is_lower (slice_index (map cookie_of told) m)) told m (λ k d low high.
      le-ltb (cookie_of (get_or told k d)) (slice_index (map cookie_of told) m)
      (let rise = cookies_rise told sorted m k low high in omega (arith, rise, cookie_at k d high)))

  -- fewer than so many have lesser cookies than one before the end
  few_before : (k : ℕ) → k < end → length (filter (is_lower (slice_index (map cookie_of told) k)) told) < count
  few_before k low =
      let within : end ≤ length told = omega (arith, ends.within, length-map told cookie_of) in
      elim (cases_lt k count) [
        | inl early ↦ let few = few_lower k (omega (arith, low, within)) in omega (arith, few, early)
        | inr late ↦
            let few = few_lower (count - 1) (omega (arith, late, low, some, within)) in
            subst (λ (c : ℕ). length (filter (is_lower c) told) < count) (sym (ends.same k late low)) (omega (arith, few, some))
      ]

  -- and so many have lesser ones than one behind it
  many_behind : (k : ℕ) → end ≤ k → k < length told → count ≤ length (filter (is_lower (slice_index (map cookie_of told) k)) told)
  many_behind k low high =
      let other = ends.other (omega (arith, low, high, length-map told cookie_of)) in
      let first : end < length told = omega (arith, low, high) in
      let up = cookies_rise told sorted (count - 1) end (omega (arith, other.0, some)) first in
      let on = cookies_rise told sorted end k low high in
      let apart = other.1 in
      let below : slice_index (map cookie_of told) (count - 1) < slice_index (map cookie_of told) k =
      elim (cases_order (slice_index (map cookie_of told) end) (slice_index (map cookie_of told) (count - 1))) [
        | inl same ↦ absurd (apart same)
        | inr else ↦ elim else [ inl under ↦ omega (arith, under, up) | inr over ↦ omega (arith, over, on) ]
      ] in
      many_pass (is_lower (slice_index (map cookie_of told) k)) told count (omega (arith, other.0, first)) (λ j d early.
      lt-ltb (cookie_of (get_or told j d)) (slice_index (map cookie_of told) k)
      (let rise = cookies_rise told sorted j (count - 1) (omega (arith, early)) (omega (arith, some, other.0, first)) in
      omega (arith, rise, below, cookie_at j d (omega (arith, early, other.0, first)))))

-- these are a part of these names, up to its end
pub part_ends : (names : List Name) (after count end : ℕ) (told : List Name) → IsStrictlySortedBy cookie_cmp told → 1 ≤ count
    → IsPermutation (filter (is_behind after) names) told → EndsPart (map cookie_of told) count end → IsPart names after count (take end told)
part_ends names after count end told sorted some moved ends = record {
  sorted = sorted_take cookie_cmp end told sorted;
  whole = λ name. (
    (λ has.
        let k = has.0 in
        let within : end ≤ length told = omega (arith, ends.within, length-map told cookie_of) in
        let low : k < end = omega (arith, has.1, length-take-le end told within) in
        let high : k < length told = omega (arith, low, within) in
        let is : get_or told k name ≡ name = sym (get_or-take end told k name low) ∙ has.2 in
        let from = filter_tells (is_behind after) name names (Contains-permutation told (filter (is_behind after) names) name (IsPermutation-sym (filter (is_behind after) names) told moved) (k, high, is)) in
        let cookie : slice_index (map cookie_of told) k ≡ cookie_of name = cookie_at count end told sorted some ends k name high ∙ ap cookie_of is in
        let few = subst (λ (c : ℕ). length (filter (is_lower c) told) < count) cookie (few_before count end told sorted some ends k low) in
        (from.0, and_from (nat_lt after (cookie_of name)) _ from.1 (lt-ltb _ count (omega (arith, few, between (cookie_of name)))))),
    (λ (has, is).
        let both = and_parts (nat_lt after (cookie_of name)) _ is in
        let there = Contains-permutation (filter (is_behind after) names) told name moved (filter_keeps (is_behind after) name names has both.0) in
        let k = there.0 in
        let within : end ≤ length told = omega (arith, ends.within, length-map told cookie_of) in
        elim (cases_lt k end) [
          | inl low ↦ (k, omega (arith, low, length-take-le end told within), get_or-take end told k name low ∙ there.2)
          | inr late ↦
              let cookie : slice_index (map cookie_of told) k ≡ cookie_of name = cookie_at count end told sorted some ends k name there.1 ∙ ap cookie_of there.2 in
              let many = subst (λ (c : ℕ). count ≤ length (filter (is_lower c) told)) cookie (many_behind count end told sorted some ends k late there.1) in
              let few = ltb-true _ count both.1 in
              absurd (omega (arith, many, few, between (cookie_of name)))
        ]),
  );
}
  where
    between : (c : ℕ) → length (filter (is_between after c) names) ≡ length (filter (is_lower c) told)
    between c = ap length (filter_twice (is_behind after) (is_lower c) names) ∙ sym (permuted_filter (is_lower c) (filter (is_behind after) names) told moved)

-- ---- what is told of a part

-- the cookie and the bytes by which names are sorted
abbrev pub ties : ToldName → List ℕ
ties t = t.cookie ∷ t.numbered.name.items

ties_are : (names : List NumberedName) (t : ToldName) → IsMarked names t → ties t ≡ cookie_of t.numbered.name.items ∷ t.numbered.name.items
ties_are names t marked = ap (λ c. c ∷ t.numbered.name.items) marked.cookie

-- names that differ and don't fall in this order rise
rises_strictly : (x y : List ℕ) → is_lt (slice_cmp nat_cmp y x) ≡ false → eq_by_cmp (slice_cmp nat_cmp) x y ≡ false → slice_cmp nat_cmp x y ≡ Less
rises_strictly x y up apart =
    elim (slice_cmp nat_cmp x y) as (λ o. slice_cmp nat_cmp x y ≡ o → o ≡ Less) [
      | Less ↦ λ e. refl
      | Equal ↦ λ e. absurd (false≢true (sym apart ∙ ap is_eq e))
      | Greater ↦ λ e. absurd (false≢true (sym up ∙ ap is_lt (nat_list_cmp_total.antisymm y x ∙ ap ordering_reverse e)))
    ] refl

then_apart : (o p : Ordering) → is_eq p ≡ false → is_eq (ordering_then o p) ≡ false
then_apart Less p apart = refl
then_apart Equal p apart = apart
then_apart Greater p apart = refl

told_sorted : (names : List NumberedName) (after : ℕ) (behind told : List ToldName) → AreInOrder names → AreBehind names after behind → IsPermutation behind told
    → IsSortedBy (λ x y. is_lt (slice_cmp nat_cmp (ties x) (ties y))) told → IsStrictlySortedBy cookie_cmp (told_names told)
told_sorted names after behind [] sorted are moved up = sorted_from_all_adjacent cookie_total [] [] (λ k low. absurd (omega (arith, low)))
told_sorted names after behind (t ∷ told) sorted are moved up =
    let marked = All-permutation (IsMarked names) behind (t ∷ told) moved are.marked in
    let name_of : ToldName → Name = λ x. x.numbered.name.items in
    let once = IsDistinct-from_sorted (slice_cmp nat_cmp) (filter (is_behind after) (listed_names names)) (IsStrictlySortedBy-filter (slice_cmp nat_cmp) (is_behind after) (listed_names names) sorted) in
    let permuted = subst (λ l. IsPermutation l (told_names (t ∷ told))) are.behind (IsPermutation-map name_of behind (t ∷ told) moved) in
    let apart = IsDistinct-IsPermutation (eq_by_cmp (slice_cmp nat_cmp)) (eq_by_cmp_equiv nat_list_cmp_total).symm (filter (is_behind after) (listed_names names)) (told_names (t ∷ told)) permuted once in
    sorted_from_all_adjacent cookie_total (told_names (t ∷ told)) (name_of t) (λ k low.
    let high : k + 1 < length (t ∷ told) = omega (arith, low, length-map told name_of) in
    let a = get_or (t ∷ told) k t in
    let b = get_or (t ∷ told) (k + 1) t in
    let differ = subst (λ n. eq_by_cmp (slice_cmp nat_cmp) (name_of a) n ≡ false) (lists.get_or-map name_of (t ∷ told) (k + 1) t (name_of t) high)
    (subst (λ n. eq_by_cmp (slice_cmp nat_cmp) n (get_or (told_names (t ∷ told)) (k + 1) (name_of t)) ≡ false) (lists.get_or-map name_of (t ∷ told) k t (name_of t) (omega (arith, high)))
    (apart_from_distinct (eq_by_cmp (slice_cmp nat_cmp)) (told_names (t ∷ told)) k (k + 1) (name_of t) apart (omega arith) low)) in
    let less = rises_strictly (ties a) (ties b) (up k t (omega arith) high) (then_apart (nat_cmp a.cookie b.cookie) (slice_cmp nat_cmp (name_of a) (name_of b)) differ) in
    let less_names : cookie_cmp (name_of a) (name_of b) ≡ Less =
    subst (λ l. slice_cmp nat_cmp (cookie_of (name_of a) ∷ name_of a) l ≡ Less) (ties_are names b (All-get_or (IsMarked names) (t ∷ told) (k + 1) t high marked))
    (subst (λ l. slice_cmp nat_cmp l (ties b) ≡ Less) (ties_are names a (All-get_or (IsMarked names) (t ∷ told) k t (omega (arith, high)) marked)) less) in
    subst (λ n. cookie_cmp (get_or (told_names (t ∷ told)) k (name_of t)) n ≡ Less) (sym (lists.get_or-map name_of (t ∷ told) (k + 1) t (name_of t) high))
    (subst (λ n. cookie_cmp n (name_of b) ≡ Less) (sym (lists.get_or-map name_of (t ∷ told) k t (name_of t) (omega (arith, high)))) less_names))

pub part_told : (names : List NumberedName) (after count end : ℕ) (behind told : List ToldName) → AreInOrder names → 1 ≤ count → AreBehind names after behind → IsPermutation behind told
    → IsSortedBy (λ x y. is_lt (slice_cmp nat_cmp (ties x) (ties y))) told → EndsPart (map (λ t. t.cookie) told) count end → IsToldPart names after count (take end told)
part_told names after count end behind told sorted some are moved up ends =
    let marked = All-permutation (IsMarked names) behind told moved are.marked in
    let permuted = IsPermutation-map (λ (t : ToldName). t.numbered.name.items) behind told moved in
    record {
      part = subst (λ l. IsPart (listed_names names) after count l) (sym (map-take (λ (t : ToldName). t.numbered.name.items) end told))
          (part_ends (listed_names names) after count end (told_names told) (told_sorted names after behind told sorted are moved up) some
          (subst (λ l. IsPermutation l (told_names told)) are.behind permuted) (subst (λ l. EndsPart l count end) (cookies_same names told marked) ends));
      marked = All-take (IsMarked names) end told marked;
    }

-- ---- names behind a cookie

more_behind : (after : ℕ) (seen : List NumberedName) (n : NumberedName) → filter (is_behind after) (listed_names (seen ++ n ∷ [])) ≡ filter (is_behind after) (listed_names seen) ++ cond (is_behind after n.name.items) (n.name.items ∷ []) []
more_behind after seen n = ap (filter (is_behind after)) (map-append (λ (x : NumberedName). x.name.items) seen (n ∷ [])) ∙ filter-append (is_behind after) (listed_names seen) (n.name.items ∷ [])

pub none_behind : (names : List NumberedName) (after : ℕ) → told_names [] ≡ filter (is_behind after) (listed_names [])
none_behind names after = refl

pub passed_by : (after : ℕ) (seen : List NumberedName) (n : NumberedName) (told : List ToldName) → told_names told ≡ filter (is_behind after) (listed_names seen) → cookie_of n.name.items ≤ after
    → told_names told ≡ filter (is_behind after) (listed_names (seen ++ n ∷ []))
passed_by after seen n told are low = are ∙ sym (more_behind after seen n ∙ ap (λ b. filter (is_behind after) (listed_names seen) ++ cond b (n.name.items ∷ []) []) (le-ltb after (cookie_of n.name.items) low) ∙ lists.append-nil (filter (is_behind after) (listed_names seen)))

pub one_more : (after : ℕ) (seen : List NumberedName) (t : ToldName) (told : List ToldName) → told_names told ≡ filter (is_behind after) (listed_names seen) → after < cookie_of t.numbered.name.items
    → told_names (told ++ t ∷ []) ≡ filter (is_behind after) (listed_names (seen ++ t.numbered ∷ []))
one_more after seen t told are low =
    map-append (λ (x : ToldName). x.numbered.name.items) told (t ∷ []) ∙ ap (λ l. l ++ t.numbered.name.items ∷ []) are
    ∙ sym (more_behind after seen t.numbered ∙ ap (λ b. filter (is_behind after) (listed_names seen) ++ cond b (t.numbered.name.items ∷ []) []) (lt-ltb after (cookie_of t.numbered.name.items) low))
