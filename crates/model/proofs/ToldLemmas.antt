-- Trees of which lists tell all that is in them: their listings, free numbers and sweeps are found by computing.
use Rattle.std.proofs.Common.{◌≡◌, ◌≢◌, ◌↔◌, inl, inr, ℕ, zero, suc, ◌+◌, ◌-◌, ◌≤◌, ◌<◌, ◌==◌, ◌||◌, ◌&&◌, not, List, [], ◌∷◌, ◌++◌, Bool, true, false, Option, Some, None, is_some, IsSome, bytes_eq, length, map, refl, sym, ap, subst, ◌∙◌, arith}
use Rattle.std.specs.Prelude.{if◌then◌else◌, unwrap_or}
use Rattle.std.specs.List.{list_any, list_all, AllByRecursion}
use Rattle.std.specs.List.Sorted.{IsStrictlySortedBy}
use Rattle.std.specs.declared.cmp.Ordering.{Ordering}
use Rattle.std.specs.declared.cmp.Ordering.TheVariants.{Less, Equal, Greater}
use Rattle.std.specs.Ordering.{nat_cmp}
use Rattle.std.specs.Cmp.Lexicographic.{slice_cmp}
use Rattle.std.proofs.lemmas.Bool.{cases_Bool, cases_lt, cond_both, or_cases, or_left, or_right, or_parts, and_parts, false≢true, eqb-true, eq-eqb}
use Rattle.std.proofs.lemmas.List.Folds.{list_any-append}
use Rattle.std.proofs.lemmas.Slice.Eq.{bytes_eq-Decides}
use Rattle.std.proofs.lemmas.Cmp.{nat_list_eq_equiv}
use Rattle.std.proofs.lemmas.Map.Views.{list_any-from_Contains, Contains-from_any}
use Rattle.model.specs.declared.limits.Limits.{Limits}
use Rattle.model.specs.declared.attributes.Attributes.{Attributes}
use Rattle.model.specs.declared.attributes.Permissions.{Permissions}
use Rattle.std.specs.Option.{option_map}
use Rattle.model.specs.declared.attributes.Touch.{Touch}
use Rattle.model.specs.declared.time.Time.{Time}
use Rattle.model.specs.Attributes.{mode_alone, new_attributes}
use Rattle.model.specs.Touches.{touched_at}
use Rattle.model.specs.Paths.{Name, Path, path_eq, behind}
use Rattle.model.specs.Trees.{Tree, Object, directory, symlink, file, number_of_object, Description, HasPath, IsUsed, root_alone}
use Rattle.model.specs.Edits.{with_attributes, with_directory, with_file, with_symlink, put_at, relocate, moved, touching, IsSwept}
use Rattle.model.specs.Counting.{Counts}
use Rattle.model.specs.Outcomes.{IsListing, IsFresh}
use Rattle.model.specs.States.{ForgetsOpenFiles}
use Rattle.model.specs.Volumes.{is_numbered}
use Rattle.model.proofs.WalkLemmas.{path_eq-same, same_path, behind-is, behind-append}

abbrev within : ℕ → List ℕ → Bool
within n numbers = list_any (λ k. n == k) numbers

abbrev holds : Path → List Path → Bool
holds p paths = list_any (path_eq p) paths

-- the paths where something may stand, the descriptors that may be open, and the numbers that may have bytes or attributes
pub record Told (t : Tree) (paths : List Path) (open_ones : List ℕ) (numbers : List ℕ) : Type 0 where
  pub objects : (p : Path) → IsSome (t.objects p) → holds p paths ≡ true
  pub descriptors : (d : ℕ) → IsSome (t.descriptors d) → within d open_ones ≡ true
  pub maps : (n : ℕ) → within n numbers ≡ false → (t.bytes n ≡ None) × (t.attributes n ≡ None)

nothing_there : {Y : Type 0} → false ≡ true → Y
nothing_there e = absurd (false≢true e)

pub told_root : (mode : ℕ) → Told (root_alone mode) ([] ∷ []) [] (3 ∷ [])
told_root mode = record {
  objects = λ p. cond_both (path_eq p []) (Some (directory 3)) None (λ (r : Option Object). IsSome r → holds p ([] ∷ []) ≡ true) (λ e some. or_left (path_eq p []) false e) (λ e some. nothing_there some);
  descriptors = λ d some. nothing_there some;
  maps = λ n out. (refl, cond_both (n == 3) (Some (new_attributes (mode_alone mode))) None (λ (r : Option Attributes). r ≡ None) (λ e. absurd (false≢true (sym (or_parts (n == 3) false out).0 ∙ e))) (λ e. refl));
}

module _ {t : Tree} {paths : List Path} {open_ones numbers : List ℕ} (told : Told t paths open_ones numbers) where
  -- an object is put at a path, or taken from it
  pub told_object : (p : Path) (o : Option Object) → Told (record t { objects = put_at p o t.objects }) (p ∷ paths) open_ones numbers
  told_object p o = record {
    objects = λ q. cond_both (path_eq q p) o (t.objects q) (λ (r : Option Object). IsSome r → holds q (p ∷ paths) ≡ true) (λ e some. or_left (path_eq q p) (holds q paths) e) (λ e some. or_right (path_eq q p) (holds q paths) (told.objects q some));
    descriptors = told.descriptors;
    maps = told.maps;
  }

  pub told_descriptor : (d : ℕ) (f : Option Description) → Told (record t { descriptors = λ k. if k == d then f else t.descriptors k }) paths (d ∷ open_ones) numbers
  told_descriptor d f = record {
    objects = told.objects;
    descriptors = λ k. cond_both (k == d) f (t.descriptors k) (λ (r : Option Description). IsSome r → within k (d ∷ open_ones) ≡ true) (λ e some. or_left (k == d) (within k open_ones) e) (λ e some. or_right (k == d) (within k open_ones) (told.descriptors k some));
    maps = told.maps;
  }

  other_number : {X : Type 0} (n k : ℕ) (v w : Option X) → within k (n ∷ numbers) ≡ false → w ≡ None → (if k == n then v else w) ≡ None
  other_number {X} n k v w out none = cond_both (k == n) v w (λ (r : Option X). r ≡ None) (λ e. absurd (false≢true (sym (or_parts (k == n) (within k numbers) out).0 ∙ e))) (λ e. none)

  pub told_attributes : (n : ℕ) (a : Attributes) → Told (with_attributes n a t) paths open_ones (n ∷ numbers)
  told_attributes n a = record {
    objects = told.objects;
    descriptors = told.descriptors;
    maps = λ k out.
        let none = told.maps k (or_parts (k == n) (within k numbers) out).1 in
        (none.0, other_number n k (Some a) (t.attributes k) out none.1);
  }

  pub told_bytes : (n : ℕ) (bytes : List ℕ) → Told (record t { bytes = λ k. if k == n then Some bytes else t.bytes k }) paths open_ones (n ∷ numbers)
  told_bytes n bytes = record {
    objects = told.objects;
    descriptors = told.descriptors;
    maps = λ k out.
        let none = told.maps k (or_parts (k == n) (within k numbers) out).1 in
        (other_number n k (Some bytes) (t.bytes k) out none.0, none.1);
  }

-- an object is touched
pub told_touched : {t : Tree} {paths : List Path} {open_ones numbers : List ℕ} → Told t paths open_ones numbers → (time : Time) (touch : Touch) (n : ℕ) → Told (touching time touch (Some n) t) paths open_ones numbers
told_touched {t} told time touch n = record {
  objects = told.objects;
  descriptors = told.descriptors;
  maps = λ k out.
      let none = told.maps k out in
      (none.0, cond_both (k == n) (option_map (touched_at time touch) (t.attributes k)) (t.attributes k) (λ (r : Option Attributes). r ≡ None) (λ e. ap (option_map (touched_at time touch)) none.1) (λ e. none.1));
}

-- a new directory, and a new file of no bytes
module _ {t : Tree} {paths : List Path} {open_ones numbers : List ℕ} (told : Told t paths open_ones numbers) where
  pub told_directory : (p : Path) (n : ℕ) (permissions : Permissions) → Told (with_directory p n permissions t) (p ∷ paths) open_ones (n ∷ numbers)
  told_directory p n permissions = told_object (told_attributes told n (new_attributes permissions)) p (Some (directory n))

  pub told_file : (p : Path) (n : ℕ) (permissions : Permissions) → Told (with_file p n permissions t) (p ∷ paths) open_ones (n ∷ n ∷ numbers)
  told_file p n permissions = told_object (told_attributes (told_bytes told n []) n (new_attributes permissions)) p (Some (file n))

  pub told_symlink : (p : Path) (n : ℕ) (permissions : Permissions) (text : List ℕ) → Told (with_symlink p n permissions text t) (p ∷ paths) open_ones (n ∷ numbers)
  told_symlink p n permissions text = told_object (told_attributes told n (new_attributes permissions)) p (Some (symlink n text))

-- a test that holds of a path holds of one of a list that has it
found_among : (test : Path → Bool) (p : Path) (paths : List Path) → holds p paths ≡ true → test p ≡ true → list_any test paths ≡ true
found_among test p [] there is = nothing_there there
found_among test p (q ∷ paths) there is = elim (or_cases (path_eq p q) (holds p paths) there) [
  | inl same ↦ or_left (test q) (list_any test paths) (subst (λ r. test r ≡ true) (same_path p q same) is)
  | inr later ↦ or_right (test q) (list_any test paths) (found_among test p paths later is)
]

-- and so does one that all paths of the list pass
passed_among : (test : Path → Bool) (p : Path) (paths : List Path) → holds p paths ≡ true → list_all test paths ≡ true → test p ≡ true
passed_among test p [] there all = nothing_there there
passed_among test p (q ∷ paths) there all =
    let both = and_parts (test q) (list_all test paths) all in
    elim (or_cases (path_eq p q) (holds p paths) there) [
      | inl same ↦ subst (λ r. test r ≡ true) (sym (same_path p q same)) both.0
      | inr later ↦ passed_among test p paths later both.1
    ]

found_within : (test : ℕ → Bool) (n : ℕ) (numbers : List ℕ) → within n numbers ≡ true → test n ≡ true → list_any test numbers ≡ true
found_within test n [] there is = nothing_there there
found_within test n (k ∷ numbers) there is = elim (or_cases (n == k) (within n numbers) there) [
  | inl same ↦ or_left (test k) (list_any test numbers) (subst (λ j. test j ≡ true) (eqb-true n k same) is)
  | inr later ↦ or_right (test k) (list_any test numbers) (found_within test n numbers later is)
]

passed_within : (test : ℕ → Bool) (n : ℕ) (numbers : List ℕ) → within n numbers ≡ true → list_all test numbers ≡ true → test n ≡ true
passed_within test n [] there all = nothing_there there
passed_within test n (k ∷ numbers) there all =
    let both = and_parts (test k) (list_all test numbers) all in
    elim (or_cases (n == k) (within n numbers) there) [
      | inl same ↦ subst (λ j. test j ≡ true) (sym (eqb-true n k same)) both.0
      | inr later ↦ passed_within test n numbers later both.1
    ]

-- a move takes the paths below p to below q
abbrev pub moved_paths : Path → Path → List Path → List Path
moved_paths p q paths = paths ++ map (λ r. q ++ unwrap_or (behind p r) []) paths

moved_there : (p q rest : Path) (paths : List Path) → holds (p ++ rest) paths ≡ true → holds (q ++ rest) (map (λ r. q ++ unwrap_or (behind p r) []) paths) ≡ true
moved_there p q rest [] there = nothing_there there
moved_there p q rest (r ∷ paths) there = elim (or_cases (path_eq (p ++ rest) r) (holds (p ++ rest) paths) there) [
  | inl same ↦ or_left (path_eq (q ++ rest) (q ++ unwrap_or (behind p r) [])) _ (subst (λ w. path_eq (q ++ rest) (q ++ unwrap_or (behind p w) []) ≡ true) (same_path (p ++ rest) r same) (subst (λ (o : Option Path). path_eq (q ++ rest) (q ++ unwrap_or o []) ≡ true) (sym (behind-append p rest)) (path_eq-same (q ++ rest))))
  | inr later ↦ or_right (path_eq (q ++ rest) (q ++ unwrap_or (behind p r) [])) _ (moved_there p q rest paths later)
]

module _ {t : Tree} {paths : List Path} {open_ones numbers : List ℕ} (told : Told t paths open_ones numbers) where
  moved_object : (p q r : Path) (a b : Option Path) → behind q r ≡ a → behind p r ≡ b → IsSome (relocate a b p t.objects r) → holds r (moved_paths p q paths) ≡ true
  moved_object p q r (Some rest) b ea eb some =
      list_any-append (path_eq r) paths _
      ∙ or_right (holds r paths) _ (subst (λ w. holds w (map (λ x. q ++ unwrap_or (behind p x) []) paths) ≡ true) (sym (behind-is q r rest ea)) (moved_there p q rest paths (told.objects (p ++ rest) some)))
  moved_object p q r None (Some rest) ea eb some = nothing_there some
  moved_object p q r None None ea eb some = list_any-append (path_eq r) paths _ ∙ or_left (holds r paths) _ (told.objects r some)

  pub told_moved : (p q : Path) → Told (moved p q t) (moved_paths p q paths) open_ones numbers
  told_moved p q = record {
    objects = λ r some. moved_object p q r (behind q r) (behind p r) refl refl some;
    descriptors = told.descriptors;
    maps = told.maps;
  }

-- listings

abbrev pub is_less : Ordering → Bool
is_less Less = true
is_less Equal = false
is_less Greater = false

abbrev pub is_sorted : List Name → Bool
is_sorted [] = true
is_sorted (x ∷ names) = list_all (λ y. is_less (slice_cmp nat_cmp x y)) names && is_sorted names

abbrev pub has : Name → List Name → Bool
has name names = list_any (bytes_eq name) names

-- a path's rest behind a directory, where something stands: if it is one name, it is among these
abbrev pub is_listed : List Name → Option Path → Bool → Bool
is_listed names (Some (x ∷ [])) there = not there || has x names
is_listed names _ there = true

-- the listing of the directory at p
abbrev pub lists : Tree → List Path → Path → List Name → Bool
lists t paths p names =
    is_sorted names && (list_all (λ x. is_some (t.objects (p ++ x ∷ []))) names && list_all (λ q. is_listed names (behind p q) (is_some (t.objects q))) paths)

less_from : (o : Ordering) → is_less o ≡ true → o ≡ Less
less_from Less e = refl
less_from Equal e = nothing_there e
less_from Greater e = nothing_there e

each_less : (x : Name) (names : List Name) → list_all (λ y. is_less (slice_cmp nat_cmp x y)) names ≡ true → AllByRecursion (λ y. slice_cmp nat_cmp x y ≡ Less) names
each_less x [] all = tt
each_less x (y ∷ names) all =
    let both = and_parts (is_less (slice_cmp nat_cmp x y)) (list_all (λ z. is_less (slice_cmp nat_cmp x z)) names) all in
    (less_from (slice_cmp nat_cmp x y) both.0, each_less x names both.1)

sorted_from : (names : List Name) → is_sorted names ≡ true → IsStrictlySortedBy (slice_cmp nat_cmp) names
unfolding IsStrictlySortedBy
sorted_from [] all = tt
sorted_from (x ∷ names) all =
    let both = and_parts (list_all (λ y. is_less (slice_cmp nat_cmp x y)) names) (is_sorted names) all in
    (each_less x names both.0, sorted_from names both.1)

name_there : (test : Name → Bool) (name : Name) (names : List Name) → has name names ≡ true → list_all test names ≡ true → test name ≡ true
name_there test name [] there all = nothing_there there
name_there test name (x ∷ names) there all =
    let both = and_parts (test x) (list_all test names) all in
    elim (or_cases (bytes_eq name x) (has name names) there) [
      | inl same ↦ subst (λ y. test y ≡ true) (sym ((bytes_eq-Decides name x).0 same)) both.0
      | inr later ↦ name_there test name names later both.1
    ]

-- the number stands at one of the paths or in one of the descriptors
abbrev pub is_numbered_at : Option Object → ℕ → Bool
is_numbered_at None n = false
is_numbered_at (Some o) n = number_of_object o == n

abbrev pub is_used : Tree → List Path → List ℕ → ℕ → Bool
is_used t paths open_ones n = list_any (λ p. is_numbered_at (t.objects p) n) paths || list_any (λ d. is_numbered (t.descriptors d) n) open_ones

-- so many numbers from 4 on are used
abbrev pub are_used : Tree → List Path → List ℕ → ℕ → Bool
are_used t paths open_ones zero = true
are_used t paths open_ones (suc m) = is_used t paths open_ones (4 + m) && are_used t paths open_ones m

path_told : (t : Tree) (n : ℕ) (paths : List Path) → list_any (λ p. is_numbered_at (t.objects p) n) paths ≡ true → HasPath t n
path_told t n [] is = nothing_there is
path_told t n (p ∷ paths) is = elim (or_cases (is_numbered_at (t.objects p) n) _ is) [
  | inl here ↦ found_object (t.objects p) refl here
  | inr later ↦ path_told t n paths later
]
  where
    found_object : (o : Option Object) → t.objects p ≡ o → is_numbered_at o n ≡ true → (q : Path) × (r : Object) × (t.objects q ≡ Some r) × (number_of_object r ≡ n)
    found_object None at e = nothing_there e
    found_object (Some o) at e = (p, o, at, eqb-true (number_of_object o) n e)

open_from : (t : Tree) (n : ℕ) (open_ones : List ℕ) → list_any (λ d. is_numbered (t.descriptors d) n) open_ones ≡ true → IsUsed t n
open_from t n [] is = nothing_there is
open_from t n (d ∷ open_ones) is = elim (or_cases (is_numbered (t.descriptors d) n) _ is) [
  | inl here ↦ inr (found_open (t.descriptors d) refl here)
  | inr later ↦ open_from t n open_ones later
]
  where
    found_open : (o : Option Description) → t.descriptors d ≡ o → is_numbered o n ≡ true → (c : ℕ) × (f : Description) × (t.descriptors c ≡ Some f) × (f.number ≡ n)
    found_open None at e = nothing_there e
    found_open (Some f) at e = (d, f, at, eqb-true f.number n e)

pub used_from : (t : Tree) (paths : List Path) (open_ones : List ℕ) (n : ℕ) → is_used t paths open_ones n ≡ true → IsUsed t n
used_from t paths open_ones n is = elim (or_cases (list_any (λ p. is_numbered_at (t.objects p) n) paths) _ is) [
  | inl at ↦ inl (path_told t n paths at)
  | inr at ↦ open_from t n open_ones at
]

all_used : (t : Tree) (paths : List Path) (open_ones : List ℕ) (m k : ℕ) → are_used t paths open_ones m ≡ true → k < m → is_used t paths open_ones (4 + k) ≡ true
all_used t paths open_ones zero k all below = absurd (omega (arith, below))
all_used t paths open_ones (suc m) k all below =
    let both = and_parts (is_used t paths open_ones (4 + m)) (are_used t paths open_ones m) all in
    elim (cases_lt k m) [
      | inl less ↦ all_used t paths open_ones m k both.1 less
      | inr not_less ↦ subst (λ j. is_used t paths open_ones (4 + j) ≡ true) (omega (arith, below, not_less)) both.0
    ]

pub used_below : (t : Tree) (paths : List Path) (open_ones : List ℕ) (m : ℕ) → are_used t paths open_ones m ≡ true → (k : ℕ) → 4 ≤ k → k < 4 + m → IsUsed t k
used_below t paths open_ones m all k low high =
    let e : 4 + (k - 4) ≡ k = omega (arith, low) in
    used_from t paths open_ones k (subst (λ j. is_used t paths open_ones j ≡ true) e (all_used t paths open_ones m (k - 4) all (omega (arith, low, high))))

-- the tree without the bytes and the attributes of a number
abbrev pub dropped : ℕ → Tree → Tree
dropped n t = record t { bytes = λ k. if k == n then None else t.bytes k; attributes = λ k. if k == n then None else t.attributes k }

module _ {t : Tree} {paths : List Path} {open_ones numbers : List ℕ} (told : Told t paths open_ones numbers) where
  pub listing_told : (p : Path) (names : List Name) → lists t paths p names ≡ true → IsListing t p names
  listing_told p names all =
      let parts = and_parts (is_sorted names) _ all in
      let both = and_parts (list_all (λ x. is_some (t.objects (p ++ x ∷ []))) names) _ parts.1 in
      record {
        sorted = sorted_from names parts.0;
        whole = λ name. (
          λ there. name_there (λ x. is_some (t.objects (p ++ x ∷ []))) name names (list_any-from_Contains nat_list_eq_equiv name names there) both.0,
          λ some.
              let q = p ++ name ∷ [] in
              let passed = passed_among (λ r. is_listed names (behind p r) (is_some (t.objects r))) q paths (told.objects q some) both.1 in
              let named : is_listed names (Some (name ∷ [])) (is_some (t.objects q)) ≡ true = subst (λ (o : Option Path). is_listed names o (is_some (t.objects q)) ≡ true) (behind-append p (name ∷ [])) passed in
              Contains-from_any (λ x y. (bytes_eq-Decides x y).0) name names (subst (λ b. (not b || has name names) ≡ true) some named),
        );
      }

  used_told : (n : ℕ) → IsUsed t n → is_used t paths open_ones n ≡ true
  used_told n (inl (p, o, is, same)) = or_left (list_any (λ q. is_numbered_at (t.objects q) n) paths) _ (found_among (λ q. is_numbered_at (t.objects q) n) p paths (told.objects p (ap is_some is)) (subst (λ (r : Option Object). is_numbered_at r n ≡ true) (sym is) (eq-eqb (number_of_object o) n same)))
  used_told n (inr (d, f, is, same)) = or_right (list_any (λ q. is_numbered_at (t.objects q) n) paths) _ (found_within (λ c. is_numbered (t.descriptors c) n) d open_ones (told.descriptors d (ap is_some is)) (subst (λ (r : Option Description). is_numbered r n ≡ true) (sym is) (eq-eqb f.number n same)))

  -- the least number that isn't used
  pub fresh_told : (limits : Limits) (m : ℕ) → 4 + m < limits.inodes → is_used t paths open_ones (4 + m) ≡ false → are_used t paths open_ones m ≡ true → IsFresh limits t (4 + m)
  fresh_told limits m high free all = record {
    low = omega arith;
    high = high;
    free = λ used. false≢true (sym free ∙ used_told (4 + m) used);
    least = used_below t paths open_ones m all;
  }

  -- a number that isn't used any more is swept, and nothing else
  pub swept_told : (n : ℕ) → is_used t paths open_ones n ≡ false → list_all (λ k. k == n || is_used t paths open_ones k) numbers ≡ true → IsSwept t (dropped n t)
  swept_told n free all = record {
    objects = refl;
    descriptors = refl;
    kept = λ k used.
        let not_this : (k == n) ≡ true → ⊥ = λ e. false≢true (sym free ∙ subst (λ j. is_used t paths open_ones j ≡ true) (eqb-true k n e) (used_told k used)) in (
          cond_both (k == n) None (t.bytes k) (λ (r : Option (List ℕ)). r ≡ t.bytes k) (λ e. absurd (not_this e)) (λ e. refl),
          cond_both (k == n) None (t.attributes k) (λ (r : Option Attributes). r ≡ t.attributes k) (λ e. absurd (not_this e)) (λ e. refl),
        );
    gone = λ k unused. (
      cond_both (k == n) None (t.bytes k) (λ (r : Option (List ℕ)). r ≡ None) (λ e. refl) (λ e. (lost k unused e).0),
      cond_both (k == n) None (t.attributes k) (λ (r : Option Attributes). r ≡ None) (λ e. refl) (λ e. (lost k unused e).1),
    );
  }
    where
      lost : (k : ℕ) → ¬ IsUsed t k → (k == n) ≡ false → (t.bytes k ≡ None) × (t.attributes k ≡ None)
      lost k unused other = elim (cases_Bool (within k numbers)) [
        | inr out ↦ told.maps k out
        | inl there ↦ absurd (unused (used_from t paths open_ones k (elim (or_cases (k == n) (is_used t paths open_ones k) (passed_within (λ j. j == n || is_used t paths open_ones j) k numbers there all)) [ inl e ↦ absurd (false≢true (sym other ∙ e)) | inr is ↦ is ])))
      ]

  -- where all numbers are used, nothing is swept
  pub used_alone : list_all (is_used t paths open_ones) numbers ≡ true → IsSwept t t
  used_alone all = record {
    objects = refl;
    descriptors = refl;
    kept = λ k used. (refl, refl);
    gone = λ k unused. elim (cases_Bool (within k numbers)) [
      | inr out ↦ told.maps k out
      | inl there ↦ absurd (unused (used_from t paths open_ones k (passed_within (is_used t paths open_ones) k numbers there all)))
    ];
  }

  pub told_dropped : (n : ℕ) → Told (dropped n t) paths open_ones numbers
  told_dropped n = record {
    objects = told.objects;
    descriptors = told.descriptors;
    maps = λ k out.
        let none = told.maps k out in (
          cond_both (k == n) None (t.bytes k) (λ (r : Option (List ℕ)). r ≡ None) (λ e. refl) (λ e. none.0),
          cond_both (k == n) None (t.attributes k) (λ (r : Option Attributes). r ≡ None) (λ e. refl) (λ e. none.1),
        );
  }

-- the paths of a file

abbrev pub is_file_at : Option Object → ℕ → Bool
is_file_at (Some (file k)) n = k == n
is_file_at _ n = false

file_from : (o : Option Object) (n : ℕ) → is_file_at o n ≡ true → o ≡ Some (file n)
file_from None n e = nothing_there e
file_from (Some (directory k)) n e = nothing_there e
file_from (Some (symlink k text)) n e = nothing_there e
file_from (Some (file k)) n e = ap (λ j. Some (file j)) (eqb-true k n e)

abbrev pub are_distinct : List Path → Bool
are_distinct [] = true
are_distinct (p ∷ paths) = not (holds p paths) && are_distinct paths

not_true : {Y : Type 0} (b : Bool) → not b ≡ true → b ≡ true → Y
not_true true e is = nothing_there e
not_true false e is = nothing_there is

counts_list : (sites : List Path) (P : Path → Type 0) → are_distinct sites ≡ true → ((p : Path) → (holds p sites ≡ true) ↔ P p) → Counts P (length sites)
counts_list [] P apart whole = λ p is. nothing_there ((whole p).1 is)
counts_list (x ∷ sites) P apart whole =
    let both = and_parts (not (holds x sites)) (are_distinct sites) apart in (
      x,
      (whole x).0 (or_left (path_eq x x) (holds x sites) (path_eq-same x)),
      counts_list sites (λ p. P p × (p ≢ x)) both.1 (λ p. (
        λ later. ((whole p).0 (or_right (path_eq p x) (holds p sites) later), λ same. not_true (holds x sites) both.0 (subst (λ q. holds q sites ≡ true) same later)),
        λ is. elim (or_cases (path_eq p x) (holds p sites) ((whole p).1 is.0)) [
          | inl same ↦ absurd (is.1 (same_path p x same))
          | inr later ↦ later
        ],
      )),
    )

module _ {t : Tree} {paths : List Path} {open_ones numbers : List ℕ} (told : Told t paths open_ones numbers) where
  -- a file stands at just these paths
  pub links_told : (n : ℕ) (sites : List Path) → are_distinct sites ≡ true → list_all (λ p. is_file_at (t.objects p) n) sites ≡ true → list_all (λ p. not (is_file_at (t.objects p) n) || holds p sites) paths ≡ true
      → Counts (λ p. t.objects p ≡ Some (file n)) (length sites)
  links_told n sites apart each whole = counts_list sites (λ p. t.objects p ≡ Some (file n)) apart (λ p. (
    λ there. file_from (t.objects p) n (passed_among (λ q. is_file_at (t.objects q) n) p sites there each),
    λ is.
        let here : is_file_at (t.objects p) n ≡ true = subst (λ (o : Option Object). is_file_at o n ≡ true) (sym is) (eq-eqb n n refl) in
        subst (λ b. (not b || holds p sites) ≡ true) here (passed_among (λ q. not (is_file_at (t.objects q) n) || holds q sites) p paths (told.objects p (ap is_some is)) whole),
  ))

  -- where each number has a path, forgetting open files forgets descriptors alone
  pub forgets_told : list_all (λ n. list_any (λ p. is_numbered_at (t.objects p) n) paths) numbers ≡ true → ForgetsOpenFiles t (record t { descriptors = λ d. None })
  forgets_told all = record {
    objects = refl;
    descriptors = refl;
    kept = λ n has_path. (refl, refl);
    gone = λ n none. elim (cases_Bool (within n numbers)) [
      | inr out ↦ told.maps n out
      | inl there ↦ absurd (none (path_told t n paths (passed_within (λ k. list_any (λ p. is_numbered_at (t.objects p) k) paths) n numbers there all)))
    ];
  }
