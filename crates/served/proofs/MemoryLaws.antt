-- How what the server knows is found in its memory.
use Rattle.std.proofs.Common.{◌≡◌, ℕ, ◌<◌, ◌+◌, Bool, true, false, cond, List, [], ◌∷◌, length, get_or, map, filter, Option, None, replicate, refl, sym, ap, subst, ◌∙◌, below_more}
use Rattle.std.proofs.Common.{inl, inr, arith, ◌≤◌, BTreeMap, nat_cmp}
use Rattle.std.specs.BTreeMap as tree
use Rattle.std.specs.Map.{lookup}
use Rattle.std.proofs.Math.Path.{fun_ext}
use Rattle.std.proofs.lemmas.Bool.{cases_lt}
use Rattle.std.specs.List.{Contains}
use Rattle.std.proofs.lemmas.List.{get_or-map, length-map, get_or-replicate, get_or_past, length-replicate}
use Rattle.served.specs.Known.{Known, Seen, seen_of, nothing_known, untouched}
use Rattle.served.specs.declared.marks.Marks.{Marks}
use Rattle.served.specs.declared.memory.Marked.{Marked}
use Rattle.served.specs.declared.memory.Removed.{Removed}
use Rattle.served.specs.declared.memory.Snapshot.{Snapshot}

-- an element of a list, among those that f makes of its elements
pub mapped : {X Y : Type 0} (f : X → Y) (xs : List X) (k : ℕ) (x : X) (e : Y) → k < length xs → x ≡ get_or xs k x → get_or (map f xs) k e ≡ f x
mapped f xs k x e below is = get_or-map f xs k x e below ∙ ap f (sym is)

pub Contains-mapped : {X Y : Type 0} (f : X → Y) (xs : List X) (k : ℕ) (x : X) → k < length xs → x ≡ get_or xs k x → Contains (map f xs) (f x)
Contains-mapped f xs k x below is = (k, subst (λ (n : ℕ). k < n) (sym (length-map xs f)) below, mapped f xs k x (f x) below is)

-- what no index has is no element
pub none_among : {X Y : Type 0} (f : X → Y) (P : Y → Type 0) (xs : List X) → ((k : ℕ) → k < length xs → (e : Y) → P (get_or (map f xs) k e)) → (y : Y) → Contains (map f xs) y → P y
none_among f P xs all y (k, below, is) = subst P is (all k (subst (λ (n : ℕ). k < n) (length-map xs f) below) y)

-- one index more
pub one_more : {X Y : Type 0} (f : X → Y) (P : Y → Type 0) (xs : List X) (n : ℕ) (x : X) → n < length xs → x ≡ get_or xs n x → P (f x) → ((k : ℕ) → k < n → (e : Y) → P (get_or (map f xs) k e))
    → (k : ℕ) → k < n + 1 → (e : Y) → P (get_or (map f xs) k e)
one_more {Y} f P xs n x below is has before =
    below_more (λ (k : ℕ). (e : Y) → P (get_or (map f xs) k e)) n before (λ e. subst P (sym (mapped f xs n x e below is)) has)

-- those that stay
stays : (b : Bool) (x : Snapshot) (xs : List Snapshot) (ys : List Seen) → map seen_of xs ≡ ys → map seen_of (cond b (x ∷ xs) xs) ≡ cond b (seen_of x ∷ ys) ys
stays true x xs ys same = ap (λ (zs : List Seen). seen_of x ∷ zs) same
stays false x xs ys same = same

pub filter-seen : (p : Seen → Bool) (xs : List Snapshot) → map seen_of (filter (λ x. p (seen_of x)) xs) ≡ filter p (map seen_of xs)
filter-seen p [] = refl
filter-seen p (x ∷ xs) = stays (p (seen_of x)) x (filter (λ y. p (seen_of y)) xs) (filter p (map seen_of xs)) (filter-seen p xs)

-- behind all of them
pub none_left : {X Y : Type 0} (f : X → Y) (P : Y → Type 0) (xs ys : List X) (n : ℕ) → xs ≡ ys → length xs ≤ n → ((k : ℕ) → k < n → (e : Y) → P (get_or (map f xs) k e)) → (y : Y)
    → Contains (map f ys) y → P y
none_left {X} f P xs ys n same end before y among =
    none_among f P xs (λ k below. before k (omega arith)) y (subst (λ (zs : List X). Contains (map f zs) y) (sym same) among)

-- one value at each index, and past the last one
all_one : {X : Type 0} (n : ℕ) (x : X) (k : ℕ) → get_or (replicate n x) k x ≡ x
all_one n x k = elim (cases_lt k n) [ inl below ↦ get_or-replicate n k x x below | inr past ↦ get_or_past (replicate n x) k x (rw length-replicate past) ]

-- what is known, by its parts
abbrev by_parts : Marks → ℕ → (ℕ → Marked) → (ℕ → Option Removed) → (ℕ → Option (List ℕ)) → List Seen → Known
by_parts first numbers marked removed texts snapshots = record {
  first = first;
  numbers = numbers;
  marked = marked;
  removed = removed;
  texts = texts;
  snapshots = snapshots;
  next_id = 0;
}

-- nothing is found in an empty map
nothing_in : {V : Type 0} (m : BTreeMap ℕ V) → m.entries ≡ [] → (let found : ℕ → Option V = λ node. tree.get nat_cmp m node in found) ≡ (λ node. None)
nothing_in {V} m none = fun_ext (λ node. ap (λ (es : List (ℕ × V)). lookup (tree.is_at (nat_cmp node)) es) none)

-- what a new server knows
pub nothing-known : (first : Marks) (numbers : ℕ) (marked : List Marked) (removed : BTreeMap ℕ Removed) (texts : BTreeMap ℕ (List ℕ)) (snapshots : List Snapshot)
    → marked ≡ replicate numbers (untouched first) → removed.entries ≡ [] → texts.entries ≡ [] → snapshots ≡ []
    → ◌≡◌ {A = Known} (record {
      first = first;
      numbers = length marked;
      marked = λ n. get_or marked n (untouched first);
      removed = λ node. tree.get nat_cmp removed node;
      texts = λ node. tree.get nat_cmp texts node;
      snapshots = map seen_of snapshots;
      next_id = 0;
    }) (nothing_known numbers first)
nothing-known first numbers marked removed texts snapshots marked_is none no_texts no_snapshots =
    let at_first : Marked = untouched first in
    let marks_of : ℕ → Marked = λ n. get_or marked n at_first in
    let no_marks : ℕ → Marked = λ n. at_first in
    let removed_of : ℕ → Option Removed = λ node. tree.get nat_cmp removed node in
    let none_removed : ℕ → Option Removed = λ node. None in
    let text_of : ℕ → Option (List ℕ) = λ node. tree.get nat_cmp texts node in
    let no_text : ℕ → Option (List ℕ) = λ node. None in
    let numbers_are : length marked ≡ numbers = ap (λ (xs : List Marked). length xs) marked_is ∙ length-replicate numbers at_first in
    let marks_are : marks_of ≡ no_marks = fun_ext (λ n. ap (λ (xs : List Marked). get_or xs n at_first) marked_is ∙ all_one numbers at_first n) in
    ap (λ (n : ℕ). by_parts first n marks_of removed_of text_of (map seen_of snapshots)) numbers_are
    ∙ (ap (λ (f : ℕ → Marked). by_parts first numbers f removed_of text_of (map seen_of snapshots)) marks_are
    ∙ (ap (λ (f : ℕ → Option Removed). by_parts first numbers no_marks f text_of (map seen_of snapshots)) (nothing_in removed none)
    ∙ (ap (λ (f : ℕ → Option (List ℕ)). by_parts first numbers no_marks none_removed f (map seen_of snapshots)) (nothing_in texts no_texts)
    ∙ ap (λ (xs : List Snapshot). by_parts first numbers no_marks none_removed no_text (map seen_of xs)) no_snapshots)))
