-- What lies below an object.
use Rattle.std.proofs.Common.{◌≡◌, ◌≢◌, ◌⊎◌, inl, inr, ℕ, ◌+◌, ◌<◌, ◌≤◌, ◌↔◌, Bool, true, false, cond, List, [], ◌∷◌, ◌++◌, length, get_or, Option, Some, None, IfSome, IsFalse, IsSome, IsTrue, fold, map, refl, sym, ap, subst, ◌∙◌, arith}
use Rattle.std.proofs.Math.ListN.{set, length-set}
use Rattle.std.proofs.lemmas.Bool.{cases_eq, false≢true}
use Rattle.std.proofs.lemmas.List.{get_or-map, get_or-set_other, get_or-set_same, length-map, length_push}
use Rattle.std.proofs.lemmas.List.Elements.{All-contains, All-map, All-weaker, Contains-append_left, Contains-get_or, Contains-push, Contains-push_cases}
use Rattle.std.proofs.lemmas.List.Sums.{fold-append, sum_by-set}
use Rattle.std.specs.List.{All, Contains}
use Rattle.model.specs.Paths.{Name, Path}
use Rattle.model.specs.Records.{IsBelow, IsEmpty}
use Rattle.model.specs.Volumes.{Entries, IsGraph, Volume, enter, entries, is_directory_node, is_file_node}
use Rattle.model.specs.declared.limits.TheConstants.{ROOT_NUMBER}
use Rattle.dirs.specs.Listings.{IsNumberedListing, listed_names}
use Rattle.dirs.specs.declared.directory.NumberedName.{NumberedName}
use Rattle.layout.specs.DirectoryNames.{NameMap}
use Rattle.records.specs.Below.{IsChild, IsMarkedNumber, MarksMore, Searches, count_unmarked}
use Rattle.records.proofs.FileLaws.{same_some}
use Rattle.model.proofs.OptionLaws.{none_some}
use Rattle.model.proofs.VolumeLemmas.{alone, directory_no_file, enters_directory}
use Rattle.model.proofs.WalkLemmas.{longer, number_at-push}

-- an object is below itself
pub below_self : (e : Entries) (n : ℕ) → IsBelow e n n
below_self e n = ([], refl)

fold_more : (e : Entries) (o : Option ℕ) (p : Path) (x : Name) → fold (enter e) o (p ++ x ∷ []) ≡ enter e (fold (enter e) o p) x
fold_more e o [] x = refl
fold_more e o (y ∷ p) x = fold_more e (enter e o y) p x

-- and so is what a name of one below it stands for
pub below_child : (e : Entries) (n d m : ℕ) → IsBelow e n d → IsChild e d m → IsBelow e n m
below_child e n d m below child =
    (below.0 ++ child.0 ∷ [], fold_more e (Some n) below.0 child.0 ∙ ap (λ o. enter e o child.0) below.1 ∙ child.1)

-- what is true of each object that a name of one stands for of which it is true, is true of all below it
module _ (e : Entries) (P : ℕ → Type 0) (closed : (d n : ℕ) → P d → IsChild e d n → P n) where
  closed_child : (n : ℕ) (x : Name) (o : Option ℕ) → P n → e n x ≡ o → IfSome o P
  closed_child n x None is at = tt
  closed_child n x (Some m) is at = closed n m is (x, at)

  closed_from : (p : Path) (o : Option ℕ) (k : ℕ) → IfSome o P → fold (enter e) o p ≡ Some k → P k
  closed_from [] None k is at = none_some at
  closed_from [] (Some n) k is at = subst P (same_some at) is
  closed_from (x ∷ p) None k is at = closed_from p None k tt at
  closed_from (x ∷ p) (Some n) k is at = closed_from p (e n x) k (closed_child n x (e n x) is refl) at

  pub closed_below : (n k : ℕ) → P n → IsBelow e n k → P k
  closed_below n k is below = closed_from below.0 (Some n) k is below.1

-- below an object without names there is nothing but itself
pub only_itself : (v : Volume) (n k : ℕ) → IsEmpty v n → IsBelow (entries v) n k → k ≡ n
only_itself v n k empty below =
    closed_below (entries v) (λ j. j ≡ n) (λ d m is child. none_some (sym (empty child.0) ∙ ap (λ (j : ℕ). entries v j child.0) (sym is) ∙ child.1)) n k refl below

-- nothing below an object leads back to it
module _ (v : Volume) (graph : IsGraph v) where
  leads_no_file : (n k : ℕ) (p : Path) → fold (enter (entries v)) (Some n) p ≡ Some k → IsTrue (is_directory_node (v k)) → IsFalse (is_file_node (v n))
  leads_no_file n k [] at is = subst (λ (j : ℕ). IsFalse (is_file_node (v j))) (sym (same_some at)) (directory_no_file (v k) is)
  leads_no_file n k (x ∷ p) at is = by (entries v n x) refl
    where
      by : (o : Option ℕ) → entries v n x ≡ o → IsFalse (is_file_node (v n))
      by None none = absurd (closed_from (entries v) (λ j. ⊥) (λ d m never child. never) p None k tt (sym (ap (λ (o : Option ℕ). fold (enter (entries v)) o p) none) ∙ at))
      by (Some m) some = directory_no_file (v n) (enters_directory (v n) x m some)

  pub never_around : (n k : ℕ) (y : Name) → entries v k y ≡ Some n → IsBelow (entries v) n k → ⊥
  never_around n k y there (p, below) =
      let e = entries v in
      let other = leads_no_file n k p below (enters_directory (v k) y n there) in
      let from = graph.naming.reached n (graph.naming.used k n y there) other in
      let at_k = fold-append (enter e) (Some ROOT_NUMBER) from.0 p ∙ ap (λ (o : Option ℕ). fold (enter e) o p) from.1 ∙ below in
      let at_n = number_at-push e (from.0 ++ p) y ∙ ap (λ (o : Option ℕ). enter e o y) at_k ∙ there in
      longer from.0 p y (alone v graph ((from.0 ++ p) ++ y ∷ []) from.0 n at_n from.1 other)

-- what is no directory has no names
pub no_directory_empty : (v : Volume) (n : ℕ) → IsFalse (is_directory_node (v n)) → IsEmpty v n
no_directory_empty v n not x = by (entries v n x) refl
  where
    by : (o : Option ℕ) → entries v n x ≡ o → entries v n x ≡ None
    by None at = at
    by (Some m) at = absurd (false≢true (sym not ∙ enters_directory (v n) x m at))

-- ---- from parent to parent

module _ (v : Volume) (graph : IsGraph v) (n : ℕ) where
  abbrev e : Entries
  e = entries v

  -- the root lies below nothing else
  pub below_root : IsBelow e n ROOT_NUMBER → n ≡ ROOT_NUMBER
  below_root below =
      closed_below e (λ j. j ≡ ROOT_NUMBER → n ≡ ROOT_NUMBER) (λ d m before child is. absurd (graph.naming.not_root d child.0 (child.1 ∙ ap (λ (j : ℕ). Some j) is))) n ROOT_NUMBER (λ is. is) below refl

  -- another directory lies below an object just where its parent does
  module _ (p k : ℕ) (directory : IsTrue (is_directory_node (v k))) (parent : IsChild e p k) where
    abbrev StandsBelow : ℕ → Type 0
    StandsBelow j = IsBelow e n j × (j ≡ k → n ≢ k → IsBelow e n p)

    lies_below : (d m : ℕ) → StandsBelow d → IsChild e d m → StandsBelow m
    lies_below d m was child = (
      below_child e n d m was.0 child,
      λ is other.
          let there : e d child.0 ≡ Some k = child.1 ∙ ap (λ (j : ℕ). Some j) is in
          subst (λ (j : ℕ). IsBelow e n j) (graph.naming.once d p k child.0 parent.0 there parent.1 (directory_no_file (v k) directory)).0 was.0,
    )

    pub below_parent : n ≢ k → IsBelow e n p ↔ IsBelow e n k
    below_parent other = (
      λ below. below_child e n p k below parent,
      λ below. (closed_below e StandsBelow lies_below n k (below_self e n, λ is not. absurd (not is)) below).1 refl other,
    )

-- ---- marks

pub marks_more : (a b c : List Bool) (l m r : List ℕ) → MarksMore a b l m → MarksMore b c m r → MarksMore a c l r
marks_more a b c l m r first last = record {
  same_length = last.same_length ∙ first.same_length;
  fewer = omega (arith, first.fewer, last.fewer);
  kept = λ n is. last.kept n (first.kept n is);
  still_left = λ n is. last.still_left n (first.still_left n is);
  fresh = λ n is. elim (last.fresh n is) [
    | inl before ↦ elim (first.fresh n before) [ inl old ↦ inl old | inr left ↦ inr (last.still_left n left) ]
    | inr left ↦ inr left
  ];
  marked = λ all. last.marked (first.marked all);
}

module _ (marks : List Bool) (left : List ℕ) (n : ℕ) (within : n < length marks) where
  abbrev after : List Bool
  after = set marks n true

  marked_now : IsMarkedNumber after n
  marked_now = rw get_or-set_same

  -- what is marked then was so, or is this
  pub marked_one : (k : ℕ) → IsMarkedNumber after k → IsMarkedNumber marks k ⊎ (k ≡ n)
  marked_one k is = elim (cases_eq k n) [
    | inl same ↦ inr same
    | inr other ↦ inl (rw get_or-set_other at is)
  ]

  keeps_mark : (k : ℕ) → IsMarkedNumber marks k → IsMarkedNumber after k
  keeps_mark k is = elim (cases_eq k n) [
    | inl same ↦ subst (IsMarkedNumber after) (sym same) marked_now
    | inr other ↦ rw get_or-set_other is
  ]

  pub marks_one : get_or marks n false ≡ false → MarksMore marks after left (left ++ n ∷ [])
  marks_one not = record {
    same_length = length-set marks n true;
    fewer = count;
    kept = keeps_mark;
    still_left = λ k is. Contains-append_left left (n ∷ []) k is;
    fresh = λ k is. elim (marked_one k is) [
      | inl before ↦ inl before
      | inr same ↦ inr (subst (Contains (left ++ n ∷ [])) (sym same) (Contains-push left n))
    ];
    marked = λ all k is. elim (Contains-push_cases left n k is) [
      | inl before ↦ keeps_mark k (all k before)
      | inr same ↦ subst (IsMarkedNumber after) same marked_now
    ];
  }
    where
      weight : Bool → ℕ
      weight mark = cond mark 0 1

      count : count_unmarked after + length (left ++ n ∷ []) ≤ count_unmarked marks + length left
      count =
          let e : count_unmarked after + weight (get_or marks n false) ≡ count_unmarked marks + 0 = sum_by-set weight marks n true false within in
          let one : weight (get_or marks n false) ≡ 1 = ap weight not in
          let longer : length (left ++ n ∷ []) ≡ length left + 1 = length_push left n in
          omega arith

-- ---- children

-- a listing has just the numbers that names stand for
module _ (names : NameMap) (listed : List NumberedName) (is : IsNumberedListing names listed) where
  abbrev IsNamed : ℕ → Type 0
  IsNamed n = (x : Name) × (names x ≡ Some n)

  abbrev name : NumberedName → Name
  name m = m.name.items

  abbrev number : NumberedName → ℕ
  number m = m.number

  abbrev numbers : List ℕ
  numbers = map number listed

  all_named : All IsNamed numbers
  all_named = All-map IsNamed number listed (All-weaker (λ m. names (name m) ≡ Some (number m)) (λ m. IsNamed (number m)) (λ m at. (name m, at)) listed is.numbers)

  all_listed : All (λ x. IfSome (names x) (Contains numbers)) (listed_names listed)
  all_listed = All-map (λ x. IfSome (names x) (Contains numbers)) name listed (λ k d within.
      let many : k < length numbers = omega (arith, length-map listed number, within) in
      let here = subst (Contains numbers) (get_or-map number listed k d (number d) within) (Contains-get_or numbers k (number d) many) in
      subst (λ (o : Option ℕ). IfSome o (Contains numbers)) (sym (is.numbers k d within)) here)

  pub listed_children : (n : ℕ) → Contains numbers n ↔ IsNamed n
  listed_children n = (
    All-contains IsNamed numbers n all_named,
    λ child.
        let there = (is.listing.whole child.0).1 (subst (λ (o : Option ℕ). IsSome o) (sym child.1) refl) in
        subst (λ (o : Option ℕ). IfSome o (Contains numbers)) child.1 (All-contains (λ x. IfSome (names x) (Contains numbers)) (listed_names listed) child.0 all_listed there),
  )

-- ---- a search

nothing : {X : Type 0} {n : ℕ} → Contains [] n → X
nothing is = absurd (omega (arith, is.1))

-- an object without children has no names
pub childless : (v : Volume) (n : ℕ) (children : List ℕ) → children ≡ [] → ((k : ℕ) → Contains children k ↔ IsChild (entries v) n k) → IsEmpty v n
childless v n children none are x = by (entries v n x) refl
  where
    by : (o : Option ℕ) → entries v n x ≡ o → entries v n x ≡ None
    by None at = at
    by (Some m) at = nothing (subst (λ (xs : List ℕ). Contains xs m) none ((are m).1 (x, at)))

-- an object is marked, and then its children
pub searched_first : (e : Entries) (top : ℕ) (marks after : List Bool) (empty left children : List ℕ) → ((n : ℕ) → IsMarkedNumber marks n ↔ (n ≡ top)) → ((n : ℕ) → Contains children n ↔ IsChild e top n) → empty ≡ []
    → MarksMore marks after empty left → ((n : ℕ) → Contains children n → IsMarkedNumber after n) → ((n : ℕ) → IsMarkedNumber after n → IsMarkedNumber marks n ⊎ Contains children n) → Searches e top after left
searched_first e top marks after empty left children one are is_empty marking all only = record {
  itself = marking.kept top ((one top).1 refl);
  below = λ n is. elim (only n is) [
    | inl before ↦ subst (λ (k : ℕ). IsBelow e top k) (sym ((one n).0 before)) (below_self e top)
    | inr child ↦ below_child e top top n (below_self e top) ((are n).0 child)
  ];
  marked = marking.marked (λ n is. nothing (subst (λ (xs : List ℕ). Contains xs n) is_empty is));
  closed = λ d n is child. elim (marking.fresh d is) [
    | inl before ↦ inl (all n ((are n).1 (subst (λ (k : ℕ). IsChild e k n) ((one d).0 before) child)))
    | inr waits ↦ inr waits
  ];
}

module _ (e : Entries) (top here : ℕ) (marks after : List Bool) (left rest more : List ℕ) (children : List ℕ) where
  -- one number less is left to be looked into, and its children are marked
  pub searched_more : left ≡ rest ++ here ∷ [] → ((n : ℕ) → Contains children n ↔ IsChild e here n) → MarksMore marks after rest more
      → ((n : ℕ) → Contains children n → IsMarkedNumber after n) → ((n : ℕ) → IsMarkedNumber after n → IsMarkedNumber marks n ⊎ Contains children n)
      → Searches e top marks left → Searches e top after more
  searched_more splits are marking all only was = record {
    itself = marking.kept top was.itself;
    below = λ n is. elim (only n is) [
      | inl before ↦ was.below n before
      | inr child ↦ below_child e top here n (was.below here here_marked) ((are n).0 child)
    ];
    marked = marking.marked (λ n is. was.marked n (subst (λ (xs : List ℕ). Contains xs n) (sym splits) (Contains-append_left rest (here ∷ []) n is)));
    closed = λ d n is child. elim (marking.fresh d is) [
      | inl before ↦ elim (was.closed d n before child) [
        | inl marked ↦ inl (marking.kept n marked)
        | inr waits ↦ elim (Contains-push_cases rest here d (subst (λ (xs : List ℕ). Contains xs d) splits waits)) [
          | inl still ↦ inr (marking.still_left d still)
          | inr same ↦ inl (all n ((are n).1 (subst (λ (k : ℕ). IsChild e k n) (sym same) child)))
        ]
      ]
      | inr waits ↦ inr waits
    ];
  }
    where
      here_marked : IsMarkedNumber marks here
      here_marked = was.marked here (subst (λ (xs : List ℕ). Contains xs here) (sym splits) (Contains-push rest here))

-- a search in which nothing is left has marked what lies below
pub searched_all : (e : Entries) (top : ℕ) (marks : List Bool) (left : List ℕ) → left ≡ [] → Searches e top marks left → (n : ℕ) → IsMarkedNumber marks n ↔ IsBelow e top n
searched_all e top marks left none was n = (
  was.below n,
  closed_below e (IsMarkedNumber marks) (λ d m is child. elim (was.closed d m is child) [
    | inl marked ↦ marked
    | inr waits ↦ nothing (subst (λ (xs : List ℕ). Contains xs d) none waits)
  ]) top n was.itself,
)
