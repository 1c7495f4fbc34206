-- Names kept in a set, in the order of their bytes.
use Rattle.std.proofs.Common.{◌≡◌, ℕ, List, [], ◌∷◌, ◌++◌, All, map, Bool, true, false, Some, ◌||◌, bytes_eq, is_some, refl, sym, ap, subst, ◌∙◌, inl, inr}
use Rattle.std.specs.List.{AllByRecursion}
use Rattle.std.specs.List.Sorted.{IsStrictlySortedBy}
use Rattle.std.specs.declared.cmp.Ordering.{Ordering}
use Rattle.std.specs.declared.cmp.Ordering.TheVariants.{Less, Equal, Greater}
use Rattle.std.specs.Ordering.{nat_cmp, match_ordering}
use Rattle.std.specs.Cmp.Lexicographic.{slice_cmp}
use Rattle.std.specs.BTreeMap.{insert_entry}
use Rattle.std.specs.Global.{Vec}
use Rattle.std.specs.FinMap.{slice_cmp-IsAntisymmetric, nat_cmp-IsAntisymmetric}
use Rattle.std.proofs.Math.Bool.{or-false}
use Rattle.std.proofs.lemmas.Bool.{cases_Bool}
use Rattle.std.proofs.lemmas.Slice.Eq.{bytes_eq-Decides}
use Rattle.std.proofs.lemmas.Cmp.{nat_list_eq_equiv}
use Rattle.std.proofs.lemmas.List.Elements.{All-cons, All-from_recursion, All-head, All-map, All-nil, All-tail, All-weaker, recursion_from_All}
use Rattle.std.proofs.lemmas.Map.Views.{list_any-from_Contains, Contains-from_any}
use Rattle.layout.specs.Directory.{Named}
use Rattle.model.proofs.OptionLaws.{none_some}
use Rattle.model.specs.Paths.{Name}
use Rattle.layout.specs.DirectoryNames.{number_of, HasEachOnce, NameMap, HoldNames}
use Rattle.dirs.specs.Directory.{first_entries}
use Rattle.dirs.specs.Listings.{AddsNames, AreInOrder, Collected, collected_names, IsNumberedListing, listed_names, lists_name, numbered_of}
use Rattle.dirs.specs.declared.directory.NumberedName.{NumberedName}
use Rattle.entries.proofs.MissingLaws.{number_of-here, number_of-behind}
use Rattle.dirs.proofs.CountLaws.{name_stands, entry_names, first-once, some_of}

pub or_comm : (a b : Bool) → (a || b) ≡ (b || a)
or_comm true true = refl
or_comm true false = refl
or_comm false true = refl
or_comm false false = refl

pub or_again : (a b : Bool) → (a || b) ≡ ((a || b) || a)
or_again true b = refl
or_again false b = sym (or-false b)

pub or_assoc : (a b c : Bool) → (a || (b || c)) ≡ ((a || b) || c)
or_assoc true b c = refl
or_assoc false b c = refl

-- whether a name stands among entries
pub stands-first : (name : Name) (e : Named) (entries : List Named) → is_some (number_of name (e ∷ entries)) ≡ (bytes_eq name e.name || is_some (number_of name entries))
stands-first name e entries =
    elim (cases_Bool (bytes_eq name e.name)) [
      | inl here ↦ ap is_some (number_of-here name e entries here) ∙ ap (λ b. b || is_some (number_of name entries)) (sym here)
      | inr behind ↦ ap is_some (number_of-behind name e entries behind) ∙ ap (λ b. b || is_some (number_of name entries)) (sym behind)
    ]

pub stands-append : (name : Name) (front rest : List Named) → is_some (number_of name (front ++ rest)) ≡ (is_some (number_of name front) || is_some (number_of name rest))
stands-append name [] rest = refl
stands-append name (e ∷ front) rest =
    stands-first name e (front ++ rest) ∙ ap (λ b. bytes_eq name e.name || b) (stands-append name front rest)
    ∙ or_assoc (bytes_eq name e.name) (is_some (number_of name front)) (is_some (number_of name rest))
    ∙ ap (λ b. b || is_some (number_of name rest)) (sym (stands-first name e front))

-- ---- names that are collected

abbrev by_bytes : Vec ℕ → Vec ℕ → Ordering
by_bytes x y = slice_cmp nat_cmp x.items y.items

same_bytes : (x y : Vec ℕ) → by_bytes x y ≡ Equal → x.items ≡ y.items
same_bytes x y e = slice_cmp-IsAntisymmetric nat_cmp-IsAntisymmetric x.items y.items e

lists-insert : (collected : List Collected) (key : Vec ℕ) (number : ℕ) (name : Name) → lists_name (collected_names (insert_entry by_bytes collected key number)) name ≡ (lists_name (collected_names collected) name || bytes_eq name key.items)
lists-insert [] key number name = or-false (bytes_eq name key.items)
lists-insert (c ∷ collected) key number name =
    elim (by_bytes key c.0) as (λ o. by_bytes key c.0 ≡ o → lists_name (collected_names (match_ordering o ((key, number) ∷ c ∷ collected) ((c.0, number) ∷ collected) (c ∷ insert_entry by_bytes collected key number))) name ≡ ((bytes_eq name c.0.items || lists_name (collected_names collected) name) || bytes_eq name key.items)) [
      | Less ↦ λ e. or_comm (bytes_eq name key.items) (bytes_eq name c.0.items || lists_name (collected_names collected) name)
      | Equal ↦ λ e. or_again (bytes_eq name c.0.items) (lists_name (collected_names collected) name) ∙ ap (λ n. (bytes_eq name c.0.items || lists_name (collected_names collected) name) || bytes_eq name n) (sym (same_bytes key c.0 e))
      | Greater ↦ λ e. ap (λ b. bytes_eq name c.0.items || b) (lists-insert collected key number name) ∙ or_assoc (bytes_eq name c.0.items) (lists_name (collected_names collected) name) (bytes_eq name key.items)
    ] refl

-- what holds of each name and its number holds where one more is collected of which it holds
module _ (P : Name → ℕ → Type 0) where
  each-insert : (collected : List Collected) (key : Vec ℕ) (number : ℕ) → AllByRecursion (λ c. P c.0.items c.1) collected → P key.items number → AllByRecursion (λ c. P c.0.items c.1) (insert_entry by_bytes collected key number)
  each-insert [] key number each one = (one, tt)
  each-insert (c ∷ collected) key number each one =
      elim (by_bytes key c.0) as (λ o. by_bytes key c.0 ≡ o → AllByRecursion (λ x. P x.0.items x.1) (match_ordering o ((key, number) ∷ c ∷ collected) ((c.0, number) ∷ collected) (c ∷ insert_entry by_bytes collected key number))) [
        | Less ↦ λ e. (one, each)
        | Equal ↦ λ e. (subst (λ (n : Name). P n number) (same_bytes key c.0 e) one, each.1)
        | Greater ↦ λ e. (each.0, each-insert collected key number each.1 one)
      ] refl

  pub collects : (old new : List Collected) (key : Vec ℕ) (number : ℕ) → new ≡ insert_entry by_bytes old key number → All (λ c. P c.0.items c.1) old → P key.items number → All (λ c. P c.0.items c.1) new
  collects old new key number is each one =
      subst (All (λ (c : Collected). P c.0.items c.1)) (sym is) (All-from_recursion (λ (c : Collected). P c.0.items c.1) (insert_entry by_bytes old key number)
      (each-insert old key number (recursion_from_All (λ (c : Collected). P c.0.items c.1) old each) one))

-- nothing is added
pub adds_none : (collected : List Collected) → AddsNames [] collected collected
adds_none collected = record {
  names = λ name. sym (or-false (lists_name (collected_names collected) name));
  numbers = λ names each before. before;
}

-- a name is added, and then others
pub adds_first : (e : Named) (entries : List Named) (old mid new : List Collected) (key : Vec ℕ) → key.items ≡ e.name → mid ≡ insert_entry by_bytes old key e.number → AddsNames entries mid new → AddsNames (e ∷ entries) old new
adds_first e entries old mid new key is one rest = record {
  names = λ name.
      let before = lists_name (collected_names old) name in
      let more = ap (λ l. lists_name (collected_names l) name) one ∙ lists-insert old key e.number name ∙ ap (λ n. before || bytes_eq name n) is in
      rest.names name ∙ ap (λ l. l || is_some (number_of name entries)) more ∙ sym (or_assoc before (bytes_eq name e.name) (is_some (number_of name entries)))
      ∙ ap (λ l. before || l) (sym (stands-first name e entries));
  numbers = λ names each before.
      let first = All-head (λ (x : Named). names x.name ≡ Some x.number) e entries each in
      rest.numbers names (All-tail (λ (x : Named). names x.name ≡ Some x.number) e entries each)
      (collects (λ n k. names n ≡ Some k) old mid key e.number one before (subst (λ n. names n ≡ Some e.number) (sym is) first));
}

-- the names of one list are added, and then those of another
pub adds_both : (entries others : List Named) (old mid new : List Collected) → AddsNames entries old mid → AddsNames others mid new → AddsNames (others ++ entries) old new
adds_both entries others old mid new one then = record {
  names = λ name.
      let before = lists_name (collected_names old) name in
      let here = is_some (number_of name entries) in
      let there = is_some (number_of name others) in
      then.names name ∙ ap (λ l. l || there) (one.names name) ∙ sym (or_assoc before here there) ∙ ap (λ l. before || l) (or_comm here there ∙ sym (stands-append name others entries));
  numbers = λ names each before.
      let parts = All-append_parts names others entries each in
      then.numbers names parts.0 (one.numbers names parts.1 before);
}
  where
    All-append_parts : (names : NameMap) (front rest : List Named) → All (λ e. names e.name ≡ Some e.number) (front ++ rest) → All (λ e. names e.name ≡ Some e.number) front × All (λ e. names e.name ≡ Some e.number) rest
    All-append_parts names [] rest each = (All-nil (λ (e : Named). names e.name ≡ Some e.number), each)
    All-append_parts names (e ∷ front) rest each =
        let later = All-append_parts names front rest (All-tail (λ (x : Named). names x.name ≡ Some x.number) e (front ++ rest) each) in
        (All-cons (λ (x : Named). names x.name ≡ Some x.number) e front (All-head (λ (x : Named). names x.name ≡ Some x.number) e (front ++ rest) each) later.0, later.1)

-- ---- a listing

-- entries of which none stands twice tell what each name stands for
each_found : (entries : List Named) → HasEachOnce entries → All (λ e. number_of e.name entries ≡ Some e.number) entries
each_found [] once = All-nil (λ (e : Named). number_of e.name [] ≡ Some e.number)
each_found (e ∷ entries) once =
    All-cons (λ (x : Named). number_of x.name (e ∷ entries) ≡ Some x.number) e entries (number_of-here e.name e entries (same_name e.name))
    (All-weaker (λ (x : Named). number_of x.name entries ≡ Some x.number) (λ (x : Named). number_of x.name (e ∷ entries) ≡ Some x.number)
    (λ x is. elim (cases_Bool (bytes_eq x.name e.name)) [
      | inl here ↦ none_some (sym once.0 ∙ ap (λ n. number_of n entries) (sym ((bytes_eq-Decides x.name e.name).0 here)) ∙ is)
      | inr behind ↦ number_of-behind x.name e entries behind ∙ is
    ]) entries (each_found entries once.1))
  where
    same_name : (name : Name) → bytes_eq name name ≡ true
    same_name name = (bytes_eq-Decides name name).1 refl

pub numbered-names : (collected : List Collected) → collected_names collected ≡ listed_names (map numbered_of collected)
numbered-names [] = refl
numbered-names (c ∷ collected) = ap (λ l. c.0.items ∷ l) (numbered-names collected)

pub items-names : (listed : List NumberedName) → map (λ (n : Vec ℕ). n.items) (map (λ n. n.name) listed) ≡ listed_names listed
items-names [] = refl
items-names (n ∷ listed) = ap (λ l. n.name.items ∷ l) (items-names listed)

below_each : (c : Collected) (collected : List Collected) → AllByRecursion (λ k. by_bytes c.0 k ≡ Less) (map (λ x. x.0) collected) → AllByRecursion (λ n. slice_cmp nat_cmp c.0.items n ≡ Less) (collected_names collected)
below_each c [] below = tt
below_each c (x ∷ collected) below = (below.0, below_each c collected below.1)

names_in_order : (collected : List Collected) → IsStrictlySortedBy by_bytes (map (λ c. c.0) collected) → IsStrictlySortedBy (slice_cmp nat_cmp) (collected_names collected)
unfolding IsStrictlySortedBy
names_in_order [] sorted = tt
names_in_order (c ∷ collected) sorted = (below_each c collected sorted.0, names_in_order collected sorted.1)

pub collected_in_order : (collected : List Collected) → IsStrictlySortedBy by_bytes (map (λ c. c.0) collected) → AreInOrder (map numbered_of collected)
collected_in_order collected sorted = subst (IsStrictlySortedBy (slice_cmp nat_cmp)) (numbered-names collected) (names_in_order collected sorted)

-- the names that are collected from each entry, in their order, are the listing
pub listing : (inodes count : ℕ) (block : ℕ → List ℕ) (names : NameMap) (collected : List Collected) (listed : List NumberedName) → (h : HoldNames inodes count block names)
    → AddsNames (first_entries h.entries count) [] collected → listed ≡ map numbered_of collected → AreInOrder listed → IsNumberedListing names listed
listing inodes count block names collected listed h adds is order = record {
  listing = record {
    sorted = order;
    whole = λ name. (
      (λ there.
          let some = some_of (number_of name (first_entries h.entries count)) (sym (each name) ∙ list_any-from_Contains nat_list_eq_equiv name (listed_names listed) there) in
          ap is_some (entry_names h.entries names h.are count h.past name some.0 some.1)),
      (λ is.
          let some = some_of (names name) is in
          Contains-from_any (λ x y. (bytes_eq-Decides x y).0) name (listed_names listed) (each name ∙ ap is_some (name_stands h.entries names h.are count h.past name some.0 some.1))),
    );
  };
  numbers = subst (All (λ (n : NumberedName). names n.name.items ≡ Some n.number)) (sym is)
      (All-map (λ (n : NumberedName). names n.name.items ≡ Some n.number) numbered_of collected
      (adds.numbers names (All-weaker (λ (e : Named). number_of e.name (first_entries h.entries count) ≡ Some e.number) (λ (e : Named). names e.name ≡ Some e.number)
      (λ e. entry_names h.entries names h.are count h.past e.name e.number) (first_entries h.entries count)
      (each_found (first_entries h.entries count) (first-once h.entries names h.are count))) (All-nil (λ (c : Collected). names c.0.items ≡ Some c.1))));
}
  where
    each : (name : Name) → lists_name (listed_names listed) name ≡ is_some (number_of name (first_entries h.entries count))
    each name = ap (λ l. lists_name (listed_names l) name) is ∙ ap (λ l. lists_name l name) (sym (numbered-names collected)) ∙ adds.names name
