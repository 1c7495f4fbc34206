-- The names of a directory that were seen.
use Rattle.std.proofs.Common.{Equal, Less, ◌≡◌, ◌≢◌, ◌∙◌, ◌⊎◌, inl, inr, ℕ, ◌+◌, ◌-◌, List, ◌++◌, ◌∷◌, [], Bool, true, false, if◌then◌else◌, not, Option, Some, None, is_some, bytes_eq, length, take, drop, refl, sym, ap, subst, arith, length-append, length-drop, take_all}
use Rattle.std.specs.Prelude.{◌↔◌, All, slice_get}
use Rattle.std.specs.BTreeMap.{is_at}
use Rattle.std.specs.BTreeSet.{BTreeSet, contains}
use Rattle.std.specs.Cmp.Lexicographic.{slice_cmp}
use Rattle.std.specs.Global.{Vec}
use Rattle.std.specs.Ordering.{nat_cmp}
use Rattle.std.proofs.lemmas.Bool.{cases_lt, cond-true, cond-false, false_from_ne_true, false≢true}
use Rattle.std.proofs.lemmas.Cmp.{nat_list_cmp_total, tied_itself}
use Rattle.std.proofs.lemmas.List.{drop-append-le, get_or_append_left, get_or_push, take-append-le}
use Rattle.std.proofs.lemmas.Map.Text.{is_eq-slice_cmp}
use Rattle.std.proofs.lemmas.Option.{get_or_from_slice_get, slice_get-get_or, slice_get_within}
use Rattle.std.proofs.lemmas.Slice.Eq.{bytes_eq-Decides}
use Rattle.std.proofs.Math.Seq.{drop-append_seam}
use Rattle.layout.specs.DirectoryNames.{NameMap}
use Rattle.model.specs.Paths.{Name}
use Rattle.model.specs.Volumes.{Entries, with_edge}
use Rattle.model.proofs.ListingLemmas.{names_apart}
use Rattle.model.proofs.WalkLemmas.{edge_here, edge_other}
use Rattle.checker.specs.Seen.{AddsName, HasRisen, KnowsRisen, KnowsSet}
use Rattle.checker.specs.Spans.{IsLess, IsSpan, name_in}
use Rattle.checker.specs.declared.seen.Rising.{Rising}
use Rattle.checker.specs.declared.seen.Span.{Span}

-- ---- a list with an element more

module _ {X : Type 0} (xs : List X) (y : X) where
  pub push_left : (k : ℕ) (s : X) → slice_get xs k ≡ Some s → slice_get (xs ++ y ∷ []) k ≡ Some s
  push_left k s at =
      let lt = slice_get_within xs k s at in
      slice_get-get_or (xs ++ y ∷ []) k s (omega (arith, lt, length-append xs (y ∷ []))) ∙ ap (λ (v : X). Some v) (get_or_append_left xs (y ∷ []) s k lt ∙ get_or_from_slice_get xs k s s at)

  pub push_last : slice_get (xs ++ y ∷ []) (length xs) ≡ Some y
  push_last = slice_get-get_or (xs ++ y ∷ []) (length xs) y (omega (arith, length-append xs (y ∷ []))) ∙ ap (λ (v : X). Some v) (get_or_push xs y y (length xs) refl)

  pub push_cases : (k : ℕ) (s : X) → slice_get (xs ++ y ∷ []) k ≡ Some s → (slice_get xs k ≡ Some s) ⊎ (s ≡ y)
  push_cases k s at = elim (cases_lt k (length xs)) [
    | inl lt ↦ inl (slice_get-get_or xs k s lt ∙ ap (λ (v : X). Some v) (sym (get_or_append_left xs (y ∷ []) s k lt) ∙ get_or_from_slice_get (xs ++ y ∷ []) k s s at))
    | inr ge ↦
        let within = slice_get_within (xs ++ y ∷ []) k s at in
        let last : length xs ≡ k = omega (arith, ge, within, length-append xs (y ∷ [])) in
        inr (sym (get_or_from_slice_get (xs ++ y ∷ []) k s s at) ∙ get_or_push xs y s k last)
  ]

-- ---- names in a text

pub name_kept : (text more : List ℕ) (s : Span) → IsSpan s text → name_in (text ++ more) s ≡ name_in text s
name_kept text more s is =
    ap (take (s.to - s.from)) (drop-append-le s.from text more (omega (arith, is.rises, is.within)))
    ∙ take-append-le (s.to - s.from) (drop s.from text) more (simp (length-drop) (omega (arith, is.rises, is.within)))

pub within_at : (spans : List Span) (text : List ℕ) (k : ℕ) (s : Span) → All (λ v. IsSpan v text) spans → slice_get spans k ≡ Some s → IsSpan s text
within_at spans text k s all at = subst (λ v. IsSpan v text) (get_or_from_slice_get spans k s s at) (all k s (slice_get_within spans k s at))

pub name_last : (text name : List ℕ) (s : Span) → s.from ≡ length text → s.to ≡ length text + length name → name_in (text ++ name) s ≡ name
name_last text name s from to =
    let long : s.to - s.from ≡ length name = omega (arith, from, to) in
    ap (λ (k : ℕ). take (s.to - s.from) (drop k (text ++ name))) from ∙ ap (take (s.to - s.from)) (drop-append_seam text name)
    ∙ take_all (s.to - s.from) name (omega (arith, long))

pub less_self : (x : Name) → IsLess x x → ⊥
less_self x less = let is : Equal ≡ Less = sym (tied_itself nat_list_cmp_total x) ∙ less in cc

pub less_on : (x y z : Name) → IsLess x y → IsLess y z → IsLess x z
less_on x y z = nat_list_cmp_total.trans x y z

-- ---- a set

abbrev by_bytes : Vec ℕ → Vec ℕ → Bool
by_bytes key q = is_at (λ (k : Vec ℕ). slice_cmp nat_cmp key.items k.items) q

at_key : (key q : Vec ℕ) → q.items ≡ key.items → by_bytes key q ≡ true
at_key key q same = is_eq-slice_cmp key.items q.items ∙ (bytes_eq-Decides key.items q.items).1 (sym same)

not_at_key : (key q : Vec ℕ) → q.items ≢ key.items → by_bytes key q ≡ false
not_at_key key q other = is_eq-slice_cmp key.items q.items ∙ false_from_ne_true (bytes_eq key.items q.items) (λ t. other (sym ((bytes_eq-Decides key.items q.items).0 t)))

abbrev pub has_key : BTreeSet (Vec ℕ) → Vec ℕ → Bool
has_key set key = contains (λ x y. slice_cmp nat_cmp x.items y.items) set key

abbrev pub Grows : BTreeSet (Vec ℕ) → BTreeSet (Vec ℕ) → Vec ℕ → Type 0
Grows old new key = (q : Vec ℕ) → has_key new q ≡ (if is_at (λ (k : Vec ℕ). slice_cmp nat_cmp key.items k.items) q then true else has_key old q)

module _ (old new : BTreeSet (Vec ℕ)) (key : Vec ℕ) (grows : Grows old new key) where
  pub grown_same : (q : Vec ℕ) → q.items ≡ key.items → has_key new q ≡ true
  grown_same q same = grows q ∙ cond-true (by_bytes key q) true (has_key old q) (at_key key q same)

  pub grown_other : (q : Vec ℕ) → q.items ≢ key.items → has_key new q ≡ has_key old q
  grown_other q other = grows q ∙ cond-false (by_bytes key q) true (has_key old q) (not_at_key key q other)

  pub set_more : (x : Name) (names more : NameMap) → key.items ≡ x → AddsName x names more → KnowsSet old names → KnowsSet new more
  set_more x names more is adds knows q = elim (names_apart q.items x) [
    | inl same ↦ grown_same q (same ∙ sym is) ∙ sym (ap (λ (y : Name). is_some (more y)) same ∙ adds.here)
    | inr other ↦ grown_other q (λ same. other (same ∙ is)) ∙ knows q ∙ sym (ap is_some (adds.others q.items other))
  ]

is_none : (o : Option ℕ) → is_some o ≡ false → o ≡ None
is_none None is = refl
is_none (Some n) is = absurd (false≢true (sym is))

pub set_new : (set : BTreeSet (Vec ℕ)) (key : Vec ℕ) (x : Name) (names : NameMap) → key.items ≡ x → has_key set key ≡ false → KnowsSet set names → names x ≡ None
set_new set key x names is new knows = is_none (names x) (sym (ap (λ (y : Name). is_some (names y)) is) ∙ sym (knows key) ∙ new)

pub was_new : (b c : Bool) → b ≡ not c → b ≡ true → c ≡ false
was_new b true is new = absurd (false≢true (sym is ∙ new))
was_new b false is new = refl

pub both_ways : (b c : Bool) → (b ≡ true → c ≡ true) → (c ≡ true → b ≡ true) → b ≡ c
both_ways true c to back = sym (to refl)
both_ways false true to back = back refl
both_ways false false to back = refl

none_from : (o : Option ℕ) → (is_some o ≡ true → ⊥) → o ≡ None
none_from None not = refl
none_from (Some n) not = absurd (not refl)

-- a name more that the last one is less than
pub rising_more : (old new : Rising) (x : Name) (names more : NameMap) → IsLess (drop old.last old.text.items) x → ((y : Name) → HasRisen new y ↔ ((y ≡ x) ⊎ HasRisen old y))
    → AddsName x names more → KnowsRisen old names → (names x ≡ None) × KnowsRisen new more
rising_more old new x names more less has adds knows = (
  none_from (names x) (λ some.
      let there = knows.has x some in
      let s = there.1 in
      let at = get_or_from_slice_get old.spans.items there.0 s s there.2 in
      old.rising there.0 s (slice_get_within old.spans.items there.0 s there.2)
      (subst (λ (v : Span). IsLess (drop old.last old.text.items) (name_in old.text.items v)) (sym at) (subst (IsLess (drop old.last old.text.items)) (sym there.3) less))),
  record {
    has = λ y some. elim (names_apart y x) [
      | inl same ↦ (has y).1 (inl same)
      | inr other ↦ (has y).1 (inr (knows.has y (ap is_some (sym (adds.others y other)) ∙ some)))
    ];
    had = λ y risen. elim (names_apart y x) [
      | inl same ↦ ap (λ (z : Name). is_some (more z)) same ∙ adds.here
      | inr other ↦ elim ((has y).0 risen) [
        | inl same ↦ absurd (other same)
        | inr before ↦ ap is_some (adds.others y other) ∙ knows.had y before
      ]
    ];
  },
)

-- an entry more of a directory is a name more of it
pub edge_adds : (d n : ℕ) (x : Name) (e : Entries) → AddsName x (e d) (with_edge d x (Some n) e d)
edge_adds d n x e = record {
  here = ap is_some (edge_here d x (Some n) e);
  others = λ y other. edge_other d d x y (Some n) e (λ _. other);
}
