-- The names of a directory that were seen.
use Rattle.std.specs.Prelude.{ℕ, ◌≡◌, ◌≢◌, slice_get, Option, Some, None, is_some, true}
use Rattle.std.specs.BTreeSet.{BTreeSet, contains}
use Rattle.std.specs.Cmp.Lexicographic.{slice_cmp}
use Rattle.std.specs.Global.{Vec}
use Rattle.std.specs.Ordering.{nat_cmp}
use Rattle.layout.specs.DirectoryNames.{NameMap}
use Rattle.model.specs.Paths.{Name}
use Rattle.checker.specs.Spans.{name_in}
use Rattle.checker.specs.declared.seen.Rising.{Rising}
use Rattle.checker.specs.declared.seen.Seen.{Seen}
use Rattle.checker.specs.declared.seen.Span.{Span}

-- a name is one of those that rise
abbrev pub HasRisen : Rising → Name → Type 0
HasRisen r x = (k : ℕ) × (s : Span) × (slice_get r.spans.items k ≡ Some s) × (name_in r.text.items s ≡ x)

-- they are the names that have a number
pub record KnowsRisen (r : Rising) (names : NameMap) : Type 0 where
  pub has : (x : Name) → is_some (names x) ≡ true → HasRisen r x
  pub had : (x : Name) → HasRisen r x → is_some (names x) ≡ true

abbrev pub KnowsSet : BTreeSet (Vec ℕ) → NameMap → Type 0
KnowsSet set names = (key : Vec ℕ) → contains (λ x y. slice_cmp nat_cmp x.items y.items) set key ≡ is_some (names key.items)

abbrev pub KnowsBy : Rising → Option (BTreeSet (Vec ℕ)) → NameMap → Type 0
KnowsBy r None names = KnowsRisen r names
KnowsBy r (Some set) names = KnowsSet set names

abbrev pub KnowsSeen : Seen → NameMap → Type 0
KnowsSeen s names = KnowsBy s.rising s.set names

-- a name more has a number
pub record AddsName (x : Name) (old new : NameMap) : Type 0 where
  pub here : is_some (new x) ≡ true
  pub others : (y : Name) → y ≢ x → new y ≡ old y
