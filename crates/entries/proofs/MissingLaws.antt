-- The first of the entries has a name, or is passed over; and a name that doesn't stand among them.
use Rattle.std.proofs.Common.{◌≡◌, ◌≢◌, List, [], ◌∷◌, Some, None, refl, sym, ap, ◌∙◌, true, false, bytes_eq}
use Rattle.std.proofs.lemmas.Bool.{cond-true, cond-false, false_from_ne_true, both_ways}
use Rattle.std.proofs.lemmas.Slice.Eq.{bytes_eq-Decides}
use Rattle.layout.specs.Directory.{Named}
use Rattle.layout.specs.DirectoryNames.{number_of}
use Rattle.model.specs.Paths.{Name}
use Rattle.model.proofs.OptionLaws.{none_some}
use Rattle.entries.specs.Entries.{without}

-- a name, and whether another is the same
module _ (a b : Name) where
  pub same_name : bytes_eq a b ≡ true → a ≡ b
  same_name = (bytes_eq-Decides a b).0

  pub other_name : (a ≢ b) → bytes_eq a b ≡ false
  other_name ne = false_from_ne_true (bytes_eq a b) (λ e. ne (same_name e))

  pub not_same : bytes_eq a b ≡ false → a ≢ b
  not_same differs e = both_ways (bytes_eq a b) differs ((bytes_eq-Decides a b).1 e)

-- the first of the entries has the name, or is passed over
pub number_of-here : (name : Name) (e : Named) (entries : List Named) → bytes_eq name e.name ≡ true → number_of name (e ∷ entries) ≡ Some e.number
number_of-here name e entries same = cond-true (bytes_eq name e.name) (Some e.number) (number_of name entries) same

pub number_of-behind : (name : Name) (e : Named) (entries : List Named) → bytes_eq name e.name ≡ false → number_of name (e ∷ entries) ≡ number_of name entries
number_of-behind name e entries other = cond-false (bytes_eq name e.name) (Some e.number) (number_of name entries) other

-- a name that doesn't stand among the entries
pub record IsMissing (name : Name) (e : Named) (entries : List Named) : Type 0 where
  pub apart : bytes_eq name e.name ≡ false
  pub behind : number_of name entries ≡ None

pub missing_parts : (name : Name) (e : Named) (entries : List Named) → number_of name (e ∷ entries) ≡ None → IsMissing name e entries
missing_parts name e entries none =
    let apart : bytes_eq name e.name ≡ false = false_from_ne_true (bytes_eq name e.name) (λ same. none_some (sym none ∙ number_of-here name e entries same)) in
    record { apart = apart; behind = sym (number_of-behind name e entries apart) ∙ none }

pub without-here : (name : Name) (e : Named) (entries : List Named) → bytes_eq name e.name ≡ true → without name (e ∷ entries) ≡ entries
without-here name e entries same = cond-true (bytes_eq name e.name) entries (e ∷ without name entries) same

pub without-behind : (name : Name) (e : Named) (entries : List Named) → bytes_eq name e.name ≡ false → without name (e ∷ entries) ≡ e ∷ without name entries
without-behind name e entries other = cond-false (bytes_eq name e.name) entries (e ∷ without name entries) other

pub without-missing : (name : Name) (entries : List Named) → number_of name entries ≡ None → without name entries ≡ entries
without-missing name [] none = refl
without-missing name (e ∷ entries) none =
    let m = missing_parts name e entries none in
    without-behind name e entries m.apart ∙ ap (λ (es : List Named). e ∷ es) (without-missing name entries m.behind)
