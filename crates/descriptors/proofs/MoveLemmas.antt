-- Descriptors with one offset moved.
use Rattle.std.proofs.Common.{◌≡◌, ◌⊎◌, ◌≤◌, ◌||◌, ◌==◌, inl, inr, ℕ, zero, suc, Bool, true, Option, Some, None, refl, sym, ap, subst, ◌∙◌}
use Rattle.std.proofs.lemmas.Bool.{cases_eq, cond-true, cond-false, eq-eqb, ne_eqb}
use Rattle.std.specs.Option.{option_map}
use Rattle.model.specs.Trees.{Description}
use Rattle.model.specs.Volumes.{IsMounted, Volume, is_file_node, is_numbered, is_open, swept_node}
use Rattle.model.specs.declared.limits.TheConstants.{GREATEST_OFFSET, OPEN_FILES}
use Rattle.model.proofs.OptionLaws.{some_same}
use Rattle.descriptors.specs.Files.{description_of}
use Rattle.descriptors.specs.Tables.{at_place, moved_to}
use Rattle.descriptors.specs.declared.open_file.OpenFile.{OpenFile}

moved_number : (place n : ℕ) (o : Option Description) → is_numbered (option_map (at_place place) o) n ≡ is_numbered o n
moved_number place n None = refl
moved_number place n (Some f) = refl

from_moved : (place : ℕ) (o : Option Description) (f : Description) → option_map (at_place place) o ≡ Some f → (g : Description) × (o ≡ Some g) × (at_place place g ≡ f)
from_moved place None f e = cc
from_moved place (Some g) f e = (g, refl, some_same e)

module _ (table : ℕ → Option Description) (fd place : ℕ) where
  abbrev moved : ℕ → Option Description
  moved = moved_to fd place table

  at_each : (d : ℕ) → (moved d ≡ option_map (at_place place) (table d)) ⊎ (moved d ≡ table d)
  at_each d = elim (cases_eq d fd) [
    | inl same ↦ inl (cond-true (d == fd) (option_map (at_place place) (table fd)) (table d) (eq-eqb d fd same) ∙ ap (λ (k : ℕ). option_map (at_place place) (table k)) (sym same))
    | inr other ↦ inr (cond-false (d == fd) (option_map (at_place place) (table fd)) (table d) (ne_eqb d fd other))
  ]

  same_number : (d n : ℕ) → is_numbered (moved d) n ≡ is_numbered (table d) n
  same_number d n = elim (at_each d) [
    | inl is ↦ ap (λ (o : Option Description). is_numbered o n) is ∙ moved_number place n (table d)
    | inr is ↦ ap (λ (o : Option Description). is_numbered o n) is
  ]

  same_open : (count n : ℕ) → is_open moved count n ≡ is_open table count n
  same_open zero n = refl
  same_open (suc d) n = ap (λ (b : Bool). b || is_open moved d n) (same_number d n) ∙ ap (λ (b : Bool). is_numbered (table d) n || b) (same_open d n)

  pub mounted_moved : (v : Volume) → place ≤ GREATEST_OFFSET → IsMounted v table → IsMounted v moved
  mounted_moved v within mounted = record {
    files = λ d f e.
        elim (at_each d) [
          | inl is ↦
              let from = from_moved place (table d) f (sym is ∙ e) in
              subst (λ (k : Description). is_file_node (v k.number) ≡ true) from.2 (mounted.files d from.0 from.1)
          | inr is ↦ mounted.files d f (sym is ∙ e)
        ];
    is_swept = λ n. ap (λ (b : Bool). swept_node b (v n)) (same_open OPEN_FILES n) ∙ mounted.is_swept n;
    bounded = λ d past.
        elim (at_each d) [
          | inl is ↦ is ∙ ap (option_map (at_place place)) (mounted.bounded d past)
          | inr is ↦ is ∙ mounted.bounded d past
        ];
    offsets = λ d f e.
        elim (at_each d) [
          | inl is ↦
              let from = from_moved place (table d) f (sym is ∙ e) in
              subst (λ (k : Description). k.offset ≤ GREATEST_OFFSET) from.2 within
          | inr is ↦ mounted.offsets d f (sym is ∙ e)
        ];
  }

-- ---- a table with one offset moved

pub place_described : (place : ℕ) (o : Option OpenFile) → option_map description_of (option_map (λ (f : OpenFile). record f { offset = place }) o) ≡ option_map (at_place place) (option_map description_of o)
place_described place None = refl
place_described place (Some f) = refl
