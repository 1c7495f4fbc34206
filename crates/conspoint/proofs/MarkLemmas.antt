-- One block more is marked.
use Rattle.std.proofs.Common.{◌≡◌, ◌≢◌, inl, inr, ℕ, ◌+◌, Bool, List, ap, sym, subst, ◌∙◌, arith}
use Rattle.std.specs.Prelude.{slice_index, if◌then◌else◌}
use Rattle.std.specs.Int.{bit_at}
use Rattle.std.proofs.lemmas.Bool.{cases_eq}
use Rattle.blockmap.specs.Bits.{SetsBit}
use Rattle.blockmap.specs.Parts.{Part}
use Rattle.blockmap.specs.Maps.{entry_at, OnlyChanges}
use Rattle.layout.specs.declared.pointer.Pointer.{Pointer}
use Rattle.layout.specs.declared.pointer.Pointer.TheVariants.{Hole, Block}
use Rattle.conspoint.specs.Groups.{pointer_at}
use Rattle.conspoint.specs.MapFiles.{IsOfMoved}
use Rattle.conspoint.specs.Marks.{AreMarked, Marking}
use Rattle.conspoint.specs.Marks.Marking.{marks, stays}

module _ (blocks : List ℕ) (n x : ℕ) (is_in : Bool) (old mid new : List Part) (at : x ≡ slice_index blocks n) (so_far : AreMarked blocks n is_in old mid)
    (bit : SetsBit 0 is_in (entry_at mid x) (entry_at new x)) (stay : OnlyChanges x mid new) where
  -- x itself
  here : (b : ℕ) → b ≡ x → bit_at (entry_at new b) 0 ≡ (if is_in then 1 else 0)
  here b is = ap (λ c. bit_at (entry_at new c) 0) is ∙ bit.there

  pub marks_more : AreMarked blocks (n + 1) is_in old new
  marks_more = record {
    marked = λ b among. elim (cases_eq b x) [
      | inl is ↦ here b is
      | inr other ↦ elim (cases_eq among.0 n) [
        | inl last ↦ absurd (other (sym among.2 ∙ ap (slice_index blocks) last ∙ sym at))
        | inr before ↦ ap (λ e. bit_at e 0) (stay b other) ∙ so_far.marked b (among.0, omega (arith, among.1), among.2)
      ]
    ];
    stay = λ b not.
        let other : b ≢ x = λ is. not (n, omega arith, sym at ∙ sym is) in
        stay b other ∙ so_far.stay b (λ among. not (among.0, omega (arith, among.1), among.2));
    others = λ b i differ. elim (cases_eq b x) [
      | inl is ↦
          let step : bit_at (entry_at new b) i ≡ bit_at (entry_at mid b) i = ap (λ c. bit_at (entry_at new c) i) is ∙ bit.others i differ ∙ ap (λ c. bit_at (entry_at mid c) i) (sym is) in
          step ∙ so_far.others b i differ
      | inr other ↦ ap (λ e. bit_at e i) (stay b other) ∙ so_far.others b i differ
    ];
  }

-- ---- the blocks at nodes that moved

module _ (nodes places : List Pointer) (k b : ℕ) (is_in : Bool) (old mid new : List Part) (node place : Pointer) (node_is : node ≡ pointer_at nodes k) (place_is : place ≡ pointer_at places k) where
  -- the one more is node k
  last : (place ≢ Hole) × (node ≡ Block b) → IsOfMoved nodes places (k + 1) b
  last is = (k, omega arith, (λ none. is.0 (place_is ∙ none)), sym node_is ∙ is.1)

  wider : IsOfMoved nodes places k b → IsOfMoved nodes places (k + 1) b
  wider among = (among.0, (let lt = among.1 in omega arith), among.2, among.3)

  neither : (IsOfMoved nodes places k b → ⊥) → ((place ≢ Hole) × (node ≡ Block b) → ⊥) → IsOfMoved nodes places (k + 1) b → ⊥
  neither not not_last among = elim (cases_eq among.0 k) [
    | inl is ↦ not_last ((λ none. among.2 (ap (pointer_at places) is ∙ sym place_is ∙ none)), node_is ∙ ap (pointer_at nodes) (sym is) ∙ among.3)
    | inr other ↦ (let lt = among.1 in not (among.0, omega arith, among.2, among.3))
  ]

  pub marking_more : Marking (IsOfMoved nodes places k) is_in old mid b → Marking (λ x. (place ≢ Hole) × (node ≡ Block x)) is_in mid new b → Marking (IsOfMoved nodes places (k + 1)) is_in old new b
  marking_more (marks is bit) (marks now set) = marks (last now) (record { there = set.there; others = λ i differ. set.others i differ ∙ bit.others i differ })
  marking_more (marks is bit) (stays not same) = marks (wider is) (subst (SetsBit 0 is_in (entry_at old b)) (sym same) bit)
  marking_more (stays not same) (marks now set) = marks (last now) (subst (λ x. SetsBit 0 is_in x (entry_at new b)) same set)
  marking_more (stays not same) (stays none still) = stays (neither not none) (still ∙ same)
