-- One node more of the map gets a place.
use Rattle.std.proofs.Common.{◌≡◌, ◌≢◌, inl, inr, ℕ, ◌/◌, ◌<◌, ◌≤◌, List, length, ap, sym, subst, ◌∙◌, arith}
use Rattle.std.specs.Prelude.{slice_set}
use Rattle.std.proofs.lemmas.Bool.{cases_eq}
use Rattle.std.proofs.lemmas.List.{get_or-set_same, get_or-set_other}
use Rattle.layout.specs.Pointer.{pointer_number}
use Rattle.layout.specs.declared.pointer.Pointer.{Pointer}
use Rattle.layout.specs.declared.pointer.Pointer.TheVariants.{Hole, Block}
use Rattle.conspoint.specs.declared.draft.Draft.{Draft}
use Rattle.conspoint.specs.Drafts.{Grows, IsReserved, WasTaken}
use Rattle.conspoint.specs.Groups.{pointer_at}
use Rattle.conspoint.specs.Closures.{IsInTouchedPart, IsClosedOver}
use Rattle.conspoint.proofs.DraftLemmas.{taken_later, taken_earlier}

module _ (d e : Draft) (settled places : List Pointer) (k p : ℕ) (grows : Grows d e) (keeps : (x : ℕ) → IsReserved d x → IsReserved e x) (so_far : IsClosedOver d settled places)
    (within : k < length places) (fresh : d.map.next ≤ p) (here : IsReserved e p) (room : IsInTouchedPart e p) (before : (b : ℕ) → pointer_at settled k ≡ Block b → IsInTouchedPart e b) where
  at : (i : ℕ) → i ≡ k → pointer_at (slice_set places k (Block p)) i ≡ Block p
  at i is = ap (pointer_at (slice_set places k (Block p))) is ∙ get_or-set_same places k (Block p) Hole within

  off : (i : ℕ) → i ≢ k → pointer_at (slice_set places k (Block p)) i ≡ pointer_at places i
  off i other = get_or-set_other places k i (Block p) Hole other

  number : (i b : ℕ) → i ≡ k → pointer_at (slice_set places k (Block p)) i ≡ Block b → p ≡ b
  number i b same is = ap pointer_number (sym (at i same) ∙ is)

  clash : (i b : ℕ) → p ≡ b → pointer_at places i ≡ Block b → ⊥
  clash i b same is = let low = (so_far.reserved i b is).below in omega arith

  pub closed_more : IsClosedOver e settled (slice_set places k (Block p))
  closed_more = record {
    reserved = λ i b is. elim (cases_eq i k) [
      | inl same ↦ subst (IsReserved e) (number i b same is) here
      | inr other ↦ keeps b (so_far.reserved i b (sym (off i other) ∙ is))
    ];
    new = λ i b is. elim (cases_eq i k) [
      | inl same ↦ subst (IsInTouchedPart e) (number i b same is) room
      | inr other ↦ grows.settled.touched (b / 1024) (so_far.new i b (sym (off i other) ∙ is))
    ];
    old = λ i x b is was. elim (cases_eq i k) [
      | inl same ↦ before b (ap (pointer_at settled) (sym same) ∙ was)
      | inr other ↦ grows.settled.touched (b / 1024) (so_far.old i x b (sym (off i other) ∙ is) was)
    ];
    apart = λ i j b is_i is_j. elim (cases_eq i k) [
      | inl same ↦ elim (cases_eq j k) [
        | inl too ↦ same ∙ sym too
        | inr other ↦ absurd (clash j b (number i b same is_i) (sym (off j other) ∙ is_j))
      ]
      | inr other ↦ elim (cases_eq j k) [
        | inl same ↦ absurd (clash i b (number j b same is_j) (sym (off i other) ∙ is_i))
        | inr other_too ↦ so_far.apart i j b (sym (off i other) ∙ is_i) (sym (off j other_too) ∙ is_j)
      ]
    ];
  }

-- its place was given out since the first draft, as those before it
pub taken_more : (a b c : Draft) (places : List Pointer) (k p : ℕ) → Grows a b → Grows b c → ((i x : ℕ) → pointer_at places i ≡ Block x → WasTaken a b x)
    → k < length places → WasTaken b c p → (i x : ℕ) → pointer_at (slice_set places k (Block p)) i ≡ Block x → WasTaken a c x
taken_more a b c places k p before now so_far within taken i x is = elim (cases_eq i k) [
  | inl same ↦
      let at : p ≡ x = ap pointer_number (sym (ap (pointer_at (slice_set places k (Block p))) same ∙ get_or-set_same places k (Block p) Hole within) ∙ is) in
      subst (WasTaken a c) at (taken_earlier a b c p before taken)
  | inr other ↦ taken_later a b c x (so_far i x (sym (get_or-set_other places k i (Block p) Hole other) ∙ is)) now
]
