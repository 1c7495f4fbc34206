-- Trees that have the same inode at a place.
use Rattle.std.proofs.Common.{◌≡◌, ◌∙◌, ℕ, ◌+◌, ◌<◌, ◌≤◌, List, [], length, bit_or, refl, ap, arith, sym, subst, inl, inr}
use Rattle.std.specs.Prelude.{◌⊎◌, ◌↔◌, Some, slice_get, slice_index_or}
use Rattle.std.proofs.lemmas.Bool.{cases_lt}
use Rattle.std.proofs.lemmas.Option.{slice_get_within}
use Rattle.images.specs.BlockMap.{HasBit}
use Rattle.images.specs.Roots.{inode_part}
use Rattle.checker.specs.Rows.{AreTwins}
use Rattle.checker.specs.Trees.{IsOut}
use Rattle.checker.specs.declared.tree.Tree.{Tree}
use Rattle.model.proofs.OptionLaws.{some_same}
use Rattle.checker.proofs.MarkLaws.{bits_or}

-- tree l is one of them, among those before place m
abbrev pub IsTwin : List Tree → List (List ℕ) → ℕ → ℕ → ℕ → ℕ → Type 0
IsTwin trees rows k place m plane =
    (l : ℕ) × (t : Tree) × (slice_get trees l ≡ Some t) × (t.plane ≡ plane)
    × ((l ≡ k) ⊎ ((k < l) × (l < m) × (IsOut t.fault → ⊥)
    × (inode_part (slice_index_or rows l []) place ≡ inode_part (slice_index_or rows k []) place)))

abbrev pub AreTwinsTo : List Tree → List (List ℕ) → ℕ → ℕ → ℕ → ℕ → Type 0
AreTwinsTo trees rows k place bits m = (plane : ℕ) → HasBit plane bits ↔ IsTwin trees rows k place m plane

module _ (trees : List Tree) (rows : List (List ℕ)) (k place : ℕ) where
  pub twins_start : (bits : ℕ) (t : Tree) → slice_get trees k ≡ Some t → ((p : ℕ) → HasBit p bits ↔ (p ≡ t.plane)) → AreTwinsTo trees rows k place bits (k + 1)
  twins_start bits t at bit p = (
    (λ has. (k, t, at, sym ((bit p).0 has), inl refl)),
    (λ twin. elim twin.4 [
      | inl itself ↦ (bit p).1 (sym (ap (λ (v : Tree). v.plane) (some_same (sym at ∙ ap (slice_get trees) (sym itself) ∙ twin.2)) ∙ twin.3))
      | inr later ↦ absurd (omega (arith, later.0, later.1))
    ]),
  )

  wider : (m p : ℕ) → IsTwin trees rows k place m p → IsTwin trees rows k place (m + 1) p
  wider m p twin = (
    twin.0,
    twin.1,
    twin.2,
    twin.3,
    elim twin.4 [
      | inl itself ↦ inl itself
      | inr later ↦ inr (later.0, omega (arith, later.1), later.2, later.3)
    ],
  )

  pub twins_more : (bits more l : ℕ) (t : Tree) → AreTwinsTo trees rows k place bits l → k < l → slice_get trees l ≡ Some t → (IsOut t.fault → ⊥)
      → inode_part (slice_index_or rows l []) place ≡ inode_part (slice_index_or rows k []) place → ((p : ℕ) → HasBit p more ↔ (HasBit p bits ⊎ (p ≡ t.plane)))
      → AreTwinsTo trees rows k place more (l + 1)
  twins_more bits more l t so low at inside same bit p = (
    (λ has. elim ((bit p).0 has) [
      | inl old ↦ wider l p ((so p).0 old)
      | inr here ↦ (l, t, at, sym here, inr (low, omega arith, inside, same))
    ]),
    (λ twin. elim twin.4 [
      | inl itself ↦ (bit p).1 (inl ((so p).1 (twin.0, twin.1, twin.2, twin.3, inl itself)))
      | inr later ↦ elim (cases_lt twin.0 l) [
        | inl less ↦ (bit p).1 (inl ((so p).1 (twin.0, twin.1, twin.2, twin.3, inr (later.0, less, later.2, later.3))))
        | inr high ↦
            let here : twin.0 ≡ l = omega (arith, later.1, high) in
            (bit p).1 (inr (sym (ap (λ (v : Tree). v.plane) (some_same (sym at ∙ ap (slice_get trees) (sym here) ∙ twin.2)) ∙ twin.3)))
      ]
    ]),
  )

  pub twins_skip : (bits l : ℕ) (t : Tree) → AreTwinsTo trees rows k place bits l → slice_get trees l ≡ Some t
      → ((IsOut t.fault → ⊥) → inode_part (slice_index_or rows l []) place ≡ inode_part (slice_index_or rows k []) place → ⊥) → AreTwinsTo trees rows k place bits (l + 1)
  twins_skip bits l t so at other p = (
    (λ has. wider l p ((so p).0 has)),
    (λ twin. elim twin.4 [
      | inl itself ↦ (so p).1 (twin.0, twin.1, twin.2, twin.3, inl itself)
      | inr later ↦ elim (cases_lt twin.0 l) [
        | inl less ↦ (so p).1 (twin.0, twin.1, twin.2, twin.3, inr (later.0, less, later.2, later.3))
        | inr high ↦
            let here : twin.0 ≡ l = omega (arith, later.1, high) in
            let tree : twin.1 ≡ t = some_same (sym twin.2 ∙ ap (slice_get trees) here ∙ at) in
            absurd (other (subst (λ (v : Tree). IsOut v.fault → ⊥) tree later.2)
            (ap (λ (m : ℕ). inode_part (slice_index_or rows m []) place) (sym here) ∙ later.3))
      ]
    ]),
  )

  pub twins_end : (bits m : ℕ) → AreTwinsTo trees rows k place bits m → length trees ≤ m → AreTwins trees rows k place bits
  twins_end bits m so all p = (
    (λ has. let twin = (so p).0 has in (
      twin.0,
      twin.1,
      twin.2,
      twin.3,
      elim twin.4 [
        | inl itself ↦ inl itself
        | inr later ↦ inr (later.0, later.2, later.3)
      ],
    )),
    (λ twin. (so p).1 (
      twin.0,
      twin.1,
      twin.2,
      twin.3,
      elim twin.4 [
        | inl itself ↦ inl itself
        | inr later ↦ inr (later.0, omega (arith, all, slice_get_within trees twin.0 twin.1 twin.2), later.1, later.2)
      ],
    )),
  )

-- the bits with that of a tree
pub one_more : (bits own plane : ℕ) → ((p : ℕ) → HasBit p own ↔ (p ≡ plane)) → (p : ℕ) → HasBit p (bit_or bits own) ↔ (HasBit p bits ⊎ (p ≡ plane))
one_more bits own plane alone p = (
  (λ has. elim ((bits_or p bits own).0 has) [
    | inl old ↦ inl old
    | inr here ↦ inr ((alone p).0 here)
  ]),
  (λ either. elim either [
    | inl old ↦ (bits_or p bits own).1 (inl old)
    | inr here ↦ (bits_or p bits own).1 (inr ((alone p).1 here))
  ]),
)
