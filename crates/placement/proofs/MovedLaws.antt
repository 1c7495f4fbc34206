-- Which blocks a file takes and leaves, where its nodes were placed.
use Rattle.std.proofs.Common.{◌≡◌, ◌⊎◌, inl, inr, ℕ, ap, sym, ◌∙◌}
use Rattle.std.proofs.lemmas.Bool.{cases_eq}
use Rattle.layout.specs.declared.pointer.Pointer.{Pointer}
use Rattle.layout.specs.declared.pointer.Pointer.TheVariants.{Hole, Block}
use Rattle.layout.proofs.PointerLaws.{block_same, hole_block}
use Rattle.images.specs.Nodes.{Held, Names, IsOnce}
use Rattle.blockmap.specs.Maps.{IsFree}
use Rattle.conspoint.specs.declared.draft.Draft.{Draft}
use Rattle.conspoint.specs.Drafts.{WasTaken}
use Rattle.placement.specs.declared.nodes.Nodes.{Nodes}
use Rattle.placement.specs.Nodes.{node, AreNodesOf, HasMoved, ArePlacedOver}

is_at : (p : Pointer) (b : ℕ) → (p ≡ Block b) ⊎ (p ≡ Block b → ⊥)
is_at Hole b = inr (λ is. hole_block is)
is_at (Block a) b = elim (cases_eq a b) [
  | inl e ↦ inl (ap Block e)
  | inr other ↦ inr (λ is. other (block_same a b is))
]

-- what moved to a block was given it
pub moved_taken : (old new : Draft) (settled placed : Nodes) (b : ℕ) → ArePlacedOver old new settled placed → HasMoved placed settled b → WasTaken old new b
moved_taken old new settled placed b over moved =
    let at = moved in
    elim (over.from at.0 at.1 b at.2) [ inl same ↦ absurd (at.3 same) | inr taken ↦ taken ]

module _ (old new : Draft) (before after : Held) (settled placed : Nodes) (was : AreNodesOf settled before) (now : AreNodesOf placed after) (over : ArePlacedOver old new settled placed)
    (used : (b : ℕ) → Names before b → IsFree old.map.parts.items b → ⊥) (once : IsOnce before) where
  named_before : (m i b : ℕ) → node settled m i ≡ Block b → Names before b
  named_before m i b is = record { height = m; index = i; is = was.places m i ∙ is }

  named_after : (m i b : ℕ) → node placed m i ≡ Block b → Names after b
  named_after m i b is = record { height = m; index = i; is = now.places m i ∙ is }

  not_taken : (b : ℕ) → Names before b → WasTaken old new b → ⊥
  not_taken b names taken = used b names taken.free

  pub once_after : IsOnce after
  once_after m i k j b here there =
      let at = sym (now.places m i) ∙ here in
      let too = sym (now.places k j) ∙ there in
      elim (over.from m i b at) [
        | inl was_i ↦ elim (over.from k j b too) [
          | inl was_j ↦ once m i k j b (was.places m i ∙ was_i) (was.places k j ∙ was_j)
          | inr taken ↦ absurd (not_taken b (named_before m i b was_i) taken)
        ]
        | inr taken ↦ elim (over.apart m i k j b at too) [
          | inl either ↦ elim either [
            | inl same ↦ absurd (not_taken b (named_before m i b same) taken)
            | inr same ↦ absurd (not_taken b (named_before k j b same) taken)
          ]
          | inr same ↦ same
        ]
      ]

  -- a new node stands where it stood, or moved
  pub moves : (m i b : ℕ) → after.place m i ≡ Block b → (before.place m i ≡ Block b) ⊎ HasMoved placed settled b
  moves m i b is = elim (is_at (node settled m i) b) [
    | inl same ↦ inl (was.places m i ∙ same)
    | inr not ↦ inr (m, i, sym (now.places m i) ∙ is, not)
  ]

  pub named : (b : ℕ) → HasMoved placed settled b → Names after b
  named b moved = let at = moved in named_after at.0 at.1 b at.2

  still_at : (m i k j b : ℕ) → node settled m i ≡ Block b → node settled k j ≡ Block b → node placed k j ≡ Block b → node placed m i ≡ Block b
  still_at m i k j b is too there =
      let same = once m i k j b (was.places m i ∙ is) (was.places k j ∙ too) in
      ap (λ (x : ℕ). node placed x i) same.0 ∙ ap (λ (x : ℕ). node placed k x) same.1 ∙ there

  pub freed_are : (b : ℕ) → HasMoved settled placed b → Names before b × (Names after b → ⊥)
  freed_are b moved =
      let at = moved in
      let names = named_before at.0 at.1 b at.2 in (
        names,
        λ still. let there = sym (now.places still.height still.index) ∙ still.is in
            elim (over.from still.height still.index b there) [
              | inl same ↦ at.3 (still_at at.0 at.1 still.height still.index b at.2 same there)
              | inr taken ↦ not_taken b names taken
            ],
      )

  pub stays : (b : ℕ) → Names before b → Names after b ⊎ HasMoved settled placed b
  stays b names =
      let at = sym (was.places names.height names.index) ∙ names.is in
      elim (is_at (node placed names.height names.index) b) [
        | inl there ↦ inl (named_after names.height names.index b there)
        | inr not ↦ inr (names.height, names.index, at, not)
      ]
