-- The blocks that stand at some nodes.
use Rattle.std.proofs.Common.{◌≡◌, ◌⊎◌, ◌↔◌, inl, inr, ℕ, ◌+◌, ◌<◌, ◌≤◌, List, [], length, Contains, sym, ◌∙◌, ap, arith}
use Rattle.std.specs.Prelude.{max}
use Rattle.std.proofs.lemmas.Bool.{cases_eq, cases_lt}
use Rattle.layout.specs.declared.pointer.Pointer.{Pointer}
use Rattle.layout.specs.declared.pointer.Pointer.TheVariants.{Block}
use Rattle.layout.proofs.PointerLaws.{hole_block}
use Rattle.blocktree.specs.PlaceMaps.{EndBefore, place_at}
use Rattle.blocktree.specs.declared.place_map.PlaceMap.{PlaceMap}
use Rattle.placement.specs.declared.nodes.Nodes.{Nodes}
use Rattle.placement.specs.Nodes.{HasLeft, HasLeftIn, HasMoved, height_of, node}
use Rattle.placement.proofs.PlacedLaws.{node_height}

pub left_none : (start b : ℕ) (from : PlaceMap) (to : ℕ → Pointer) (A : Type 0) → A ↔ (A ⊎ HasLeftIn start start from to b)
left_none start b from to A = (λ a. inl a, λ either. elim either [ inl a ↦ a | inr left ↦ absurd (omega (arith, left.1, left.2)) ])

-- one more, behind some of which none has left
pub left_more : (start n i b : ℕ) (p : Pointer) (from : PlaceMap) (to : ℕ → Pointer) (A B C : Type 0) → start ≤ n → n ≤ i
    → ((k : ℕ) → n ≤ k → k < i → place_at from k ≡ Block b → to k ≡ Block b) → place_at from i ≡ p
    → B ↔ (A ⊎ HasLeftIn start n from to b) → C ↔ (B ⊎ ((p ≡ Block b) × (to i ≡ Block b → ⊥))) → C ↔ (A ⊎ HasLeftIn start (i + 1) from to b)
left_more start n i b p from to A B C low le gap there first second = (forth, back)
  where
    one : B → A ⊎ HasLeftIn start (i + 1) from to b
    one has = elim (first.0 has) [ inl a ↦ inl a | inr left ↦ inr (left.0, left.1, omega (arith, left.2, le), left.3, left.4) ]

    forth : C → A ⊎ HasLeftIn start (i + 1) from to b
    forth has = elim (second.0 has) [
      | inl was ↦ one was
      | inr left ↦ inr (i, omega (arith, low, le), omega arith, there ∙ left.0, left.1)
    ]

    late : HasLeftIn start (i + 1) from to b → C
    late left = elim (cases_lt left.0 n) [
      | inl below ↦ second.1 (inl (first.1 (inr (left.0, left.1, below, left.3, left.4))))
      | inr more ↦ elim (cases_eq left.0 i) [
        | inl e ↦ second.1 (inr (sym there ∙ ap (place_at from) (sym e) ∙ left.3, λ is. left.4 (ap to e ∙ is)))
        | inr other ↦ absurd (left.4 (gap left.0 more (omega (arith, left.2, other)) left.3))
      ]
    ]

    back : A ⊎ HasLeftIn start (i + 1) from to b → C
    back (inl a) = second.1 (inl (first.1 (inl a)))
    back (inr left) = late left

-- none has left behind these
pub left_all : (start n end b : ℕ) (from : PlaceMap) (to : ℕ → Pointer) (A B : Type 0) → n ≤ max start end
    → ((k : ℕ) → n ≤ k → k < end → place_at from k ≡ Block b → to k ≡ Block b) → B ↔ (A ⊎ HasLeftIn start n from to b) → B ↔ (A ⊎ HasLeftIn start end from to b)
left_all start n end b from to A B high gap first = (forth, back)
  where
    forth : B → A ⊎ HasLeftIn start end from to b
    forth has = elim (first.0 has) [ inl a ↦ inl a | inr left ↦ inr (left.0, left.1, omega (arith, left.1, left.2, high), left.3, left.4) ]

    late : HasLeftIn start end from to b → B
    late left = elim (cases_lt left.0 n) [
      | inl below ↦ first.1 (inr (left.0, left.1, below, left.3, left.4))
      | inr more ↦ absurd (left.4 (gap left.0 more left.2 left.3))
    ]

    back : A ⊎ HasLeftIn start end from to b → B
    back (inl a) = first.1 (inl a)
    back (inr left) = late left

-- of a height that ends there
pub left_whole : (count b : ℕ) (from : PlaceMap) (to : ℕ → Pointer) (A B : Type 0) → EndBefore count from → B ↔ (A ⊎ HasLeftIn 0 count from to b) → B ↔ (A ⊎ HasLeft from to b)
left_whole count b from to A B past is = (forth, back)
  where
    forth : B → A ⊎ HasLeft from to b
    forth has = elim (is.0 has) [ inl a ↦ inl a | inr left ↦ inr (left.0, left.3, left.4) ]

    back : A ⊎ HasLeft from to b → B
    back (inl a) = is.1 (inl a)
    back (inr left) = elim (cases_lt left.0 count) [
      | inl below ↦ is.1 (inr (left.0, omega arith, below, left.1, left.2))
      | inr more ↦ hole_block (sym (past left.0 more) ∙ left.1)
    ]

-- two ranges, one behind the other
pub left_join : (mid end past b : ℕ) (from : PlaceMap) (to : ℕ → Pointer) (A B C : Type 0) → past ≡ max mid end → B ↔ (A ⊎ HasLeftIn 0 mid from to b) → C ↔ (B ⊎ HasLeftIn mid end from to b)
    → C ↔ (A ⊎ HasLeftIn 0 past from to b)
left_join mid end past b from to A B C is first second = (forth, back)
  where
    forth : C → A ⊎ HasLeftIn 0 past from to b
    forth has = elim (second.0 has) [
      | inl was ↦ elim (first.0 was) [ inl a ↦ inl a | inr left ↦ inr (left.0, left.1, omega (arith, left.2, is), left.3, left.4) ]
      | inr left ↦ inr (left.0, omega arith, omega (arith, left.2, is), left.3, left.4)
    ]

    back : A ⊎ HasLeftIn 0 past from to b → C
    back (inl a) = second.1 (inl (first.1 (inl a)))
    back (inr left) = elim (cases_lt left.0 mid) [
      | inl low ↦ second.1 (inl (first.1 (inr (left.0, left.1, low, left.3, left.4))))
      | inr more ↦ second.1 (inr (left.0, more, omega (arith, left.2, is, more), left.3, left.4))
    ]

-- a block stands at a node of one of the first heights, and not at the same of the others
abbrev pub HasMovedBelow : ℕ → Nodes → Nodes → ℕ → Type 0
HasMovedBelow n from to b = (m : ℕ) × (i : ℕ) × (m < n) × (node from m i ≡ Block b) × (node to m i ≡ Block b → ⊥)

pub moved_none : (xs : List ℕ) (b : ℕ) (from to : Nodes) → xs ≡ [] → Contains xs b ↔ HasMovedBelow 0 from to b
moved_none xs b from to empty =
    let none : length xs ≡ 0 = ap (λ (ys : List ℕ). length ys) empty in
    (λ has. absurd (omega (arith, has.1, none)), λ moved. absurd (omega (arith, moved.2)))

pub moved_more : (n b : ℕ) (from to : Nodes) (p : PlaceMap) (B C : Type 0) → ((i : ℕ) → place_at p i ≡ node from n i) → B ↔ HasMovedBelow n from to b → C ↔ (B ⊎ HasLeft p (node to n) b) → C ↔ HasMovedBelow (n + 1) from to b
moved_more n b from to p B C is first second = (forth, back)
  where
    forth : C → HasMovedBelow (n + 1) from to b
    forth has = elim (second.0 has) [
      | inl was ↦ (let moved = first.0 was in (moved.0, moved.1, omega (arith, moved.2), moved.3, moved.4))
      | inr left ↦ (n, left.0, omega arith, sym (is left.0) ∙ left.1, left.2)
    ]

    back : HasMovedBelow (n + 1) from to b → C
    back moved = elim (cases_eq moved.0 n) [
      | inl e ↦ second.1 (inr (moved.1, is moved.1 ∙ ap (λ (m : ℕ). node from m moved.1) (sym e) ∙ moved.3, λ there. moved.4 (ap (λ (m : ℕ). node to m moved.1) e ∙ there)))
      | inr other ↦ second.1 (inl (first.1 (moved.0, moved.1, omega (arith, moved.2, other), moved.3, moved.4)))
    ]

pub moved_all : (n b : ℕ) (from to : Nodes) (B : Type 0) → height_of from ≤ n → B ↔ HasMovedBelow n from to b → B ↔ HasMoved from to b
moved_all n b from to B all first = (
  λ has. (let moved = first.0 has in (moved.0, moved.1, moved.3, moved.4)),
  λ moved. first.1 (moved.0, moved.1, omega (arith, all, node_height from moved.0 moved.1 b moved.2), moved.2, moved.3),
)
