-- One more node is named, and the nodes above.
use Rattle.std.proofs.Common.{◌≡◌, ◌↔◌, ◌⊎◌, inl, inr, ℕ, zero, suc, ◌+◌, ◌-◌, ◌*◌, ◌<◌, List, sym, ◌∙◌, ap, subst, arith}
use Rattle.std.proofs.Common.{◌^◌, ◌≤◌}
use Rattle.std.specs.Int.{div_ceil}
use native.Mathlib.Nat.{pow-suc}
use Rattle.std.proofs.lemmas.Bool.{cases_lt, cases_eq}
use Rattle.layout.specs.Trees.{fan_out}
use Rattle.layout.specs.declared.trees.Layout.{Layout}
use Rattle.layout.specs.declared.pointer.Pointer.{Pointer}
use Rattle.layout.specs.declared.pointer.Pointer.TheVariants.{Block}
use Rattle.blocktree.specs.Names.{IsNodePlace, IsNamed}
use Rattle.blocktree.specs.Places.{place, IsPath}
use Rattle.blocktree.specs.PlaceMaps.{place_at, StandsBelow}
use Rattle.blocktree.specs.declared.place_map.PlaceMap.{PlaceMap}
use Rattle.layout.proofs.FanLaws.{fewer, first_of, group_low}
use Rattle.layout.proofs.PointerLaws.{block_same, hole_block}
use Rattle.blocktree.proofs.PlaceLaws.{path_above}
use Rattle.blocktree.proofs.WalkLaws.{Gap}

-- one of the first nodes lies at a place: one more, behind some that are holes
pub stands_more : (places : PlaceMap) (from i place p : ℕ) (A B C : Type 0) → from ≤ i → Gap places from i → place_at places i ≡ Block place
    → B ↔ (A ⊎ StandsBelow places from p) → C ↔ (B ⊎ (place ≡ p)) → C ↔ (A ⊎ StandsBelow places (i + 1) p)
stands_more places from i place p A B C le gap there first second = (forth, back)
  where
    one : B → A ⊎ StandsBelow places (i + 1) p
    one b = elim (first.0 b) [ inl a ↦ inl a | inr n ↦ inr (n.0, omega (arith, n.1, le), n.2) ]

    forth : C → A ⊎ StandsBelow places (i + 1) p
    forth c = elim (second.0 c) [ inl b ↦ one b | inr e ↦ inr (i, omega arith, there ∙ ap Block e) ]

    late : StandsBelow places (i + 1) p → C
    late n = elim (cases_lt n.0 from) [
      | inl below ↦ second.1 (inl (first.1 (inr (n.0, below, n.2))))
      | inr more ↦ elim (cases_eq n.0 i) [
        | inl last ↦ second.1 (inr (block_same place p (sym there ∙ ap (place_at places) (sym last) ∙ n.2)))
        | inr other ↦ hole_block (sym (gap n.0 more (omega (arith, n.1, other))) ∙ n.2)
      ]
    ]

    back : A ⊎ StandsBelow places (i + 1) p → C
    back (inl a) = second.1 (inl (first.1 (inl a)))
    back (inr n) = late n

-- behind the last one there is none
pub stands_all : (places : PlaceMap) (from count p : ℕ) (A B : Type 0) → from ≤ count → Gap places from count → B ↔ (A ⊎ StandsBelow places from p) → B ↔ (A ⊎ StandsBelow places count p)
stands_all places from count p A B le gap is = (forth, back)
  where
    forth : B → A ⊎ StandsBelow places count p
    forth b = elim (is.0 b) [ inl a ↦ inl a | inr n ↦ inr (n.0, omega (arith, n.1, le), n.2) ]

    late : StandsBelow places count p → B
    late n = elim (cases_lt n.0 from) [
      | inl below ↦ is.1 (inr (n.0, below, n.2))
      | inr more ↦ hole_block (sym (gap n.0 more n.1) ∙ n.2)
    ]

    back : A ⊎ StandsBelow places count p → B
    back (inl a) = is.1 (inl a)
    back (inr n) = late n

-- the same of nodes at a depth
pub level_named : (l : Layout) (disk : ℕ → List ℕ) (pointers : List Pointer) (depth count p : ℕ) (places : PlaceMap) (A B : Type 0) → ((i : ℕ) → i < count → place_at places i ≡ place l disk pointers depth i)
    → B ↔ (A ⊎ StandsBelow places count p) → B ↔ (A ⊎ IsNodePlace l disk pointers depth count p)
level_named l disk pointers depth count p places A B same is = (forth, back)
  where
    forth : B → A ⊎ IsNodePlace l disk pointers depth count p
    forth b = elim (is.0 b) [ inl a ↦ inl a | inr n ↦ inr (n.0, n.1, sym (same n.0 n.1) ∙ n.2) ]

    back : A ⊎ IsNodePlace l disk pointers depth count p → B
    back (inl a) = is.1 (inl a)
    back (inr n) = is.1 (inr (n.0, n.1, same n.0 n.1 ∙ n.2))

pub named_last : (l : Layout) (disk : ℕ → List ℕ) (pointers : List Pointer) (depth count p : ℕ) (A B : Type 0) → depth ≡ 0 → B ↔ (A ⊎ IsNodePlace l disk pointers depth count p) → B ↔ (A ⊎ IsNamed l disk pointers depth count p)
unfolding IsNamed
named_last l disk pointers zero count p A B e first = first
named_last l disk pointers (suc depth) count p A B e first = absurd (omega arith)

pub named_more : (l : Layout) (disk : ℕ → List ℕ) (pointers : List Pointer) (depth count wide p : ℕ) (A B C : Type 0) → 0 < depth → wide ≡ div_ceil count (fan_out l) → B ↔ (A ⊎ IsNodePlace l disk pointers depth count p)
    → C ↔ (B ⊎ IsNamed l disk pointers (depth - 1) wide p) → C ↔ (A ⊎ IsNamed l disk pointers depth count p)
unfolding IsNamed
named_more l disk pointers zero count wide p A B C some w first second = absurd (omega arith)
named_more l disk pointers (suc depth) count wide p A B C some w first second = (forth, back)
  where
    above : IsNamed l disk pointers (suc depth - 1) wide p → IsNamed l disk pointers depth (div_ceil count (fan_out l)) p
    above n = let one : suc depth - 1 ≡ depth = omega arith in
        subst (λ (d : ℕ). IsNamed l disk pointers d (div_ceil count (fan_out l)) p) one (subst (λ (c : ℕ). IsNamed l disk pointers (suc depth - 1) c p) w n)

    below : IsNamed l disk pointers depth (div_ceil count (fan_out l)) p → IsNamed l disk pointers (suc depth - 1) wide p
    below n = let one : depth ≡ suc depth - 1 = omega arith in
        subst (λ (c : ℕ). IsNamed l disk pointers (suc depth - 1) c p) (sym w) (subst (λ (d : ℕ). IsNamed l disk pointers d (div_ceil count (fan_out l)) p) one n)

    one : B → A ⊎ (IsNodePlace l disk pointers (suc depth) count p ⊎ IsNamed l disk pointers depth (div_ceil count (fan_out l)) p)
    one b = elim (first.0 b) [ inl a ↦ inl a | inr n ↦ inr (inl n) ]

    forth : C → A ⊎ (IsNodePlace l disk pointers (suc depth) count p ⊎ IsNamed l disk pointers depth (div_ceil count (fan_out l)) p)
    forth c = elim (second.0 c) [ inl b ↦ one b | inr n ↦ inr (inr (above n)) ]

    back : A ⊎ (IsNodePlace l disk pointers (suc depth) count p ⊎ IsNamed l disk pointers depth (div_ceil count (fan_out l)) p) → C
    back (inl a) = second.1 (inl (first.1 (inl a)))
    back (inr (inl n)) = second.1 (inl (first.1 (inr n)))
    back (inr (inr n)) = second.1 (inr (below n))

-- where each node's way is in the grammar, so is that of each node above
pub paths_above : (l : Layout) (blocks n wide : ℕ) (disk : ℕ → List ℕ) (pointers : List Pointer) (depth count : ℕ) → n ≡ blocks → wide ≡ div_ceil count (fan_out l) → 0 < depth
    → ((i : ℕ) → i < count → IsPath l blocks disk pointers depth count i) → (j : ℕ) → j < wide → IsPath l n disk pointers (depth - 1) wide j
paths_above l blocks n wide disk pointers depth count same w some paths j lt =
    let first : fan_out l * j < count = group_low l count j (subst (λ (x : ℕ). j < x) w lt) in
    subst (λ (m : ℕ). IsPath l m disk pointers (depth - 1) wide j) (sym same)
    (path_above l blocks wide j disk pointers depth count (fan_out l * j) w (sym (first_of l j)) (λ e. absurd (omega arith)) (paths (fan_out l * j) first))

pub wide_above : (l : Layout) (depth count wide : ℕ) → 0 < depth → wide ≡ div_ceil count (fan_out l) → count ≤ 16 * fan_out l ^ depth → wide ≤ 16 * fan_out l ^ (depth - 1)
wide_above l zero count wide some w le = absurd (omega arith)
wide_above l (suc depth) count wide some w le =
    let one : depth ≡ suc depth - 1 = omega arith in
    subst (λ (d : ℕ). wide ≤ 16 * fan_out l ^ d) one (subst (λ (x : ℕ). x ≤ 16 * fan_out l ^ depth) (sym w) (fewer l (fan_out l ^ depth) count (power le)))
  where
    power : count ≤ 16 * fan_out l ^ suc depth → count ≤ 16 * (fan_out l * fan_out l ^ depth)
    power h = let e : fan_out l ^ suc depth ≡ fan_out l ^ depth * fan_out l = pow-suc (fan_out l) depth in omega arith
