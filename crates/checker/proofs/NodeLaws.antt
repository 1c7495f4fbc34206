-- What is known when some nodes of a file were looked at.
use Rattle.std.proofs.Common.{◌≡◌, ◌≢◌, ◌⊎◌, inl, inr, ℕ, zero, suc, ◌+◌, ◌-◌, ◌*◌, ◌/◌, ◌%◌, ◌^◌, ◌<◌, ◌≤◌, List, refl, sym, ap, subst, ◌∙◌, arith}
use Rattle.std.specs.Prelude.{slice_index_or, Option, Some, None}
use Rattle.std.proofs.lemmas.Bool.{cases_eq}
use Rattle.std.proofs.Math.Nat.{div-div-eq-div-mul, div-one, pow-suc, pow-succ', pow-zero}
use Rattle.layout.specs.Places.{Blocks, follow}
use Rattle.layout.specs.Trees.{fan_out}
use Rattle.layout.specs.declared.pointer.Pointer.TheVariants.{Block, Hole}
use Rattle.layout.specs.declared.trees.Layout.{Layout}
use Rattle.images.specs.BlockMap.{HasBit}
use Rattle.images.specs.Nodes.{Held}
use Rattle.checker.specs.Nodes.{AreIndirect, HasNodes, KeepsMarks, KeepsShared, LooksUnder, MarksFor, MarksNodes, SharesNone}
use Rattle.checker.specs.declared.nodes.Shared.{Shared}

-- WHAT TREES NAME TWICE

pub some_or_none : (p : Option Shared) → (p ≡ None) ⊎ ((s : Shared) × (p ≡ Some s))
some_or_none None = inl refl
some_or_none (Some s) = inr (s, refl)

pub some_none : {X : Type 0} (p : Option Shared) (s : Shared) → p ≡ None → p ≡ Some s → X
some_none p s none some = absurd (let e = sym none ∙ some in cc)

pub some_same : (p : Option Shared) (s t : Shared) → p ≡ Some s → p ≡ Some t → s ≡ t
some_same p s t one other = let e = sym one ∙ other in cc

-- what is none after a step was none before it
pub none_before : (before after : List (Option Shared)) (k : ℕ) → KeepsShared before after → SharesNone after k → SharesNone before k
none_before before after k kept none = elim (some_or_none (slice_index_or before k None)) [
  | inl is ↦ is
  | inr some ↦ some_none (slice_index_or after k None) some.0 none (kept k some.0 some.1)
]

-- a place of what trees name twice, where some of them name this block twice
pub record AddsAt (bits : ℕ) (shared : Shared) (k : ℕ) (old new : List (Option Shared)) : Type 0 where
  pub kept : (s : Shared) → slice_index_or old k None ≡ Some s → slice_index_or new k None ≡ Some s
  pub these : HasBit k bits → SharesNone old k → slice_index_or new k None ≡ Some shared
  pub others : (HasBit k bits → ⊥) → slice_index_or new k None ≡ slice_index_or old k None

-- one place more
pub adds_more : (bits k : ℕ) (s : Shared) (start old new : List (Option Shared)) → ((j : ℕ) → j < k → AddsAt bits s j start old)
    → ((j : ℕ) → k ≤ j → slice_index_or old j None ≡ slice_index_or start j None)
    → ((j : ℕ) → j ≢ k → slice_index_or new j None ≡ slice_index_or old j None) → AddsAt bits s k old new
    → ((j : ℕ) → j < k + 1 → AddsAt bits s j start new) × ((j : ℕ) → k + 1 ≤ j → slice_index_or new j None ≡ slice_index_or start j None)
adds_more bits k s start old new below above other now =
    let was : slice_index_or old k None ≡ slice_index_or start k None = above k (omega arith) in
    let here : AddsAt bits s k start new = record {
      kept = λ t is. now.kept t (was ∙ is);
      these = λ bit none. now.these bit (was ∙ none);
      others = λ without. now.others without ∙ was;
    } in (
      (λ j low. elim (cases_eq j k) [
        | inl same ↦ subst (λ (n : ℕ). AddsAt bits s n start new) (sym same) here
        | inr ne ↦
            let there = below j (omega (arith, low, ne)) in
            record {
              kept = λ t is. other j ne ∙ there.kept t is;
              these = λ bit none. other j ne ∙ there.these bit none;
              others = λ without. other j ne ∙ there.others without;
            }
      ]),
      (λ j le. let ne : j ≢ k = omega (arith, le) in other j ne ∙ above j (omega (arith, le))),
    )

pub adds_none : (bits k : ℕ) (s : Shared) (list : List (Option Shared)) → (HasBit k bits → ⊥) → AddsAt bits s k list list
adds_none bits k s list without = record { kept = λ t is. is; these = λ bit. absurd (without bit); others = λ _. refl }

pub adds_set : (bits k : ℕ) (s : Shared) (old new : List (Option Shared)) (v : Option Shared) → HasBit k bits → slice_index_or new k None ≡ v
    → ((t : Shared) → slice_index_or old k None ≡ Some t → v ≡ Some t) → (slice_index_or old k None ≡ None → v ≡ Some s) → AddsAt bits s k old new
adds_set bits k s old new v bit is keep add = record {
  kept = λ t was. is ∙ keep t was;
  these = λ _ none. is ∙ add none;
  others = λ without. absurd (without bit);
}

-- WHAT STAYS

pub keeps_more : {bits : ℕ} {a b c : List ℕ} {p q r : List (Option Shared)} → KeepsMarks bits a b p q → KeepsMarks bits b c q r → KeepsMarks bits a c p r
keeps_more first last = record {
  length_is = last.length_is ∙ first.length_is;
  others = λ k other. record {
    marks = λ b. (λ bit. ((first.others k other).marks b).0 (((last.others k other).marks b).0 bit), λ bit. ((last.others k other).marks b).1 (((first.others k other).marks b).1 bit));
    shared = (last.others k other).shared ∙ (first.others k other).shared;
  };
  kept = λ k s is. last.kept k s (first.kept k s is);
}

-- WHAT IS MARKED

-- no node of a block was looked at
pub looks_none : (h : Held) (S : ℕ → ℕ → Type 0) (k number : ℕ) (marks : List ℕ) (shared : List (Option Shared)) → ((m i b : ℕ) → S m i → h.place m i ≡ Block b → ⊥)
    → LooksUnder h S k number marks marks shared shared
looks_none h S k number marks shared none = record {
  marked = λ _. record {
    marks = λ b. (λ bit. inl bit, λ either. elim either [ inl bit ↦ bit | inr some ↦ absurd (none some.0 some.1 b some.2 some.3) ]);
    apart = λ m i b here is bit. none m i b here is;
    once = λ m i n j b here there is same. absurd (none m i b here is);
  };
  shared = λ before s after. some_none (slice_index_or shared k None) s before after;
}

-- Of two sets of nodes, that have none in common, first the nodes of one were looked at, and then those of the other.
module _ (h : Held) (S1 S2 S : ℕ → ℕ → Type 0)
    (split : (m i b : ℕ) → S m i → h.place m i ≡ Block b → S1 m i ⊎ S2 m i)
    (left : (m i : ℕ) → S1 m i → S m i)
    (right : (m i : ℕ) → S2 m i → S m i)
    (apart : (m i n j : ℕ) → S1 m i → S2 n j → (m ≡ n) × (i ≡ j) → ⊥) where
  marks_more : {k : ℕ} {old mid new : List ℕ} → MarksNodes h S1 k old mid → MarksNodes h S2 k mid new → MarksNodes h S k old new
  marks_more one two = record {
    marks = λ b. (
      (λ bit. elim ((two.marks b).0 bit) [
        | inl at ↦ elim ((one.marks b).0 at) [
          | inl was ↦ inl was
          | inr some ↦ inr (some.0, some.1, left some.0 some.1 some.2, some.3)
        ]
        | inr some ↦ inr (some.0, some.1, right some.0 some.1 some.2, some.3)
      ]),
      (λ either. elim either [
        | inl was ↦ (two.marks b).1 (inl ((one.marks b).1 (inl was)))
        | inr some ↦ elim (split some.0 some.1 b some.2 some.3) [
          | inl here ↦ (two.marks b).1 (inl ((one.marks b).1 (inr (some.0, some.1, here, some.3))))
          | inr here ↦ (two.marks b).1 (inr (some.0, some.1, here, some.3))
        ]
      ]),
    );
    apart = λ m i b here is bit. elim (split m i b here is) [
      | inl a ↦ one.apart m i b a is bit
      | inr a ↦ two.apart m i b a is ((one.marks b).1 (inl bit))
    ];
    once = λ m i n j b here there is same. elim (split m i b here is) [
      | inl a ↦ elim (split n j b there same) [
        | inl c ↦ one.once m i n j b a c is same
        | inr c ↦ absurd (two.apart n j b c same ((one.marks b).1 (inr (m, i, a, is))))
      ]
      | inr a ↦ elim (split n j b there same) [
        | inl c ↦ absurd (two.apart m i b a is ((one.marks b).1 (inr (n, j, c, same))))
        | inr c ↦ two.once m i n j b a c is same
      ]
    ];
  }

  pub looks_more : {k number : ℕ} {old mid new : List ℕ} {before middle after : List (Option Shared)} → KeepsShared middle after
      → LooksUnder h S1 k number old mid before middle → LooksUnder h S2 k number mid new middle after → LooksUnder h S k number old new before after
  looks_more {k = k} {middle = middle} {after = after} kept one two = record {
    marked = λ none. marks_more (one.marked (none_before middle after k kept none)) (two.marked none);
    shared = λ before s is. elim (some_or_none (slice_index_or middle k None)) [
      | inr some ↦
          let same : some.0 ≡ s = some_same (slice_index_or after k None) some.0 s (kept k some.0 some.1) is in
          let told = one.shared before s (some.1 ∙ ap Some same) in (
            told.0,
            left s.second.height s.second.index told.1,
            told.2,
            elim told.3 [
              | inl bit ↦ inl bit
              | inr other ↦ inr (other.0, other.1, left other.0 other.1 other.2, other.3, other.4)
            ],
          )
      | inl none ↦
          let told = two.shared none s is in (
            told.0,
            right s.second.height s.second.index told.1,
            told.2,
            elim told.3 [
              | inl bit ↦ elim (((one.marked none).marks s.block).0 bit) [
                | inl was ↦ inl was
                | inr other ↦ inr (other.0, other.1, left other.0 other.1 other.2, other.3, apart other.0 other.1 s.second.height s.second.index other.2 told.1)
              ]
              | inr other ↦ inr (other.0, other.1, right other.0 other.1 other.2, other.3, other.4)
            ],
          )
    ];
  }

  pub these_more : (layout : Layout) (blocks number count bits : ℕ) (disk : Blocks) (old mid new : List ℕ) (before middle after : List (Option Shared)) → KeepsShared middle after
      → MarksFor h S1 number bits old mid before middle × AreIndirect layout blocks disk h count S1
      → MarksFor h S2 number bits mid new middle after × AreIndirect layout blocks disk h count S2
      → MarksFor h S number bits old new before after × AreIndirect layout blocks disk h count S
  these_more layout blocks number count bits disk old mid new before middle after kept one two = (
    (λ k bit. looks_more kept (one.0 k bit) (two.0 k bit)),
    (λ m i b here is. elim (split (suc m) i b here is) [
      | inl a ↦ one.1 m i b a is
      | inr a ↦ two.1 m i b a is
    ]),
  )

-- NODES UNDER NODES

-- the node over one, at the next height
pub one_up : (layout : Layout) (height m i : ℕ) → m ≤ height → i / fan_out layout ^ (suc height - m) ≡ i / fan_out layout ^ (height - m) / fan_out layout
one_up layout height m i le =
    let more : suc height - m ≡ suc (height - m) = omega arith in
    ap (λ n. i / fan_out layout ^ n) more ∙ ap (λ n. i / n) (pow-suc (fan_out layout) (height - m)) ∙ sym (div-div-eq-div-mul i (fan_out layout ^ (height - m)) (fan_out layout))

-- a node is under itself alone, of its height
pub itself : (layout : Layout) (height i : ℕ) → i / fan_out layout ^ (height - height) ≡ i
itself layout height i =
    let none : height - height ≡ 0 = omega arith in
    ap (λ n. i / fan_out layout ^ n) none ∙ ap (λ n. i / n) (pow-zero (fan_out layout)) ∙ div-one i

-- under a hole all is a hole
pub hole_under : (layout : Layout) (disk : Blocks) (h : Held) (height : ℕ) → HasNodes layout disk h height → (n m i : ℕ) → n + m ≡ height → h.place height (i / fan_out layout ^ n) ≡ Hole → h.place m i ≡ Hole
hole_under layout disk h height nodes zero m i at hole =
    let same : m ≡ height = omega (arith, at) in
    let none : i / fan_out layout ^ 0 ≡ i = ap (λ n. i / n) (pow-zero (fan_out layout)) ∙ div-one i in
    ap (λ n. h.place n i) same ∙ ap (h.place height) (sym none) ∙ hole
hole_under layout disk h height nodes (suc n) m i at hole =
    let here : n + suc m ≡ height = omega (arith, at) in
    let power : fan_out layout * fan_out layout ^ n ≡ fan_out layout ^ suc n = sym (pow-succ' (fan_out layout) n) in
    let over : i / fan_out layout / fan_out layout ^ n ≡ i / fan_out layout ^ suc n = div-div-eq-div-mul i (fan_out layout) (fan_out layout ^ n) ∙ ap (λ p. i / p) power in
    nodes m i (omega (arith, at))
    ∙ ap (λ p. follow disk p (i % fan_out layout)) (hole_under layout disk h height nodes n (suc m) (i / fan_out layout) here (ap (h.place height) over ∙ hole))
