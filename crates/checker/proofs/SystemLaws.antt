-- The bit of the system's own blocks, block by block.
use Rattle.std.proofs.Common.{◌≡◌, ◌≢◌, ◌⊎◌, ℕ, zero, suc, ◌+◌, ◌<◌, ◌≤◌, ◌∙◌, List, length, inl, inr, slice_index, refl, sym, subst, arith}
use Rattle.std.specs.Prelude.{◌↔◌, slice_index_or}
use Rattle.std.proofs.lemmas.Bool.{cases_eq, cases_lt}
use Rattle.std.proofs.lemmas.List.{get_or_past}
use Rattle.layout.specs.declared.pointer.Pointer.TheVariants.{Block, Hole}
use Rattle.layout.specs.declared.root.Root.{Root}
use Rattle.images.specs.BlockMap.{HasBit, IsSystem, head, roots}
use Rattle.images.specs.Roots.{slot}
use Rattle.checker.proofs.MarkLaws.{bit_alone}

-- one block is marked
pub record MarksOne (old new : List ℕ) (block bits : ℕ) : Type 0 where
  pub here : (k : ℕ) → HasBit k (slice_index new block) ↔ (HasBit k (slice_index old block) ⊎ HasBit k bits)
  pub others : (b : ℕ) → b ≢ block → slice_index new b ≡ slice_index old b

-- the two blocks of the roots, and those of the first so many slots
pub data IsSystemTo (r : Root) (n b : ℕ) : Type 0 where
  of_roots : (is : b < 2) → IsSystemTo r n b
  of_slot : (k : ℕ) → (below : k < n) → (is : slot r (suc k) ≡ Block b) → IsSystemTo r n b

-- those of P have a bit beside those that had it
abbrev pub HaveBit : ℕ → List ℕ → List ℕ → (ℕ → Type 0) → Type 0
HaveBit k old new P = (b : ℕ) → HasBit k (slice_index new b) ↔ (HasBit k (slice_index old b) ⊎ P b)

pub bit_more : (k : ℕ) (first old new : List ℕ) (block bits : ℕ) (P Q : ℕ → Type 0) → HaveBit k first old P → MarksOne old new block bits → HasBit k bits
    → ((b : ℕ) → P b → Q b) → Q block → ((b : ℕ) → b ≢ block → Q b → P b) → HaveBit k first new Q
bit_more k first old new block bits P Q before one set more is less b = elim (cases_eq b block) [
  | inl same ↦ subst (λ (n : ℕ). HasBit k (slice_index new n) ↔ (HasBit k (slice_index first n) ⊎ Q n)) (sym same)
      ((λ _. inr is), (λ _. (one.here k).1 (inr set)))
  | inr other ↦ subst (λ (n : ℕ). HasBit k n ↔ (HasBit k (slice_index first b) ⊎ Q b)) (sym (one.others b other)) (
    (λ bit. elim ((before b).0 bit) [ inl had ↦ inl had | inr p ↦ inr (more b p) ]),
    (λ either. elim either [ inl had ↦ (before b).1 (inl had) | inr q ↦ (before b).1 (inr (less b other q)) ]),
  )
]

pub bit_stays : (k : ℕ) (first old new : List ℕ) (block bits : ℕ) → ((b : ℕ) → HasBit k (slice_index old b) ↔ HasBit k (slice_index first b)) → MarksOne old new block bits
    → (HasBit k bits → ⊥) → (b : ℕ) → HasBit k (slice_index new b) ↔ HasBit k (slice_index first b)
bit_stays k first old new block bits before one unset b = elim (cases_eq b block) [
  | inl same ↦ subst (λ (n : ℕ). HasBit k (slice_index new n) ↔ HasBit k (slice_index first n)) (sym same) (
    (λ bit. elim ((one.here k).0 bit) [ inl had ↦ (before block).0 had | inr is ↦ absurd (unset is) ]),
    (λ had. (one.here k).1 (inl ((before block).1 had))),
  )
  | inr other ↦ subst (λ (n : ℕ). HasBit k n ↔ HasBit k (slice_index first b)) (sym (one.others b other)) (before b)
]

system_bit : HasBit 31 2147483648
system_bit = (bit_alone 31 31 (omega arith)).1 refl

system_only : (k : ℕ) → k ≢ 31 → HasBit k 2147483648 → ⊥
system_only k other bit = other ((bit_alone 31 k (omega arith)).0 bit)

-- so far the system's bit was set for the blocks of P, and no other bit changed
pub record MarksSystem (first new : List ℕ) (P : ℕ → Type 0) : Type 0 where
  pub size : length new ≡ length first
  pub system : HaveBit 31 first new P
  pub others : (k b : ℕ) → k ≢ 31 → HasBit k (slice_index new b) ↔ HasBit k (slice_index first b)

pub system_none : (marks : List ℕ) → MarksSystem marks marks (λ _. ⊥)
system_none marks = record {
  size = refl;
  system = λ b. ((λ is. inl is), (λ either. elim either [ inl is ↦ is | inr never ↦ absurd never ]));
  others = λ k b other. ((λ is. is), (λ is. is));
}

pub system_more : (first old new : List ℕ) (block : ℕ) (P Q : ℕ → Type 0) → MarksSystem first old P → length new ≡ length old → MarksOne old new block 2147483648
    → ((b : ℕ) → P b → Q b) → Q block → ((b : ℕ) → b ≢ block → Q b → P b) → MarksSystem first new Q
system_more first old new block P Q before long one more is less = record {
  size = long ∙ before.size;
  system = bit_more 31 first old new block 2147483648 P Q before.system one system_bit more is less;
  others = λ k b other. bit_stays k first old new block 2147483648 (λ x. before.others k x other) one (system_only k other) b;
}

pub system_same : (first new : List ℕ) (P Q : ℕ → Type 0) → MarksSystem first new P → ((b : ℕ) → P b → Q b) → ((b : ℕ) → Q b → P b) → MarksSystem first new Q
system_same first new P Q before more less = record {
  size = before.size;
  system = λ b. (
    (λ bit. elim ((before.system b).0 bit) [ inl had ↦ inl had | inr p ↦ inr (more b p) ]),
    (λ either. (before.system b).1 (elim either [ inl had ↦ inl had | inr q ↦ inr (less b q) ])),
  );
  others = before.others;
}

-- ---- the blocks of the roots, and those of slots

pub roots_alone : (r : Root) (b low high : ℕ) → low ≡ 0 → high ≡ 1 → b ≢ high → IsSystemTo r 0 b → b ≡ low
roots_alone r b low high first second other (of_roots is) = omega (arith, first, second, other, is)
roots_alone r b low high first second other (of_slot k below is) = absurd (omega (arith, below))

pub slot_more : (r : Root) (n b : ℕ) → IsSystemTo r n b → IsSystemTo r (n + 1) b
slot_more r n b (of_roots is) = of_roots is
slot_more r n b (of_slot k below is) = of_slot k (omega (arith, below)) is

pub slot_before : (r : Root) (n b : ℕ) → (slot r (suc n) ≡ Block b → ⊥) → IsSystemTo r (n + 1) b → IsSystemTo r n b
slot_before r n b other (of_roots is) = of_roots is
slot_before r n b other (of_slot k below is) = elim (cases_lt k n) [
  | inl lt ↦ of_slot k lt is
  | inr ge ↦ (let at : k ≡ n = omega (arith, below, ge) in absurd (other (subst (λ (m : ℕ). slot r (suc m) ≡ Block b) at is)))
]

pub slots_all : (r : Root) (n b : ℕ) → length r.snapshots ≤ n → IsSystemTo r n b ↔ IsSystem r b
slots_all r n b most = (to, from) where
  to : IsSystemTo r n b → IsSystem r b
  to (of_roots is) = roots is
  to (of_slot k below is) = head (suc k) is

  from : IsSystem r b → IsSystemTo r n b
  from (roots is) = of_roots is
  from (head zero is) = cc
  from (head (suc k) is) = elim (cases_lt k (length r.snapshots)) [
    | inl lt ↦ of_slot k (omega (arith, lt, most)) is
    | inr ge ↦ (let none : slice_index_or r.snapshots k Hole ≡ Hole = get_or_past r.snapshots k Hole ge in cc)
  ]
