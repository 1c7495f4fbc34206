-- What a change of the slots does to a file's blocks.
use Rattle.std.proofs.Common.{◌≡◌, inl, inr, ℕ, ◌<◌, ◌≤◌, ◌⊎◌, List, refl, Bool, true, false, Some, None, Option, arith, if◌then◌else◌, nat_lt, ltb, min}
use Rattle.std.proofs.lemmas.Grind.{common_steps}
use Rattle.std.proofs.lemmas.Bool.{cases_lt}
use Rattle.std.proofs.lemmas.Bool.Decides.{nat_tests}
use Rattle.std.proofs.lemmas.Map.Entries.{lookup-filter-keys}
use Rattle.std.specs.List.{filter}
use Rattle.std.specs.Ordering.{nat_cmp}
use Rattle.std.specs.BTreeMap.{BTreeMap, get, is_at, ContainsKey}
use Rattle.layout.specs.Bytes.{zeros}
use Rattle.layout.specs.declared.pointer.Pointer.{Pointer}
use Rattle.layout.specs.declared.trees.Layout.{Layout}
use Rattle.blocktree.specs.Places.{pointed, place}
use Rattle.blocktree.specs.Trees.{AreTrimmed, slot_bytes, slot_stores, settled_block, IsChangedSlot}
use Rattle.blocktree.specs.declared.slot.Slot.{Slot}
use Rattle.blocktree.specs.declared.slot.Slot.TheVariants.{AsSettled, Changed}

pub one_at_most : (s : Option Slot) → slot_stores s ≤ 1
one_at_most None = omega arith
one_at_most (Some AsSettled) = omega arith
one_at_most (Some (Changed block)) = omega arith

pub slot_is : (s : Option Slot) → (slot_stores s ≡ 0) ⊎ IsChangedSlot s
slot_is None = inl refl
slot_is (Some AsSettled) = inl refl
slot_is (Some (Changed block)) = inr tt

pub changed_slot : (s : Option Slot) → IsChangedSlot s → slot_stores s ≡ 1
changed_slot None changed = absurd changed
changed_slot (Some AsSettled) changed = absurd changed
changed_slot (Some (Changed block)) changed = refl

below_true : (i n : ℕ) → i < n → ltb i n ≡ true
below_true i n lt = grind (arith, nat_tests)

below_false : (i n : ℕ) → n ≤ i → ltb i n ≡ false
below_false i n le = grind (arith, nat_tests)

-- a settled block past those that count
pub settled_past : (l : Layout) (disk : ℕ → List ℕ) (pointers : List Pointer) (depth kept i : ℕ) → kept ≤ i → settled_block l disk pointers depth kept i ≡ zeros 4096
unfolding settled_block
settled_past l disk pointers depth kept i past = rw (below_false i kept past) refl

-- a settled block that counts
pub settled_within : (l : Layout) (disk : ℕ → List ℕ) (pointers : List Pointer) (depth kept i : ℕ) (p : Pointer) → i < kept → p ≡ place l disk pointers depth i → settled_block l disk pointers depth kept i ≡ pointed disk p
unfolding settled_block
settled_within l disk pointers depth kept i p within is = rw (below_true i kept within, is) refl

pub trimmed_slot : (m n : BTreeMap ℕ Slot) (count : ℕ) → n.entries ≡ filter (λ e. nat_lt e.0 count) m.entries → (j : ℕ) → get nat_cmp n j ≡ (if nat_lt j count then get nat_cmp m j else None)
trimmed_slot m n count e j =
    rw e (lookup-filter-keys (is_at (nat_cmp j)) (λ (k : ℕ). nat_lt k count) (nat_lt j count) (λ k at. found_key j k at) m.entries)
  where
    found_key : (j k : ℕ) → is_at (nat_cmp j) k ≡ true → nat_lt k count ≡ nat_lt j count
    found_key j k at = grind (arith, common_steps, nat_tests)

-- the blocks below `count` stay, the others are gone
pub trimmed_block : (l : Layout) (disk : ℕ → List ℕ) (pointers : List Pointer) (depth kept new_kept count : ℕ) (m n : BTreeMap ℕ Slot) → AreTrimmed count m n → new_kept ≡ min kept count → (j : ℕ)
    → slot_bytes (get nat_cmp n j) (settled_block l disk pointers depth new_kept j) ≡ (if nat_lt j count then slot_bytes (get nat_cmp m j) (settled_block l disk pointers depth kept j) else zeros 4096)
unfolding settled_block
trimmed_block l disk pointers depth kept new_kept count m n e k j = rw (e j, k) (each (ltb j count) refl)
  where
    narrow : (b : Bool) → ltb j count ≡ b → ltb j (min kept count) ≡ (if b then ltb j kept else false)
    narrow b e = grind (arith, nat_tests)

    each : (b : Bool) → ltb j count ≡ b → slot_bytes (if b then get nat_cmp m j else None) (if ltb j (min kept count) then pointed disk (place l disk pointers depth j) else zeros 4096) ≡ (if b then slot_bytes (get nat_cmp m j) (if ltb j kept then pointed disk (place l disk pointers depth j) else zeros 4096) else zeros 4096)
    each true e = rw (narrow true e) refl
    each false e = rw (narrow false e) refl

pub trimmed_room : (m n : BTreeMap ℕ Slot) (count : ℕ) → AreTrimmed count m n → (j : ℕ) → j < count → ContainsKey nat_cmp m j → ContainsKey nat_cmp n j
trimmed_room m n count e j lt had = rw (e j, below_true j count lt) had

pub trimmed_changed : (m n : BTreeMap ℕ Slot) (count : ℕ) → AreTrimmed count m n → (j : ℕ) → j < count → IsChangedSlot (get nat_cmp m j) → IsChangedSlot (get nat_cmp n j)
trimmed_changed m n count e j lt had = rw (e j, below_true j count lt) had

-- of the changed blocks none is new
pub trimmed_only : (m n : BTreeMap ℕ Slot) (count : ℕ) → AreTrimmed count m n → (j : ℕ) → IsChangedSlot (get nat_cmp n j) → IsChangedSlot (get nat_cmp m j)
trimmed_only m n count e j had = among (nat_lt j count) (rw (e j) at had)
  where
    among : (b : Bool) → IsChangedSlot (if b then get nat_cmp m j else None) → IsChangedSlot (get nat_cmp m j)
    among true had = had
    among false had = absurd had

-- none is changed past its new end
pub trimmed_below : (m n : BTreeMap ℕ Slot) (count : ℕ) → AreTrimmed count m n → (j : ℕ) → IsChangedSlot (get nat_cmp n j) → j < count
trimmed_below m n count e j had = elim (cases_lt j count) [
  | inl lt ↦ lt
  | inr ge ↦
      let no : nat_lt j count ≡ false = grind (arith, nat_tests, ge) in
      absurd (rw (e j, no) at had)
]
