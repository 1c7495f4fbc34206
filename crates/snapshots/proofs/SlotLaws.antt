-- What the slots of a root have, pointer by pointer.
use Rattle.std.proofs.Common.{◌≡◌, inl, inr, ℕ, zero, suc, ◌<◌, ◌≤◌, List, length, true, false, not, Some, refl, ap, sym, subst, ◌∙◌, arith, bytes_eq}
use Rattle.std.specs.Prelude.{◌≢◌, slice_index_or}
use Rattle.std.proofs.lemmas.Bool.{cases_Bool, cases_lt, false≢true}
use Rattle.std.proofs.lemmas.Slice.Eq.{bytes_eq-Decides}
use Rattle.std.proofs.lemmas.List.{get_or_past}
use Rattle.layout.specs.Places.{Blocks, pointed}
use Rattle.layout.specs.SnapRoot.{Snapshot, snapshot_bytes, snapshot_in}
use Rattle.layout.specs.declared.trees.Layout.{Layout}
use Rattle.layout.specs.declared.pointer.Pointer.{Pointer}
use Rattle.layout.specs.declared.pointer.Pointer.TheVariants.{Hole, Block}
use Rattle.layout.specs.declared.root.Root.{Root}
use Rattle.layout.proofs.PointerLaws.{hole_block}
use Rattle.model.proofs.OptionLaws.{some_same}
use Rattle.images.specs.Roots.{slot, whole}
use Rattle.images.specs.Snapshots.{HasSnapshot}
use Rattle.snapshots.specs.Found.{SpellsSnapshot}

pub has : (disk : Blocks) (r : Root) (k : ℕ) (p : Pointer) (s : Snapshot) → slot r k ≡ p → SpellsSnapshot r.geometry.layout disk p s → HasSnapshot r (whole disk r) k s
unfolding whole
has disk r k Hole s is spells = absurd spells
has disk r k (Block b) s is spells = record { block = b; there = is; read = ap (λ x. snapshot_in r.geometry.layout (pointed disk x)) is ∙ spells }

pub spells : (disk : Blocks) (r : Root) (k : ℕ) (s : Snapshot) → HasSnapshot r (whole disk r) k s → SpellsSnapshot r.geometry.layout disk (slot r k) s
unfolding whole
spells disk r k s has = subst (λ p. SpellsSnapshot r.geometry.layout disk p s) (sym has.there) (ap (λ x. snapshot_in r.geometry.layout (pointed disk x)) (sym has.there) ∙ has.read)

-- a slot that isn't free is one of the root's
pub in_slot : (r : Root) (k block : ℕ) → slot r k ≡ Block block → (j : ℕ) × (k ≡ suc j) × (j < length r.snapshots)
in_slot r zero block is = absurd (hole_block is)
in_slot r (suc j) block is = elim (cases_lt j (length r.snapshots)) [
  | inl lt ↦ (j, refl, lt)
  | inr past ↦ absurd (hole_block (sym (get_or_past r.snapshots j Hole past) ∙ is))
]

-- no slot has the name, where none of the pointers' blocks does
pub none_has : (disk : Blocks) (r : Root) (name : List ℕ) (n k : ℕ) (s : Snapshot) → length r.snapshots ≤ n
    → ((j : ℕ) (q : Snapshot) → j < n → SpellsSnapshot r.geometry.layout disk (slice_index_or r.snapshots j Hole) q → q.name ≢ name)
    → HasSnapshot r (whole disk r) k s → s.name ≢ name
none_has disk r name n k s all none has =
    let at = in_slot r k has.block has.there in
    none at.0 s (omega (arith, all, at.2)) (subst (λ i. SpellsSnapshot r.geometry.layout disk (slot r i) s) at.1 (spells disk r k s has))

-- one slot has one snapshot
pub one_snapshot : (disk : Blocks) (r : Root) (k : ℕ) (s q : Snapshot) → HasSnapshot r (whole disk r) k s → HasSnapshot r (whole disk r) k q → s ≡ q
one_snapshot disk r k s q first second = some_same (sym first.read ∙ second.read)

-- a block that spells a snapshot spells no other
pub one_spelled : (layout : Layout) (bytes : List ℕ) (v s : Snapshot) → snapshot_in layout bytes ≡ Some v → snapshot_in layout bytes ≡ Some s → s ≡ v
one_spelled layout bytes v s is other = some_same (sym other ∙ is)

pub is_spelled : (layout : Layout) (block bytes : List ℕ) (v : Snapshot) → bytes ≡ block → bytes ≡ snapshot_bytes v → snapshot_in layout (snapshot_bytes v) ≡ Some v
    → snapshot_in layout block ≡ Some v
is_spelled layout block bytes v there spelled reads = ap (snapshot_in layout) (sym there ∙ spelled) ∙ reads

pub other_name : (a b : List ℕ) → not (bytes_eq a b) ≡ true → a ≡ b → ⊥
other_name a b other same = let told : bytes_eq a b ≡ true = (bytes_eq-Decides a b).1 same in false≢true (sym (ap not told) ∙ other)

pub same_name : (a b : List ℕ) → not (bytes_eq a b) ≡ false → a ≡ b
same_name a b is = elim (cases_Bool (bytes_eq a b)) [
  | inl same ↦ (bytes_eq-Decides a b).0 same
  | inr other ↦ absurd (false≢true (sym is ∙ ap not other))
]
