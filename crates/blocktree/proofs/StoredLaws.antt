-- Which blocks are stored, by what memory has of them and by their settled pointers.
use Rattle.std.proofs.Common.{◌≡◌, ◌<◌, ◌≤◌, ℕ, List, Bool, true, false, ◌&&◌, Option, Some, None, nat_lt, if◌then◌else◌, refl, arith}
use Rattle.std.specs.Prelude.{IfSome, IfNone, unwrap_or}
use Rattle.std.proofs.lemmas.Bool.{true≢false}
use Rattle.std.specs.Ordering.{nat_cmp}
use Rattle.std.specs.BTreeMap.{get}
use Rattle.layout.specs.Bytes.{zeros}
use Rattle.layout.specs.declared.pointer.Pointer.{Pointer}
use Rattle.layout.specs.declared.pointer.Pointer.TheVariants.{Hole, Block}
use Rattle.blocktree.specs.Places.{place, pointed}
use Rattle.blocktree.specs.Trees.{slot_bytes, settled_block, is_block, is_stored, is_stored_over, tree_block, AreHoles, AreSettledHoles, IsChanged}
use Rattle.blocktree.specs.declared.slot.Slot.{Slot}
use Rattle.blocktree.specs.declared.slot.Slot.TheVariants.{AsSettled, Changed}
use Rattle.blocktree.specs.declared.tree.BlockTree.{BlockTree}

pub hole_is_zeros : (disk : ℕ → List ℕ) (t : BlockTree) (i : ℕ) → is_stored disk t i ≡ false → tree_block disk t i ≡ zeros 4096
unfolding settled_block
hole_is_zeros disk t i hole = over (get nat_cmp t.slots i) hole
  where
    below : (kept : Bool) (p : Pointer) → kept && is_block p ≡ false → (if kept then pointed disk p else zeros 4096) ≡ zeros 4096
    below true Hole e = refl
    below true (Block b) e = absurd (true≢false e)
    below false p e = refl

    over : (s : Option Slot) → is_stored_over s (nat_lt i t.kept && is_block (place t.layout disk t.pointers t.depth i)) ≡ false → slot_bytes s (settled_block t.layout disk t.pointers t.depth t.kept i) ≡ zeros 4096
    over None e = below (nat_lt i t.kept) (place t.layout disk t.pointers t.depth i) e
    over (Some AsSettled) e = below (nat_lt i t.kept) (place t.layout disk t.pointers t.depth i) e
    over (Some (Changed block)) e = absurd (true≢false e)

module _ (disk : ℕ → List ℕ) (t : BlockTree) (from to : ℕ) where
  -- no block is stored before one up to which none is changed, and no settled one is stored
  pub holes_before : (settled : Option ℕ) (end : ℕ) → IfSome settled (AreSettledHoles disk t from) → IfNone settled (AreSettledHoles disk t from to) → end ≤ unwrap_or settled to
      → ((i : ℕ) → from ≤ i → i < end → IsChanged t i → ⊥) → AreHoles disk t from end
  holes_before None end some none le not i low high = none i low (omega (arith, high, le)) (not i low high)
  holes_before (Some n) end some none le not i low high = some i low (omega (arith, high, le)) (not i low high)

  -- where none is changed before the next settled one, that is the next one
  pub settled_next : (settled : Option ℕ) → IfSome settled (AreSettledHoles disk t from) → ((i : ℕ) → from ≤ i → i < unwrap_or settled to → IsChanged t i → ⊥) → IfSome settled (AreHoles disk t from)
  settled_next None some not = tt
  settled_next (Some n) some not = λ i low high. some i low high (not i low high)

  pub settled_none : (settled : Option ℕ) → IfNone settled (AreSettledHoles disk t from to) → ((i : ℕ) → from ≤ i → i < unwrap_or settled to → IsChanged t i → ⊥) → IfNone settled (AreHoles disk t from to)
  settled_none None none not = λ i low high. none i low high (not i low high)
  settled_none (Some n) none not = tt
