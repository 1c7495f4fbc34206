-- A changed block is as it is in memory, whatever stands below.
use Rattle.std.proofs.Common.{◌≡◌, ℕ, List, [], Option, Some, None, sym, refl}
use Rattle.std.specs.Ordering.{nat_cmp}
use Rattle.std.specs.BTreeMap as tree
use Rattle.blocktree.specs.declared.tree.BlockTree.{BlockTree}
use Rattle.blocktree.specs.declared.slot.Slot.{Slot}
use Rattle.blocktree.specs.declared.slot.Slot.TheVariants.{AsSettled, Changed}
use Rattle.blocktree.specs.Trees.{slot_bytes, tree_block, settled_block, IsChanged, IsChangedSlot}
use Rattle.conspoint.specs.Blocks.{changed_or}

changed_slot : (s : Option Slot) (other b below : List ℕ) → slot_bytes s other ≡ b → IsChangedSlot s → b ≡ slot_bytes s below
changed_slot (Some (Changed block)) other b below is changed = sym is
changed_slot (Some AsSettled) other b below is changed = absurd changed
changed_slot None other b below is changed = absurd changed

pub changed_block : (t : BlockTree) (i : ℕ) (b below : List ℕ) → ((disk : ℕ → List ℕ) → tree_block disk t i ≡ b) → IsChanged t i → b ≡ changed_or t i below
changed_block t i b below is changed = changed_slot (tree.get nat_cmp t.slots i) (settled_block t.layout (λ n. []) t.pointers t.depth t.kept i) b below (is (λ n. [])) changed

unchanged_slot : (s : Option Slot) (below : List ℕ) → (IsChangedSlot s → ⊥) → below ≡ slot_bytes s below
unchanged_slot (Some (Changed block)) below not = absurd (not tt)
unchanged_slot (Some AsSettled) below not = refl
unchanged_slot None below not = refl

pub unchanged_block : (t : BlockTree) (i : ℕ) (below : List ℕ) → (IsChanged t i → ⊥) → below ≡ changed_or t i below
unchanged_block t i below not = unchanged_slot (tree.get nat_cmp t.slots i) below not
