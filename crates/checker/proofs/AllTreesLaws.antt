-- All trees of a root, looked at to their ends.
use Rattle.std.proofs.Common.{◌≡◌, ◌⊎◌, ◌∙◌, ◌<◌, ◌≤◌, ℕ, zero, suc, List, Some, None, length, refl, sym, subst, inl, inr, arith}
use Rattle.std.specs.Prelude.{◌≢◌, ◌↔◌, slice_get, slice_index}
use Rattle.std.proofs.lemmas.List.{get_or_past}
use Rattle.layout.specs.Limits.{Sizes}
use Rattle.layout.specs.Places.{Blocks}
use Rattle.layout.specs.declared.pointer.Pointer.{Pointer}
use Rattle.layout.specs.declared.pointer.Pointer.TheVariants.{Block, Hole}
use Rattle.layout.specs.declared.root.Root.{Root}
use Rattle.layout.specs.declared.version.TheConstants.{SNAPSHOT_SLOTS}
use Rattle.images.specs.BlockMap.{HasBit, IsSystem}
use Rattle.images.specs.Faults.{IsFaultless}
use Rattle.images.specs.Roots.{Reach, slot, whole}
use Rattle.images.specs.Soundness.{IsWithin}
use Rattle.images.proofs.PointLaws.{frozen_drops}
use Rattle.checker.specs.Findings.{HasTree, ShouldHave, tree_in}
use Rattle.checker.specs.Rows.{PlaneAt}
use Rattle.checker.specs.Trees.{AreTrees, HasEnded, IsApart, IsOut, IsRootOf, IsTreeAt}
use Rattle.checker.specs.declared.tree.Tree.{Tree}
use Rattle.checker.proofs.EachLaws.{contained, contains}
use Rattle.checker.proofs.RowLaws.{first_plane, known_at}
use Rattle.checker.proofs.WholeLaws.{out_number}

-- a slot is a hole, or it has a tree
has_or_not : (r : Root) (k : ℕ) → HasTree r k ⊎ ((slot r k ≡ Hole) × (1 ≤ k))
has_or_not r zero = inl tt
has_or_not r (suc k) = at (slot r (suc k)) refl
  where
    at : (p : Pointer) → slot r (suc k) ≡ p → HasTree r (suc k) ⊎ ((slot r (suc k) ≡ Hole) × (1 ≤ suc k))
    at Hole is = inr (is, omega arith)
    at (Block block) is = inl (block, is)

no_tree : (r : Root) (k : ℕ) → slot r k ≡ Hole → 1 ≤ k → HasTree r k → ⊥
no_tree r zero hole some has = omega (arith, some)
no_tree r (suc k) hole some has = let none : Hole ≡ Block has.0 = sym hole ∙ has.1 in cc

no_tree_past : (r : Root) (k : ℕ) → length r.snapshots ≡ SNAPSHOT_SLOTS → SNAPSHOT_SLOTS < k → HasTree r k → ⊥
no_tree_past r zero count past has = omega (arith, past)
no_tree_past r (suc k) count past has = let none : Hole ≡ Block has.0 = sym (get_or_past r.snapshots k Hole (omega (arith, count, past))) ∙ has.1 in cc

-- a plane that no tree has isn't marked
pub stays_clean : (r : Root) (trees : List Tree) (NumberTable : Tree → Type 0) (before after : List ℕ) → AreTrees r trees NumberTable → ((t : Tree) → NumberTable t → HasTree r t.plane)
    → ((k : ℕ) → ((i : ℕ) → PlaneAt trees i k → ⊥) → (b : ℕ) → HasBit k (slice_index after b) ↔ HasBit k (slice_index before b))
    → ((k b : ℕ) → (HasTree r k → ⊥) → HasBit k (slice_index before b) → ⊥) → (k b : ℕ) → (HasTree r k → ⊥) → HasBit k (slice_index after b) → ⊥
stays_clean r trees NumberTable before after are has stays clean k b none bit =
    clean k b none ((stays k (λ i at. none (subst (HasTree r) at.2 (has at.0 (are.each at.0 (contains trees i at.0 at.1))))) b).0 bit)

module _ (disk : Blocks) (r : Root) (marks : List ℕ) (trees : List Tree) (are : AreTrees r trees (HasEnded disk r marks)) where
  -- the first is the newest root's; without a fault, where none is told of it
  pub newest_faultless : (q : Tree) → slice_get trees 0 ≡ Some q → q.fault ≡ None → IsFaultless r.geometry (whole disk r).active × IsWithin r.version (whole disk r).active
  newest_faultless q is none =
      let known = known_at r trees (HasEnded disk r marks) 0 q are is in
      subst (λ (n : ℕ). IsFaultless r.geometry (tree_in (whole disk r) n) × IsWithin r.version (tree_in (whole disk r) n)) (first_plane trees q is are.first)
      (known.1 none, known.0.within (subst IsOut none))

  -- and of those that are apart it is in its grammar
  pub newest_at : ((i : ℕ) (t : Tree) → slice_get trees i ≡ Some t → IsApart t.fault) → (q : Tree) → slice_get trees 0 ≡ Some q → (s : Sizes) (blocks : ℕ) → IsRootOf r s blocks
      → IsTreeAt disk r s blocks q × (q.plane ≡ 0)
  newest_at apart q is s blocks over =
      let known = (known_at r trees (HasEnded disk r marks) 0 q are is).0 in (
        record { over = over; tree = known.tree; grammar = known.grammar (λ out. out_number q.fault out (apart 0 q is)) },
        first_plane trees q is are.first,
      )

  -- so are all, without a fault where none is told of them
  pub all_faultless : ((i : ℕ) (t : Tree) → slice_get trees i ≡ Some t → t.fault ≡ None) → (k : ℕ) → HasTree r k → IsFaultless r.geometry (tree_in (whole disk r) k) × IsWithin r.version (tree_in (whole disk r) k)
  all_faultless told k has =
      let one = are.all k has in
      let place = contained trees one.0 one.1 in
      let none = told place.0 one.0 place.1 in
      let known = are.each one.0 one.1 in
      subst (λ (n : ℕ). IsFaultless r.geometry (tree_in (whole disk r) n) × IsWithin r.version (tree_in (whole disk r) n)) one.2 (known.1 none, known.0.within (subst IsOut none))

  -- what is marked, with the system's own blocks, is what entries should have
  module _ (all : List ℕ) (apart : (i : ℕ) (t : Tree) → slice_get trees i ≡ Some t → IsApart t.fault) (count : length r.snapshots ≡ SNAPSHOT_SLOTS)
      (clean : (k b : ℕ) → (HasTree r k → ⊥) → HasBit k (slice_index marks b) → ⊥)
      (system : (b : ℕ) → HasBit 31 (slice_index all b) ↔ (HasBit 31 (slice_index marks b) ⊎ IsSystem r b))
      (others : (k b : ℕ) → k ≢ 31 → HasBit k (slice_index all b) ↔ HasBit k (slice_index marks b)) where
    of_tree : (k b : ℕ) → HasTree r k → k ≢ 31 → HasBit k (slice_index all b) ↔ Reach (tree_in (whole disk r) k) b
    of_tree k b has other =
        let one = are.all k has in
        let place = contained trees one.0 one.1 in
        let marked = subst (λ (n : ℕ). HasBit n (slice_index marks b) ↔ Reach (tree_in (whole disk r) n) b) one.2 ((are.each one.0 one.1).0.marked (apart place.0 one.0 place.1) b) in
        (λ bit. marked.0 ((others k b other).0 bit), λ reach. (others k b other).1 (marked.1 reach))

    frozen : (b k : ℕ) → 1 ≤ k → k ≢ 31 → HasBit k (slice_index all b) ↔ Reach ((whole disk r).frozen k) b
    frozen b zero some other = absurd (omega (arith, some))
    frozen b (suc k) some other = elim (has_or_not r (suc k)) [
      | inl has ↦ of_tree (suc k) b has other
      | inr hole ↦ (
        λ bit. absurd (clean (suc k) b (no_tree r (suc k) hole.0 some) ((others (suc k) b other).0 bit)),
        λ reach. absurd (frozen_drops disk r (suc k) b hole.0 reach),
      )
    ]

    pub should : (b : ℕ) → ShouldHave r (whole disk r) b (slice_index all b)
    should b = record {
      active = of_tree 0 b tt (λ is. omega (arith, is));
      frozen = λ k some other. frozen b k some other;
      system = (
        λ bit. elim ((system b).0 bit) [ inl marked ↦ absurd (clean 31 b (no_tree_past r 31 count (omega arith)) marked) | inr own ↦ own ],
        λ own. (system b).1 (inr own),
      );
    }
