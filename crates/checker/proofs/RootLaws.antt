-- The slots of a root, as they are told.
use Rattle.std.proofs.Common.{◌≡◌, ◌+◌, ◌<◌, ◌∙◌, ℕ, suc, List, length, ap, sym, subst, arith}
use Rattle.std.specs.Prelude.{slice_index_or, Some}
use Rattle.layout.specs.Places.{Blocks, pointed}
use Rattle.layout.specs.SnapRoot.{Snapshot, snapshot_in}
use Rattle.layout.specs.declared.pointer.Pointer.{Pointer}
use Rattle.layout.specs.declared.pointer.Pointer.TheVariants.{Hole, Block}
use Rattle.layout.specs.declared.root.Root.{Root}
use Rattle.layout.specs.declared.trees.Layout.{Layout}
use Rattle.buffers.specs.Disks.{IsWhole}
use Rattle.images.specs.Roots.{slot, whole}
use Rattle.images.specs.Snapshots.{AreSnapshots, FitsRoot}
use Rattle.loading.specs.Snapshots.{AreApartAt, IsRootOf, IsSnapshotAt, IsSnapshotBlock}
use Rattle.loading.proofs.SnapshotLaws.{Spells, apart, at_slot, length-snapshot}
use Rattle.checker.specs.Findings.{AreApart, TellsSlotFault}
use Rattle.checker.specs.declared.fault.SnapshotFault.TheVariants.{NoSnapshot, SameAs}

fitting_block : (disk : Blocks) (r : Root) (k b : ℕ) (s : Snapshot) → slot r k ≡ Block b
    → FitsRoot r ((whole disk r).head k) s → IsSnapshotBlock r.geometry r.generation (disk b)
unfolding whole
fitting_block disk r k b s there fits = record {
  snapshot = s;
  is = fits.is;
  spelled = sym (ap (pointed disk) there) ∙ fits.spelled;
  order = fits.order;
  inode_file = fits.inode_file;
}

-- the block of a slot is no snapshot's
pub no_snapshot : (disk : Blocks) (r : Root) (k b : ℕ) (p : Pointer) → p ≡ slice_index_or r.snapshots k Hole → p ≡ Block b → (IsSnapshotAt r.geometry r.generation disk p → ⊥)
    → (slot r (k + 1) ≡ Block b) × (AreSnapshots r (whole disk r) → ⊥)
    × TellsSlotFault r (whole disk r) (k + 1) NoSnapshot
no_snapshot disk r k b p there is not =
    let next : suc k ≡ k + 1 = omega arith in
    let at = subst (λ (n : ℕ). slot r n ≡ Block b) next (sym there ∙ is) in (
      at,
      λ are. not (at_slot disk r k p are (sym there)),
      λ s fits. not (subst (IsSnapshotAt r.geometry r.generation disk) (sym is)
          (fitting_block disk r (k + 1) b s at fits)),
    )

-- a block that spells a snapshot reads as it
reads : (layout : Layout) (spells : Spells) (s : Snapshot) (bytes : List ℕ) → IsRootOf layout s bytes → snapshot_in layout bytes ≡ Some s
reads layout spells s bytes is =
    ap (snapshot_in layout) is.spelled ∙ (spells layout s is.is is.layout_is).0

-- what stands in two slots, by the blocks there
apart_at : (disk : Blocks) (r : Root) (spells : Spells) (l k : ℕ) (p q : Pointer) → slot r l ≡ p
    → slot r k ≡ q → AreApart r (whole disk r) l k → AreApartAt r.geometry.layout disk p q
unfolding whole
apart_at disk r spells l k Hole q first second apart = tt
apart_at disk r spells l k (Block a) Hole first second apart = tt
apart_at disk r spells l k (Block a) (Block b) first second apart = λ s t one two.
    apart s t
    (record {
      block = a;
      there = first;
      read = ap (λ (x : Pointer). snapshot_in r.geometry.layout (pointed disk x)) first ∙ reads r.geometry.layout spells s (disk a) one;
    })
    (record {
      block = b;
      there = second;
      read = ap (λ (x : Pointer). snapshot_in r.geometry.layout (pointed disk x)) second ∙ reads r.geometry.layout spells t (disk b) two;
    })

-- it has the name or the order of one before it
pub same_as : (disk : Blocks) (r : Root) (l k b : ℕ) (p q : Pointer) → Spells
    → l < k → p ≡ slice_index_or r.snapshots l Hole → q ≡ slice_index_or r.snapshots k Hole
    → q ≡ Block b → (AreApartAt r.geometry.layout disk p q → ⊥)
    → (slot r (k + 1) ≡ Block b) × (AreSnapshots r (whole disk r) → ⊥)
    × TellsSlotFault r (whole disk r) (k + 1) (SameAs (l + 1))
same_as disk r l k b p q spells lt first second is not =
    let next : suc k ≡ k + 1 = omega arith in
    let before : suc l ≡ l + 1 = omega arith in
    let there : slot r (k + 1) ≡ q = subst (λ (n : ℕ). slot r n ≡ q) next (sym second) in
    let earlier : slot r (l + 1) ≡ p = subst (λ (n : ℕ). slot r n ≡ p) before (sym first) in (
      there ∙ is,
      λ are. not (apart disk r are spells l k p q lt (sym first) (sym second)),
      (
        omega (arith, lt),
        λ differ. not (apart_at disk r spells (l + 1) (k + 1) p q earlier there differ),
      ),
    )

-- of two blocks that can't both be read no two snapshots are told
pub apart_unread : (layout : Layout) (disk : Blocks) (p q : Pointer) → (IsWhole (pointed disk p) → IsWhole (pointed disk q) → ⊥) → AreApartAt layout disk p q
apart_unread layout disk Hole q broken = tt
apart_unread layout disk (Block a) Hole broken = tt
apart_unread layout disk (Block a) (Block b) broken = λ s q one two.
    absurd (broken (ap length one.spelled ∙ length-snapshot s one.is) (ap length two.spelled ∙ length-snapshot q two.is))
