-- The snapshots of a root, slot by slot.
use Rattle.std.proofs.Common.{◌≡◌, ◌<◌, ◌-◌, ◌↔◌, ◌++◌, length, ℕ, zero, suc, Bool, true, false, not, eqb, Decides, refl, List, Some, sym, ap, subst, inl, inr, arith, ◌∙◌}
use Rattle.std.specs.Prelude.{◌≢◌, IsTrue, slice_index_or}
use Rattle.std.proofs.lemmas.Bool.{cases_lt, cases_eq}
use Rattle.std.proofs.lemmas.Bool.Decides.{nat_tests}
use Rattle.std.proofs.lemmas.List.{get_or_past, length-append}
use Rattle.layout.specs.Bytes.{little, zeros}
use Rattle.layout.specs.Inode.{inode_bytes}
use Rattle.layout.specs.Limits.{Sizes}
use Rattle.layout.specs.Places.{Blocks, pointed}
use Rattle.layout.specs.SnapRoot.{Snapshot, IsSnapshot, snapshot_bytes, snapshot_in}
use Rattle.layout.specs.declared.trees.Layout.{Layout}
use Rattle.layout.specs.declared.pointer.Pointer.{Pointer}
use Rattle.layout.specs.declared.pointer.Pointer.TheVariants.{Hole, Block}
use Rattle.layout.specs.declared.root.Root.{Root}
use Rattle.layout.specs.declared.version.TheConstants.{SNAPSHOT_SLOTS}
use Rattle.layout.proofs.InodeLaws.{length-inode}
use Rattle.layout.proofs.NumberLaws.{length-little}
use Rattle.layout.proofs.ZeroLaws.{length-zeros}
use Rattle.buffers.specs.Disks.{IsWhole}
use Rattle.images.specs.Roots.{frozen_inode_file, slot, whole}
use Rattle.images.specs.Snapshots.{AreSnapshots, FitsRoot, HasSnapshot}
use Rattle.loading.specs.Snapshots.{AreOfTwoSnapshots, AreApartAt, FitsSlot, IsRootOf, IsSnapshotAt, IsSnapshotBlock}

-- ---- how many bytes they have

pub length-snapshot : (v : Snapshot) → IsSnapshot v → length (snapshot_bytes v) ≡ 4096
length-snapshot v is =
    let name = v.name in
    let pad = zeros (63 - length name) in
    let inode = inode_bytes v.inode_file in
    omega (
      arith,
      is.short,
      length-append (little 8 v.order) ((little 1 (length name) ++ (name ++ pad)) ++ (inode ++ zeros 3832)),
      length-little 8 v.order,
      length-append (little 1 (length name) ++ (name ++ pad)) (inode ++ zeros 3832),
      length-append (little 1 (length name)) (name ++ pad),
      length-little 1 (length name),
      length-append name pad,
      length-zeros (63 - length name),
      length-append inode (zeros 3832),
      length-inode v.inode_file is.inode_file.sizes is.inode_file.fits,
      length-zeros 3832,
    )

pub snapshot_whole : (s : Sizes) (most : ℕ) (disk : Blocks) (p : Pointer) → IsSnapshotAt s most disk p → IsWhole (pointed disk p)
snapshot_whole s most disk Hole is = length-zeros 4096
snapshot_whole s most disk (Block b) is = ap length is.spelled ∙ length-snapshot is.snapshot is.is

-- ---- slot by slot

pub at_slot : (disk : Blocks) (r : Root) (k : ℕ) (p : Pointer) → AreSnapshots r (whole disk r) → slot r (suc k) ≡ p → IsSnapshotAt r.geometry r.generation disk p
unfolding whole
at_slot disk r k Hole are is = tt
at_slot disk r k (Block b) are is =
    let one = are.each (suc k) b is in
    record { snapshot = one.0; is = one.2.is; spelled = sym (ap (pointed disk) is) ∙ one.2.spelled; order = one.2.order; inode_file = one.2.inode_file }

-- the snapshots' root blocks are read as they are spelled
abbrev pub Spells : Type 0
Spells =
    (layout : Layout) (v : Snapshot) → IsSnapshot v → v.inode_file.layout ≡ layout
    → (snapshot_in layout (snapshot_bytes v) ≡ Some v)
    × (frozen_inode_file layout (snapshot_bytes v) ≡ v.inode_file)

-- so is one in an image of this layout
reads : (layout : Layout) → Spells → (s : Snapshot) (bytes : List ℕ) → IsRootOf layout s bytes → snapshot_in layout bytes ≡ Some s
reads layout spells s bytes is = ap (snapshot_in layout) is.spelled ∙ (spells layout s is.is is.layout_is).0

-- a slot whose block spells a snapshot has it
has : (disk : Blocks) (r : Root) → Spells → (k b : ℕ) (s : Snapshot) → slot r k ≡ Block b → IsRootOf r.geometry.layout s (disk b) → HasSnapshot r (whole disk r) k s
unfolding whole
has disk r spells k b s there is =
    record { block = b; there = there; read = ap (λ p. snapshot_in r.geometry.layout (pointed disk p)) there ∙ reads r.geometry.layout spells s (disk b) is }

-- two slots have snapshots of different names and orders
module _ (disk : Blocks) (r : Root) (are : AreSnapshots r (whole disk r)) (spells : Spells) where
  pub apart : (l k : ℕ) (p q : Pointer) → l < k → slot r (suc l) ≡ p → slot r (suc k) ≡ q → AreApartAt r.geometry.layout disk p q
  apart l k Hole q lt first second = tt
  apart l k (Block a) Hole lt first second = tt
  apart l k (Block a) (Block b) lt first second = λ s t is_s is_t. (
    λ same. absurd (omega (arith, lt, are.names (suc l) (suc k) s t (has disk r spells (suc l) a s first is_s) (has disk r spells (suc k) b t second is_t) same)),
    λ same. absurd (omega (arith, lt, are.orders (suc l) (suc k) s t (has disk r spells (suc l) a s first is_s) (has disk r spells (suc k) b t second is_t) same)),
  )

-- ---- slots that were tested

module _ (disk : Blocks) (r : Root) (count : length r.snapshots ≡ SNAPSHOT_SLOTS) (spells : Spells) (fits : (k : ℕ) → k < SNAPSHOT_SLOTS → FitsSlot disk r k) where
  within : (k b : ℕ) → slice_index_or r.snapshots k Hole ≡ Block b → k < SNAPSHOT_SLOTS
  within k b is = elim (cases_lt k SNAPSHOT_SLOTS) [
    | inl low ↦ low
    | inr past ↦ (let none : Hole ≡ Block b = sym (get_or_past r.snapshots k Hole (omega (arith, past, count))) ∙ is in absurd (cc))
  ]

  block_at : (k b : ℕ) → slice_index_or r.snapshots k Hole ≡ Block b → IsSnapshotBlock r.geometry r.generation (disk b)
  block_at k b is = subst (IsSnapshotAt r.geometry r.generation disk) is (fits k (within k b is)).0

  each : (k b : ℕ) → slot r k ≡ Block b → (s : Snapshot) × HasSnapshot r (whole disk r) k s × FitsRoot r ((whole disk r).head k) s
  unfolding whole
  each zero b is = let none : Hole ≡ Block b = is in absurd (cc)
  each (suc k) b is =
      let at = block_at k b is in (
        at.snapshot,
        has disk r spells (suc k) b at.snapshot is (record { is = at.is; layout_is = at.inode_file.layout; spelled = at.spelled }),
        record { is = at.is; spelled = ap (pointed disk) is ∙ at.spelled; order = at.order; inode_file = at.inode_file },
      )

  -- what a slot has is what its block spells
  spelled_at : (k : ℕ) (s : Snapshot) (there : HasSnapshot r (whole disk r) (suc k) s) → IsRootOf r.geometry.layout s (disk there.block)
  unfolding whole
  spelled_at k s there =
      let at = block_at k there.block there.there in
      let is : IsRootOf r.geometry.layout at.snapshot (disk there.block) = record { is = at.is; layout_is = at.inode_file.layout; spelled = at.spelled } in
      let read : snapshot_in r.geometry.layout (disk there.block) ≡ Some s = sym (ap (λ (p : Pointer). snapshot_in r.geometry.layout (pointed disk p)) there.there) ∙ there.read in
      let one : Some at.snapshot ≡ Some s = sym (reads r.geometry.layout spells at.snapshot (disk there.block) is) ∙ read in
      let same : at.snapshot ≡ s = cc in
      subst (λ (x : Snapshot). IsRootOf r.geometry.layout x (disk there.block)) same is

  differ : (k l : ℕ) (s q : Snapshot) → l < k → HasSnapshot r (whole disk r) (suc l) s → HasSnapshot r (whole disk r) (suc k) q → (s.name ≡ q.name → ⊥) × (s.order ≡ q.order → ⊥)
  differ k l s q lt first second =
      let one = spelled_at l s first in
      let two = spelled_at k q second in
      let apart : AreApartAt r.geometry.layout disk (slice_index_or r.snapshots l Hole) (slice_index_or r.snapshots k Hole) = (fits k (within k second.block second.there)).1 l lt in
      let blocks : AreApartAt r.geometry.layout disk (Block first.block) (Block second.block) =
      subst (λ (p : Pointer). AreApartAt r.geometry.layout disk (Block first.block) p) second.there (subst (λ (p : Pointer). AreApartAt r.geometry.layout disk p (slice_index_or r.snapshots k Hole)) first.there apart) in
      blocks s q one two

  none_first : (k : ℕ) (s : Snapshot) → HasSnapshot r (whole disk r) zero s → ⊥
  none_first k s there = let none : Hole ≡ Block there.block = there.there in cc

  only : (P : Snapshot → Snapshot → Type 0) → ((k l : ℕ) (s q : Snapshot) → l < k → HasSnapshot r (whole disk r) (suc l) s → HasSnapshot r (whole disk r) (suc k) q → P s q → ⊥)
      → ((s q : Snapshot) → P s q → P q s) → (k l : ℕ) (s q : Snapshot) → HasSnapshot r (whole disk r) k s → HasSnapshot r (whole disk r) l q → P s q → k ≡ l
  only P apart turned zero l s q first second same = absurd (none_first l s first)
  only P apart turned (suc k) zero s q first second same = absurd (none_first k q second)
  only P apart turned (suc k) (suc l) s q first second same = elim (cases_eq k l) [
    | inl is ↦ ap (λ (n : ℕ). suc n) is
    | inr other ↦ elim (cases_lt k l) [
      | inl low ↦ absurd (apart l k s q low first second same)
      | inr high ↦ absurd (apart k l q s (omega (arith, high, other)) second first (turned s q same))
    ]
  ]

  pub are_snapshots : AreSnapshots r (whole disk r)
  are_snapshots = record {
    each = each;
    names = only (λ s q. s.name ≡ q.name) (λ k l s q lt first second. (differ k l s q lt first second).0) (λ s q same. sym same);
    orders = only (λ s q. s.order ≡ q.order) (λ k l s q lt first second. (differ k l s q lt first second).1) (λ s q same. sym same);
  }

-- whether two blocks are apart, by the snapshots that they spell
pub as_spelled : (layout : Layout) (a b : List ℕ) (v w : Snapshot) → IsRootOf layout v a → IsRootOf layout w b
    → ((s : Snapshot) → IsRootOf layout s a → v ≡ s) → ((s : Snapshot) → IsRootOf layout s b → w ≡ s)
    → AreOfTwoSnapshots layout a b ↔ ((v.name ≢ w.name) × (v.order ≢ w.order))
as_spelled layout a b v w is_v is_w one other = (
  λ apart. apart v w is_v is_w,
  λ differ s q is_s is_q.
      let first = one s is_s in
      let second = other q is_q in (
        λ same. differ.0 (ap (λ (x : Snapshot). x.name) first ∙ same ∙ sym (ap (λ (x : Snapshot). x.name) second)),
        λ same. differ.1 (ap (λ (x : Snapshot). x.order) first ∙ same ∙ sym (ap (λ (x : Snapshot). x.order) second)),
      ),
)

pub unless : (r b : Bool) (P : Type 0) → r ≡ not b → Decides b P → IsTrue r ↔ (P → ⊥)
unless r true P is decides = (λ yes. cc, λ no. absurd (no (decides.0 refl)))
unless r false P is decides = (λ yes p. let e : false ≡ true = decides.1 p in cc, λ no. is)

pub unequal : (x y : ℕ) → IsTrue (not (eqb x y)) → x ≡ y → ⊥
unequal x y other same = grind (arith, nat_tests)
