-- What a change of the snapshots makes of the slots and of the block map's sets.
use Rattle.layout.specs.declared.inode.Inode.{Inode}
use Rattle.layout.specs.declared.trees.Layout.{Layout}
use Rattle.std.proofs.Common.{◌≡◌, ◌≢◌, inl, inr, ◌↔◌, ℕ, zero, suc, ◌+◌, ◌≤◌, All, Bool, Some, List, drop, length, length-drop, refl, ap, sym, subst, ◌∙◌, arith}
use Rattle.std.proofs.Math.Path.{fun_ext}
use Rattle.std.proofs.lemmas.Bool.{cases_eq, cases_lt}
use Rattle.std.proofs.lemmas.List.{get_or_past}
use Rattle.std.specs.Int.{bit_at}
use Rattle.std.specs.Prelude.{if◌then◌else◌}
use Rattle.blockmap.specs.Bits.{SetsBit, SetsPlane}
use Rattle.blockmap.specs.Maps.{entry_at, settled_at}
use Rattle.blockmap.specs.Parts.{Part}
use Rattle.blockmap.specs.declared.map.BlockMap.{BlockMap}
use Rattle.images.specs.BlockMap.{HasBit, IsSystem, entry}
use Rattle.images.specs.BlockMap.IsSystem.{roots, head}
use Rattle.images.specs.Points.{Slot}
use Rattle.images.specs.Points.Slot.{stays, takes, drops}
use Rattle.images.specs.Roots.{frozen_inode_file, slot, whole}
use Rattle.images.specs.Snapshots.{AreSnapshots, HasSnapshot}
use Rattle.images.specs.SnapshotSteps.{SnapshotStep, unchanged, taken, deleted, restored, CanStep, HasHead, IsSlotNumber, StepsSlots}
use Rattle.images.specs.States.{IsSound}
use Rattle.layout.specs.Places.{Blocks, pointed}
use Rattle.layout.specs.Pointer.{PointsBelow}
use Rattle.layout.specs.Root.{IsRoot}
use Rattle.layout.specs.SnapRoot.{Snapshot, IsSnapshot, snapshot_bytes, snapshot_in}
use Rattle.layout.specs.declared.pointer.Pointer.{Pointer}
use Rattle.layout.specs.declared.pointer.Pointer.TheVariants.{Hole, Block}
use Rattle.layout.specs.declared.root.Root.{Root}
use Rattle.conspoint.specs.declared.draft.Draft.{Draft}
use Rattle.images.specs.Room.{IsNewHead}
use Rattle.planning.specs.declared.change.SnapshotChange.{SnapshotChange}
use Rattle.planning.specs.declared.change.SnapshotChange.TheVariants.{Delete, Restore, Take, Unchanged}
use Rattle.planning.specs.Changes.{ChangesPlane, HasHeads, IsStepOf, SharesNone, head_nodes, StepsEntries, StepsSets}
use Rattle.planning.specs.Plans.{IsClean}
use Rattle.planning.specs.Progress.{KeepsActive}
use Rattle.layout.proofs.PointerLaws.{no_block, block_same, hole_block}

-- ---- the sets

-- a plane is set, and then one block's bit of the system's set
pub plane_changed : (k block bit : ℕ) (is_in : Bool) (plane before between after : ℕ → ℕ) → IsSlotNumber k → ((count : ℕ) → SetsPlane count k plane before between)
    → SetsBit 31 is_in (between block) (after block) → ((c : ℕ) → c ≢ block → after c ≡ between c) → (if is_in then 1 else 0) ≡ bit → ChangesPlane k (Block block) bit plane before after
plane_changed k block bit is_in plane before between after number planes marked stay bit_is = record {
  plane_is = λ b. elim (cases_eq b block) [
    | inl same ↦ subst (λ n. bit_at (after n) k ≡ plane n) (sym same) (marked.others k (omega (arith, number.last)) ∙ (planes (block + 1)).there block (omega arith))
    | inr other ↦ ap (λ x. bit_at x k) (stay b other) ∙ (planes (b + 1)).there b (omega arith)
  ];
  head = λ b is. subst (λ n. bit_at (after n) 31 ≡ bit) (block_same block b is) (marked.there ∙ bit_is);
  system = λ b isnt.
      let other : b ≢ block = λ same. isnt (ap Block (sym same)) in
      ap (λ x. bit_at x 31) (stay b other) ∙ (planes (b + 1)).others b 31 (omega arith) (omega (arith, number.last));
  others = λ b i not_k not_system. elim (cases_eq b block) [
    | inl same ↦ subst (λ n. bit_at (after n) i ≡ bit_at (before n) i) (sym same) (marked.others i not_system ∙ (planes (block + 1)).others block i (omega arith) not_k)
    | inr other ↦ ap (λ x. bit_at x i) (stay b other) ∙ (planes (b + 1)).others b i (omega arith) not_k
  ];
}

-- a plane is set, and no block of the system's set changes
pub plane_alone : (k bit : ℕ) (plane before after : ℕ → ℕ) → IsSlotNumber k → ((count : ℕ) → SetsPlane count k plane before after) → ChangesPlane k Hole bit plane before after
plane_alone k bit plane before after number planes = record {
  plane_is = λ b. (planes (b + 1)).there b (omega arith);
  head = λ b is. absurd (cc);
  system = λ b isnt. (planes (b + 1)).others b 31 (omega arith) (omega (arith, number.last));
  others = λ b i not_k not_system. (planes (b + 1)).others b i (omega arith) not_k;
}

-- where the parts of the map are the same
pub plane_from : (k : ℕ) (p : Pointer) (bit : ℕ) (old mid : List Part) (after : ℕ → ℕ) → mid ≡ old → ChangesPlane k p bit (λ b. bit_at (settled_at mid b) 0) (entry_at mid) after
    → ChangesPlane k p bit (λ b. bit_at (settled_at old b) 0) (entry_at old) after
plane_from k p bit old mid after same changes = subst (λ (ps : List Part). ChangesPlane k p bit (λ b. bit_at (settled_at ps b) 0) (entry_at ps) after) same changes

pub plane_active : (k bit : ℕ) (p : Pointer) (plane before after : ℕ → ℕ) → IsSlotNumber k → ChangesPlane k p bit plane before after → KeepsActive before after
plane_active k bit p plane before after number changes = λ b. changes.others b 0 (omega (arith, number.first)) (omega arith)

-- ---- the new root's slots and planes

-- what images says of a snapshot's root block
abbrev pub SnapshotsSpelled : Type 0
SnapshotsSpelled = (layout : Layout) (v : Snapshot) → IsSnapshot v → v.inode_file.layout ≡ layout → (snapshot_in layout (snapshot_bytes v) ≡ Some v) × (frozen_inode_file layout (snapshot_bytes v) ≡ v.inode_file)

slot_same : (r new : Root) (k : ℕ) → new.snapshots ≡ r.snapshots → slot new k ≡ slot r k
slot_same r new zero same = refl
slot_same r new (suc k) same = rw same refl

system_same : (r new : Root) (b : ℕ) → new.snapshots ≡ r.snapshots → IsSystem r b → IsSystem new b
system_same r new b same (roots low) = roots low
system_same r new b same (head k is) = head k (slot_same r new k same ∙ is)

-- the pointer in a slot stays on the disk
pub slot_below : (r : Root) (k : ℕ) → IsRoot r → PointsBelow r.geometry.blocks (slot r k)
slot_below r zero root = tt
slot_below r (suc k) root = elim (cases_lt k (length r.snapshots)) [
  | inl lt ↦ root.snapshots k Hole lt
  | inr ge ↦ subst (PointsBelow r.geometry.blocks) (sym (get_or_past r.snapshots k Hole ge)) tt
]

head_is : (d : Blocks) (r : Root) (k : ℕ) → (whole d r).head k ≡ pointed d (slot r k)
unfolding whole
head_is d r k = refl

-- two slots with one block are one slot
one_slot : (d : Blocks) (r : Root) (k l b : ℕ) (s : Snapshot) → AreSnapshots r (whole d r) → HasSnapshot r (whole d r) k s → slot r k ≡ Block b → slot r l ≡ Block b → k ≡ l
one_slot d r k l b s are has at_k at_l =
    let heads : (whole d r).head l ≡ (whole d r).head k = head_is d r l ∙ ap (pointed d) (at_l ∙ sym at_k) ∙ sym (head_is d r k) in
    are.orders k l s s has (record { block = b; there = at_l; read = ap (snapshot_in r.geometry.layout) heads ∙ has.read }) refl

module _ (heads : SnapshotsSpelled) (r new : Root) (d e : Blocks) (after : ℕ → ℕ) (root : IsRoot r) (sound : IsSound r (whole d r)) where
  abbrev before : ℕ → ℕ
  before = entry (whole d r).active

  pub slots_are : (step : SnapshotStep) → CanStep step r (whole d r) → StepsSlots step r new → HasHead step new e → StepsEntries step r new before before after → (k : ℕ) → 1 ≤ k → k ≢ 31
      → Slot e r new before after k
  slots_are unchanged can slots has stepped k low other =
      let bit = λ (b : ℕ). stepped.keeps b k (omega (arith, low)) ∙ ap (λ x. bit_at x k) (stepped.sets b) in
      stays (slot_same r new k slots) (λ b. (λ is. sym (bit b) ∙ is, λ is. bit b ∙ is))
  slots_are (restored l name) can slots has stepped k low other =
      let bit = λ (b : ℕ). stepped.keeps b k (omega (arith, low)) ∙ stepped.sets b k (omega (arith, low)) in
      stays (slot_same r new k slots) (λ b. (λ is. sym (bit b) ∙ is, λ is. bit b ∙ is))
  slots_are (taken l s) can slots has stepped k low other = elim (cases_eq k l) [
    | inl same ↦
        let there : slot new k ≡ Block slots.0 = ap (slot new) same ∙ slots.1.there in
        let bit = λ (b : ℕ). stepped.keeps b k (omega (arith, low)) ∙ ap (bit_at (stepped.between b)) same ∙ stepped.sets.0.plane_is b in
        takes slots.0 there (stepped.sets.1 slots.0 slots.1.there)
        (ap (frozen_inode_file r.geometry.layout) (ap (pointed e) (sym slots.1.there) ∙ has) ∙ (heads r.geometry.layout s can.is (ap (λ (i : Inode). i.layout) can.tree ∙ root.inode_file.layout)).1 ∙ can.tree)
        (λ b. (λ is. sym (bit b) ∙ is, λ is. bit b ∙ is))
    | inr differs ↦
        let bit = λ (b : ℕ). stepped.keeps b k (omega (arith, low)) ∙ stepped.sets.0.others b k differs other in
        stays (slots.1.others k differs) (λ b. (λ is. sym (bit b) ∙ is, λ is. bit b ∙ is))
  ]
  slots_are (deleted l name) can slots has stepped k low other = elim (cases_eq k l) [
    | inl same ↦
        let bit = λ (b : ℕ). stepped.keeps b k (omega (arith, low)) ∙ ap (bit_at (stepped.between b)) same ∙ stepped.sets.plane_is b in
        drops (ap (slot new) same ∙ slots.there) (λ b is. absurd (omega (arith, bit b, is)))
    | inr differs ↦
        let bit = λ (b : ℕ). stepped.keeps b k (omega (arith, low)) ∙ stepped.sets.others b k differs other in
        stays (slots.others k differs) (λ b. (λ is. sym (bit b) ∙ is, λ is. bit b ∙ is))
  ]

  system_was : (b : ℕ) → HasBit 31 (before b) ↔ IsSystem r b
  system_was b = sound.exact.system b

  pub system_is : (step : SnapshotStep) → CanStep step r (whole d r) → StepsSlots step r new → StepsEntries step r new before before after → (b : ℕ) → HasBit 31 (after b) ↔ IsSystem new b
  system_is unchanged can slots stepped b =
      let bit : bit_at (after b) 31 ≡ bit_at (before b) 31 = stepped.keeps b 31 (omega arith) ∙ ap (λ x. bit_at x 31) (stepped.sets b) in (
        λ is. system_same r new b slots ((system_was b).0 (sym bit ∙ is)),
        λ is. bit ∙ (system_was b).1 (system_same new r b (sym slots) is),
      )
  system_is (restored l name) can slots stepped b =
      let bit : bit_at (after b) 31 ≡ bit_at (before b) 31 = stepped.keeps b 31 (omega arith) ∙ stepped.sets b 31 (omega arith) in (
        λ is. system_same r new b slots ((system_was b).0 (sym bit ∙ is)),
        λ is. bit ∙ (system_was b).1 (system_same new r b (sym slots) is),
      )
  system_is (taken l s) can slots stepped b = elim (cases_eq b slots.0) [
    | inl same ↦
        let there : slot new l ≡ Block b = slots.1.there ∙ ap Block (sym same) in
        (λ is. head l there, λ is. stepped.keeps b 31 (omega arith) ∙ stepped.sets.0.head b there)
    | inr other ↦
        let away : slot new l ≢ Block b = λ is. other (block_same b slots.0 (sym is ∙ slots.1.there)) in
        let bit : bit_at (after b) 31 ≡ bit_at (before b) 31 = stepped.keeps b 31 (omega arith) ∙ stepped.sets.0.system b away in (
          λ is. elim ((system_was b).0 (sym bit ∙ is)) [
            | roots low ↦ roots low
            | head m at ↦ head m (slots.1.others m (λ same. no_block (slot r m) b (ap (slot r) same ∙ can.free) at) ∙ at)
          ],
          λ is. bit ∙ (system_was b).1 (elim is [
            | roots low ↦ roots low
            | head m at ↦ head m (sym (slots.1.others m (λ same. away (ap (slot new) (sym same) ∙ at))) ∙ at)
          ]),
        )
  ]
  system_is (deleted l name) can slots stepped b = elim (cases_eq b can.has.block) [
    | inl same ↦
        let there : slot r l ≡ Block b = can.has.there ∙ ap Block (sym same) in
        let bit : bit_at (after b) 31 ≡ 0 = stepped.keeps b 31 (omega arith) ∙ stepped.sets.head b there in
        let low_end : 2 ≤ b = (subst (PointsBelow r.geometry.blocks) there (slot_below r l root)).0 in (
          λ is. absurd (omega (arith, bit, is)),
          λ is. elim is [
            | roots low ↦ absurd (omega (arith, low, low_end))
            | head m at ↦
                let other : m ≢ l = λ here. no_block (slot new m) b (ap (slot new) here ∙ slots.there) at in
                absurd (other (sym (one_slot d r l m b can.snapshot sound.snapshots can.has there (sym (slots.others m other) ∙ at))))
          ],
        )
    | inr other ↦
        let away : slot r l ≢ Block b = λ is. other (block_same b can.has.block (sym is ∙ can.has.there)) in
        let bit : bit_at (after b) 31 ≡ bit_at (before b) 31 = stepped.keeps b 31 (omega arith) ∙ stepped.sets.system b away in (
          λ is. elim ((system_was b).0 (sym bit ∙ is)) [
            | roots low ↦ roots low
            | head m at ↦ head m (slots.others m (λ same. away (ap (slot r) (sym same) ∙ at)) ∙ at)
          ],
          λ is. bit ∙ (system_was b).1 (elim is [
            | roots low ↦ roots low
            | head m at ↦ head m (sym (slots.others m (λ same. no_block (slot new m) b (ap (slot new) same ∙ slots.there) at)) ∙ at)
          ]),
        )
  ]

-- ---- roots with the same slots

pub heads_of : (r a b : Root) (d : Draft) → b.snapshots ≡ a.snapshots → HasHeads r a d → HasHeads r b d
heads_of r a b d same has k block new = has k block (sym (slot_same a b k same) ∙ new.0, new.1)

-- where no snapshot shares the tree, no root block is new, and none is stored
pub no_head : (step : SnapshotStep) (r new : Root) → SharesNone step → StepsSlots step r new → (k b : ℕ) → IsNewHead r new k b → ⊥
no_head unchanged r new none slots k b is = is.1 (sym (slot_same r new k slots) ∙ is.0)
no_head (taken l s) r new none slots k b is = none
no_head (restored l name) r new none slots k b is = none
no_head (deleted l name) r new none slots k b is = elim (cases_eq k l) [
  | inl same ↦ hole_block (sym slots.there ∙ sym (ap (slot new) same) ∙ is.0)
  | inr other ↦ is.1 (sym (slots.others k other) ∙ is.0)
]

pub one_head : (change : SnapshotChange) → head_nodes change ≤ 1
one_head Unchanged = omega arith
one_head (Take k order name) = omega arith
one_head (Delete k) = omega arith
one_head (Restore k f) = omega arith

pub none_stored : (change : SnapshotChange) (r : Root) (step : SnapshotStep) → IsStepOf change r step → SharesNone step → head_nodes change ≡ 0
none_stored Unchanged r step is none = refl
none_stored (Take k order name) r step is none = absurd (subst SharesNone is none)
none_stored (Delete k) r step is none = refl
none_stored (Restore k f) r step is none = refl

pub slots_of : (step : SnapshotStep) (r a b : Root) → b.snapshots ≡ a.snapshots → StepsSlots step r a → StepsSlots step r b
slots_of unchanged r a b same slots = same ∙ slots
slots_of (restored k name) r a b same slots = same ∙ slots
slots_of (taken k s) r a b same slots = (
  slots.0,
  record { there = slot_same a b k same ∙ slots.1.there; others = λ l other. slot_same a b l same ∙ slots.1.others l other },
)
slots_of (deleted k name) r a b same slots = record { there = slot_same a b k same ∙ slots.there; others = λ l other. slot_same a b l same ∙ slots.others l other }

pub head_of : (step : SnapshotStep) (a b : Root) (e : Blocks) → b.snapshots ≡ a.snapshots → HasHead step a e → HasHead step b e
head_of unchanged a b e same has = tt
head_of (taken k s) a b e same has = ap (pointed e) (slot_same a b k same) ∙ has
head_of (deleted k name) a b e same has = tt
head_of (restored k name) a b e same has = tt

pub sets_of : (step : SnapshotStep) (r a b : Root) (settled before after : ℕ → ℕ) → b.snapshots ≡ a.snapshots → StepsSets step r a settled before after → StepsSets step r b settled before after
sets_of unchanged r a b settled before after same sets = sets
sets_of (taken k s) r a b settled before after same sets = (
  subst (λ (p : Pointer). ChangesPlane k p 1 (λ x. bit_at (settled x) 0) before after) (sym (slot_same a b k same)) sets.0,
  λ x there. sets.1 x (sym (slot_same a b k same) ∙ there),
)
sets_of (deleted k name) r a b settled before after same sets = sets
sets_of (restored k name) r a b settled before after same sets = sets

-- over a map with no change
pub entries_of : (step : SnapshotStep) (r new : Root) (m x : BlockMap) (after : ℕ → ℕ) → x ≡ m → IsClean m → StepsEntries step r new (settled_at x.parts.items) (entry_at x.parts.items) after
    → StepsEntries step r new (settled_at m.parts.items) (settled_at m.parts.items) after
entries_of step r new m x after same clean stepped =
    subst (λ (f : ℕ → ℕ). StepsEntries step r new (settled_at m.parts.items) f after) (fun_ext clean)
    (subst (λ (y : BlockMap). StepsEntries step r new (settled_at y.parts.items) (entry_at y.parts.items) after) same stepped)

-- a root of the newest version has no slots that must be free
pub no_further : (slots : List Pointer) → length slots ≡ 30 → All (λ p. p ≡ Hole) (drop 30 slots)
no_further slots is = λ k x lt. absurd (omega (arith, lt, length-drop 30 slots, is))
