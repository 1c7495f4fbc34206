-- A point that takes, deletes or restores a snapshot leaves the others as they were.
use Rattle.std.proofs.Common.{◌≡◌, ◌≢◌, ◌⊎◌, inl, inr, ℕ, None, ◌<◌, ◌≤◌, true, not, List, [], ◌∷◌, ◌++◌, filter, Some, refl, ap, sym, subst, ◌∙◌, arith}
use Rattle.std.specs.Prelude.{bytes_eq}
use Rattle.std.proofs.lemmas.Bool.{cases_lt, cases_eq, cond-true, cond-false, cases_Bool}
use Rattle.std.proofs.lemmas.Slice.Eq.{bytes_eq-Decides}
use Rattle.layout.specs.StateLimits.{limits_of}
use Rattle.layout.specs.Inode.{IsInode}
use Rattle.layout.specs.Limits.{Sizes}
use Rattle.layout.specs.Places.{Blocks, pointed}
use Rattle.layout.specs.Root.{IsRoot}
use Rattle.layout.specs.SnapRoot.{Snapshot, snapshot_in, snapshot_bytes}
use Rattle.layout.specs.declared.inode.Inode.{Inode}
use Rattle.layout.specs.declared.pointer.Pointer.TheVariants.{Hole, Block}
use Rattle.layout.specs.declared.root.Root.{Root}
use Rattle.layout.specs.declared.version.TheConstants.{VERSION}
use Rattle.model.specs.Paths.{Name}
use Rattle.model.specs.Trees.{Tree}
use Rattle.model.specs.Records.{without_orphans}
use Rattle.model.specs.Volumes.{Volume, IsVolume, tree_of}
use Rattle.images.specs.Contents.{Content, HoldsVolume, tree_contents}
use Rattle.images.specs.Nodes.{Agrees}
use Rattle.images.specs.Points.{HoldObjects, IsPlannedOn, IsSoundPlan}
use Rattle.images.specs.Roots.{HeldTree, Needs, Whole, frozen_inode_file, slot, whole}
use Rattle.images.specs.Snapshots.{HasSnapshot, FitsRoot, AreSnapshots, IsFrozenTree, AreKept, AreKeptAbove}
use Rattle.images.specs.SnapshotSteps.{SnapshotStep, unchanged, taken, deleted, restored, CanStep, CanTake, HasNamed, StepsSlots, SetsSlot, HasHead, base_plane, base_tree, kept_after}
use Rattle.images.specs.Soundness.{IsSoundTree}
use Rattle.images.specs.Room.{KeepsOwn}
use Rattle.images.specs.States.{Holds}
use Rattle.images.proofs.BaseLaws.{step_base, step_sound}
use Rattle.images.proofs.HoldLaws.{point_holds, point_with}
use Rattle.images.proofs.PointLaws.{frozen_stays, frozen_takes}
use Rattle.images.proofs.ReadingLaws.{read_snapshot}
use Rattle.layout.proofs.PointerLaws.{no_block}

-- a slot has one snapshot
snapshot_once : (r : Root) (w : Whole) (k l : ℕ) (s q : Snapshot) → k ≡ l → HasSnapshot r w k s → HasSnapshot r w l q → s ≡ q
snapshot_once r w k l s q same one other =
    let both : Some s ≡ Some q = sym one.read ∙ ap (λ n. snapshot_in r.geometry.layout (w.head n)) same ∙ other.read in cc

-- ---- where one slot is changed

module _ (r new : Root) (w now : Whole) (k : ℕ) (slots : (l : ℕ) → l ≢ k → slot new l ≡ slot r l) (heads : (l : ℕ) → l ≢ k → now.head l ≡ w.head l)
    (geometry : new.geometry ≡ r.geometry) (later : r.generation < new.generation) where
  has_was : (l : ℕ) (q : Snapshot) → l ≢ k → HasSnapshot new now l q → HasSnapshot r w l q
  has_was l q other has = record { block = has.block; there = sym (slots l other) ∙ has.there; read = ap (λ (g : Sizes). snapshot_in g.layout (w.head l)) (sym geometry) ∙ ap (snapshot_in new.geometry.layout) (sym (heads l other)) ∙ has.read }

  has_is : (l : ℕ) (q : Snapshot) → l ≢ k → HasSnapshot r w l q → HasSnapshot new now l q
  has_is l q other has = record { block = has.block; there = slots l other ∙ has.there; read = ap (λ (g : Sizes). snapshot_in g.layout (now.head l)) geometry ∙ ap (snapshot_in r.geometry.layout) (heads l other) ∙ has.read }

  fits_is : (l : ℕ) (q : Snapshot) → l ≢ k → FitsRoot r (w.head l) q → FitsRoot new (now.head l) q
  fits_is l q other fits = record {
    is = fits.is;
    spelled = heads l other ∙ fits.spelled;
    order = omega (arith, fits.order, later);
    inode_file = subst (λ (g : Sizes). IsInode g q.inode_file) (sym geometry) fits.inode_file;
  }

  others_are : AreSnapshots r w → (l block : ℕ) → l ≢ k → slot new l ≡ Block block → (s : Snapshot) × HasSnapshot new now l s × FitsRoot new (now.head l) s
  others_are are l block other there =
      let was = are.each l block (sym (slots l other) ∙ there) in
      (was.0, has_is l was.0 other was.1, fits_is l was.0 other was.2)

  -- ---- one is taken

  module _ (s : Snapshot) (can : CanTake r w k s) (has : HasSnapshot new now k s) where
    other_slot : (l : ℕ) (q : Snapshot) → HasSnapshot r w l q → l ≢ k
    other_slot l q was same = no_block (slot r l) was.block (ap (slot r) same ∙ can.free) was.there

    either : (l : ℕ) (q : Snapshot) → HasSnapshot new now l q → (l ≡ k) × (q ≡ s) ⊎ HasSnapshot r w l q
    either l q there = elim (cases_eq l k) [
      | inl same ↦ inl (same, snapshot_once new now l k q s same there has)
      | inr other ↦ inr (has_was l q other there)
    ]

    name_is : (q : Snapshot) → q ≡ s → q.name ≡ s.name
    name_is q is = ap (λ (x : Snapshot). x.name) is

    order_is : (q : Snapshot) → q ≡ s → q.order ≡ s.order
    order_is q is = ap (λ (x : Snapshot). x.order) is

    pub taken_are : FitsRoot new (now.head k) s → AreSnapshots r w → AreSnapshots new now
    taken_are fits are = record {
      each = λ l block there. elim (cases_eq l k) [
        | inl same ↦ (s, subst (λ n. HasSnapshot new now n s) (sym same) has, subst (λ n. FitsRoot new (now.head n) s) (sym same) fits)
        | inr other ↦ others_are are l block other there
      ];
      names = λ l m q p one two same. elim (either l q one) [
        | inl a ↦ elim (either m p two) [
          | inl b ↦ a.0 ∙ sym b.0
          | inr b ↦ absurd (can.name m p b (sym same ∙ name_is q a.1))
        ]
        | inr a ↦ elim (either m p two) [
          | inl b ↦ absurd (can.name l q a (same ∙ name_is p b.1))
          | inr b ↦ are.names l m q p a b same
        ]
      ];
      orders = λ l m q p one two same. elim (either l q one) [
        | inl a ↦ elim (either m p two) [
          | inl b ↦ a.0 ∙ sym b.0
          | inr b ↦ absurd (omega (arith, can.newest m p b, same, order_is q a.1))
        ]
        | inr a ↦ elim (either m p two) [
          | inl b ↦ absurd (omega (arith, can.newest l q a, same, order_is p b.1))
          | inr b ↦ are.orders l m q p a b same
        ]
      ];
    }

    module _ (trees : (l : ℕ) → l ≢ k → now.frozen l ≡ w.frozen l) (tree : Tree) (frozen : IsFrozenTree (limits_of new.geometry) (now.frozen k) tree) where
      pub taken_kept : (above : ℕ) (pairs : List (Name × Tree)) → above < s.order → AreKeptAbove r w above pairs → AreKeptAbove new now above (pairs ++ (s.name, tree) ∷ [])
      taken_kept above [] low kept = (
        k,
        s,
        record {
          has = has;
          above_it = low;
          least = λ l q there up. elim (either l q there) [
            | inl a ↦ omega (arith, order_is q a.1)
            | inr b ↦ absurd (omega (arith, up, kept l q b))
          ];
        },
        refl,
        frozen,
        λ l q there. elim (either l q there) [
          | inl a ↦ omega (arith, order_is q a.1)
          | inr b ↦ omega (arith, can.newest l q b)
        ],
      )
      taken_kept above (pair ∷ pairs) low kept =
          let next = kept.2 in
          let other = other_slot kept.0 kept.1 next.has in (
            kept.0,
            kept.1,
            record {
              has = has_is kept.0 kept.1 other next.has;
              above_it = next.above_it;
              least = λ l q there up. elim (either l q there) [
                | inl a ↦ omega (arith, can.newest kept.0 kept.1 next.has, order_is q a.1)
                | inr b ↦ next.least l q b up
              ];
            },
            kept.3,
            subst (λ (t : HeldTree). IsFrozenTree (limits_of new.geometry) t pair.1) (sym (trees kept.0 other))
                (subst (λ (g : Sizes). IsFrozenTree (limits_of g) (w.frozen kept.0) pair.1) (sym geometry) kept.4),
            taken_kept kept.1.order pairs (can.newest kept.0 kept.1 next.has) kept.5,
          )

  -- ---- one is deleted

  module _ (name : Name) (can : HasNamed r w k name) (none : slot new k ≡ Hole) (are : AreSnapshots r w) where
    away : (l : ℕ) (q : Snapshot) → HasSnapshot new now l q → l ≢ k
    away l q there same = no_block (slot new l) there.block (ap (slot new) same ∙ none) there.there

    was : (l : ℕ) (q : Snapshot) → HasSnapshot new now l q → HasSnapshot r w l q
    was l q there = has_was l q (away l q there) there

    pub deleted_are : AreSnapshots new now
    deleted_are = record {
      each = λ l block there. elim (cases_eq l k) [
        | inl same ↦ absurd (no_block (slot new l) block (ap (slot new) same ∙ none) there)
        | inr other ↦ others_are are l block other there
      ];
      names = λ l m q p one two same. are.names l m q p (was l q one) (was m p two) same;
      orders = λ l m q p one two same. are.orders l m q p (was l q one) (was m p two) same;
    }

    -- the list above a number is that above a lower one, where no snapshot is between
    lower : (low high : ℕ) (pairs : List (Name × Tree)) → low ≤ high → ((l : ℕ) (q : Snapshot) → HasSnapshot new now l q → low < q.order → high < q.order)
        → AreKeptAbove new now high pairs → AreKeptAbove new now low pairs
    lower low high [] le up kept = λ l q there. elim (cases_lt low q.order) [
      | inl lt ↦ absurd (omega (arith, up l q there lt, kept l q there))
      | inr ge ↦ ge
    ]
    lower low high (pair ∷ pairs) le up kept =
        let next = kept.2 in (
          kept.0,
          kept.1,
          record { has = next.has; above_it = omega (arith, le, next.above_it); least = λ l q there lt. next.least l q there (up l q there lt) },
          kept.3,
          kept.4,
          kept.5,
        )

    module _ (trees : (l : ℕ) → l ≢ k → now.frozen l ≡ w.frozen l) where
      abbrev rest_of : List (Name × Tree) → List (Name × Tree)
      rest_of pairs = filter (λ pair. not (bytes_eq pair.0 name)) pairs

      pub deleted_kept : (above : ℕ) (pairs : List (Name × Tree)) → AreKeptAbove r w above pairs → AreKeptAbove new now above (filter (λ pair. not (bytes_eq pair.0 name)) pairs)
      deleted_kept above [] kept = λ l q there. kept l q (was l q there)
      deleted_kept above (pair ∷ pairs) kept =
          let next = kept.2 in elim (cases_Bool (bytes_eq pair.0 name)) [
            | inl same ↦
                let slot_is : kept.0 ≡ k = are.names kept.0 k kept.1 can.snapshot next.has can.has (sym kept.3 ∙ (bytes_eq-Decides pair.0 name).0 same ∙ sym can.named) in
                subst (AreKeptAbove new now above) (sym (cond-false (not (bytes_eq pair.0 name)) (pair ∷ rest_of pairs) (rest_of pairs) (ap not same)))
                (lower above kept.1.order (rest_of pairs) (omega (arith, next.above_it))
                (λ l q there lt. elim (cases_lt kept.1.order q.order) [
                  | inl up ↦ up
                  | inr down ↦
                      let le = next.least l q (was l q there) lt in
                      absurd (away l q there (are.orders l kept.0 q kept.1 (was l q there) next.has (omega (arith, le, down)) ∙ slot_is))
                ])
                (deleted_kept kept.1.order pairs kept.5))
            | inr differs ↦
                let other : kept.0 ≢ k = λ same.
                let is : kept.1 ≡ can.snapshot = snapshot_once r w kept.0 k kept.1 can.snapshot same next.has can.has in
                let yes_it : bytes_eq pair.0 name ≡ true = (bytes_eq-Decides pair.0 name).1 (kept.3 ∙ ap (λ (x : Snapshot). x.name) is ∙ can.named) in
                absurd (cc) in
                subst (AreKeptAbove new now above) (sym (cond-true (not (bytes_eq pair.0 name)) (pair ∷ rest_of pairs) (rest_of pairs) (ap not differs)))
                ((
                  kept.0,
                  kept.1,
                  record { has = has_is kept.0 kept.1 other next.has; above_it = next.above_it; least = λ l q there lt. next.least l q (was l q there) lt },
                  kept.3,
                  subst (λ (t : HeldTree). IsFrozenTree (limits_of new.geometry) t pair.1) (sym (trees kept.0 other))
                      (subst (λ (g : Sizes). IsFrozenTree (limits_of g) (w.frozen kept.0) pair.1) (sym geometry) kept.4),
                  deleted_kept kept.1.order pairs kept.5,
                ))
          ]

-- ---- a point with a step

head_is : (e : Blocks) (new : Root) (k : ℕ) (bytes : List ℕ) → pointed e (slot new k) ≡ bytes → (whole e new).head k ≡ bytes
unfolding whole
head_is e new k bytes is = is

module _ (d e : Blocks) (r new : Root) (files : ℕ → Content) (first v : Volume) (snapshots : List (Name × Tree))
    (root : IsRoot r) (holds : Holds r (whole d r) first snapshots) (same : Agrees (Needs r (whole d r)) d e) (step : SnapshotStep)
    (plan : IsPlannedOn (whole d r) (base_tree step (whole d r)) (base_plane step) r e new files) (good : IsSoundPlan r.geometry e plan.inode plan.changed)
    (own : KeepsOwn new (whole e new)) (later : r.generation < new.generation) (newest : new.version ≡ VERSION)
    (objects : HoldObjects r.geometry.inodes files v) (volume : IsVolume (limits_of r.geometry) v) (may : CanStep step r (whole d r)) where
  abbrev Keeps : List (Name × Tree) → Type 0
  Keeps pairs = Holds new (whole e new) v pairs

  -- whatever became of the snapshots
  planned : ((k block : ℕ) → slot new k ≡ Block block → IsSoundTree r.geometry ((whole e new).frozen k))
      → AreSnapshots new (whole e new) → (pairs : List (Name × Tree)) → AreKept new (whole e new) pairs → Keeps pairs
  planned = point_with d e r new (base_tree step (whole d r)) (base_plane step) files first v snapshots root holds
      (step_base d r step holds.sound may) (step_sound d r step holds.sound may) same plan good own newest objects volume

  stays_holds : new.snapshots ≡ r.snapshots → Keeps snapshots
  stays_holds = point_holds d e r new (base_tree step (whole d r)) (base_plane step) files first v snapshots root holds
      (step_base d r step holds.sound may) (step_sound d r step holds.sound may) same plan good own newest objects volume later

  module _ (k : ℕ) (slots : (l : ℕ) → l ≢ k → slot new l ≡ slot r l) where
    heads : (l : ℕ) → l ≢ k → (whole e new).head l ≡ (whole d r).head l
    heads l other = (frozen_stays d e r new l same plan.geometry (slots l other)).1

    trees : (l : ℕ) → l ≢ k → (whole e new).frozen l ≡ (whole d r).frozen l
    trees l other = (frozen_stays d e r new l same plan.geometry (slots l other)).0

    others_sound : (l block : ℕ) → l ≢ k → slot new l ≡ Block block → IsSoundTree r.geometry ((whole e new).frozen l)
    others_sound l block other there = subst (IsSoundTree r.geometry) (sym (trees l other)) (holds.sound.frozen l block (sym (slots l other) ∙ there))

  taken_holds : (k : ℕ) (s : Snapshot) → CanTake r (whole d r) k s → (block : ℕ) → SetsSlot r new k (Block block) → pointed e (slot new k) ≡ snapshot_bytes s
      → Keeps (snapshots ++ (s.name, tree_of (without_orphans first) (λ n. None)) ∷ [])
  taken_holds k s can block sets head =
      let layout : s.inode_file.layout ≡ r.geometry.layout = ap (λ (i : Inode). i.layout) can.tree ∙ root.inode_file.layout in
      let spelled = read_snapshot r.geometry.layout s can.is layout in
      let head_bytes = head_is e new k (snapshot_bytes s) head in
      let bytes : e block ≡ snapshot_bytes s = ap (pointed e) (sym sets.there) ∙ head in
      let tree_is : (whole e new).frozen k ≡ (whole d r).active =
      frozen_takes d e r new k block same plan.geometry sets.there (ap (frozen_inode_file r.geometry.layout) bytes ∙ spelled.1 ∙ can.tree) in
      let has : HasSnapshot new (whole e new) k s = record { block = block; there = sets.there; read = ap (λ (g : Sizes). snapshot_in g.layout ((whole e new).head k)) plan.geometry ∙ ap (snapshot_in r.geometry.layout) head_bytes ∙ spelled.0 } in
      let heads_stay = heads k sets.others in
      planned
      (λ l other there. elim (cases_eq l k) [
        | inl is ↦ subst (IsSoundTree r.geometry) (sym (ap (whole e new).frozen is ∙ tree_is)) holds.sound.active
        | inr not_it ↦ others_sound k sets.others l other not_it there
      ])
      (taken_are r new (whole d r) (whole e new) k sets.others heads_stay plan.geometry later s can has
      (record {
        is = can.is;
        spelled = head_bytes;
        order = omega (arith, can.order, later);
        inode_file = subst (λ (g : Sizes). IsInode g s.inode_file) (sym plan.geometry) (subst (IsInode r.geometry) (sym can.tree) root.inode_file);
      })
      holds.sound.snapshots)
      (snapshots ++ (s.name, tree_of (without_orphans first) (λ n. None)) ∷ [])
      (taken_kept r new (whole d r) (whole e new) k sets.others heads_stay plan.geometry later s can has (trees k sets.others) (tree_of (without_orphans first) (λ n. None)) (
        first,
        subst (λ (t : HeldTree). HoldsVolume new.geometry.inodes (tree_contents t) first) (sym tree_is)
            (subst (λ (g : Sizes). HoldsVolume g.inodes (tree_contents (whole d r).active) first) (sym plan.geometry) holds.holds),
        subst (λ (g : Sizes). IsVolume (limits_of g) first) (sym plan.geometry) holds.volume,
        refl,
      )
      0 snapshots (omega (arith, can.is.first)) holds.kept)

  deleted_holds : (k : ℕ) (name : Name) → HasNamed r (whole d r) k name → SetsSlot r new k Hole
      → Keeps (filter (λ pair. not (bytes_eq pair.0 name)) snapshots)
  deleted_holds k name can sets =
      let heads_stay = heads k sets.others in
      planned
      (λ l block there. elim (cases_eq l k) [
        | inl is ↦ absurd (no_block (slot new l) block (ap (slot new) is ∙ sets.there) there)
        | inr other ↦ others_sound k sets.others l block other there
      ])
      (deleted_are r new (whole d r) (whole e new) k sets.others heads_stay plan.geometry later name can sets.there holds.sound.snapshots)
      (filter (λ pair. not (bytes_eq pair.0 name)) snapshots)
      (deleted_kept r new (whole d r) (whole e new) k sets.others heads_stay plan.geometry later name can sets.there holds.sound.snapshots (trees k sets.others) 0 snapshots holds.kept)

  holds_after : (made : SnapshotStep) → CanStep made r (whole d r) → StepsSlots made r new → HasHead made new e → Keeps (kept_after made first snapshots)
  holds_after unchanged can slots head = stays_holds slots
  holds_after (taken k s) can slots head = taken_holds k s can slots.0 slots.1 head
  holds_after (deleted k name) can slots head = deleted_holds k name can slots
  holds_after (restored k name) can slots head = stays_holds slots

  pub step_holds : StepsSlots step r new → HasHead step new e → Keeps (kept_after step first snapshots)
  step_holds = holds_after step may
