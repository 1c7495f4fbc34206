-- A point whose plan is in its grammar leaves a root that holds the planned volume.
use Rattle.std.proofs.Common.{◌≡◌, inl, inr, ℕ, zero, suc, false, ◌<◌, ◌≤◌, List, [], ◌∷◌, slice_index_or, Option, None, refl, ap, sym, subst, ◌∙◌, arith}
use Rattle.std.proofs.lemmas.Bool.{cases_lt, cases_Bool}
use Rattle.layout.specs.StateLimits.{limits_of}
use Rattle.model.specs.declared.limits.Limits.{Limits}
use Rattle.layout.specs.Inode.{IsInode}
use Rattle.layout.specs.Limits.{Sizes}
use Rattle.layout.specs.Places.{Blocks}
use Rattle.layout.specs.Root.{IsRoot}
use Rattle.layout.specs.SnapRoot.{Snapshot, snapshot_in}
use Rattle.layout.specs.declared.inode.Inode.{Inode}
use Rattle.layout.specs.declared.pointer.Pointer.TheVariants.{Hole, Block}
use Rattle.layout.specs.declared.root.Root.{Root}
use Rattle.layout.specs.declared.version.TheConstants.{VERSION}
use Rattle.model.specs.Paths.{Name}
use Rattle.model.specs.Trees.{Tree}
use Rattle.model.specs.Volumes.{Node, Volume, IsVolume}
use Rattle.images.specs.Nodes.{Held, held, Agrees}
use Rattle.images.specs.Roots.{HeldTree, Whole, whole, Needs, slot, inode_under}
use Rattle.images.specs.BlockMap.{NamesOnce}
use Rattle.images.specs.Contents.{Content, StandsAs, HoldsVolume, tree_contents}
use Rattle.images.specs.Soundness.{IsSoundFile, IsSoundTree, FitsNumber}
use Rattle.images.specs.Snapshots.{HasSnapshot, AreSnapshots, IsFrozenTree, AreKept, AreKeptAbove}
use Rattle.images.specs.States.{IsSound, Holds}
use Rattle.images.specs.Room.{KeepsOwn}
use Rattle.images.specs.Points.{IsBase, IsPlannedOn, IsSoundPlan, HoldObjects}
use Rattle.images.proofs.PointLaws.{point_stands, frozen_stays, tree_is, stays_held}
use Rattle.images.proofs.WithinLaws.{newest_within, root_plain}
use Rattle.model.proofs.OptionLaws.{some_or_none}

-- ---- the tree

pub active_tree : (e : Blocks) (r : Root) (inode : ℕ → Inode) → ((n : ℕ) → inode_under (held e r.inode_file) r.geometry.inodes n ≡ inode n)
    → (whole e r).active ≡ (λ n. held e (inode n))
unfolding whole
active_tree e r inode is = tree_is e r inode is

pub sound_tree : (d e : Blocks) (r new : Root) (t : HeldTree) (plane : ℕ) (files : ℕ → Content) → IsRoot r → IsSound r (whole d r)
    → IsBase d r t plane → IsSoundTree r.geometry t
    → Agrees (Needs r (whole d r)) d e → (plan : IsPlannedOn (whole d r) t plane r e new files)
    → IsSoundPlan r.geometry e plan.inode plan.changed → IsSoundTree r.geometry (λ n. held e (plan.inode n))
unfolding held
sound_tree d e r new t plane files root sound base old same plan good =
    let stays : (n : ℕ) → plan.changed n ≡ false → held e (plan.inode n) ≡ t n = λ n no_it.
    stays_held d e r t plane n (plan.inode n) base same (plan.stays n no_it) in
    let settled = point_stands d e r new t plane files root sound.exact base same plan in
    record {
      files = λ n. elim (cases_Bool (plan.changed n)) [
        | inl yes_it ↦ good.files n yes_it
        | inr no_it ↦ subst (IsSoundFile r.geometry) (sym (stays n no_it)) (old.files n)
      ];
      kinds = λ n. elim (cases_Bool (plan.changed n)) [
        | inl yes_it ↦ good.kinds n yes_it
        | inr no_it ↦ subst (λ (h : Held). FitsNumber n h.inode.kind) (sym (stays n no_it)) (old.kinds n)
      ];
      inodes = good.inodes;
      numbers = good.numbers;
      inode_map = good.inode_map;
      block_map = good.block_map;
      once = subst NamesOnce (active_tree e new plan.inode plan.inodes) settled.once;
    }

-- ---- the snapshots, where each slot has the same

slot_same : (r new : Root) → new.snapshots ≡ r.snapshots → (k : ℕ) → slot new k ≡ slot r k
slot_same r new same zero = refl
slot_same r new same (suc k) = ap (λ pointers. slice_index_or pointers k Hole) same

module _ (r new : Root) (w now : Whole) (slots : (k : ℕ) → slot new k ≡ slot r k) (heads : (k : ℕ) → now.head k ≡ w.head k)
    (geometry : new.geometry ≡ r.geometry) where
  has_was : (k : ℕ) (s : Snapshot) → HasSnapshot new now k s → HasSnapshot r w k s
  has_was k s has = record { block = has.block; there = sym (slots k) ∙ has.there; read = ap (λ (g : Sizes). snapshot_in g.layout (w.head k)) (sym geometry) ∙ ap (snapshot_in new.geometry.layout) (sym (heads k)) ∙ has.read }

  has_is : (k : ℕ) (s : Snapshot) → HasSnapshot r w k s → HasSnapshot new now k s
  has_is k s has = record { block = has.block; there = slots k ∙ has.there; read = ap (λ (g : Sizes). snapshot_in g.layout (now.head k)) geometry ∙ ap (snapshot_in r.geometry.layout) (heads k) ∙ has.read }

  pub snapshots_stay : r.generation ≤ new.generation → AreSnapshots r w → AreSnapshots new now
  snapshots_stay later are = record {
    each = λ k block there.
        let was = are.each k block (sym (slots k) ∙ there) in (
          was.0,
          has_is k was.0 was.1,
          record {
            is = was.2.is;
            spelled = heads k ∙ was.2.spelled;
            order = omega (arith, was.2.order);
            inode_file = subst (λ (g : Sizes). IsInode g was.0.inode_file) (sym geometry) was.2.inode_file;
          },
        );
    names = λ k l s q one two same. are.names k l s q (has_was k s one) (has_was l q two) same;
    orders = λ k l s q one two same. are.orders k l s q (has_was k s one) (has_was l q two) same;
  }

  pub kept_stay : ((k : ℕ) → now.frozen k ≡ w.frozen k)
      → (above : ℕ) (pairs : List (Name × Tree)) → AreKeptAbove r w above pairs → AreKeptAbove new now above pairs
  kept_stay trees above [] kept = λ k s has. kept k s (has_was k s has)
  kept_stay trees above (pair ∷ pairs) kept =
      let next = kept.2 in (
        kept.0,
        kept.1,
        record { has = has_is kept.0 kept.1 next.has; above_it = next.above_it; least = λ l q has. next.least l q (has_was l q has) },
        kept.3,
        subst (λ (t : HeldTree). IsFrozenTree (limits_of new.geometry) t pair.1) (sym (trees kept.0))
            (subst (λ (g : Sizes). IsFrozenTree (limits_of g) (w.frozen kept.0) pair.1) (sym geometry) kept.4),
        kept_stay trees kept.1.order pairs kept.5,
      )

-- ---- the objects

-- the file system's own files are no objects
own_none : (limits : Limits) (n : ℕ) (v : Volume) → IsVolume limits v → n < 3 → v n ≡ None
own_none limits n v volume low = elim (some_or_none (v n)) [
  | inr none ↦ none
  | inl some ↦ elim (volume.keeps.numbers n some) [ inl is ↦ absurd (omega (arith, is)) | inr high ↦ absurd (omega (arith, high.0)) ]
]

own_stands : (inodes n : ℕ) (c : Content) (o : Option Node) → n < 3 → FitsNumber n c.kind → o ≡ None → StandsAs c.kind inodes c o
own_stands inodes zero c o low fits none = subst (λ kind. StandsAs kind inodes c o) (sym fits) none
own_stands inodes (suc zero) c o low fits none = subst (λ kind. StandsAs kind inodes c o) (sym fits) none
own_stands inodes (suc (suc zero)) c o low fits none = subst (λ kind. StandsAs kind inodes c o) (sym fits) none
own_stands inodes (suc (suc (suc n))) c o low fits none = absurd (omega arith)

objects_held : (s : Sizes) (t : HeldTree) (files : ℕ → Content) (v : Volume) → IsSoundTree s t → ((n : ℕ) → 3 ≤ n → tree_contents t n ≡ files n)
    → HoldObjects s.inodes files v → IsVolume (limits_of s) v → HoldsVolume s.inodes (tree_contents t) v
objects_held s t files v sound content objects volume n = elim (cases_lt n 3) [
  | inl low ↦ own_stands s.inodes n (tree_contents t n) (v n) low (sound.kinds n) (own_none (limits_of s) n v volume low)
  | inr ordinary ↦ subst (λ (c : Content). StandsAs c.kind s.inodes c (v n)) (sym (content n ordinary)) (objects n ordinary)
]

-- ---- all of it

-- whatever became of the snapshots
module _ (d e : Blocks) (r new : Root) (t : HeldTree) (plane : ℕ) (files : ℕ → Content) (first v : Volume) (snapshots : List (Name × Tree))
    (root : IsRoot r) (holds : Holds r (whole d r) first snapshots) (base : IsBase d r t plane) (old : IsSoundTree r.geometry t)
    (same : Agrees (Needs r (whole d r)) d e) (plan : IsPlannedOn (whole d r) t plane r e new files)
    (good : IsSoundPlan r.geometry e plan.inode plan.changed) (own : KeepsOwn new (whole e new)) (newest : new.version ≡ VERSION)
    (objects : HoldObjects r.geometry.inodes files v) (volume : IsVolume (limits_of r.geometry) v) where
  pub point_with : ((k block : ℕ) → slot new k ≡ Block block → IsSoundTree r.geometry ((whole e new).frozen k))
      → AreSnapshots new (whole e new) → (pairs : List (Name × Tree)) → AreKept new (whole e new) pairs → Holds new (whole e new) v pairs
  point_with frozen are pairs kept =
      let settled = point_stands d e r new t plane files root holds.sound.exact base same plan in
      let tree : IsSoundTree r.geometry (whole e new).active = subst (IsSoundTree r.geometry) (sym (active_tree e new plan.inode plan.inodes)) (sound_tree d e r new t plane files root holds.sound base old same plan good) in
      record {
        sound = record {
          active = subst (λ (g : Sizes). IsSoundTree g (whole e new).active) (sym plan.geometry) tree;
          frozen = λ k block there. subst (λ (g : Sizes). IsSoundTree g ((whole e new).frozen k)) (sym plan.geometry) (frozen k block there);
          within = newest_within r.geometry new.version (whole e new).active newest (root_plain r root) tree;
          frozen_within = λ k block there. newest_within r.geometry new.version ((whole e new).frozen k) newest (root_plain r root) (frozen k block there);
          snapshots = are;
          exact = settled.exact;
          own = own;
        };
        holds = subst (λ (g : Sizes). HoldsVolume g.inodes (tree_contents (whole e new).active) v) (sym plan.geometry)
            (objects_held r.geometry (whole e new).active files v tree settled.content objects volume);
        volume = subst (λ (g : Sizes). IsVolume (limits_of g) v) (sym plan.geometry) volume;
        kept = kept;
      }

  -- and where all stay
  pub point_holds : r.generation < new.generation → new.snapshots ≡ r.snapshots → Holds new (whole e new) v snapshots
  point_holds later slots_stay =
      let sound = holds.sound in
      let slots = slot_same r new slots_stay in
      let heads : (k : ℕ) → (whole e new).head k ≡ (whole d r).head k = λ k. (frozen_stays d e r new k same plan.geometry (slots k)).1 in
      let trees : (k : ℕ) → (whole e new).frozen k ≡ (whole d r).frozen k = λ k. (frozen_stays d e r new k same plan.geometry (slots k)).0 in
      point_with (λ k block there. subst (IsSoundTree r.geometry) (sym (trees k)) (sound.frozen k block (sym (slots k) ∙ there)))
      (snapshots_stay r new (whole d r) (whole e new) slots heads plan.geometry (omega (arith, later)) sound.snapshots)
      snapshots (kept_stay r new (whole d r) (whole e new) slots heads plan.geometry trees 0 snapshots holds.kept)
