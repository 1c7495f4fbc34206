-- None of the nine faults stands in images that open.
use Rattle.layout.specs.Trees.{has_attributes}
use Rattle.std.proofs.Common.{◌≡◌, ◌≢◌, ◌⊎◌, inl, inr, ℕ, zero, suc, ◌/◌, ◌≤◌, ◌<◌, ◌^◌, All, List, [], ◌∷◌, Option, Some, None, IsSome, is_some, refl, ap, sym, subst, ◌∙◌, arith}
use Rattle.std.proofs.lemmas.Bool.{cases_eq, cases_lt, false≢true}
use Rattle.std.proofs.lemmas.List.Elements.{All-head, All-tail}
use Rattle.std.proofs.Math.Nat.{eq-or-lt_of_le}
use Rattle.layout.specs.StateLimits.{limits_of}
use Rattle.model.specs.declared.limits.Limits.{Limits}
use Rattle.layout.specs.Limits.{Sizes}
use Rattle.layout.specs.Places.{Blocks, blocks_of}
use Rattle.layout.specs.Record.{IsChange}
use Rattle.model.specs.Counting.{Counts}
use Rattle.model.specs.Records.{CanEdit, CanRename, CanReplace, Change, Edit, Replays, applied, change_attributes, create, set_file, truncate, link, rename, remove_name, write}
use Rattle.model.proofs.MarkLemmas.{records_keep_volumes}
use Rattle.model.proofs.CountLemmas.{one_less, same_count}
use Rattle.model.proofs.ListingLemmas.{names_apart}
use Rattle.model.proofs.OptionLaws.{absent, none_some}
use Rattle.images.specs.Replaying.{LeavesPlace, ReplaysWithin}
use Rattle.layout.specs.Root.{IsRoot}
use Rattle.layout.specs.SnapRoot.{Snapshot}
use Rattle.layout.specs.declared.TheConstants.{SLOT_A, SLOT_B}
use Rattle.layout.specs.declared.inode.Inode.{Inode}
use Rattle.layout.specs.declared.kind.Kind.{Kind}
use Rattle.layout.specs.declared.kind.Kind.TheVariants.{Free}
use Rattle.layout.specs.declared.pointer.Pointer.TheVariants.{Block}
use Rattle.layout.specs.declared.root.Root.{Root}
use Rattle.layout.specs.declared.trees.Layout.{Layout}
use Rattle.layout.proofs.OpenLaws.{newest_once}
use Rattle.model.specs.Paths.{Name}
use Rattle.model.specs.States.{State}
use Rattle.model.specs.Trees.{Tree}
use Rattle.model.specs.Volumes.{IsGraph, IsVolume, Node, Volume, entries}
use Rattle.model.specs.declared.limits.TheConstants.{FIRST_NUMBER, ROOT_NUMBER}
use Rattle.images.specs.Contents.{Content, HoldsVolume, StandsAs, content_of, tree_contents}
use Rattle.images.specs.Faults.{HasNoFault, HasRoots, HoldsGraph, IsFaultless, IsFaultlessUnder, IsMapGrammar}
use Rattle.images.specs.Nodes.{Held, held}
use Rattle.images.specs.Roots.{HeldTree, Whole, frozen_at, frozen_inode_file, slot, tree, whole}
use Rattle.images.specs.Snapshots.{AreKeptAbove, AreSnapshots, HasSnapshot, IsFrozenTree}
use Rattle.images.specs.Sizes.{HoldsVolumeIn}
use Rattle.images.specs.Soundness.{FitsNumber, HasNoHole, IsSoundFile, IsSoundTree, by_sizes}
use Rattle.images.specs.States.{Opens}
use Rattle.images.proofs.KindLaws.{directory_kind}
use Rattle.images.proofs.ReadingLaws.{read_past}
use Rattle.images.proofs.LowLaws.{low, low_applied, low_applies, low_place, low_reads}
use Rattle.images.proofs.SizeLaws.{low_holds, same_some, sized_graph}
use Rattle.images.proofs.StateLaws.{newest_is_root}

-- past the last number all is free
EndsFree : ℕ → HeldTree → Type 0
EndsFree inodes t = (n : ℕ) → inodes ≤ n → (t n).inode.kind ≡ Free

tree_ends : (d : Blocks) (inodes : ℕ) (top : Inode) → 1 ≤ inodes → EndsFree inodes (tree d inodes top)
unfolding EndsFree held
tree_ends d inodes top some n past =
    ap (λ (h : Held). h.inode.kind) (read_past d inodes top n (omega (arith, some, past)) past)

-- the names of a tree, with what its files count
graph : (inodes : ℕ) (t : HeldTree) → (g : HoldsGraph inodes t) → IsGraph g.names.volume
graph inodes t g = record { naming = g.names.naming; counts = g.counts }

map_grammar : (s : Sizes) (h : Held) → IsSoundFile s h → HasNoHole h → IsMapGrammar h
map_grammar s h sound stored = record { stored = stored; last = sound.bytes.readable (h.inode.size / 4096); ends = sound.bytes.ends }

-- a tree in its grammar that holds a volume has no fault
faultless : (s : Sizes) (t : HeldTree) (v : Volume) → FIRST_NUMBER ≤ s.inodes → EndsFree s.inodes t → IsSoundTree s t → HoldsVolume s.inodes (tree_contents t) v → IsVolume (limits_of s) v → IsFaultless s t
unfolding EndsFree
faultless s t v many ends sound holds is = record {
  grammar = record {
    files = λ n. record { inode = (sound.files n).inode; indirect = (sound.files n).indirect; bytes = tt };
    kinds = sound.kinds;
    root = directory_kind (t 3).inode.kind s.inodes (content_of (t 3)) (v 3) (holds 3) is.graph.naming.root;
    inodes = sound.inodes;
    inode_map = map_grammar s (t 1) (sound.files 1) sound.inode_map;
    readable = (sound.files 1).bytes.readable;
    block_map = map_grammar s (t 2) (sound.files 2) sound.block_map;
    numbers = record {
      own = λ n low. (sound.numbers n).1 (inl low);
      past = λ n past taken. elim ((sound.numbers n).0 taken) [
        | inl low ↦ omega (arith, many, low, past)
        | inr used ↦ used (ends n past)
      ];
    };
  };
  once = sound.once;
  numbers = sound.numbers;
  names = record {
    names = record { readable = λ n _. (sound.files n).bytes.readable; volume = v; holds = holds; naming = is.graph.naming };
    counts = is.graph.counts;
  };
}

-- the tree of each snapshot holds a volume
kept_tree : (r : Root) (w : Whole) (above : ℕ) (pairs : List (Name × Tree)) → AreSnapshots r w → AreKeptAbove r w above pairs → (k : ℕ) (s : Snapshot) → HasSnapshot r w k s → above < s.order → (kept : Tree) × IsFrozenTree (limits_of r.geometry) (w.frozen k) kept
kept_tree r w above [] are kept k s has later = absurd (omega (arith, kept k s has, later))
kept_tree r w above (p ∷ ps) are kept k s has later =
    elim (eq-or-lt_of_le (kept.2.least k s has later)) [
      | inl same ↦
          (p.1, subst (λ (l : ℕ). IsFrozenTree (limits_of r.geometry) (w.frozen l) p.1) (are.orders kept.0 k kept.1 s kept.2.has has same) kept.4)
      | inr more ↦ kept_tree r w kept.1.order ps are kept.5 k s has more
    ]

-- the tree of a snapshot ends with its last number
frozen_ends : (d : Blocks) (r : Root) (k block : ℕ) → 1 ≤ r.geometry.inodes → slot r k ≡ Block block → EndsFree r.geometry.inodes ((whole d r).frozen k)
unfolding EndsFree whole
frozen_ends d r k block some there =
    subst (EndsFree r.geometry.inodes) (sym (ap (frozen_at d r.geometry) there)) (tree_ends d r.geometry.inodes (frozen_inode_file r.geometry.layout (d block)) some)

active_ends : (d : Blocks) (r : Root) → 1 ≤ r.geometry.inodes → EndsFree r.geometry.inodes (whole d r).active
unfolding EndsFree whole
active_ends d r some = tree_ends d r.geometry.inodes r.inode_file some

-- ---- the log

some_same : {m n : ℕ} → Some m ≡ Some n → m ≡ n
some_same e = cc

-- a directory of a volume has place for what is moved there
module _ (limits : Limits) (v : Volume) (volume : IsVolume limits v) (d : ℕ) (x : Name) (k : ℕ) (y : Name) (can : CanRename limits v d x k y) where
  abbrev Has : Name → Type 0
  Has z = IsSome (entries v k z)

  abbrev Stays : Name → Type 0
  Stays z = IsSome (entries v k z) × (z ≢ y) × (d ≡ k → z ≢ x)

  -- beside the new name there are so many, and one fewer without the old one
  inside : (count : ℕ) → d ≡ k → x ≢ y → Counts (λ (z : Name). Has z × (z ≢ y)) count → count ≤ limits.directory_names → LeavesPlace limits v (rename d x k y)
  inside count same apart counts most =
      let there : entries v k x ≡ Some can.number = ap (λ (j : ℕ). entries v j x) (sym same) ∙ can.there in
      let less = one_less (λ (z : Name). Has z × (z ≢ y)) x count names_apart (subst (λ (o : Option ℕ). IsSome o) (sym there) refl, apart) counts in
      let fewer = less.1 in (
        less.0,
        same_count (λ (z : Name). (Has z × (z ≢ y)) × (z ≢ x)) Stays less.0 (λ z. (
          (λ ((some, not_new), not_old). (some, not_new, λ _. not_old)),
          (λ (some, not_new, not_old). ((some, not_new), not_old same)),
        )) less.2,
        omega (arith, fewer, most),
      )

  across : (count : ℕ) → (d ≡ k → ⊥) → Counts (λ (z : Name). Has z × (z ≢ y)) count → count < limits.directory_names → LeavesPlace limits v (rename d x k y)
  across count other counts room = (
    count,
    same_count (λ (z : Name). Has z × (z ≢ y)) Stays count (λ z. (
      (λ (some, not_new). (some, not_new, λ same. absurd (other same))),
      (λ (some, not_new, not_old). (some, not_new)),
    )) counts,
    room,
  )

  -- where nothing has the new name, nothing is taken away by it
  all_stay : (count : ℕ) → entries v k y ≡ None → Counts Has count → Counts (λ (z : Name). Has z × (z ≢ y)) count
  all_stay count none counts =
      same_count Has (λ (z : Name). Has z × (z ≢ y)) count (λ z. (
        (λ some. (some, λ is. false≢true (sym (ap is_some none) ∙ ap (λ (w : Name). is_some (entries v k w)) (sym is) ∙ some))),
        (λ both. both.0),
      )) counts

  pub move_leaves_place : LeavesPlace limits v (rename d x k y)
  move_leaves_place = by (entries v k y) refl can.replaces
    where
      by : (o : Option ℕ) → entries v k y ≡ o → CanReplace limits v d k y can.number o → LeavesPlace limits v (rename d x k y)
      by (Some m) is may =
          let (count, counts, most) = volume.keeps.children k in
          let less = one_less Has y count names_apart (subst (λ (o : Option ℕ). IsSome o) (sym is) refl) counts in
          let fewer = less.1 in
          elim (cases_eq d k) [
            | inl same ↦ inside less.0 same (λ equal. may.0 (some_same (sym is ∙ ap (entries v k) (sym equal) ∙ ap (λ (j : ℕ). entries v j x) (sym same) ∙ can.there))) less.2 (omega (arith, fewer, most))
            | inr other ↦ across less.0 other less.2 (omega (arith, fewer, most))
          ]
      by None none may = elim (cases_eq d k) [
        | inl same ↦
            let (count, counts, most) = volume.keeps.children k in
            inside count same (λ equal. none_some (sym none ∙ ap (entries v k) (sym equal) ∙ ap (λ (j : ℕ). entries v j x) (sym same) ∙ can.there)) (all_stay count none counts) most
        | inr other ↦ elim may [
          | inl same ↦ absurd (other same)
          | inr takes ↦ across takes.count other (all_stay takes.count none takes.counts) takes.room
        ]
      ]

leaves_place : (limits : Limits) (v : Volume) (edit : Edit) → IsVolume limits v → CanEdit limits v edit → LeavesPlace limits v edit
leaves_place limits v (create number parent made name) volume can = tt
leaves_place limits v (link number parent name) volume can = tt
leaves_place limits v (remove_name parent name) volume can = tt
leaves_place limits v (rename d x k y) volume can = move_leaves_place limits v volume d x k y can
leaves_place limits v (write number offset bytes) volume can = tt
leaves_place limits v (truncate number size) volume can = tt
leaves_place limits v (change_attributes number permissions modified) volume can = tt
leaves_place limits v (set_file number mode size) volume can = tt

-- over a volume no limit is passed, and over that of its lowest bytes all that is changed in part can be read
within : (limits : Limits) (layout : Layout) (changes : List Change) (v w : Volume) → All (IsChange (has_attributes layout)) changes → IsVolume limits v → Replays limits v changes w → ReplaysWithin limits (low v) changes (low w)
within limits layout [] v w are volume replays = ap low replays
within limits layout (change ∷ changes) v w are volume replays = (
  record {
    can = low_applies v limits change replays.0;
    place = low_place v limits change.edit (leaves_place limits v change.edit volume replays.0.edit);
    reads = low_reads v change.edit;
  },
  subst (λ (x : Volume). ReplaysWithin limits x changes (low w)) (low_applied change v (All-head (IsChange (has_attributes layout)) change changes are).fields)
      (within limits layout changes (applied change v) w (All-tail (IsChange (has_attributes layout)) change changes are) (records_keep_volumes limits v change volume replays.0) replays.1),
)

pub opens_faultless : (sectors : ℕ) (disk : ℕ → List ℕ) (nvram : List ℕ) (s : State) → (o : Opens sectors disk nvram s) → HasRoots o.root sectors disk nvram × IsFaultlessUnder o.root (whole (blocks_of disk) o.root) nvram o.changes
opens_faultless sectors disk nvram s o =
    let r = o.root in
    let w = whole (blocks_of disk) r in
    let is_root = newest_is_root r (disk SLOT_A) (disk SLOT_B) o.newest in
    let least = is_root.head.sizes.least_inodes in
    let some : 1 ≤ r.geometry.inodes = omega (arith, least) in
    let many : FIRST_NUMBER ≤ r.geometry.inodes = omega (arith, least) in (
      record { newest = o.newest; sizes = record { disk = o.size; nvram = o.log.log.size } },
      record {
        snapshots = o.holds.sound.snapshots;
        active = faultless r.geometry w.active o.first many (active_ends (blocks_of disk) r some) o.holds.sound.active o.holds.holds o.holds.volume;
        frozen = λ k block there.
            let snapshot = o.holds.sound.snapshots.each k block there in
            let kept = kept_tree r w 0 o.snapshots o.holds.sound.snapshots o.holds.kept k snapshot.0 snapshot.1 snapshot.2.is.first in
            faultless r.geometry (w.frozen k) kept.1.0 many (frozen_ends (blocks_of disk) r k block some there) (o.holds.sound.frozen k block there) kept.1.1 kept.1.2;
        within = o.holds.sound.within;
        frozen_within = o.holds.sound.frozen_within;
        readable = (o.holds.sound.active.files 2).bytes.readable;
        exact = o.holds.sound.exact;
        log = record {
          first = low o.first;
          last = low o.last;
          holds = low_holds (blocks_of disk) r o.first o.holds.sound.active.files o.holds.holds;
          log = o.log;
          replays = within (limits_of r.geometry) r.geometry.layout o.changes o.first o.last o.log.are o.holds.volume o.replays;
        };
      },
    )

pub opens_without_fault : (sectors : ℕ) (disk : ℕ → List ℕ) (nvram : List ℕ) (s : State) → Opens sectors disk nvram s → HasNoFault sectors disk nvram
opens_without_fault sectors disk nvram s o =
    let told = opens_faultless sectors disk nvram s o in
    record { root = o.root; changes = o.changes; roots = told.0; under = told.1 }

-- what is told of the newest root is told of the root that was found
pub under_any : (sectors : ℕ) (disk : ℕ → List ℕ) (nvram : List ℕ) (r : Root) → HasNoFault sectors disk nvram → HasRoots r sectors disk nvram → (changes : List Change) × IsFaultlessUnder r (whole (blocks_of disk) r) nvram changes
under_any sectors disk nvram r none has = (
  none.changes,
  subst (λ (x : Root). IsFaultlessUnder x (whole (blocks_of disk) x) nvram none.changes)
      (newest_once (disk SLOT_A) (disk SLOT_B) none.root r none.roots.newest has.newest) none.under,
)

-- ---- the volume of a tree

own_none : (n : ℕ) (k : Kind) (inodes : ℕ) (c : Content) (o : Option Node) → n < 3 → FitsNumber n k → StandsAs k inodes c o → o ≡ None
own_none zero k inodes c o lt is stands = subst (λ (x : Kind). StandsAs x inodes c o) is stands
own_none (suc zero) k inodes c o lt is stands = subst (λ (x : Kind). StandsAs x inodes c o) is stands
own_none (suc (suc zero)) k inodes c o lt is stands = subst (λ (x : Kind). StandsAs x inodes c o) is stands
own_none (suc (suc (suc n))) k inodes c o lt is stands = absurd (omega (arith, lt))

-- where the bytes of files aren't known, it has names as a graph, and only ordinary numbers and the root directory's are in use in it
pub tree_volume : (d : Blocks) (r : Root) (v : Volume) → IsRoot r → IsFaultless r.geometry (whole d r).active → HoldsVolumeIn by_sizes r.geometry.inodes (tree_contents (whole d r).active) v
    → IsGraph v × ((n : ℕ) → IsSome (v n) → (n ≡ ROOT_NUMBER) ⊎ ((FIRST_NUMBER ≤ n) × (n < r.geometry.inodes)))
unfolding EndsFree
tree_volume d r v is active sized =
    let w = whole d r in
    let sizes = is.head.sizes in
    let limit : r.geometry.inodes ≤ 2 ^ 32 = omega (arith, sizes.most_inodes) in
    let u = active.names.names.volume in
    let holds = active.names.names.holds in (
      sized_graph r.geometry.inodes (tree_contents w.active) u v limit holds sized (graph r.geometry.inodes w.active active.names),
      λ n is_some. let some : IsSome (u n) = sym (same_some r.geometry.inodes (tree_contents w.active) u v limit holds sized n) ∙ is_some in
          elim (cases_lt n r.geometry.inodes) [
            | inr past ↦
                absent (u n) (subst (λ (k : Kind). StandsAs k r.geometry.inodes (tree_contents w.active n) (u n)) (active_ends d r (omega (arith, sizes.least_inodes)) n past) (holds n)) some
            | inl lt ↦ elim (cases_lt n 3) [
              | inl own ↦ absent (u n) (own_none n (w.active n).inode.kind r.geometry.inodes (tree_contents w.active n) (u n) own (active.grammar.kinds n) (holds n)) some
              | inr high ↦ elim (cases_eq n 3) [
                | inl root ↦ inl root
                | inr other ↦ inr (omega (arith, high, other), lt)
              ]
            ]
          ],
    )
