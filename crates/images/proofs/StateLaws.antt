-- No images open to two states.
use Rattle.layout.specs.Trees.{has_attributes}
use Rattle.std.proofs.Common.{◌≡◌, inl, inr, ℕ, ◌≤◌, ◌^◌, List, [], ◌∷◌, None, map, All, refl, ap, sym, subst, ◌∙◌, arith}
use Rattle.std.proofs.lemmas.List.Elements.{All-head, All-tail}
use Rattle.layout.specs.StateLimits.{limits_of}
use Rattle.model.specs.declared.limits.Limits.{Limits}
use Rattle.layout.specs.Opens.{IsNewest}
use Rattle.layout.specs.Places.{blocks_of}
use Rattle.layout.specs.Record.{Change, IsChange, change_bytes}
use Rattle.layout.specs.Root.{IsRoot}
use Rattle.layout.specs.SnapRoot.{Snapshot, snapshot_in}
use Rattle.layout.specs.declared.TheConstants.{SLOT_A, SLOT_B}
use Rattle.layout.specs.declared.root.Root.{Root}
use Rattle.layout.specs.declared.trees.Layout.{Layout}
use Rattle.layout.proofs.Formats.{some_is}
use Rattle.layout.proofs.OpenLaws.{newest_once, log_once}
use Rattle.layout.proofs.RecordLaws.{change_injective}
use Rattle.model.specs.Paths.{Name}
use Rattle.model.specs.Records.{Replays, applied, without_orphans}
use Rattle.model.specs.Sessions.{new_session}
use Rattle.model.specs.States.{State, Forgets, going}
use Rattle.model.specs.Trees.{Tree}
use Rattle.model.specs.Volumes.{Volume, tree_of}
use Rattle.images.specs.Roots.{HeldTree, Whole, whole}
use Rattle.images.specs.Contents.{tree_contents}
use Rattle.images.specs.Snapshots.{HasSnapshot, AreSnapshots, IsFrozenTree, AreKeptAbove}
use Rattle.images.specs.States.{Holds, LogHoldsChanges, Opens}
use Rattle.images.proofs.VolumeLaws.{volume_once}

-- records lead to one volume
replays_once : (limits : Limits) (v : Volume) (changes : List Change) (w x : Volume) → Replays limits v changes w → Replays limits v changes x → w ≡ x
replays_once limits v [] w x one other = one ∙ sym other
replays_once limits v (change ∷ changes) w x one other = replays_once limits (applied change v) changes w x one.1 other.1

-- bodies spell one list of records
changes_once : (layout : Layout) (changes others : List Change) → All (IsChange (has_attributes layout)) changes → All (IsChange (has_attributes layout)) others → map change_bytes changes ≡ map change_bytes others → changes ≡ others
changes_once layout [] [] are are_too same = refl
changes_once layout [] (d ∷ ds) are are_too same = absurd (cc)
changes_once layout (c ∷ cs) [] are are_too same = absurd (cc)
changes_once layout (c ∷ cs) (d ∷ ds) are are_too same =
    let first : c ≡ d = change_injective layout c d (All-head (IsChange (has_attributes layout)) c cs are) (All-head (IsChange (has_attributes layout)) d ds are_too) (head_is same) in
    let rest = changes_once layout cs ds (All-tail (IsChange (has_attributes layout)) c cs are) (All-tail (IsChange (has_attributes layout)) d ds are_too) (tail_is same) in
    λ i. first i ∷ rest i
  where
    head_is : {x y : List ℕ} {xs ys : List (List ℕ)} → x ∷ xs ≡ y ∷ ys → x ≡ y
    head_is e = cc

    tail_is : {x y : List ℕ} {xs ys : List (List ℕ)} → x ∷ xs ≡ y ∷ ys → xs ≡ ys
    tail_is e = cc

-- a slot has one snapshot
snapshot_once : (r : Root) (w : Whole) (k l : ℕ) (s q : Snapshot) → HasSnapshot r w k s → HasSnapshot r w l q → k ≡ l → s ≡ q
snapshot_once r w k l s q one other same = some_is s q (sym one.read ∙ ap (λ k. snapshot_in r.geometry.layout (w.head k)) same ∙ other.read)

frozen_once : (limits : Limits) (t : HeldTree) (tree other : Tree) → limits.inodes ≤ 2 ^ 32 → IsFrozenTree limits t tree → IsFrozenTree limits t other → tree ≡ other
frozen_once limits t tree other limit one two =
    one.3 ∙ ap (λ (v : Volume). tree_of (without_orphans v) (λ d. None)) (volume_once limits.inodes (tree_contents t) one.0 two.0 limit one.1 two.1) ∙ sym two.3

-- a root has one list of snapshots
kept_once : (r : Root) (w : Whole) (above : ℕ) (pairs others : List (Name × Tree)) → r.geometry.inodes ≤ 2 ^ 32 → AreSnapshots r w
    → AreKeptAbove r w above pairs → AreKeptAbove r w above others → pairs ≡ others
kept_once r w above [] [] limit are one two = refl
kept_once r w above [] (q ∷ qs) limit are one two = absurd (omega (arith, one two.0 two.1 two.2.has, two.2.above_it))
kept_once r w above (p ∷ ps) [] limit are one two = absurd (omega (arith, two one.0 one.1 one.2.has, one.2.above_it))
kept_once r w above (p ∷ ps) (q ∷ qs) limit are one two =
    let low = one.2.least two.0 two.1 two.2.has two.2.above_it in
    let high = two.2.least one.0 one.1 one.2.has one.2.above_it in
    let orders : one.1.order ≡ two.1.order = omega (arith, low, high) in
    let slot_is : one.0 ≡ two.0 = are.orders one.0 two.0 one.1 two.1 one.2.has two.2.has orders in
    let snapshot_is : one.1 ≡ two.1 = snapshot_once r w one.0 two.0 one.1 two.1 one.2.has two.2.has slot_is in
    let name_is : p.0 ≡ q.0 = one.3 ∙ ap (λ (s : Snapshot). s.name) snapshot_is ∙ sym two.3 in
    let tree_is : p.1 ≡ q.1 = frozen_once (limits_of r.geometry) (w.frozen one.0) p.1 q.1 limit one.4
    (subst (λ (k : ℕ). IsFrozenTree (limits_of r.geometry) (w.frozen k) q.1) (sym slot_is) two.4) in
    let rest = kept_once r w one.1.order ps qs limit are one.5 (subst (λ (o : ℕ). AreKeptAbove r w o qs) (sym orders) two.5) in
    λ i. (name_is i, tree_is i) ∷ rest i

-- what is newest is a root
pub newest_is_root : (r : Root) (a b : List ℕ) → IsNewest r a b → IsRoot r
newest_is_root r a b (inl first) = first.0.root
newest_is_root r a b (inr second) = second.0.root

abbrev found : Root → Volume → List (Name × Tree) → State
found r last snapshots =
    record { limits = limits_of r.geometry; tree = tree_of (without_orphans last) (λ d. None); snapshots = snapshots; mark = going; session = new_session }

-- what images open to is one state, once open files are forgotten
pub opens_once : (sectors : ℕ) (disk : ℕ → List ℕ) (nvram : List ℕ) (s t : State) → Opens sectors disk nvram s → Opens sectors disk nvram t → (u : State) × Forgets s u × Forgets t u
opens_once sectors disk nvram s t one two =
    let r = one.root in
    let w = whole (blocks_of disk) r in
    let root : two.root ≡ r = newest_once (disk SLOT_A) (disk SLOT_B) two.root r two.newest one.newest in
    let is_root = newest_is_root r (disk SLOT_A) (disk SLOT_B) one.newest in
    let limit : r.geometry.inodes ≤ 2 ^ 32 = omega (arith, is_root.head.sizes.most_inodes) in
    let log = subst (λ (r : Root). LogHoldsChanges r nvram two.changes) root two.log in
    let changes : two.changes ≡ one.changes = changes_once r.geometry.layout two.changes one.changes log.are one.log.are
    (log_once r.geometry.half r.generation nvram _ _ log.log one.log.log) in
    let holds = subst (λ (r : Root). Holds r (whole (blocks_of disk) r) two.first two.snapshots) root two.holds in
    let first : two.first ≡ one.first = volume_once r.geometry.inodes (tree_contents w.active) two.first one.first limit holds.holds one.holds.holds in
    let snapshots : two.snapshots ≡ one.snapshots = kept_once r w 0 two.snapshots one.snapshots limit one.holds.sound.snapshots holds.kept one.holds.kept in
    let replays = subst (λ (r : Root). Replays (limits_of r.geometry) two.first two.changes two.last) root two.replays in
    let last : two.last ≡ one.last = replays_once (limits_of r.geometry) one.first one.changes two.last one.last
    (subst (λ (c : List Change). Replays (limits_of r.geometry) one.first c two.last) changes (subst (λ (v : Volume). Replays (limits_of r.geometry) v two.changes two.last) first replays)) one.replays in
    (found r one.last one.snapshots, one.state, subst (Forgets t) (λ i. found (root i) (last i) (snapshots i)) two.state)
