-- The orphans that an image keeps under its snapshots.
use Rattle.std.proofs.Common.{◌≡◌, inl, inr, ℕ, zero, suc, ◌+◌, ◌<◌, List, [], ◌∷◌, Option, bytes_eq, if◌then◌else◌, refl, sym, ap, subst, ◌∙◌, arith}
use Rattle.std.proofs.lemmas.Bool.{cases_Bool, cases_eq, cond-true, cond-false, both_ways}
use Rattle.std.proofs.lemmas.Slice.Eq.{bytes_eq-Decides}
use Rattle.layout.specs.Places.{blocks_of}
use Rattle.layout.specs.SnapRoot.{Snapshot, IsSnapshot, snapshot_in}
use Rattle.layout.specs.declared.kind.Kind.{Kind}
use Rattle.layout.specs.declared.kind.Kind.TheVariants as kinds
use Rattle.layout.specs.declared.root.Root.{Root}
use Rattle.layout.proofs.Formats.{some_is}
use Rattle.station.specs.declared.station.Station.{Ghosts}
use Rattle.model.specs.Paths.{Name}
use Rattle.model.specs.Records.{count_orphans}
use Rattle.model.specs.States.{State}
use Rattle.model.specs.Trees.{Tree}
use Rattle.model.specs.Volumes.{Node, Volume, is_orphan}
use Rattle.images.specs.Contents.{Content, StandsAs, HoldsVolume, tree_contents}
use Rattle.images.specs.Roots.{Whole, whole}
use Rattle.images.specs.Snapshots.{AreKeptAbove, AreSnapshots, HasSnapshot}
use Rattle.system.specs.Restoring.{KeepsOrphans}
use Rattle.system.specs.Serving.{ServesState}
use Rattle.system.specs.Systems.{disk_of}
use Rattle.system.specs.declared.system.System.{System}

-- what a content stands for is an orphan, or it isn't
orphans_once : (kind : Kind) (inodes : ℕ) (c : Content) (o p : Option Node) → StandsAs kind inodes c o → StandsAs kind inodes c p → is_orphan o ≡ is_orphan p
orphans_once kinds.Free inodes c o p one other = ap is_orphan (one ∙ sym other)
orphans_once kinds.File inodes c o p one other = ap is_orphan (one ∙ sym other)
orphans_once kinds.Directory inodes c o p one other = ap is_orphan one.2 ∙ sym (ap is_orphan other.2)
orphans_once kinds.Link inodes c o p one other = ap is_orphan (one ∙ sym other)
orphans_once kinds.InodeFile inodes c o p one other = ap is_orphan (one ∙ sym other)
orphans_once kinds.InodeMap inodes c o p one other = ap is_orphan (one ∙ sym other)
orphans_once kinds.BlockMap inodes c o p one other = ap is_orphan (one ∙ sym other)

-- and so they are counted
counted_once : (inodes : ℕ) (files : ℕ → Content) (v w : Volume) → HoldsVolume inodes files v → HoldsVolume inodes files w → (n : ℕ) → count_orphans n v ≡ count_orphans n w
counted_once inodes files v w one other zero = refl
counted_once inodes files v w one other (suc n) =
    λ i. counted_once inodes files v w one other n i + (if orphans_once (files n).kind inodes (files n) (v n) (w n) (one n) (other n) i then 1 else 0)

-- how many the image keeps under the snapshot of a name, of those above an order number
abbrev orphans_at : (r : Root) (w : Whole) (above : ℕ) (pairs : List (Name × Tree)) → AreKeptAbove r w above pairs → Name → ℕ
orphans_at r w above [] kept name = 0
orphans_at r w above (pair ∷ pairs) kept name =
    if bytes_eq pair.0 name then count_orphans r.geometry.inodes kept.4.0 else orphans_at r w kept.1.order pairs kept.5 name

module _ (r : Root) (w : Whole) (are : AreSnapshots r w) (k : ℕ) (head : Snapshot) (v : Volume) (has : HasSnapshot r w k head)
    (holds : HoldsVolume r.geometry.inodes (tree_contents (w.frozen k)) v) where
  -- a slot has one snapshot
  same_head : (l : ℕ) (q : Snapshot) → HasSnapshot r w l q → l ≡ k → q ≡ head
  same_head l q there is = some_is q head (sym there.read ∙ ap (λ (n : ℕ). snapshot_in r.geometry.layout (w.head n)) is ∙ has.read)

  is_first : 0 < head.order
  is_first =
      let found = are.each k has.block has.there in
      let first = (subst IsSnapshot (same_head k found.0 found.1 refl) found.2.is).first in
      omega (arith, first)

  told_at : (above : ℕ) (pairs : List (Name × Tree)) (kept : AreKeptAbove r w above pairs) → above < head.order
      → orphans_at r w above pairs kept head.name ≡ count_orphans r.geometry.inodes v
  told_at above [] kept lt = let le = kept k head has in absurd (omega (arith, le, lt))
  told_at above (pair ∷ pairs) kept lt = elim (cases_Bool (bytes_eq pair.0 head.name)) [
    | inl is ↦
        let slot : kept.0 ≡ k = are.names kept.0 k kept.1 head kept.2.has has (sym kept.3 ∙ (bytes_eq-Decides pair.0 head.name).0 is) in
        cond-true _ _ _ is
        ∙ counted_once r.geometry.inodes (tree_contents (w.frozen k)) kept.4.0 v (subst (λ (n : ℕ). HoldsVolume r.geometry.inodes (tree_contents (w.frozen n)) kept.4.0) slot kept.4.1) holds r.geometry.inodes
    | inr isnt ↦
        let le = kept.2.least k head has lt in
        let later : kept.1.order < head.order = elim (cases_eq kept.1.order head.order) [
          | inl same ↦
              let is = same_head kept.0 kept.1 kept.2.has (are.orders kept.0 k kept.1 head kept.2.has has same) in
              absurd (both_ways (bytes_eq pair.0 head.name) isnt ((bytes_eq-Decides pair.0 head.name).1 (kept.3 ∙ ap (λ (q : Snapshot). q.name) is)))
          | inr other ↦ omega (arith, le, other)
        ] in
        cond-false _ _ _ isnt ∙ told_at kept.1.order pairs kept.5 later
  ]

module _ {S : Type 0} {G : Ghosts S} (f : System S G) (s : State) (serves : ServesState f s) where
  abbrev held : Whole
  held = whole (blocks_of (disk_of f)) f.root

  -- how many a system's image keeps under the snapshot of a name
  abbrev pub orphans_of : Name → ℕ
  orphans_of name = orphans_at f.root held 0 serves.snapshots serves.under.holds.kept name

  pub orphans_told : (k : ℕ) (head : Snapshot) (v : Volume) → HasSnapshot f.root held k head → HoldsVolume f.root.geometry.inodes (tree_contents (held.frozen k)) v
      → orphans_of head.name ≡ count_orphans f.root.geometry.inodes v
  orphans_told k head v has holds =
      let holding = serves.under.holds in
      let are = holding.sound.snapshots in
      told_at f.root held are k head v has holds 0 serves.snapshots holding.kept (is_first f.root held are k head v has holds)

  pub orphans_kept : (name : Name) (orphans : ℕ) → KeepsOrphans f name orphans → orphans_of name ≡ orphans
  orphans_kept name orphans kept =
      subst (λ (n : Name). orphans_of n ≡ orphans) kept.named (orphans_told kept.slot kept.head kept.volume kept.has kept.holds ∙ sym kept.counted)
