-- What stands on the disk that a point leaves, and what memory is under its root.
use Rattle.std.proofs.Common.{◌≡◌, ◌≢◌, inl, inr, ℕ, ◌+◌, ◌*◌, ◌/◌, ◌<◌, ◌≤◌, List, [], All, Option, None, refl, sym, subst, ◌∙◌, arith}
use Rattle.model.specs.declared.limits.Limits.{Limits}
use Rattle.station.specs.Images.{Images}
use Rattle.station.specs.Moments.{Meaning, MayLeave}
use Rattle.layout.specs.Limits.{Sizes}
use Rattle.layout.specs.Places.{blocks_of}
use Rattle.layout.specs.Root.{root_bytes}
use Rattle.layout.specs.declared.inode.Inode.{Inode}
use Rattle.layout.specs.declared.root.Root.{Root}
use Rattle.layout.specs.declared.version.TheConstants.{VERSION}
use Rattle.model.specs.Paths.{Name}
use Rattle.model.specs.States.{State}
use Rattle.model.specs.Trees.{Description, Tree}
use Rattle.model.specs.Volumes.{Volume}
use Rattle.inofile.specs.Settled.{AreSettled, held_content}
use Rattle.inofile.specs.Volumes.{IsVolumeOf, MapsVolume}
use Rattle.inofile.specs.declared.inode_file.InodeFile.{InodeFile}
use Rattle.inode.specs.declared.file.File.{File}
use Rattle.images.specs.BlockMap.{entry}
use Rattle.images.specs.Contents.{HoldsVolume}
use Rattle.images.specs.Cuts as points
use Rattle.images.specs.Nodes.{Agrees}
use Rattle.images.specs.Roots.{whole, Needs}
use Rattle.images.specs.SnapshotSteps.{SnapshotStep, kept_after}
use Rattle.images.specs.States.{Opens}
use Rattle.loading.specs.Images.{IsFileOfInode, inodes_of}
use Rattle.oplog.specs.LogEnd.{no_bodies}
use Rattle.conspoint.specs.Cuts.{HasNewRoot}
use Rattle.conspoint.specs.Drafts.{HasAll}
use Rattle.conspoint.specs.Plans.{Planned, IsSlot}
use Rattle.conspoint.specs.Writes.{writes_of}
use Rattle.system.specs.Images.{IsReplayed, IsUnder}
use Rattle.system.specs.Laws.{CutLaws, RootLaws}
use Rattle.system.specs.Memory.{IsInMemory}
use Rattle.system.specs.Plans.{IsPlannedOver}
use Rattle.system.specs.Systems.{Parts, IsServing}
use Rattle.system.proofs.PointLaws as points_laws
use Rattle.system.proofs.SystemLaws.{AtRest, at_rest}
use Rattle.layout.proofs.PointerLaws.{same_block}

-- a point's slot is one of the two
slot_low : (r : Root) (d : ℕ → List ℕ) (sector : ℕ) → points.IsOtherSlot r d sector → sector < 16
slot_low r d sector (inl b) = omega (arith, b.0)
slot_low r d sector (inr a) = omega (arith, a.0)

slot_is : (r : Root) (d : ℕ → List ℕ) (sector : ℕ) → points.IsOtherSlot r d sector → IsSlot sector
slot_is r d sector (inl b) = inr b.0
slot_is r d sector (inr a) = inl a.0

-- no record stands over a root that holds the running volume
abbrev pub none_replayed : (limits : Limits) (running : Volume) → IsReplayed limits no_bodies running running
none_replayed limits running = record {
  changes = [];
  are = λ i d lt. absurd (omega (arith, lt));
  spelled = refl;
  last = running;
  replays = refl;
  extends = record { kept = λ n some. refl; rest = λ n none. rw none refl };
}

-- on images that have the new root of a point
module _ (cuts : CutLaws) (laws : RootLaws) {m : Meaning} {k : Parts} {table : ℕ → Option Description} {s : State}
    (serves : IsServing m k table s) (none : k.pending ≡ None) (size : m.sectors ≡ 8 * k.root.geometry.blocks) (half : k.log.half ≡ k.root.geometry.half)
    (p : Planned) (new : Root) (step : SnapshotStep) (v : Volume) (planned : IsPlannedOver step m.seen.disk k.root k.slot k.log.epoch p new v)
    (here : MayLeave m m.seen) (e : Images) (has : HasNewRoot p m.seen e) where
  abbrev rest : AtRest serves
  rest = at_rest serves none

  abbrev opens : Opens m.sectors m.seen.disk m.seen.nvram s
  opens = points_laws.reads cuts serves none size half p new step v planned here

  pub images : points.HasRootWritten (writes_of p.blocks) p.slot (root_bytes new) m.seen.disk e.disk
  images = points_laws.with_root cuts serves none size half p new step v planned here e has

  -- what isn't written is as it was
  stays : (b : ℕ) → 2 ≤ b → All (λ w. w.place ≢ b) (writes_of p.blocks) → blocks_of e.disk b ≡ blocks_of m.seen.disk b
  stays b behind free = same_block m.seen.disk e.disk b (λ i lt.
      let low = slot_low k.root m.seen.disk p.slot planned.point.slot in
      let block : (8 * b + i) / 8 ≡ b = omega arith in
      images.others (8 * b + i) (λ i w within same. free i w within (same ∙ block)) (λ same. absurd (omega (arith, same))))

  -- what the old root needs
  pub agrees : Agrees (Needs k.root (whole (blocks_of m.seen.disk) k.root)) (blocks_of m.seen.disk) (blocks_of e.disk)
  agrees b needs =
      let d = blocks_of m.seen.disk in
      let is = rest.under.newest.there.root in
      let sound = rest.under.holds.sound in
      stays b (laws.of_disk d k.root b is sound needs).0
      (λ j w lt same. laws.unneeded d k.root b is sound.exact (subst (λ (x : ℕ). entry (whole d k.root).active x ≡ 0) same (planned.point.free j w lt)) needs)

  -- what is planned
  pub has_all : HasAll (blocks_of e.disk) p.blocks
  has_all = λ i x lt. sym (has.blocks i x lt)

  abbrev kept_then : List (Name × Tree)
  kept_then = kept_after step serves.first serves.snapshots

  pub under : IsUnder p.slot new v kept_then e.disk
  under = record {
    newest = record {
      is_slot = slot_is k.root m.seen.disk p.slot planned.point.slot;
      there = record { root = planned.point.root; spelled = images.root_is };
      newest = laws.newest m.sectors m.seen.disk e.disk m.seen.nvram s (writes_of p.blocks) p.slot new v step opens planned.point images;
    };
    holds = laws.holds m.sectors m.seen.disk e.disk m.seen.nvram s (writes_of p.blocks) p.slot new v step opens planned.point images;
  }

  -- ---- memory under the new root

  pub memory : (file : File) (inodes now_inodes : InodeFile) → inodes.geometry ≡ k.root.geometry → MapsVolume inodes.numbers.bytes.items v → IsFileOfInode new.inode_file file
      → ((count : ℕ) (disk : ℕ → List ℕ) (settled : ℕ → Inode) (v : Volume) → AreSettled count disk VERSION inodes.geometry file settled → MapsVolume inodes.numbers.bytes.items v
      → HoldsVolume inodes.geometry.inodes (λ n. held_content disk (settled n)) v → IsVolumeOf count disk settled now_inodes v)
      → IsInMemory (blocks_of e.disk) new now_inodes v
  memory file inodes now_inodes same mapped is_file volume =
      let d = blocks_of e.disk in
      let settled : ℕ → Inode = inodes_of (whole d new).active in
      let geometry : new.geometry ≡ inodes.geometry = planned.point.geometry ∙ sym same in
      let ready = laws.readable d new v kept_then under.holds in
      record {
        stands = volume new.geometry.blocks d settled v
            (subst (λ (g : Sizes). AreSettled new.geometry.blocks d VERSION g file settled) geometry (laws.settled d new file planned.point.root ready is_file))
            mapped
            (subst (λ (g : Sizes). HoldsVolume g.inodes (λ n. held_content d (settled n)) v) geometry
            (laws.held d new v planned.point.root ready under.holds.holds));
        volume = under.holds.volume;
      }
