-- Laws of the layers below that the proofs on points stand on.
use Rattle.std.specs.Prelude.{ℕ, ◌≡◌, ◌≢◌, ◌+◌, ◌≤◌, ◌<◌, ◌^◌, List, [], All}
use Rattle.station.specs.Images.{Images}
use Rattle.layout.specs.Log.{LogHolds}
use Rattle.layout.specs.Opens.{IsNewest}
use Rattle.layout.specs.Places.{Blocks, blocks_of}
use Rattle.layout.specs.Record.{Change}
use Rattle.layout.specs.Root.{IsRoot, root_bytes}
use Rattle.layout.specs.declared.TheConstants.{SLOT_A, SLOT_B}
use Rattle.layout.specs.declared.root.Root.{Root}
use Rattle.layout.specs.declared.version.TheConstants.{VERSION}
use Rattle.model.specs.Laws.{MountsForget, RecordsKeepVolumes, ReplayFollows, ReplaysCostTheSame, SweepsKeepVolumes}
use Rattle.model.specs.Paths.{Name}
use Rattle.model.specs.Records.{Replays, pledged_for}
use Rattle.layout.specs.StateLimits.{fixed_of, limits_of}
use Rattle.model.specs.States.{Forgets, State}
use Rattle.model.specs.Trees.{Tree}
use Rattle.model.specs.Volumes.{Volume}
use Rattle.inode.specs.declared.file.File.{File}
use Rattle.inofile.specs.Settled.{AreSettled, held_content}
use Rattle.images.specs.BlockMap.{IsExact, entry}
use Rattle.images.specs.Contents.{HoldsVolume, tree_contents}
use Rattle.images.specs.Cuts as points
use Rattle.images.specs.Cuts.{IsOfDisk, IsPointWith, LeavesFree, Write}
use Rattle.images.specs.Room.{free_under}
use Rattle.images.specs.Roots.{whole, Needs}
use Rattle.images.specs.SnapshotSteps.{SnapshotStep, kept_after}
use Rattle.images.specs.States.{Holds, IsSound, LogHoldsChanges, Opens, OpensBy, SameButFree, state_of}
use Rattle.conspoint.specs.Cuts.{HasNewRoot, LosesSlot, StaysOutside, disk_with_blocks}
use Rattle.conspoint.specs.Plans.{Planned}
use Rattle.conspoint.specs.Writes.{writes_of}
use Rattle.conspoint.specs.declared.plan.PlannedBlock.{PlannedBlock}
use Rattle.loading.specs.Images.{IsFileOfInode, IsReadable, inodes_of}

-- on the images that a cut leaves
pub record CutLaws : Type 0 where
  pub forgets : MountsForget
  pub free : (sectors : ℕ) (d e : ℕ → List ℕ) (nvram : List ℕ) (s : State)
      → (o : Opens sectors d nvram s) → SameButFree o.root d e → OpensBy sectors e nvram s o.changes
  pub unfinished : (blocks : List PlannedBlock) (old new : Images) → StaysOutside blocks old new
      → points.StaysOutsideWrites (writes_of blocks) old.disk new.disk
  pub finished : (p : Planned) (old new : Images) → HasNewRoot p old new
      → points.HasRootWritten (writes_of p.blocks) p.slot p.root old.disk new.disk
  pub lost : (p : Planned) (old new : Images) → LosesSlot p old new
      → points.LosesSlot (writes_of p.blocks) p.slot old.disk new.disk
  pub without_slot : (sectors : ℕ) (d e : ℕ → List ℕ) (nvram : List ℕ) (s : State)
      (writes : List Write) (sector : ℕ) → (o : Opens sectors d nvram s)
      → points.AreFree o.root d writes → points.IsOtherSlot o.root d sector
      → points.LosesSlot writes sector d e → OpensBy sectors e nvram s o.changes
  pub opens : (sectors : ℕ) (d e : ℕ → List ℕ) (nvram : List ℕ) (s : State) (writes : List Write)
      (sector : ℕ) (new : Root) (v : Volume) (step : SnapshotStep) (rest : List Change)
      (last : Volume) → (o : Opens sectors d nvram s)
      → IsPointWith step o.root d writes sector new v
      → points.HasRootWritten writes sector (root_bytes new) d e → LogHoldsChanges new nvram rest
      → Replays (limits_of o.root.geometry) v rest last → (t : State)
      → Forgets t (state_of (limits_of o.root.geometry) last (kept_after step o.first o.snapshots))
      → (spent : ℕ) → LeavesFree spent o.root (blocks_of d) writes new
      → pledged_for (limits_of o.root.geometry) v rest + fixed_of o.root.geometry.blocks + spent
      ≤ free_under (whole (blocks_of d) o.root).active o.root.geometry.blocks
      → OpensBy sectors e nvram t rest
  pub one : (half g : ℕ) (nvram : List ℕ) (bodies : List (List ℕ)) → g + 3 < 2 ^ 64
      → (log : LogHolds half g nvram bodies) → LogHolds half (g + 1) nvram log.second
  pub both : (half g : ℕ) (nvram : List ℕ) (bodies : List (List ℕ)) → g + 4 < 2 ^ 64
      → LogHolds half g nvram bodies → LogHolds half (g + 2) nvram []

-- on what a system then has
pub record RootLaws : Type 0 where
  pub newest : (sectors : ℕ) (d e : ℕ → List ℕ) (nvram : List ℕ) (s : State)
      (writes : List Write) (sector : ℕ) (new : Root) (v : Volume) (step : SnapshotStep)
      → (o : Opens sectors d nvram s) → IsPointWith step o.root d writes sector new v
      → points.HasRootWritten writes sector (root_bytes new) d e → IsNewest new (e SLOT_A) (e SLOT_B)
  pub holds : (sectors : ℕ) (d e : ℕ → List ℕ) (nvram : List ℕ) (s : State)
      (writes : List Write) (sector : ℕ) (new : Root) (v : Volume) (step : SnapshotStep)
      → (o : Opens sectors d nvram s) → IsPointWith step o.root d writes sector new v
      → points.HasRootWritten writes sector (root_bytes new) d e
      → Holds new (whole (blocks_of e) new) v (kept_after step o.first o.snapshots)
  pub free : (sectors : ℕ) (d e : ℕ → List ℕ) (nvram : List ℕ) (s : State)
      (writes : List Write) (sector : ℕ) (new : Root) (v : Volume) (step : SnapshotStep) (spent : ℕ)
      → (o : Opens sectors d nvram s) → IsPointWith step o.root d writes sector new v
      → points.HasRootWritten writes sector (root_bytes new) d e
      → LeavesFree spent o.root (blocks_of d) writes new
      → free_under (whole (blocks_of d) o.root).active o.root.geometry.blocks
      ≤ free_under (whole (blocks_of e) new).active o.root.geometry.blocks + spent
  pub of_disk : (d : Blocks) (r : Root) (b : ℕ) → IsRoot r → IsSound r (whole d r)
      → Needs r (whole d r) b → IsOfDisk r.geometry.blocks b
  pub unneeded : (d : Blocks) (r : Root) (b : ℕ) → IsRoot r → IsExact r (whole d r)
      → entry (whole d r).active b ≡ 0 → Needs r (whole d r) b → ⊥
  pub readable : (d : Blocks) (r : Root) (first : Volume) (snapshots : List (Name × Tree))
      → Holds r (whole d r) first snapshots → IsReadable d r
  pub settled : (d : Blocks) (r : Root) (file : File) → IsRoot r → IsReadable d r
      → IsFileOfInode r.inode_file file
      → AreSettled r.geometry.blocks d VERSION r.geometry file (inodes_of (whole d r).active)
  pub held : (d : Blocks) (r : Root) (v : Volume) → IsRoot r → IsReadable d r
      → HoldsVolume r.geometry.inodes (tree_contents (whole d r).active) v
      → HoldsVolume r.geometry.inodes (λ n. held_content d (inodes_of (whole d r).active n)) v
  pub others : (blocks : List PlannedBlock) (disk : ℕ → List ℕ) (n : ℕ)
      → All (λ b. b.place ≢ n) blocks → disk_with_blocks blocks disk n ≡ disk n

-- on records
pub record RecordLaws : Type 0 where
  pub follow : ReplayFollows
  pub costs : ReplaysCostTheSame
  pub volumes : RecordsKeepVolumes
  pub sweeps : SweepsKeepVolumes
