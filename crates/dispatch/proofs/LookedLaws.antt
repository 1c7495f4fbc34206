-- What the layers below tell of blocks and of objects in memory, on a system that shows a state.
use Rattle.std.proofs.Common.{◌≡◌, ◌*◌, ◌^◌, ◌<◌, ◌≤◌, ◌∙◌, ℕ, List, Option, Result, arith, sym, subst}
use Rattle.std.specs.Prelude.{IsErrOf}
use Rattle.layout.specs.StateLimits.{limits_of}
use Rattle.station.specs.Moments.{Meaning}
use Rattle.station.specs.declared.station.Station.{Ghosts}
use Rattle.layout.specs.Limits.{Sizes}
use Rattle.layout.specs.Places.{blocks_of}
use Rattle.layout.specs.declared.inode.Inode.{Inode}
use Rattle.model.specs.States.{State}
use Rattle.model.specs.Trees.{Description}
use Rattle.model.specs.Volumes.{IsMounted, IsVolume, Volume}
use Rattle.overlay.specs.Overlays.{planned_disk}
use Rattle.overlay.specs.declared.overlay.Overlay.{Overlay}
use Rattle.buffers.specs.Disks.{numbered_blocks}
use Rattle.buffers.specs.Errors.{IsFault}
use Rattle.buffers.specs.Reads.{ReadsBlocks}
use Rattle.buffers.specs.declared.error.BlockError.{BlockError}
use Rattle.buffers.specs.declared.error.BlockError.TheVariants.{Damaged}
use Rattle.images.specs.Roots.{whole}
use Rattle.inofile.specs.Room.{memory_room}
use Rattle.inofile.specs.Volumes.{IsVolumeOf}
use Rattle.inofile.specs.declared.inode_file.InodeFile.{InodeFile}
use Rattle.inofile.proofs.RoomLaws.{needs_room}
use Rattle.loading.specs.Images.{inodes_of}
use Rattle.paths.specs.Standing.{Looks, NeverDamaged, OnVolumes, Stands}
use Rattle.descriptors.specs.Tables.{table_of}
use Rattle.calls.specs.Seeing.{OnTrees}
use Rattle.files.specs.Opened.{OnOpen}
use Rattle.system.specs.Ahead.{IsAhead}
use Rattle.system.specs.Memory.{IsInMemory}
use Rattle.system.specs.Systems.{IsServing, Parts, blocks_with, disk_of, meaning_of, system_parts}
use Rattle.system.specs.Waits.{Waits}
use Rattle.system.specs.declared.system.System.{System}
use Rattle.system.proofs.LookedLaws.{ReadsBlocksOn, reads_nothing}
use Rattle.dispatch.specs.Showing.{IsShowing}

eighth : (n b : ℕ) → n ≡ 8 * b → b < 2 ^ 32 → numbered_blocks n ≡ b
eighth n b is few = omega arith

-- ---- which systems show a state

module _ {m : Meaning} {k : Parts} {table : ℕ → Option Description} {s : State} where
  -- one that serves it
  abbrev pub served_shows : IsServing m k table s → IsShowing m k table s
  served_shows serves = record {
    honest = serves.honest;
    shows = serves.shows;
    first = serves.first;
    snapshots = serves.snapshots;
    under = serves.under;
    running = serves.running;
    mounted = serves.mounted;
    memory = serves.memory;
    view = serves.view;
    opened = serves.opened;
    fits = serves.fits;
    state = serves.state;
  }

  -- and one that is ahead by it of what a cut leaves
  abbrev pub ahead_shows : {waits : Waits} {kept : State} → IsAhead m k waits table s kept → IsShowing m k table s
  ahead_shows ahead = record {
    honest = ahead.served.honest;
    shows = ahead.served.shows;
    first = ahead.shown.first;
    snapshots = ahead.shown.snapshots;
    under = ahead.shown.under;
    running = ahead.shown.running;
    mounted = ahead.shown.mounted;
    memory = ahead.shown.memory;
    view = ahead.shown.view;
    opened = ahead.shown.opened;
    fits = ahead.shown.fits;
    state = ahead.shown.state;
  }

-- ---- what is told of it

module _ {S : Type 0} {G : Ghosts S} (f : System S G) where
  abbrev pub disk_under : ℕ → List ℕ
  disk_under = blocks_of (disk_of f)

  abbrev pub inodes_under : ℕ → Inode
  inodes_under = inodes_of (whole disk_under f.root).active

  module _ {table : ℕ → Option Description} {s : State} (shown : IsShowing (meaning_of f) (system_parts f) table s) where
    -- the blocks of the station are the root's
    its_count : numbered_blocks (meaning_of f).sectors ≡ f.root.geometry.blocks
    its_count = let most = f.is_root.head.sizes.most_blocks in eighth (meaning_of f).sectors f.root.geometry.blocks f.sectors (omega (arith, most))

    -- memory stands for the running volume
    stands : Stands (blocks_with G) disk_under inodes_under shown.running f.blocks f.inodes
    stands = record {
      shows = shown.shows;
      volume = subst (λ (n : ℕ). IsVolumeOf n disk_under inodes_under f.inodes shown.running) (sym its_count) shown.memory.stands;
    }

    its_volume : IsVolume (limits_of f.inodes.geometry) shown.running
    its_volume = subst (λ (g : Sizes). IsVolume (limits_of g) shown.running) (sym f.sizes) shown.memory.volume

    -- with the open files
    pub its_table : IsMounted shown.running (table_of f.files)
    its_table = subst (λ (t : ℕ → Option Description). IsMounted shown.running t) shown.opened shown.mounted

    -- so what is told of each volume that memory stands for is told of it
    pub on_volumes : {P : (ℕ → List ℕ) → (ℕ → Inode) → Volume → Type 0} → OnVolumes (blocks_with G) f.blocks f.inodes P → P disk_under inodes_under shown.running
    on_volumes told = told disk_under inodes_under shown.running stands

    pub on_trees : {P : Volume → (ℕ → Option Description) → Type 0} → OnTrees (blocks_with G) f.blocks f.inodes P → P shown.running table
    on_trees told = told disk_under inodes_under shown.running table stands its_volume

    pub on_open : {P : Volume → Type 0} → OnOpen (blocks_with G) f.blocks f.inodes f.files P → P shown.running
    on_open told = told disk_under inodes_under shown.running stands its_volume its_table shown.fits

    pub never_damaged : {T : Type 0} {r : Result T BlockError} → NeverDamaged (blocks_with G) f.blocks f.inodes r → IsErrOf r Damaged → ⊥
    never_damaged told = told disk_under inodes_under shown.running stands

    -- where objects came into memory it stands for that still, and a point stores no more of it
    module _ {after : Overlay S G} {inodes : InodeFile} {T : Type 0} {r : Result T BlockError} (looks : Looks (blocks_with G) IsFault f.blocks after f.inodes inodes r) where
      pub looked_memory : IsInMemory disk_under f.root inodes shown.running
      looked_memory = record {
        stands = subst (λ (n : ℕ). IsVolumeOf n disk_under inodes_under inodes shown.running) (looks.reads.count ∙ its_count)
            (looks.kept disk_under inodes_under shown.running stands).volume;
        volume = shown.memory.volume;
      }

      pub looked_stored : (first : Volume) → memory_room first inodes shown.running ≤ memory_room first f.inodes shown.running
      looked_stored first = needs_room first shown.running f.inodes inodes looks.geometry looks.needs

-- ---- blocks that were read

module _ {S : Type 0} {G : Ghosts S} {before after : Overlay S G} {T : Type 0} {r : Result T BlockError} (reads : ReadsBlocks (blocks_with G) IsFault before after r) where
  pub reads_on : ReadsBlocksOn G before after
  reads_on = reads.reads before (reads_nothing G before)

  -- over the disk that they were read of before
  pub same_disk : (G.meaning before.buffers.station).is_honest
      → planned_disk before.pending (G.meaning before.buffers.station).seen.disk ≡ planned_disk after.pending (G.meaning after.buffers.station).seen.disk
  same_disk honest =
      let went = reads_on.below.goes honest in
      λ i. planned_disk (sym reads_on.pending i) ((sym went.seen i).disk)
