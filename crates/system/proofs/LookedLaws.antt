-- A system of which blocks were read.
use Rattle.std.proofs.Common.{refl}
use Rattle.station.specs.declared.station.Station.{Ghosts}
use Rattle.model.specs.States.{State}
use Rattle.buffers.specs.Readings.{reads_none}
use Rattle.overlay.specs.Overlays.{ReadsOver}
use Rattle.overlay.specs.declared.overlay.Overlay.{Overlay}
use Rattle.inofile.specs.declared.inode_file.InodeFile.{InodeFile}
use Rattle.system.specs.Systems.{IsServing, system_parts}
use Rattle.system.specs.declared.system.System.{System}

-- a system serves a state that has these blocks and these inodes in memory, and all else as another
abbrev pub ServesOver : {S : Type 0} {G : Ghosts S} → System S G → Overlay S G → InodeFile → State → Type 0
ServesOver {S} {G} f kept inodes s = IsServing (G.meaning kept.buffers.station) (record (system_parts f) { kept = kept.buffers.kept; pending = kept.pending; inodes = inodes }) s.tree.descriptors s

-- nothing was done to blocks but reading
abbrev pub ReadsBlocksOn : {S : Type 0} (G : Ghosts S) → Overlay S G → Overlay S G → Type 0
ReadsBlocksOn G old new = ReadsOver (G.meaning old.buffers.station) (G.meaning new.buffers.station) old.pending new.pending

pub reads_nothing : {S : Type 0} (G : Ghosts S) (blocks : Overlay S G) → ReadsBlocksOn G blocks blocks
reads_nothing G blocks = record { below = reads_none (G.meaning blocks.buffers.station); pending = refl }
