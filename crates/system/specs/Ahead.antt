-- A system that is ahead of what a cut leaves: records of what it did wait, and aren't in the log
-- yet.
use Rattle.std.specs.Prelude.{ℕ, ◌≡◌, ◌+◌, List, Option, map}
use Rattle.station.specs.Moments.{Meaning}
use Rattle.station.specs.declared.station.Station.{Ghosts}
use Rattle.layout.specs.Record.{Change, change_bytes}
use Rattle.model.specs.declared.session.Session.{Session}
use Rattle.model.specs.States.{State}
use Rattle.model.specs.Trees.{Description}
use Rattle.model.specs.Volumes.{Volume}
use Rattle.inofile.specs.declared.inode_file.InodeFile.{InodeFile}
use Rattle.descriptors.specs.declared.table.Descriptors.{Descriptors}
use Rattle.oplog.specs.Batches.{IsBatchOf}
use Rattle.oplog.specs.LogEnd.{with_bodies}
use Rattle.system.specs.Systems.{Parts, IsServing, meaning_of, system_parts}
use Rattle.system.specs.Waits.{Waits}
use Rattle.system.specs.declared.system.System.{System}

-- the same station, of which a cut leaves nothing: what is said of each cut says nothing of it
abbrev pub uncut : Meaning → Meaning
uncut m = record m { left_at = λ moment images. ⊥ }

-- What a system has is ahead of what a cut leaves. A cut leaves a state that it served by the
-- objects, the open files and the session that it had in memory then. But for cuts it serves another state by
-- now: over the same base, by the records of the log and behind them those that wait, whose cost is
-- pledged beside.
pub record IsAhead (m : Meaning) (k : Parts) (waits : Waits) (table : ℕ → Option Description) (s kept : State) : Type 0 where
  pub waiting : List Change
  pub batch : IsBatchOf (map change_bytes waiting) waits.batch
  pub then_inodes : InodeFile
  pub then_files : Descriptors
  pub then_session : Session
  pub then_table : ℕ → Option Description
  pub served : IsServing m (record k {
    inodes = then_inodes;
    files = then_files;
    session = then_session;
  }) then_table kept
  pub shown : IsServing (uncut m) (record k {
    pledged = k.pledged + waits.pledged;
    pledged_then = k.pledged_then + waits.pledged;
  }) table s
  pub base : shown.settled ≡ served.settled
  pub behind : shown.lasts.bodies ≡ with_bodies served.lasts.bodies (map change_bytes waiting)

-- so is a system
abbrev pub HasStateAhead : {S : Type 0} {G : Ghosts S} → System S G → Waits → (ℕ → Option Description) → State → State
    → Type 0
HasStateAhead f waits table s kept = IsAhead (meaning_of f) (system_parts f) waits table s kept

-- the same, and memory stands for this volume
abbrev pub HasStateAheadBy : {S : Type 0} {G : Ghosts S} → System S G → Waits → (ℕ → Option Description) → State → State
    → Volume → Type 0
HasStateAheadBy f waits table s kept running =
    (ahead : HasStateAhead f waits table s kept) × (ahead.shown.running ≡ running)
