-- What is known of a station in memory.
use Rattle.std.specs.Prelude.{◌≡◌, ◌↔◌, ◌⊎◌, ℕ, ◌*◌, Bool, false, List, length, count_by, Result}
use Rattle.station.specs.Images.{Images}
use Rattle.station.specs.Moments.{Meaning, CountsRead, CountsWrite, LeavesJust}
use Rattle.memory_station.specs.Disk.{images_with}
use Rattle.memory_station.specs.Device.{Device, fresh, reads_of, settled_of, after_all, LeftAt}
use Rattle.memory_station.specs.FaultPlan.{FaultPlan, planned, fate_of_read, fate_of_write, fate_of_sync, is_done, kept_of, is_write, is_sync}
use Rattle.memory_station.specs.Media.{Adds, AddsWrite, AddsNvWrite, CameToNothing, CameTo}
use Rattle.memory_station.specs.Unsynced.{unsynced_writes, kept_value}
use Rattle.memory_station.specs.declared.faults.Fate.{Fate}
use Rattle.memory_station.specs.declared.history.Call.{Call}
use Rattle.memory_station.specs.declared.history.Call.TheVariants.{Read, Sync}
use Rattle.memory_station.specs.declared.sim.Sim.{Sim}

-- a station of these sizes and counts of failures that was so first, after these calls: even
-- moments lie between calls, odd ones within one
abbrev pub known : (sectors nvram_bytes failed_reads failed_writes : ℕ) → Device → List Call → Meaning
known sectors nvram_bytes failed_reads failed_writes first calls = record {
  sectors = sectors;
  nvram_bytes = nvram_bytes;
  failed_reads = failed_reads;
  failed_writes = failed_writes;
  is_honest = Unit {0};
  seen = reads_of (after_all first calls);
  moment = 2 * length calls;
  left_at = LeftAt first calls;
}

-- the device that it stood for before any call
abbrev pub first_of : Sim → Device
first_of s = fresh s.media.first_disk.items s.media.first_nvram.items s.media.first_bad.items

-- the device that it stands for
abbrev pub device_of : Sim → Device
device_of s = after_all (first_of s) s.media.calls.items

abbrev pub sim_meaning : Sim → Meaning
sim_meaning s = known s.media.sectors s.media.nvram_bytes s.failed_reads s.failed_writes
    (first_of s) s.media.calls.items

-- its power was cut
abbrev pub was_cut : Sim → Bool
was_cut s = s.media.is_cut

-- the numbers of the sectors that can't be read
abbrev pub bad_of : Sim → List ℕ
bad_of s = s.media.disk.bad.items

-- its calls so far, but for those that came to nothing
abbrev pub calls_of : Sim → List Call
calls_of s = s.media.calls.items

-- what is to befall its calls
abbrev pub plan_of : Sim → FaultPlan
plan_of s = planned s.faults

-- what is to come of its next call by its plan, if that is a read, a device write or a sync
abbrev pub next_read : Sim → Fate
next_read s = fate_of_read (plan_of s) (length (calls_of s))

abbrev pub next_write : Sim → Fate
next_write s = fate_of_write (plan_of s) (length (calls_of s)) (count_by is_write (calls_of s))

abbrev pub next_sync : Sim → Fate
next_sync s = fate_of_sync (plan_of s) (length (calls_of s)) (count_by is_sync (calls_of s))

-- A call followed the plan: it came to its fate and was kept as P says, or it came to nothing. The
-- plan stays, but for a cut.
pub record FollowsPlan {T E : Type 0} (fate : Fate) (P : Type 0) (old new : Sim)
    (result : Result T E) : Type 0 where
  pub call : CameToNothing old.media new.media result
      ⊎ (CameTo fate (plan_of old).keep old.media new.media result × P)
  pub plan : was_cut new ≡ false → plan_of new ≡ plan_of old

abbrev pub FollowsRead : {T E : Type 0} → Sim → Sim → Result T E → Type 0
FollowsRead old new result =
    FollowsPlan (next_read old) (Adds old.media new.media Read) old new result

-- the kept write says whether it is in what reads give
abbrev pub FollowsWrite : {T E : Type 0} → ℕ → List ℕ → Sim → Sim → Result T E → Type 0
FollowsWrite first bytes old new result =
    FollowsPlan (next_write old)
    (AddsWrite old.media new.media first bytes (is_done (next_write old))) old new result

-- the kept NVRAM write says how many of its bytes are kept
abbrev pub FollowsNvWrite : {T E : Type 0} → ℕ → List ℕ → Sim → Sim → Result T E → Type 0
FollowsNvWrite at bytes old new result =
    let kept = kept_of (plan_of old) (next_write old) (length bytes) in
    FollowsPlan (next_write old) (AddsNvWrite old.media new.media at bytes kept) old new result

-- the kept sync says whether it settled anything
abbrev pub FollowsSync : {T E : Type 0} → Sim → Sim → Result T E → Type 0
FollowsSync old new result =
    FollowsPlan (next_sync old) (Adds old.media new.media (Sync (is_done (next_sync old)))) old new result

-- the disk that the power cut left: it did with the unsynced sector writes what it was to do
abbrev pub IsLeftByCut : Sim → Images → Type 0
IsLeftByCut s c =
    (n : ℕ) → c.disk n
    ≡ kept_value s.media.keep 0 (unsynced_writes (calls_of s)) n (settled_of (device_of s) n)

-- a station before any call, with these bytes, all settled, of which the sectors in a list can't be
-- read
pub record IsLoaded (disk nvram bad : List ℕ) (m : Meaning) : Type 0 where
  pub sectors : 512 * m.sectors ≡ length disk
  pub nvram_bytes : m.nvram_bytes ≡ length nvram
  pub failed_reads : m.failed_reads ≡ 0
  pub failed_writes : m.failed_writes ≡ 0
  pub moment : m.moment ≡ 0
  pub honest : m.is_honest
  pub seen : m.seen ≡ images_with disk nvram bad
  pub left : LeavesJust m (images_with disk nvram bad)

-- no failure was counted
pub record SameCounts (old new : Sim) : Type 0 where
  pub reads : new.failed_reads ≡ old.failed_reads
  pub writes : new.failed_writes ≡ old.failed_writes

-- a read was counted if it failed
abbrev pub HasCountedRead : {T E : Type 0} → Sim → Sim → Result T E → Type 0
HasCountedRead old new result = CountsRead (sim_meaning old) (sim_meaning new) result

-- a write or a sync was counted if it failed
abbrev pub HasCountedWrite : {T E : Type 0} → Sim → Sim → Result T E → Type 0
HasCountedWrite old new result = CountsWrite (sim_meaning old) (sim_meaning new) result

-- nothing of what is known changes
pub record KnowsSame (old new : Meaning) : Type 0 where
  pub sectors : new.sectors ≡ old.sectors
  pub nvram_bytes : new.nvram_bytes ≡ old.nvram_bytes
  pub failed_reads : new.failed_reads ≡ old.failed_reads
  pub failed_writes : new.failed_writes ≡ old.failed_writes
  pub honest : old.is_honest ↔ new.is_honest
  pub seen : new.seen ≡ old.seen
  pub moment : new.moment ≡ old.moment
  pub left_at : (t : ℕ) (c : Images) → new.left_at t c ↔ old.left_at t c
