-- Which calls of a station in memory are to fail, and where its power is to be cut.
use Rattle.std.specs.Prelude.{◌≡◌, ℕ, ◌+◌, ◌==◌, min, Bool, true, false, List, length, count_by, Option, Some, None, if◌then◌else◌}
use Rattle.memory_station.specs.declared.cut_outcome.CutOutcome.{CutOutcome}
use Rattle.memory_station.specs.declared.cut_outcome.CutOutcome.TheVariants.{Nothing}
use Rattle.memory_station.specs.declared.faults.Fate.{Fate}
use Rattle.memory_station.specs.declared.faults.Fate.TheVariants.{Done, Fails, IsCut}
use Rattle.memory_station.specs.declared.faults.Faults.{Faults}
use Rattle.memory_station.specs.declared.history.Call.{Call}
use Rattle.memory_station.specs.declared.history.Call.TheVariants.{Read, Write, NvWrite, Sync}

pub record FaultPlan : Type 0 where
  -- the device write within which the power is cut, what that keeps of the unsynced sector writes,
  -- and how many bytes of an NVRAM write
  pub cut_write : Option ℕ
  pub keep : CutOutcome
  pub kept_bytes : ℕ
  -- the call and the sync that fail
  pub failing_call : Option ℕ
  pub failing_sync : Option ℕ

abbrev pub planned : Faults → FaultPlan
planned f = record {
  cut_write = f.cut_write;
  keep = f.keep;
  kept_bytes = f.kept_bytes;
  failing_call = f.failing_call;
  failing_sync = f.failing_sync;
}

-- all is to succeed
abbrev pub no_plan : FaultPlan
no_plan = record {
  cut_write = None;
  keep = Nothing;
  kept_bytes = 0;
  failing_call = None;
  failing_sync = None;
}

-- this number, counted from 1, comes next after so many
abbrev pub is_next : Option ℕ → ℕ → Bool
is_next (Some number) so_far = number == so_far + 1
is_next None so_far = false

-- what is to come, after so many calls, of one that reads
abbrev pub fate_of_read : FaultPlan → ℕ → Fate
fate_of_read p calls = if is_next p.failing_call calls then Fails else Done

-- of a device write, after so many calls and writes
abbrev pub fate_of_write : FaultPlan → ℕ → ℕ → Fate
fate_of_write p calls writes = if is_next p.cut_write writes then IsCut else fate_of_read p calls

-- of a sync, after so many calls and syncs
abbrev pub fate_of_sync : FaultPlan → ℕ → ℕ → Fate
fate_of_sync p calls syncs = if is_next p.failing_sync syncs then Fails else fate_of_read p calls

abbrev pub is_done : Fate → Bool
is_done Done = true
is_done Fails = false
is_done IsCut = false

abbrev pub cuts_power : Fate → Bool
cuts_power Done = false
cuts_power Fails = false
cuts_power IsCut = true

-- how many of so many bytes an NVRAM write keeps
abbrev pub kept_of : FaultPlan → Fate → ℕ → ℕ
kept_of p Done length = length
kept_of p Fails length = 0
kept_of p IsCut length = min length p.kept_bytes

-- a device write
abbrev pub is_write : Call → Bool
is_write Read = false
is_write (Write first bytes done) = true
is_write (NvWrite at bytes kept) = true
is_write (Sync done) = false

abbrev pub is_sync : Call → Bool
is_sync Read = false
is_sync (Write first bytes done) = false
is_sync (NvWrite at bytes kept) = false
is_sync (Sync done) = true

-- these calls were counted
pub record IsNumbered (f : Faults) (calls : List Call) : Type 0 where
  pub all : f.calls ≡ length calls
  pub writes : f.writes ≡ count_by is_write calls
  pub syncs : f.syncs ≡ count_by is_sync calls
