-- What the program's words come to.
use Rattle.std.specs.Prelude.{ℕ, ◌≡◌, ◌==◌, Option, None, Some, if◌then◌else◌, map}
use Rattle.memory_station.specs.declared.cut_outcome.CutOutcome.{CutOutcome}
use Rattle.memory_station.specs.declared.cut_outcome.CutOutcome.TheVariants as keep
use Rattle.memory_station.specs.declared.cut_outcome.Mark.{Mark}
use Rattle.memory_station.specs.declared.cut_outcome.Mark.TheVariants as mark
use Rattle.memory_station.specs.declared.sim.Sim.{Sim}
use Rattle.memory_station.specs.Sim.{plan_of}
use Rattle.command_line.specs.declared.line.Kept.{Kept}
use Rattle.command_line.specs.declared.line.Kept.TheVariants as kept
use Rattle.command_line.specs.declared.line.RunFaults.{RunFaults}

-- what a character of a text says of a sector write: 1 (49) keeps it, with 2 (50) its sector can't
-- be read, and 0 drops it
abbrev pub mark_told : ℕ → Mark
mark_told byte = if byte == 49 then mark.Kept else (if byte == 50 then mark.Lost else mark.Dropped)

-- what a cut keeps is what its word says
abbrev pub KeepsAsTold : Kept → CutOutcome → Type 0
KeepsAsTold kept.Nothing keep.Nothing = Unit {0}
KeepsAsTold kept.Everything keep.Everything = Unit {0}
KeepsAsTold (kept.Bits text) (keep.Bits bits) = bits.items ≡ map mark_told text.now
KeepsAsTold _ _ = ⊥

-- the power of a station is to be cut within this write, as the program's words say
pub record IsCutAt (write : ℕ) (f : RunFaults) (sim : Sim) : Type 0 where
  pub write_is : (plan_of sim).cut_write ≡ Some write
  pub keep : KeepsAsTold f.keep (plan_of sim).keep
  pub bytes_are : (plan_of sim).kept_bytes ≡ f.bytes

-- so it is where the words name a write, and else it isn't to be cut
abbrev pub IsCutAs : Option ℕ → RunFaults → Sim → Type 0
IsCutAs None f sim = (plan_of sim).cut_write ≡ None
IsCutAs (Some write) f sim = IsCutAt write f sim

-- a station is to fail as the program's words say, and in no other way
pub record IsToFail (f : RunFaults) (sim : Sim) : Type 0 where
  pub cut : IsCutAs f.cut f sim
  pub sync : (plan_of sim).failing_sync ≡ f.fail_sync
  pub no_call : (plan_of sim).failing_call ≡ None
