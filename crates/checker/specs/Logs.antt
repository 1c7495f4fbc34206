-- Faults of the log.
use Rattle.std.specs.Prelude.{ℕ, ◌≡◌, List, length, Result}
use Rattle.layout.specs.StateLimits.{limits_of}
use Rattle.layout.specs.Record.{Change}
use Rattle.layout.specs.declared.root.Root.{Root}
use Rattle.model.specs.Records.{pledged_for}
use Rattle.images.specs.Faults.{HasLog}
use Rattle.images.specs.Roots.{Whole}
use Rattle.checker.specs.Checks.{Passes}
use Rattle.checker.specs.Findings.{IsFindingUnder}
use Rattle.checker.specs.declared.error.CheckEnd.{CheckEnd}
use Rattle.checker.specs.declared.fault.Fault.{Fault}
use Rattle.checker.specs.declared.fault.Fault.TheVariants.{Log}
use Rattle.checker.specs.declared.fault.LogFault.TheVariants.{Record}
use Rattle.checker.specs.declared.fault.TreeName.TheVariants.{Image}
use Rattle.checker.specs.declared.log.Logged.{Logged}

-- the fault is one of a record
abbrev pub IsRecordFault : Fault → Type 0
IsRecordFault fault = (half : ℕ) × (at : ℕ) × (fault ≡ Log (Record half at))

-- what the log has over a root: records, and what is pledged for them
pub record IsLogged (r : Root) (w : Whole) (nvram : List ℕ) (logged : Logged) : Type 0 where
  pub changes : List Change
  pub log : HasLog r w nvram changes
  pub records_are : logged.records ≡ length changes
  pub pledged_is : logged.pledged ≡ pledged_for (limits_of r.geometry) log.first changes

-- so much is told of it, or that it has a fault
abbrev pub TellsRecords : Root → Whole → List ℕ → Result Logged CheckEnd → Type 0
TellsRecords r w nvram result =
    Passes (IsLogged r w nvram) (IsFindingUnder r w nvram Image) result
