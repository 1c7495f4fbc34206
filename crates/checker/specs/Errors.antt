-- Errors of the layers below, as those of a check.
use Rattle.std.specs.Prelude.{ℕ, ◌≡◌, List, Option, Some, None, Result, Ok, Err, IfErr}
use Rattle.station.specs.Moments.{HasGrown, MayGrow}
use Rattle.buffers.specs.declared.blocks.Blocks.{Ghosts}
use Rattle.buffers.specs.declared.error.BlockError.{BlockError}
use Rattle.buffers.specs.declared.error.BlockError.TheVariants as read
use Rattle.checker.specs.declared.error.CheckError.{CheckError}
use Rattle.checker.specs.declared.error.CheckError.TheVariants as check
use Rattle.checker.specs.declared.error.CheckEnd.{CheckEnd}
use Rattle.checker.specs.declared.error.CheckEnd.TheVariants as halts
use Rattle.checker.specs.declared.fault.Fault.{Fault}

abbrev pub halt : CheckError → CheckEnd
halt check.NoMemory = halts.NoMemory
halt check.Device = halts.Device

-- A function that only reads. IsFault tells which of its errors say that a device call failed. It
-- may answer Ok although a block was out of its grammar, of which nobody says that no call failed:
-- so it tells the count of these as one that may have grown.
pub record ReadsForFaults {B T E : Type 0} (G : Ghosts B) (IsFault : E → Type 0) (old new : B) (result : Result T E) : Type 0 where
  pub count : G.count new ≡ G.count old
  pub grown : MayGrow (G.failed old) (G.failed new)
  pub device : IfErr result (λ e. IsFault e → HasGrown (G.failed old) (G.failed new))
  pub reads : (start : B) → G.ReadsOn start old → G.ReadsOn start new
  pub same : (disk : ℕ → List ℕ) → G.Shows old disk → G.Shows new disk

-- a device call failed
abbrev pub IsFault : CheckError → Type 0
IsFault e = e ≡ check.Device

abbrev pub IsCheckEndFault : CheckEnd → Type 0
IsCheckEndFault e = e ≡ halts.Device

-- a block outside its grammar is this fault
abbrev pub halt_at : Fault → BlockError → CheckEnd
halt_at fault read.NoMemory = halts.NoMemory
halt_at fault read.Device = halts.Device
halt_at fault read.Damaged = halts.Fault fault

abbrev pub OrFault : {T : Type 0} → Fault → Result T BlockError → Result T CheckEnd → Type 0
OrFault fault (Ok value) result = result ≡ Ok value
OrFault fault (Err e) result = result ≡ Err (halt_at fault e)

-- what a part of a check comes to
abbrev pub TellsFault : Result (Unit {0}) CheckEnd → Result (Option Fault) CheckError → Type 0
TellsFault (Ok done) result = result ≡ Ok None
TellsFault (Err halts.NoMemory) result = result ≡ Err check.NoMemory
TellsFault (Err halts.Device) result = result ≡ Err check.Device
TellsFault (Err (halts.Fault fault)) result = result ≡ Ok (Some fault)
