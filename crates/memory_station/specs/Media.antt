-- What changes in the media of a station in memory.
use Rattle.std.specs.Prelude.{◌≡◌, ℕ, ◌*◌, Bool, true, false, length, List, [], ◌∷◌, ◌++◌, Result, OnOk, is_ok}
use Rattle.std.specs.Global.{Vec}
use Rattle.memory_station.specs.FaultPlan.{is_done, cuts_power}
use Rattle.memory_station.specs.declared.faults.Fate.{Fate}
use Rattle.memory_station.specs.declared.history.Call.{Call}
use Rattle.memory_station.specs.declared.history.Call.TheVariants.{Write, NvWrite}
use Rattle.memory_station.specs.declared.cut_outcome.CutOutcome.{CutOutcome}
use Rattle.memory_station.specs.declared.media.Media.{Media}

-- these bytes and this list of sectors that can't be read, before any call
pub record IsLoadedFrom (disk nvram bad : List ℕ) (m : Media) : Type 0 where
  pub sectors : 512 * m.sectors ≡ length disk
  pub nvram_bytes : m.nvram_bytes ≡ length nvram
  pub first_disk : m.first_disk.items ≡ disk
  pub first_nvram : m.first_nvram.items ≡ nvram
  pub first_bad : m.first_bad.items ≡ bad
  pub calls : m.calls.items ≡ []
  pub power : m.is_cut ≡ false

-- the same station, with these calls
pub record HasCalls (old new : Media) (list : List Call) : Type 0 where
  pub sectors : new.sectors ≡ old.sectors
  pub nvram_bytes : new.nvram_bytes ≡ old.nvram_bytes
  pub disk : new.first_disk.items ≡ old.first_disk.items
  pub nvram : new.first_nvram.items ≡ old.first_nvram.items
  pub bad : new.first_bad.items ≡ old.first_bad.items
  pub calls : new.calls.items ≡ list

-- no call was added
abbrev pub Same : Media → Media → Type 0
Same old new = HasCalls old new old.calls.items

-- a call was added
abbrev pub Adds : Media → Media → Call → Type 0
Adds old new call = HasCalls old new (old.calls.items ++ call ∷ [])

-- a write of these bytes from sector first on was added
abbrev pub AddsWrite : Media → Media → ℕ → List ℕ → Bool → Type 0
AddsWrite old new first bytes done =
    (v : Vec ℕ) × (v.items ≡ bytes) × Adds old new (Write first v done)

-- an NVRAM write from byte at on was added, of which so many bytes are kept
abbrev pub AddsNvWrite : Media → Media → ℕ → List ℕ → ℕ → Type 0
AddsNvWrite old new at bytes kept =
    (v : Vec ℕ) × (v.items ≡ bytes) × Adds old new (NvWrite at v kept)

-- a call came to nothing: the power was off, or there was no memory to keep it
pub record CameToNothing {T E : Type 0} (old new : Media) (result : Result T E) : Type 0 where
  pub err : OnOk result ⊥
  pub same : Same old new
  pub power : new.is_cut ≡ old.is_cut
  pub kept : old.is_cut ≡ true → new.keep ≡ old.keep

-- a call was kept, and came to this; a cut did so with the unsynced sector writes
pub record CameTo {T E : Type 0} (fate : Fate) (keep : CutOutcome) (old new : Media)
    (result : Result T E) : Type 0 where
  pub was_on : old.is_cut ≡ false
  pub answer : is_ok result ≡ is_done fate
  pub power : new.is_cut ≡ cuts_power fate
  pub kept : cuts_power fate ≡ true → new.keep ≡ keep
