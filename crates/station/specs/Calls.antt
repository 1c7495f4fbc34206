-- What device calls do to a station.
use Rattle.std.specs.Prelude.{◌≡◌, Result, OnOk, IfErr}
use Rattle.station.specs.Images.{Images, Unchanged}
use Rattle.station.specs.Moments.{Meaning, Goes, IsSameStation, CountsRead, CountsWrite, MayGrow, HasGrown}

-- one call that reads
pub record ReadCall {T E : Type 0} (old new : Meaning) (result : Result T E) : Type 0 where
  pub same : IsSameStation old new
  pub counts : CountsRead old new result
  pub goes : Goes Unchanged old new

-- one call that writes by a step, or that syncs
pub record WriteCall {T E : Type 0} (step : Images → Images → Type 0) (old new : Meaning)
    (result : Result T E) : Type 0 where
  pub same : IsSameStation old new
  pub counts : CountsWrite old new result
  pub goes : Goes step old new

-- A function that only reads. IsFault tells which of its errors say that a device call failed.
pub record OnlyReads {T E : Type 0} (IsFault : E → Type 0) (old new : Meaning)
    (result : Result T E) : Type 0 where
  pub same : IsSameStation old new
  pub writes : new.failed_writes ≡ old.failed_writes
  pub reads : MayGrow old.failed_reads new.failed_reads
  pub ok : OnOk result (new.failed_reads ≡ old.failed_reads)
  pub fault : IfErr result (λ e. IsFault e → HasGrown old.failed_reads new.failed_reads)
  pub goes : Goes Unchanged old new

-- A function that syncs or writes and doesn't read. IsFault is as above.
pub record OnlyWrites {T E : Type 0} (IsFault : E → Type 0) (old new : Meaning)
    (result : Result T E) : Type 0 where
  pub same : IsSameStation old new
  pub reads : new.failed_reads ≡ old.failed_reads
  pub writes : MayGrow old.failed_writes new.failed_writes
  pub ok : OnOk result (new.failed_writes ≡ old.failed_writes)
  pub fault : IfErr result (λ e. IsFault e → HasGrown old.failed_writes new.failed_writes)

-- calls of any kind
pub record Uses (old new : Meaning) : Type 0 where
  pub same : IsSameStation old new
  pub reads : MayGrow old.failed_reads new.failed_reads
  pub writes : MayGrow old.failed_writes new.failed_writes
