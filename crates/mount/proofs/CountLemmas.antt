-- What an error tells of device calls that failed.
use Rattle.std.proofs.Common.{◌≡◌, ◌≢◌, ◌+◌, ◌≤◌, ◌^◌, ℕ, inl, inr, false, refl, arith}
use Rattle.std.specs.Prelude.{IsTrue}
use Rattle.std.proofs.lemmas.Bool.{false≢true}
use Rattle.station.specs.Calls.{Uses}
use Rattle.station.specs.Moments.{Meaning}
use Rattle.station.proofs.Moments.{grown_since}
use Rattle.conspoint.specs.declared.error.PlanError.TheVariants as plan
use Rattle.model.specs.declared.errno.Errno.{Errno}
use Rattle.model.specs.declared.errno.Errno.TheVariants.{EIO, FAILED}
use Rattle.model.specs.declared.reply.Reply.TheVariants.{Refused}
use Rattle.system.specs.Counting.{Counted, IsNoGeneration, beside_reads, call_error_failed, point_error_failed}
use Rattle.system.specs.Opening.{HasFailed}
use Rattle.system.specs.declared.error.CallError.{CallError}
use Rattle.system.specs.declared.error.CallError.TheVariants as call
use Rattle.system.specs.declared.error.PointError.{PointError}
use Rattle.system.specs.declared.error.PointError.TheVariants as point
use Rattle.mount.specs.Applying.{NoWriteFailed}
use Rattle.mount.specs.Refusals.{errno_of_call, errno_of_point, fails_point}

-- the same refusal
pub refused_same : {x y : Errno} → Refused x ≡ Refused y → x ≡ y
refused_same is = cc

-- ---- one call behind another

pub failed_after : (m mid new : Meaning) → Uses m mid → HasFailed mid new → HasFailed m new
failed_after m mid new uses (inl read) = inl (grown_since m.failed_reads mid.failed_reads new.failed_reads uses.reads read)
failed_after m mid new uses (inr write) = inr (grown_since m.failed_writes mid.failed_writes new.failed_writes uses.writes write)

-- ---- EIO, and any other

module _ (m new : Meaning) where
  pub call_eio : (e : CallError) → Counted m new (beside_reads (call_error_failed false e)) → errno_of_call e ≡ EIO → HasFailed m new
  call_eio call.NotRead counted is = inl counted.reads
  call_eio call.NotWritten counted is = inr counted.writes
  call_eio e counted is = cc

  pub call_written : (e : CallError) → Counted m new (beside_reads (call_error_failed false e)) → e ≢ call.NotWritten → NoWriteFailed m new
  call_written call.NotWritten counted other = absurd (other refl)
  call_written e counted other = counted.writes

  pub point_eio : (e : PointError) → Counted m new (point_error_failed e) → errno_of_point e ≡ EIO → HasFailed m new
  point_eio (point.NotPlanned plan.Device) counted is = inl counted.reads
  point_eio point.NotWritten counted is = inr counted.writes
  point_eio e counted is = cc

  pub point_written : (e : PointError) → Counted m new (point_error_failed e) → e ≢ point.NotWritten → NoWriteFailed m new
  point_written point.NotWritten counted other = absurd (other refl)
  point_written (point.NotPlanned plan.Device) counted other = counted.writes
  point_written e counted other = counted.writes

-- an error that isn't EIO came before the first write
pub call_refuses : (e : CallError) → errno_of_call e ≢ EIO → e ≢ call.NotWritten
call_refuses call.NotWritten other is = other refl
call_refuses e other is = cc

pub point_refuses : (e : PointError) → errno_of_point e ≢ EIO → e ≢ point.NotWritten
point_refuses point.NotWritten other is = other refl
point_refuses e other is = cc

-- ---- what fails a system, and FAILED

-- a call's error is never told so
pub call_not_failed : (e : CallError) → errno_of_call e ≢ FAILED
call_not_failed call.NoMemory is = cc
call_not_failed call.NotRead is = cc
call_not_failed call.Damaged is = cc
call_not_failed call.NoRoom is = cc
call_not_failed call.LogFull is = cc
call_not_failed call.NotWritten is = cc

-- an error of a consistency point that fails the system is told as EIO, as long as the generations last
pub point_fails : (e : PointError) → (e ≡ point.NoGeneration → ⊥) → IsTrue (fails_point e) → errno_of_point e ≡ EIO
point_fails (point.NotPlanned x) lasts stopped = absurd (false≢true stopped)
point_fails point.NotWritten lasts stopped = refl
point_fails point.NoGeneration lasts stopped = absurd (lasts refl)

-- and then none is told as FAILED
pub point_not_failed : (e : PointError) → (e ≡ point.NoGeneration → ⊥) → errno_of_point e ≢ FAILED
point_not_failed (point.NotPlanned plan.NoMemory) lasts is = cc
point_not_failed (point.NotPlanned plan.Device) lasts is = cc
point_not_failed (point.NotPlanned plan.NoSpace) lasts is = cc
point_not_failed (point.NotPlanned plan.Damaged) lasts is = cc
point_not_failed point.NotWritten lasts is = cc
point_not_failed point.NoGeneration lasts is = lasts refl

-- so many points have generations, so the next one has
pub next_lasts : (n epoch : ℕ) → 1 ≤ n → 1 ≤ epoch → epoch + n ≤ 2 ^ 62 → IsNoGeneration epoch → ⊥
next_lasts n epoch le first last none = none (first, omega (arith, le, last))
