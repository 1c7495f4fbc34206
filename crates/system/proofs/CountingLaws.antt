-- Which device calls failed of those that were made one behind the other, and that none of them wrote the NVRAM.
use Rattle.std.proofs.Common.{◌≡◌, ◌⊎◌, ◌+◌, ℕ, Bool, true, false, if◌then◌else◌, Ok, Err, inl, inr, refl, sym, subst, ◌∙◌, arith}
use Rattle.std.specs.Prelude.{IsFalse}
use Rattle.station.specs.Calls.{OnlyWrites, Uses}
use Rattle.station.specs.Images.{Unchanged}
use Rattle.station.specs.Moments.{After, Goes, HasGrown, Meaning}
use Rattle.station.proofs.Calls.{uses_twice}
use Rattle.station.proofs.Moments.{joined, leaves_unchanged, started, weaker}
use Rattle.buffers.specs.Disks.{ReadsOn}
use Rattle.conspoint.specs.declared.error.PlanError.{PlanError}
use Rattle.conspoint.specs.declared.error.PlanError.TheVariants as plan
use Rattle.system.specs.Counting.{AgesBy, Counted, Failed, LogsNothing, SameNvram, TellsReads, TellsWrites, a_read, a_write, beside_reads, no_call, perhaps_any, perhaps_reads, point_error_failed}
use Rattle.system.specs.Errors.{IsNotWritten, IsRefused}
use Rattle.system.specs.declared.error.PointError.{PointError}
use Rattle.system.specs.declared.error.PointError.TheVariants.{NotPlanned, NotWritten}

-- ---- counts

read_uses : (m new : Meaning) → ReadsOn m new → Uses m new
read_uses m new reads = record { same = reads.same; reads = reads.reads; writes = inl reads.writes }

-- nothing failed before
pub counted_after : (m mid new : Meaning) (why : Failed) → Counted m mid no_call → Counted mid new why → Counted m new why
counted_after m mid new why one two = record {
  uses = uses_twice m mid new one.uses two.uses;
  reads = subst (λ (n : ℕ). TellsReads why n new.failed_reads) one.reads two.reads;
  writes = subst (λ (n : ℕ). TellsWrites why n new.failed_writes) one.writes two.writes;
}

-- blocks were read
pub all_read : (m new : Meaning) → ReadsOn m new → new.failed_reads ≡ m.failed_reads → Counted m new no_call
all_read m new reads same = record { uses = read_uses m new reads; reads = same; writes = reads.writes }

-- a read failed
pub not_read : (m new : Meaning) → ReadsOn m new → HasGrown m.failed_reads new.failed_reads → Counted m new a_read
not_read m new reads grown = record { uses = read_uses m new reads; reads = grown; writes = reads.writes }

-- blocks were read, if they could be
pub perhaps_read : (m new : Meaning) → ReadsOn m new → Counted m new perhaps_reads
perhaps_read m new reads = record { uses = read_uses m new reads; reads = tt; writes = reads.writes }

-- something was written
pub all_written : {T E : Type 0} (IsFault : E → Type 0) (m new : Meaning) (x : T) → OnlyWrites {T = T} {E = E} IsFault m new (Ok x) → Counted m new no_call
all_written IsFault m new x writes = record {
  uses = record { same = writes.same; reads = inl writes.reads; writes = writes.writes };
  reads = writes.reads;
  writes = writes.ok;
}

-- it wasn't
pub not_written : {T E : Type 0} (IsFault : E → Type 0) (m new : Meaning) (e : E) → OnlyWrites {T = T} {E = E} IsFault m new (Err e) → IsFault e → Counted m new a_write
not_written IsFault m new e writes fault = record {
  uses = record { same = writes.same; reads = inl writes.reads; writes = writes.writes };
  reads = tt;
  writes = writes.fault fault;
}

-- unless it had failed before
pub not_written_yet : {T E : Type 0} (IsFault : E → Type 0) (m new : Meaning) (e : E) (stopped : Bool) → OnlyWrites {T = T} {E = E} IsFault m new (Err e) → (IsFalse stopped → IsFault e)
    → Counted m new (if stopped then perhaps_any else a_write)
not_written_yet IsFault m new e true writes fault = record {
  uses = record { same = writes.same; reads = inl writes.reads; writes = writes.writes };
  reads = tt;
  writes = tt;
}
not_written_yet {T = T} {E = E} IsFault m new e false writes fault = not_written {T = T} {E = E} IsFault m new e writes (fault refl)

-- what is told is no less beside reads of which some may have failed
pub told_beside_reads : (m new : Meaning) (why : Failed) → Counted m new why → Counted m new (beside_reads why)
told_beside_reads m new no_call told = record { uses = told.uses; reads = tt; writes = told.writes }
told_beside_reads m new why told = told

-- ---- a consistency point

-- it wasn't planned
pub not_planned : (m new : Meaning) (e : PlanError) → ReadsOn m new → (e ≡ plan.Device → HasGrown m.failed_reads new.failed_reads) → Counted m new (point_error_failed (NotPlanned e))
not_planned m new plan.NoMemory reads fault = perhaps_read m new reads
not_planned m new plan.Device reads fault = not_read m new reads (fault refl)
not_planned m new plan.NoSpace reads fault = perhaps_read m new reads
not_planned m new plan.Damaged reads fault = perhaps_read m new reads

-- it was, and a write failed, or there was no memory left to write it
pub not_carried_out : {T : Type 0} (m mid new : Meaning) (e : PointError) → ReadsOn m mid → OnlyWrites {T = T} {E = PointError} IsNotWritten mid new (Err e) → (IsRefused e → new.failed_writes ≡ mid.failed_writes)
    → (e ≡ NotWritten) ⊎ (e ≡ NotPlanned plan.NoMemory) → Counted m new (point_error_failed e)
not_carried_out m mid new e reads writes refused why =
    let uses = uses_twice m mid new (read_uses m mid reads) (record { same = writes.same; reads = inl writes.reads; writes = writes.writes }) in
    elim why [
      | inl failed ↦ subst (λ (x : PointError). Counted m new (point_error_failed x)) (sym failed)
          (record { uses = uses; reads = tt; writes = subst (λ (n : ℕ). HasGrown n new.failed_writes) reads.writes (writes.fault failed) })
      | inr memory ↦ subst (λ (x : PointError). Counted m new (point_error_failed x)) (sym memory)
          (record { uses = uses; reads = tt; writes = refused (subst IsRefused (sym memory) tt) ∙ reads.writes })
    ]

-- ---- epochs

pub same_age : (old new : ℕ) → new ≡ old → AgesBy 1 old new
same_age old new is = record { ages = omega (arith, is); lasts = omega (arith, is) }

pub next_age : (old new : ℕ) → new ≡ old + 1 → AgesBy 1 old new
next_age old new is = record { ages = omega (arith, is); lasts = omega (arith, is) }

-- ---- the NVRAM

-- nothing changed
pub nothing_logged : (m new : Meaning) → Goes Unchanged m new → LogsNothing m new
nothing_logged m new goes = leaves_unchanged m new (After SameNvram m) (λ honest c left. (c, left, refl)) goes

-- no call was made
pub none_logged : (m : Meaning) → LogsNothing m m
none_logged m = started m (After SameNvram m) (λ honest c left. (c, left, refl))

pub logged_twice : (m mid new : Meaning) → LogsNothing m mid → LogsNothing mid new → LogsNothing m new
logged_twice m mid new one two honest =
    let first = one honest in
    joined m mid new (After SameNvram m) one (weaker mid new (After SameNvram mid) (After SameNvram m) two (λ c keeps.
    let d = first.each keeps.0 (mid.moment, first.later, omega arith, keeps.1) in
    (d.0, d.1, keeps.2 ∙ d.2))) honest
