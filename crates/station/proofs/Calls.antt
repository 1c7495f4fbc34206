-- What device calls do to a station, one call after the other, for the crates above.
use Rattle.std.proofs.Common.{inl, refl, ◌∙◌, Result, Ok, Err}
use Rattle.station.specs.Moments.{Meaning}
use Rattle.station.specs.Calls.{OnlyWrites, Uses}
use Rattle.station.proofs.Moments.{same_none, same_twice, grown_since, may_grow_twice}

-- functions that only write: one that answered Ok, and then another
pub writes_twice : {T U E H : Type 0} (F : E → Type 0) (G : H → Type 0) (old mid new : Meaning) (x : T) (result : Result U H)
    → OnlyWrites F old mid (Ok x) → OnlyWrites G mid new result → OnlyWrites G old new result
writes_twice F G old mid new x (Ok y) first second = record {
  same = same_twice old mid new first.same second.same;
  reads = second.reads ∙ first.reads;
  writes = inl (second.ok ∙ first.ok);
  ok = second.ok ∙ first.ok;
  fault = tt;
}
writes_twice F G old mid new x (Err e) first second = record {
  same = same_twice old mid new first.same second.same;
  reads = second.reads ∙ first.reads;
  writes = may_grow_twice old.failed_writes mid.failed_writes new.failed_writes (inl first.ok) second.writes;
  ok = tt;
  fault = λ is. grown_since old.failed_writes mid.failed_writes new.failed_writes (inl first.ok) (second.fault is);
}

-- calls of any kind: none, and two
pub uses_none : (m : Meaning) → Uses m m
uses_none m = record { same = same_none m; reads = inl refl; writes = inl refl }

pub uses_twice : (old mid new : Meaning) → Uses old mid → Uses mid new → Uses old new
uses_twice old mid new first second = record {
  same = same_twice old mid new first.same second.same;
  reads = may_grow_twice old.failed_reads mid.failed_reads new.failed_reads first.reads second.reads;
  writes = may_grow_twice old.failed_writes mid.failed_writes new.failed_writes first.writes second.writes;
}
