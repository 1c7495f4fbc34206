-- Steps that read blocks and place some.
use Rattle.std.proofs.Common.{◌≡◌, ℕ, ◌+◌, ◌≤◌, Result, Ok, Err, refl, subst, ◌∙◌, arith}
use Rattle.std.specs.Prelude.{OnOk}
use Rattle.std.specs.Result.{IsErrAnd, IsErrOf}
use Rattle.buffers.specs.Reads.{ReadsBlocks}
use Rattle.buffers.specs.declared.blocks.Blocks.{Ghosts}
use Rattle.buffers.proofs.ReadLaws.{reads_err, reads_more, reads_ok}
use Rattle.conspoint.specs.declared.draft.Draft.{Draft}
use Rattle.conspoint.specs.declared.error.PlanError.{PlanError}
use Rattle.conspoint.specs.declared.error.PlanError.TheVariants.{NoMemory, NoSpace}
use Rattle.conspoint.specs.Drafts.{IsShortage}
use Rattle.conspoint.specs.Errors.{IsReadFault}
use Rattle.conspoint.specs.Space.{TakesAtMost}
use Rattle.conspoint.specs.Steps.{Places}
use Rattle.conspoint.proofs.DraftLemmas.{grows_none, grows_twice}
use Rattle.conspoint.proofs.StepLemmas.{no_error, other_error, same_error, takes_both, takes_more}
use Rattle.placement.specs.Steps.{ReadsAndPlaces}

-- no memory isn't a fault of the device
no_fault : {P : Type 0} (f : PlanError) → f ≡ NoMemory → IsReadFault f → P
no_fault f is fault = let no : ⊥ = cc in absurd no

pub takes_none : {T : Type 0} (n : ℕ) (d : Draft) (r : Result T PlanError) → OnOk r (TakesAtMost n d d)
takes_none n d (Ok v) = omega arith
takes_none n d (Err e) = tt

module _ {B : Type 0} {G : Ghosts B} where
  pub reads_nothing : {x : B} → ReadsBlocks {T = Unit {0}} {E = PlanError} G IsReadFault x x (Ok tt)
  reads_nothing = record { count = refl; counted = refl; device = tt; reads = λ start so. so; same = λ disk shows. shows }

  -- only reading was done
  pub read_ended : {T : Type 0} {n : ℕ} {x y : B} {d : Draft} {r : Result T PlanError} → ReadsBlocks G IsReadFault x y r → (IsErrOf r NoSpace → ⊥) → ReadsAndPlaces G n x y d d r
  read_ended {n = n} {d = d} {r = r} read why = record {
    reads = read;
    grows = grows_none d;
    parts = refl;
    others = λ p was. was;
    takes = takes_none n d r;
    lacks = λ bad. absurd (why bad);
  }

  short_reads : {T U : Type 0} {x y : B} {v : T} {n : ℕ} {a b : Draft} (r : Result U PlanError) → ReadsBlocks {T = T} G IsReadFault x y (Ok v) → Places n a b r → ReadsBlocks G IsReadFault x y r
  short_reads (Ok w) read step = reads_ok read
  short_reads (Err e) read step = record { count = read.count; counted = tt; device = λ fault. absurd (subst IsShortage fault step.shortage); reads = read.reads; same = read.same }

  -- blocks were read, and some are placed then
  pub place_ended : {T U : Type 0} {n : ℕ} {x y : B} {a b : Draft} {v : T} {r : Result U PlanError} → ReadsBlocks {T = T} G IsReadFault x y (Ok v) → Places n a b r → ReadsAndPlaces G n x y a b r
  place_ended {r = r} read step = record {
    reads = short_reads r read step;
    grows = step.grows;
    parts = step.parts;
    others = step.others;
    takes = step.takes;
    lacks = step.lacks;
  }

module _ {B : Type 0} {G : Ghosts B} {n : ℕ} {x y z : B} {a b : Draft} where
  -- blocks are read before
  pub read_before : {T U : Type 0} {v : T} {r : Result U PlanError} → ReadsBlocks G IsReadFault x y (Ok v) → ReadsAndPlaces G n y z a b r → ReadsAndPlaces G n x z a b r
  read_before {r = r} read step = record {
    reads = reads_more r read step.reads;
    grows = step.grows;
    parts = step.parts;
    others = step.others;
    takes = step.takes;
    lacks = step.lacks;
  }

module _ {B : Type 0} {G : Ghosts B} {n : ℕ} {x y : B} {a b : Draft} where
  pub both_ok : {T U : Type 0} {v : T} {w : U} → ReadsAndPlaces G n x y a b (Ok v) → ReadsAndPlaces G n x y a b (Ok w)
  both_ok step = record {
    reads = reads_ok step.reads;
    grows = step.grows;
    parts = step.parts;
    others = step.others;
    takes = step.takes;
    lacks = λ bad. no_error NoSpace bad;
  }

  -- a step that failed
  pub both_err : {T U : Type 0} {e : PlanError} (q : Result U PlanError) → IsErrAnd q (λ g. g ≡ e) → ReadsAndPlaces {T = T} G n x y a b (Err e) → ReadsAndPlaces G n x y a b q
  both_err (Ok v) is step = absurd is
  both_err {e = e} (Err g) is step = record {
    reads = reads_err (Err g) is step.reads;
    grows = step.grows;
    parts = step.parts;
    others = step.others;
    takes = tt;
    lacks = λ bad. step.lacks (same_error g e NoSpace is bad);
  }

  -- there was no memory then
  pub both_out : {T U : Type 0} {v : T} (q : Result U PlanError) → IsErrAnd q (λ g. g ≡ NoMemory) → ReadsAndPlaces G n x y a b (Ok v) → ReadsAndPlaces G n x y a b q
  both_out (Ok w) is step = absurd is
  both_out (Err g) is step = record {
    reads = record { count = step.reads.count; counted = tt; device = λ fault. no_fault g is fault; reads = step.reads.reads; same = step.reads.same };
    grows = step.grows;
    parts = step.parts;
    others = step.others;
    takes = tt;
    lacks = λ bad. other_error g is bad;
  }

  -- more are counted than it takes
  pub both_rise : {T : Type 0} {k : ℕ} {r : Result T PlanError} → ReadsAndPlaces G n x y a b r → n ≤ k → ReadsAndPlaces G k x y a b r
  both_rise {k = k} {r = r} step le = record {
    reads = step.reads;
    grows = step.grows;
    parts = step.parts;
    others = step.others;
    takes = takes_more n k a b r le step.takes;
    lacks = λ bad. (let few = step.lacks bad in omega (arith, le, few));
  }

-- one step after the other
pub both_then : {B T U : Type 0} {G : Ghosts B} {n m k : ℕ} {x y z : B} {a b c : Draft} {v : T} {r : Result U PlanError} → ReadsAndPlaces G n x y a b (Ok v) → ReadsAndPlaces G m y z b c r → n + m ≤ k → ReadsAndPlaces G k x z a c r
both_then {n = n} {m = m} {k = k} {a = a} {b = b} {c = c} {r = r} first then le = record {
  reads = reads_more r first.reads then.reads;
  grows = grows_twice a b c first.grows then.grows;
  parts = then.parts ∙ first.parts;
  others = λ p is. then.others p (first.others p is);
  takes = takes_both n m k a b c r le first.takes then.takes;
  lacks = λ bad. (let few = then.lacks bad in omega (arith, le, few, first.takes));
}
