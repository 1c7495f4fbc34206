-- What ends a part of a check: errors of reads, and faults.
use Rattle.std.proofs.Common.{◌≡◌, ℕ, refl, ap, sym, subst, Result, Ok, Err}
use Rattle.std.specs.Prelude.{IfNone, IfOk, IfSome, None, OnOk, Option, Some}
use Rattle.std.specs.Result.{IsErrAnd}
use Rattle.station.specs.Moments.{HasGrown, MayGrow}
use Rattle.buffers.specs.Reads.{ReadsBlocks}
use Rattle.buffers.specs.declared.blocks.Blocks.{Ghosts}
use Rattle.buffers.specs.Errors as below
use Rattle.buffers.specs.declared.error.BlockError.{BlockError}
use Rattle.buffers.specs.declared.error.BlockError.TheVariants as read
use Rattle.checker.specs.Checks.{Passes}
use Rattle.checker.specs.Maps.{IsFound}
use Rattle.checker.specs.Errors.{IsCheckEndFault, ReadsForFaults, OrFault, TellsFault, halt_at}
use Rattle.checker.specs.declared.error.CheckEnd.{CheckEnd}
use Rattle.checker.specs.declared.error.CheckEnd.TheVariants as halts
use Rattle.checker.specs.declared.fault.Fault.{Fault}
use Rattle.checker.proofs.ReadLaws.{HasLooked, looked, looked_more, looked_none, looks_err, looks_ok}

halted : (x y : ℕ) (fault : Fault) (e : BlockError) → (below.IsFault e → HasGrown x y) → IsCheckEndFault (halt_at fault e) → HasGrown x y
halted x y fault read.NoMemory failed is = cc
halted x y fault read.Device failed is = failed refl
halted x y fault read.Damaged failed is = cc

module _ {B : Type 0} {G : Ghosts B} where
  -- a reading, by the laws of its blocks
  pub looks_of : {T E : Type 0} {F : E → Type 0} {a b : B} {r : Result T E} → ((s : B) → G.ReadsOn s s) → ((s t : B) → G.ReadsOn s t → MayGrow (G.failed s) (G.failed t)) → ReadsBlocks G F a b r → ReadsForFaults G F a b r
  looks_of {a = a} {b = b} nothing grows reads = record {
    count = reads.count;
    grown = grows a b (reads.reads a (nothing a));
    device = reads.device;
    reads = reads.reads;
    same = reads.same;
  }

  module _ {E : Type 0} {F : E → Type 0} where
    pub looks_failed : {T : Type 0} {a b : B} {e : E} → HasLooked G a b → (F e → HasGrown (G.failed a) (G.failed b)) → ReadsForFaults {T = T} G F a b (Err e)
    looks_failed {a = a} look failed = looks_err (looked_none a) look failed

    -- an error that is passed on
    pub looks_residual : {T U : Type 0} {a b : B} {e : E} (q : Result U E) → IsErrAnd q (λ f. f ≡ e) → ReadsForFaults {T = T} G F a b (Err e) → ReadsForFaults G F a b q
    looks_residual (Ok y) is look = absurd is
    looks_residual (Err f) is look = looks_failed (looked look) (λ fault. look.device (subst F is fault))

    -- behind what was read before
    pub looks_more : {T : Type 0} {a b c : B} (r : Result T E) → HasLooked G a b → ReadsForFaults G F b c r → ReadsForFaults G F a c r
    looks_more (Ok y) first last = looks_ok (looked_more first (looked last))
    looks_more (Err e) first last = looks_err first (looked last) last.device

    -- both
    pub looks_again : {T U : Type 0} {a b c : B} {e : E} (q : Result U E) → IsErrAnd q (λ f. f ≡ e) → HasLooked G a b → ReadsForFaults {T = T} G F b c (Err e) → ReadsForFaults G F a c q
    looks_again {e = e} q is first last = looks_residual q is (looks_more (Err e) first last)

  -- where a block outside its grammar is a fault
  pub looks_or_fault : {T : Type 0} {a b : B} (fault : Fault) (r : Result T BlockError) (q : Result T CheckEnd) → OrFault fault r q → ReadsForFaults G below.IsFault a b r → ReadsForFaults G IsCheckEndFault a b q
  looks_or_fault {T = T} {a = a} {b = b} fault (Ok x) q is look = subst (λ (v : Result T CheckEnd). ReadsForFaults G IsCheckEndFault a b v) (sym is) (looks_ok (looked look))
  looks_or_fault {T = T} {a = a} {b = b} fault (Err e) q is look =
      subst (λ (v : Result T CheckEnd). ReadsForFaults G IsCheckEndFault a b v) (sym is) (looks_failed (looked look) (halted (G.failed a) (G.failed b) fault e look.device))

module _ {T U : Type 0} (Is : T → Type 0) (Other : U → Type 0) (Found : Fault → Type 0) where
  pub passes_err : (e : CheckEnd) → Passes Is Found (Err e) → Passes Other Found (Err e)
  passes_err halts.NoMemory told = tt
  passes_err halts.Device told = tt
  passes_err (halts.Fault fault) told = told

  pub passes_residual : (q : Result U CheckEnd) (e : CheckEnd) → IsErrAnd q (λ f. f ≡ e) → Passes Is Found (Err e) → Passes Other Found q
  passes_residual (Ok y) e is told = absurd is
  passes_residual (Err f) e is told = subst (λ (h : CheckEnd). Passes Other Found (Err h)) (sym is) (passes_err e told)

-- a block outside its grammar was the fault
module _ {T : Type 0} (Is : T → Type 0) (Found : Fault → Type 0) (fault : Fault) where
  by_error : (e : BlockError) → (e ≡ read.Damaged → Found fault) → Passes Is Found (Err (halt_at fault e))
  by_error read.NoMemory damaged = tt
  by_error read.Device damaged = tt
  by_error read.Damaged damaged = damaged refl

  pub passes_or_fault : (r : Result T BlockError) (e : CheckEnd) → OrFault fault r (Err e) → (r ≡ Err read.Damaged → Found fault) → Passes Is Found (Err e)
  passes_or_fault (Ok x) e is damaged = cc
  passes_or_fault (Err x) e is damaged =
      subst (λ (q : Result T CheckEnd). Passes Is Found q) (sym is) (by_error x (λ same. damaged (ap (λ (y : BlockError). Err y) same)))

-- what is told of a value that was read
pub if_ok : {T : Type 0} (P : T → Type 0) (fault : Fault) (r : Result T BlockError) (x : T) → OrFault fault r (Ok x) → IfOk r P → P x
if_ok P fault (Ok y) x is told = let same : y ≡ x = cc in subst P same told
if_ok P fault (Err e) x is told = cc

pub on_ok : {T : Type 0} (P : Type 0) (fault : Fault) (r : Result T BlockError) (x : T) → OrFault fault r (Ok x) → OnOk r P → P
on_ok P fault (Ok y) x is told = told
on_ok P fault (Err e) x is told = cc

-- what a part of a check comes to
pub told_fault : (Is : Unit {0} → Type 0) (Found : Fault → Type 0) (r : Result (Unit {0}) CheckEnd) (o : Option Fault) → TellsFault r (Ok o) → Passes Is Found r
    → (o ≡ None → Is tt) × ((fault : Fault) → o ≡ Some fault → Found fault)
told_fault Is Found (Ok done) o is told = ((λ _. told), (λ fault some. cc))
told_fault Is Found (Err halts.NoMemory) o is told = cc
told_fault Is Found (Err halts.Device) o is told = cc
told_fault Is Found (Err (halts.Fault first)) o is told = ((λ none. cc), (λ fault some. let same : first ≡ fault = cc in subst Found same told))

-- another fault is told
pub passes_found : {T : Type 0} (Is : T → Type 0) (First Found : Fault → Type 0) (e : CheckEnd) → Passes Is First (Err e) → ((fault : Fault) → First fault → Found fault) → Passes Is Found (Err e)
passes_found Is First Found halts.NoMemory told more = tt
passes_found Is First Found halts.Device told more = tt
passes_found Is First Found (halts.Fault fault) told more = more fault told

pub not_device : (e : CheckEnd) → IsFound e → IsCheckEndFault e → ⊥
not_device halts.NoMemory found is = found
not_device halts.Device found is = found
not_device (halts.Fault fault) found is = cc

-- an answer that is none
pub if_none : {T : Type 0} (P : Type 0) (o : Option T) → ((x : T) → o ≡ Some x → ⊥) → IfNone o P → P
if_none P None other told = told
if_none P (Some x) other told = absurd (other x refl)

pub if_some : {T : Type 0} (P : T → Type 0) (o : Option T) (x : T) → o ≡ Some x → IfSome o P → P x
if_some {T = T} P o x is told = subst (λ (y : Option T). IfSome y P) is told
