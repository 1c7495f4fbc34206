-- Failures that are passed on.
use Rattle.std.proofs.Common.{◌≡◌, Result, Ok, Err, IfErr, IfOk, subst, sym}
use Rattle.std.specs.Result.{IsErrAnd, IsErrOf}
use Rattle.model.specs.declared.errno.Errno.{Errno}
use Rattle.buffers.specs.Errors.{IsFault}
use Rattle.buffers.specs.declared.error.BlockError.{BlockError}
use Rattle.buffers.specs.declared.error.BlockError.TheVariants.{Damaged}
use Rattle.buffers.specs.declared.blocks.Blocks.{Ghosts}
use Rattle.inofile.specs.declared.inode_file.InodeFile.{InodeFile}
use Rattle.paths.specs.Standing.{Looks}
use Rattle.paths.proofs.Looks.{looks_err, looks_ok}
use Rattle.records.specs.Failures.{read_outcome}
use Rattle.records.specs.declared.failure.Failure.{Failure}
use Rattle.records.specs.declared.failure.Failure.TheVariants.{Read, Refused}

-- ---- a block wasn't read

module _ {T : Type 0} where
  pub read_failed : (e : BlockError) (q : Result T Failure) → IsErrAnd q (λ f. f ≡ Read e) → IsErrAnd (read_outcome q) (λ f. f ≡ e)
  read_failed e (Ok x) is = absurd is
  read_failed e (Err (Refused errno)) is = absurd (cc)
  read_failed e (Err (Read f)) is = cc

  pub read_told : (A : Result T Errno → Type 0) (e : BlockError) (q : Result T Failure) → IsErrAnd q (λ f. f ≡ Read e) → IfOk (read_outcome q) A
  read_told A e (Ok x) is = absurd is
  read_told A e (Err (Refused errno)) is = absurd (cc)
  read_told A e (Err (Read f)) is = tt

pub looks_read : {B T U : Type 0} {G : Ghosts B} {a b : B} {s t : InodeFile} {e : BlockError} (q : Result U Failure) → IsErrAnd q (λ f. f ≡ Read e)
    → Looks {T = T} G IsFault a b s t (Err e) → Looks G IsFault a b s t (read_outcome q)
looks_read {e = e} q is look = looks_err (read_outcome q) (read_failed e q is) look

pub damaged_read : {T U : Type 0} {e : BlockError} (q : Result U Failure) → IsErrAnd q (λ f. f ≡ Read e) → (IsErrOf {T = T} {E = BlockError} (Err e) Damaged → ⊥) → IsErrOf (read_outcome q) Damaged → ⊥
damaged_read (Ok x) is sound bad = absurd is
damaged_read (Err (Refused errno)) is sound bad = absurd (cc)
damaged_read (Err (Read f)) is sound bad = sound (cc)

-- ---- a step failed, and the whole by it

-- what is told of its refusal is told of the whole's
pub refused_by : {T U : Type 0} (N : Result T Errno → Type 0) (A : Result U Errno → Type 0) (f : Failure) (q : Result U Failure) → IsErrAnd q (λ g. g ≡ f)
    → ((errno : Errno) → N (Err errno) → A (Err errno)) → IfOk (read_outcome (Err f)) N → IfOk (read_outcome q) A
refused_by N A f (Ok x) is then n = absurd is
refused_by N A (Refused errno) (Err g) is then n = subst (λ (h : Failure). IfOk (read_outcome (Err h)) A) (sym is) (then errno n)
refused_by N A (Read e) (Err g) is then n = subst (λ (h : Failure). IfOk (read_outcome (Err h)) A) (sym is) tt

-- what is told of a refusal, where it is known which it is
pub refusal_is : {T : Type 0} {errno : Errno} (P N : Errno → Type 0) (r : Result T Failure) → IfOk (read_outcome r) (λ q. IfErr q (λ e. e ≡ errno)) → IfOk (read_outcome r) (λ q. IfErr q N)
    → (N errno → P errno) → IfOk (read_outcome r) (λ q. IfErr q P)
refusal_is P N (Ok x) is n then = tt
refusal_is P N (Err (Refused e)) is n then = subst P (sym is) (then (subst N is n))
refusal_is P N (Err (Read e)) is n then = tt

pub looks_failed : {B T U : Type 0} {G : Ghosts B} {a b : B} {s t : InodeFile} (f : Failure) (q : Result U Failure) → IsErrAnd q (λ g. g ≡ f) → Looks G IsFault a b s t (read_outcome {T = T} (Err f))
    → Looks G IsFault a b s t (read_outcome q)
looks_failed f (Ok x) is look = absurd is
looks_failed {U = U} {G = G} {a = a} {b = b} {s = s} {t = t} (Refused errno) (Err g) is look =
    subst (λ (h : Failure). Looks {T = Result U Errno} G IsFault a b s t (read_outcome (Err h))) (sym is) (looks_ok look)
looks_failed (Read e) (Err g) is look = looks_read (Err g) is look

pub damaged_by : {T U : Type 0} (f : Failure) (q : Result U Failure) → IsErrAnd q (λ g. g ≡ f) → (IsErrOf (read_outcome {T = T} (Err f)) Damaged → ⊥) → IsErrOf (read_outcome q) Damaged → ⊥
damaged_by f (Ok x) is sound bad = absurd is
damaged_by {U = U} (Refused errno) (Err g) is sound bad =
    let none : IsErrOf (read_outcome {T = U} (Err (Refused errno))) Damaged = subst (λ (h : Failure). IsErrOf (read_outcome {T = U} (Err h)) Damaged) is bad in
    absurd (cc)
damaged_by (Read e) (Err g) is sound bad = damaged_read (Err g) is sound bad
