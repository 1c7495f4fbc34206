-- Calls on descriptors that prepare a change, or only look, step by step.
use Rattle.std.proofs.Common.{rules, Option, Result, Ok, Err, IsTrue, refl}
use Rattle.std.specs.Prelude.{◌≡◌, IfOk}
use Rattle.std.specs.Result.{IsErrAnd}
use Rattle.std.proofs.lemmas.Result.{IfOk-weaker}
use Rattle.layout.specs.StateLimits.{limits_of}
use Rattle.model.specs.Volumes.{Volume}
use Rattle.model.specs.declared.errno.Errno.{Errno}
use Rattle.model.specs.declared.time.Time.{Time}
use Rattle.buffers.specs.Errors.{IsFault}
use Rattle.buffers.specs.declared.error.BlockError.{BlockError}
use Rattle.buffers.specs.declared.blocks.Blocks.{Ghosts}
use Rattle.inofile.specs.declared.inode_file.InodeFile.{InodeFile}
use Rattle.paths.specs.Loads.{IsAny}
use Rattle.paths.specs.Standing.{Looks}
use Rattle.paths.proofs.Looks.{looks_err, looks_ok}
use Rattle.records.specs.Failures.{read_outcome}
use Rattle.records.specs.Prepared.{Does, IsReady}
use Rattle.records.specs.Shown.{NeverDamaged, OnVolumes}
use Rattle.records.proofs.StandLaws.{no_look}
use Rattle.records.specs.declared.failure.Failure.{Failure}
use Rattle.records.specs.declared.failure.Failure.TheVariants.{Refused, Read}
use Rattle.calls.specs.Preparing.{Answer, IsTimed, PreparesWith}
use Rattle.calls.specs.Refusals.{is_path_refusal}
use Rattle.calls.specs.Seeing.{Tells}
use Rattle.calls.specs.declared.changed.Changing.{Changing}
use Rattle.calls.proofs.PrepareSteps.{carried, never_damaged}
use Rattle.descriptors.specs.Tables.{table_of}
use Rattle.descriptors.specs.declared.table.Descriptors.{Descriptors}
use Rattle.files.specs.Opened.{OnOpen}
use Rattle.files.specs.Preparing.{AnswersOpen, Changes, PreparesOpen, PreparesTold, of_changing}
use Rattle.files.specs.Reading.{AnswersMoving}

module _ {B T : Type 0} {changes : Changes T} {W : T → Type 0} {now : Option Time} {G : Ghosts B} {a b : B} {s t : InodeFile} {Told : Result (Result T Errno) BlockError → Type 0} where
  -- the call isn't refused
  pub grants : {X : Type 0} {x : X} {y : T} → Looks {T = X} {E = BlockError} G IsFault a b s t (Ok x) → W y → changes y (λ p change. IsReady t p)
      → changes y (λ p change. IsTimed now change) → OnVolumes G a s (λ disk settled v. changes y (λ p change. Does disk settled t v p change)) → Told (Ok (Ok y)) → PreparesTold changes W now G a b s t Told (Ok y)
  grants looks within ready timed does says = record {
    looks = looks_ok looks;
    own = tt;
    within = within;
    ready = ready;
    timed = timed;
    does = does;
    answers = says;
    damaged = λ disk settled v stands bad. cc;
  }

  -- the call is refused by an errno
  pub refuses : {X : Type 0} {x : X} {e : Errno} → Looks {T = X} {E = BlockError} G IsFault a b s t (Ok x) → IsTrue (is_path_refusal e) → Told (Ok (Err e))
      → PreparesTold changes W now G a b s t Told (Err (Refused e))
  refuses looks own says = record {
    looks = looks_ok looks;
    own = own;
    within = tt;
    ready = tt;
    timed = tt;
    does = λ disk settled v stands. tt;
    answers = says;
    damaged = λ disk settled v stands bad. cc;
  }

  -- a block wasn't read
  pub stops : {X : Type 0} {e : BlockError} → Looks {T = X} G IsFault a b s t (Err e) → NeverDamaged {T = X} G a s (Err e) → Told (Err e)
      → PreparesTold changes W now G a b s t Told (Err (Read e))
  stops {e = e} looks sound says = record {
    looks = looks_err (Err e) refl looks;
    own = tt;
    within = tt;
    ready = tt;
    timed = tt;
    does = λ disk settled v stands. tt;
    answers = says;
    damaged = never_damaged e sound;
  }

-- nothing is said of what a call gives
any : {T : Type 0} (r : Result T Failure) → IfOk r IsAny
any (Ok x) = tt
any (Err f) = tt

-- a test refuses the call, before anything is done
pub refused_at_once : {B T : Type 0} {changes : Changes T} {W : T → Type 0} {now : Option Time} {G : Ghosts B} {a : B} {s : InodeFile} {table : Descriptors} {P : Volume → Result T Errno → Type 0} (e : Errno) (q : Result T Failure)
    → IsErrAnd q (λ g. g ≡ Refused e) → IsTrue (is_path_refusal e) → OnOpen G a s table (λ v. P v (Err e)) → PreparesOpen changes W now G a a s s table P q
refused_at_once {changes = changes} {W = W} {now = now} {G = G} {a = a} {s = s} {table = table} {P = P} e q is own told = carried (PreparesOpen changes W now G a a s s table P) q is (refuses no_look own told)

module _ {B T : Type 0} {G : Ghosts B} {a b : B} {s t : InodeFile} {table : Descriptors} {P : Volume → Result T Errno → Type 0} where
  -- another call has failed, and so does this one
  pub passes : {U : Type 0} {changes : Changes T} {W : T → Type 0} {now then : Option Time} {others : Changes U} {V : U → Type 0} {Q : Volume → Result U Errno → Type 0} (f : Failure) (q : Result T Failure)
      → IsErrAnd q (λ g. g ≡ f) → PreparesOpen others V then G a b s t table Q (Err f) → OnOpen G a s table (λ v. (e : Errno) → Q v (Err e) → P v (Err e))
      → PreparesOpen changes W now G a b s t table P q
  passes {changes = changes} {W = W} {now = now} (Refused e) q is failed gives =
      carried (PreparesOpen changes W now G a b s t table P) q is
      (refuses failed.looks failed.own (λ disk settled v stands volume mounted fits. gives disk settled v stands volume mounted fits e (failed.answers disk settled v stands volume mounted fits)))
  passes {changes = changes} {W = W} {now = now} (Read e) q is failed gives =
      carried (PreparesOpen changes W now G a b s t table P) q is (stops failed.looks failed.damaged (λ disk settled v stands volume mounted fits. tt))

  -- another call does it all, and its answer is this one
  pub leaves : {changes : T → Option Changing} {now : Option Time} {Q : Answer T} {r : Result T Failure} → PreparesWith changes now G a b s t Q r
      → OnOpen G a s table (λ v. (y : Result T Errno) → Q (limits_of s.geometry) v (table_of table) y → P v y) → PreparesOpen (λ x. of_changing (changes x)) IsAny now G a b s t table P r
  leaves {r = r} all gives = record {
    looks = all.looks;
    own = all.own;
    within = any r;
    ready = all.ready;
    timed = all.timed;
    does = all.does;
    answers = λ disk settled v stands volume mounted fits.
        IfOk-weaker (read_outcome r) _ _ (gives disk settled v stands volume mounted fits) (all.answers disk settled v (table_of table) stands volume mounted);
    damaged = all.damaged;
  }

  -- what another call tells is the answer
  pub sees : {Q : Volume → Result T Errno → Type 0} {r : Result T Failure} → Tells G a b s t Q r → OnOpen G a s table (λ v. (y : Result T Errno) → Q v y → P v y)
      → AnswersOpen G a b s t table P r
  sees {r = r} seen gives = record {
    looks = seen.looks;
    own = seen.own;
    within = any r;
    ready = any r;
    timed = any r;
    does = λ disk settled v stands. any r;
    answers = λ disk settled v stands volume mounted fits. IfOk-weaker (read_outcome r) _ _ (gives disk settled v stands volume mounted fits) (seen.tells disk settled v stands);
    damaged = seen.damaged;
  }

  -- no offset moves
  pub not_moved : {q : Result T Failure} → AnswersOpen G a b s t table P q → AnswersMoving G a b s t table table P q
  not_moved {q = q} seen = record {
    looks = seen.looks;
    own = seen.own;
    answers = seen.answers;
    fits = λ v fits. fits;
    mounted = λ v mounted. mounted;
    numbers = λ n has. has;
    refused = search rules;
    damaged = seen.damaged;
  }
