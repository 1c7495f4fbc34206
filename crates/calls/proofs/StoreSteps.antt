-- Functions that prepare bytes for a file, step by step.
use Rattle.std.proofs.Common.{◌≡◌, ℕ, Bool, List, Option, Result, Ok, Err, IfErr, IfOk, IfSome, IsTrue, refl, sym, subst}
use Rattle.std.specs.Result.{IsErrAnd}
use Rattle.std.proofs.lemmas.Result.{IfOk-weaker}
use Rattle.model.specs.declared.limits.Limits.{Limits}
use Rattle.layout.specs.StateLimits.{limits_of}
use Rattle.layout.specs.Limits.{Sizes}
use Rattle.model.specs.Trees.{Tree}
use Rattle.model.specs.Volumes.{IsVolume, Volume, tree_of}
use Rattle.model.specs.declared.errno.Errno.{Errno}
use Rattle.model.specs.declared.time.Time.{Time}
use Rattle.model.specs.declared.errno.Errno.TheVariants.{EFBIG}
use Rattle.buffers.specs.Errors.{IsFault}
use Rattle.buffers.specs.declared.error.BlockError.{BlockError}
use Rattle.buffers.specs.declared.blocks.Blocks.{Ghosts}
use Rattle.inofile.specs.declared.inode_file.InodeFile.{InodeFile}
use Rattle.paths.specs.Standing.{Looks}
use Rattle.paths.proofs.Looks.{looks_err, looks_more, looks_ok}
use Rattle.records.specs.Failures.{read_outcome}
use Rattle.records.specs.Prepared.{Does, IsReady}
use Rattle.records.specs.Shown.{NeverDamaged, OnMounted, OnVolumes}
use Rattle.records.specs.declared.failure.Failure.{Failure}
use Rattle.records.specs.declared.failure.Failure.TheVariants.{Read, Refused}
use Rattle.calls.specs.Leading.{TellsWhere}
use Rattle.calls.specs.Preparing.{Answer}
use Rattle.calls.specs.Refusals.{is_path_refusal}
use Rattle.calls.specs.Store.{IsTransfer, PreparesStoring, change_of_store}
use Rattle.calls.specs.declared.preparing.store.Storing.{Storing}
use Rattle.calls.proofs.PrepareSteps.{carried, never_damaged}

module _ {B : Type 0} {now : Option Time} {bytes : List ℕ} {G : Ghosts B} {a b : B} {s t : InodeFile} {P : Answer (Option Storing)} where
  -- the call is refused by an errno
  pub refuses : {X : Type 0} {x : X} {e : Errno} → Looks {T = X} {E = BlockError} G IsFault a b s t (Ok x) → IsTrue (is_path_refusal e)
      → OnMounted G a s (λ v table. P (limits_of s.geometry) v table (Err e)) → PreparesStoring now bytes G a b s t P (Err (Refused e))
  refuses looks own answers = record {
    looks = looks_ok looks;
    own = own;
    within = tt;
    ready = tt;
    does = λ disk settled v stands. tt;
    answers = answers;
    damaged = λ disk settled v stands is. cc;
  }

  -- the call isn't refused
  pub grants : {X : Type 0} {x : X} {o : Option Storing} → Looks {T = X} {E = BlockError} G IsFault a b s t (Ok x) → IsTransfer bytes o → IfSome o (λ w. IsReady t w.prepared)
      → OnVolumes G a s (λ disk settled v. IfSome o (λ w. Does disk settled t v w.prepared (change_of_store now w bytes))) → OnMounted G a s (λ v table. P (limits_of s.geometry) v table (Ok o))
      → PreparesStoring now bytes G a b s t P (Ok o)
  grants looks within ready does answers = record {
    looks = looks_ok looks;
    own = tt;
    within = within;
    ready = ready;
    does = does;
    answers = answers;
    damaged = λ disk settled v stands is. cc;
  }

  -- a step before has failed
  pub stops : {X : Type 0} {e : BlockError} (q : Result (Option Storing) Failure) → IsErrAnd q (λ f. f ≡ Read e)
      → Looks {T = X} G IsFault a b s t (Err e) → NeverDamaged {T = X} G a s (Err e) → PreparesStoring now bytes G a b s t P q
  stops {e = e} q is looks sound = carried (PreparesStoring now bytes G a b s t P) q is (record {
    looks = looks_err (Err e) refl looks;
    own = tt;
    within = tt;
    ready = tt;
    does = λ disk settled v stands. tt;
    answers = λ disk settled v table stands volume mounted. tt;
    damaged = never_damaged e sound;
  })

  -- nothing stands where a path leads: a block isn't read, or this is refused
  pub passes : {follow : Bool} {Q : Limits → Tree → Volume → Result ℕ Errno → Type 0} (f : Failure) (q : Result (Option Storing) Failure)
      → IsErrAnd q (λ g. g ≡ f) → TellsWhere G a b s t follow Q (Err f)
      → OnMounted G a s (λ v table. (errno : Errno) → Q (limits_of s.geometry) (tree_of v table) v (Err errno) → P (limits_of s.geometry) v table (Err errno))
      → PreparesStoring now bytes G a b s t P q
  passes (Refused errno) q is led answers =
      carried (PreparesStoring now bytes G a b s t P) q is
      (refuses led.looks led.own (λ disk settled v table stands volume mounted.
      answers disk settled v table stands volume mounted errno (led.leads disk settled v table stands volume)))
  passes (Read e) q is led answers = stops q is led.looks led.damaged

  -- bytes aren't put into a file: it would be too great, or a block isn't read
  pub fails : {X : Type 0} (f : Failure) (q : Result (Option Storing) Failure) → IsErrAnd q (λ g. g ≡ f) → Looks G IsFault a b s t (read_outcome {T = X} (Err f))
      → IfOk (read_outcome {T = X} (Err f)) (λ r. IfErr r (λ e. e ≡ EFBIG)) → NeverDamaged G a s (read_outcome {T = X} (Err f))
      → OnMounted G a s (λ v table. (errno : Errno) → f ≡ Refused errno → P (limits_of s.geometry) v table (Err errno)) → PreparesStoring now bytes G a b s t P q
  fails (Refused errno) q is looks big sound answers =
      carried (PreparesStoring now bytes G a b s t P) q is
      (refuses looks (subst (λ (e : Errno). IsTrue (is_path_refusal e)) (sym big) refl) (λ disk settled v table stands volume mounted. answers disk settled v table stands volume mounted errno refl))
  fails (Read e) q is looks big sound answers = stops q is looks sound

module _ {B : Type 0} {now : Option Time} {bytes : List ℕ} {G : Ghosts B} {a b c : B} {s t u : InodeFile} {P : Answer (Option Storing)} where
  -- a step behind a look has failed
  pub stops_later : {X Y : Type 0} {x : X} {e : BlockError} (q : Result (Option Storing) Failure) → IsErrAnd q (λ f. f ≡ Read e)
      → Looks {T = X} G IsFault a b s t (Ok x) → Looks {T = Y} G IsFault b c t u (Err e) → NeverDamaged {T = Y} G b t (Err e)
      → PreparesStoring now bytes G a c s u P q
  stops_later q is looks then sound =
      stops q is (looks_more looks then) (λ disk settled v stands. sound disk settled v (looks.kept disk settled v stands))

  -- another function goes on behind a look
  pub follows : {X : Type 0} {Q : Answer (Option Storing)} {x : X} {r : Result (Option Storing) Failure} → Looks {T = X} {E = BlockError} G IsFault a b s t (Ok x)
      → PreparesStoring now bytes G b c t u Q r
      → OnMounted G a s (λ v table. (y : Result (Option Storing) Errno) → Q (limits_of s.geometry) v table y → P (limits_of s.geometry) v table y)
      → PreparesStoring now bytes G a c s u P r
  follows {Q = Q} {r = r} looks then leads = record {
    looks = looks_more looks then.looks;
    own = then.own;
    within = then.within;
    ready = then.ready;
    does = λ disk settled v stands. then.does disk settled v (looks.kept disk settled v stands);
    answers = λ disk settled v table stands volume mounted.
        IfOk-weaker (read_outcome r) _ _ (leads disk settled v table stands volume mounted)
        (subst (λ (z : Sizes). IfOk (read_outcome r) (Q (limits_of z) v table)) looks.geometry
        (then.answers disk settled v table (looks.kept disk settled v stands) (subst (λ (z : Sizes). IsVolume (limits_of z) v) (sym looks.geometry) volume) mounted));
    damaged = λ disk settled v stands is. then.damaged disk settled v (looks.kept disk settled v stands) is;
  }
