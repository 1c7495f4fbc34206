-- Calls by a path that only look, step by step.
use Rattle.std.proofs.Common.{◌≡◌, ℕ, Bool, Result, Ok, Err, IsTrue, refl}
use Rattle.std.specs.Result.{IsErrAnd}
use Rattle.std.proofs.lemmas.Result.{IfOk-weaker}
use Rattle.model.specs.declared.limits.Limits.{Limits}
use Rattle.layout.specs.StateLimits.{limits_of}
use Rattle.model.specs.Outcomes.{Outcome}
use Rattle.model.specs.Room.{nothing}
use Rattle.model.specs.Trees.{Tree}
use Rattle.model.specs.Volumes.{Volume, tree_of}
use Rattle.model.specs.declared.errno.Errno.{Errno}
use Rattle.model.specs.declared.reply.Reply.{Reply}
use Rattle.buffers.specs.Errors.{IsFault}
use Rattle.buffers.specs.declared.error.BlockError.{BlockError}
use Rattle.buffers.specs.declared.blocks.Blocks.{Ghosts}
use Rattle.inofile.specs.declared.inode_file.InodeFile.{InodeFile}
use Rattle.paths.specs.Standing.{Looks}
use Rattle.paths.proofs.Looks.{looks_err, looks_more, looks_ok}
use Rattle.records.specs.Failures.{read_outcome}
use Rattle.records.specs.Shown.{NeverDamaged, OnVolumes}
use Rattle.records.specs.declared.failure.Failure.{Failure}
use Rattle.records.specs.declared.failure.Failure.TheVariants.{Read, Refused}
use Rattle.calls.specs.Leading.{TellsWhere}
use Rattle.calls.specs.Refusals.{is_path_refusal}
use Rattle.calls.specs.Seeing.{Answers, OnTrees, Tells}
use Rattle.calls.proofs.PrepareSteps.{carried, never_damaged}

module _ {B T : Type 0} {G : Ghosts B} {a b : B} {s t : InodeFile} {P : Volume → Result T Errno → Type 0} where
  -- what was looked at is told
  pub tells_all : {X : Type 0} {x : X} {y : T} → Looks {T = X} {E = BlockError} G IsFault a b s t (Ok x) → OnVolumes G a s (λ disk settled v. P v (Ok y)) → Tells G a b s t P (Ok y)
  tells_all looks tells = record {
    looks = looks_ok looks;
    own = tt;
    tells = tells;
    damaged = λ disk settled v stands is. cc;
  }

  -- it is told why nothing is
  pub tells_refusal : {X : Type 0} {x : X} {e : Errno} → Looks {T = X} {E = BlockError} G IsFault a b s t (Ok x) → IsTrue (is_path_refusal e)
      → OnVolumes G a s (λ disk settled v. P v (Err e)) → Tells G a b s t P (Err (Refused e))
  tells_refusal looks own tells = record {
    looks = looks_ok looks;
    own = own;
    tells = tells;
    damaged = λ disk settled v stands is. cc;
  }

  -- a step before has failed
  pub tells_none : {X : Type 0} {e : BlockError} (q : Result T Failure) → IsErrAnd q (λ f. f ≡ Read e)
      → Looks {T = X} G IsFault a b s t (Err e) → NeverDamaged {T = X} G a s (Err e) → Tells G a b s t P q
  tells_none {e = e} q is looks sound = carried (Tells G a b s t P) q is (record {
    looks = looks_err (Err e) refl looks;
    own = tt;
    tells = λ disk settled v stands. tt;
    damaged = never_damaged e sound;
  })

module _ {B T U : Type 0} {G : Ghosts B} {a b : B} {s t : InodeFile} {P : Volume → Result T Errno → Type 0} {Q : Volume → Result U Errno → Type 0} where
  -- what wasn't told isn't told of more
  pub tells_no_more : (f : Failure) (q : Result U Failure) → IsErrAnd q (λ g. g ≡ f) → Tells G a b s t P (Err f) → ((v : Volume) (errno : Errno) → P v (Err errno) → Q v (Err errno)) → Tells G a b s t Q q
  tells_no_more (Refused errno) q is told leads = carried (Tells G a b s t Q) q is (tells_refusal told.looks told.own (λ disk settled v stands. leads v errno (told.tells disk settled v stands)))
  tells_no_more (Read e) q is told leads = tells_none q is told.looks told.damaged

module _ {B T : Type 0} {G : Ghosts B} {a b : B} {s t : InodeFile} {outcome : Limits → Tree → Outcome} {reply : Result T Errno → Reply} where
  -- the call is refused by an errno
  pub refuses : {X : Type 0} {x : X} {e : Errno} → Looks {T = X} {E = BlockError} G IsFault a b s t (Ok x) → IsTrue (is_path_refusal e)
      → OnTrees G a s (λ v table. outcome (limits_of s.geometry) (tree_of v table) (reply (Err e)) (tree_of v table) nothing) → Answers G a b s t outcome reply (Err (Refused e))
  refuses looks own answers = record {
    looks = looks_ok looks;
    own = own;
    answers = answers;
    damaged = λ disk settled v stands is. cc;
  }

  -- the call isn't refused
  pub grants : {X : Type 0} {x : X} {y : T} → Looks {T = X} {E = BlockError} G IsFault a b s t (Ok x)
      → OnTrees G a s (λ v table. outcome (limits_of s.geometry) (tree_of v table) (reply (Ok y)) (tree_of v table) nothing) → Answers G a b s t outcome reply (Ok y)
  grants looks answers = record {
    looks = looks_ok looks;
    own = tt;
    answers = answers;
    damaged = λ disk settled v stands is. cc;
  }

  -- a step before has failed
  pub stops : {X : Type 0} {e : BlockError} (q : Result T Failure) → IsErrAnd q (λ f. f ≡ Read e)
      → Looks {T = X} G IsFault a b s t (Err e) → NeverDamaged {T = X} G a s (Err e) → Answers G a b s t outcome reply q
  stops {e = e} q is looks sound = carried (Answers G a b s t outcome reply) q is (record {
    looks = looks_err (Err e) refl looks;
    own = tt;
    answers = λ disk settled v table stands volume. tt;
    damaged = never_damaged e sound;
  })

  -- nothing stands where a path leads: a block isn't read, or this is refused
  pub passes : {follow : Bool} {Q : Limits → Tree → Volume → Result ℕ Errno → Type 0} (f : Failure) (q : Result T Failure)
      → IsErrAnd q (λ g. g ≡ f) → TellsWhere G a b s t follow Q (Err f)
      → OnTrees G a s (λ v table. (errno : Errno) → Q (limits_of s.geometry) (tree_of v table) v (Err errno)
      → outcome (limits_of s.geometry) (tree_of v table) (reply (Err errno)) (tree_of v table) nothing) → Answers G a b s t outcome reply q
  passes (Refused errno) q is led answers =
      carried (Answers G a b s t outcome reply) q is
      (refuses led.looks led.own (λ disk settled v table stands volume. answers disk settled v table stands volume errno (led.leads disk settled v table stands volume)))
  passes (Read e) q is led answers = stops q is led.looks led.damaged

module _ {B T : Type 0} {G : Ghosts B} {a b c : B} {s t u : InodeFile} {outcome : Limits → Tree → Outcome} {reply : Result T Errno → Reply} where
  -- a step behind a look has failed
  pub stops_later : {X Y : Type 0} {x : X} {e : BlockError} (q : Result T Failure) → IsErrAnd q (λ f. f ≡ Read e)
      → Looks {T = X} G IsFault a b s t (Ok x) → Looks {T = Y} G IsFault b c t u (Err e) → NeverDamaged {T = Y} G b t (Err e) → Answers G a c s u outcome reply q
  stops_later q is looks then sound =
      stops q is (looks_more looks then) (λ disk settled v stands. sound disk settled v (looks.kept disk settled v stands))

module _ {B T : Type 0} {G : Ghosts B} {a b c : B} {s t u : InodeFile} {outcome : Limits → Tree → Outcome} {reply : Result T Errno → Reply} {P : Volume → Result T Errno → Type 0} where
  -- the answer is told behind a look
  pub follows : {X : Type 0} {x : X} {r : Result T Failure} → Looks {T = X} {E = BlockError} G IsFault a b s t (Ok x) → Tells G b c t u P r
      → OnTrees G a s (λ v table. (y : Result T Errno) → P v y → outcome (limits_of s.geometry) (tree_of v table) (reply y) (tree_of v table) nothing) → Answers G a c s u outcome reply r
  follows {r = r} looks then leads = record {
    looks = looks_more looks then.looks;
    own = then.own;
    answers = λ disk settled v table stands volume.
        IfOk-weaker (read_outcome r) _ _ (leads disk settled v table stands volume) (then.tells disk settled v (looks.kept disk settled v stands));
    damaged = λ disk settled v stands is. then.damaged disk settled v (looks.kept disk settled v stands) is;
  }
