-- Calls that only read, as they are answered.
use Rattle.std.proofs.Common.{◌≡◌, ℕ, ℤ, List, None, Result, Ok, Err, refl, sym, subst}
use Rattle.std.specs.Result.{IsErrAnd}
use Rattle.model.specs.declared.limits.Limits.{Limits}
use Rattle.layout.specs.StateLimits.{limits_of}
use Rattle.model.specs.Reading.{gets, tells_entries}
use Rattle.model.specs.Outcomes.{Outcome}
use Rattle.model.specs.Room.{nothing}
use Rattle.model.specs.Sessions.{new_session}
use Rattle.model.specs.Steps.{calls}
use Rattle.model.specs.Trees.{Tree}
use Rattle.model.specs.Volumes.{Volume, tree_of}
use Rattle.model.specs.declared.command.PathCall.{PathCall}
use Rattle.model.specs.declared.errno.Errno.{Errno}
use Rattle.model.specs.declared.reply.Reply.{Reply}
use Rattle.model.specs.declared.reply.Reply.TheVariants as replies
use Rattle.buffers.specs.declared.blocks.Blocks.{Ghosts}
use Rattle.inofile.specs.declared.inode_file.InodeFile.{InodeFile}
use Rattle.paths.proofs.Looks.{looks_err, looks_ok}
use Rattle.records.specs.declared.failure.Failure.{Failure}
use Rattle.records.specs.declared.failure.Failure.TheVariants.{Read, Refused}
use Rattle.calls.specs.Extent.{shows_extent}
use Rattle.calls.specs.Seeing.{Answers}
use Rattle.calls.proofs.PrepareSteps.{carried, never_damaged}
use Rattle.descriptors.specs.declared.table.Descriptors.{Descriptors}
use Rattle.files.specs.Reading.{AnswersMoving}
use Rattle.dispatch.specs.Answering.{asks, answered_reply}

-- ---- a call by a path that was asked in these words

-- an offset as a number
pub gets_at : {B T : Type 0} {G : Ghosts B} {a b : B} {s t : InodeFile} {reply : Result T Errno → Reply} {r : Result T Failure} (path : List ℕ) (count : ℕ) {offset place : ℤ} → offset ≡ place
    → Answers G a b s t (λ limits u. gets limits u path offset count) reply r → Answers G a b s t (λ limits u. gets limits u path place count) reply r
gets_at {G = G} {a = a} {b = b} {s = s} {t = t} {reply = reply} {r = r} path count is all = subst (λ (z : ℤ). Answers G a b s t (λ limits u. gets limits u path z count) reply r) is all

-- a cookie as a number
pub entries_behind : {B T : Type 0} {G : Ghosts B} {a b : B} {s t : InodeFile} {reply : Result T Errno → Reply} {r : Result T Failure} (path : List ℕ) (count : ℕ) {after cookie : ℤ} → after ≡ cookie
    → Answers G a b s t (λ limits u. tells_entries limits u path after count) reply r → Answers G a b s t (λ limits u. tells_entries limits u path cookie count) reply r
entries_behind {G = G} {a = a} {b = b} {s = s} {t = t} {reply = reply} {r = r} path count is all = subst (λ (z : ℤ). Answers G a b s t (λ limits u. tells_entries limits u path z count) reply r) is all

module _ {B T : Type 0} {G : Ghosts B} {a b : B} {s t : InodeFile} {reply : Result T Errno → Reply} (call words : PathCall) (is : call ≡ words) where
  -- it is answered
  pub gives : {x : T} → Answers G a b s t (asks words) reply (Ok x) → Answers G a b s t (asks call) answered_reply (Ok (reply (Ok x)))
  gives {x} all = record {
    looks = looks_ok all.looks;
    own = tt;
    answers = λ disk settled v table stands volume.
        subst (λ (k : PathCall). calls (limits_of s.geometry) new_session (tree_of v table) k (reply (Ok x)) (tree_of v table) nothing) (sym is) (all.answers disk settled v table stands volume);
    damaged = λ disk settled v stands bad. cc;
  }

  -- it isn't
  pub fails : (f : Failure) (q : Result Reply Failure) → IsErrAnd q (λ g. g ≡ f) → ((errno : Errno) → reply (Err errno) ≡ replies.Refused errno)
      → Answers G a b s t (asks words) reply (Err f) → Answers G a b s t (asks call) answered_reply q
  fails (Refused errno) q so same all = carried (Answers G a b s t (asks call) answered_reply) q so (record {
    looks = looks_ok all.looks;
    own = all.own;
    answers = λ disk settled v table stands volume.
        let here = subst (λ (r : Reply). calls (limits_of s.geometry) new_session (tree_of v table) words r (tree_of v table) nothing) (same errno) (all.answers disk settled v table stands volume) in
        subst (λ (k : PathCall). calls (limits_of s.geometry) new_session (tree_of v table) k (replies.Refused errno) (tree_of v table) nothing) (sym is) here;
    damaged = λ disk settled v stands bad. cc;
  })
  fails (Read e) q so same all = carried (Answers G a b s t (asks call) answered_reply) q so (record {
    looks = looks_err (Err e) refl all.looks;
    own = tt;
    answers = λ disk settled v table stands volume. tt;
    damaged = never_damaged e all.damaged;
  })

-- ---- a call with any outcome on a tree

-- an offset as a number
pub extent_at : {B T : Type 0} {G : Ghosts B} {a b : B} {s t : InodeFile} {reply : Result T Errno → Reply} {r : Result T Failure} (path : List ℕ) {offset place : ℤ} → offset ≡ place
    → Answers G a b s t (shows_extent G a t path offset) reply r → Answers G a b s t (shows_extent G a t path place) reply r
extent_at {G = G} {a = a} {b = b} {s = s} {t = t} {reply = reply} {r = r} path is all = subst (λ (z : ℤ). Answers G a b s t (shows_extent G a t path z) reply r) is all

module _ {B T : Type 0} {G : Ghosts B} {a b : B} {s t : InodeFile} {reply : Result T Errno → Reply} {outcome : Limits → Tree → Outcome} where
  -- it is answered
  pub grants : {x : T} → Answers G a b s t outcome reply (Ok x) → Answers G a b s t outcome answered_reply (Ok (reply (Ok x)))
  grants all = record {
    looks = looks_ok all.looks;
    own = tt;
    answers = all.answers;
    damaged = λ disk settled v stands bad. cc;
  }

  -- it isn't
  pub grants_none : (f : Failure) (q : Result Reply Failure) → IsErrAnd q (λ g. g ≡ f) → ((errno : Errno) → reply (Err errno) ≡ replies.Refused errno)
      → Answers G a b s t outcome reply (Err f) → Answers G a b s t outcome answered_reply q
  grants_none (Refused errno) q so same all = carried (Answers G a b s t outcome answered_reply) q so (record {
    looks = looks_ok all.looks;
    own = all.own;
    answers = λ disk settled v table stands volume.
        subst (λ (r : Reply). outcome (limits_of s.geometry) (tree_of v table) r (tree_of v table) nothing) (same errno) (all.answers disk settled v table stands volume);
    damaged = λ disk settled v stands bad. cc;
  })
  grants_none (Read e) q so same all = carried (Answers G a b s t outcome answered_reply) q so (record {
    looks = looks_err (Err e) refl all.looks;
    own = tt;
    answers = λ disk settled v table stands volume. tt;
    damaged = never_damaged e all.damaged;
  })

-- ---- a call on a descriptor

module _ {B T U : Type 0} {G : Ghosts B} {a b : B} {s t : InodeFile} {table moved : Descriptors} {P : Volume → Result T Errno → Type 0} {Q : Volume → Result U Errno → Type 0} where
  -- it is answered
  pub moves : {x : T} {y : U} → AnswersMoving G a b s t table moved P (Ok x) → ((v : Volume) → P v (Ok x) → Q v (Ok y)) → AnswersMoving G a b s t table moved Q (Ok y)
  moves seen then = record {
    looks = looks_ok seen.looks;
    own = tt;
    answers = λ disk settled v stands volume mounted fits. then v (seen.answers disk settled v stands volume mounted fits);
    fits = seen.fits;
    mounted = seen.mounted;
    numbers = seen.numbers;
    refused = tt;
    damaged = λ disk settled v stands bad. cc;
  }

  -- it isn't
  pub moves_none : (f : Failure) (q : Result U Failure) → IsErrAnd q (λ g. g ≡ f) → AnswersMoving G a b s t table moved P (Err f) → ((v : Volume) (errno : Errno) → P v (Err errno) → Q v (Err errno))
      → AnswersMoving G a b s t table moved Q q
  moves_none (Refused errno) q is seen then = carried (AnswersMoving G a b s t table moved Q) q is (record {
    looks = looks_ok seen.looks;
    own = seen.own;
    answers = λ disk settled v stands volume mounted fits. then v errno (seen.answers disk settled v stands volume mounted fits);
    fits = seen.fits;
    mounted = seen.mounted;
    numbers = seen.numbers;
    refused = seen.refused;
    damaged = λ disk settled v stands bad. cc;
  })
  moves_none (Read e) q is seen then = carried (AnswersMoving G a b s t table moved Q) q is (record {
    looks = looks_err (Err e) refl seen.looks;
    own = tt;
    answers = λ disk settled v stands volume mounted fits. tt;
    fits = seen.fits;
    mounted = seen.mounted;
    numbers = seen.numbers;
    refused = seen.refused;
    damaged = never_damaged e seen.damaged;
  })
