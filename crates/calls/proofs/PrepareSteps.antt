-- Functions that prepare the change of a call, step by step.
use Rattle.std.proofs.Common.{◌≡◌, ℕ, Bool, List, Option, Some, Result, Ok, Err, IfErr, IfOk, IfSome, IsTrue, ap, is_some, refl, sym, subst}
use Rattle.std.specs.Result.{IsErrAnd}
use Rattle.std.proofs.lemmas.Result.{IfOk-weaker}
use Rattle.model.specs.declared.limits.Limits.{Limits}
use Rattle.layout.specs.StateLimits.{limits_of}
use Rattle.layout.specs.Limits.{Sizes}
use Rattle.layout.specs.Record.{FitsAttributes}
use Rattle.layout.specs.declared.inode.Inode.{Inode}
use Rattle.model.specs.Records.{Applies, Change, stamped}
use Rattle.model.specs.Trees.{Description, Tree}
use Rattle.model.specs.Volumes.{IsVolume, Volume, tree_of}
use Rattle.model.specs.declared.errno.Errno.{Errno}
use Rattle.model.specs.declared.time.Time.{Time}
use Rattle.buffers.specs.Errors.{IsFault}
use Rattle.buffers.specs.declared.error.BlockError.{BlockError}
use Rattle.buffers.specs.declared.error.BlockError.TheVariants.{Damaged}
use Rattle.buffers.specs.declared.blocks.Blocks.{Ghosts}
use Rattle.images.specs.Soundness.{by_bytes}
use Rattle.inofile.specs.declared.inode_file.InodeFile.{InodeFile}
use Rattle.paths.specs.Standing.{Looks, Stands}
use Rattle.paths.proofs.Looks.{looks_err, looks_more, looks_ok}
use Rattle.paths.proofs.LookingUp.{same_error}
use Rattle.records.specs.Failures.{read_outcome}
use Rattle.records.specs.Obstacles.{IsObstacle}
use Rattle.records.specs.Prepared.{Does, IsReady}
use Rattle.records.specs.Preparing.{DecidesOn, Premise}
use Rattle.records.specs.Shown.{NeverDamaged, OnMounted, OnVolumes}
use Rattle.records.specs.declared.failure.Failure.{Failure}
use Rattle.records.specs.declared.failure.Failure.TheVariants.{Read, Refused}
use Rattle.records.specs.declared.prepared.Prepared.{Prepared}
use Rattle.calls.specs.Changing.{change_by, said_by}
use Rattle.calls.specs.Leading.{TellsWhere}
use Rattle.calls.specs.Preparing.{Answer, IsTimed, Prepares, PreparesAny, PreparesKnowing, PreparesWith}
use Rattle.calls.specs.Refusals.{is_path_refusal}
use Rattle.calls.specs.declared.changed.Changing.{Changing}
use Rattle.calls.specs.declared.changed.OwnedChange.{OwnedChange}
use Rattle.calls.proofs.RefusalLaws.{obstacle_own}

-- no damage was found, in another type
pub never_damaged : {B T U : Type 0} {G : Ghosts B} {a : B} {s : InodeFile} (e : BlockError) → NeverDamaged {T = T} G a s (Err e) → NeverDamaged {T = U} G a s (Err e)
never_damaged e sound = λ disk settled v stands bad. sound disk settled v stands (same_error (Err e) e Damaged refl bad)

-- what is true of a failure is true of what a `?` makes of it
pub carried : {T : Type 0} (Q : Result T Failure → Type 0) {f : Failure} (q : Result T Failure) → IsErrAnd q (λ g. g ≡ f) → Q (Err f) → Q q
carried Q (Ok y) is so = absurd is
carried Q (Err g) is so = subst (λ (x : Failure). Q (Err x)) (sym is) so

module _ {B T : Type 0} {changes : T → Option Changing} {now : Option Time} {G : Ghosts B} {a b : B} {s t : InodeFile} {P : Answer T} where
  -- the call is refused by an errno
  pub refuses : {X : Type 0} {x : X} {e : Errno} → Looks {T = X} {E = BlockError} G IsFault a b s t (Ok x) → IsTrue (is_path_refusal e)
      → OnMounted G a s (λ v table. P (limits_of s.geometry) v table (Err e)) → PreparesWith changes now G a b s t P (Err (Refused e))
  refuses looks own answers = record {
    looks = looks_ok looks;
    own = own;
    ready = tt;
    timed = tt;
    does = λ disk settled v stands. tt;
    answers = answers;
    damaged = λ disk settled v stands is. cc;
  }

  -- the call isn't refused
  pub grants : {X : Type 0} {x : X} {y : T} → Looks {T = X} {E = BlockError} G IsFault a b s t (Ok x) → IfSome (changes y) (λ c. IsReady t c.prepared)
      → IfSome (changes y) (λ c. IsTimed now (change_by c)) → OnVolumes G a s (λ disk settled v. IfSome (changes y) (λ c. Does disk settled t v c.prepared (change_by c)))
      → OnMounted G a s (λ v table. P (limits_of s.geometry) v table (Ok y)) → PreparesWith changes now G a b s t P (Ok y)
  grants looks ready timed does answers = record {
    looks = looks_ok looks;
    own = tt;
    ready = ready;
    timed = timed;
    does = does;
    answers = answers;
    damaged = λ disk settled v stands is. cc;
  }

  -- a step before has failed
  pub stops : {X : Type 0} {e : BlockError} (q : Result T Failure) → IsErrAnd q (λ f. f ≡ Read e)
      → Looks {T = X} G IsFault a b s t (Err e) → NeverDamaged {T = X} G a s (Err e) → PreparesWith changes now G a b s t P q
  stops {e = e} q is looks sound = carried (PreparesWith changes now G a b s t P) q is (record {
    looks = looks_err (Err e) refl looks;
    own = tt;
    ready = tt;
    timed = tt;
    does = λ disk settled v stands. tt;
    answers = λ disk settled v table stands volume mounted. tt;
    damaged = never_damaged e sound;
  })

  -- another call has failed: a block isn't read, or that call is refused
  pub fails : {X : Type 0} (f : Failure) (q : Result T Failure) → IsErrAnd q (λ g. g ≡ f) → Looks G IsFault a b s t (read_outcome {T = X} (Err f))
      → IfOk (read_outcome {T = X} (Err f)) (λ r. IfErr r (λ e. IsTrue (is_path_refusal e))) → NeverDamaged G a s (read_outcome {T = X} (Err f))
      → OnMounted G a s (λ v table. (errno : Errno) → f ≡ Refused errno → P (limits_of s.geometry) v table (Err errno)) → PreparesWith changes now G a b s t P q
  fails (Refused errno) q is looks own sound answers =
      carried (PreparesWith changes now G a b s t P) q is
      (refuses looks own (λ disk settled v table stands volume mounted. answers disk settled v table stands volume mounted errno refl))
  fails (Read e) q is looks own sound answers = stops q is looks sound

  -- another function that prepares has failed, and so does this one
  pub fails_as : {U : Type 0} {others : U → Option Changing} {Q : Answer U} (f : Failure) (q : Result T Failure) → IsErrAnd q (λ g. g ≡ f)
      → PreparesWith others now G a b s t Q (Err f)
      → OnMounted G a s (λ v table. (errno : Errno) → Q (limits_of s.geometry) v table (Err errno) → P (limits_of s.geometry) v table (Err errno))
      → PreparesWith changes now G a b s t P q
  fails_as (Refused errno) q is failed answers =
      carried (PreparesWith changes now G a b s t P) q is
      (refuses failed.looks failed.own (λ disk settled v table stands volume mounted.
      answers disk settled v table stands volume mounted errno (failed.answers disk settled v table stands volume mounted)))
  fails_as (Read e) q is failed answers = stops q is failed.looks failed.damaged

  -- the same where that call is refused by one errno alone
  pub fails_by : {X : Type 0} (code : Errno) → IsTrue (is_path_refusal code) → (f : Failure) (q : Result T Failure) → IsErrAnd q (λ g. g ≡ f)
      → Looks G IsFault a b s t (read_outcome {T = X} (Err f)) → IfOk (read_outcome {T = X} (Err f)) (λ r. IfErr r (λ e. e ≡ code)) → NeverDamaged G a s (read_outcome {T = X} (Err f))
      → OnMounted G a s (λ v table. f ≡ Refused code → P (limits_of s.geometry) v table (Err code)) → PreparesWith changes now G a b s t P q
  fails_by code own (Refused errno) q is looks by sound answers =
      carried (PreparesWith changes now G a b s t P) q is
      (subst (λ (e : Errno). PreparesWith changes now G a b s t P (Err (Refused e))) (sym by)
      (refuses looks own (λ disk settled v table stands volume mounted. answers disk settled v table stands volume mounted (ap (λ e. Refused e) by))))
  fails_by code own (Read e) q is looks by sound answers = stops q is looks sound

  -- nothing stands where a path leads: a block isn't read, or this is refused
  pub passes : {follow : Bool} {Q : Limits → Tree → Volume → Result ℕ Errno → Type 0} (f : Failure) (q : Result T Failure)
      → IsErrAnd q (λ g. g ≡ f) → TellsWhere G a b s t follow Q (Err f)
      → OnMounted G a s (λ v table. (errno : Errno) → Q (limits_of s.geometry) (tree_of v table) v (Err errno) → P (limits_of s.geometry) v table (Err errno))
      → PreparesWith changes now G a b s t P q
  passes (Refused errno) q is led answers =
      carried (PreparesWith changes now G a b s t P) q is
      (refuses led.looks led.own (λ disk settled v table stands volume mounted.
      answers disk settled v table stands volume mounted errno (led.leads disk settled v table stands volume)))
  passes (Read e) q is led answers = stops q is led.looks led.damaged

module _ {B T : Type 0} {changes : T → Option Changing} {now : Option Time} {G : Ghosts B} {a b c : B} {s t u : InodeFile} {P : Answer T} where
  -- a step behind a look has failed
  pub stops_later : {X Y : Type 0} {x : X} {e : BlockError} (q : Result T Failure) → IsErrAnd q (λ f. f ≡ Read e)
      → Looks {T = X} G IsFault a b s t (Ok x) → Looks {T = Y} G IsFault b c t u (Err e) → NeverDamaged {T = Y} G b t (Err e)
      → PreparesWith changes now G a c s u P q
  stops_later q is looks then sound =
      stops q is (looks_more looks then) (λ disk settled v stands. sound disk settled v (looks.kept disk settled v stands))

module _ {B T : Type 0} {changes : T → Option Changing} {now : Option Time} {G : Ghosts B} {a b c : B} {s t u : InodeFile} {P Q : Answer T} where
  -- another function goes on behind a look
  pub follows : {X : Type 0} {x : X} {r : Result T Failure} → Looks {T = X} {E = BlockError} G IsFault a b s t (Ok x)
      → PreparesWith changes now G b c t u Q r
      → OnMounted G a s (λ v table. (y : Result T Errno) → Q (limits_of s.geometry) v table y → P (limits_of s.geometry) v table y)
      → PreparesWith changes now G a c s u P r
  follows {r = r} looks then leads = record {
    looks = looks_more looks then.looks;
    own = then.own;
    ready = then.ready;
    timed = then.timed;
    does = λ disk settled v stands. then.does disk settled v (looks.kept disk settled v stands);
    answers = λ disk settled v table stands volume mounted.
        IfOk-weaker (read_outcome r) _ _ (leads disk settled v table stands volume mounted)
        (subst (λ (z : Sizes). IfOk (read_outcome r) (Q (limits_of z) v table)) looks.geometry
        (then.answers disk settled v table (looks.kept disk settled v stands) (subst (λ (z : Sizes). IsVolume (limits_of z) v) (sym looks.geometry) volume) mounted));
    damaged = λ disk settled v stands is. then.damaged disk settled v (looks.kept disk settled v stands) is;
  }

module _ {B T : Type 0} {changes : T → Option Changing} {now : Option Time} {G : Ghosts B} {a b : B} {s t : InodeFile} {P Q : Answer T} where
  -- another function does it all, and its answer is this one
  pub leaves : {r : Result T Failure} → PreparesWith changes now G a b s t Q r
      → OnMounted G a s (λ v table. (y : Result T Errno) → Q (limits_of s.geometry) v table y → P (limits_of s.geometry) v table y)
      → PreparesWith changes now G a b s t P r
  leaves {r = r} all leads = record {
    looks = all.looks;
    own = all.own;
    ready = all.ready;
    timed = all.timed;
    does = all.does;
    answers = λ disk settled v table stands volume mounted.
        IfOk-weaker (read_outcome r) _ _ (leads disk settled v table stands volume mounted) (all.answers disk settled v table stands volume mounted);
    damaged = all.damaged;
  }

-- a call that may find nothing to change has what another function prepares
pub changes_as : {B : Type 0} {now : Option Time} {G : Ghosts B} {a b : B} {s t : InodeFile} {P : Answer (Option Changing)} {Q : Answer Changing} {c : Changing} → Prepares now G a b s t Q (Ok c)
    → OnMounted G a s (λ v table. Q (limits_of s.geometry) v table (Ok c) → P (limits_of s.geometry) v table (Ok (Some c)))
    → PreparesAny now G a b s t P (Ok (Some c))
changes_as all leads = record {
  looks = looks_ok all.looks;
  own = tt;
  ready = all.ready;
  timed = all.timed;
  does = all.does;
  answers = λ disk settled v table stands volume mounted. leads disk settled v table stands volume mounted (all.answers disk settled v table stands volume mounted);
  damaged = λ disk settled v stands is. cc;
}

-- a part of a call, where so much is known of a volume
module _ {B : Type 0} {Known : Volume → Type 0} {now : Option Time} {G : Ghosts B} {a b : B} {s t : InodeFile} {P : Answer (Option Changing)} where
  -- what is prepared whatever is known
  pub whatever : {r : Result (Option Changing) Failure} → PreparesAny now G a b s t (λ limits v table y. Known v → P limits v table y) r → PreparesKnowing Known now G a b s t P r
  whatever {r = r} all = record {
    looks = all.looks;
    own = all.own;
    ready = all.ready;
    timed = all.timed;
    does = λ disk settled v stands know. all.does disk settled v stands;
    answers = λ disk settled v table stands volume mounted know.
        IfOk-weaker (read_outcome r) _ _ (λ y given. given know) (all.answers disk settled v table stands volume mounted);
    damaged = all.damaged;
  }

  -- this is known
  pub known : {r : Result (Option Changing) Failure} → PreparesKnowing Known now G a b s t P r → OnVolumes G a s (λ disk settled v. Known v) → PreparesAny now G a b s t P r
  known part is = record {
    looks = part.looks;
    own = part.own;
    ready = part.ready;
    timed = part.timed;
    does = λ disk settled v stands. part.does disk settled v stands (is disk settled v stands);
    answers = λ disk settled v table stands volume mounted. part.answers disk settled v table stands volume mounted (is disk settled v stands);
    damaged = part.damaged;
  }

  -- what a record decides is the answer
  pub granted_knowing : {Over Sure : Premise} {change : Change} (c : Changing) → DecidesOn Over Sure G a b s t change (Ok c.prepared) → change_by c ≡ change → IsTimed now (change_by c)
      → OnVolumes G a s (λ disk settled v. Known v → Over by_bytes disk settled v)
      → ((disk : ℕ → List ℕ) (settled : ℕ → Inode) (v : Volume) (table : ℕ → Option Description) → Stands G disk settled v a s → IsVolume (limits_of s.geometry) v → Known v
      → (Sure by_bytes disk settled v → Applies (limits_of s.geometry) v change) → P (limits_of s.geometry) v table (Ok (Some c)))
      → PreparesKnowing Known now G a b s t P (Ok (Some c))
  granted_knowing c decides says timed over answers = record {
    looks = looks_ok decides.looks;
    own = tt;
    ready = decides.ready;
    timed = timed;
    does = λ disk settled v stands know.
        subst (Does disk settled t v c.prepared) (sym says) (decides.does {detail = by_bytes} disk settled v (over disk settled v stands know));
    answers = λ disk settled v table stands volume mounted know. answers disk settled v table stands volume know (decides.applies {detail = by_bytes} disk settled v);
    damaged = λ disk settled v stands is. cc;
  }

-- it goes on behind a look
pub follows_knowing : {B X : Type 0} {Known Then : Volume → Type 0} {now : Option Time} {G : Ghosts B} {a b c : B} {s t u : InodeFile} {P Q : Answer (Option Changing)} {x : X} {r : Result (Option Changing) Failure}
    → Looks {T = X} {E = BlockError} G IsFault a b s t (Ok x) → PreparesKnowing Then now G b c t u Q r → OnVolumes G a s (λ disk settled v. Known v → Then v)
    → OnMounted G a s (λ v table. Known v → (y : Result (Option Changing) Errno) → Q (limits_of s.geometry) v table y → P (limits_of s.geometry) v table y)
    → PreparesKnowing Known now G a c s u P r
follows_knowing {Q = Q} {r = r} looks then knows leads = record {
  looks = looks_more looks then.looks;
  own = then.own;
  ready = then.ready;
  timed = then.timed;
  does = λ disk settled v stands know. then.does disk settled v (looks.kept disk settled v stands) (knows disk settled v stands know);
  answers = λ disk settled v table stands volume mounted know.
      IfOk-weaker (read_outcome r) _ _ (leads disk settled v table stands volume mounted know)
      (subst (λ (z : Sizes). IfOk (read_outcome r) (Q (limits_of z) v table)) looks.geometry
      (then.answers disk settled v table (looks.kept disk settled v stands) (subst (λ (z : Sizes). IsVolume (limits_of z) v) (sym looks.geometry) volume) mounted (knows disk settled v stands know)));
  damaged = λ disk settled v stands is. then.damaged disk settled v (looks.kept disk settled v stands) is;
}

-- what a record decides is the call's answer
module _ {B T : Type 0} {changes : T → Option Changing} {now : Option Time} {G : Ghosts B} {a b : B} {s t : InodeFile} {P : Answer T} {Over Sure : Premise} {change : Change} where
  -- it is prepared
  pub granted : {p : Prepared} {y : T} {owned : OwnedChange} → DecidesOn Over Sure G a b s t change (Ok p) → changes y ≡ Some (record { time = now; change = owned; prepared = p })
      → stamped now (said_by owned) ≡ change → FitsAttributes (is_some now) (said_by owned) → OnVolumes G a s (Over by_bytes)
      → ((disk : ℕ → List ℕ) (settled : ℕ → Inode) (v : Volume) (table : ℕ → Option Description) → Stands G disk settled v a s → IsVolume (limits_of s.geometry) v
      → (Sure by_bytes disk settled v → Applies (limits_of s.geometry) v change) → P (limits_of s.geometry) v table (Ok y))
      → PreparesWith changes now G a b s t P (Ok y)
  granted {p = p} decides same says fits over answers =
      grants decides.looks
      (subst (λ o. IfSome o (λ c. IsReady t c.prepared)) (sym same) decides.ready)
      (subst (λ o. IfSome o (λ c. IsTimed now (change_by c))) (sym same) (refl, fits))
      (λ disk settled v stands.
      subst (λ o. IfSome o (λ c. Does disk settled t v c.prepared (change_by c))) (sym same)
      (subst (Does disk settled t v p) (sym says) (decides.does {detail = by_bytes} disk settled v (over disk settled v stands))))
      (λ disk settled v table stands volume mounted. answers disk settled v table stands volume (decides.applies {detail = by_bytes} disk settled v))

  -- there is an obstacle, or a block isn't read
  pub hindered : (f : Failure) (q : Result T Failure) → IsErrAnd q (λ g. g ≡ f) → DecidesOn Over Sure G a b s t change (Err f)
      → ((disk : ℕ → List ℕ) (settled : ℕ → Inode) (v : Volume) (table : ℕ → Option Description) → Stands G disk settled v a s → IsVolume (limits_of s.geometry) v
      → (errno : Errno) → (Sure by_bytes disk settled v → IsObstacle (limits_of s.geometry) v change errno) → P (limits_of s.geometry) v table (Err errno))
      → PreparesWith changes now G a b s t P q
  hindered (Refused errno) q is decides answers =
      carried (PreparesWith changes now G a b s t P) q is
      (refuses decides.looks (obstacle_own change errno decides.own)
      (λ disk settled v table stands volume mounted. answers disk settled v table stands volume errno (λ sure. decides.refused {detail = by_bytes} disk settled v sure volume)))
  hindered (Read e) q is decides answers = stops q is decides.looks (λ disk settled v stands. decides.damaged disk settled v stands tt)
