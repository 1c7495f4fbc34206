-- What is told of names one after the other, step by step.
use Rattle.std.proofs.Common.{◌≡◌, List, [], ◌∷◌, ◌++◌, Result, Ok, Err}
use Rattle.std.specs.List.{AllZip}
use Rattle.std.specs.Result.{IsErrAnd, IsErrOf}
use Rattle.model.specs.declared.limits.Limits.{Limits}
use Rattle.layout.specs.StateLimits.{limits_of}
use Rattle.model.specs.Outcomes.{Outcome}
use Rattle.model.specs.Room.{nothing}
use Rattle.model.specs.Trees.{Tree}
use Rattle.model.specs.Volumes.{Volume, tree_of}
use Rattle.model.specs.declared.errno.Errno.{Errno}
use Rattle.model.specs.declared.reply.Reply.{Reply}
use Rattle.buffers.specs.Errors.{IsFault}
use Rattle.buffers.specs.declared.error.BlockError.{BlockError}
use Rattle.buffers.specs.declared.error.BlockError.TheVariants.{Damaged, NoMemory}
use Rattle.buffers.specs.declared.blocks.Blocks.{Ghosts}
use Rattle.inofile.specs.declared.inode_file.InodeFile.{InodeFile}
use Rattle.paths.specs.Standing.{Looks}
use Rattle.paths.proofs.Looks.{looks_more}
use Rattle.records.specs.Shown.{NeverDamaged, OnVolumes}
use Rattle.records.specs.declared.failure.Failure.{Failure}
use Rattle.records.specs.declared.failure.Failure.TheVariants.{Read, Refused}
use Rattle.calls.specs.Seeing.{Answers, OnTrees, Tells}
use Rattle.calls.proofs.PrepareSteps.{carried}
use Rattle.calls.proofs.SeeSteps.{refuses, stops, tells_none, tells_refusal}

-- one more of each of two lists
pub zip_push : {X Y : Type 0} (R : X → Y → Type 0) (xs : List X) (ys : List Y) (x : X) (y : Y) → AllZip R xs ys → R x y → AllZip R (xs ++ x ∷ []) (ys ++ y ∷ [])
zip_push R [] [] x y each one = (one, tt)
zip_push R [] (b ∷ ys) x y each one = absurd each
zip_push R (a ∷ xs) [] x y each one = absurd each
zip_push R (a ∷ xs) (b ∷ ys) x y each one = (each.0, zip_push R xs ys x y each.1 one)

no_fault : IsFault NoMemory → ⊥
no_fault e = cc

module _ {B T U : Type 0} {G : Ghosts B} {a b : B} {s t : InodeFile} where
  -- memory ran out behind a look
  pub starved : {x : T} → Looks {T = T} {E = BlockError} G IsFault a b s t (Ok x) → Looks {T = U} G IsFault a b s t (Err NoMemory)
  starved look = record {
    reads = record { count = look.reads.count; counted = tt; device = λ fault. absurd (no_fault fault); reads = look.reads.reads; same = look.reads.same };
    geometry = look.geometry;
    needs = look.needs;
    kept = look.kept;
  }

-- which is no damage
pub starved_sound : {B U : Type 0} {G : Ghosts B} {a : B} {s : InodeFile} → NeverDamaged {T = U} G a s (Err NoMemory)
starved_sound {U = U} = λ disk settled v stands is. no_damage is
  where
    no_damage : IsErrOf {T = U} {E = BlockError} (Err NoMemory) Damaged → ⊥
    no_damage e = cc

module _ {B T U : Type 0} {G : Ghosts B} {a b c : B} {s t u : InodeFile} {P : Volume → Result T Errno → Type 0} where
  -- what is told behind a look is a failure
  pub tells_failed : {Q : Volume → Result U Errno → Type 0} {X : Type 0} {x : X} (f : Failure) (q : Result U Failure) → IsErrAnd q (λ g. g ≡ f)
      → Looks {T = X} {E = BlockError} G IsFault a b s t (Ok x) → Tells G b c t u P (Err f) → ((errno : Errno) → OnVolumes G a s (λ disk settled v. P v (Err errno) → Q v (Err errno))) → Tells G a c s u Q q
  tells_failed {Q = Q} (Refused errno) q is looks then leads =
      carried (Tells G a c s u Q) q is
      (tells_refusal (looks_more looks then.looks) then.own (λ disk settled v stands. leads errno disk settled v stands (then.tells disk settled v (looks.kept disk settled v stands))))
  tells_failed (Read e) q is looks then leads =
      tells_none q is (looks_more looks then.looks) (λ disk settled v stands. then.damaged disk settled v (looks.kept disk settled v stands))

  -- the same where a call is answered by it
  pub answers_failed : {outcome : Limits → Tree → Outcome} {reply : Result U Errno → Reply} {X : Type 0} {x : X} (f : Failure) (q : Result U Failure) → IsErrAnd q (λ g. g ≡ f)
      → Looks {T = X} {E = BlockError} G IsFault a b s t (Ok x) → Tells G b c t u P (Err f)
      → OnTrees G a s (λ v table. (errno : Errno) → P v (Err errno) → outcome (limits_of s.geometry) (tree_of v table) (reply (Err errno)) (tree_of v table) nothing) → Answers G a c s u outcome reply q
  answers_failed {outcome = outcome} {reply = reply} (Refused errno) q is looks then leads =
      carried (Answers G a c s u outcome reply) q is
      (refuses (looks_more looks then.looks) then.own
      (λ disk settled v table stands volume. leads disk settled v table stands volume errno (then.tells disk settled v (looks.kept disk settled v stands))))
  answers_failed (Read e) q is looks then leads =
      stops q is (looks_more looks then.looks) (λ disk settled v stands. then.damaged disk settled v (looks.kept disk settled v stands))
