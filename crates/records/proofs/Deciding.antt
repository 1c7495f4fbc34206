-- Functions that plan an edit or tell the first obstacle, step by step.
use Rattle.std.proofs.Common.{◌≡◌, ℕ, List, Result, Ok, Err, IfErr, IfOk, IsTrue, refl, sym, subst}
use Rattle.std.specs.Result.{IsErrAnd, IsErrOf}
use Rattle.layout.specs.StateLimits.{limits_of}
use Rattle.layout.specs.Limits.{Sizes}
use Rattle.layout.specs.declared.inode.Inode.{Inode}
use Rattle.model.specs.Records.{CanEdit, Edit}
use Rattle.model.specs.Volumes.{Volume}
use Rattle.model.specs.declared.errno.Errno.{Errno}
use Rattle.buffers.specs.Errors.{IsFault}
use Rattle.buffers.specs.declared.error.BlockError.{BlockError}
use Rattle.buffers.specs.declared.error.BlockError.TheVariants.{Damaged}
use Rattle.buffers.specs.declared.blocks.Blocks.{Ghosts}
use Rattle.images.specs.Replaying.{LeavesPlace, ReadsIn, ReadsParts}
use Rattle.images.specs.Soundness.{Detail, by_bytes, by_sizes}
use Rattle.inofile.specs.declared.inode_file.InodeFile.{InodeFile}
use Rattle.paths.specs.Standing.{Looks}
use Rattle.paths.proofs.Looks.{looks_err, looks_more, looks_ok}
use Rattle.records.specs.Failures.{read_outcome}
use Rattle.records.specs.Looking.{Finding, Finds}
use Rattle.records.specs.Obstacles.{BarsEdit, may_bar}
use Rattle.records.specs.Plans.{DoesEditIn, IsPlanReady}
use Rattle.records.specs.Planning.{DecidesEditOn, IsVolumeForEdit, Premise}
use Rattle.records.specs.Shown.{OnVolumesIn}
use Rattle.records.specs.declared.failure.Failure.{Failure}
use Rattle.records.specs.declared.failure.Failure.TheVariants.{Read, Refused}
use Rattle.records.specs.declared.plans.Plan.{Plan}
use Rattle.records.proofs.Failures.{damaged_by, looks_failed, refused_by}

-- what can be read is known in no more detail
pub reads_in : (detail : Detail) (v : Volume) (edit : Edit) → ReadsParts v edit → ReadsIn detail v edit
reads_in by_bytes v edit reads = tt
reads_in by_sizes v edit reads = reads

module _ {B : Type 0} {Over Sure : Premise} {G : Ghosts B} {a b : B} {s t : InodeFile} {edit : Edit} where
  -- a step before has told what it failed by
  pub passes : {T : Type 0} (f : Failure) (q : Result Plan Failure) → IsErrAnd q (λ g. g ≡ f) → Looks G IsFault a b s t (read_outcome {T = T} (Err f))
      → IfOk (read_outcome {T = T} (Err f)) (λ r. IfErr r (λ errno. IsTrue (may_bar edit errno)))
      → ((detail : Detail) (disk : ℕ → List ℕ) (settled : ℕ → Inode) (v : Volume) → Sure detail disk settled v → IsVolumeForEdit detail (limits_of s.geometry) edit v
      → IfOk (read_outcome {T = T} (Err f)) (λ r. IfErr r (BarsEdit (limits_of s.geometry) v edit)))
      → ((detail : Detail) → OnVolumesIn detail G a s (λ disk settled v. ReadsIn detail v edit → IsErrOf (read_outcome {T = T} (Err f)) Damaged → ⊥)) → DecidesEditOn Over Sure G a b s t edit q
  passes f (Ok p) is looks own first sound = absurd is
  passes f (Err g) is looks own first sound = record {
    looks = looks_failed f (Err g) is looks;
    own = refused_by (λ r. IfErr r (λ errno. IsTrue (may_bar edit errno))) _ f (Err g) is (λ errno own. own) own;
    ready = tt;
    does = λ disk settled v over. tt;
    applies = λ disk settled v sure. tt;
    place = λ disk settled v sure. tt;
    refused = λ {detail} disk settled v sure volume. refused_by (λ r. IfErr r (BarsEdit (limits_of s.geometry) v edit)) _ f (Err g) is (λ errno first. first) (first detail disk settled v sure volume);
    reads = λ disk settled v sure. tt;
    damaged = λ {detail} disk settled v stands reads. damaged_by f (Err g) is (sound detail disk settled v stands reads);
  }

  -- a block wasn't read
  pub stops : {T : Type 0} {e : BlockError} (q : Result Plan Failure) → IsErrAnd q (λ f. f ≡ Read e) → Looks {T = T} G IsFault a b s t (Err e)
      → ((detail : Detail) → OnVolumesIn detail G a s (λ disk settled v. ReadsIn detail v edit → IsErrOf {T = T} {E = BlockError} (Err e) Damaged → ⊥)) → DecidesEditOn Over Sure G a b s t edit q
  stops {T = T} {e = e} q is looks sound =
      passes {T = T} (Read e) q is (looks_err (Err e) refl looks) tt (λ detail disk settled v sure volume. tt) (λ detail disk settled v stands reads bad. sound detail disk settled v stands reads (cc))

  -- the same of something that was looked for
  pub unread : {T : Type 0} {P : Finding T} {e : BlockError} (q : Result Plan Failure) → IsErrAnd q (λ f. f ≡ Read e) → Finds G a b s t P (Err e) → DecidesEditOn Over Sure G a b s t edit q
  unread q is finds = stops q is finds.looks (λ detail disk settled v stands reads. finds.damaged {detail = detail} disk settled v stands)

  -- this is the first obstacle
  pub obstructs : {T : Type 0} {x : T} {errno : Errno} → Looks {T = T} {E = BlockError} G IsFault a b s t (Ok x) → IsTrue (may_bar edit errno)
      → ((detail : Detail) (disk : ℕ → List ℕ) (settled : ℕ → Inode) (v : Volume) → Sure detail disk settled v → IsVolumeForEdit detail (limits_of s.geometry) edit v → BarsEdit (limits_of s.geometry) v edit errno)
      → DecidesEditOn Over Sure G a b s t edit (Err (Refused errno))
  obstructs looks own first = record {
    looks = looks_ok looks;
    own = own;
    ready = tt;
    does = λ disk settled v over. tt;
    applies = λ disk settled v sure. tt;
    place = λ disk settled v sure. tt;
    refused = λ {detail} disk settled v sure volume. first detail disk settled v sure volume;
    reads = λ disk settled v sure. tt;
    damaged = λ disk settled v stands reads is. cc;
  }

  -- it is planned
  pub decides : {T : Type 0} {x : T} {p : Plan} → Looks {T = T} {E = BlockError} G IsFault a b s t (Ok x) → IsPlanReady t p
      → ((detail : Detail) (disk : ℕ → List ℕ) (settled : ℕ → Inode) (v : Volume) → Over detail disk settled v → DoesEditIn detail disk settled t v p edit)
      → ((detail : Detail) (disk : ℕ → List ℕ) (settled : ℕ → Inode) (v : Volume) → Sure detail disk settled v → CanEdit (limits_of s.geometry) v edit)
      → ((detail : Detail) (disk : ℕ → List ℕ) (settled : ℕ → Inode) (v : Volume) → Sure detail disk settled v → LeavesPlace (limits_of s.geometry) v edit)
      → ((detail : Detail) (disk : ℕ → List ℕ) (settled : ℕ → Inode) (v : Volume) → Sure detail disk settled v → ReadsIn detail v edit)
      → DecidesEditOn Over Sure G a b s t edit (Ok p)
  decides looks ready does applies place reads = record {
    looks = looks_ok looks;
    own = tt;
    ready = ready;
    does = λ {detail} disk settled v over. does detail disk settled v over;
    applies = λ {detail} disk settled v sure. applies detail disk settled v sure;
    place = λ {detail} disk settled v sure. place detail disk settled v sure;
    refused = λ disk settled v sure volume. tt;
    reads = λ {detail} disk settled v sure. reads detail disk settled v sure;
    damaged = λ disk settled v stands reads is. cc;
  }

-- another function goes on behind a look
pub follows : {B T : Type 0} {Over Sure Then Surely : Premise} {G : Ghosts B} {a b c : B} {s t u : InodeFile} {edit : Edit} {x : T} {r : Result Plan Failure}
    → Looks {T = T} {E = BlockError} G IsFault a b s t (Ok x) → DecidesEditOn Then Surely G b c t u edit r
    → ((detail : Detail) (disk : ℕ → List ℕ) (settled : ℕ → Inode) (v : Volume) → Over detail disk settled v → Then detail disk settled v)
    → ((detail : Detail) (disk : ℕ → List ℕ) (settled : ℕ → Inode) (v : Volume) → Sure detail disk settled v → Surely detail disk settled v) → DecidesEditOn Over Sure G a c s u edit r
follows {s = s} {edit = edit} {r = r} looks last then surely = record {
  looks = looks_more looks last.looks;
  own = last.own;
  ready = last.ready;
  does = λ {detail} disk settled v over. last.does {detail = detail} disk settled v (then detail disk settled v over);
  applies = λ {detail} disk settled v sure. subst (λ (z : Sizes). IfOk r (λ _. CanEdit (limits_of z) v edit)) looks.geometry (last.applies {detail = detail} disk settled v (surely detail disk settled v sure));
  place = λ {detail} disk settled v sure. subst (λ (z : Sizes). IfOk r (λ _. LeavesPlace (limits_of z) v edit)) looks.geometry (last.place {detail = detail} disk settled v (surely detail disk settled v sure));
  refused = λ {detail} disk settled v sure volume.
      subst (λ (z : Sizes). IfOk (read_outcome r) (λ q. IfErr q (BarsEdit (limits_of z) v edit))) looks.geometry
      (last.refused {detail = detail} disk settled v (surely detail disk settled v sure) (subst (λ (z : Sizes). IsVolumeForEdit detail (limits_of z) edit v) (sym looks.geometry) volume));
  reads = λ {detail} disk settled v sure. last.reads {detail = detail} disk settled v (surely detail disk settled v sure);
  damaged = λ {detail} disk settled v stands reads is. last.damaged {detail = detail} disk settled v (looks.kept disk settled v stands) reads is;
}
