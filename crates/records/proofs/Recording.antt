-- Functions that prepare a record: by a plan of what it does, and with what it touches.
use Rattle.std.proofs.Common.{◌≡◌, ℕ, List, Option, Result, Ok, Err, IfErr, IfOk, IfSome, IsTrue, None, Some, refl, sym, subst}
use Rattle.std.specs.Result.{IsErrAnd}
use Rattle.layout.specs.StateLimits.{limits_of}
use Rattle.layout.specs.Limits.{Sizes}
use Rattle.layout.specs.declared.inode.Inode.{Inode}
use Rattle.model.specs.Attributes.{KeepsTime}
use Rattle.model.specs.Records.{Applies, Change, Edit, stamped, touches_of}
use Rattle.model.specs.Touches.{Touches}
use Rattle.model.specs.Volumes.{Volume}
use Rattle.model.specs.declared.time.Time.{Time}
use Rattle.buffers.specs.Errors.{IsFault}
use Rattle.buffers.specs.declared.error.BlockError.{BlockError}
use Rattle.buffers.specs.declared.blocks.Blocks.{Ghosts}
use Rattle.images.specs.Replaying.{LeavesPlace}
use Rattle.images.specs.Soundness.{Detail}
use Rattle.inofile.specs.declared.inode_file.InodeFile.{InodeFile}
use Rattle.paths.specs.Standing.{Looks}
use Rattle.paths.proofs.Looks.{looks_more, looks_ok}
use Rattle.records.specs.Failures.{read_outcome}
use Rattle.records.specs.Marks.{touches_in}
use Rattle.records.specs.Obstacles.{BarsEdit, IsObstacle, may_bar}
use Rattle.records.specs.Planning.{DecidesEditOn, IsVolumeForEdit}
use Rattle.records.specs.Plans.{DoesEditIn, IsPlanReady}
use Rattle.records.specs.Prepared.{Completes, DoesIn, IsReady}
use Rattle.records.specs.Preparing.{DecidesKnown, DecidesOn, DecidesRecord, Premise}
use Rattle.records.specs.declared.failure.Failure.{Failure}
use Rattle.records.specs.declared.failure.Failure.TheVariants.{Read}
use Rattle.records.specs.declared.marks.Marks.{Marks}
use Rattle.records.specs.declared.plans.Plan.{Plan}
use Rattle.records.specs.declared.prepared.Prepared.{Prepared}
use Rattle.records.proofs.Deciding.{follows, stops}
use Rattle.records.proofs.Failures.{damaged_by, looks_failed, refused_by}
use Rattle.records.proofs.LaterLaws.{does_later, ready_later}
use Rattle.records.proofs.StandLaws.{no_look}

-- what keeps an edit from being planned keeps its record from being prepared
pub hinders : {B : Type 0} {Over Sure : Premise} {G : Ghosts B} {a b : B} {s t : InodeFile} {time : Option Time} {edit : Edit} (f : Failure) (q : Result Prepared Failure) → IsErrAnd q (λ g. g ≡ f)
    → DecidesEditOn Over Sure G a b s t edit (Err f) → DecidesOn Over Sure G a b s t (stamped time edit) q
hinders f (Ok p) is plan = absurd is
hinders {s = s} {edit = edit} f (Err g) is plan = record {
  looks = looks_failed f (Err g) is plan.looks;
  own = refused_by (λ r. IfErr r (λ errno. IsTrue (may_bar edit errno))) _ f (Err g) is (λ errno own. own) plan.own;
  ready = tt;
  does = λ disk settled v over. tt;
  applies = λ disk settled v sure. tt;
  place = λ disk settled v sure. tt;
  refused = λ {detail} disk settled v sure volume. refused_by (λ r. IfErr r (BarsEdit (limits_of s.geometry) v edit)) _ f (Err g) is (λ errno first. first) (plan.refused {detail = detail} disk settled v sure volume);
  reads = λ disk settled v sure. tt;
  damaged = λ {detail} disk settled v stands reads. damaged_by f (Err g) is (plan.damaged {detail = detail} disk settled v stands reads);
}

-- an obstacle is told
pub bars : {B : Type 0} {Over Sure : Premise} {G : Ghosts B} {a b : B} {s t : InodeFile} {time : Option Time} {edit : Edit} {f : Failure} → DecidesEditOn Over Sure G a b s t edit (Err f)
    → DecidesOn Over Sure G a b s t (stamped time edit) (Err f)
bars {f = f} plan = hinders f (Err f) refl plan

-- another function goes on behind a look
pub goes_on : {B T : Type 0} {Over Sure Then Surely : Premise} {G : Ghosts B} {a b c : B} {s t u : InodeFile} {change : Change} {x : T} {r : Result Prepared Failure}
    → Looks {T = T} {E = BlockError} G IsFault a b s t (Ok x) → DecidesOn Then Surely G b c t u change r
    → ((detail : Detail) (disk : ℕ → List ℕ) (settled : ℕ → Inode) (v : Volume) → Over detail disk settled v → Then detail disk settled v)
    → ((detail : Detail) (disk : ℕ → List ℕ) (settled : ℕ → Inode) (v : Volume) → Sure detail disk settled v → Surely detail disk settled v) → DecidesOn Over Sure G a c s u change r
goes_on {s = s} {change = change} {r = r} looks last then surely = record {
  looks = looks_more looks last.looks;
  own = last.own;
  ready = last.ready;
  does = λ {detail} disk settled v over. last.does {detail = detail} disk settled v (then detail disk settled v over);
  applies = λ {detail} disk settled v sure. subst (λ (z : Sizes). IfOk r (λ _. Applies (limits_of z) v change)) looks.geometry (last.applies {detail = detail} disk settled v (surely detail disk settled v sure));
  place = λ {detail} disk settled v sure. subst (λ (z : Sizes). IfOk r (λ _. LeavesPlace (limits_of z) v change.edit)) looks.geometry (last.place {detail = detail} disk settled v (surely detail disk settled v sure));
  refused = λ {detail} disk settled v sure volume.
      subst (λ (z : Sizes). IfOk (read_outcome r) (λ q. IfErr q (IsObstacle (limits_of z) v change))) looks.geometry
      (last.refused {detail = detail} disk settled v (surely detail disk settled v sure) (subst (λ (z : Sizes). IsVolumeForEdit detail (limits_of z) change.edit v) (sym looks.geometry) volume));
  reads = λ {detail} disk settled v sure. last.reads {detail = detail} disk settled v (surely detail disk settled v sure);
  damaged = λ {detail} disk settled v stands reads is. last.damaged {detail = detail} disk settled v (looks.kept disk settled v stands) reads is;
}

-- what is told of each volume is told of those that are known to be such
pub of_known : {B : Type 0} {G : Ghosts B} {a b : B} {s t : InodeFile} {change : Change} {r : Result Prepared Failure} → DecidesRecord G a b s t change r → DecidesKnown G a b s t change r
of_known decides = goes_on no_look decides (λ detail disk settled v stands. stands) (λ detail disk settled v known. known.0)

-- ---- a plan, and what is touched

touched_so : (time : Option Time) (a b : Touches) → a ≡ b → IfSome time (λ _. a ≡ b)
touched_so None a b same = tt
touched_so (Some time) a b same = same

module _ {B : Type 0} {G : Ghosts B} {b c : B} {t u : InodeFile} {plan : Plan} {marks : Marks} {p : Prepared} (completes : Completes G b c t u plan marks (Ok p)) where
  -- memory has room for the plan with its marks
  pub completed_ready : IsPlanReady t plan → KeepsTime (limits_of t.geometry).has_attributes marks.time → IsReady u p
  completed_ready ready keeps =
      let brings = completes.brings.brings in
      subst (IsReady u) (sym completes.is) record {
        plan = ready_later t u brings.looks.geometry brings.keeps brings.stays completes.brings.keeps plan ready;
        marks = brings.known;
        time = subst (λ (z : Sizes). KeepsTime (limits_of z).has_attributes marks.time) (sym brings.looks.geometry) keeps;
      }

  -- and both do what the record says
  pub completed_does : {time : Option Time} {edit : Edit} (detail : Detail) (disk : ℕ → List ℕ) (settled : ℕ → Inode) (v : Volume) → IsPlanReady t plan → marks.time ≡ time → touches_in marks ≡ touches_of edit v
      → DoesEditIn detail disk settled t v plan edit → DoesIn detail disk settled u v p (stamped time edit)
  completed_does {time = time} {edit = edit} detail disk settled v ready same touches does =
      let brings = completes.brings.brings in
      subst (λ (x : Prepared). DoesIn detail disk settled u v x (stamped time edit)) (sym completes.is) record {
        edit = does_later t u brings.looks.geometry brings.keeps brings.stays completes.brings.keeps detail disk settled v plan edit ready does;
        time = same;
        touches = touched_so time (touches_in marks) (touches_of edit v) touches;
      }

module _ {B : Type 0} {Over Sure : Premise} {G : Ghosts B} {a b c : B} {s t u : InodeFile} {time : Option Time} {edit : Edit} {plan : Plan} {marks : Marks} where
  -- an object wasn't read
  pub unmarked : {e : BlockError} (q : Result Prepared Failure) → IsErrAnd q (λ f. f ≡ Read e) → DecidesEditOn Over Sure G a b s t edit (Ok plan) → Completes G b c t u plan marks (Err e)
      → DecidesOn Over Sure G a c s u (stamped time edit) q
  unmarked {e = e} q is planned completes =
      hinders (Read e) q is
      (follows {Then = Over} {Surely = Sure} planned.looks
      (stops (Err (Read e)) refl completes.brings.brings.looks (λ detail disk settled v stands reads is. completes.brings.brings.damaged {detail = detail} disk settled v stands is))
      (λ detail disk settled v over. over) (λ detail disk settled v sure. sure))

  -- all are in memory
  pub marked : {p : Prepared} → DecidesEditOn Over Sure G a b s t edit (Ok plan) → Completes G b c t u plan marks (Ok p) → marks.time ≡ time → KeepsTime (limits_of s.geometry).has_attributes time
      → ((detail : Detail) (disk : ℕ → List ℕ) (settled : ℕ → Inode) (v : Volume) → Over detail disk settled v → touches_in marks ≡ touches_of edit v) → DecidesOn Over Sure G a c s u (stamped time edit) (Ok p)
  marked planned completes same keeps touches = record {
    looks = looks_ok (looks_more planned.looks completes.brings.brings.looks);
    own = tt;
    ready =
        completed_ready completes planned.ready
        (subst (λ (z : Sizes). KeepsTime (limits_of z).has_attributes marks.time) (sym planned.looks.geometry) (subst (KeepsTime (limits_of s.geometry).has_attributes) (sym same) keeps));
    does = λ {detail} disk settled v over. completed_does completes detail disk settled v planned.ready same (touches detail disk settled v over) (planned.does {detail = detail} disk settled v over);
    applies = λ {detail} disk settled v sure. record { time = keeps; edit = planned.applies {detail = detail} disk settled v sure };
    place = λ {detail} disk settled v sure. planned.place {detail = detail} disk settled v sure;
    refused = λ disk settled v sure volume. tt;
    reads = λ {detail} disk settled v sure. planned.reads {detail = detail} disk settled v sure;
    damaged = λ disk settled v stands reads is. cc;
  }
