-- What a call by a path comes to whose record is prepared as a change.
use Rattle.std.proofs.Common.{◌≡◌, ◌≢◌, ℕ, ℤ, refl, List, Option, Result, Err, ap, sym, subst, ◌∙◌}
use Rattle.std.specs.Prelude.{IsFalse}
use Rattle.std.specs.Result.{IsErrAnd}
use Rattle.model.specs.declared.limits.Limits.{Limits}
use Rattle.model.specs.Steps.{calls}
use Rattle.model.specs.Trees.{Description}
use Rattle.model.specs.Volumes.{Volume, tree_of}
use Rattle.model.specs.declared.command.PathCall.{PathCall}
use Rattle.model.specs.declared.command.PathCall.TheVariants as calling
use Rattle.model.specs.declared.errno.Errno.{Errno}
use Rattle.model.specs.declared.session.Session.{Session}
use Rattle.model.specs.declared.time.Time.{Time}
use Rattle.buffers.specs.declared.blocks.Blocks as blocks
use Rattle.inofile.specs.declared.inode_file.InodeFile.{InodeFile}
use Rattle.calls.specs.Changing.{Comes, ComesOrStays, ComesSwept}
use Rattle.records.specs.declared.failure.Failure.{Failure}
use Rattle.records.specs.declared.failure.Failure.TheVariants as failures
use Rattle.calls.specs.declared.changed.Changing.{Changing}
use Rattle.calls.specs.Preparing.{Prepares, PreparesAny}
use Rattle.calls.proofs.PrepareSteps.{carried, refuses, stops}
use Rattle.calls.proofs.SweptLaws.{comes_swept}
use Rattle.dispatch.specs.Changing.{CallComes, RecordComes, is_writing_call}

-- ---- what a call asks for

-- a call that was asked in these words
pub asked_swept : (limits : Limits) (said : Session) (call asked : PathCall) (v : Volume) (table : ℕ → Option Description) (r : Result Changing Errno) → call ≡ asked
    → ComesSwept (calls limits said (tree_of v table) asked) limits v table r → RecordComes said call limits v table r
asked_swept limits said call asked v table r is here = subst (λ (k : PathCall). RecordComes said k limits v table r) (sym is) here

pub asked : (limits : Limits) (said : Session) (call asked : PathCall) (v : Volume) (table : ℕ → Option Description) (r : Result Changing Errno) → call ≡ asked
    → Comes (calls limits said (tree_of v table) asked) limits v table r → RecordComes said call limits v table r
asked limits said call words v table r is here = asked_swept limits said call words v table r is (comes_swept (calls limits said (tree_of v table) words) limits v table r here)

pub asked_or_stays : (limits : Limits) (said : Session) (call asked : PathCall) (v : Volume) (table : ℕ → Option Description) (r : Result (Option Changing) Errno) → call ≡ asked
    → ComesOrStays (calls limits said (tree_of v table) asked) limits v table r → CallComes said call limits v table r
asked_or_stays limits said call asked v table r is here = subst (λ (k : PathCall). CallComes said k limits v table r) (sym is) here

-- the same of one that failed
pub passes_on : {B : Type 0} {now : Option Time} {G : blocks.Ghosts B} {a b : B} {s t : InodeFile} (said : Session) (call : PathCall) (f : Failure) (q : Result (Option Changing) Failure) → IsErrAnd q (λ g. g ≡ f)
    → Prepares now G a b s t (RecordComes said call) (Err f) → PreparesAny now G a b s t (CallComes said call) q
passes_on {now = now} {G = G} {a = a} {b = b} {s = s} {t = t} said call (failures.Refused errno) q is told = carried (PreparesAny now G a b s t (CallComes said call)) q is (refuses told.looks told.own told.answers)
passes_on said call (failures.Read e) q is told = stops q is told.looks told.damaged

-- what isn't `store` writes no bytes
pub writes_none : (call : PathCall) → ((path : List ℕ) (offset : ℤ) (given : List ℕ) → call ≢ calling.Store path offset given) → IsFalse (is_writing_call call)
writes_none (calling.Store path offset given) not = absurd (not path offset given refl)
writes_none other not = refl

-- a call with one text, that was taken as bytes
pub one_text : (call : PathCall) (of : List ℕ → PathCall) (path bytes : List ℕ) → call ≡ of path → bytes ≡ path → call ≡ of bytes
one_text call of path bytes is same = is ∙ ap of (sym same)

-- a call with two texts
pub two_texts : (call : PathCall) (of : List ℕ → List ℕ → PathCall) (one other first second : List ℕ) → call ≡ of one other → first ≡ one → second ≡ other → call ≡ of first second
two_texts call of one other first second is same_first same_second = is ∙ (λ i. of (sym same_first i) (sym same_second i))
