-- What a call that logs nothing comes to on a system that shows a state.
use Rattle.std.proofs.Common.{◌≡◌, ◌⊎◌, ℕ, ℤ, inr, List, Option, None, Result, Ok, Err, refl, ap, sym, subst}
use Rattle.std.specs.Prelude.{IsErrOf, IsFalse, IsTrue, IfErr, IfOk, OnErr, false}
use Rattle.std.proofs.lemmas.Result.{IfOk-weaker}
use Rattle.layout.specs.Limits.{Sizes}
use Rattle.layout.specs.StateLimits.{limits_of}
use Rattle.station.specs.Moments.{Meaning}
use Rattle.station.specs.declared.station.Station.{Ghosts}
use Rattle.model.specs.Circumstances.{IsSure}
use Rattle.model.specs.Replies.{IsReplyTo}
use Rattle.model.specs.Reading.{tells_extent}
use Rattle.model.specs.Room.{Need, Room, nothing}
use Rattle.model.specs.Sessions.{new_session}
use Rattle.model.specs.States.{State}
use Rattle.model.specs.Steps.{WouldStep, calls, is_reading_call}
use Rattle.model.specs.Trees.{Description, Tree}
use Rattle.model.specs.declared.limits.Limits.{Limits}
use Rattle.model.specs.declared.session.Session.{Session}
use Rattle.model.specs.Volumes.{tree_of}
use Rattle.model.specs.declared.command.Command.{Command}
use Rattle.model.specs.declared.command.Command.TheVariants as command
use Rattle.model.specs.declared.command.PathCall.{PathCall}
use Rattle.model.specs.declared.command.PathCall.TheVariants as calling
use Rattle.model.specs.declared.errno.Errno.{Errno}
use Rattle.model.specs.declared.errno.Errno.TheVariants.{EIO, ENOMEM, FAILED}
use Rattle.model.specs.declared.reply.Reply.{Reply}
use Rattle.model.specs.declared.reply.Reply.TheVariants.{Done, Refused}
use Rattle.calls.specs.Refusals.{is_path_refusal}
use Rattle.buffers.specs.Errors.{IsFault}
use Rattle.buffers.specs.Reads.{ReadsBlocks}
use Rattle.buffers.specs.declared.blocks.Blocks as blocks
use Rattle.buffers.specs.declared.error.BlockError.{BlockError}
use Rattle.buffers.specs.declared.error.BlockError.TheVariants.{Damaged}
use Rattle.records.specs.Failures.{read_outcome}
use Rattle.records.specs.declared.failure.Failure.{Failure}
use Rattle.records.specs.declared.failure.Failure.TheVariants as failures
use Rattle.dispatch.specs.Answering.{Answers, IsAnswered, answer_to, answered_reply}
use Rattle.dispatch.specs.Changing.{is_writing_call}
use Rattle.dispatch.specs.Serving.{AnswersAtOnce, IsAtOnce, IsSureOn, TellsNoFault, TellsNoWant, WouldCall, WouldCallOn}
use Rattle.dispatch.specs.Showing.{IsShowing, ShowsNext, ShowsState}
use Rattle.system.specs.Systems.{Parts, blocks_with, system_parts}
use Rattle.system.specs.declared.system.System.{System}
use Rattle.dispatch.proofs.ShowingLaws.{KeepsViews}

-- a call that only reads comes to the same in any session
pub asked_at : (said : Session) (limits : Limits) (t : Tree) (call : PathCall) (reply : Reply) (need : Need) → IsTrue (is_reading_call call) → calls limits new_session t call reply t need → calls limits said t call reply t need
asked_at said limits t (calling.List path) reply need reading told = told
asked_at said limits t (calling.Entries path after count) reply need reading told = told
asked_at said limits t (calling.Stat path) reply need reading told = told
asked_at said limits t (calling.Lstat path) reply need reading told = told
asked_at said limits t (calling.Attr path follow) reply need reading told = told
asked_at said limits t (calling.Readlink path) reply need reading told = told
asked_at said limits t (calling.Get path offset count) reply need reading told = told
asked_at said limits t _ reply need reading told = cc

module _ {m : Meaning} {k : Parts} {table : ℕ → Option Description} {s : State} (shown : IsShowing m k table s) where
  -- what is told of a system's volume is told of the state that it shows
  pub told_of : (call : PathCall) (reply : Reply) {sizes : Sizes} → sizes ≡ k.root.geometry → IsTrue (is_reading_call call)
      → calls (limits_of sizes) new_session (tree_of shown.running table) call reply (tree_of shown.running table) nothing → WouldCall s (command.Path call) reply s nothing
  told_of call reply same reading told room = (
    subst (λ (u : State). calls u.limits u.session u.tree call reply u.tree nothing) (sym shown.state)
        (asked_at k.session (limits_of k.root.geometry) (tree_of shown.running table) call reply nothing reading
        (subst (λ (z : Sizes). calls (limits_of z) new_session (tree_of shown.running table) call reply (tree_of shown.running table) nothing) same told)),
    refl,
  )

  -- the same of what of a file is stored
  pub extent_told : (room : Room) (path : List ℕ) (offset : ℤ) (reply : Reply) {sizes : Sizes} → sizes ≡ k.root.geometry
      → tells_extent (limits_of sizes) (tree_of shown.running table) room.stored path offset reply (tree_of shown.running table) nothing → WouldStep room s (command.Extent path offset) reply s nothing
  extent_told room path offset reply same told = (
    subst (λ (u : State). tells_extent u.limits u.tree room.stored path offset reply u.tree nothing) (sym shown.state)
        (subst (λ (z : Sizes). tells_extent (limits_of z) (tree_of shown.running table) room.stored path offset reply (tree_of shown.running table) nothing) same told),
    refl,
  )

-- a refusal of the call's own
pub own_refusal : {T : Type 0} (r : Result T Errno) (errno : Errno) → r ≡ Err errno → IfErr r (λ e. IsTrue (is_path_refusal e)) → TellsNoFault (Refused errno)
own_refusal {T} r errno is own = (λ same. not_true (there EIO (let it : errno ≡ EIO = cc in it)), λ same. not_true (there FAILED (let it : errno ≡ FAILED = cc in it)))
  where
    there : (other : Errno) → errno ≡ other → IsTrue (is_path_refusal other)
    there other it = subst (λ (e : Errno). IsTrue (is_path_refusal e)) it (subst (λ (x : Result T Errno). IfErr x (λ e. IsTrue (is_path_refusal e))) is own)

    not_true : IsTrue false → ⊥
    not_true is = cc

pub own_want : {T : Type 0} (r : Result T Errno) (errno : Errno) → r ≡ Err errno → IfErr r (λ e. IsTrue (is_path_refusal e)) → TellsNoWant (Refused errno)
own_want {T} r errno is own same =
    let here : IsTrue (is_path_refusal errno) = subst (λ (x : Result T Errno). IfErr x (λ e. IsTrue (is_path_refusal e))) is own in
    let it : errno ≡ ENOMEM = cc in
    let not_true : IsTrue false = subst (λ (e : Errno). IsTrue (is_path_refusal e)) it here in
    cc

-- a changing call by a path that writes no bytes is answered that it is done
pub done_is_reply : (call : PathCall) → IsFalse (is_reading_call call) → IsFalse (is_writing_call call) → IsReplyTo (command.Path call) Done
done_is_reply (calling.List path) reads writes = cc
done_is_reply (calling.Entries path after count) reads writes = cc
done_is_reply (calling.Stat path) reads writes = cc
done_is_reply (calling.Lstat path) reads writes = cc
done_is_reply (calling.Attr path follows) reads writes = cc
done_is_reply (calling.Readlink path) reads writes = cc
done_is_reply (calling.Get path offset count) reads writes = cc
done_is_reply (calling.Store path offset given) reads writes = cc
done_is_reply other reads writes = tt

pub done_is_no_fault : TellsNoFault Done
done_is_no_fault = (λ is. cc, λ is. cc)

pub done_is_no_want : TellsNoWant Done
done_is_no_want is = cc

-- a call is sure, and then no device is called, or it isn't; and so over any images
abbrev pub SureOrNot : {S : Type 0} {G : Ghosts S} → System S G → System S G → Command → Reply → Type 0
SureOrNot old new call reply =
    ((s : State) → ShowsState old s → IsSureOn old new s call ⊎ ¬ IsSure s call) × (IsAtOnce old.files call → AnswersAtOnce old new reply)

-- it isn't
abbrev pub NotSure : {S : Type 0} {G : Ghosts S} → System S G → Command → Type 0
NotSure f call = ((s : State) → ShowsState f s → ¬ IsSure s call) × ¬ IsAtOnce f.files call

pub by_no : {S : Type 0} {G : Ghosts S} (old new : System S G) (call : Command) (reply : Reply) → NotSure old call → SureOrNot old new call reply
by_no old new call reply not_sure = (λ s shown. inr (not_sure.0 s shown), λ is. absurd (not_sure.1 is))

-- blocks that were read are so whatever came of the call
module _ {B T U : Type 0} {G : blocks.Ghosts B} {before after : B} where
  pub reads_ok : {x : T} {y : U} → ReadsBlocks G IsFault before after (Ok x) → ReadsBlocks G IsFault before after (Ok y)
  reads_ok reads = record { count = reads.count; counted = reads.counted; device = tt; reads = reads.reads; same = reads.same }

  pub reads_err : {e : BlockError} → ReadsBlocks {T = T} G IsFault before after (Err e) → ReadsBlocks {T = U} G IsFault before after (Err e)
  reads_err reads = record { count = reads.count; counted = tt; device = reads.device; reads = reads.reads; same = reads.same }

-- none was
pub reads_nothing : {B T : Type 0} {G : blocks.Ghosts B} {before : B} {x : T} → ReadsBlocks G IsFault before before (Ok x)
reads_nothing = record { count = refl; counted = refl; device = tt; reads = λ start so. so; same = λ disk shows. shows }

-- the errors of two answers are the same
pub damaged_too : {T U : Type 0} (e : BlockError) → (IsErrOf {T = T} (Err e) Damaged → ⊥) → IsErrOf {T = U} (Err e) Damaged → ⊥
damaged_too e never is = never (ap (λ x. Err x) (let same : e ≡ Damaged = cc in same))

module _ {S : Type 0} {G : Ghosts S} (old new : System S G) (call : Command)
    (parts : system_parts new ≡ record (system_parts old) { kept = new.blocks.buffers.kept; pending = new.blocks.pending; inodes = new.inodes; view = new.view; files = new.files; session = new.session })
    (view : KeepsViews old new.view) where
  -- it was answered
  pub answered : (reply : Reply) → SureOrNot old new call reply → ReadsBlocks (blocks_with G) IsFault old.blocks new.blocks (Ok reply) → IsReplyTo call reply → TellsNoFault reply
      → ((s : State) (shown : ShowsState old s) → IsAnswered old new shown call reply) → Answers old new call (Ok reply)
  answered reply sure reads kind own leads = record {
    parts = parts;
    reads = reads;
    view = view;
    no_fault = own;
    kind = kind;
    at = leads;
    sure = sure.0;
    at_once = sure.1;
    damaged = λ s shown is. cc;
  }

  -- a block wasn't read
  pub unread : (e : BlockError) → NotSure old call → ReadsBlocks {T = Reply} (blocks_with G) IsFault old.blocks new.blocks (Err e) → ((s : State) (shown : ShowsState old s) → ShowsNext old new shown s)
      → ((s : State) → ShowsState old s → IsErrOf {T = Reply} (Err e) Damaged → ⊥) → Answers old new call (Err e)
  unread e not_sure reads stays damaged = record {
    parts = parts;
    reads = reads;
    view = view;
    no_fault = tt;
    kind = tt;
    at = stays;
    sure = not_sure.0;
    at_once = not_sure.1;
    damaged = damaged;
  }

  -- it failed: it is refused, or a block wasn't read
  pub failed_by : {T : Type 0} (f : Failure) (q : Result Reply BlockError) → q ≡ answer_to (Err f) → NotSure old call → ReadsBlocks (blocks_with G) IsFault old.blocks new.blocks (read_outcome {T = T} (Err f))
      → IfOk (read_outcome {T = T} (Err f)) (λ r. IfErr r (λ e. IsTrue (is_path_refusal e))) → ((s : State) (shown : ShowsState old s) → ShowsNext old new shown s)
      → ((s : State) (shown : ShowsState old s) → IfOk (read_outcome {T = T} (Err f)) (λ r. IfErr r (λ errno. IsAnswered old new shown call (Refused errno))))
      → ((s : State) → ShowsState old s → IsErrOf (read_outcome {T = T} (Err f)) Damaged → ⊥) → Answers old new call q
  failed_by {T} (failures.Refused errno) q is not_sure reads own stays refused damaged =
      subst (Answers old new call) (sym is)
      (answered (Refused errno) (by_no old new call (Refused errno) not_sure) (reads_ok reads) tt (own_refusal {T = T} (Err errno) errno refl own) refused)
  failed_by {T} (failures.Read e) q is not_sure reads own stays refused damaged =
      subst (Answers old new call) (sym is) (unread e not_sure (reads_err reads) stays (λ s shown. damaged_too e (damaged s shown)))

  -- it came to this
  pub came_to : (r : Result Reply Failure) (q : Result Reply BlockError) → q ≡ answer_to r → NotSure old call → ReadsBlocks (blocks_with G) IsFault old.blocks new.blocks (read_outcome r)
      → IfOk (read_outcome r) (λ x. IfErr x (λ e. IsTrue (is_path_refusal e))) → IfOk r (IsReplyTo call) → IfOk r TellsNoFault → OnErr r ((s : State) (shown : ShowsState old s) → ShowsNext old new shown s)
      → ((s : State) (shown : ShowsState old s) → IfOk (read_outcome r) (λ x. IsAnswered old new shown call (answered_reply x)))
      → ((s : State) → ShowsState old s → IsErrOf (read_outcome r) Damaged → ⊥) → Answers old new call q
  came_to (Ok reply) q is not_sure reads own kind no_fault stays leads damaged =
      subst (Answers old new call) (sym is) (answered reply (by_no old new call reply not_sure) (reads_ok reads) kind no_fault leads)
  came_to (Err (failures.Refused errno)) q is not_sure reads own kind no_fault stays leads damaged = failed_by {T = Reply} (failures.Refused errno) q is not_sure reads own stays leads damaged
  came_to (Err (failures.Read e)) q is not_sure reads own kind no_fault stays leads damaged = failed_by {T = Reply} (failures.Read e) q is not_sure reads own stays leads damaged

  -- one that only reads came to this
  pub looked_up : (r : Result Reply Failure) (q : Result Reply BlockError) → q ≡ answer_to r → NotSure old call → ReadsBlocks (blocks_with G) IsFault old.blocks new.blocks (read_outcome r)
      → IfOk (read_outcome r) (λ x. IfErr x (λ e. IsTrue (is_path_refusal e))) → IfOk r (IsReplyTo call) → IfOk r TellsNoFault → ((s : State) (shown : ShowsState old s) → ShowsNext old new shown s)
      → ((s : State) → ShowsState old s → IfOk (read_outcome r) (λ x. WouldCallOn new s call (answered_reply x) s nothing))
      → ((s : State) → ShowsState old s → IsErrOf (read_outcome r) Damaged → ⊥) → Answers old new call q
  looked_up r q is not_sure reads own kind no_fault stays steps damaged =
      came_to r q is not_sure reads own kind no_fault (on_err r)
      (λ s shown. IfOk-weaker (read_outcome r) _ _ (λ x step. record { next = s; step = step; shows = stays s shown }) (steps s shown)) damaged
    where
      on_err : (r : Result Reply Failure) → OnErr r ((s : State) (shown : ShowsState old s) → ShowsNext old new shown s)
      on_err (Ok reply) = tt
      on_err (Err f) = stays
