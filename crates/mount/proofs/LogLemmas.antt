-- What accepted commands log.
use Rattle.std.proofs.Common.{◌≡◌, ◌≢◌, ◌∙◌, ℕ, List, [], ◌∷◌, ◌++◌, append-nil, refl, ap, sym, subst}
use Rattle.std.specs.Prelude.{map}
use Rattle.station.specs.declared.station.Station.{Ghosts}
use Rattle.layout.specs.Record.{Change, change_bytes}
use Rattle.model.specs.Room.{Need, Room, Work, a_restore, a_snapshot, logs, nothing}
use Rattle.model.specs.States.{State}
use Rattle.model.specs.Steps.{WouldStep}
use Rattle.model.specs.Volumes.{Volume, tree_of}
use Rattle.model.specs.declared.command.Command.{Command}
use Rattle.model.specs.declared.errno.Errno.{Errno}
use Rattle.model.specs.declared.reply.Reply.{Reply}
use Rattle.model.specs.declared.reply.Reply.TheVariants.{Done, Refused}
use Rattle.oplog.specs.LogEnd.{Bodies, all_bodies}
use Rattle.system.specs.Serving.{ServesAsBefore, ServesState}
use Rattle.dispatch.proofs.StoredLaws.{stored_tells}
use Rattle.dispatch.specs.Serving.{HasLogged, IsAccepted, stored_of}
use Rattle.system.specs.CheckpointCommands.{IsCheckpointed}
use Rattle.dispatch.specs.Fulfilling.{IsFulfilled}
use Rattle.system.specs.Systems.{AreLeft, IsCovered}
use Rattle.system.specs.declared.system.System.{System}
use Rattle.system.proofs.CoveredLaws.{no_change}
use Rattle.mount.specs.Applying.{AnswersCommand, HasCheckpointed, KeepsStates, LogsItsNeed}
use Rattle.mount.specs.Systems.{Serves, mounted}
use Rattle.mount.specs.declared.fs.Fs.{Fs}
use Rattle.mount.proofs.ApplyLemmas.{no_room}

-- ---- by what is needed

-- what isn't of a record logs none
idle : (need : Need) (v : Volume) (before after : List Change) → ((work : Work) → need ≢ logs work) → after ≡ before → HasLogged need v before after
idle nothing v before after unlogged is = is
idle (logs work) v before after unlogged is = absurd (unlogged work refl)
idle a_snapshot v before after unlogged is = is
idle (a_restore orphans) v before after unlogged is = is

-- none are left of none
none_of_none : (covered left : List (List ℕ)) → [] ≡ covered ++ left → left ≡ []
none_of_none [] left is = sym is
none_of_none (body ∷ covered) left is = absurd (cc)

module _ {S : Type 0} {G : Ghosts S} where
  -- a call that was done
  pub call_logs : (old new : System S G) (s : State) (served : ServesState old s) (call : Command) (reply : Reply) → IsFulfilled old new s served call reply
      → LogsItsNeed (all_bodies served.lasts.bodies) s new call reply
  call_logs old new s served call reply is =
      let does = is.done in
      let room : Room = record no_room { stored = stored_of new } in
      record {
        room = room;
        after = does.after;
        need = does.need;
        step = does.step room (stored_tells new);
        serves = does.serves;
        running = is.served.running;
        tree = ap (λ (u : State). u.tree) is.served.state;
        uncovered = is.served.lasts.replayed.changes;
        left = subst (AreLeft (all_bodies served.lasts.bodies)) is.served.lasts.replayed.spelled is.left;
        logged = does.logs;
      }

  -- a command that left the system as it is
  pub idle_logs : (f : System S G) (s : State) (served : ServesState f s) (room : Room) (command : Command) (reply : Reply) → WouldStep room s command reply s nothing
      → LogsItsNeed (all_bodies served.lasts.bodies) s f command reply
  idle_logs f s served room command reply step = record {
    room = room;
    after = s;
    need = nothing;
    step = step;
    serves = served;
    running = served.running;
    tree = ap (λ (u : State). u.tree) served.state;
    uncovered = served.lasts.replayed.changes;
    left = ([], served.lasts.replayed.spelled);
    logged = refl;
  }

  -- one behind which the newest root covers all
  pub covered_logs : (new : System S G) (s after : State) (command : Command) (reply : Reply) (running : Volume) → s.tree ≡ tree_of running s.tree.descriptors → (room : Room) (need : Need)
      → WouldStep room s command reply after need → ((work : Work) → need ≢ logs work) → IsCovered new after.tree.descriptors after → (before : List (List ℕ)) → LogsItsNeed before s new command reply
  covered_logs new s after command reply running tree room need step unlogged covered before = record {
    room = room;
    after = after;
    need = need;
    step = step;
    serves = covered.serves;
    running = running;
    tree = tree;
    uncovered = [];
    left = (before, sym (append-nil before));
    logged = idle need running [] covered.serves.lasts.replayed.changes unlogged (no_change covered.serves covered.no_record);
  }

  -- where no record stood beside the root, any may have stood before that
  pub from_none : (new : System S G) (s : State) (command : Command) (reply : Reply) → LogsItsNeed [] s new command reply → (before : List (List ℕ)) → LogsItsNeed before s new command reply
  from_none new s command reply logged before = record {
    room = logged.room;
    after = logged.after;
    need = logged.need;
    step = logged.step;
    serves = logged.serves;
    running = logged.running;
    tree = logged.tree;
    uncovered = logged.uncovered;
    logged = logged.logged;
    left = (before, sym (ap (λ (l : List (List ℕ)). before ++ l) (none_of_none logged.left.0 (map change_bytes logged.uncovered) logged.left.1) ∙ append-nil before));
  }

  -- ---- of a file system

  -- what the field `logs` says
  abbrev pub LogsOf : (P : State → Type 0) (old new : Fs S G) → Command → Reply → Type 0
  LogsOf P old new command reply = (s : State) → Serves (mounted old s) → P s → IsAccepted reply → (served : ServesState old.system s)
      → LogsItsNeed (all_bodies served.lasts.bodies) s new.system command reply

  -- a refusal isn't accepted
  pub refused_logs : (P : State → Type 0) (old new : Fs S G) (command : Command) (errno : Errno) → LogsOf P old new command (Refused errno)
  refused_logs P old new command errno s serves p accepted served = absurd (accepted errno refl)

  module _ (k : ℕ) (P Q : State → Type 0) (old mid new : Fs S G) (command : Command) (reply : Reply) (then : AnswersCommand k Q mid new command reply)
      (leads : (s : State) → Serves (mounted old s) → P s → Q s) where
    -- behind what kept the records
    pub logs_kept : {j : ℕ} → KeepsStates j old mid → ((s : State) (served : ServesState old.system s) → ServesAsBefore old.system mid.system s served) → LogsOf P old new command reply
    logs_kept keeps kept s serves p accepted served =
        let there = kept s served in
        subst (λ (b : Bodies). LogsItsNeed (all_bodies b) s new.system command reply) there.1 (then.logs s (keeps.stays s serves).serves (leads s serves p) accepted there.0)

    -- behind a point that covers all, whatever stood there before
    pub logs_anew : HasCheckpointed old mid → (s : State) → Serves (mounted old s) → P s → IsAccepted reply → (before : List (List ℕ)) → LogsItsNeed before s new.system command reply
    logs_anew made s serves p accepted before =
        let covered = made.covered s serves in
        from_none new.system s command reply
        (subst (λ (b : Bodies). LogsItsNeed (all_bodies b) s new.system command reply) covered.no_record
        (then.logs s (made.keeps.stays s serves).serves (leads s serves p) accepted covered.serves)) before

    pub logs_checkpoint : HasCheckpointed old mid → LogsOf P old new command reply
    logs_checkpoint made s serves p accepted served = logs_anew made s serves p accepted (all_bodies served.lasts.bodies)

  -- a command that was done behind its own point
  pub checkpoint_logs : (old new : System S G) (s : State) (served : ServesState old s) (command : Command) → IsCheckpointed old new s command → (before : List (List ℕ)) → LogsItsNeed before s new command Done
  checkpoint_logs old new s served command is =
      covered_logs new s is.after command Done served.running (ap (λ (u : State). u.tree) served.state) no_room (is.need no_room) (is.step no_room) (is.unlogged no_room) is.covered
