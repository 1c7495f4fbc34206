-- A number in use behind a command was in use, or it is the one that a new object gets.
use Rattle.std.proofs.Common.{◌≡◌, ◌⊎◌, inl, inr, ℕ, List, [], ◌∷◌, map, true, false, not, is_none, Some, None, refl, sym, ap, subst, ◌∙◌}
use Rattle.std.specs.Prelude.{ℤ, IsFalse, IsTrue, MatchBool}
use Rattle.std.proofs.lemmas.Bool.{false≢true}
use Rattle.model.specs.Reading.{attribute_tests}
use Rattle.model.specs.declared.limits.TheConstants.{LINK_MODE, OPEN_FILES}
use Rattle.model.specs.declared.errno.Errno.TheVariants.{EBUSY, EIO, EROFS, FAILED, NOSNAP}
use Rattle.model.specs.declared.reply.Reply.{Reply}
use Rattle.model.specs.declared.reply.Reply.TheVariants as reply
use Rattle.model.specs.declared.command.Command.{Command}
use Rattle.model.specs.declared.command.Command.TheVariants as command
use Rattle.model.specs.declared.command.PathCall.{PathCall}
use Rattle.model.specs.declared.command.PathCall.TheVariants as call
use Rattle.model.specs.Circumstances.{Circumstances, IsDone, IsSure, IsExcused, CoversWhereOk, IsAnswered, Allowed}
use Rattle.model.specs.Outcomes.{Outcome, IsFresh}
use Rattle.model.specs.Paths.{Name, Tests, first_refusal}
use Rattle.model.specs.Room.{Room, Need}
use Rattle.model.specs.States.{State, Mark, going, failed, now_of, permissions_in, with_snapshots, as_failed}
use Rattle.model.specs.Steps.{Step, says, passing, on_tree, calls, is_reading_call, frozen, take_tests, takes, deletes, has_open_below, restores, views, at_tests, sets_owner, sets_time, WouldStep}
use Rattle.model.specs.Trees.{Tree, IsUsed}
use Rattle.handles.specs.Given.{may_make, has_restored, GivesFresh, FreshNumbersAreGiven}
use Rattle.handles.proofs.CallLemmas as from
use Rattle.handles.proofs.ComeLemmas.{GivesOnly}

module _ (s : State) where
  -- the number that a command gives to a new object
  abbrev Given : Command → ℕ → Type 0
  Given asked n = IsTrue (may_make asked) × IsFresh s.limits s.tree n

  -- the calls by path
  gives_path : (c : PathCall) → GivesOnly s.tree (Given (command.Path c)) (calls s.limits s.session s.tree c)
  gives_path (call.List path) = from.gives_list s.limits (now_of s) s.tree _ path
  gives_path (call.Entries path after count) = from.gives_entries s.limits (now_of s) s.tree _ path after count
  gives_path (call.Stat path) = from.gives_stat s.limits (now_of s) s.tree _ true path
  gives_path (call.Lstat path) = from.gives_stat s.limits (now_of s) s.tree _ false path
  gives_path (call.Attr path follow) = from.gives_attr s.limits (now_of s) s.tree _ follow path
  gives_path (call.Readlink path) = from.gives_readlink s.limits (now_of s) s.tree _ path
  gives_path (call.Get path offset count) = from.gives_get s.limits (now_of s) s.tree _ path offset count
  gives_path (call.Mkdir path mode) = from.gives_mkdir s.limits (now_of s) s.tree _ path (permissions_in s mode) (λ n fresh. (refl, fresh))
  gives_path (call.Rmdir path) = from.gives_rmdir s.limits (now_of s) s.tree _ path
  gives_path (call.Unlink path) = from.gives_unlink s.limits (now_of s) s.tree _ path
  gives_path (call.Link old path) = from.gives_link s.limits (now_of s) s.tree _ old path
  gives_path (call.Symlink text path) = from.gives_symlink s.limits (now_of s) s.tree _ text path (permissions_in s LINK_MODE) (λ n fresh. (refl, fresh))
  gives_path (call.Rename old path) = from.gives_rename s.limits (now_of s) s.tree _ false old path
  gives_path (call.RenameNew old path) = from.gives_rename s.limits (now_of s) s.tree _ true old path
  gives_path (call.Chmod path mode) = from.gives_chmod s.limits (now_of s) s.tree _ path mode
  gives_path (call.Chown path follow owner group) = from.gives_chown s.limits (now_of s) s.tree _ follow path owner group
  gives_path (call.Utimens path follow time) = from.gives_utimens s.limits (now_of s) s.tree _ follow path time
  gives_path (call.Truncate path size) = from.gives_truncate s.limits (now_of s) s.tree _ path size
  gives_path (call.Store path offset given) = from.gives_store s.limits (now_of s) s.tree _ path offset given
  gives_path (call.Set path settings) = from.gives_set s.limits (now_of s) s.tree _ path settings

  -- a step keeps the limits and the mark, and a number in use behind it was in use or is given
  record Keeps (asked : Command) (answer : Reply) (new : State) : Type 0 where
    limits : new.limits ≡ s.limits
    mark : new.mark ≡ s.mark
    used : IsFalse (has_restored asked answer) → (n : ℕ) → IsUsed new.tree n → IsUsed s.tree n ⊎ Given asked n

  abbrev StepKeeps : Command → Step → Type 0
  StepKeeps asked step = (answer : Reply) (new : State) (need : Need) → step answer new need → Keeps asked answer new

  module _ (asked : Command) where
    same_keeps : (answer : Reply) → Keeps asked answer s
    same_keeps answer = record { limits = refl; mark = refl; used = λ plain n used. inl used }

    keeps_same : (r : Reply) → StepKeeps asked (says s r)
    keeps_same r answer new need done = subst (λ t. Keeps asked answer t) (sym done.1) (same_keeps answer)

    keeps_on_tree : (outcome : Outcome) → GivesOnly s.tree (Given asked) outcome → StepKeeps asked (on_tree s outcome)
    keeps_on_tree outcome gives answer new need done = record {
      limits = ap (λ (t : State). t.limits) done.1;
      mark = ap (λ (t : State). t.mark) done.1;
      used = λ plain n used. gives answer new.tree need done.0 n used;
    }

    keeps_passing : (tests : Tests) (rest : Step) → StepKeeps asked rest → StepKeeps asked (passing s tests rest)
    keeps_passing tests rest keeps =
        elim (first_refusal tests) as (λ o. StepKeeps asked (elim o as (λ _. Step) [ Some errno ↦ says s (reply.Refused errno) | None ↦ rest ])) [
          | Some errno ↦ keeps_same (reply.Refused errno)
          | None ↦ keeps
        ]

    -- the tree stays where the snapshots alone are others
    keeps_snapshots : (pairs : List (Name × Tree)) (answer : Reply) (new : State) → new ≡ with_snapshots pairs s → Keeps asked answer new
    keeps_snapshots pairs answer new is =
        subst (λ t. Keeps asked answer t) (sym is) (record { limits = refl; mark = refl; used = λ plain n used. inl used })

  keeps_take : (name : Name) → StepKeeps (command.SnapTake name) (takes s name)
  keeps_take name =
      keeps_passing (command.SnapTake name) (take_tests s name) _ (λ answer new need done. keeps_snapshots (command.SnapTake name) _ answer new done.1.2)

  keeps_delete : (name : Name) → StepKeeps (command.SnapDelete name) (deletes s name)
  keeps_delete name =
      keeps_passing (command.SnapDelete name) ((is_none (frozen s name), NOSNAP) ∷ []) _ (λ answer new need done. keeps_snapshots (command.SnapDelete name) _ answer new done.1)

  keeps_restore : (room : Room) (name : Name) → StepKeeps (command.SnapRestore name) (restores room s name)
  keeps_restore room name =
      keeps_passing (command.SnapRestore name) ((is_none (frozen s name), NOSNAP) ∷ (has_open_below s.tree OPEN_FILES, EBUSY) ∷ []) _ (λ answer new need done. record {
        limits = ap (λ (t : State). t.limits) done.1.2;
        mark = ap (λ (t : State). t.mark) done.1.2;
        used = λ plain n used. absurd (false≢true (sym plain ∙ ap (has_restored (command.SnapRestore name)) done.0));
      })

  keeps_view : (name : Name) (c : PathCall) → StepKeeps (command.Within name c) (views s name c)
  keeps_view name c =
      elim (frozen s name) as (λ o. StepKeeps (command.Within name c) (elim o as (λ _. Step) [
        | None ↦ says s (reply.Refused NOSNAP)
        | Some pair ↦ passing s ((not (is_reading_call c), EROFS) ∷ []) (λ answer new need. calls s.limits s.session pair.1 c answer pair.1 need × (new ≡ s))
      ])) [
        | None ↦ keeps_same (command.Within name c) (reply.Refused NOSNAP)
        | Some pair ↦ keeps_passing (command.Within name c) ((not (is_reading_call c), EROFS) ∷ []) _ (λ answer new need done.
            subst (λ t. Keeps (command.Within name c) answer t) (sym done.1) (same_keeps (command.Within name c) answer))
      ]

  keeps_time : (seconds : ℤ) (nanoseconds : ℕ) → StepKeeps (command.At seconds nanoseconds) (sets_time s seconds nanoseconds)
  keeps_time seconds nanoseconds =
      keeps_passing (command.At seconds nanoseconds) (at_tests s nanoseconds) _ (λ answer new need done.
      subst (λ t. Keeps (command.At seconds nanoseconds) answer t) (sym done.1) (record { limits = refl; mark = refl; used = λ plain n used. inl used }))

  keeps_owner : (owner group : ℕ) → StepKeeps (command.As owner group) (sets_owner s owner group)
  keeps_owner owner group =
      keeps_passing (command.As owner group) (attribute_tests s.limits) _ (λ answer new need done.
      subst (λ t. Keeps (command.As owner group) answer t) (sym done.1) (record { limits = refl; mark = refl; used = λ plain n used. inl used }))

  keeps_step : (room : Room) (asked : Command) → StepKeeps asked (WouldStep room s asked)
  keeps_step room (command.Path c) = keeps_on_tree (command.Path c) _ (gives_path c)
  keeps_step room (command.Open path flags mode below) =
      keeps_on_tree (command.Open path flags mode below) _ (from.gives_open s.limits (now_of s) s.tree _ false below path flags (permissions_in s mode) (λ creates n fresh. (creates, fresh)))
  keeps_step room (command.OpenStat path flags mode below) =
      keeps_on_tree (command.OpenStat path flags mode below) _ (from.gives_open s.limits (now_of s) s.tree _ true below path flags (permissions_in s mode) (λ creates n fresh. (creates, fresh)))
  keeps_step room (command.Close fd) = keeps_on_tree (command.Close fd) _ (from.gives_close s.limits (now_of s) s.tree _ fd)
  keeps_step room (command.Read fd count) = keeps_on_tree (command.Read fd count) _ (from.gives_read s.limits (now_of s) s.tree _ fd count)
  keeps_step room (command.Write fd given) = keeps_on_tree (command.Write fd given) _ (from.gives_write s.limits (now_of s) s.tree _ fd given)
  keeps_step room (command.Pread fd offset count) = keeps_on_tree (command.Pread fd offset count) _ (from.gives_pread s.limits (now_of s) s.tree _ fd offset count)
  keeps_step room (command.Pwrite fd offset given) = keeps_on_tree (command.Pwrite fd offset given) _ (from.gives_pwrite s.limits (now_of s) s.tree _ fd offset given)
  keeps_step room (command.Lseek fd whence offset) = keeps_on_tree (command.Lseek fd whence offset) _ (from.gives_seek s.limits (now_of s) s.tree _ fd whence offset)
  keeps_step room (command.Ftruncate fd size) = keeps_on_tree (command.Ftruncate fd size) _ (from.gives_ftruncate s.limits (now_of s) s.tree _ fd size)
  keeps_step room (command.Fchmod fd mode) = keeps_on_tree (command.Fchmod fd mode) _ (from.gives_fchmod s.limits (now_of s) s.tree _ fd mode)
  keeps_step room (command.Fchown fd owner group) = keeps_on_tree (command.Fchown fd owner group) _ (from.gives_fchown s.limits (now_of s) s.tree _ fd owner group)
  keeps_step room (command.Futimens fd time) = keeps_on_tree (command.Futimens fd time) _ (from.gives_futimens s.limits (now_of s) s.tree _ fd time)
  keeps_step room (command.Fstat fd) = keeps_on_tree (command.Fstat fd) _ (from.gives_fstat s.limits (now_of s) s.tree _ fd)
  keeps_step room (command.Fattr fd) = keeps_on_tree (command.Fattr fd) _ (from.gives_fattr s.limits (now_of s) s.tree _ fd)
  keeps_step room (command.Fsync fd) = keeps_on_tree (command.Fsync fd) _ (from.gives_fsync s.limits (now_of s) s.tree _ fd)
  keeps_step room (command.Extent path offset) = keeps_on_tree (command.Extent path offset) _ (from.gives_extent s.limits (now_of s) s.tree _ room.stored path offset)
  keeps_step room (command.At seconds nanoseconds) = keeps_time seconds nanoseconds
  keeps_step room (command.As owner group) = keeps_owner owner group
  keeps_step room command.Sync = keeps_same command.Sync reply.Done
  keeps_step room command.Df = keeps_same command.Df (reply.Space room.blocks room.free room.pledged)
  keeps_step room command.Statfs = λ answer new need done. keeps_same command.Statfs _ answer new need done.2
  keeps_step room (command.SnapTake name) = keeps_take name
  keeps_step room (command.SnapDelete name) = keeps_delete name
  keeps_step room (command.SnapRestore name) = keeps_restore room name
  keeps_step room command.SnapList = keeps_same command.SnapList (reply.Snaps (map (λ pair. pair.0) s.snapshots))
  keeps_step room (command.Within name c) = keeps_view name c

module _ (c : Circumstances) (s : State) (asked : Command) (answer : Reply) where
  same_gives : GivesFresh s s asked answer
  same_gives = record { limits = refl; rests = λ e. e; stays = λ e. refl; used = λ plain n used. inl used }

  failed_gives : GivesFresh s (as_failed s) asked answer
  failed_gives = record { limits = refl; rests = λ e. refl; stays = λ e. refl; used = λ plain n used. inl used }

  not_failed : {Y : Type 0} (mark : Mark) → mark ≡ going → mark ≡ failed → Y
  not_failed mark goes fails = cc

  done_gives : (t : State) → s.mark ≡ going → IsDone c s asked answer t → GivesFresh s t asked answer
  done_gives t goes (need, done) =
      let keeps = keeps_step s c.room asked answer t need done in
      record { limits = keeps.limits; rests = λ fails. not_failed s.mark goes fails; stays = λ fails. not_failed t.mark (keeps.mark ∙ goes) fails; used = keeps.used }

  answered_gives : (t : State) → s.mark ≡ going → IsAnswered c s asked answer t → GivesFresh s t asked answer
  answered_gives t goes =
      elim c.write_failed as (λ b. MatchBool b ((answer ≡ reply.Refused EIO) × (t ≡ as_failed s)) ((IsDone c s asked answer t × CoversWhereOk c asked answer) ⊎ (IsExcused c s asked answer × (t ≡ s))) → GivesFresh s t asked answer) [
        | true ↦ λ is. subst (λ u. GivesFresh s u asked answer) (sym is.1) failed_gives
        | false ↦ λ is. elim is [
          | inl done ↦ done_gives t goes done.0
          | inr same ↦ subst (λ u. GivesFresh s u asked answer) (sym same.1) same_gives
        ]
      ]

  allowed_gives : (t : State) → Allowed c s asked answer t → GivesFresh s t asked answer
  allowed_gives t =
      elim s.mark as (λ mark. s.mark ≡ mark → elim mark as (λ _. Type 0) [
        | failed ↦ (answer ≡ reply.Refused FAILED) × (t ≡ s)
        | going ↦ (IsSure s asked × IsFalse c.write_failed × IsDone c s asked answer t) ⊎ ((¬ IsSure s asked) × IsAnswered c s asked answer t)
      ] → GivesFresh s t asked answer) [
        | failed ↦ λ e is. subst (λ u. GivesFresh s u asked answer) (sym is.1) same_gives
        | going ↦ λ e is. elim is [ inl sure ↦ done_gives t e sure.2 | inr may_fail ↦ answered_gives t e may_fail.1 ]
      ] refl

pub fresh_are_given : FreshNumbersAreGiven
fresh_are_given c s t asked answer allowed = allowed_gives c s asked answer t allowed
