-- Each outcome of a command on a state is a state.
use Rattle.std.proofs.Common.{◌≡◌, ◌≢◌, ◌⊎◌, inl, inr, ℕ, zero, suc, ◌≤◌, ◌<◌, List, [], ◌∷◌, ◌++◌, length, get_or, map, Bool, true, false, not, ◌||◌, is_none, bytes_eq, Option, Some, None, refl, sym, subst, ◌∙◌, length-append, arith, lit≤}
use Rattle.std.specs.Int.{w64}
use Rattle.std.specs.Prelude.{ℤ, FitsSigned, ◌==◌, nat_lt, find, filter, All, MatchBool, IsFalse}
use Rattle.std.proofs.lemmas.Bool.{cases_Bool, cond_both, cond-true, cond-false, eqb-false, leb-false, ltb-false, or_parts, false≢true}
use Rattle.std.proofs.lemmas.List.Elements.{All-head, All-tail, All-push, All-filter}
use Rattle.std.proofs.lemmas.List.Kept.{AllPairs-filter}
use Rattle.std.proofs.lemmas.List.Quantifiers.{all_pairs_push}
use Rattle.std.proofs.lemmas.Slice.Eq.{bytes_eq-Decides}
use Rattle.std.specs.List.{list_any}
use Rattle.model.specs.declared.limits.Limits.{Limits}
use Rattle.model.specs.declared.limits.TheConstants.{GREATEST_OWNER, LINK_MODE, MOST_NANOSECONDS, OPEN_FILES, SNAPSHOT_NAME_BYTES}
use Rattle.model.specs.declared.errno.Errno.TheVariants.{EBUSY, NOSNAP, EROFS, EIO, FAILED}
use Rattle.model.specs.declared.reply.Reply.{Reply}
use Rattle.model.specs.declared.reply.Reply.TheVariants as reply
use Rattle.model.specs.declared.command.Command.{Command}
use Rattle.model.specs.declared.command.Command.TheVariants as command
use Rattle.model.specs.declared.command.PathCall.{PathCall}
use Rattle.model.specs.declared.command.PathCall.TheVariants as call
use Rattle.model.specs.Paths.{Name, Tests, first_refusal}
use Rattle.model.specs.Trees.{Tree, IsTree, root_alone}
use Rattle.model.specs.Room.{Room, Need}
use Rattle.model.specs.Outcomes.{Outcome}
use Rattle.model.specs.declared.session.Session.{Session}
use Rattle.model.specs.Attributes.{KeepsTime}
use Rattle.model.specs.Reading.{attribute_tests}
use Rattle.model.specs.Sessions.{IsSession, call_time, new_permissions}
use Rattle.model.specs.States.{State, now_of, permissions_in, going, failed, IsState, IsFrozen, IsShortName, with_tree, with_snapshots, as_failed, ForgetsOpenFiles}
use Rattle.model.specs.Steps.{Step, says, passing, on_tree, calls, is_reading_call, frozen, is_name_byte, take_tests, takes, deletes, has_open_below, restores, views, at_tests, sets_time, sets_owner, WouldStep}
use Rattle.model.specs.Circumstances.{Circumstances, IsDone, IsSure, IsExcused, CoversWhereOk, IsAnswered, Allowed}
use Rattle.model.specs.Laws.{IsCommand, IsPathCall, CommandsLeaveStates, AllowedAreStates, MountsFindStates}
use Rattle.model.proofs.AttributeLaws.{permissions_fit}
use Rattle.model.proofs.LeadLemmas.{AllPass, all_passed}
use Rattle.model.proofs.NewTreeLemmas.{new_is_session, root_is_tree, tree_is_state}
use Rattle.model.proofs.LooseLemmas.{swept_is_tree, closed_is_loose}
use Rattle.model.proofs.TreeMarkLemmas.{time_kept}
use Rattle.model.proofs.StayLemmas.{LeavesTree, stays_attr, stays_stat, stays_list, stays_entries, stays_store, stays_readlink, stays_get, stays_truncate, stays_chmod, stays_chown, stays_utimens, stays_set, stays_close, stays_read, stays_pread, stays_write, stays_pwrite, stays_seek, stays_ftruncate, stays_fchmod, stays_fchown, stays_futimens, stays_fattr, stays_fstat, stays_fsync, stays_extent}
use Rattle.model.proofs.CallLemmas.{stays_mkdir, stays_symlink, stays_link, stays_rmdir, stays_unlink, stays_open}
use Rattle.model.proofs.ReplaceLemmas.{stays_rename}
use Rattle.model.proofs.OptionLaws.{none_some, some_same}

-- the calls by path
stays_path : (limits : Limits) (t : Tree) → IsTree limits t → (said : Session) → IsSession said → (c : PathCall) → IsPathCall c → LeavesTree limits (calls limits said t c)
stays_path limits t tree said session (call.List path) bound = stays_list limits t tree path
stays_path limits t tree said session (call.Entries path after count) bound = stays_entries limits t tree path after count
stays_path limits t tree said session (call.Stat path) bound = stays_stat limits t tree true path
stays_path limits t tree said session (call.Lstat path) bound = stays_stat limits t tree false path
stays_path limits t tree said session (call.Attr path follow) bound = stays_attr limits t tree follow path
stays_path limits t tree said session (call.Readlink path) bound = stays_readlink limits t tree path
stays_path limits t tree said session (call.Get path offset count) bound = stays_get limits t tree path offset count
stays_path limits t tree said session (call.Mkdir path mode) bound = stays_mkdir limits t tree (call_time limits said) (time_kept limits said.time session.time) path (new_permissions limits said mode) (permissions_fit limits said mode session bound)
stays_path limits t tree said session (call.Rmdir path) bound = stays_rmdir limits t tree (call_time limits said) (time_kept limits said.time session.time) path
stays_path limits t tree said session (call.Unlink path) bound = stays_unlink limits t tree (call_time limits said) (time_kept limits said.time session.time) path
stays_path limits t tree said session (call.Link old path) bound = stays_link limits t tree (call_time limits said) (time_kept limits said.time session.time) old path
stays_path limits t tree said session (call.Symlink text path) bound = stays_symlink limits t tree (call_time limits said) (time_kept limits said.time session.time) text path (new_permissions limits said LINK_MODE) (permissions_fit limits said LINK_MODE session (lit≤ tt))
stays_path limits t tree said session (call.Rename old path) bound = stays_rename limits t tree (call_time limits said) (time_kept limits said.time session.time) false old path
stays_path limits t tree said session (call.RenameNew old path) bound = stays_rename limits t tree (call_time limits said) (time_kept limits said.time session.time) true old path
stays_path limits t tree said session (call.Chmod path mode) bound = stays_chmod limits t tree (call_time limits said) (time_kept limits said.time session.time) path mode bound
stays_path limits t tree said session (call.Chown path follow owner group) bound = stays_chown limits t tree (call_time limits said) (time_kept limits said.time session.time) follow path owner group bound
stays_path limits t tree said session (call.Utimens path follow time) bound = stays_utimens limits t tree (call_time limits said) (time_kept limits said.time session.time) follow path time bound
stays_path limits t tree said session (call.Truncate path size) bound = stays_truncate limits t tree (call_time limits said) (time_kept limits said.time session.time) path size
stays_path limits t tree said session (call.Store path offset given) bound = stays_store limits t tree (call_time limits said) (time_kept limits said.time session.time) path offset given
stays_path limits t tree said session (call.Set path settings) bound = stays_set limits t tree (call_time limits said) (time_kept limits said.time session.time) path settings bound

-- a snapshot is a tree without descriptors
forgotten_is_frozen : (limits : Limits) (old new : Tree) → IsTree limits old → ForgetsOpenFiles old new → IsFrozen limits new
forgotten_is_frozen limits old new tree forgets = record {
  tree = swept_is_tree limits (record old { descriptors = λ d. None }) new (closed_is_loose limits old tree (λ d. None) (λ d f is. none_some is)) (record {
    objects = forgets.objects;
    descriptors = forgets.descriptors;
    kept = λ n used. elim used [ inl path ↦ forgets.kept n path | inr open_file ↦ none_some open_file.2 ];
    gone = λ n unused. forgets.gone n (λ path. unused (inl path));
  });
  closed = forgets.descriptors;
}

-- the steps

abbrev LeavesState : Step → Type 0
LeavesState step = (answer : Reply) (new : State) (need : Need) → step answer new need → IsState new

module _ (s : State) (state : IsState s) where
  tree_changes : (t : Tree) → IsTree s.limits t → IsState (with_tree t s)
  tree_changes t tree = record { tree = tree; frozen = state.frozen; names = state.names; few = state.few; once = state.once; session = state.session }

  leaves_on_tree : (outcome : Outcome) → LeavesTree s.limits outcome → LeavesState (on_tree s outcome)
  leaves_on_tree outcome leaves answer new need done = subst IsState (sym done.1) (tree_changes new.tree (leaves answer new.tree need done.0))

  leaves_same : (r : Reply) → LeavesState (says s r)
  leaves_same r answer new need done = subst IsState (sym done.1) state

  leaves_passing : (tests : Tests) (rest : Step) → (AllPass tests → LeavesState rest) → LeavesState (passing s tests rest)
  leaves_passing tests rest leaves =
      elim (first_refusal tests) as (λ o. first_refusal tests ≡ o → LeavesState (elim o as (λ _. Step) [ Some errno ↦ says s (reply.Refused errno) | None ↦ rest ])) [
        | Some errno ↦ λ e. leaves_same (reply.Refused errno)
        | None ↦ λ e. leaves (all_passed tests e)
      ] refl

  -- snapshots

  not_none : (o : Option (Name × Tree)) → not (is_none o) ≡ false → o ≡ None
  not_none None e = refl
  not_none (Some pair) e = absurd (false≢true (sym e))

  no_other : (name : Name) (pairs : List (Name × Tree)) → find (λ pair. bytes_eq pair.0 name) pairs ≡ None → (k : ℕ) (d : Name × Tree) → k < length pairs → (get_or pairs k d).0 ≢ name
  no_other name [] e k d below = absurd (omega (arith, below))
  no_other name (pair ∷ pairs) e k d below =
      elim (cases_Bool (bytes_eq pair.0 name)) [
        | inl t ↦ none_some (sym e ∙ cond-true (bytes_eq pair.0 name) (Some pair) (find (λ pair. bytes_eq pair.0 name) pairs) t)
        | inr f ↦ by k below (sym (cond-false (bytes_eq pair.0 name) (Some pair) (find (λ pair. bytes_eq pair.0 name) pairs) f) ∙ e) (λ same. false≢true (sym f ∙ (bytes_eq-Decides pair.0 name).1 same)) (no_other name pairs)
      ]
    where
      by : (k : ℕ) → k < length (pair ∷ pairs) → find (λ pair. bytes_eq pair.0 name) pairs ≡ None → pair.0 ≢ name → (find (λ pair. bytes_eq pair.0 name) pairs ≡ None → (k : ℕ) (d : Name × Tree) → k < length pairs → (get_or pairs k d).0 ≢ name) → (get_or (pair ∷ pairs) k d).0 ≢ name
      by zero below rest other more = other
      by (suc k) below rest other more = more rest k d (omega (arith, below))

  leaves_take : (name : Name) → LeavesState (takes s name)
  leaves_take name =
      leaves_passing (take_tests s name) _ (λ pass answer new need done.
      let plain = or_parts (length name == 0 || nat_lt SNAPSHOT_NAME_BYTES (length name)) (list_any (λ b. not (is_name_byte b)) name) pass.0 in
      let short = or_parts (length name == 0) (nat_lt SNAPSHOT_NAME_BYTES (length name)) plain.0 in
      subst IsState (sym done.1.2) (taken name done.1.0 (eqb-false (length name) 0 short.0) (ltb-false SNAPSHOT_NAME_BYTES (length name) short.1) (not_none (frozen s name) pass.1.0) (leb-false s.limits.snapshots (length s.snapshots) pass.1.1.0) done.1.1))
    where
      taken : (name : Name) (t : Tree) → length name ≢ 0 → length name ≤ SNAPSHOT_NAME_BYTES → frozen s name ≡ None → length s.snapshots < s.limits.snapshots → ForgetsOpenFiles s.tree t → IsState (with_snapshots (s.snapshots ++ (name, t) ∷ []) s)
      taken name t some short unknown room forgets = record {
        tree = state.tree;
        frozen = All-push (λ (pair : Name × Tree). IsFrozen s.limits pair.1) s.snapshots (name, t) state.frozen (forgotten_is_frozen s.limits s.tree t state.tree forgets);
        names = All-push (λ (pair : Name × Tree). IsShortName pair.0) s.snapshots (name, t) state.names (record { some = omega (arith, some); short = short });
        few = omega (arith, length-append s.snapshots ((name, t) ∷ []), room);
        once = all_pairs_push (λ (a b : Name × Tree). a.0 ≢ b.0) s.snapshots (name, t) state.once (no_other name s.snapshots unknown);
        session = state.session;
      }

  fewer : (keeps : Name × Tree → Bool) (pairs : List (Name × Tree)) → length (filter keeps pairs) ≤ length pairs
  fewer keeps [] = omega arith
  fewer keeps (pair ∷ pairs) =
      let rest : length (filter keeps pairs) ≤ length pairs = fewer keeps pairs in
      cond_both (keeps pair) (pair ∷ filter keeps pairs) (filter keeps pairs) (λ (left : List (Name × Tree)). length left ≤ length (pair ∷ pairs)) (λ e. omega (arith, rest)) (λ e. omega (arith, rest))

  leaves_delete : (name : Name) → LeavesState (deletes s name)
  leaves_delete name =
      leaves_passing ((is_none (frozen s name), NOSNAP) ∷ []) _ (λ pass answer new need done. subst IsState (sym done.1) (left (λ pair. not (bytes_eq pair.0 name))))
    where
      left : (keeps : Name × Tree → Bool) → IsState (with_snapshots (filter keeps s.snapshots) s)
      left keeps = record {
        tree = state.tree;
        frozen = All-filter keeps (λ pair. IsFrozen s.limits pair.1) s.snapshots state.frozen;
        names = All-filter keeps (λ pair. IsShortName pair.0) s.snapshots state.names;
        few = let less = fewer keeps s.snapshots in omega (arith, less, state.few);
        once = AllPairs-filter (λ a b. a.0 ≢ b.0) keeps s.snapshots state.once;
        session = state.session;
      }

  found_holds : (P : Name × Tree → Type 0) (test : Name × Tree → Bool) (pairs : List (Name × Tree)) → All P pairs → (pair : Name × Tree) → find test pairs ≡ Some pair → P pair
  found_holds P test [] all pair e = absurd (none_some e)
  found_holds P test (first ∷ pairs) all pair e =
      cond_both (test first) (Some first) (find test pairs) (λ (o : Option (Name × Tree)). o ≡ Some pair → P pair)
      (λ t is. subst P (some_same is) (All-head P first pairs all)) (λ t is. found_holds P test pairs (All-tail P first pairs all) pair is) e

  leaves_restore : (room : Room) (name : Name) → LeavesState (restores room s name)
  leaves_restore room name =
      leaves_passing ((is_none (frozen s name), NOSNAP) ∷ (has_open_below s.tree OPEN_FILES, EBUSY) ∷ []) _ (λ pass answer new need done.
      let was = found_holds (λ pair. IsFrozen s.limits pair.1) (λ pair. bytes_eq pair.0 name) s.snapshots state.frozen done.1.0 done.1.1 in
      subst IsState (sym done.1.2) (tree_changes done.1.0.1 was.tree))

  leaves_view : (name : Name) (c : PathCall) → LeavesState (views s name c)
  leaves_view name c =
      elim (frozen s name) as (λ o. LeavesState (elim o as (λ _. Step) [
        | None ↦ says s (reply.Refused NOSNAP)
        | Some pair ↦ passing s ((not (is_reading_call c), EROFS) ∷ []) (λ answer new need. calls s.limits s.session pair.1 c answer pair.1 need × (new ≡ s))
      ])) [
        | None ↦ leaves_same (reply.Refused NOSNAP)
        | Some pair ↦ leaves_passing ((not (is_reading_call c), EROFS) ∷ []) _ (λ pass answer new need done. subst IsState (sym done.1) state)
      ]

  timed : KeepsTime s.limits.has_attributes (now_of s)
  timed = time_kept s.limits s.session.time state.session.time

  leaves_time : (seconds : ℤ) (nanoseconds : ℕ) → FitsSigned w64 seconds → LeavesState (sets_time s seconds nanoseconds)
  leaves_time seconds nanoseconds bound =
      leaves_passing (at_tests s nanoseconds) _ (λ pass answer new need done. subst IsState (sym done.1) (record {
        tree = state.tree;
        frozen = state.frozen;
        names = state.names;
        few = state.few;
        once = state.once;
        session = record {
          time = record { seconds = bound; nanoseconds = ltb-false MOST_NANOSECONDS nanoseconds pass.1.0 };
          owner = state.session.owner;
          group = state.session.group;
        };
      }))

  leaves_owner : (owner group : ℕ) → (owner ≤ GREATEST_OWNER) × (group ≤ GREATEST_OWNER) → LeavesState (sets_owner s owner group)
  leaves_owner owner group bound =
      leaves_passing (attribute_tests s.limits) _ (λ pass answer new need done. subst IsState (sym done.1) (record {
        tree = state.tree;
        frozen = state.frozen;
        names = state.names;
        few = state.few;
        once = state.once;
        session = record { time = state.session.time; owner = bound.0; group = bound.1 };
      }))

  leaves_step : (room : Room) (c : Command) → IsCommand c → LeavesState (WouldStep room s c)
  leaves_step room (command.Path c) bound = leaves_on_tree _ (stays_path s.limits s.tree state.tree s.session state.session c bound)
  leaves_step room (command.Open path flags mode below) bound = leaves_on_tree _ (stays_open s.limits s.tree state.tree (now_of s) timed false below path flags (permissions_in s mode) (permissions_fit s.limits s.session mode state.session bound))
  leaves_step room (command.OpenStat path flags mode below) bound = leaves_on_tree _ (stays_open s.limits s.tree state.tree (now_of s) timed true below path flags (permissions_in s mode) (permissions_fit s.limits s.session mode state.session bound))
  leaves_step room (command.Close fd) bound = leaves_on_tree _ (stays_close s.limits s.tree state.tree fd)
  leaves_step room (command.Read fd count) bound = leaves_on_tree _ (stays_read s.limits s.tree state.tree fd count)
  leaves_step room (command.Write fd given) bound = leaves_on_tree _ (stays_write s.limits s.tree state.tree (now_of s) timed fd given)
  leaves_step room (command.Pread fd offset count) bound = leaves_on_tree _ (stays_pread s.limits s.tree state.tree fd offset count)
  leaves_step room (command.Pwrite fd offset given) bound = leaves_on_tree _ (stays_pwrite s.limits s.tree state.tree (now_of s) timed fd offset given)
  leaves_step room (command.Lseek fd from offset) bound = leaves_on_tree _ (stays_seek s.limits s.tree state.tree fd from offset)
  leaves_step room (command.Ftruncate fd size) bound = leaves_on_tree _ (stays_ftruncate s.limits s.tree state.tree (now_of s) timed fd size)
  leaves_step room (command.Fchmod fd mode) bound = leaves_on_tree _ (stays_fchmod s.limits s.tree state.tree (now_of s) timed fd mode bound)
  leaves_step room (command.Fchown fd owner group) bound = leaves_on_tree _ (stays_fchown s.limits s.tree state.tree (now_of s) timed fd owner group bound)
  leaves_step room (command.Futimens fd time) bound = leaves_on_tree _ (stays_futimens s.limits s.tree state.tree (now_of s) timed fd time bound)
  leaves_step room (command.Fstat fd) bound = leaves_on_tree _ (stays_fstat s.limits s.tree state.tree fd)
  leaves_step room (command.Fattr fd) bound = leaves_on_tree _ (stays_fattr s.limits s.tree state.tree fd)
  leaves_step room (command.Fsync fd) bound = leaves_on_tree _ (stays_fsync s.limits s.tree state.tree fd)
  leaves_step room (command.Extent path offset) bound = leaves_on_tree _ (stays_extent s.limits s.tree state.tree room.stored path offset)
  leaves_step room (command.At seconds nanoseconds) bound = leaves_time seconds nanoseconds bound
  leaves_step room (command.As owner group) bound = leaves_owner owner group bound
  leaves_step room command.Sync bound = leaves_same reply.Done
  leaves_step room command.Df bound = leaves_same (reply.Space room.blocks room.free room.pledged)
  leaves_step room command.Statfs bound = λ answer new need done. leaves_same _ answer new need done.2
  leaves_step room (command.SnapTake name) bound = leaves_take name
  leaves_step room (command.SnapDelete name) bound = leaves_delete name
  leaves_step room (command.SnapRestore name) bound = leaves_restore room name
  leaves_step room command.SnapList bound = leaves_same (reply.Snaps (map (λ pair. pair.0) s.snapshots))
  leaves_step room (command.Within name c) bound = leaves_view name c

  failed_is_state : IsState (as_failed s)
  failed_is_state = record { tree = state.tree; frozen = state.frozen; names = state.names; few = state.few; once = state.once; session = state.session }

pub commands_leave_states : CommandsLeaveStates
commands_leave_states room s new c answer need state bound done = leaves_step s state room c bound answer new need done

module _ (c : Circumstances) (s new : State) (asked : Command) (answer : Reply) (state : IsState s) (bound : IsCommand asked) where
  done_is_state : IsDone c s asked answer new → IsState new
  done_is_state (need, done) = commands_leave_states c.room s new asked answer need state bound done

  answered_is_state : IsAnswered c s asked answer new → IsState new
  answered_is_state =
      elim c.write_failed as (λ b. MatchBool b ((answer ≡ reply.Refused EIO) × (new ≡ as_failed s)) ((IsDone c s asked answer new × CoversWhereOk c asked answer) ⊎ (IsExcused c s asked answer × (new ≡ s))) → IsState new) [
        | true ↦ λ is. subst IsState (sym is.1) (failed_is_state s state)
        | false ↦ λ is. elim is [ inl done ↦ done_is_state done.0 | inr same ↦ subst IsState (sym same.1) state ]
      ]

  allowed_is_state : Allowed c s asked answer new → IsState new
  allowed_is_state =
      elim s.mark as (λ mark. elim mark as (λ _. Type 0) [
        | failed ↦ (answer ≡ reply.Refused FAILED) × (new ≡ s)
        | going ↦ (IsSure s asked × IsFalse c.write_failed × IsDone c s asked answer new) ⊎ ((¬ IsSure s asked) × IsAnswered c s asked answer new)
      ] → IsState new) [
        | failed ↦ λ is. subst IsState (sym is.1) state
        | going ↦ λ is. elim is [ inl sure ↦ done_is_state sure.2 | inr may_fail ↦ answered_is_state may_fail.1 ]
      ]

pub allowed_are_states : AllowedAreStates
allowed_are_states c s new asked answer state bound allowed = allowed_is_state c s new asked answer state bound allowed

pub mounts_find_states : MountsFindStates
mounts_find_states = (
  λ limits can_be. tree_is_state limits (root_alone 0o755) going (root_is_tree limits can_be),
  λ old new state forgets. subst IsState (sym forgets.rest) (record {
    tree = (forgotten_is_frozen old.limits old.tree new.tree state.tree forgets.tree).tree;
    frozen = state.frozen;
    names = state.names;
    few = state.few;
    once = state.once;
    session = new_is_session;
  }),
)
