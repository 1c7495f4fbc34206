-- How many commands that change something a request comes to.
use Rattle.std.proofs.Common.{◌≡◌, ◌≤◌, ◌+◌, ℕ, zero, suc, ℤ, Bool, true, false, cond, List, [], drop, Option, Some, None, Result, Ok, Err, refl, sym, ap, subst, arith, ◌∙◌}
use Rattle.std.proofs.lemmas.Bool.{eq-eqb, false≢true}
use Rattle.file_system.specs.declared.handle.Handle.{Handle}
use Rattle.fuse.specs.Operation as asked
use Rattle.fuse.specs.Operation.{OperationValue}
use Rattle.fuse.specs.declared.attribute_changes.AttributeChanges.{AttributeChanges}
use Rattle.model.specs.declared.command.Settings.{Settings}
use Rattle.model.specs.declared.errno.Errno.{Errno}
use Rattle.model.specs.declared.errno.Errno.TheVariants as errno
use Rattle.model.specs.declared.limits.TheConstants.{TRANSFER_BYTES}
use Rattle.model.specs.declared.reply.Reply.{Reply}
use Rattle.model.specs.declared.reply.Reply.TheVariants as reply
use Rattle.model.specs.declared.reply.Stat.{Stat}
use Rattle.served.specs.Changing.{is_part, is_undone, most_changes, ChangesAreFew, WritesChangeByParts}
use Rattle.served.specs.Files as files
use Rattle.served.specs.Known.{Known, Seen, marks_at, with_marks, with_removed}
use Rattle.served.specs.Listing as listing
use Rattle.served.specs.Looking as looking
use Rattle.served.specs.Making as making
use Rattle.served.specs.Marks.{marks_set}
use Rattle.served.specs.Removing as removing
use Rattle.served.specs.Requests as requests
use Rattle.served.specs.Setting as setting
use Rattle.served.specs.Setting.{Told}
use Rattle.served.specs.Snapshots as snapshots
use Rattle.served.specs.Turns.{Step, Turn, either, refusal_in}
use Rattle.served.specs.declared.finding.Found.{Found}
use Rattle.served.specs.declared.finding.Found.TheVariants as found
use Rattle.served.specs.declared.marks.Asker.{Asker}
use Rattle.served.specs.declared.memory.Removed.{Removed}
use Rattle.served.specs.declared.numbers.TheConstants.{MOST_PARTS}
use Rattle.served.proofs.CountingLaws.{AtMost, counted, counts, spares, uncounted, changes_or, in_gives, in_some, in_handle, in_more, in_then, looks_then, then_looks, in_either, in_memory, in_option, in_result, in_path, asked_so, once, unasked, looks_for, changes_once, in_looks, lets_go, remembers, forgets, forgets_all, tell_entry, by_size, tell_attributes, list, reads, release, look_up_within, look_up_snapshot, finds}

-- a reply that is read as a number that leads to nothing is a refusal, which changes nothing
stale_undone : (answer : Reply) → looking.is_stale (refusal_in answer) ≡ true → is_undone answer ≡ true
stale_undone (reply.Refused errno.ESTALE) is = refl
stale_undone answer is = absurd (false≢true is)

module _ {spared : Step → Bool} where
  -- what makes, removes and moves

  makes : (k : Known) (asker : Asker) (parent : ℕ) (name : List ℕ) {made : making.Place → Turn Told} → ((place : making.Place) → AtMost spared 1 (made place)) → AtMost spared 1 (making.makes k asker parent name made)
  unfolding making.prepare
  makes k asker parent name all =
      looks_then (in_either _ in_gives (in_path (λ path. in_path (λ directory. looks_for refl (λ e. in_gives) (λ stat. looks_then in_handle (λ handle. in_gives)))))) (λ found. in_result found all (λ e. in_gives))

  enters : (k : Known) (asker : Asker) (place : making.Place) (stat : Stat) → AtMost spared 0 (making.enters k asker place stat)
  enters k asker place stat = looks_then in_handle (λ handle. in_gives)

  tell_made : (k : Known) (asker : Asker) (place : making.Place) → AtMost spared 0 (making.tell_made k asker place)
  tell_made k asker place = looks_for refl (λ e. in_gives) (λ stat. looks_then (enters k asker place stat) (λ made. in_gives))

  goes : (k : Known) (asker : Asker) (handle : Handle) (path : List ℕ) (stat : Stat) {does : Known → (Errno → Turn Told) → Turn Told}
      → ((known : Known) (stay : Errno → Turn Told) → ((e : Errno) → AtMost spared 0 (stay e)) → AtMost spared 1 (does known stay)) → AtMost spared 1 (removing.goes k asker handle path stat does)
  goes k asker handle path stat all =
      looks_then (remembers k asker handle path stat) (λ found. in_result found.0 (λ held. all found.1 _ (λ e. looks_then (looks_then (lets_go held) (λ d. in_gives)) (λ known. in_gives))) (λ e. in_gives))

  takes_away : (k : Known) (refusal : Errno → Turn Told) (asker : Asker) (parent : ℕ) (path : List ℕ) (is_directory : Bool) → ((e : Errno) → AtMost spared 0 (refusal e)) → AtMost spared 1 (removing.takes_away k refusal asker parent path is_directory)
  takes_away k refusal asker parent path is_directory refused = changes_once refused (λ d. looks_then (looks_then in_handle (λ directory. in_gives)) (λ known. in_gives))

  remove : (k : Known) (asker : Asker) (parent : ℕ) (name : List ℕ) (is_directory : Bool) → AtMost spared 1 (removing.remove k asker parent name is_directory)
  remove k asker parent name is_directory =
      in_either _ in_gives (in_path (λ path. looks_for refl (λ e. in_gives) (λ stat. looks_then in_handle (λ handle. in_either _
      (goes k asker handle path stat (λ known stay stays. takes_away known stay asker parent path is_directory stays))
      (takes_away _ _ asker parent path is_directory (λ e. in_gives))))))

  moves_name : (k : Known) (refusal : Errno → Turn Told) (asker : Asker) (moved : Stat) (parent new_parent flags : ℕ) (path new_path : List ℕ) → ((e : Errno) → AtMost spared 0 (refusal e))
      → AtMost spared 1 (removing.moves_name k refusal asker moved parent new_parent flags path new_path)
  moves_name k refusal asker moved parent new_parent flags path new_path refused =
      changes_once refused (λ d. looks_then (looks_then in_handle (λ handle. looks_then (looks_then in_handle (λ old. in_gives)) (λ known. looks_then in_handle (λ new. in_gives)))) (λ known. in_gives))

  rename : (k : Known) (asker : Asker) (parent : ℕ) (name : List ℕ) (new_parent : ℕ) (new_name : List ℕ) (flags : ℕ) → AtMost spared 1 (removing.rename k asker parent name new_parent new_name flags)
  rename k asker parent name new_parent new_name flags =
      in_either _ (in_either _ in_gives (in_path (λ path. in_path (λ new_path. looks_for refl (λ e. in_gives) (λ moved.
      looks_then (looks_for refl (λ e. in_gives) (λ stat. in_gives)) (λ found. in_result found (λ over. in_option over
      (λ stat. looks_then in_handle (λ handle. goes k asker handle new_path stat (λ known stay stays. moves_name known stay asker moved parent new_parent flags path new_path stays)))
      (moves_name k _ asker moved parent new_parent flags path new_path (λ e. in_gives))) (λ e. in_gives))))))) in_gives

  -- WRITE, each of whose parts counts so much at most
  module _ (fd offset each : ℕ) (bound : ℕ → ℕ) (fits : (n : ℕ) → each + bound n ≤ bound (suc n)) (counts_part : (step : Step) → is_part fd step.asked ≡ true → cond (counts spared step) 1 0 ≤ each) where
    writes : (bytes : List ℕ) (parts done : ℕ) → AtMost spared (bound parts) (files.writes fd offset bytes parts done)
    unfolding files.writes
    writes bytes zero done = in_gives
    writes bytes (suc parts) done =
        in_either _ in_gives (in_either _
        (in_then (fits parts) (asked_so (λ step asked. counts_part step (ap (is_part fd) asked ∙ eq-eqb fd fd refl))) (λ found. in_result found (λ n. writes (drop TRANSFER_BYTES bytes) parts _) (λ e. in_gives)))
        in_gives)

  -- what looks within a snapshot

  of_seen : (k : Known) (n : ℕ) (operation : OperationValue) (seen : Option Seen) → AtMost spared 0 (requests.if_seen k n operation seen)
  unfolding requests.if_seen requests.of_seen snapshots.tell_attributes_within snapshots.read_link_within
  of_seen k n operation None = in_gives
  of_seen k n (asked.lookup name) (Some seen) = look_up_within k seen n name
  of_seen k n (asked.get_attributes handle) (Some seen) = in_path (λ path. looks_for refl (λ e. in_gives) (λ stat. in_gives))
  of_seen k n asked.read_link (Some seen) = in_path (λ path. looks_for refl (λ e. in_gives) (λ text. in_gives))
  of_seen k n (asked.read handle offset size read_flags flags) (Some seen) = in_path (λ path. reads _ offset size MOST_PARTS [] (λ at n. refl))
  of_seen k n (asked.read_directory handle offset size) (Some seen) = list k (listing.within seen k.first) n _
  of_seen k n (asked.read_directory_plus handle offset size) (Some seen) = list k (listing.within seen k.first) n _
  of_seen k n operation (Some seen) = in_gives

  -- SETATTR, where what is refused as it leads to nothing isn't counted
  module _ (stale : (step : Step) → looking.is_stale (refusal_in step.answer) ≡ true → spared step ≡ true) (k : Known) (by : Asker) (node : ℕ) where
    cut_removed : (held : Option ℕ) (size : Option ℤ) → AtMost spared 1 (setting.cut_removed held size)
    cut_removed held None = in_gives
    cut_removed None (Some size) = in_gives
    cut_removed (Some fd) (Some size) = once

    set_gone : (set : AttributeChanges) (settings : Settings) (removed : Option Removed) → AtMost spared 1 (setting.set_gone k by node set settings removed)
    set_gone set settings None = in_gives
    set_gone set settings (Some removed) =
        then_looks (cut_removed removed.held settings.size) (λ done. in_result done
        (λ d. looks_then (by_size _ ((with_removed node (setting.removed_set removed set settings by) k).removed node)) (λ told. in_gives)) (λ e. in_gives))

    set_removed : (set : AttributeChanges) (settings : Result Settings Errno) → AtMost spared 1 (setting.set_removed_by k by node set settings)
    set_removed set (Err e) = in_gives
    set_removed set (Ok settings) = set_gone set settings (k.removed node)

    module _ (h : Handle) (set : AttributeChanges) where
      mark_set : AtMost spared 0 (setting.mark_set k by node h set)
      mark_set = looks_then (tell_attributes (with_marks h (marks_set set by.now (marks_at k h)) k) node h) (λ told. in_gives)

      refused : (step : Step) (e : Errno) → e ≡ refusal_in step.answer → (is : Bool) → looking.is_stale e ≡ is → AtMost spared (cond (counts spared step) 0 1) (either is (setting.set_removed k by node set) (setting.refused k e))
      refused step e told true is = subst (λ (b : Bool). AtMost spared (cond b 0 1) (setting.set_removed k by node set)) (sym (spares spared step (stale step (ap looking.is_stale (sym told) ∙ is)))) (set_removed set (setting.settings_of set))
      refused step e told false is = in_gives

      set_by_path : (settings : Settings) (path : List ℕ) → AtMost spared 1 (setting.set_by_path k by node h set settings path)
      set_by_path settings path =
          in_either _ (changes_or (λ step e told. refused step e told (looking.is_stale e) refl) (λ d. mark_set)) (in_either _ (set_removed set (setting.settings_of set)) (in_more (omega arith) mark_set))

      set_attributes : (settings : Result Settings Errno) → AtMost spared 1 (setting.set_attributes_by k by node h set settings)
      set_attributes (Err e) = in_gives
      set_attributes (Ok settings) = in_path (set_by_path settings)

    -- the table of requests

    among_running : (to : Found) {done : Handle → Turn Told} → ((handle : Handle) → AtMost spared 1 (done handle)) → AtMost spared 1 (requests.among_running k to done)
    unfolding requests.among_running
    among_running (found.Running handle) all = all handle
    among_running found.Nothing all = in_gives
    among_running found.Snapshots all = in_gives
    among_running (found.Within id n) all = in_gives

    of_running : (h : Handle) (operation : OperationValue) → AtMost spared (most_changes operation) (requests.of_running k by node h operation)
    unfolding requests.of_running requests.renames requests.links requests.look_up_running
    of_running h (asked.lookup name) =
        in_looks (in_either _ in_gives (in_path (λ path. looks_for refl (λ e. in_gives) (λ stat. in_path (λ own. tell_entry k own stat)))))
    of_running h (asked.get_attributes handle) = in_looks (tell_attributes k node h)
    of_running h (asked.set_attributes set) = set_attributes h set (setting.settings_of set)
    of_running h asked.read_link = in_looks (in_path (λ path. looks_for refl (λ e. in_either _ in_some in_gives) (λ text. in_gives)))
    of_running h (asked.symbolic_link name text) = makes k by h.number name (λ place. changes_once (λ e. in_gives) (λ d. tell_made k by place))
    of_running h (asked.make_node name mode device umask) =
        in_either _ (makes k by h.number name (λ place. changes_once (λ e. in_gives)
        (λ found. looks_then (enters k by place found.1) (λ made. looks_for refl (λ e. in_gives) (λ d. in_gives))))) in_gives
    of_running h (asked.make_directory name mode umask) = makes k by h.number name (λ place. changes_once (λ e. in_gives) (λ d. tell_made k by place))
    of_running h (asked.unlink name) = remove k by h.number name false
    of_running h (asked.remove_directory name) = remove k by h.number name true
    of_running h (asked.rename name new_parent new_name flags) = looks_then (finds new_parent) (λ to. among_running to (λ new. rename k by h.number name new.number new_name flags))
    of_running h (asked.link name file) =
        looks_then (finds file) (λ of. among_running of (λ old. in_either _ in_gives (in_path (λ path. in_path (λ text. changes_once (λ e. in_gives) (λ d. looks_then in_handle (λ directory. looks_for refl (λ e. in_gives)
        (λ stat. looks_then (tell_entry (making.touched (making.marked_changed k by old) by directory) text stat) (λ told. in_gives)))))))))
    of_running h (asked.open_file flags open_flags) = in_path (λ path. looks_for refl (λ e. in_either _ in_gives in_gives) (λ fd. in_gives))
    of_running h (asked.create name mode umask flags open_flags) =
        makes k by h.number name (λ place. changes_once (λ e. in_gives) (λ found. looks_then (enters k by place found.1) (λ made. in_gives)))
    of_running h (asked.read handle offset size read_flags flags) = in_looks (reads _ offset size MOST_PARTS [] (λ at n. refl))
    of_running h (asked.write handle offset bytes write_flags flags) =
        then_looks (writes (requests.descriptor handle) offset 1 (λ n. n) (λ n. omega arith) (λ step part. counted (counts spared step)) bytes MOST_PARTS 0) (λ told. in_gives)
    of_running h (asked.release handle flags release_flags) = release k node (requests.descriptor handle) (k.removed node)
    of_running h (asked.read_directory handle offset size) = in_looks (list k listing.running h.number _)
    of_running h (asked.read_directory_plus handle offset size) = in_looks (list k listing.running h.number _)
    of_running h (asked.seek handle offset whence) =
        in_looks (in_either _ (in_path (λ path. looks_for refl (λ e. in_either _ (by_size _ (k.removed node)) in_gives) (λ x. in_gives))) in_gives)
    of_running h _ = in_gives

    of_snapshots : (operation : OperationValue) → AtMost spared (most_changes operation) (requests.of_snapshots k operation)
    unfolding requests.of_snapshots snapshots.take_snapshot snapshots.take_noted snapshots.delete
    of_snapshots (asked.lookup name) = in_looks (look_up_snapshot k name)
    of_snapshots (asked.make_directory name mode umask) =
        looks_then in_some (λ found. in_either _ in_gives (in_memory in_gives (changes_once (λ e. in_gives) (λ d. looks_then (look_up_snapshot _ name) (λ told. in_gives)))))
    of_snapshots (asked.remove_directory name) = changes_once (λ e. in_gives) (λ d. in_gives)
    of_snapshots (asked.read_directory handle offset size) = in_looks in_some
    of_snapshots (asked.read_directory_plus handle offset size) = in_looks in_some
    of_snapshots _ = in_gives

    of_removed : (operation : OperationValue) → AtMost spared (most_changes operation) (requests.of_removed k by node operation)
    unfolding requests.of_removed
    of_removed (asked.get_attributes handle) = in_looks (by_size _ (k.removed node))
    of_removed (asked.set_attributes set) = set_removed set (setting.settings_of set)
    of_removed asked.read_link = in_looks in_some
    of_removed (asked.release handle flags release_flags) = release k node (requests.descriptor handle) (k.removed node)
    of_removed _ = in_gives

    of_found : (operation : OperationValue) (what : Found) → AtMost spared (most_changes operation) (requests.of_found k by node operation what)
    unfolding requests.of_found requests.of_within
    of_found operation (found.Running handle) = of_running handle operation
    of_found operation found.Snapshots = of_snapshots operation
    of_found operation (found.Within id n) = in_looks (looks_then in_some (λ seen. in_more (omega arith) (of_seen k n operation seen)))
    of_found operation found.Nothing = of_removed operation

    in_answers : (operation : OperationValue) → AtMost spared (most_changes operation) (requests.answers k by node operation)
    unfolding requests.answers
    in_answers (asked.init major minor max_readahead flags) = in_gives
    in_answers asked.destroy = in_gives
    in_answers (asked.interrupt unique) = in_gives
    in_answers asked.retrieved = in_gives
    in_answers (asked.forget lookups) = looks_then (forgets k node (k.removed node)) (λ known. in_gives)
    in_answers (asked.batch_forget all) = looks_then (forgets_all k all) (λ known. in_gives)
    in_answers asked.stat_file_system = in_looks (looks_then (unasked refl) (λ done. looks_for refl (λ e. in_gives) (λ usage. in_gives)))
    in_answers (asked.open_directory flags open_flags) = in_gives
    in_answers (asked.release_directory handle) = in_gives
    in_answers (asked.sync handle data_only) = in_gives
    in_answers (asked.sync_directory handle data_only) = in_gives
    in_answers (asked.flush handle) = in_gives
    in_answers (asked.access mask) = in_gives
    in_answers (asked.other opcode) = in_gives
    in_answers operation = looks_then (finds node) (of_found operation)

pub changes_are_few : ChangesAreFew
changes_are_few k by node operation = (in_answers {spared = λ step. is_undone step.answer} (λ step. stale_undone step.answer) k by node operation).most

module _ (handle offset : ℕ) (bytes : List ℕ) (write_flags flags : ℕ) where
  abbrev own : OperationValue
  own = asked.write handle offset bytes write_flags flags

  -- its parts, which are spared
  abbrev parts : Step → Bool
  parts step = is_part (requests.descriptor handle) step.asked

  write_found : (k : Known) (by : Asker) (node : ℕ) (what : Found) → AtMost parts 0 (requests.of_found k by node own what)
  unfolding requests.of_found requests.of_running requests.of_snapshots requests.of_removed requests.of_within
  write_found k by node (found.Running h) =
      then_looks (writes (requests.descriptor handle) offset 0 (λ n. 0) (λ n. omega arith) (λ step part. uncounted (spares parts step part)) bytes MOST_PARTS 0) (λ told. in_gives)
  write_found k by node found.Snapshots = in_gives
  write_found k by node (found.Within id n) = in_looks (looks_then in_some (of_seen k n own))
  write_found k by node found.Nothing = in_gives

  write_answers : (k : Known) (by : Asker) (node : ℕ) → AtMost parts 0 (requests.answers k by node own)
  unfolding requests.answers
  write_answers k by node = looks_then (finds node) (write_found k by node)

pub writes_change_by_parts : WritesChangeByParts
writes_change_by_parts k by node handle offset bytes write_flags flags generations steps told did =
    let few = (write_answers handle offset bytes write_flags flags k by node).most generations steps told did in omega arith
