-- How requests come about that set attributes.
use Rattle.std.proofs.Common.{◌≡◌, ℕ, true, false, ◌||◌, is_some, List, [], Some, Result, Ok, Err, sym, subst}
use Rattle.file_system.specs.declared.file_system.FileSystem.{Ghosts}
use Rattle.file_system.specs.declared.handle.Handle.{Handle}
use Rattle.fuse.specs.declared.attribute_changes.AttributeChanges.{AttributeChanges}
use Rattle.model.specs.declared.command.Command.{Command}
use Rattle.model.specs.declared.command.Command.TheVariants as command
use Rattle.model.specs.declared.command.PathCall.TheVariants as call
use Rattle.model.specs.declared.command.Settings.{Settings}
use Rattle.model.specs.declared.errno.Errno.{Errno}
use Rattle.served.specs.Known.{Known, marks_at, with_marks, with_removed}
use Rattle.served.specs.Looking.{is_stale, no_memory, tell_attributes, tell_removed}
use Rattle.served.specs.Marks.{marks_set}
use Rattle.served.specs.Setting.{Told, cut_removed, keep_removed, mark_set, refused, removed_set, set_attributes, set_attributes_by, set_by_path, set_gone, set_marks, set_removed, settings_of}
use Rattle.served.specs.Turns.{Turn, ◌▹◌, asks, asks_for, either, gives, told_done, LeadsFrom, Came}
use Rattle.served.specs.declared.answer.Answer.{Answer}
use Rattle.served.specs.declared.answer.Answer.TheVariants as answer
use Rattle.served.specs.declared.marks.Asker.{Asker}
use Rattle.served.specs.declared.memory.Removed.{Removed}
use Rattle.served.proofs.TurnLaws.{came_gives, came_then, came_along, came_nowhere, came_done, came_refused, came_then_if, came_else}

module _ {S : Type 0} (G : Ghosts S) where
  -- a removed object is kept
  pub keep_removed-kept : (old new : S) (k known : Known) (node : ℕ) (removed : Removed) (r : Answer) → known ≡ with_removed node removed k → Came G old new (tell_removed known node) r
      → Came G old new (keep_removed k node removed) (r, known)
  keep_removed-kept old new k known node removed r same told =
      let tells : Known → Turn Told = λ x. tell_removed x node ▹ (λ t. gives (t, x)) in
      let came : Came G old new (tells known) (r, known) = came_then G old new new (tell_removed known node) (λ t. gives (t, known)) r (r, known) told (came_gives G new (r, known)) in
      subst (λ (x : Known). Came G old new (tells x) (r, known)) same came

  -- a removed object is set
  pub set_gone-set : (old mid new : S) (k : Known) (asker : Asker) (node : ℕ) (changes : AttributeChanges) (settings : Settings) (removed kept : Removed) (done : Unit {0}) (r : Told)
      → Came G old mid (cut_removed removed.held settings.size) (Ok done) → kept ≡ removed_set removed changes settings asker → Came G mid new (keep_removed k node kept) r
      → Came G old new (set_gone k asker node changes settings (Some removed)) r
  set_gone-set old mid new k asker node changes settings removed kept done r first same came =
      came_then G old mid new (cut_removed removed.held settings.size) (λ d. elim d [ Ok x ↦ keep_removed k node (removed_set removed changes settings asker) | Err e ↦ refused k e ]) (Ok done) r first
      (subst (λ (x : Removed). Came G mid new (keep_removed k node x) r) same came)

  pub set_gone-refused : (old new : S) (k : Known) (asker : Asker) (node : ℕ) (changes : AttributeChanges) (settings : Settings) (removed : Removed) (errno : Errno)
      → Came G old new (cut_removed removed.held settings.size) (Err errno) → Came G old new (set_gone k asker node changes settings (Some removed)) (answer.Refused errno, k)
  set_gone-refused old new k asker node changes settings removed errno first =
      came_then G old new new (cut_removed removed.held settings.size) (λ d. elim d [ Ok x ↦ keep_removed k node (removed_set removed changes settings asker) | Err e ↦ refused k e ]) (Err errno)
      (answer.Refused errno, k) first (came_gives G new (answer.Refused errno, k))

  -- marks are set
  pub mark_set-set : (old new : S) (k known : Known) (asker : Asker) (node : ℕ) (handle : Handle) (changes : AttributeChanges) (r : Answer)
      → known ≡ with_marks handle (marks_set changes asker.now (marks_at k handle)) k → Came G old new (tell_attributes known node handle) r
      → Came G old new (mark_set k asker node handle changes) (r, known)
  mark_set-set old new k known asker node handle changes r same told =
      let tells : Known → Turn Told = λ x. tell_attributes x node handle ▹ (λ t. gives (t, x)) in
      let came : Came G old new (tells known) (r, known) = came_then G old new new (tell_attributes known node handle) (λ t. gives (t, known)) r (r, known) told (came_gives G new (r, known)) in
      subst (λ (x : Known). Came G old new (tells x) (r, known)) same came

  -- by a path
  module _ (k : Known) (asker : Asker) (node : ℕ) (handle : Handle) (changes : AttributeChanges) (settings : Settings) (path : List ℕ) where
    pub set_by_path-nothing : (old new : S) (r : Told) → (is_some settings.mode || is_some settings.size) ≡ false → Came G old new (set_marks k asker node handle changes) r
        → Came G old new (set_by_path k asker node handle changes settings path) r
    set_by_path-nothing old new r not came =
        came_else G old new (is_some settings.mode || is_some settings.size)
        (asks_for told_done (command.Path (call.Set path settings)) (λ e. either (is_stale e) (set_removed k asker node changes) (refused k e)) (λ d. mark_set k asker node handle changes))
        (set_marks k asker node handle changes) r not came

    asked : (old new : S) (r : Told) → (is_some settings.mode || is_some settings.size) ≡ true
        → Came G old new (asks_for told_done (command.Path (call.Set path settings)) (λ e. either (is_stale e) (set_removed k asker node changes) (refused k e))
        (λ d. mark_set k asker node handle changes)) r
        → Came G old new (set_by_path k asker node handle changes settings path) r
    asked old new r is came =
        came_then_if G old new (is_some settings.mode || is_some settings.size)
        (asks_for told_done (command.Path (call.Set path settings)) (λ e. either (is_stale e) (set_removed k asker node changes) (refused k e)) (λ d. mark_set k asker node handle changes))
        (set_marks k asker node handle changes) r is came

    pub set_by_path-set : (old mid new : S) (sent : Command) (done : Unit {0}) (r : Told) → (is_some settings.mode || is_some settings.size) ≡ true → sent ≡ command.Path (call.Set path settings)
        → Came G old mid (asks told_done sent) (Ok done) → Came G mid new (mark_set k asker node handle changes) r → Came G old new (set_by_path k asker node handle changes settings path) r
    set_by_path-set old mid new sent done r is same first came =
        asked old new r is
        (came_done G old mid new told_done (command.Path (call.Set path settings)) (λ e. either (is_stale e) (set_removed k asker node changes) (refused k e))
        (λ d. mark_set k asker node handle changes) done r (subst (λ (x : Command). Came G old mid (asks told_done x) (Ok done)) same first) came)

    other : (old mid new : S) (sent : Command) (errno : Errno) (r : Told) → (is_some settings.mode || is_some settings.size) ≡ true → sent ≡ command.Path (call.Set path settings)
        → Came G old mid (asks told_done sent) (Err errno) → Came G mid new (either (is_stale errno) (set_removed k asker node changes) (refused k errno)) r
        → Came G old new (set_by_path k asker node handle changes settings path) r
    other old mid new sent errno r is same first came =
        asked old new r is
        (came_refused G old mid new told_done (command.Path (call.Set path settings)) (λ e. either (is_stale e) (set_removed k asker node changes) (refused k e))
        (λ d. mark_set k asker node handle changes) errno r (subst (λ (x : Command). Came G old mid (asks told_done x) (Err errno)) same first) came)

    pub set_by_path-stale : (old mid new : S) (sent : Command) (errno : Errno) (r : Told) → (is_some settings.mode || is_some settings.size) ≡ true → sent ≡ command.Path (call.Set path settings)
        → Came G old mid (asks told_done sent) (Err errno) → is_stale errno ≡ true → Came G mid new (set_removed k asker node changes) r
        → Came G old new (set_by_path k asker node handle changes settings path) r
    set_by_path-stale old mid new sent errno r is same first stale came =
        other old mid new sent errno r is same first (came_then_if G mid new (is_stale errno) (set_removed k asker node changes) (refused k errno) r stale came)

    pub set_by_path-refused : (old new : S) (sent : Command) (errno : Errno) → (is_some settings.mode || is_some settings.size) ≡ true → sent ≡ command.Path (call.Set path settings)
        → Came G old new (asks told_done sent) (Err errno) → is_stale errno ≡ false → Came G old new (set_by_path k asker node handle changes settings path) (answer.Refused errno, k)
    set_by_path-refused old new sent errno is same first not =
        other old new new sent errno (answer.Refused errno, k) is same first
        (came_else G new new (is_stale errno) (set_removed k asker node changes) (refused k errno) (answer.Refused errno, k) not (came_gives G new (answer.Refused errno, k)))

  -- attributes are set
  pub set_attributes-refused : (s : S) (k : Known) (asker : Asker) (node : ℕ) (handle : Handle) (changes : AttributeChanges) (errno : Errno) → settings_of changes ≡ Err errno
      → Came G s s (set_attributes k asker node handle changes) (answer.Refused errno, k)
  set_attributes-refused s k asker node handle changes errno is =
      subst (λ (o : Result Settings Errno). Came G s s (set_attributes_by k asker node handle changes o) (answer.Refused errno, k)) (sym is) (came_gives G s (answer.Refused errno, k))

  pub set_attributes-nowhere : (s : S) (k : Known) (asker : Asker) (node : ℕ) (handle : Handle) (changes : AttributeChanges) (settings : Settings) → settings_of changes ≡ Ok settings
      → Came G s s (set_attributes k asker node handle changes) (no_memory, k)
  set_attributes-nowhere s k asker node handle changes settings is =
      subst (λ (o : Result Settings Errno). Came G s s (set_attributes_by k asker node handle changes o) (no_memory, k)) (sym is)
      (came_nowhere G s (no_memory, k) handle.number [] (set_by_path k asker node handle changes settings))

  pub set_attributes-set : (old new : S) (k : Known) (asker : Asker) (node : ℕ) (handle : Handle) (changes : AttributeChanges) (settings : Settings) (text : List ℕ) (r : Told)
      → settings_of changes ≡ Ok settings → LeadsFrom handle.number [] text → Came G old new (set_by_path k asker node handle changes settings text) r
      → Came G old new (set_attributes k asker node handle changes) r
  set_attributes-set old new k asker node handle changes settings text r is leads came =
      subst (λ (o : Result Settings Errno). Came G old new (set_attributes_by k asker node handle changes o) r) (sym is)
      (came_along G old new (no_memory, k) handle.number [] text (set_by_path k asker node handle changes settings) r leads came)
