-- How names are taken away and moved, step by step.
use Rattle.std.proofs.Common.{◌≡◌, ℕ, Bool, true, false, List, Option, Some, None, Result, Ok, Err, ap, subst, ◌∙◌}
use Rattle.file_system.specs.declared.file_system.FileSystem.{Ghosts}
use Rattle.file_system.specs.declared.handle.Handle.{Handle}
use Rattle.model.specs.declared.command.Command.TheVariants as command
use Rattle.model.specs.declared.errno.Errno.{Errno}
use Rattle.model.specs.declared.reply.Reply.TheVariants as reply
use Rattle.model.specs.declared.reply.Stat.{Stat}
use Rattle.served.specs.Commands.{lstat, moving, removing}
use Rattle.served.specs.Keeping.{remembers}
use Rattle.served.specs.Known.{Known}
use Rattle.served.specs.Looking.{no_memory}
use Rattle.served.specs.Making.{marked_changed, touched}
use Rattle.served.specs.Removing as spec
use Rattle.served.specs.Setting.{Told, refused}
use Rattle.served.specs.Turns.{Turn, ◌▹◌, asks, asks_for, either, gives, handle_now, LeadsFrom, told_done, Came}
use Rattle.served.specs.declared.answer.Answer.TheVariants as answer
use Rattle.served.specs.declared.marks.Asker.{Asker}
use Rattle.served.proofs.TurnLaws.{came_gives, came_given, came_then, came_handle, came_along, came_nowhere, came_done, came_refused, came_then_if, came_else}

module _ {S : Type 0} (G : Ghosts S) where
  pub came_touches : (s : S) (k known : Known) (asker : Asker) (parent : ℕ) (directory : Handle) → directory ≡ record { number = parent; generation = G.generations s parent }
      → known ≡ touched k asker directory → Came G s s (spec.touches k asker parent) known
  came_touches s k known asker parent directory same is =
      let now : Handle = record { number = parent; generation = G.generations s parent } in
      came_then G s s s {A = Handle} {B = Known} (handle_now parent) (λ directory. gives (touched k asker directory)) now known (came_handle G s parent)
      (came_given G s {R = Known} (touched k asker now) known (is ∙ ap (λ (h : Handle). touched k asker h) same))

-- a name was taken away, and its directory is touched
abbrev taken : Known → Asker → ℕ → Turn Told
taken behind asker parent = spec.touches behind asker parent ▹ (λ known. gives (answer.Done, known))

module _ {S : Type 0} (G : Ghosts S) where
  came_taken : (old new : S) (behind known : Known) (refusal : Errno → Turn Told) (asker : Asker) (parent : ℕ) (path : List ℕ) (is_directory : Bool)
      → Came G old new (asks told_done (command.Path (removing path is_directory))) (Ok tt) → Came G new new (spec.touches behind asker parent) known
      → Came G old new (spec.takes_away behind refusal asker parent path is_directory) (answer.Done, known)
  came_taken old new behind known refusal asker parent path is_directory asked touches =
      came_done G old new new {A = Unit {0}} {R = Told} told_done (command.Path (removing path is_directory)) refusal (λ d. taken behind asker parent) tt (answer.Done, known) asked
      (came_then G new new new {A = Known} {B = Told} (spec.touches behind asker parent) (λ known. gives (answer.Done, known)) known (answer.Done, known) touches
      (came_gives G new {R = Told} (answer.Done, known)))

  came_untaken : (old mid new : S) (behind : Known) (refusal : Errno → Turn Told) (asker : Asker) (parent : ℕ) (path : List ℕ) (is_directory : Bool) (e : Errno) (r : Told)
      → Came G old mid (asks told_done (command.Path (removing path is_directory))) (Err e) → Came G mid new (refusal e) r
      → Came G old new (spec.takes_away behind refusal asker parent path is_directory) r
  came_untaken old mid new behind refusal asker parent path is_directory e r asked then =
      came_refused G old mid new {A = Unit {0}} {R = Told} told_done (command.Path (removing path is_directory)) refusal (λ d. taken behind asker parent) e r asked then

-- an object was remembered, or wasn't
abbrev goes_on : Handle → (Known → (Errno → Turn Told) → Turn Told) → Result (Option ℕ) Errno × Known → Turn Told
goes_on handle does found = elim found.0 [
  | Ok held ↦ does found.1 (spec.stays found.1 handle held)
  | Err e ↦ refused found.1 e
]

module _ {S : Type 0} (G : Ghosts S) (k : Known) (asker : Asker) (handle : Handle) (path : List ℕ) (stat : Stat) (does : Known → (Errno → Turn Told) → Turn Told) where
  came_goes : (old mid new : S) (held : Option ℕ) (known : Known) (r : Told) → Came G old mid (remembers k asker handle path stat) (Ok held, known)
      → Came G mid new (does known (spec.stays known handle held)) r → Came G old new (spec.goes k asker handle path stat does) r
  came_goes old mid new held known r first then =
      came_then G old mid new {A = Result (Option ℕ) Errno × Known} {B = Told} (remembers k asker handle path stat) (goes_on handle does) (Ok held, known) r first then

  came_lost : (old new : S) (known : Known) (e : Errno) → Came G old new (remembers k asker handle path stat) (Err e, known)
      → Came G old new (spec.goes k asker handle path stat does) (answer.Refused e, known)
  came_lost old new known e first =
      came_then G old new new {A = Result (Option ℕ) Errno × Known} {B = Told} (remembers k asker handle path stat) (goes_on handle does) (Err e, known) (answer.Refused e, known) first
      (came_gives G new {R = Told} (answer.Refused e, known))

module _ {S : Type 0} (G : Ghosts S) where
  module _ (k : Known) (asker : Asker) (parent : ℕ) (path : List ℕ) (is_directory : Bool) (handle : Handle) (stat : Stat) where
    pub came_removed_last : (old mid new : S) (held : Option ℕ) (kept known : Known) → Came G old mid (remembers k asker handle path stat) (Ok held, kept)
        → Came G mid new (asks told_done (command.Path (removing path is_directory))) (Ok tt) → Came G new new (spec.touches kept asker parent) known
        → Came G old new (spec.remove_last k asker parent path is_directory handle stat) (answer.Done, known)
    came_removed_last old mid new held kept known first asked touches =
        came_goes G k asker handle path stat (λ known stay. spec.takes_away known stay asker parent path is_directory) old mid new held kept (answer.Done, known) first
        (came_taken G mid new kept known (spec.stays kept handle held) asker parent path is_directory asked touches)

    pub came_last_refused : (old mid behind new : S) (held : Option ℕ) (kept : Known) (e : Errno) (r : Told) → Came G old mid (remembers k asker handle path stat) (Ok held, kept)
        → Came G mid behind (asks told_done (command.Path (removing path is_directory))) (Err e) → Came G behind new (spec.stays kept handle held e) r
        → Came G old new (spec.remove_last k asker parent path is_directory handle stat) r
    came_last_refused old mid behind new held kept e r first asked stays =
        came_goes G k asker handle path stat (λ known stay. spec.takes_away known stay asker parent path is_directory) old mid new held kept r first
        (came_untaken G mid behind new kept (spec.stays kept handle held) asker parent path is_directory e r asked stays)

    pub came_last_lost : (old new : S) (known : Known) (e : Errno) → Came G old new (remembers k asker handle path stat) (Err e, known)
        → Came G old new (spec.remove_last k asker parent path is_directory handle stat) (answer.Refused e, known)
    came_last_lost old new known e first =
        came_lost G k asker handle path stat (λ known stay. spec.takes_away known stay asker parent path is_directory) old new known e first

  pub came_removed_one : (old new : S) (k marked known : Known) (asker : Asker) (parent : ℕ) (path : List ℕ) (is_directory : Bool) (handle : Handle)
      → Came G old new (asks told_done (command.Path (removing path is_directory))) (Ok tt) → marked ≡ marked_changed k asker handle
      → Came G new new (spec.touches marked asker parent) known → Came G old new (spec.remove_one k asker parent path is_directory handle) (answer.Done, known)
  came_removed_one old new k marked known asker parent path is_directory handle asked is touches =
      came_taken G old new (marked_changed k asker handle) known (refused k) asker parent path is_directory asked
      (subst (λ (marked : Known). Came G new new (spec.touches marked asker parent) known) is touches)

  pub came_one_refused : (old new : S) (k : Known) (asker : Asker) (parent : ℕ) (path : List ℕ) (is_directory : Bool) (handle : Handle) (e : Errno)
      → Came G old new (asks told_done (command.Path (removing path is_directory))) (Err e) → Came G old new (spec.remove_one k asker parent path is_directory handle) (answer.Refused e, k)
  came_one_refused old new k asker parent path is_directory handle e asked =
      came_untaken G old new new (marked_changed k asker handle) (refused k) asker parent path is_directory e (answer.Refused e, k) asked (came_gives G new {R = Told} (answer.Refused e, k))

-- an object whose name is taken away, by its handle
abbrev removes : Known → Asker → ℕ → List ℕ → Bool → Stat → Handle → Turn Told
removes k asker parent path is_directory stat handle =
    either (spec.goes_with_name stat) (spec.remove_last k asker parent path is_directory handle stat) (spec.remove_one k asker parent path is_directory handle)

-- what has a path, whose name is taken away
abbrev removes_at : Known → Asker → ℕ → Bool → List ℕ → Turn Told
removes_at k asker parent is_directory path =
    asks_for reply.Stat (lstat path) (refused k) (λ stat. spec.remove_seen k asker parent path is_directory stat)

module _ {S : Type 0} (G : Ghosts S) where
  came_by_handle : (old new : S) (k : Known) (asker : Asker) (parent : ℕ) (path : List ℕ) (is_directory : Bool) (stat : Stat) (handle : Handle) (r : Told)
      → handle ≡ record { number = stat.number; generation = G.generations old stat.number } → Came G old new (removes k asker parent path is_directory stat handle) r
      → Came G old new (spec.remove_seen k asker parent path is_directory stat) r
  came_by_handle old new k asker parent path is_directory stat handle r same came =
      let now : Handle = record { number = stat.number; generation = G.generations old stat.number } in
      came_then G old old new {A = Handle} {B = Told} (handle_now stat.number) (removes k asker parent path is_directory stat) now r (came_handle G old stat.number)
      (subst (λ (h : Handle). Came G old new (removes k asker parent path is_directory stat h) r) same came)

  pub came_seen_last : (old new : S) (k : Known) (asker : Asker) (parent : ℕ) (path : List ℕ) (is_directory : Bool) (stat : Stat) (handle : Handle) (r : Told)
      → handle ≡ record { number = stat.number; generation = G.generations old stat.number } → spec.goes_with_name stat ≡ true
      → Came G old new (spec.remove_last k asker parent path is_directory handle stat) r → Came G old new (spec.remove_seen k asker parent path is_directory stat) r
  came_seen_last old new k asker parent path is_directory stat handle r same goes came =
      came_by_handle old new k asker parent path is_directory stat handle r same
      (came_then_if G old new {R = Told} (spec.goes_with_name stat) (spec.remove_last k asker parent path is_directory handle stat) (spec.remove_one k asker parent path is_directory handle) r goes came)

  pub came_seen_one : (old new : S) (k : Known) (asker : Asker) (parent : ℕ) (path : List ℕ) (is_directory : Bool) (stat : Stat) (handle : Handle) (r : Told)
      → handle ≡ record { number = stat.number; generation = G.generations old stat.number } → spec.goes_with_name stat ≡ false
      → Came G old new (spec.remove_one k asker parent path is_directory handle) r → Came G old new (spec.remove_seen k asker parent path is_directory stat) r
  came_seen_one old new k asker parent path is_directory stat handle r same goes came =
      came_by_handle old new k asker parent path is_directory stat handle r same
      (came_else G old new {R = Told} (spec.goes_with_name stat) (spec.remove_last k asker parent path is_directory handle stat) (spec.remove_one k asker parent path is_directory handle) r goes came)

  -- UNLINK and RMDIR
  pub came_remove : (old mid new : S) (k : Known) (asker : Asker) (parent : ℕ) (name text : List ℕ) (is_directory : Bool) (stat : Stat) (r : Told) → LeadsFrom parent name text
      → Came G old mid (asks reply.Stat (lstat text)) (Ok stat) → Came G mid new (spec.remove_seen k asker parent text is_directory stat) r
      → Came G old new (spec.remove_named k asker parent name is_directory) r
  came_remove old mid new k asker parent name text is_directory stat r leads asked came =
      came_along G old new {R = Told} (no_memory, k) parent name text (removes_at k asker parent is_directory) r leads
      (came_done G old mid new {A = Stat} {R = Told} reply.Stat (lstat text) (refused k) (λ stat. spec.remove_seen k asker parent text is_directory stat) stat r asked came)

  pub came_remove_unseen : (old new : S) (k : Known) (asker : Asker) (parent : ℕ) (name text : List ℕ) (is_directory : Bool) (e : Errno) → LeadsFrom parent name text
      → Came G old new (asks reply.Stat (lstat text)) (Err e) → Came G old new (spec.remove_named k asker parent name is_directory) (answer.Refused e, k)
  came_remove_unseen old new k asker parent name text is_directory e leads asked =
      came_along G old new {R = Told} (no_memory, k) parent name text (removes_at k asker parent is_directory) (answer.Refused e, k) leads
      (came_refused G old new new {A = Stat} {R = Told} reply.Stat (lstat text) (refused k) (λ stat. spec.remove_seen k asker parent text is_directory stat) e (answer.Refused e, k) asked
      (came_gives G new {R = Told} (answer.Refused e, k)))

  pub came_remove_nowhere : (s : S) (k : Known) (asker : Asker) (parent : ℕ) (name : List ℕ) (is_directory : Bool) → Came G s s (spec.remove_named k asker parent name is_directory) (no_memory, k)
  came_remove_nowhere s k asker parent name is_directory = came_nowhere G s {R = Told} (no_memory, k) parent name (removes_at k asker parent is_directory)

module _ {S : Type 0} (G : Ghosts S) where
  -- what moved is marked
  pub came_marks : (s : S) (k marked behind known : Known) (asker : Asker) (moved : Stat) (parent new_parent : ℕ) (handle : Handle)
      → handle ≡ record { number = moved.number; generation = G.generations s moved.number } → marked ≡ marked_changed k asker handle
      → Came G s s (spec.touches marked asker parent) behind → Came G s s (spec.touches behind asker new_parent) known
      → Came G s s (spec.marks_moved k asker moved parent new_parent) known
  came_marks s k marked behind known asker moved parent new_parent handle same is first then =
      let now : Handle = record { number = moved.number; generation = G.generations s moved.number } in
      came_then G s s s {A = Handle} {B = Known} (handle_now moved.number) (λ h. spec.touches (marked_changed k asker h) asker parent ▹ (λ known. spec.touches known asker new_parent)) now known
      (came_handle G s moved.number)
      (came_then G s s s {A = Known} {B = Known} (spec.touches (marked_changed k asker now) asker parent) (λ known. spec.touches known asker new_parent) behind known
      (subst (λ (marked : Known). Came G s s (spec.touches marked asker parent) behind) (is ∙ ap (λ (h : Handle). marked_changed k asker h) same) first) then)

-- what moved is marked, and it is told so
abbrev moved_told : Known → Asker → Stat → ℕ → ℕ → Turn Told
moved_told k asker moved parent new_parent = spec.marks_moved k asker moved parent new_parent ▹ (λ known. gives (answer.Done, known))

module _ {S : Type 0} (G : Ghosts S) where
  came_name : (old new : S) (k known : Known) (refusal : Errno → Turn Told) (asker : Asker) (moved : Stat) (parent new_parent flags : ℕ) (path new_path : List ℕ)
      → Came G old new (asks told_done (command.Path (moving flags path new_path))) (Ok tt) → Came G new new (spec.marks_moved k asker moved parent new_parent) known
      → Came G old new (spec.moves_name k refusal asker moved parent new_parent flags path new_path) (answer.Done, known)
  came_name old new k known refusal asker moved parent new_parent flags path new_path asked marks =
      came_done G old new new {A = Unit {0}} {R = Told} told_done (command.Path (moving flags path new_path)) refusal (λ d. moved_told k asker moved parent new_parent) tt (answer.Done, known) asked
      (came_then G new new new {A = Known} {B = Told} (spec.marks_moved k asker moved parent new_parent) (λ known. gives (answer.Done, known)) known (answer.Done, known) marks
      (came_gives G new {R = Told} (answer.Done, known)))

  came_no_name : (old mid new : S) (k : Known) (refusal : Errno → Turn Told) (asker : Asker) (moved : Stat) (parent new_parent flags : ℕ) (path new_path : List ℕ) (e : Errno) (r : Told)
      → Came G old mid (asks told_done (command.Path (moving flags path new_path))) (Err e) → Came G mid new (refusal e) r
      → Came G old new (spec.moves_name k refusal asker moved parent new_parent flags path new_path) r
  came_no_name old mid new k refusal asker moved parent new_parent flags path new_path e r asked then =
      came_refused G old mid new {A = Unit {0}} {R = Told} told_done (command.Path (moving flags path new_path)) refusal (λ d. moved_told k asker moved parent new_parent) e r asked then

  pub came_moved : (old new : S) (k known : Known) (asker : Asker) (moved : Stat) (parent new_parent flags : ℕ) (path new_path : List ℕ)
      → Came G old new (asks told_done (command.Path (moving flags path new_path))) (Ok tt) → Came G new new (spec.marks_moved k asker moved parent new_parent) known
      → Came G old new (spec.moves k asker moved parent new_parent flags path new_path) (answer.Done, known)
  came_moved old new k known asker moved parent new_parent flags path new_path asked marks = came_name old new k known (refused k) asker moved parent new_parent flags path new_path asked marks

  pub came_unmoved : (old new : S) (k : Known) (asker : Asker) (moved : Stat) (parent new_parent flags : ℕ) (path new_path : List ℕ) (e : Errno)
      → Came G old new (asks told_done (command.Path (moving flags path new_path))) (Err e) → Came G old new (spec.moves k asker moved parent new_parent flags path new_path) (answer.Refused e, k)
  came_unmoved old new k asker moved parent new_parent flags path new_path e asked =
      came_no_name old new new k (refused k) asker moved parent new_parent flags path new_path e (answer.Refused e, k) asked (came_gives G new {R = Told} (answer.Refused e, k))

-- a name is moved over an object, by its handle
abbrev moves_over_by : Known → Asker → Stat → Stat → ℕ → ℕ → ℕ → List ℕ → List ℕ → Handle → Turn Told
moves_over_by k asker over moved parent new_parent flags path new_path handle =
    spec.goes k asker handle new_path over (λ known stay. spec.moves_name known stay asker moved parent new_parent flags path new_path)

module _ {S : Type 0} (G : Ghosts S) (k : Known) (asker : Asker) (over moved : Stat) (parent new_parent flags : ℕ) (path new_path : List ℕ) (handle : Handle) where
  came_over : (old new : S) (r : Told) → handle ≡ record { number = over.number; generation = G.generations old over.number }
      → Came G old new (moves_over_by k asker over moved parent new_parent flags path new_path handle) r → Came G old new (spec.moves_over k asker over moved parent new_parent flags path new_path) r
  came_over old new r same came =
      let now : Handle = record { number = over.number; generation = G.generations old over.number } in
      came_then G old old new {A = Handle} {B = Told} (handle_now over.number) (moves_over_by k asker over moved parent new_parent flags path new_path) now r (came_handle G old over.number)
      (subst (λ (h : Handle). Came G old new (moves_over_by k asker over moved parent new_parent flags path new_path h) r) same came)

  pub came_moved_over : (old mid new : S) (held : Option ℕ) (kept known : Known) → handle ≡ record { number = over.number; generation = G.generations old over.number }
      → Came G old mid (remembers k asker handle new_path over) (Ok held, kept)
      → Came G mid new (asks told_done (command.Path (moving flags path new_path))) (Ok tt) → Came G new new (spec.marks_moved kept asker moved parent new_parent) known
      → Came G old new (spec.moves_over k asker over moved parent new_parent flags path new_path) (answer.Done, known)
  came_moved_over old mid new held kept known same first asked marks =
      came_over old new (answer.Done, known) same
      (came_goes G k asker handle new_path over (λ known stay. spec.moves_name known stay asker moved parent new_parent flags path new_path) old mid new held kept (answer.Done, known) first
      (came_name G mid new kept known (spec.stays kept handle held) asker moved parent new_parent flags path new_path asked marks))

  pub came_over_refused : (old mid behind new : S) (held : Option ℕ) (kept : Known) (e : Errno) (r : Told) → handle ≡ record { number = over.number; generation = G.generations old over.number }
      → Came G old mid (remembers k asker handle new_path over) (Ok held, kept)
      → Came G mid behind (asks told_done (command.Path (moving flags path new_path))) (Err e) → Came G behind new (spec.stays kept handle held e) r
      → Came G old new (spec.moves_over k asker over moved parent new_parent flags path new_path) r
  came_over_refused old mid behind new held kept e r same first asked stays =
      came_over old new r same
      (came_goes G k asker handle new_path over (λ known stay. spec.moves_name known stay asker moved parent new_parent flags path new_path) old mid new held kept r first
      (came_no_name G mid behind new kept (spec.stays kept handle held) asker moved parent new_parent flags path new_path e r asked stays))

  pub came_over_lost : (old new : S) (known : Known) (e : Errno) → handle ≡ record { number = over.number; generation = G.generations old over.number }
      → Came G old new (remembers k asker handle new_path over) (Err e, known)
      → Came G old new (spec.moves_over k asker over moved parent new_parent flags path new_path) (answer.Refused e, known)
  came_over_lost old new known e same first =
      came_over old new (answer.Refused e, known) same
      (came_lost G k asker handle new_path over (λ known stay. spec.moves_name known stay asker moved parent new_parent flags path new_path) old new known e first)

-- what is done by what has the new name
abbrev renames : Known → Asker → Stat → ℕ → ℕ → ℕ → List ℕ → List ℕ → Result (Option Stat) Errno → Turn Told
renames k asker moved parent new_parent flags path new_path found = elim found [
  | Err e ↦ refused k e
  | Ok over ↦ elim over [
    | None ↦ spec.moves k asker moved parent new_parent flags path new_path
    | Some stat ↦ spec.moves_over k asker stat moved parent new_parent flags path new_path
  ]
]

abbrev renames_at : Known → Asker → ℕ → ℕ → ℕ → List ℕ → List ℕ → Turn Told
renames_at k asker parent new_parent flags path new_path =
    asks_for reply.Stat (lstat path) (refused k) (λ moved. spec.rename_seen k asker moved parent new_parent flags path new_path)

module _ {S : Type 0} (G : Ghosts S) where
  came_by_found : (old mid new : S) (k : Known) (asker : Asker) (moved : Stat) (parent new_parent flags : ℕ) (path new_path : List ℕ) (found : Result (Option Stat) Errno) (r : Told)
      → Came G old mid (spec.replaced moved new_path) found → Came G mid new (renames k asker moved parent new_parent flags path new_path found) r
      → Came G old new (spec.rename_seen k asker moved parent new_parent flags path new_path) r
  came_by_found old mid new k asker moved parent new_parent flags path new_path found r first then =
      came_then G old mid new {A = Result (Option Stat) Errno} {B = Told} (spec.replaced moved new_path) (renames k asker moved parent new_parent flags path new_path) found r first then

  pub came_renamed : (old mid new : S) (k : Known) (asker : Asker) (moved : Stat) (parent new_parent flags : ℕ) (path new_path : List ℕ) (over is : Option Stat) (r : Told) → over ≡ is
      → Came G old mid (spec.replaced moved new_path) (Ok over) → Came G mid new (renames k asker moved parent new_parent flags path new_path (Ok is)) r
      → Came G old new (spec.rename_seen k asker moved parent new_parent flags path new_path) r
  came_renamed old mid new k asker moved parent new_parent flags path new_path over is r same first then =
      came_by_found old mid new k asker moved parent new_parent flags path new_path (Ok is) r
      (subst (λ (o : Option Stat). Came G old mid {R = Result (Option Stat) Errno} (spec.replaced moved new_path) (Ok o)) same first) then

  pub came_renamed_refused : (old new : S) (k : Known) (asker : Asker) (moved : Stat) (parent new_parent flags : ℕ) (path new_path : List ℕ) (e : Errno)
      → Came G old new (spec.replaced moved new_path) (Err e) → Came G old new (spec.rename_seen k asker moved parent new_parent flags path new_path) (answer.Refused e, k)
  came_renamed_refused old new k asker moved parent new_parent flags path new_path e first =
      came_by_found old new new k asker moved parent new_parent flags path new_path (Err e) (answer.Refused e, k) first (came_gives G new {R = Told} (answer.Refused e, k))

  pub came_rename_from : (old mid new : S) (k : Known) (asker : Asker) (parent new_parent : ℕ) (new_name : List ℕ) (flags : ℕ) (path text : List ℕ) (moved : Stat) (r : Told)
      → LeadsFrom new_parent new_name text → Came G old mid (asks reply.Stat (lstat path)) (Ok moved)
      → Came G mid new (spec.rename_seen k asker moved parent new_parent flags path text) r → Came G old new (spec.rename_from k asker parent new_parent new_name flags path) r
  came_rename_from old mid new k asker parent new_parent new_name flags path text moved r leads asked then =
      came_along G old new {R = Told} (no_memory, k) new_parent new_name text (renames_at k asker parent new_parent flags path) r leads
      (came_done G old mid new {A = Stat} {R = Told} reply.Stat (lstat path) (refused k) (λ moved. spec.rename_seen k asker moved parent new_parent flags path text) moved r asked then)

  pub came_rename_unseen : (old new : S) (k : Known) (asker : Asker) (parent new_parent : ℕ) (new_name : List ℕ) (flags : ℕ) (path text : List ℕ) (e : Errno)
      → LeadsFrom new_parent new_name text → Came G old new (asks reply.Stat (lstat path)) (Err e)
      → Came G old new (spec.rename_from k asker parent new_parent new_name flags path) (answer.Refused e, k)
  came_rename_unseen old new k asker parent new_parent new_name flags path text e leads asked =
      came_along G old new {R = Told} (no_memory, k) new_parent new_name text (renames_at k asker parent new_parent flags path) (answer.Refused e, k) leads
      (came_refused G old new new {A = Stat} {R = Told} reply.Stat (lstat path) (refused k) (λ moved. spec.rename_seen k asker moved parent new_parent flags path text) e (answer.Refused e, k) asked
      (came_gives G new {R = Told} (answer.Refused e, k)))

  pub came_rename_from_nowhere : (s : S) (k : Known) (asker : Asker) (parent new_parent : ℕ) (new_name : List ℕ) (flags : ℕ) (path : List ℕ)
      → Came G s s (spec.rename_from k asker parent new_parent new_name flags path) (no_memory, k)
  came_rename_from_nowhere s k asker parent new_parent new_name flags path =
      came_nowhere G s {R = Told} (no_memory, k) new_parent new_name (renames_at k asker parent new_parent flags path)

  -- RENAME and RENAME2
  pub came_rename : (old new : S) (k : Known) (asker : Asker) (parent : ℕ) (name : List ℕ) (new_parent : ℕ) (new_name : List ℕ) (flags : ℕ) (text : List ℕ) (r : Told)
      → LeadsFrom parent name text → Came G old new (spec.rename_from k asker parent new_parent new_name flags text) r
      → Came G old new (spec.rename_named k asker parent name new_parent new_name flags) r
  came_rename old new k asker parent name new_parent new_name flags text r leads came =
      came_along G old new {R = Told} (no_memory, k) parent name text (λ path. spec.rename_from k asker parent new_parent new_name flags path) r leads came

  pub came_rename_nowhere : (s : S) (k : Known) (asker : Asker) (parent : ℕ) (name : List ℕ) (new_parent : ℕ) (new_name : List ℕ) (flags : ℕ)
      → Came G s s (spec.rename_named k asker parent name new_parent new_name flags) (no_memory, k)
  came_rename_nowhere s k asker parent name new_parent new_name flags =
      came_nowhere G s {R = Told} (no_memory, k) parent name (λ path. spec.rename_from k asker parent new_parent new_name flags path)
