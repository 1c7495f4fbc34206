-- How objects and names are made, step by step.
use Rattle.std.proofs.Common.{◌≡◌, ℕ, ◌==◌, ◌%◌, not, bit_and, Bool, true, false, List, [], Result, Ok, Err, ap, subst, ◌∙◌}
use Rattle.std.proofs.Math.Path.{ap₂}
use Rattle.file_system.specs.declared.file_system.FileSystem.{Ghosts}
use Rattle.file_system.specs.declared.handle.Handle.{Handle}
use Rattle.fuse.specs.declared.attributes.Entry.{Entry}
use Rattle.fuse.specs.declared.open_reply.OpenReply.{OpenReply}
use Rattle.model.specs.declared.command.Command.TheVariants as command
use Rattle.model.specs.declared.command.PathCall.TheVariants as call
use Rattle.model.specs.declared.errno.Errno.{Errno}
use Rattle.model.specs.declared.errno.Errno.TheVariants as errno
use Rattle.model.specs.declared.limits.TheConstants.{OPEN_FILES}
use Rattle.model.specs.declared.reply.Reply.TheVariants as reply
use Rattle.model.specs.declared.reply.Stat.{Stat}
use Rattle.served.specs.Commands.{lstat, opening}
use Rattle.served.specs.Known.{Known, with_marks}
use Rattle.served.specs.Looking.{is_stale, no_memory, tell_entry}
use Rattle.served.specs.Making as spec
use Rattle.served.specs.Making.{Place}
use Rattle.served.specs.Marks.{made}
use Rattle.served.specs.Nodes.{node_of}
use Rattle.served.specs.Setting.{Told, refused}
use Rattle.served.specs.Telling.{attributes_of, entry_of, parts_of_size}
use Rattle.served.specs.Turns.{Turn, ◌▹◌, asks, asks_for, either, gives, handle_now, LeadsFrom, told_done, told_open, Came}
use Rattle.served.specs.declared.answer.Answer.{Answer}
use Rattle.served.specs.declared.answer.Answer.TheVariants as answer
use Rattle.served.specs.declared.making.TheConstants.{EXCLUSIVE, FILE_KIND, KIND_BITS}
use Rattle.served.specs.declared.marks.Asker.{Asker}
use Rattle.served.specs.declared.marks.Marks.{Marks}
use Rattle.served.proofs.TurnLaws.{came_gives, came_given, came_then, came_handle, came_along, came_nowhere, came_done, came_refused, came_then_if, came_else}

-- what is looked at in the directory in which something is to be made
abbrev place_of_directory : Known → Asker → ℕ → List ℕ → Stat → Turn (Result Place Errno)
place_of_directory k asker parent path stat = handle_now parent ▹ (λ handle. gives (Ok (spec.place_in k asker handle path stat.mode)))

abbrev look_at_directory : Known → Asker → ℕ → List ℕ → List ℕ → Turn (Result Place Errno)
look_at_directory k asker parent path directory = asks_for reply.Stat (lstat directory) (λ e. gives (Err e)) (place_of_directory k asker parent path)

module _ {S : Type 0} (G : Ghosts S) where
  pub came_prepared : (old new : S) (k : Known) (asker : Asker) (parent : ℕ) (path text : List ℕ) (stat : Stat) (handle : Handle) (r : Result Place Errno)
      → LeadsFrom parent [] text → Came G old new (asks reply.Stat (lstat text)) (Ok stat) → handle ≡ record { number = parent; generation = G.generations new parent }
      → r ≡ Ok (spec.place_in k asker handle path stat.mode) → Came G old new (spec.prepare_at k asker parent path) r
  came_prepared old new k asker parent path text stat handle r leads asked same is =
      let now : Handle = record { number = parent; generation = G.generations new parent } in
      came_along G old new {R = Result Place Errno} (Err errno.ENOMEM) parent [] text (look_at_directory k asker parent path) r leads
      (came_done G old new new {A = Stat} {R = Result Place Errno} reply.Stat (lstat text) (λ e. gives (Err e)) (place_of_directory k asker parent path) stat r asked
      (came_then G new new new {A = Handle} {B = Result Place Errno} (handle_now parent) (λ h. gives (Ok (spec.place_in k asker h path stat.mode))) now r (came_handle G new parent)
      (came_given G new {R = Result Place Errno} (Ok (spec.place_in k asker now path stat.mode)) r (is ∙ ap (λ (h : Handle). (Ok (spec.place_in k asker h path stat.mode))) same))))

  pub came_unseen : (old new : S) (k : Known) (asker : Asker) (parent : ℕ) (path text : List ℕ) (e : Errno)
      → LeadsFrom parent [] text → Came G old new (asks reply.Stat (lstat text)) (Err e) → Came G old new (spec.prepare_at k asker parent path) (Err e)
  came_unseen old new k asker parent path text e leads asked =
      came_along G old new {R = Result Place Errno} (Err errno.ENOMEM) parent [] text (look_at_directory k asker parent path) (Err e) leads
      (came_refused G old new new {A = Stat} {R = Result Place Errno} reply.Stat (lstat text) (λ e. gives (Err e)) (place_of_directory k asker parent path) e (Err e) asked
      (came_gives G new {R = Result Place Errno} (Err e)))

  pub came_no_directory : (s : S) (k : Known) (asker : Asker) (parent : ℕ) (path : List ℕ) → Came G s s (spec.prepare_at k asker parent path) (Err errno.ENOMEM)
  came_no_directory s k asker parent path = came_nowhere G s {R = Result Place Errno} (Err errno.ENOMEM) parent [] (look_at_directory k asker parent path)

  pub came_prepare : (old new : S) (k : Known) (asker : Asker) (parent : ℕ) (name text : List ℕ) (r : Result Place Errno)
      → LeadsFrom parent name text → Came G old new (spec.prepare_at k asker parent text) r → Came G old new (spec.prepare_named k asker parent name) r
  came_prepare old new k asker parent name text r leads done =
      came_along G old new {R = Result Place Errno} (Err errno.ENOMEM) parent name text (λ path. spec.prepare_at k asker parent path) r leads done

  pub came_no_place : (s : S) (k : Known) (asker : Asker) (parent : ℕ) (name : List ℕ) → Came G s s (spec.prepare_named k asker parent name) (Err errno.ENOMEM)
  came_no_place s k asker parent name = came_nowhere G s {R = Result Place Errno} (Err errno.ENOMEM) parent name (λ path. spec.prepare_at k asker parent path)

-- the entry that is told of an object that was made
abbrev entry_made : Handle → Stat → Marks → Entry
entry_made handle stat marks = entry_of (node_of handle) handle.generation (attributes_of stat.number stat (parts_of_size stat.size) marks)

-- and what is known then
abbrev known_made : Known → Asker → Place → Handle → Marks → Known
known_made k asker place handle marks = spec.touched (with_marks handle marks k) asker place.parent

module _ {S : Type 0} (G : Ghosts S) where
  pub came_enters : (s : S) (k marked known : Known) (asker : Asker) (place : Place) (stat : Stat) (handle : Handle) (marks : Marks) (entry : Entry)
      → handle ≡ record { number = stat.number; generation = G.generations s stat.number } → marks ≡ made asker.uid place.gid asker.now
      → marked ≡ with_marks handle marks k → known ≡ spec.touched marked asker place.parent → entry ≡ entry_made handle stat marks
      → Came G s s (spec.enters k asker place stat) (entry, known)
  came_enters s k marked known asker place stat handle marks entry same are first then told =
      let now : Handle = record { number = stat.number; generation = G.generations s stat.number } in
      let new : Marks = made asker.uid place.gid asker.now in
      let known_now : known ≡ known_made k asker place now new =
      then ∙ ap (λ (known : Known). spec.touched known asker place.parent) first ∙ ap₂ (known_made k asker place) same are in
      let entry_now : entry ≡ entry_made now stat new = told ∙ ap₂ (λ (h : Handle) (m : Marks). entry_made h stat m) same are in
      came_then G s s s {A = Handle} {B = Entry × Known} (handle_now stat.number) (λ h. gives (entry_made h stat new, known_made k asker place h new)) now (entry, known)
      (came_handle G s stat.number)
      (came_given G s {R = Entry × Known} (entry_made now stat new, known_made k asker place now new) (entry, known) (ap₂ (λ (e : Entry) (known : Known). (let pair : Entry × Known = (e, known) in pair)) entry_now known_now))

-- what was made is entered, and its entry is told
abbrev enters_told : Known → Asker → Place → Stat → Turn Told
enters_told k asker place stat = spec.enters k asker place stat ▹ (λ made. gives (answer.Entry made.0, made.1))

-- what is made in a place
abbrev directory_in : Known → Asker → ℕ → Place → Turn Told
directory_in k asker mode place =
    asks_for told_done (command.Path (call.Mkdir place.path (spec.directory_mode mode place.inherits))) (refused k) (λ d. spec.tell_made k asker place)

abbrev link_in : Known → Asker → List ℕ → Place → Turn Told
link_in k asker text place =
    asks_for told_done (command.Path (call.Symlink text place.path)) (refused k) (λ d. spec.tell_made k asker place)

abbrev file_in : Known → Asker → ℕ → Bool → (ℕ → Entry × Known → Turn Told) → Place → Turn Told
file_in k asker mode exclusive rest place =
    asks_for told_open (command.OpenStat place.path (opening true exclusive) (mode % 4096) OPEN_FILES) (refused k) (λ found.
    spec.enters k asker place found.1 ▹ rest found.0)

module _ {S : Type 0} (G : Ghosts S) where
  pub came_tell_made : (old new : S) (k : Known) (asker : Asker) (place : Place) (stat : Stat) (entry : Entry) (known : Known)
      → Came G old new (asks reply.Stat (lstat place.path)) (Ok stat) → Came G new new (spec.enters k asker place stat) (entry, known)
      → Came G old new (spec.tell_made k asker place) (answer.Entry entry, known)
  came_tell_made old new k asker place stat entry known asked enters =
      came_done G old new new {A = Stat} {R = Told} reply.Stat (lstat place.path) (refused k) (enters_told k asker place) stat (answer.Entry entry, known) asked
      (came_then G new new new {A = Entry × Known} {B = Told} (spec.enters k asker place stat) (λ made. gives (answer.Entry made.0, made.1)) (entry, known) (answer.Entry entry, known) enters
      (came_gives G new {R = Told} (answer.Entry entry, known)))

  pub came_made_unseen : (old new : S) (k : Known) (asker : Asker) (place : Place) (e : Errno) → Came G old new (asks reply.Stat (lstat place.path)) (Err e)
      → Came G old new (spec.tell_made k asker place) (answer.Refused e, k)
  came_made_unseen old new k asker place e asked =
      came_refused G old new new {A = Stat} {R = Told} reply.Stat (lstat place.path) (refused k) (enters_told k asker place) e (answer.Refused e, k) asked (came_gives G new {R = Told} (answer.Refused e, k))

  -- it is made in a place, or there is none
  came_in_place : (old mid new : S) (k : Known) (asker : Asker) (parent : ℕ) (name : List ℕ) (made : Place → Turn Told) (place : Place) (r : Told)
      → Came G old mid (spec.prepare k asker parent name) (Ok place) → Came G mid new (made place) r → Came G old new (spec.makes k asker parent name made) r
  came_in_place old mid new k asker parent name made place r first then =
      came_then G old mid new {A = Result Place Errno} {B = Told} (spec.prepare k asker parent name) (λ found. elim found [ Ok place ↦ made place | Err e ↦ refused k e ]) (Ok place) r first then

  came_unplaced : (old new : S) (k : Known) (asker : Asker) (parent : ℕ) (name : List ℕ) (made : Place → Turn Told) (e : Errno)
      → Came G old new (spec.prepare k asker parent name) (Err e) → Came G old new (spec.makes k asker parent name made) (answer.Refused e, k)
  came_unplaced old new k asker parent name made e first =
      came_then G old new new {A = Result Place Errno} {B = Told} (spec.prepare k asker parent name) (λ found. elim found [ Ok place ↦ made place | Err e ↦ refused k e ]) (Err e) (answer.Refused e, k) first (came_gives G new {R = Told} (answer.Refused e, k))

  -- MKDIR
  pub came_directory : (old mid made new : S) (k : Known) (asker : Asker) (parent : ℕ) (name : List ℕ) (mode : ℕ) (place : Place) (r : Told)
      → Came G old mid (spec.prepare k asker parent name) (Ok place)
      → Came G mid made (asks told_done (command.Path (call.Mkdir place.path (spec.directory_mode mode place.inherits)))) (Ok tt)
      → Came G made new (spec.tell_made k asker place) r → Came G old new (spec.make_directory k asker parent name mode) r
  came_directory old mid made new k asker parent name mode place r first asked told =
      came_in_place old mid new k asker parent name (directory_in k asker mode) place r first
      (came_done G mid made new {A = Unit {0}} {R = Told} told_done (command.Path (call.Mkdir place.path (spec.directory_mode mode place.inherits))) (refused k) (λ d. spec.tell_made k asker place) tt r asked told)

  pub came_directory_refused : (old mid new : S) (k : Known) (asker : Asker) (parent : ℕ) (name : List ℕ) (mode : ℕ) (place : Place) (e : Errno)
      → Came G old mid (spec.prepare k asker parent name) (Ok place)
      → Came G mid new (asks told_done (command.Path (call.Mkdir place.path (spec.directory_mode mode place.inherits)))) (Err e)
      → Came G old new (spec.make_directory k asker parent name mode) (answer.Refused e, k)
  came_directory_refused old mid new k asker parent name mode place e first asked =
      came_in_place old mid new k asker parent name (directory_in k asker mode) place (answer.Refused e, k) first
      (came_refused G mid new new {A = Unit {0}} {R = Told} told_done (command.Path (call.Mkdir place.path (spec.directory_mode mode place.inherits))) (refused k) (λ d. spec.tell_made k asker place) e (answer.Refused e, k) asked (came_gives G new {R = Told} (answer.Refused e, k)))

  pub came_directory_unplaced : (old new : S) (k : Known) (asker : Asker) (parent : ℕ) (name : List ℕ) (mode : ℕ) (e : Errno)
      → Came G old new (spec.prepare k asker parent name) (Err e) → Came G old new (spec.make_directory k asker parent name mode) (answer.Refused e, k)
  came_directory_unplaced old new k asker parent name mode e first = came_unplaced old new k asker parent name (directory_in k asker mode) e first

  -- SYMLINK
  pub came_link_made : (old mid made new : S) (k : Known) (asker : Asker) (parent : ℕ) (name text : List ℕ) (place : Place) (r : Told)
      → Came G old mid (spec.prepare k asker parent name) (Ok place)
      → Came G mid made (asks told_done (command.Path (call.Symlink text place.path))) (Ok tt)
      → Came G made new (spec.tell_made k asker place) r → Came G old new (spec.make_link k asker parent name text) r
  came_link_made old mid made new k asker parent name text place r first asked told =
      came_in_place old mid new k asker parent name (link_in k asker text) place r first
      (came_done G mid made new {A = Unit {0}} {R = Told} told_done (command.Path (call.Symlink text place.path)) (refused k) (λ d. spec.tell_made k asker place) tt r asked told)

  pub came_link_refused : (old mid new : S) (k : Known) (asker : Asker) (parent : ℕ) (name text : List ℕ) (place : Place) (e : Errno)
      → Came G old mid (spec.prepare k asker parent name) (Ok place) → Came G mid new (asks told_done (command.Path (call.Symlink text place.path))) (Err e)
      → Came G old new (spec.make_link k asker parent name text) (answer.Refused e, k)
  came_link_refused old mid new k asker parent name text place e first asked =
      came_in_place old mid new k asker parent name (link_in k asker text) place (answer.Refused e, k) first
      (came_refused G mid new new {A = Unit {0}} {R = Told} told_done (command.Path (call.Symlink text place.path)) (refused k) (λ d. spec.tell_made k asker place) e (answer.Refused e, k) asked (came_gives G new {R = Told} (answer.Refused e, k)))

  pub came_link_unplaced : (old new : S) (k : Known) (asker : Asker) (parent : ℕ) (name text : List ℕ) (e : Errno)
      → Came G old new (spec.prepare k asker parent name) (Err e) → Came G old new (spec.make_link k asker parent name text) (answer.Refused e, k)
  came_link_unplaced old new k asker parent name text e first = came_unplaced old new k asker parent name (link_in k asker text) e first

  -- a file that is made and opened
  came_file : (old mid opened new : S) (k : Known) (asker : Asker) (parent : ℕ) (name : List ℕ) (mode : ℕ) (exclusive : Bool) (rest : ℕ → Entry × Known → Turn Told) (place : Place)
      (found : ℕ × Stat) (made : Entry × Known) (r : Told)
      → Came G old mid (spec.prepare k asker parent name) (Ok place)
      → Came G mid opened (asks told_open (command.OpenStat place.path (opening true exclusive) (mode % 4096) OPEN_FILES)) (Ok found)
      → Came G opened opened (spec.enters k asker place found.1) made → Came G opened new (rest found.0 made) r
      → Came G old new (spec.makes_open k asker parent name mode exclusive rest) r
  came_file old mid opened new k asker parent name mode exclusive rest place found made r first asked enters then =
      came_in_place old mid new k asker parent name (file_in k asker mode exclusive rest) place r first
      (came_done G mid opened new {A = ℕ × Stat} {R = Told} told_open (command.OpenStat place.path (opening true exclusive) (mode % 4096) OPEN_FILES) (refused k)
      (λ found. spec.enters k asker place found.1 ▹ rest found.0) found r asked
      (came_then G opened opened new {A = Entry × Known} {B = Told} (spec.enters k asker place found.1) (rest found.0) made r enters then))

  came_file_refused : (old mid new : S) (k : Known) (asker : Asker) (parent : ℕ) (name : List ℕ) (mode : ℕ) (exclusive : Bool) (rest : ℕ → Entry × Known → Turn Told) (place : Place) (e : Errno)
      → Came G old mid (spec.prepare k asker parent name) (Ok place)
      → Came G mid new (asks told_open (command.OpenStat place.path (opening true exclusive) (mode % 4096) OPEN_FILES)) (Err e)
      → Came G old new (spec.makes_open k asker parent name mode exclusive rest) (answer.Refused e, k)
  came_file_refused old mid new k asker parent name mode exclusive rest place e first asked =
      came_in_place old mid new k asker parent name (file_in k asker mode exclusive rest) place (answer.Refused e, k) first
      (came_refused G mid new new {A = ℕ × Stat} {R = Told} told_open (command.OpenStat place.path (opening true exclusive) (mode % 4096) OPEN_FILES) (refused k)
      (λ found. spec.enters k asker place found.1 ▹ rest found.0) e (answer.Refused e, k) asked (came_gives G new {R = Told} (answer.Refused e, k)))

  came_file_unplaced : (old new : S) (k : Known) (asker : Asker) (parent : ℕ) (name : List ℕ) (mode : ℕ) (exclusive : Bool) (rest : ℕ → Entry × Known → Turn Told) (e : Errno)
      → Came G old new (spec.prepare k asker parent name) (Err e) → Came G old new (spec.makes_open k asker parent name mode exclusive rest) (answer.Refused e, k)
  came_file_unplaced old new k asker parent name mode exclusive rest e first = came_unplaced old new k asker parent name (file_in k asker mode exclusive rest) e first

-- a file that was made and opened is told, or closed and told
abbrev created : ℕ → Entry × Known → Turn Told
created fd made = gives (answer.Created made.0 (spec.opened fd), made.1)

abbrev closed : ℕ → Entry × Known → Turn Told
closed fd made = asks_for told_done (command.Close fd) (refused made.1) (λ d. gives (answer.Entry made.0, made.1))

module _ {S : Type 0} (G : Ghosts S) where
  -- CREATE
  pub came_created : (old mid new : S) (k : Known) (asker : Asker) (parent : ℕ) (name : List ℕ) (mode flags : ℕ) (place : Place) (fd : ℕ) (stat : Stat) (entry : Entry) (known : Known) (handle : OpenReply)
      → Came G old mid (spec.prepare k asker parent name) (Ok place)
      → Came G mid new (asks told_open (command.OpenStat place.path (opening true (not (bit_and flags EXCLUSIVE == 0))) (mode % 4096) OPEN_FILES)) (Ok (fd, stat))
      → Came G new new (spec.enters k asker place stat) (entry, known) → handle ≡ spec.opened fd
      → Came G old new (spec.create k asker parent name mode flags) (answer.Created entry handle, known)
  came_created old mid new k asker parent name mode flags place fd stat entry known handle first asked enters is =
      let told : Told = (answer.Created entry handle, known) in
      came_file G old mid new new k asker parent name mode (not (bit_and flags EXCLUSIVE == 0)) created place (fd, stat) (entry, known) told first asked enters
      (came_given G new {R = Told} (answer.Created entry (spec.opened fd), known) told (ap (λ (handle : OpenReply). (let told : Told = (answer.Created entry handle, known) in told)) is))

  pub came_uncreated : (old mid new : S) (k : Known) (asker : Asker) (parent : ℕ) (name : List ℕ) (mode flags : ℕ) (place : Place) (e : Errno)
      → Came G old mid (spec.prepare k asker parent name) (Ok place)
      → Came G mid new (asks told_open (command.OpenStat place.path (opening true (not (bit_and flags EXCLUSIVE == 0))) (mode % 4096) OPEN_FILES)) (Err e)
      → Came G old new (spec.create k asker parent name mode flags) (answer.Refused e, k)
  came_uncreated old mid new k asker parent name mode flags place e first asked =
      came_file_refused G old mid new k asker parent name mode (not (bit_and flags EXCLUSIVE == 0)) created place e first asked

  pub came_create_unplaced : (old new : S) (k : Known) (asker : Asker) (parent : ℕ) (name : List ℕ) (mode flags : ℕ) (e : Errno)
      → Came G old new (spec.prepare k asker parent name) (Err e) → Came G old new (spec.create k asker parent name mode flags) (answer.Refused e, k)
  came_create_unplaced old new k asker parent name mode flags e first = came_file_unplaced G old new k asker parent name mode (not (bit_and flags EXCLUSIVE == 0)) created e first

  -- MKNOD
  came_of_file : (old new : S) (k : Known) (asker : Asker) (parent : ℕ) (name : List ℕ) (mode : ℕ) (r : Told) → (bit_and mode KIND_BITS == FILE_KIND) ≡ true
      → Came G old new (spec.makes_open k asker parent name mode true closed) r → Came G old new (spec.make_node k asker parent name mode) r
  came_of_file old new k asker parent name mode r is done =
      came_then_if G old new {R = Told} (bit_and mode KIND_BITS == FILE_KIND) (spec.makes_open k asker parent name mode true closed) (refused k errno.EPERM) r is done

  pub came_no_file : (s : S) (k : Known) (asker : Asker) (parent : ℕ) (name : List ℕ) (mode : ℕ) → (bit_and mode KIND_BITS == FILE_KIND) ≡ false
      → Came G s s (spec.make_node k asker parent name mode) (answer.Refused errno.EPERM, k)
  came_no_file s k asker parent name mode not =
      came_else G s s {R = Told} (bit_and mode KIND_BITS == FILE_KIND) (spec.makes_open k asker parent name mode true closed) (refused k errno.EPERM) (answer.Refused errno.EPERM, k) not
      (came_gives G s {R = Told} (answer.Refused errno.EPERM, k))

  pub came_node : (old mid opened new : S) (k : Known) (asker : Asker) (parent : ℕ) (name : List ℕ) (mode : ℕ) (place : Place) (fd : ℕ) (stat : Stat) (entry : Entry) (known : Known)
      → (bit_and mode KIND_BITS == FILE_KIND) ≡ true → Came G old mid (spec.prepare k asker parent name) (Ok place)
      → Came G mid opened (asks told_open (command.OpenStat place.path (opening true true) (mode % 4096) OPEN_FILES)) (Ok (fd, stat))
      → Came G opened opened (spec.enters k asker place stat) (entry, known) → Came G opened new (asks told_done (command.Close fd)) (Ok tt)
      → Came G old new (spec.make_node k asker parent name mode) (answer.Entry entry, known)
  came_node old mid opened new k asker parent name mode place fd stat entry known is first asked enters closes =
      let told : Told = (answer.Entry entry, known) in
      came_of_file old new k asker parent name mode told is
      (came_file G old mid opened new k asker parent name mode true closed place (fd, stat) (entry, known) told first asked enters
      (came_done G opened new new {A = Unit {0}} {R = Told} told_done (command.Close fd) (refused known) (λ d. gives told) tt told closes (came_gives G new {R = Told} told)))

  pub came_unclosed : (old mid opened new : S) (k : Known) (asker : Asker) (parent : ℕ) (name : List ℕ) (mode : ℕ) (place : Place) (fd : ℕ) (stat : Stat) (entry : Entry) (known : Known) (e : Errno)
      → (bit_and mode KIND_BITS == FILE_KIND) ≡ true → Came G old mid (spec.prepare k asker parent name) (Ok place)
      → Came G mid opened (asks told_open (command.OpenStat place.path (opening true true) (mode % 4096) OPEN_FILES)) (Ok (fd, stat))
      → Came G opened opened (spec.enters k asker place stat) (entry, known) → Came G opened new (asks told_done (command.Close fd)) (Err e)
      → Came G old new (spec.make_node k asker parent name mode) (answer.Refused e, known)
  came_unclosed old mid opened new k asker parent name mode place fd stat entry known e is first asked enters closes =
      let told : Told = (answer.Entry entry, known) in
      let refusal : Told = (answer.Refused e, known) in
      came_of_file old new k asker parent name mode refusal is
      (came_file G old mid opened new k asker parent name mode true closed place (fd, stat) (entry, known) refusal first asked enters
      (came_refused G opened new new {A = Unit {0}} {R = Told} told_done (command.Close fd) (refused known) (λ d. gives told) e refusal closes (came_gives G new {R = Told} refusal)))

  pub came_node_refused : (old mid new : S) (k : Known) (asker : Asker) (parent : ℕ) (name : List ℕ) (mode : ℕ) (place : Place) (e : Errno)
      → (bit_and mode KIND_BITS == FILE_KIND) ≡ true → Came G old mid (spec.prepare k asker parent name) (Ok place)
      → Came G mid new (asks told_open (command.OpenStat place.path (opening true true) (mode % 4096) OPEN_FILES)) (Err e)
      → Came G old new (spec.make_node k asker parent name mode) (answer.Refused e, k)
  came_node_refused old mid new k asker parent name mode place e is first asked =
      came_of_file old new k asker parent name mode (answer.Refused e, k) is (came_file_refused G old mid new k asker parent name mode true closed place e first asked)

  pub came_node_unplaced : (old new : S) (k : Known) (asker : Asker) (parent : ℕ) (name : List ℕ) (mode : ℕ) (e : Errno)
      → (bit_and mode KIND_BITS == FILE_KIND) ≡ true → Came G old new (spec.prepare k asker parent name) (Err e)
      → Came G old new (spec.make_node k asker parent name mode) (answer.Refused e, k)
  came_node_unplaced old new k asker parent name mode e is first =
      came_of_file old new k asker parent name mode (answer.Refused e, k) is (came_file_unplaced G old new k asker parent name mode true closed e first)

-- what is told of a file that got one more name
abbrev linked : Known → Asker → Handle → List ℕ → Handle → Turn Told
linked k asker file old directory =
    let known : Known = spec.touched (spec.marked_changed k asker file) asker directory in
    asks_for reply.Stat (lstat old) (refused known) (λ stat. tell_entry known old stat ▹ (λ told. gives (told, known)))

abbrev link_from : Known → Asker → Handle → ℕ → List ℕ → List ℕ → Turn Told
link_from k asker file parent path old =
    asks_for told_done (command.Path (call.Link old path)) (refused k) (λ d. spec.tell_linked k asker file parent old)

abbrev known_linked : Known → Asker → Handle → Handle → Known
known_linked k asker file directory = spec.touched (spec.marked_changed k asker file) asker directory

abbrev tells_linked : Known → List ℕ → Stat → Turn Told
tells_linked known old stat = tell_entry known old stat ▹ (λ told. gives (told, known))

module _ {S : Type 0} (G : Ghosts S) where
  -- what is known behind a new name, as the object and the directory are marked
  known_behind : (s : S) (k marked known : Known) (asker : Asker) (file : Handle) (parent : ℕ) (directory : Handle)
      → directory ≡ record { number = parent; generation = G.generations s parent } → marked ≡ spec.marked_changed k asker file → known ≡ spec.touched marked asker directory
      → known ≡ known_linked k asker file (record { number = parent; generation = G.generations s parent })
  known_behind s k marked known asker file parent directory same first then =
      then ∙ ap (λ (known : Known). spec.touched known asker directory) first ∙ ap (λ (h : Handle). known_linked k asker file h) same

  pub came_linked : (old new : S) (k known : Known) (asker : Asker) (file : Handle) (parent : ℕ) (text : List ℕ) (r : Told)
      → known ≡ known_linked k asker file (record { number = parent; generation = G.generations old parent })
      → Came G old new (asks_for {A = Stat} {R = Told} reply.Stat (lstat text) (refused known) (tells_linked known text)) r
      → Came G old new (spec.tell_linked k asker file parent text) r
  came_linked old new k known asker file parent text r is done =
      let now : Handle = record { number = parent; generation = G.generations old parent } in
      came_then G old old new {A = Handle} {B = Told} (handle_now parent) (linked k asker file text) now r (came_handle G old parent)
      (subst (λ (known : Known). Came G old new (asks_for {A = Stat} {R = Told} reply.Stat (lstat text) (refused known) (tells_linked known text)) r) is done)

  pub came_tell_linked : (old mid new : S) (k marked known : Known) (asker : Asker) (file : Handle) (parent : ℕ) (directory : Handle) (text : List ℕ) (stat : Stat) (told : Answer)
      → directory ≡ record { number = parent; generation = G.generations old parent } → marked ≡ spec.marked_changed k asker file → known ≡ spec.touched marked asker directory
      → Came G old mid (asks reply.Stat (lstat text)) (Ok stat) → Came G mid new (tell_entry known text stat) told
      → Came G old new (spec.tell_linked k asker file parent text) (told, known)
  came_tell_linked old mid new k marked known asker file parent directory text stat told same first then asked tells =
      came_linked old new k known asker file parent text (told, known) (known_behind old k marked known asker file parent directory same first then)
      (came_done G old mid new {A = Stat} {R = Told} reply.Stat (lstat text) (refused known) (tells_linked known text) stat (told, known) asked
      (came_then G mid new new {A = Answer} {B = Told} (tell_entry known text stat) (λ told. gives (told, known)) told (told, known) tells (came_gives G new {R = Told} (told, known))))

  pub came_linked_unseen : (old new : S) (k marked known : Known) (asker : Asker) (file : Handle) (parent : ℕ) (directory : Handle) (text : List ℕ) (e : Errno)
      → directory ≡ record { number = parent; generation = G.generations old parent } → marked ≡ spec.marked_changed k asker file → known ≡ spec.touched marked asker directory
      → Came G old new (asks reply.Stat (lstat text)) (Err e) → Came G old new (spec.tell_linked k asker file parent text) (answer.Refused e, known)
  came_linked_unseen old new k marked known asker file parent directory text e same first then asked =
      came_linked old new k known asker file parent text (answer.Refused e, known) (known_behind old k marked known asker file parent directory same first then)
      (came_refused G old new new {A = Stat} {R = Told} reply.Stat (lstat text) (refused known) (tells_linked known text) e (answer.Refused e, known) asked (came_gives G new {R = Told} (answer.Refused e, known)))

  -- LINK at a path
  pub came_link_at : (old mid new : S) (k : Known) (asker : Asker) (file : Handle) (parent : ℕ) (path text : List ℕ) (r : Told)
      → LeadsFrom file.number [] text → Came G old mid (asks told_done (command.Path (call.Link text path))) (Ok tt) → Came G mid new (spec.tell_linked k asker file parent text) r
      → Came G old new (spec.link_at k asker file parent path) r
  came_link_at old mid new k asker file parent path text r leads asked told =
      came_along G old new {R = Told} (no_memory, k) file.number [] text (link_from k asker file parent path) r leads
      (came_done G old mid new {A = Unit {0}} {R = Told} told_done (command.Path (call.Link text path)) (refused k) (λ d. spec.tell_linked k asker file parent text) tt r asked told)

  pub came_link_at_refused : (old new : S) (k : Known) (asker : Asker) (file : Handle) (parent : ℕ) (path text : List ℕ) (e : Errno)
      → LeadsFrom file.number [] text → Came G old new (asks told_done (command.Path (call.Link text path))) (Err e)
      → Came G old new (spec.link_at k asker file parent path) (answer.Refused e, k)
  came_link_at_refused old new k asker file parent path text e leads asked =
      came_along G old new {R = Told} (no_memory, k) file.number [] text (link_from k asker file parent path) (answer.Refused e, k) leads
      (came_refused G old new new {A = Unit {0}} {R = Told} told_done (command.Path (call.Link text path)) (refused k) (λ d. spec.tell_linked k asker file parent text) e (answer.Refused e, k) asked (came_gives G new {R = Told} (answer.Refused e, k)))

  pub came_link_at_nowhere : (s : S) (k : Known) (asker : Asker) (file : Handle) (parent : ℕ) (path : List ℕ) → Came G s s (spec.link_at k asker file parent path) (no_memory, k)
  came_link_at_nowhere s k asker file parent path = came_nowhere G s {R = Told} (no_memory, k) file.number [] (link_from k asker file parent path)

  -- LINK
  pub came_link : (old new : S) (k : Known) (asker : Asker) (file : Handle) (parent : ℕ) (name text : List ℕ) (r : Told)
      → LeadsFrom parent name text → Came G old new (spec.link_at k asker file parent text) r → Came G old new (spec.link_named k asker file parent name) r
  came_link old new k asker file parent name text r leads done =
      came_along G old new {R = Told} (no_memory, k) parent name text (λ path. spec.link_at k asker file parent path) r leads done

  pub came_link_nowhere : (s : S) (k : Known) (asker : Asker) (file : Handle) (parent : ℕ) (name : List ℕ) → Came G s s (spec.link_named k asker file parent name) (no_memory, k)
  came_link_nowhere s k asker file parent name = came_nowhere G s {R = Told} (no_memory, k) parent name (λ path. spec.link_at k asker file parent path)

-- a file is opened by a path; what is done where that is refused
abbrev unopened : Known → ℕ → Errno → Turn Told
unopened k node e = either (is_stale e) (gives (spec.open_removed k node)) (refused k e)

abbrev open_by : Known → ℕ → List ℕ → Turn Told
open_by k node path =
    asks_for reply.Fd (command.Open path (opening false false) 0 OPEN_FILES) (unopened k node) (λ fd. gives (answer.Opened (spec.opened fd), k))

module _ {S : Type 0} (G : Ghosts S) (k : Known) (node number : ℕ) where
  -- OPEN
  pub came_opened : (old new : S) (text : List ℕ) (fd : ℕ) (handle : OpenReply) → LeadsFrom number [] text
      → Came G old new (asks reply.Fd (command.Open text (opening false false) 0 OPEN_FILES)) (Ok fd) → handle ≡ spec.opened fd
      → Came G old new (spec.open_file k node number) (answer.Opened handle, k)
  came_opened old new text fd handle leads asked is =
      let told : Told = (answer.Opened handle, k) in
      came_along G old new {R = Told} (no_memory, k) number [] text (open_by k node) told leads
      (came_done G old new new {A = ℕ} {R = Told} reply.Fd (command.Open text (opening false false) 0 OPEN_FILES) (unopened k node) (λ fd. gives (answer.Opened (spec.opened fd), k)) fd told asked
      (came_given G new {R = Told} (answer.Opened (spec.opened fd), k) told (ap (λ (handle : OpenReply). (let told : Told = (answer.Opened handle, k) in told)) is)))

  unopened_so : (old new : S) (text : List ℕ) (e : Errno) (r : Told) → LeadsFrom number [] text
      → Came G old new (asks reply.Fd (command.Open text (opening false false) 0 OPEN_FILES)) (Err e) → Came G new new (unopened k node e) r → Came G old new (spec.open_file k node number) r
  unopened_so old new text e r leads asked then =
      came_along G old new {R = Told} (no_memory, k) number [] text (open_by k node) r leads
      (came_refused G old new new {A = ℕ} {R = Told} reply.Fd (command.Open text (opening false false) 0 OPEN_FILES) (unopened k node) (λ fd. gives (answer.Opened (spec.opened fd), k)) e r asked then)

  pub came_open_stale : (old new : S) (text : List ℕ) (e : Errno) (r : Told) → LeadsFrom number [] text
      → Came G old new (asks reply.Fd (command.Open text (opening false false) 0 OPEN_FILES)) (Err e) → is_stale e ≡ true → r ≡ spec.open_removed k node
      → Came G old new (spec.open_file k node number) r
  came_open_stale old new text e r leads asked stale is =
      unopened_so old new text e r leads asked
      (came_then_if G new new {R = Told} (is_stale e) (gives (spec.open_removed k node)) (refused k e) r stale (came_given G new {R = Told} (spec.open_removed k node) r is))

  pub came_unopened : (old new : S) (text : List ℕ) (e : Errno) → LeadsFrom number [] text
      → Came G old new (asks reply.Fd (command.Open text (opening false false) 0 OPEN_FILES)) (Err e) → is_stale e ≡ false → Came G old new (spec.open_file k node number) (answer.Refused e, k)
  came_unopened old new text e leads asked other =
      unopened_so old new text e (answer.Refused e, k) leads asked
      (came_else G new new {R = Told} (is_stale e) (gives (spec.open_removed k node)) (refused k e) (answer.Refused e, k) other (came_gives G new {R = Told} (answer.Refused e, k)))

  pub came_open_nowhere : (s : S) → Came G s s (spec.open_file k node number) (no_memory, k)
  came_open_nowhere s = came_nowhere G s {R = Told} (no_memory, k) number [] (open_by k node)
