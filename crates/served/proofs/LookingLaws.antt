-- How requests come about that look at the running tree.
use Rattle.std.proofs.Common.{◌≡◌, ◌<◌, ℕ, pos, FitsSigned, w64, true, false, nat_lt, ◌^◌, List, arith, [], Result, Ok, Err}
use Rattle.std.proofs.lemmas.Bool.Decides.{nat_tests}
use Rattle.file_system.specs.declared.file_system.FileSystem.{Ghosts}
use Rattle.file_system.specs.declared.handle.Handle.{Handle}
use Rattle.model.specs.declared.command.Command.{Command}
use Rattle.model.specs.declared.command.Command.TheVariants as command
use Rattle.model.specs.declared.command.PathCall.TheVariants as call
use Rattle.model.specs.declared.errno.Errno.{Errno}
use Rattle.model.specs.declared.reply.Extent.{Extent}
use Rattle.model.specs.declared.reply.Reply.TheVariants as reply
use Rattle.model.specs.declared.reply.Stat.{Stat}
use Rattle.model.specs.declared.reply.Usage.{Usage}
use Rattle.model.specs.declared.text.Text.{Text}
use Rattle.served.specs.Commands.{lstat}
use Rattle.served.specs.Known.{Known, marks_at}
use Rattle.served.specs.Looking.{ReadsRemoved, found, is_stale, look_up, missing, no_memory, read_link, seek, seek_removed, space_told, stored_parts, tell_attributes, tell_entry, tell_number, tell_removed, tell_space}
use Rattle.served.specs.Telling.{attributes_of}
use Rattle.served.specs.Turns.{Turn, ◌▹◌, asks, asks_for, either, gives, gives_some, told_done, with_path, LeadsFrom, Came}
use Rattle.served.specs.declared.answer.Answer.{Answer}
use Rattle.served.specs.declared.answer.Answer.TheVariants as answer
use Rattle.served.proofs.TurnLaws.{came_gives, came_given, came_some, came_then, came_along, came_nowhere, came_done, came_refused, came_then_if, came_else, came_done_along, came_refused_along}

-- an offset that a call can have, and one that it can't
pub near : (n : ℕ) → FitsSigned w64 (pos n) → nat_lt n (2 ^ 63) ≡ true
near n fits = let below : n < 2 ^ 63 = omega arith in grind (arith, nat_tests)

pub far : (n : ℕ) → (FitsSigned w64 (pos n) → ⊥) → nat_lt n (2 ^ 63) ≡ false
far n not_fits = grind (arith, nat_tests)

module _ {S : Type 0} (G : Ghosts S) where
  -- an entry by its number
  pub tell_number-nowhere : (s : S) (k : Known) (stat : Stat) → Came G s s (tell_number k stat) no_memory
  tell_number-nowhere s k stat = came_nowhere G s no_memory stat.number [] (λ path. tell_entry k path stat)

  pub tell_number-told : (old new : S) (k : Known) (stat : Stat) (text : List ℕ) (r : Answer) → LeadsFrom stat.number [] text → Came G old new (tell_entry k text stat) r
      → Came G old new (tell_number k stat) r
  tell_number-told old new k stat text r leads told = came_along G old new no_memory stat.number [] text (λ path. tell_entry k path stat) r leads told

  -- a name
  pub look_up-nowhere : (s : S) (k : Known) (parent : ℕ) (name : List ℕ) → Came G s s (look_up k parent name) no_memory
  look_up-nowhere s k parent name = came_nowhere G s no_memory parent name (λ path. asks_for reply.Stat (lstat path) (λ e. gives (missing e)) (tell_number k))

  pub look_up-told : (old mid new : S) (k : Known) (parent : ℕ) (name text : List ℕ) (command : Command) (stat : Stat) (r : Answer) → LeadsFrom parent name text → command ≡ lstat text
      → Came G old mid (asks reply.Stat command) (Ok stat) → Came G mid new (tell_number k stat) r → Came G old new (look_up k parent name) r
  look_up-told old mid new k parent name text command stat r leads is first told =
      came_done_along G old mid new no_memory parent name text reply.Stat lstat command (λ e. gives (missing e)) (λ path. tell_number k) stat r leads is first told

  pub look_up-refused : (old new : S) (k : Known) (parent : ℕ) (name text : List ℕ) (command : Command) (errno : Errno) (r : Answer) → LeadsFrom parent name text → command ≡ lstat text
      → Came G old new (asks reply.Stat command) (Err errno) → r ≡ missing errno → Came G old new (look_up k parent name) r
  look_up-refused old new k parent name text command errno r leads is first same =
      came_refused_along G old new new no_memory parent name text reply.Stat lstat command (λ e. gives (missing e)) (λ path. tell_number k) errno r leads is first
      (came_given G new (missing errno) r same)

  -- attributes
  pub tell_attributes-nowhere : (s : S) (k : Known) (node : ℕ) (handle : Handle) → Came G s s (tell_attributes k node handle) no_memory
  tell_attributes-nowhere s k node handle = came_nowhere G s no_memory handle.number [] (λ path.
      asks_for reply.Stat (lstat path) (λ e. either (is_stale e) (tell_removed k node) (gives (answer.Refused e)))
      (λ stat. stored_parts path stat ▹ (λ parts. gives (answer.Attributes (attributes_of stat.number stat parts (marks_at k handle))))))

  pub tell_attributes-told : (old mid new : S) (k : Known) (node : ℕ) (handle : Handle) (text : List ℕ) (command : Command) (stat : Stat) (parts : ℕ) (r : Answer) → LeadsFrom handle.number [] text
      → command ≡ lstat text → Came G old mid (asks reply.Stat command) (Ok stat) → Came G mid new (stored_parts text stat) parts
      → r ≡ answer.Attributes (attributes_of stat.number stat parts (marks_at k handle)) → Came G old new (tell_attributes k node handle) r
  tell_attributes-told old mid new k node handle text command stat parts r leads is first stored same =
      came_done_along G old mid new no_memory handle.number [] text reply.Stat lstat command (λ e. either (is_stale e) (tell_removed k node) (gives (answer.Refused e)))
      (λ path s. stored_parts path s ▹ (λ p. gives (answer.Attributes (attributes_of s.number s p (marks_at k handle))))) stat r leads is first
      (came_then G mid new new (stored_parts text stat) (λ p. gives (answer.Attributes (attributes_of stat.number stat p (marks_at k handle)))) parts r stored (came_given G new _ r same))

  attributes_refused : (old mid new : S) (k : Known) (node : ℕ) (handle : Handle) (text : List ℕ) (command : Command) (errno : Errno) (r : Answer) → LeadsFrom handle.number [] text
      → command ≡ lstat text → Came G old mid (asks reply.Stat command) (Err errno) → Came G mid new (either (is_stale errno) (tell_removed k node) (gives (answer.Refused errno))) r
      → Came G old new (tell_attributes k node handle) r
  attributes_refused old mid new k node handle text command errno r leads is first then =
      came_refused_along G old mid new no_memory handle.number [] text reply.Stat lstat command (λ e. either (is_stale e) (tell_removed k node) (gives (answer.Refused e)))
      (λ path s. stored_parts path s ▹ (λ p. gives (answer.Attributes (attributes_of s.number s p (marks_at k handle))))) errno r leads is first then

  pub tell_attributes-stale : (old mid new : S) (k : Known) (node : ℕ) (handle : Handle) (text : List ℕ) (command : Command) (errno : Errno) (r : Answer) → LeadsFrom handle.number [] text
      → command ≡ lstat text → Came G old mid (asks reply.Stat command) (Err errno) → is_stale errno ≡ true → Came G mid new (tell_removed k node) r
      → Came G old new (tell_attributes k node handle) r
  tell_attributes-stale old mid new k node handle text command errno r leads is first stale told =
      attributes_refused old mid new k node handle text command errno r leads is first
      (came_then_if G mid new (is_stale errno) (tell_removed k node) (gives (answer.Refused errno)) r stale told)

  pub tell_attributes-refused : (old new : S) (k : Known) (node : ℕ) (handle : Handle) (text : List ℕ) (command : Command) (errno : Errno) → LeadsFrom handle.number [] text
      → command ≡ lstat text → Came G old new (asks reply.Stat command) (Err errno) → is_stale errno ≡ false → Came G old new (tell_attributes k node handle) (answer.Refused errno)
  tell_attributes-refused old new k node handle text command errno leads is first other =
      attributes_refused old new new k node handle text command errno (answer.Refused errno) leads is first
      (came_else G new new (is_stale errno) (tell_removed k node) (gives (answer.Refused errno)) (answer.Refused errno) other (came_gives G new (answer.Refused errno)))

-- what is done where the text of a link is refused, and where the extent of a file is
abbrev unread : Known → ℕ → Errno → Turn Answer
unread k node e = either (is_stale e) (gives_some (ReadsRemoved k node)) (gives (answer.Refused e))

abbrev unsought : Known → ℕ → ℕ → ℕ → Errno → Turn Answer
unsought k node offset whence e = either (is_stale e) (seek_removed k node offset whence) (gives (answer.Refused e))

-- the file is asked from an offset on, if a call can have it
abbrev seeks : Known → ℕ → ℕ → ℕ → ℕ → Turn Answer
seeks k node number offset whence = with_path no_memory number [] (λ path.
    asks_for reply.Extent (command.Extent path (pos offset)) (unsought k node offset whence) (λ x. gives (found x whence)))

module _ {S : Type 0} (G : Ghosts S) where
  -- the text of a link
  module _ (k : Known) (node number : ℕ) where
    pub read_link-nowhere : (s : S) → Came G s s (read_link k node number) no_memory
    read_link-nowhere s = came_nowhere G s no_memory number [] (λ path. asks_for reply.Text (command.Path (call.Readlink path)) (unread k node) (λ text. gives (answer.Bytes text)))

    pub read_link-told : (old new : S) (path : List ℕ) (asked : Command) (text : Text) → LeadsFrom number [] path → asked ≡ command.Path (call.Readlink path)
        → Came G old new (asks reply.Text asked) (Ok text) → Came G old new (read_link k node number) (answer.Bytes text)
    read_link-told old new path asked text leads is first =
        came_done_along G old new new no_memory number [] path reply.Text (λ p. command.Path (call.Readlink p)) asked (unread k node) (λ p t. gives (answer.Bytes t))
        text (answer.Bytes text) leads is first (came_gives G new (answer.Bytes text))

    unread_so : (old new : S) (path : List ℕ) (asked : Command) (errno : Errno) (r : Answer) → LeadsFrom number [] path → asked ≡ command.Path (call.Readlink path)
        → Came G old new (asks reply.Text asked) (Err errno) → Came G new new (unread k node errno) r → Came G old new (read_link k node number) r
    unread_so old new path asked errno r leads is first then =
        came_refused_along G old new new no_memory number [] path reply.Text (λ p. command.Path (call.Readlink p)) asked (unread k node) (λ p t. gives (answer.Bytes t))
        errno r leads is first then

    pub read_link-stale : (old new : S) (path : List ℕ) (asked : Command) (errno : Errno) (r : Answer) → LeadsFrom number [] path → asked ≡ command.Path (call.Readlink path)
        → Came G old new (asks reply.Text asked) (Err errno) → is_stale errno ≡ true → ReadsRemoved k node r → Came G old new (read_link k node number) r
    read_link-stale old new path asked errno r leads is first stale reads =
        unread_so old new path asked errno r leads is first
        (came_then_if G new new (is_stale errno) (gives_some (ReadsRemoved k node)) (gives (answer.Refused errno)) r stale (came_some G new (ReadsRemoved k node) r reads))

    pub read_link-refused : (old new : S) (path : List ℕ) (asked : Command) (errno : Errno) → LeadsFrom number [] path → asked ≡ command.Path (call.Readlink path)
        → Came G old new (asks reply.Text asked) (Err errno) → is_stale errno ≡ false → Came G old new (read_link k node number) (answer.Refused errno)
    read_link-refused old new path asked errno leads is first other =
        unread_so old new path asked errno (answer.Refused errno) leads is first
        (came_else G new new (is_stale errno) (gives_some (ReadsRemoved k node)) (gives (answer.Refused errno)) (answer.Refused errno) other (came_gives G new (answer.Refused errno)))

  -- a place in a file
  module _ (k : Known) (node number offset whence : ℕ) where
    pub seek-far : (s : S) → nat_lt offset (2 ^ 63) ≡ false → Came G s s (seek k node number offset whence) answer.NothingBehind
    seek-far s is =
        came_else G s s (nat_lt offset (2 ^ 63)) (seeks k node number offset whence) (gives answer.NothingBehind) answer.NothingBehind is (came_gives G s answer.NothingBehind)

    near_told : (old new : S) (r : Answer) → nat_lt offset (2 ^ 63) ≡ true → Came G old new (seeks k node number offset whence) r → Came G old new (seek k node number offset whence) r
    near_told old new r is told = came_then_if G old new (nat_lt offset (2 ^ 63)) (seeks k node number offset whence) (gives answer.NothingBehind) r is told

    pub seek-nowhere : (s : S) → nat_lt offset (2 ^ 63) ≡ true → Came G s s (seek k node number offset whence) no_memory
    seek-nowhere s is = near_told s s no_memory is (came_nowhere G s no_memory number [] (λ path.
        asks_for reply.Extent (command.Extent path (pos offset)) (unsought k node offset whence) (λ x. gives (found x whence))))

    pub seek-told : (old new : S) (path : List ℕ) (asked : Command) (extent : Extent) (r : Answer) → nat_lt offset (2 ^ 63) ≡ true → LeadsFrom number [] path
        → asked ≡ command.Extent path (pos offset) → Came G old new (asks reply.Extent asked) (Ok extent) → r ≡ found extent whence → Came G old new (seek k node number offset whence) r
    seek-told old new path asked extent r is leads same first place =
        near_told old new r is
        (came_done_along G old new new no_memory number [] path reply.Extent (λ p. command.Extent p (pos offset)) asked (unsought k node offset whence) (λ p x. gives (found x whence)) extent r leads
        same first (came_given G new (found extent whence) r place))

    unsought_so : (old mid new : S) (path : List ℕ) (asked : Command) (errno : Errno) (r : Answer) → nat_lt offset (2 ^ 63) ≡ true → LeadsFrom number [] path
        → asked ≡ command.Extent path (pos offset) → Came G old mid (asks reply.Extent asked) (Err errno) → Came G mid new (unsought k node offset whence errno) r
        → Came G old new (seek k node number offset whence) r
    unsought_so old mid new path asked errno r is leads same first then =
        near_told old new r is
        (came_refused_along G old mid new no_memory number [] path reply.Extent (λ p. command.Extent p (pos offset)) asked (unsought k node offset whence) (λ p x. gives (found x whence)) errno
        r leads same first then)

    pub seek-stale : (old mid new : S) (path : List ℕ) (asked : Command) (errno : Errno) (r : Answer) → nat_lt offset (2 ^ 63) ≡ true → LeadsFrom number [] path
        → asked ≡ command.Extent path (pos offset) → Came G old mid (asks reply.Extent asked) (Err errno) → is_stale errno ≡ true → Came G mid new (seek_removed k node offset whence) r
        → Came G old new (seek k node number offset whence) r
    seek-stale old mid new path asked errno r is leads same first stale told =
        unsought_so old mid new path asked errno r is leads same first
        (came_then_if G mid new (is_stale errno) (seek_removed k node offset whence) (gives (answer.Refused errno)) r stale told)

    pub seek-refused : (old new : S) (path : List ℕ) (asked : Command) (errno : Errno) → nat_lt offset (2 ^ 63) ≡ true → LeadsFrom number [] path
        → asked ≡ command.Extent path (pos offset) → Came G old new (asks reply.Extent asked) (Err errno) → is_stale errno ≡ false
        → Came G old new (seek k node number offset whence) (answer.Refused errno)
    seek-refused old new path asked errno is leads same first other =
        unsought_so old new new path asked errno (answer.Refused errno) is leads same first
        (came_else G new new (is_stale errno) (seek_removed k node offset whence) (gives (answer.Refused errno)) (answer.Refused errno) other (came_gives G new (answer.Refused errno)))

module _ {S : Type 0} (G : Ghosts S) where
  -- the whole file system
  pub tell_space-told : (old mid new : S) (synced : Result (Unit {0}) Errno) (usage : Usage) (r : Answer) → Came G old mid (asks told_done command.Sync) synced
      → Came G mid new (asks reply.Usage command.Statfs) (Ok usage) → r ≡ answer.Space (space_told usage) → Came G old new tell_space r
  tell_space-told old mid new synced usage r first then same =
      came_then G old mid new (asks told_done command.Sync)
      (λ s. asks_for reply.Usage command.Statfs (λ e. gives (answer.Refused e)) (λ u. gives (answer.Space (space_told u)))) synced r first
      (came_done G mid new new reply.Usage command.Statfs (λ e. gives (answer.Refused e)) (λ u. gives (answer.Space (space_told u))) usage r then
      (came_given G new (answer.Space (space_told usage)) r same))

  pub tell_space-refused : (old mid new : S) (synced : Result (Unit {0}) Errno) (errno : Errno) → Came G old mid (asks told_done command.Sync) synced
      → Came G mid new (asks reply.Usage command.Statfs) (Err errno) → Came G old new tell_space (answer.Refused errno)
  tell_space-refused old mid new synced errno first then =
      came_then G old mid new (asks told_done command.Sync)
      (λ s. asks_for reply.Usage command.Statfs (λ e. gives (answer.Refused e)) (λ u. gives (answer.Space (space_told u)))) synced (answer.Refused errno) first
      (came_refused G mid new new reply.Usage command.Statfs (λ e. gives (answer.Refused e)) (λ u. gives (answer.Space (space_told u))) errno (answer.Refused errno) then
      (came_gives G new (answer.Refused errno)))
