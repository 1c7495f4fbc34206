-- The numbers in use behind each call come from before, or are such as it may give.
use Rattle.std.proofs.Common.{◌≡◌, inr, ℕ, ℤ, pos, ◌+◌, List, [], ◌∷◌, ◌++◌, length, Bool, true, false, not, ◌&&◌, ◌||◌, is_none, is_some, Option, Some, None, refl, sym, subst}
use Rattle.std.specs.Prelude.{◌==◌, if◌then◌else◌, ◌+ℤ◌, nat_abs, nat_le, nat_lt, min}
use Rattle.model.specs.declared.limits.TheConstants.{ENTRIES_TOLD, GREATEST_OFFSET, OPEN_FILES}
use Rattle.model.specs.declared.errno.Errno.TheVariants.{ENOENT, ENOTDIR, EISDIR, EEXIST, EINVAL, EPERM, EBUSY, EBADF, EMFILE, EMLINK, ENOTEMPTY, EFBIG, EOVERFLOW}
use Rattle.model.specs.declared.reply.Reply.TheVariants as reply
use Rattle.model.specs.Attributes.{set_modified, set_owners}
use Rattle.model.specs.declared.attributes.Attributes.{Attributes}
use Rattle.model.specs.declared.attributes.Permissions.{Permissions}
use Rattle.model.specs.declared.command.Flags.{Flags}
use Rattle.model.specs.declared.command.NewTime.{NewTime}
use Rattle.model.specs.declared.command.Settings.{Settings}
use Rattle.model.specs.declared.command.Whence.{Whence}
use Rattle.model.specs.declared.limits.Limits.{Limits}
use Rattle.model.specs.Paths.{Name, Path, text_tests, text_tests_then, new_text_tests, is_empty, is_root_text, path_eq}
use Rattle.model.specs.Trees.{Tree, Object, directory, symlink, file, is_directory, Description, number_of_object}
use Rattle.model.specs.Edits.{changing_attributes, contents, marked, number_at_path, resized, written, read_at, with_object, without_object, with_mode, with_bytes, with_descriptor, with_directory, with_symlink, with_file, moved}
use Rattle.model.specs.Touches.{Touches, touches_entry, touches_move, touches_object}
use Rattle.model.specs.declared.attributes.Touch.{Touch}
use Rattle.model.specs.declared.attributes.Touch.TheVariants.{Data, Status}
use Rattle.model.specs.declared.time.Time.{Time}
use Rattle.model.specs.Resolution.{parent}
use Rattle.model.specs.Room.{Need, nothing, logs, adds_name, puts_bytes, removes_name}
use Rattle.model.specs.Outcomes.{Outcome, refuses, goes_along, IsFresh, lowest_free}
use Rattle.model.specs.Reading as reading
use Rattle.model.specs.Changing as changing
use Rattle.model.specs.Descriptors as descriptors
use Rattle.model.proofs.LeadLemmas.{all_passed}
use Rattle.handles.proofs.ComeLemmas.{Comes, AllCome, GivesOnly, come_same, come_placed, come_taken, come_marked, come_moved, come_opened, come_moved_offset, come_resized, gives_same, gives_refused, gives_changed, gives_swept, gives_tested, gives_either, gives_names, gives_place, gives_fresh, gives_links, gives_never, gives_described, gives_by_kind, gives_along, gives_at}

module _ (limits : Limits) (now : Option Time) (t : Tree) (Given : ℕ → Type 0) where
  -- the calls that change nothing

  gives_tells : (o : Object) → GivesOnly t Given (reading.tells_stat t o)
  gives_tells o = gives_links t Given t o _ (λ links. gives_same t Given _)

  pub gives_stat : (follow : Bool) (path : List ℕ) → GivesOnly t Given (reading.stats limits t follow path)
  gives_stat follow path = gives_at t Given (text_tests limits path) follow path _ (λ p o comes. gives_tells o)

  gives_told : (o : Object) → GivesOnly t Given (reading.tells_attributes t o)
  gives_told o = gives_links t Given t o _ (λ links. gives_same t Given _)

  pub gives_attr : (follow : Bool) (path : List ℕ) → GivesOnly t Given (reading.attributes limits t follow path)
  gives_attr follow path = gives_at t Given (reading.attribute_tests limits ++ text_tests limits path) follow path _ (λ p o comes. gives_told o)

  pub gives_list : (path : List ℕ) → GivesOnly t Given (reading.lists limits t path)
  gives_list path =
      gives_at t Given (text_tests limits path) true path _ (λ p o comes. gives_by_kind t Given o _ _ _ (λ n. gives_names t Given p _ (λ names. gives_same t Given _)) (λ n text. gives_refused t Given ENOTDIR) (λ n is. gives_refused t Given ENOTDIR))

  pub gives_entries : (path : List ℕ) (after : ℤ) (count : ℕ) → GivesOnly t Given (reading.tells_entries limits t path after count)
  gives_entries path after count =
      gives_at t Given (text_tests_then limits ((reading.is_negative after || count == 0 || nat_lt ENTRIES_TOLD count, EINVAL) ∷ []) path) true path _ (λ p o comes. gives_by_kind t Given o _ _ _
      (λ n. gives_names t Given p _ (λ names answer new need (told, entries, part, each, done). gives_same t Given _ answer new need done))
      (λ n text. gives_refused t Given ENOTDIR)
      (λ n is. gives_refused t Given ENOTDIR))

  pub gives_readlink : (path : List ℕ) → GivesOnly t Given (reading.reads_link limits t path)
  gives_readlink path =
      gives_at t Given (text_tests limits path) false path _ (λ p o comes. gives_by_kind t Given o _ _ _ (λ n. gives_refused t Given EINVAL) (λ n text. gives_same t Given _) (λ n is. gives_refused t Given EINVAL))

  pub gives_get : (path : List ℕ) (offset : ℤ) (count : ℕ) → GivesOnly t Given (reading.gets limits t path offset count)
  gives_get path offset count =
      gives_at t Given (text_tests_then limits ((reading.is_negative offset || reading.is_too_many count, EINVAL) ∷ []) path) true path _ (λ p o comes. gives_by_kind t Given o _ _ _ (λ n. gives_refused t Given EISDIR) (λ n text. gives_never t Given) (λ n is. gives_same t Given _))

  pub gives_extent : (stored : ℕ → ℕ → Bool) (path : List ℕ) (offset : ℤ) → GivesOnly t Given (reading.tells_extent limits t stored path offset)
  gives_extent stored path offset =
      gives_at t Given (text_tests_then limits ((reading.is_negative offset, EINVAL) ∷ []) path) true path _ (λ p o comes. gives_by_kind t Given o _ _ _
      (λ n. gives_refused t Given EISDIR)
      (λ n text. gives_never t Given)
      (λ n is answer new need (extent, tells, done). gives_same t Given _ answer new need done))

  -- bytes and modes

  come_bits : (n mode : ℕ) → AllCome t Given (changing.with_changed_mode now n mode t)
  come_bits n mode = come_marked t Given now (touches_object Status n) (with_mode n mode t) (come_same t Given)

  -- the tree with bytes written into a file
  abbrev put : ℕ → ℕ → List ℕ → Tree
  put n offset given = marked now (touches_object Data n) (with_bytes n (written offset given (contents t n)) t)

  come_put : (n offset : ℕ) (given : List ℕ) → AllCome t Given (put n offset given)
  come_put n offset given = come_marked t Given now (touches_object Data n) (with_bytes n (written offset given (contents t n)) t) (come_same t Given)

  gives_sized : (n size : ℕ) → GivesOnly t Given (changing.truncates_file now t n size)
  gives_sized n size = gives_changed t Given reply.Done (changing.truncated_to now n size t) (changing.need_of_truncate now n size t) (come_resized t Given now n size)

  pub gives_truncate : (path : List ℕ) (size : ℤ) → GivesOnly t Given (changing.truncates limits now t path size)
  gives_truncate path size =
      gives_at t Given (text_tests_then limits (changing.size_tests limits size) path) true path _ (λ p o comes. gives_by_kind t Given o _ _ _ (λ n. gives_refused t Given EISDIR) (λ n text. gives_never t Given) (λ n is. gives_sized n (nat_abs size)))

  pub gives_chmod : (path : List ℕ) (mode : ℕ) → GivesOnly t Given (changing.changes_mode limits now t path mode)
  gives_chmod path mode =
      gives_at t Given (text_tests limits path) true path _ (λ p o comes. gives_by_kind t Given o _ _ _
      (λ n. gives_changed t Given _ (changing.with_changed_mode now n mode t) _ (come_bits n mode))
      (λ n text. gives_never t Given)
      (λ n is. gives_changed t Given _ (changing.with_changed_mode now n mode t) _ (come_bits n mode)))

  -- attributes of an object
  come_attributes : (n : ℕ) (f : Attributes → Attributes) → AllCome t Given (marked now (touches_object Status n) (changing_attributes n f t))
  come_attributes n f = come_marked t Given now (touches_object Status n) (changing_attributes n f t) (come_same t Given)

  gives_attributes : (n : ℕ) (f : Attributes → Attributes) → GivesOnly t Given (changing.changes_attributes now t n f)
  gives_attributes n f = gives_changed t Given _ (marked now (touches_object Status n) (changing_attributes n f t)) _ (come_attributes n f)

  gives_owners : (n : ℕ) (owner group : Option ℕ) → GivesOnly t Given (changing.gives_owners now t n owner group)
  gives_owners n owner group = gives_either t Given (is_none owner && is_none group) _ _ (gives_same t Given _) (gives_attributes n (set_owners owner group))

  pub gives_chown : (follow : Bool) (path : List ℕ) (owner group : Option ℕ) → GivesOnly t Given (changing.changes_owners limits now t follow path owner group)
  gives_chown follow path owner group =
      gives_at t Given (reading.attribute_tests limits ++ text_tests limits path) follow path _ (λ p o comes. gives_owners (number_of_object o) owner group)

  gives_time : (n : ℕ) (time : Option Time) → GivesOnly t Given (changing.gives_time now t n time)
  gives_time n None = gives_same t Given _
  gives_time n (Some time) = gives_attributes n (set_modified time)

  pub gives_utimens : (follow : Bool) (path : List ℕ) (time : NewTime) → GivesOnly t Given (changing.changes_times limits now t follow path time)
  gives_utimens follow path time =
      gives_at t Given (reading.attribute_tests limits ++ text_tests limits path ++ changing.time_tests time) follow path _
      (λ p o comes. gives_time (number_of_object o) (changing.meant_time now time))

  gives_mode : (n : ℕ) (mode : Option ℕ) → GivesOnly t Given (changing.sets_mode now t n mode)
  gives_mode n None = gives_same t Given _
  gives_mode n (Some mode) = gives_changed t Given _ (changing.with_changed_mode now n mode t) _ (come_bits n mode)

  gives_both : (n mode size : ℕ) → GivesOnly t Given (changing.sets_both now t n mode size)
  gives_both n mode size =
      gives_either t Given (changing.is_idle_size now n size t) _ _ (gives_changed t Given _ (changing.with_changed_mode now n mode t) _ (come_bits n mode))
      (gives_changed t Given _ (marked now (touches_object Data n) (with_mode n mode (with_bytes n (resized size (contents t n)) t))) _
      (come_marked t Given now (touches_object Data n) (with_mode n mode (with_bytes n (resized size (contents t n)) t)) (come_same t Given)))

  gives_set_file : (n : ℕ) (mode : Option ℕ) (size : Option ℤ) → GivesOnly t Given (changing.sets_file now t n mode size)
  gives_set_file n mode None = gives_mode n mode
  gives_set_file n None (Some size) = gives_sized n (nat_abs size)
  gives_set_file n (Some mode) (Some size) = gives_both n mode (nat_abs size)

  pub gives_set : (path : List ℕ) (settings : Settings) → GivesOnly t Given (changing.sets limits now t path settings)
  gives_set path settings =
      gives_at t Given (text_tests_then limits (changing.given_size_tests limits settings.size) path) true path _ (λ p o comes. gives_by_kind t Given o _ _ _
      (λ n. gives_tested t Given ((is_some settings.size, EISDIR) ∷ []) _ (λ e. gives_mode n settings.mode))
      (λ n text. gives_never t Given)
      (λ n is. gives_set_file n settings.mode settings.size))

  gives_puts : (n offset : ℕ) (given : List ℕ) (also : Tree → Tree) → AllCome t Given (also (put n offset given)) → GivesOnly t Given (descriptors.puts limits now t n offset given also)
  gives_puts n offset given also comes =
      gives_either t Given (is_empty given) _ _ (gives_same t Given (reply.Wrote 0)) (gives_tested t Given ((nat_lt limits.file_bytes (offset + length given), EFBIG) ∷ []) _ (λ e. gives_changed t Given (reply.Wrote (length given)) (also (put n offset given)) (logs (puts_bytes (length (contents t n)) offset (length given))) comes))

  pub gives_store : (path : List ℕ) (offset : ℤ) (given : List ℕ) → GivesOnly t Given (descriptors.stores limits now t path offset given)
  gives_store path offset given =
      gives_at t Given (text_tests_then limits ((reading.is_negative offset || reading.is_too_many (length given), EINVAL) ∷ []) path) true path _ (λ p o comes. gives_by_kind t Given o _ _ _
      (λ n. gives_refused t Given EISDIR)
      (λ n text. gives_never t Given)
      (λ n is. gives_puts n (nat_abs offset) given (λ after. after) (come_put n (nat_abs offset) given)))

  -- what is taken away or moved, and names of files

  -- where a path has got an object
  come_entered : (touch : Touch) (n : ℕ) (p : Path) (u : Tree) → AllCome t Given u → AllCome t Given (changing.entered now touch n p t u)
  come_entered touch n p u comes = come_marked t Given now (touches_entry touch (Some n) (number_at_path t p)) u comes

  gives_removed : (p : Path) → GivesOnly t Given (changing.removes now t p)
  gives_removed p =
      let touches = touches_entry Status (number_at_path t p) (number_at_path t (parent p)) in
      gives_swept t Given reply.Done (marked now touches (without_object p t)) (logs removes_name) (come_marked t Given now touches (without_object p t) (come_taken t Given p))

  pub gives_rmdir : (path : List ℕ) → GivesOnly t Given (changing.removes_directory limits now t path)
  gives_rmdir path =
      gives_at t Given (new_text_tests limits path ++ (is_root_text path, EBUSY) ∷ []) false path _ (λ p o comes. gives_by_kind t Given o _ _ _
      (λ n. gives_names t Given p _ (λ names. gives_tested t Given ((not (is_empty names), ENOTEMPTY) ∷ []) _ (λ e. gives_removed p)))
      (λ n text. gives_refused t Given ENOTDIR)
      (λ n is. gives_refused t Given ENOTDIR))

  pub gives_unlink : (path : List ℕ) → GivesOnly t Given (changing.unlinks limits now t path)
  gives_unlink path = gives_at t Given (new_text_tests limits path) false path _ (λ p o comes. gives_tested t Given ((is_directory (Some o), EPERM) ∷ []) _ (λ e. gives_removed p))

  gives_linked : (o : Object) (path : List ℕ) → Comes t Given (number_of_object o) → GivesOnly t Given (changing.links_object limits now t o path)
  gives_linked (directory n) path comes = gives_refused t Given EPERM
  gives_linked (symlink n text) path comes = gives_refused t Given EPERM
  gives_linked (file n) path comes =
      gives_along t Given false path _ _ (λ q r there. gives_refused t Given EEXIST)
      (λ q name. gives_links t Given t (file n) _ (λ count. gives_tested t Given ((nat_le limits.file_names count, EMLINK) ∷ []) _ (λ e.
      gives_place t Given limits q _ (gives_changed t Given reply.Done (changing.entered now Status n q t (with_object (q ++ name ∷ []) (file n) t)) (logs adds_name)
      (come_entered Status n q (with_object (q ++ name ∷ []) (file n) t) (come_placed t Given (q ++ name ∷ []) (file n) comes))))))

  pub gives_link : (old path : List ℕ) → GivesOnly t Given (changing.links limits now t old path)
  gives_link old path = gives_at t Given (text_tests limits old ++ new_text_tests limits path) false old _ (λ p o comes. gives_linked o path comes)

  gives_target : (p q : Path) (r : Option Object) (rest : Outcome) → GivesOnly t Given rest → GivesOnly t Given (changing.with_target limits t p q r rest)
  gives_target p q None rest gives = gives_either t Given (path_eq (parent p) (parent q)) _ _ gives (gives_place t Given limits (parent q) rest gives)
  gives_target p q (Some (directory n)) rest gives = gives_names t Given q _ (λ names. gives_tested t Given ((not (is_empty names), ENOTEMPTY) ∷ []) rest (λ e. gives))
  gives_target p q (Some (symlink n text)) rest gives = gives
  gives_target p q (Some (file n)) rest gives = gives

  gives_moves : (p : Path) (o : Object) (q : Path) → GivesOnly t Given (changing.moves limits now t p o q)
  gives_moves p o q =
      gives_either t Given (path_eq p q || changing.is_same_file o (t.objects q)) _ _ (gives_same t Given reply.Done)
      (gives_tested t Given (changing.move_tests p o q (t.objects q)) _ (λ e. gives_target p q (t.objects q) _
      (gives_swept t Given reply.Done (marked now touches (moved p q t)) (logs adds_name) (come_marked t Given now touches (moved p q t) (come_moved t Given p q)))))
    where
      touches : Touches
      touches = touches_move (number_at_path t p) (number_at_path t q) (number_at_path t (parent p)) (number_at_path t (parent q))

  pub gives_rename : (only_new : Bool) (old path : List ℕ) → GivesOnly t Given (changing.renames limits now t only_new old path)
  gives_rename only_new old path =
      gives_at t Given (new_text_tests limits old ++ new_text_tests limits path ++ (is_root_text old || is_root_text path, EBUSY) ∷ []) false old _ (λ p o comes. gives_along t Given false path _ _
      (λ q r there. gives_tested t Given ((only_new, EEXIST) ∷ []) _ (λ e. gives_moves p o q))
      (λ q name. gives_moves p o (q ++ name ∷ [])))

  -- descriptors

  pub gives_close : (fd : ℕ) → GivesOnly t Given (descriptors.closes t fd)
  gives_close fd =
      gives_described t Given fd _ (λ f at_fd. gives_swept t Given reply.Done (with_descriptor fd None t) _ (come_opened t Given t fd None (come_same t Given) (λ g is. cc)))

  pub gives_read : (fd count : ℕ) → GivesOnly t Given (descriptors.reads t fd count)
  gives_read fd count =
      gives_described t Given fd _ (λ f at_fd. gives_tested t Given ((not f.reads, EBADF) ∷ (reading.is_too_many count, EINVAL) ∷ []) _ (λ e.
      gives_changed t Given _ (descriptors.with_offset fd f (f.offset + length (read_at f.offset count (contents t f.number))) t) _ (come_moved_offset t Given t fd f _ (come_same t Given) at_fd)))

  pub gives_pread : (fd : ℕ) (offset : ℤ) (count : ℕ) → GivesOnly t Given (descriptors.reads_from t fd offset count)
  gives_pread fd offset count = gives_described t Given fd _ (λ f at_fd. gives_tested t Given ((not f.reads, EBADF) ∷ (reading.is_negative offset || reading.is_too_many count, EINVAL) ∷ []) _ (λ e. gives_same t Given _))

  pub gives_write : (fd : ℕ) (given : List ℕ) → GivesOnly t Given (descriptors.writes limits now t fd given)
  gives_write fd given =
      gives_described t Given fd _ (λ f at_fd.
      let offset : ℕ = if f.appends then length (contents t f.number) else f.offset in
      gives_tested t Given ((not f.writes, EBADF) ∷ (reading.is_too_many (length given), EINVAL) ∷ []) (descriptors.puts limits now t f.number offset given (descriptors.with_offset fd f (offset + length given))) (λ e.
      gives_puts f.number offset given (descriptors.with_offset fd f (offset + length given))
      (come_moved_offset t Given (put f.number offset given) fd f (offset + length given) (come_put f.number offset given) at_fd)))

  pub gives_pwrite : (fd : ℕ) (offset : ℤ) (given : List ℕ) → GivesOnly t Given (descriptors.writes_to limits now t fd offset given)
  gives_pwrite fd offset given =
      gives_described t Given fd _ (λ f at_fd. gives_tested t Given ((not f.writes, EBADF) ∷ (reading.is_negative offset || reading.is_too_many (length given), EINVAL) ∷ []) (descriptors.puts limits now t f.number (nat_abs offset) given (λ after. after)) (λ e. gives_puts f.number (nat_abs offset) given (λ after. after) (come_put f.number (nat_abs offset) given)))

  pub gives_seek : (fd : ℕ) (from : Whence) (offset : ℤ) → GivesOnly t Given (descriptors.seeks t fd from offset)
  gives_seek fd from offset =
      gives_described t Given fd _ (λ f at_fd.
      let place : ℤ = pos (descriptors.base_of t f from) +ℤ offset in
      gives_tested t Given ((reading.is_negative place, EINVAL) ∷ (nat_lt GREATEST_OFFSET (nat_abs place), EOVERFLOW) ∷ []) _ (λ e.
      gives_changed t Given _ (descriptors.with_offset fd f (nat_abs place) t) _ (come_moved_offset t Given t fd f (nat_abs place) (come_same t Given) at_fd)))

  pub gives_ftruncate : (fd : ℕ) (size : ℤ) → GivesOnly t Given (descriptors.truncates_open limits now t fd size)
  gives_ftruncate fd size = gives_described t Given fd _ (λ f at_fd. gives_tested t Given ((not f.writes, EINVAL) ∷ changing.size_tests limits size) _ (λ e. gives_sized f.number (nat_abs size)))

  pub gives_fchmod : (fd mode : ℕ) → GivesOnly t Given (descriptors.changes_open_mode now t fd mode)
  gives_fchmod fd mode = gives_described t Given fd _ (λ f at_fd. gives_changed t Given _ (changing.with_changed_mode now f.number mode t) _ (come_bits f.number mode))

  pub gives_fchown : (fd : ℕ) (owner group : Option ℕ) → GivesOnly t Given (descriptors.changes_open_owners limits now t fd owner group)
  gives_fchown fd owner group =
      gives_tested t Given (reading.attribute_tests limits) _ (λ e. gives_described t Given fd _ (λ f at_fd. gives_owners f.number owner group))

  pub gives_futimens : (fd : ℕ) (time : NewTime) → GivesOnly t Given (descriptors.changes_open_times limits now t fd time)
  gives_futimens fd time =
      gives_tested t Given (reading.attribute_tests limits) _ (λ e. gives_described t Given fd _ (λ f at_fd.
      gives_tested t Given (changing.time_tests time) _ (λ e. gives_time f.number (changing.meant_time now time))))

  pub gives_fstat : (fd : ℕ) → GivesOnly t Given (descriptors.stats_open t fd)
  gives_fstat fd = gives_described t Given fd _ (λ f at_fd. gives_tells (file f.number))

  pub gives_fattr : (fd : ℕ) → GivesOnly t Given (descriptors.attributes_open limits t fd)
  gives_fattr fd = gives_tested t Given (reading.attribute_tests limits) _ (λ e. gives_described t Given fd _ (λ f at_fd. gives_told (file f.number)))

  pub gives_fsync : (fd : ℕ) → GivesOnly t Given (descriptors.syncs_open t fd)
  gives_fsync fd = gives_described t Given fd _ (λ f at_fd. gives_same t Given _)

  -- new objects

  gives_creates : (path : List ℕ) (make : Path → ℕ → Tree → Tree) → ((p : Path) (n : ℕ) → IsFresh limits t n → AllCome t Given (make p n t)) → GivesOnly t Given (changing.creates limits now t path make)
  gives_creates path make makes =
      gives_tested t Given (new_text_tests limits path) _ (λ e. gives_along t Given false path _ _ (λ p o comes. gives_refused t Given EEXIST)
      (λ p name. gives_place t Given limits p _ (gives_fresh t Given limits _ (λ n fresh. gives_changed t Given reply.Done (changing.entered now Data n p t (make (p ++ name ∷ []) n t)) (logs adds_name)
      (come_entered Data n p (make (p ++ name ∷ []) n t) (makes (p ++ name ∷ []) n fresh))))))

  pub gives_mkdir : (path : List ℕ) (permissions : Permissions) → ((n : ℕ) → IsFresh limits t n → Given n) → GivesOnly t Given (changing.makes_directory limits now t path permissions)
  gives_mkdir path permissions given = gives_creates path (λ p n. with_directory p n permissions) (λ p n fresh. come_placed t Given p (directory n) (inr (given n fresh)))

  pub gives_symlink : (text path : List ℕ) (permissions : Permissions) → ((n : ℕ) → IsFresh limits t n → Given n) → GivesOnly t Given (changing.makes_symlink limits now t text path permissions)
  gives_symlink text path permissions given =
      gives_tested t Given (changing.link_text_tests limits text) (changing.creates limits now t path (λ p n. with_symlink p n permissions text)) (λ e.
      gives_creates path (λ p n. with_symlink p n permissions text) (λ p n fresh. come_placed t Given p (symlink n text) (inr (given n fresh))))

  gives_opened : (tells : Bool) (n : ℕ) (flags : Flags) (fd : ℕ) (u : Tree) (need : Need) → AllCome t Given u → Comes t Given n → GivesOnly t Given (descriptors.opens_file tells n flags fd u need)
  gives_opened tells n flags fd u need comes named =
      let opened : Tree = with_descriptor fd (Some (descriptors.described_by n flags)) u in
      let all : AllCome t Given opened = come_opened t Given u fd (Some (descriptors.described_by n flags)) comes (λ g same. subst (λ (o : Option Description). number_comes o) same named) in
      gives_either t Given tells _ _ (gives_links t Given opened (file n) _ (λ links. gives_changed t Given _ opened need all)) (gives_changed t Given _ opened need all)
    where
      number_comes : Option Description → Type 0
      number_comes None = Unit {0}
      number_comes (Some f) = Comes t Given f.number

  gives_opens_object : (tells : Bool) (o : Object) (flags : Flags) (fd : ℕ) → Comes t Given (number_of_object o) → GivesOnly t Given (descriptors.opens_object tells now t o flags fd)
  gives_opens_object tells o flags fd comes =
      gives_tested t Given ((flags.creates && flags.exclusive, EEXIST) ∷ []) _ (λ e. gives_by_kind t Given o _ _ _ (λ n. gives_refused t Given EISDIR) (λ n text. gives_never t Given) (λ n kind.
      let named : Comes t Given n = subst (λ r. Comes t Given (number_of_object r)) kind comes in
      gives_either t Given flags.truncates _ _
      (gives_opened tells n flags fd (changing.truncated_to now n 0 t) (changing.need_of_truncate now n 0 t) (come_resized t Given now n 0) named)
      (gives_opened tells n flags fd t nothing (come_same t Given) named)))

  gives_opens_new : (tells : Bool) (p : Path) (name : Name) (flags : Flags) (permissions : Permissions) (fd : ℕ) → (flags.creates ≡ true → (n : ℕ) → IsFresh limits t n → Given n) → GivesOnly t Given (descriptors.opens_new tells limits now t p name flags permissions fd)
  gives_opens_new tells p name flags permissions fd given =
      gives_tested t Given ((not flags.creates, ENOENT) ∷ []) _ (λ e.
      let creates = not_false flags.creates (all_passed ((not flags.creates, ENOENT) ∷ []) e).0 in
      gives_place t Given limits p _ (gives_fresh t Given limits _ (λ n fresh.
      let named : Comes t Given n = inr (given creates n fresh) in
      gives_opened tells n flags fd (changing.entered now Data n p t (with_file (p ++ name ∷ []) n permissions t)) (logs adds_name)
      (come_entered Data n p (with_file (p ++ name ∷ []) n permissions t) (come_placed t Given (p ++ name ∷ []) (file n) named)) named)))
    where
      not_false : (b : Bool) → not b ≡ false → b ≡ true
      not_false true e = refl
      not_false false e = sym e

  pub gives_open : (tells : Bool) (below : ℕ) (path : List ℕ) (flags : Flags) (permissions : Permissions) → (flags.creates ≡ true → (n : ℕ) → IsFresh limits t n → Given n) → GivesOnly t Given (descriptors.opens tells below limits now t path flags permissions)
  gives_open tells below path flags permissions given =
      let follow : Bool = not (flags.creates && flags.exclusive) in
      gives_tested t Given (text_tests_then limits (descriptors.open_tests flags) path) _ (λ e.
      elim (lowest_free t.descriptors (min below OPEN_FILES)) as (λ o. GivesOnly t Given (elim o as (λ _. Outcome) [
        | None ↦ refuses t EMFILE
        | Some fd ↦ goes_along t follow path (λ p o. descriptors.opens_object tells now t o flags fd) (λ p name. descriptors.opens_new tells limits now t p name flags permissions fd)
      ])) [
        | None ↦ gives_refused t Given EMFILE
        | Some fd ↦ gives_along t Given follow path _ _ (λ p o comes. gives_opens_object tells o flags fd comes) (λ p name. gives_opens_new tells p name flags permissions fd given)
      ])
