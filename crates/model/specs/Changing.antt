-- The calls that change a tree by a path (POSIX.1-2017, mkdir(), symlink(), rmdir(), unlink(),
-- link(), rename(), chmod(), truncate()), each with its tests in order. `now` is the time of the call,
-- where the file system keeps times.
use Rattle.std.specs.Prelude.{ℕ, ℤ, nat_abs, ◌==◌, nat_le, nat_lt, not, ◌&&◌, ◌||◌, if◌then◌else◌, Bool, true, false, List, [], ◌∷◌, ◌++◌, length, Option, Some, None, is_none, is_some}
use Rattle.std.specs.List.{list_any}
use Rattle.model.specs.declared.errno.Errno.TheVariants.{ENOENT, ENOTDIR, EISDIR, EEXIST, EINVAL, ENAMETOOLONG, EPERM, EBUSY, ENOTEMPTY, EFBIG, EMLINK}
use Rattle.model.specs.declared.attributes.Attributes.{Attributes}
use Rattle.model.specs.declared.attributes.Permissions.{Permissions}
use Rattle.model.specs.declared.command.NewTime.{NewTime}
use Rattle.model.specs.declared.command.NewTime.TheVariants.{Omit, Now, At}
use Rattle.model.specs.declared.command.Settings.{Settings}
use Rattle.model.specs.declared.reply.Reply.TheVariants.{Done}
use Rattle.model.specs.declared.limits.Limits.{Limits}
use Rattle.model.specs.declared.limits.TheConstants.{MOST_NANOSECONDS}
use Rattle.model.specs.Attributes.{set_modified, set_owners}
use Rattle.model.specs.Paths.{Path, Tests, text_tests, text_tests_then, new_text_tests, is_empty, is_root_text, begins_with, path_eq}
use Rattle.model.specs.Trees.{Tree, Object, directory, symlink, file, is_directory, number_of_object}
use Rattle.model.specs.Edits.{changing_attributes, contents, resized, with_object, without_object, with_mode, with_bytes, with_directory, with_symlink, marked, moved, number_at_path}
use Rattle.model.specs.Touches.{touches_entry, touches_move, touches_object}
use Rattle.model.specs.declared.attributes.Touch.{Touch}
use Rattle.model.specs.declared.attributes.Touch.TheVariants.{Data, Status}
use Rattle.model.specs.declared.time.Time.{Time}
use Rattle.model.specs.Resolution.{parent}
use Rattle.model.specs.Room.{Need, nothing, logs, adds_name, removes_name, changes_size, changes_bits}
use Rattle.model.specs.Outcomes.{Outcome, answers, refuses, changes, changes_swept, tested, either, goes_along, goes_to, with_names, with_place, with_fresh, with_links}
use Rattle.model.specs.Reading.{attribute_tests, is_negative}

-- the tree in which a path has got an object, with both touched at this time: the object and its
-- parent; `touch` says what of the object
abbrev pub entered : Option Time → Touch → ℕ → Path → Tree → Tree → Tree
entered now touch n p old new = marked now (touches_entry touch (Some n) (number_at_path old p)) new

-- an object is made where a path leads to a missing name: `make` gives the tree, by its path and
-- its number
abbrev pub creates : Limits → Option Time → Tree → List ℕ → (Path → ℕ → Tree → Tree) → Outcome
creates limits now t path make =
    tested t (new_text_tests limits path) (goes_along t false path
    (λ p o. refuses t EEXIST)
    (λ p name. with_place limits t p (with_fresh limits t (λ n.
    changes Done (entered now Data n p t (make (p ++ name ∷ []) n t)) (logs adds_name)))))

-- `mkdir`: an empty directory of these permissions is made at a name that nothing has
abbrev pub makes_directory : Limits → Option Time → Tree → List ℕ → Permissions → Outcome
makes_directory limits now t path permissions = creates limits now t path (λ p n. with_directory p n permissions)

-- the tests of a link's text: it isn't empty, has no zero byte, and is no longer than a path may be
abbrev pub link_text_tests : Limits → List ℕ → Tests
link_text_tests limits text =
    (is_empty text, ENOENT) ∷ (list_any (λ byte. byte == 0) text, EINVAL) ∷ (nat_lt limits.path_bytes (length text), ENAMETOOLONG) ∷ []

-- `symlink`: a link of this text and these permissions is made at a name that nothing has
abbrev pub makes_symlink : Limits → Option Time → Tree → List ℕ → List ℕ → Permissions → Outcome
makes_symlink limits now t text path permissions =
    tested t (link_text_tests limits text) (creates limits now t path (λ p n. with_symlink p n permissions text))

-- a name is taken away, and with the last one what it named, but for a file that is open
abbrev pub removes : Option Time → Tree → Path → Outcome
removes now t p =
    changes_swept Done (marked now (touches_entry Status (number_at_path t p) (number_at_path t (parent p))) (without_object p t))
    (logs removes_name)

-- `rmdir`: an empty directory is taken away, and never the root
abbrev pub removes_directory : Limits → Option Time → Tree → List ℕ → Outcome
removes_directory limits now t path =
    tested t (new_text_tests limits path ++ (is_root_text path, EBUSY) ∷ [])
    (goes_to t false path (λ p o. elim o [
      | directory n ↦ with_names t p (λ names. tested t ((not (is_empty names), ENOTEMPTY) ∷ []) (removes now t p))
      | symlink n text ↦ refuses t ENOTDIR
      | file n ↦ refuses t ENOTDIR
    ]))

-- `unlink`: a name of a file, or a link, is taken away, and never a directory
abbrev pub unlinks : Limits → Option Time → Tree → List ℕ → Outcome
unlinks limits now t path =
    tested t (new_text_tests limits path) (goes_to t false path (λ p o. tested t ((is_directory (Some o), EPERM) ∷ []) (removes now t p)))

-- `link` where an object stands: a file gets one more name, at a path where nothing stands
abbrev pub links_object : Limits → Option Time → Tree → Object → List ℕ → Outcome
links_object limits now t o path = elim o [
  | file n ↦ goes_along t false path
      (λ q r. refuses t EEXIST)
      (λ q name. with_links t (file n) (λ count. tested t ((nat_le limits.file_names count, EMLINK) ∷ [])
      (with_place limits t q (changes Done (entered now Status n q t (with_object (q ++ name ∷ []) (file n) t)) (logs adds_name)))))
  | directory n ↦ refuses t EPERM
  | symlink n text ↦ refuses t EPERM
]

-- `link`: a file gets one more name, at a path where nothing stands
abbrev pub links : Limits → Option Time → Tree → List ℕ → List ℕ → Outcome
links limits now t old path = tested t (text_tests limits old ++ new_text_tests limits path) (goes_to t false old (λ p o. links_object limits now t o path))

-- two objects are one file
abbrev pub is_same_file : Object → Option Object → Bool
is_same_file (file n) (Some (file k)) = n == k
is_same_file o r = false

-- the tests of a move of the object o from p to q, where r stands or nothing does: a directory
-- doesn't go below itself, and a directory and something else don't replace each other
abbrev pub move_tests : Path → Object → Path → Option Object → Tests
move_tests p o q r =
    (is_directory (Some o) && begins_with q p, EINVAL)
    ∷ (is_directory (Some o) && is_some r && not (is_directory r), ENOTDIR)
    ∷ (not (is_directory (Some o)) && is_directory r, EISDIR)
    ∷ []

-- the target of a move can take it: a directory that is replaced is empty, and a directory that
-- gains a name has room for it
abbrev pub with_target : Limits → Tree → Path → Path → Option Object → Outcome → Outcome
with_target limits t p q None rest = either (path_eq (parent p) (parent q)) rest (with_place limits t (parent q) rest)
with_target limits t p q (Some (directory n)) rest = with_names t q (λ names. tested t ((not (is_empty names), ENOTEMPTY) ∷ []) rest)
with_target limits t p q (Some r) rest = rest

-- an object moves from one path to another with all below it, in place of what stood there; nothing
-- changes where both are one path or one file
abbrev pub moves : Limits → Option Time → Tree → Path → Object → Path → Outcome
moves limits now t p o q =
    either (path_eq p q || is_same_file o (t.objects q)) (answers t Done)
    (tested t (move_tests p o q (t.objects q)) (with_target limits t p q (t.objects q)
    (changes_swept Done (marked now (touches_move (number_at_path t p) (number_at_path t q) (number_at_path t (parent p)) (number_at_path t (parent q))) (moved p q t))
    (logs adds_name))))

-- `rename` and `renamenew`: what stands at the first path moves to the second, and neither is the
-- root; only_new says whether anything there refuses the move
abbrev pub renames : Limits → Option Time → Tree → Bool → List ℕ → List ℕ → Outcome
renames limits now t only_new old path =
    tested t (new_text_tests limits old ++ new_text_tests limits path ++ (is_root_text old || is_root_text path, EBUSY) ∷ [])
    (goes_to t false old (λ p o. goes_along t false path
    (λ q r. tested t ((only_new, EEXIST) ∷ []) (moves limits now t p o q))
    (λ q name. moves limits now t p o (q ++ name ∷ []))))

-- the tree in which an object has this mode
abbrev pub with_changed_mode : Option Time → ℕ → ℕ → Tree → Tree
with_changed_mode now n mode t = marked now (touches_object Status n) (with_mode n mode t)

-- `chmod`: the file or directory that a path leads to gets this mode
abbrev pub changes_mode : Limits → Option Time → Tree → List ℕ → ℕ → Outcome
changes_mode limits now t path mode =
    tested t (text_tests limits path) (goes_to t true path (λ p o. elim o [
      | directory n ↦ changes Done (with_changed_mode now n mode t) (logs changes_bits)
      | file n ↦ changes Done (with_changed_mode now n mode t) (logs changes_bits)
      | symlink n text ↦ λ _ _ _. ⊥  -- a final link is followed
    ]))

-- an object's attributes are changed, and so its status
abbrev pub changes_attributes : Option Time → Tree → ℕ → (Attributes → Attributes) → Outcome
changes_attributes now t n f = changes Done (marked now (touches_object Status n) (changing_attributes n f t)) (logs changes_bits)

-- an object gets an owner and a group, each where it is given; where neither is, nothing changes
abbrev pub gives_owners : Option Time → Tree → ℕ → Option ℕ → Option ℕ → Outcome
gives_owners now t n owner group =
    either (is_none owner && is_none group) (answers t Done) (changes_attributes now t n (set_owners owner group))

-- `chown` and `lchown`: the object that a path leads to gets an owner and a group, where `chown`
-- follows a last link
abbrev pub changes_owners : Limits → Option Time → Tree → Bool → List ℕ → Option ℕ → Option ℕ → Outcome
changes_owners limits now t follow path owner group =
    tested t (attribute_tests limits ++ text_tests limits path)
    (goes_to t follow path (λ p o. gives_owners now t (number_of_object o) owner group))

-- the tests of a time: its nanoseconds are below a second
abbrev pub time_tests : NewTime → Tests
time_tests (At seconds nanoseconds) = (nat_lt MOST_NANOSECONDS nanoseconds, EINVAL) ∷ []
time_tests other = []

-- the time that is meant, if there is one
abbrev pub meant_time : Option Time → NewTime → Option Time
meant_time now Omit = None
meant_time now Now = now
meant_time now (At seconds nanoseconds) = Some (record { seconds = seconds; nanoseconds = nanoseconds })

-- an object's data gets a time, where one is meant
abbrev pub gives_time : Option Time → Tree → ℕ → Option Time → Outcome
gives_time now t n None = answers t Done
gives_time now t n (Some time) = changes_attributes now t n (set_modified time)

-- `utimens` and `lutimens`: the data of the object that a path leads to gets a time, where `utimens`
-- follows a last link
abbrev pub changes_times : Limits → Option Time → Tree → Bool → List ℕ → NewTime → Outcome
changes_times limits now t follow path time =
    tested t (attribute_tests limits ++ text_tests limits path ++ time_tests time)
    (goes_to t follow path (λ p o. gives_time now t (number_of_object o) (meant_time now time)))

-- a size changes nothing of a file: it has the size, and no times are kept, which would change
abbrev pub is_idle_size : Option Time → ℕ → ℕ → Tree → Bool
is_idle_size now n size t = is_none now && size == length (contents t n)

-- the tree with a file truncated, or filled with zeros, to a size
abbrev pub truncated_to : Option Time → ℕ → ℕ → Tree → Tree
truncated_to now n size t =
    if is_idle_size now n size t then t else marked now (touches_object Data n) (with_bytes n (resized size (contents t n)) t)

-- what a change of a file's size needs of room: nothing where it changes nothing
abbrev pub need_of_truncate : Option Time → ℕ → ℕ → Tree → Need
need_of_truncate now n size t = if is_idle_size now n size t then nothing else logs (changes_size (length (contents t n)) size)

-- a file gets this size
abbrev pub truncates_file : Option Time → Tree → ℕ → ℕ → Outcome
truncates_file now t n size = changes Done (truncated_to now n size t) (need_of_truncate now n size t)

-- the tests of a size: it isn't negative, and no file is greater than the limit
abbrev pub size_tests : Limits → ℤ → Tests
size_tests limits size = (is_negative size, EINVAL) ∷ (nat_lt limits.file_bytes (nat_abs size), EFBIG) ∷ []

-- `truncate`: the file that a path leads to gets this size
abbrev pub truncates : Limits → Option Time → Tree → List ℕ → ℤ → Outcome
truncates limits now t path size =
    tested t (text_tests_then limits (size_tests limits size) path) (goes_to t true path (λ p o. elim o [
      | file n ↦ truncates_file now t n (nat_abs size)
      | directory n ↦ refuses t EISDIR
      | symlink n text ↦ λ _ _ _. ⊥  -- a final link is followed
    ]))

-- a directory or a file gets a mode, where one is given
abbrev pub sets_mode : Option Time → Tree → ℕ → Option ℕ → Outcome
sets_mode now t n None = answers t Done
sets_mode now t n (Some mode) = changes Done (with_changed_mode now n mode t) (logs changes_bits)

-- a file gets a mode and a size by one record, or the mode alone where the size changes nothing
abbrev pub sets_both : Option Time → Tree → ℕ → ℕ → ℕ → Outcome
sets_both now t n mode size =
    either (is_idle_size now n size t) (changes Done (with_changed_mode now n mode t) (logs changes_bits))
    (changes Done (marked now (touches_object Data n) (with_mode n mode (with_bytes n (resized size (contents t n)) t)))
    (logs (changes_size (length (contents t n)) size)))

-- a file gets all that is given
abbrev pub sets_file : Option Time → Tree → ℕ → Option ℕ → Option ℤ → Outcome
sets_file now t n mode None = sets_mode now t n mode
sets_file now t n None (Some size) = truncates_file now t n (nat_abs size)
sets_file now t n (Some mode) (Some size) = sets_both now t n mode (nat_abs size)

-- the tests of a size, where one is given
abbrev pub given_size_tests : Limits → Option ℤ → Tests
given_size_tests limits None = []
given_size_tests limits (Some size) = size_tests limits size

-- an object gets all that is given; a directory has no size
abbrev pub sets_object : Option Time → Tree → Settings → Object → Outcome
sets_object now t settings o = elim o [
  | file n ↦ sets_file now t n settings.mode settings.size
  | directory n ↦ tested t ((is_some settings.size, EISDIR) ∷ []) (sets_mode now t n settings.mode)
  | symlink n text ↦ λ _ _ _. ⊥  -- a final link is followed
]

-- `set`: what a path leads to gets the mode and the size that are given
abbrev pub sets : Limits → Option Time → Tree → List ℕ → Settings → Outcome
sets limits now t path settings =
    tested t (text_tests_then limits (given_size_tests limits settings.size) path) (goes_to t true path (λ p o. sets_object now t settings o))
