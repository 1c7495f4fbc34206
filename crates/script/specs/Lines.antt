-- How a command is spelled: words, one space apart.
use Rattle.std.specs.Prelude.{ℕ, ◌≡◌, true, false, List, [], ◌∷◌, ◌++◌}
use Rattle.std.specs.List.{flat_map}
use Rattle.model.specs.declared.limits.TheConstants.{SESSION_FILES}
use Rattle.model.specs.declared.command.Command.{Command}
use Rattle.model.specs.declared.command.Command.TheVariants as command
use Rattle.model.specs.declared.command.PathCall.{PathCall}
use Rattle.model.specs.declared.command.PathCall.TheVariants as call
use Rattle.script.specs.Forms.{form_words, AreValues, Values}
use Rattle.script.specs.Verbs.{call_form, command_form, snap_form, verb_name}
use Rattle.script.specs.Words.{text_word, AreByteValues}
use Rattle.script.specs.declared.verb.Verb.{Verb}
use Rattle.script.specs.declared.verb.Verb.TheVariants as verb

-- words that each stand behind a space
abbrev pub spaced : List (List ℕ) → List ℕ
spaced words = flat_map (λ word. 32 ∷ word) words

-- a line of these words
abbrev pub line_of : List (List ℕ) → List ℕ
line_of [] = []
line_of (word ∷ words) = word ++ spaced words

-- the first word of a call that names a path, and its fields
abbrev pub call_fields : PathCall → (v : Verb) × Values (call_form v)
call_fields (call.List path) = (verb.List, (path, tt))
call_fields (call.Entries path after count) = (verb.Entries, (path, (after, (count, tt))))
call_fields (call.Stat path) = (verb.Stat, (path, tt))
call_fields (call.Lstat path) = (verb.Lstat, (path, tt))
call_fields (call.Attr path true) = (verb.Attr, (path, tt))
call_fields (call.Attr path false) = (verb.Lattr, (path, tt))
call_fields (call.Readlink path) = (verb.Readlink, (path, tt))
call_fields (call.Get path offset count) = (verb.Get, (path, (offset, (count, tt))))
call_fields (call.Mkdir path mode) = (verb.Mkdir, (path, mode))
call_fields (call.Rmdir path) = (verb.Rmdir, (path, tt))
call_fields (call.Unlink path) = (verb.Unlink, (path, tt))
call_fields (call.Link old new) = (verb.Link, (old, (new, tt)))
call_fields (call.Symlink text path) = (verb.Symlink, (text, (path, tt)))
call_fields (call.Rename old new) = (verb.Rename, (old, (new, tt)))
call_fields (call.RenameNew old new) = (verb.RenameNew, (old, (new, tt)))
call_fields (call.Chmod path mode) = (verb.Chmod, (path, (mode, tt)))
call_fields (call.Chown path true owner group) = (verb.Chown, (path, (owner, (group, tt))))
call_fields (call.Chown path false owner group) = (verb.Lchown, (path, (owner, (group, tt))))
call_fields (call.Utimens path true time) = (verb.Utimens, (path, time))
call_fields (call.Utimens path false time) = (verb.Lutimens, (path, time))
call_fields (call.Truncate path size) = (verb.Truncate, (path, (size, tt)))
call_fields (call.Store path offset bytes) = (verb.Store, (path, (offset, (bytes, tt))))
call_fields (call.Set path settings) = (verb.Set, (path, (settings.mode, (settings.size, tt))))

abbrev pub call_words : PathCall → List (List ℕ)
call_words c = verb_name (call_fields c).0 ∷ form_words (call_form (call_fields c).0) (call_fields c).1

-- its texts are bytes, its numbers and its mode fit
abbrev pub IsPathCallInForm : PathCall → Type 0
IsPathCallInForm c = AreValues (call_form (call_fields c).0) (call_fields c).1

-- how a command's words are made: a first word and fields, a call that names a path, `in` and such
-- a call, or `snap`, a second word and fields
pub data Spelling : Type 0 where
  plain : (v : Verb) → (fields : Values (command_form v)) → Spelling
  named : (call : PathCall) → Spelling
  within : (name : List ℕ) → (call : PathCall) → Spelling
  snap : (v : Verb) → (fields : Values (snap_form v)) → Spelling

abbrev pub spelling_of : Command → Spelling
spelling_of (command.Path call) = named call
spelling_of (command.Open path flags mode below) = plain verb.Open (path, (flags, mode))
spelling_of (command.OpenStat path flags mode below) = plain verb.OpenStat (path, (flags, mode))
spelling_of (command.Close fd) = plain verb.Close (fd, tt)
spelling_of (command.Read fd count) = plain verb.Read (fd, (count, tt))
spelling_of (command.Write fd bytes) = plain verb.Write (fd, (bytes, tt))
spelling_of (command.Pread fd offset count) = plain verb.Pread (fd, (offset, (count, tt)))
spelling_of (command.Pwrite fd offset bytes) = plain verb.Pwrite (fd, (offset, (bytes, tt)))
spelling_of (command.Lseek fd whence offset) = plain verb.Lseek (fd, (whence, (offset, tt)))
spelling_of (command.Ftruncate fd size) = plain verb.Ftruncate (fd, (size, tt))
spelling_of (command.Fchmod fd mode) = plain verb.Fchmod (fd, (mode, tt))
spelling_of (command.Fchown fd owner group) = plain verb.Fchown (fd, (owner, (group, tt)))
spelling_of (command.Futimens fd time) = plain verb.Futimens (fd, time)
spelling_of (command.Fstat fd) = plain verb.Fstat (fd, tt)
spelling_of (command.Fattr fd) = plain verb.Fattr (fd, tt)
spelling_of (command.Fsync fd) = plain verb.Fsync (fd, tt)
spelling_of (command.Extent path offset) = plain verb.Extent (path, (offset, tt))
spelling_of (command.At seconds nanoseconds) = plain verb.At (seconds, (nanoseconds, tt))
spelling_of (command.As owner group) = plain verb.As (owner, (group, tt))
spelling_of command.Sync = plain verb.Sync tt
spelling_of command.Df = plain verb.Df tt
spelling_of command.Statfs = plain verb.Statfs tt
spelling_of (command.SnapTake name) = snap verb.Take (name, tt)
spelling_of (command.SnapDelete name) = snap verb.Delete (name, tt)
spelling_of (command.SnapRestore name) = snap verb.Restore (name, tt)
spelling_of command.SnapList = snap verb.List tt
spelling_of (command.Within name call) = within name call

abbrev pub spelling_words : Spelling → List (List ℕ)
spelling_words (plain v fields) = verb_name v ∷ form_words (command_form v) fields
spelling_words (named call) = call_words call
spelling_words (within name call) = verb_name verb.In ∷ text_word name ∷ call_words call
spelling_words (snap v fields) = verb_name verb.Snap ∷ verb_name v ∷ form_words (snap_form v) fields

abbrev pub IsSpelling : Spelling → Type 0
IsSpelling (plain v fields) = AreValues (command_form v) fields
IsSpelling (named call) = IsPathCallInForm call
IsSpelling (within name call) = AreByteValues name × IsPathCallInForm call
IsSpelling (snap v fields) = AreValues (snap_form v) fields

abbrev pub command_words : Command → List (List ℕ)
command_words c = spelling_words (spelling_of c)

-- a command's texts are bytes, its numbers and its mode fit, and a descriptor that it opens is a
-- session's, below a number that isn't spelled
abbrev pub IsCommandInForm : Command → Type 0
IsCommandInForm (command.Open path flags mode below) =
    (below ≡ SESSION_FILES) × IsSpelling (spelling_of (command.Open path flags mode below))
IsCommandInForm (command.OpenStat path flags mode below) =
    (below ≡ SESSION_FILES) × IsSpelling (spelling_of (command.OpenStat path flags mode below))
IsCommandInForm c = IsSpelling (spelling_of c)

-- a command's line
abbrev pub command_line : Command → List ℕ
command_line c = line_of (command_words c)
