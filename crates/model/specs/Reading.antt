-- The calls that read by a path (POSIX.1-2017, stat(), readlink(), read()): the reply is a function
-- of the tree.
use Rattle.std.specs.Prelude.{ℕ, ℤ, pos, negsuc, nat_abs, true, false, Bool, nat_lt, not, ◌||◌, ◌==◌, List, [], ◌∷◌, ◌++◌, length}
use Rattle.model.specs.declared.limits.TheConstants.{ENTRIES_TOLD, TRANSFER_BYTES}
use Rattle.model.specs.declared.errno.Errno.TheVariants.{ENOTDIR, EISDIR, EINVAL, ENOTSUP}
use Rattle.model.specs.declared.reply.Reply.TheVariants as reply
use Rattle.model.specs.declared.limits.Limits.{Limits}
use Rattle.model.specs.Paths.{Tests, text_tests, text_tests_then}
use Rattle.model.specs.Trees.{Tree, Object, directory, symlink, file, number_of_object}
use Rattle.model.specs.Edits.{attributes_at, contents, read_at}
use Rattle.model.specs.Holes.{TellsExtent}
use Rattle.model.specs.declared.reply.Extent.{Extent}
use Rattle.model.specs.Stats.{stat_of}
use Rattle.model.specs.Entries.{with_part}
use Rattle.model.specs.Outcomes.{Outcome, answers, refuses, tested, goes_to, with_names, with_links}

-- an offset or a size is below zero
abbrev pub is_negative : ℤ → Bool
is_negative (pos n) = false
is_negative (negsuc n) = true

-- so many bytes are more than one call reads or writes
abbrev pub is_too_many : ℕ → Bool
is_too_many count = nat_lt TRANSFER_BYTES count

-- the test of calls on what a file system keeps only with attributes, before all others
abbrev pub attribute_tests : Limits → Tests
attribute_tests limits = (not limits.has_attributes, ENOTSUP) ∷ []

-- the reply is what `stat` tells of an object
abbrev pub tells_stat : Tree → Object → Outcome
tells_stat t o = with_links t o (λ links. answers t (reply.Stat (stat_of t o links)))

-- `stat` and `lstat`: what is told of the object that a path leads to, where `stat` follows a last
-- link
abbrev pub stats : Limits → Tree → Bool → List ℕ → Outcome
stats limits t follow path = tested t (text_tests limits path) (goes_to t follow path (λ p o. tells_stat t o))

-- the reply is what `stat` tells of an object, and its attributes
abbrev pub tells_attributes : Tree → Object → Outcome
tells_attributes t o =
    with_links t o (λ links. answers t (reply.Attributes (stat_of t o links) (attributes_at t (number_of_object o))))

-- `attr` and `lattr`: what is told of the object that a path leads to, where `attr` follows a last link
abbrev pub attributes : Limits → Tree → Bool → List ℕ → Outcome
attributes limits t follow path =
    tested t (attribute_tests limits ++ text_tests limits path) (goes_to t follow path (λ p o. tells_attributes t o))

-- `readlink`: the text of the link that a path leads to
abbrev pub reads_link : Limits → Tree → List ℕ → Outcome
reads_link limits t path =
    tested t (text_tests limits path) (goes_to t false path (λ p o. elim o [
      | symlink n text ↦ answers t (reply.Text text)
      | directory n ↦ refuses t EINVAL
      | file n ↦ refuses t EINVAL
    ]))

-- `list`: the names in the directory that a path leads to, sorted by their bytes
abbrev pub lists : Limits → Tree → List ℕ → Outcome
lists limits t path =
    tested t (text_tests limits path) (goes_to t true path (λ p o. elim o [
      | directory n ↦ with_names t p (λ names. answers t (reply.Names names))
      | symlink n text ↦ refuses t ENOTDIR
      | file n ↦ refuses t ENOTDIR
    ]))

-- `entries`: of the directory that a path leads to, the names behind a cookie with what is told of
-- them, at least so many where there are as many
abbrev pub tells_entries : Limits → Tree → List ℕ → ℤ → ℕ → Outcome
tells_entries limits t path after count =
    tested t (text_tests_then limits ((is_negative after || count == 0 || nat_lt ENTRIES_TOLD count, EINVAL) ∷ []) path)
    (goes_to t true path (λ p o. elim o [
      | directory n ↦ with_names t p (λ names. with_part t p names (nat_abs after) count (λ entries. answers t (reply.Entries entries)))
      | symlink n text ↦ refuses t ENOTDIR
      | file n ↦ refuses t ENOTDIR
    ]))

-- the reply is what is told of a file with these blocks stored, from an offset on
abbrev pub with_extent : Tree → (ℕ → Bool) → ℕ → ℕ → Outcome
with_extent t stored n offset answer new need =
    (extent : Extent) × TellsExtent stored (length (contents t n)) offset extent × answers t (reply.Extent extent) answer new need

-- `extent`: what of the file that a path leads to is stored
abbrev pub tells_extent : Limits → Tree → (ℕ → ℕ → Bool) → List ℕ → ℤ → Outcome
tells_extent limits t stored path offset =
    tested t (text_tests_then limits ((is_negative offset, EINVAL) ∷ []) path)
    (goes_to t true path (λ p o. elim o [
      | file n ↦ with_extent t (stored n) n (nat_abs offset)
      | directory n ↦ refuses t EISDIR
      | symlink n text ↦ λ _ _ _. ⊥  -- a final link is followed
    ]))

-- `get`: as many bytes as asked and there, of the file that a path leads to, from an offset on
abbrev pub gets : Limits → Tree → List ℕ → ℤ → ℕ → Outcome
gets limits t path offset count =
    tested t (text_tests_then limits ((is_negative offset || is_too_many count, EINVAL) ∷ []) path)
    (goes_to t true path (λ p o. elim o [
      | file n ↦ answers t (reply.Data (read_at (nat_abs offset) count (contents t n)))
      | directory n ↦ refuses t EISDIR
      | symlink n text ↦ λ _ _ _. ⊥  -- a final link is followed
    ]))
