-- Paths, and the texts that name them (POSIX.1-2017, Base Definitions, "Pathname").
use Rattle.std.specs.Prelude.{ℕ, ◌-◌, ◌≤◌, ◌≢◌, ◌^◌, ◌==◌, nat_le, nat_lt, not, ◌&&◌, ◌||◌, if◌then◌else◌, Bool, List, [], ◌∷◌, length, drop, All, filter, slice_index, slice_index_or, codes, bytes_eq, Option, Some, None, is_some}
use Rattle.std.specs.Cmp.Lexicographic.{pointwise}
use Rattle.std.specs.List.{slice_split, list_any}
use Rattle.std.specs.Str.Parse.{digits_value}
use Rattle.model.specs.declared.limits.TheConstants.{NAME_BYTES}
use Rattle.model.specs.declared.limits.Limits.{Limits}
use Rattle.model.specs.declared.errno.Errno.{Errno}
use Rattle.model.specs.declared.errno.Errno.TheVariants.{ENOENT, EINVAL, ENAMETOOLONG}

-- a file's name in its directory, as bytes
abbrev pub Name : Type 0
Name = List ℕ

-- the names from the root down; the root's path is empty
abbrev pub Path : Type 0
Path = List Name

-- the byte is a slash
abbrev pub is_slash : ℕ → Bool
is_slash byte = byte == 47

-- the part is `.`, which stands for the directory itself
abbrev pub is_dot : Name → Bool
is_dot part = bytes_eq part (codes ".")

-- the part is `..`, which stands for the parent
abbrev pub is_dot_dot : Name → Bool
is_dot_dot part = bytes_eq part (codes "..")

-- the list has no elements
abbrev pub is_empty : {X : Type 0} → List X → Bool
is_empty xs = length xs == 0

-- a name that a file may have: 1 to 255 bytes, none of them zero or a slash (47), and not `.` (46)
-- or `..`
pub record IsName (name : Name) : Type 0 where
  pub some : 1 ≤ length name
  pub short : length name ≤ NAME_BYTES
  pub plain : All (λ byte. (byte ≢ 0) × (byte ≢ 47)) name
  pub here : name ≢ 46 ∷ []
  pub above : name ≢ 46 ∷ 46 ∷ []

-- what a symbolic link may hold: 1 to so many bytes, none of them zero
pub record IsLinkText (most : ℕ) (text : List ℕ) : Type 0 where
  pub some : 1 ≤ length text
  pub short : length text ≤ most
  pub plain : All (λ byte. byte ≢ 0) text

-- the parts of a text: what stands between its slashes, where runs of slashes count as one
abbrev pub parts : List ℕ → List Name
parts text = filter (λ part. not (is_empty part)) (slice_split is_slash text)

-- the text begins with a slash: it leads from the root
abbrev pub starts_with_slash : List ℕ → Bool
starts_with_slash text = is_slash (slice_index text 0)

-- the text ends with a slash
abbrev pub ends_with_slash : List ℕ → Bool
ends_with_slash text = is_slash (slice_index text (length text - 1))

-- a decimal digit
abbrev pub is_digit : ℕ → Bool
is_digit byte = nat_le 48 byte && nat_le byte 57

-- decimal digits as numbers are written: one or more, and no zero before others
abbrev pub is_numeral : List ℕ → Bool
is_numeral digits =
    not (is_empty digits) && not (list_any (λ byte. not (is_digit byte)) digits)
    && (length digits == 1 || not (slice_index digits 0 == 48))

-- the number that a part names by `@` and its decimal digits, if it has 32 bits
abbrev pub number_named : Name → Option ℕ
number_named part =
    let digits = drop 1 part in
    if slice_index part 0 == 64 && is_numeral digits && nat_lt (digits_value 10 digits) (2 ^ 32)
    then Some (digits_value 10 digits) else None

-- the number of the object that a text leads from, where it begins with one and not with a slash
abbrev pub start_number : List ℕ → Option ℕ
start_number text =
    if starts_with_slash text then None else number_named (slice_index_or (parts text) 0 [])

-- the text begins at a number
abbrev pub starts_at_number : List ℕ → Bool
starts_at_number text = is_some (start_number text)

-- the parts behind where a text begins: the root, or a number
abbrev pub parts_behind : List ℕ → List Name
parts_behind text = if starts_at_number text then drop 1 (parts text) else parts text

-- the part is longer than a name may be
abbrev pub is_too_long : Name → Bool
is_too_long part = nat_lt NAME_BYTES (length part)

-- the last part of a text
abbrev pub last_part : List ℕ → Name
last_part text = slice_index_or (parts text) (length (parts text) - 1) []

-- the text is a number alone, which leads to an object by none of its names
abbrev pub is_number_alone : List ℕ → Bool
is_number_alone text = starts_at_number text && is_empty (parts_behind text)

-- tests in order, each with the refusal that it gives where it holds
abbrev pub Tests : Type 0
Tests = List (Bool × Errno)

-- the refusal of the first test that holds
abbrev pub first_refusal : Tests → Option Errno
first_refusal [] = None
first_refusal (test ∷ tests) = if test.0 then Some test.1 else first_refusal tests

-- the tests of a path's text, followed by more
abbrev pub text_tests_then : Limits → Tests → List ℕ → Tests
text_tests_then limits more text =
    (is_empty text, ENOENT)
    ∷ (list_any (λ byte. byte == 0) text, EINVAL)
    ∷ (nat_lt limits.path_bytes (length text), ENAMETOOLONG)
    ∷ (not (starts_with_slash text || starts_at_number text), EINVAL)
    ∷ (ends_with_slash text && nat_lt 1 (length text), EINVAL)
    ∷ (list_any is_too_long (parts text), ENAMETOOLONG)
    ∷ (starts_at_number text && list_any is_dot_dot (parts text), EINVAL)
    ∷ more

-- the tests of a text that names something that is there
abbrev pub text_tests : Limits → List ℕ → Tests
text_tests limits = text_tests_then limits []

-- the tests of a text that names something to be made or taken away: its last part is a name
abbrev pub new_text_tests : Limits → List ℕ → Tests
new_text_tests limits text =
    text_tests_then limits ((is_dot (last_part text) || is_dot_dot (last_part text) || is_number_alone text, EINVAL) ∷ []) text

-- the path `/` alone, as a text that passed its tests
abbrev pub is_root_text : List ℕ → Bool
is_root_text text = bytes_eq text (codes "/")

-- what stands behind `front` in a path that begins with it
abbrev pub behind : Path → Path → Option Path
behind [] p = Some p
behind (x ∷ front) [] = None
behind (x ∷ front) (y ∷ p) = if bytes_eq x y then behind front p else None

-- one path begins with another, or is it
abbrev pub begins_with : Path → Path → Bool
begins_with p front = is_some (behind front p)

-- two paths are the same
abbrev pub path_eq : Path → Path → Bool
path_eq = pointwise bytes_eq
