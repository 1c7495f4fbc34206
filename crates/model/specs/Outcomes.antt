-- What a call comes to, step by step: its tests in order, what stands where its path leads, and at
-- last its reply.
use Rattle.std.specs.Prelude.{ℕ, zero, suc, ◌≡◌, ◌⊎◌, ◌↔◌, ◌<◌, ◌≤◌, nat_le, is_none, if◌then◌else◌, Bool, true, false, IsSome, Option, Some, None, MatchOption, Contains, List, [], ◌∷◌, ◌++◌, length}
use Rattle.std.specs.Ordering.{nat_cmp}
use Rattle.std.specs.Cmp.Lexicographic.{slice_cmp}
use Rattle.std.specs.List.Sorted.{IsStrictlySortedBy}
use Rattle.model.specs.declared.limits.TheConstants.{FIRST_NUMBER}
use Rattle.model.specs.declared.errno.Errno.{Errno}
use Rattle.model.specs.declared.errno.Errno.TheVariants.{ENOENT, ENOTDIR, ELOOP, EBADF, DIRFULL, NONUMBER, ESTALE}
use Rattle.model.specs.declared.reply.Reply.{Reply}
use Rattle.model.specs.declared.reply.Reply.TheVariants.{Refused}
use Rattle.model.specs.Counting.{Counts}
use Rattle.model.specs.declared.limits.Limits.{Limits}
use Rattle.model.specs.Paths.{Name, Path, Tests, first_refusal, is_empty, parts_behind, start_number}
use Rattle.model.specs.Trees.{Tree, Object, directory, symlink, file, Description, HasPath, IsNumbered, IsPathOf, IsUsed}
use Rattle.model.specs.Edits.{IsSwept}
use Rattle.model.specs.Resolution.{Resolution, named, missing, refused, resolve, resolve_within}
use Rattle.model.specs.Room.{Need, nothing}

-- what a call comes to: its reply, the tree that it leaves, and what it needs of room
abbrev pub Outcome : Type 1
Outcome = Reply → Tree → Need → Type 0

-- this reply, and nothing changes
abbrev pub answers : Tree → Reply → Outcome
answers t answer reply new need = (reply ≡ answer) × (new ≡ t) × (need ≡ nothing)

-- this refusal, and nothing changes
abbrev pub refuses : Tree → Errno → Outcome
refuses t errno = answers t (Refused errno)

-- this reply and this tree, for this need
abbrev pub changes : Reply → Tree → Need → Outcome
changes answer t cost reply new need = (reply ≡ answer) × (new ≡ t) × (need ≡ cost)

-- this reply, and this tree without what has neither path nor descriptor any more, for this need
abbrev pub changes_swept : Reply → Tree → Need → Outcome
changes_swept answer t cost reply new need = (reply ≡ answer) × IsSwept t new × (need ≡ cost)

-- the first of these tests that holds refuses the call, and else it goes on
abbrev pub tested : Tree → Tests → Outcome → Outcome
tested t tests rest = elim (first_refusal tests) [ Some errno ↦ refuses t errno | None ↦ rest ]

-- one outcome where a test holds, else the other
abbrev pub either : Bool → Outcome → Outcome → Outcome
either test this other = elim test [ true ↦ this | false ↦ other ]

-- a call goes on where a path leads: to what stands there, or to a name that is missing in a
-- directory
abbrev pub leads : Tree → Resolution → (Path → Object → Outcome) → (Path → Name → Outcome) → Outcome
leads t (refused errno) there gone = refuses t errno
leads t (missing p name) there gone = gone p name
leads t (named p) there gone = elim (t.objects p) [ Some o ↦ there p o | None ↦ λ _ _ _. ⊥ ]  -- something stands there

-- a call goes on with what stands where a path leads, and a missing name is ENOENT
abbrev pub leads_to : Tree → Resolution → (Path → Object → Outcome) → Outcome
leads_to t r there = leads t r there (λ p name. refuses t ENOENT)

-- a call goes on with the object of a number, and is refused where none stands at a path
abbrev pub with_number : Tree → ℕ → (Object → Outcome) → Outcome
with_number t n rest reply new need =
    ((o : Object) × IsNumbered t n o × rest o reply new need) ⊎ (¬ HasPath t n × refuses t ESTALE reply new need)

-- a call goes on where names lead from an object. No link is followed there: where one would be, it
-- is ELOOP.
abbrev pub leads_from : Tree → Bool → List Name → (Path → Object → Outcome) → (Path → Name → Outcome) → Object → Outcome
leads_from t follow names there gone (directory n) =
    λ reply new need. (p : Path) × IsPathOf t n p × leads t (resolve_within 0 t follow p names) there gone reply new need
leads_from t follow names there gone (symlink n text) =
    either (is_empty names) (either follow (refuses t ELOOP) (there [] (symlink n text))) (refuses t ENOTDIR)
leads_from t follow names there gone (file n) = either (is_empty names) (there [] (file n)) (refuses t ENOTDIR)

-- a call goes on where the text of a path leads, from the root or from a number; follow says whether
-- a last link is followed
abbrev pub goes_along : Tree → Bool → List ℕ → (Path → Object → Outcome) → (Path → Name → Outcome) → Outcome
goes_along t follow text there gone = elim (start_number text) [
  | None ↦ leads t (resolve t follow text) there gone
  | Some n ↦ with_number t n (leads_from t follow (parts_behind text) there gone)
]

-- the same with what stands there, where a missing name is ENOENT
abbrev pub goes_to : Tree → Bool → List ℕ → (Path → Object → Outcome) → Outcome
goes_to t follow text there = goes_along t follow text there (λ p name. refuses t ENOENT)

-- the names in the directory at a path, sorted by their bytes, each once
pub record IsListing (t : Tree) (p : Path) (names : List Name) : Type 0 where
  pub sorted : IsStrictlySortedBy (slice_cmp nat_cmp) names
  pub whole : (name : Name) → Contains names name ↔ IsSome (t.objects (p ++ name ∷ []))

-- a call goes on with the names in a directory
abbrev pub with_names : Tree → Path → (List Name → Outcome) → Outcome
with_names t p rest reply new need = (names : List Name) × IsListing t p names × rest names reply new need

-- a call goes on where a directory has room for one more name, and else is refused with DIRFULL
abbrev pub with_place : Limits → Tree → Path → Outcome → Outcome
with_place limits t p rest = with_names t p (λ names. tested t ((nat_le limits.directory_names (length names), DIRFULL) ∷ []) rest)

-- the number of a new object: the least one that it may take and that isn't used
pub record IsFresh (limits : Limits) (t : Tree) (n : ℕ) : Type 0 where
  pub low : FIRST_NUMBER ≤ n
  pub high : n < limits.inodes
  pub free : ¬ IsUsed t n
  pub least : (k : ℕ) → FIRST_NUMBER ≤ k → k < n → IsUsed t k

-- no number is left for a new object
abbrev pub HasNoFresh : Limits → Tree → Type 0
HasNoFresh limits t = (k : ℕ) → FIRST_NUMBER ≤ k → k < limits.inodes → IsUsed t k

-- a call goes on with a number, and without one is refused with NONUMBER
abbrev pub at_number : Tree → (ℕ → Outcome) → Option ℕ → Outcome
at_number t rest None = refuses t NONUMBER
at_number t rest (Some n) = rest n

-- a call goes on with the number of a new object, where one is left
abbrev pub with_fresh : Limits → Tree → (ℕ → Outcome) → Outcome
with_fresh limits t rest reply new need =
    (free : Option ℕ) × MatchOption free (HasNoFresh limits t) (IsFresh limits t) × at_number t rest free reply new need

-- the links that an object shows: of a file as many as paths lead to it, of a directory and a link
-- 1
abbrev pub HasLinks : Tree → Object → ℕ → Type 0
HasLinks t (directory n) count = count ≡ 1
HasLinks t (symlink n text) count = count ≡ 1
HasLinks t (file n) count = Counts (λ p. t.objects p ≡ Some (file n)) count

-- a call goes on with the links that an object shows
abbrev pub with_links : Tree → Object → (ℕ → Outcome) → Outcome
with_links t o rest reply new need = (count : ℕ) × HasLinks t o count × rest count reply new need

-- the lowest descriptor that is free, of the first so many
abbrev pub lowest_free : (ℕ → Option Description) → ℕ → Option ℕ
lowest_free table zero = None
lowest_free table (suc d) = elim (lowest_free table d) [ Some k ↦ Some k | None ↦ if is_none (table d) then Some d else None ]

-- a call goes on with the description of an open descriptor, and else is refused with EBADF
abbrev pub described : Tree → ℕ → (Description → Outcome) → Outcome
described t d rest = elim (t.descriptors d) [ Some f ↦ rest f | None ↦ refuses t EBADF ]
