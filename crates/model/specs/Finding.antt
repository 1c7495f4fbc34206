-- Resolution as the file system does it: by numbers, with the trail of the directories walked
-- through.
use Rattle.std.specs.Prelude.{ℕ, zero, suc, ◌≡◌, ◌≤◌, ◌-◌, not, ◌&&◌, if◌then◌else◌, Bool, List, [], ◌∷◌, ◌++◌, length, take, get_or, Option, Some, None}
use Rattle.model.specs.declared.limits.TheConstants.{ROOT_NUMBER}
use Rattle.model.specs.declared.errno.Errno.{Errno}
use Rattle.model.specs.declared.errno.Errno.TheVariants.{ENOENT, ENOTDIR, ENAMETOOLONG, ELOOP, DAMAGED}
use Rattle.model.specs.Paths.{Name, Path, parts, is_dot, is_dot_dot, is_empty, is_too_long, starts_with_slash}
use Rattle.model.specs.Resolution.{Resolution, named, missing, refused}
use Rattle.model.specs.Volumes.{Node, directory_node, file_node, link_node, Volume, Entries, entries, number_at}

-- the directory at the end of a trail of numbers, which go from the root's child down; the root's
-- trail is empty
abbrev pub here : List ℕ → ℕ
here trail = get_or trail (length trail - 1) ROOT_NUMBER

-- the trail of a path: the numbers at its beginnings, one by one
pub record Trails (e : Entries) (p : Path) (trail : List ℕ) : Type 0 where
  pub size : length trail ≡ length p
  pub each : (i : ℕ) → i ≤ length p → number_at e (take i p) ≡ Some (here (take i trail))

-- where a search by numbers ends: at a directory, at an entry, at a missing name, or with a refusal
pub data Place : Type 0 where
  at_directory : List ℕ → Place  -- the one at the end of the trail
  at_entry : List ℕ → Name → ℕ → Place  -- this number stands at this name in the directory at the end of the trail
  at_missing : List ℕ → Name → Place  -- nothing has this name in it
  at_refusal : Errno → Place

-- what one part of a path does to a search, from a directory
pub data Turn : Type 0 where
  stays_on : List ℕ → Turn  -- by `.` or `..`, to the end of this trail
  enters : ℕ → Turn  -- a directory
  ends_at : ℕ → Turn  -- a file
  follows : ℕ → List ℕ → Turn  -- a link, and its text
  finds_nothing : Turn
  finds_damage : Turn  -- a number that no object has
  finds_long : Turn

-- the turn at a number that a name leads to, by the object that has it
abbrev pub turn_at : ℕ → Option Node → Turn
turn_at n None = finds_damage
turn_at n (Some (directory_node attributes names)) = enters n
turn_at n (Some (file_node attributes links bytes)) = ends_at n
turn_at n (Some (link_node attributes text)) = follows n text

-- the turn by a name, which leads to a number or to none
abbrev pub turn_by : Volume → Option ℕ → Turn
turn_by v None = finds_nothing
turn_by v (Some n) = turn_at n (v n)

-- the turn by a part of a path, from the directory at the end of a trail
abbrev pub turn : Volume → List ℕ → Name → Turn
turn v trail part =
    if is_dot part then stays_on trail
    else if is_dot_dot part then stays_on (take (length trail - 1) trail)
    else if is_too_long part then finds_long
    else turn_by v (entries v (here trail) part)

-- where a walk over parts ends: at a place, or at a link that is followed, with its directory's
-- trail, its text and the parts that are left
pub data WalkEnd : Type 0 where
  halts : Place → WalkEnd
  halts_at_link : List ℕ → List ℕ → List Name → WalkEnd

-- the walk over parts from the end of a trail; follow says whether a link with no part behind it is
-- followed
abbrev pub find_along : Volume → Bool → List ℕ → List Name → WalkEnd
find_along v follow trail [] = halts (at_directory trail)
find_along v follow trail (part ∷ rest) =
    elim (turn v trail part) [
      | stays_on next ↦ find_along v follow next rest
      | enters n ↦ if is_empty rest then halts (at_entry trail part n) else find_along v follow (trail ++ n ∷ []) rest
      | ends_at n ↦ halts (if is_empty rest then at_entry trail part n else at_refusal ENOTDIR)
      | follows n text ↦ if is_empty rest && not follow then halts (at_entry trail part n) else halts_at_link trail text rest
      | finds_nothing ↦ halts (if is_empty rest then at_missing trail part else at_refusal ENOENT)
      | finds_damage ↦ halts (at_refusal DAMAGED)
      | finds_long ↦ halts (at_refusal ENAMETOOLONG)
    ]

-- the search behind a link: its parts are put before the rest, from the root or from the directory
-- that it stands in
abbrev pub find_on : (List ℕ → List Name → Place) → WalkEnd → Place
find_on again (halts place) = place
find_on again (halts_at_link trail text rest) = again (if starts_with_slash text then [] else trail) (parts text ++ rest)

-- the search for parts from the end of a trail, while so many links may still be followed
abbrev pub find_within : ℕ → Volume → Bool → List ℕ → List Name → Place
find_within zero v follow trail names = find_on (λ _ _. at_refusal ELOOP) (find_along v follow trail names)
find_within (suc links) v follow trail names = find_on (find_within links v follow) (find_along v follow trail names)

-- a place found by numbers is where the resolution by paths leads
abbrev pub IsPlaceOf : Volume → Place → Resolution → Type 0
IsPlaceOf v (at_directory trail) (named p) = Trails (entries v) p trail
IsPlaceOf v (at_entry trail x n) (named q) = (p : Path) × Trails (entries v) p trail × (q ≡ p ++ x ∷ []) × (entries v (here trail) x ≡ Some n)
IsPlaceOf v (at_missing trail x) (missing p y) = Trails (entries v) p trail × (y ≡ x) × (entries v (here trail) x ≡ None)
IsPlaceOf v (at_refusal errno) (refused other) = other ≡ errno
IsPlaceOf v _ _ = ⊥

-- the trail of a search that begins at the directory with a number
abbrev pub trail_from : ℕ → List ℕ
trail_from n = n ∷ []

-- the same, whatever trail led to the directory at its end
abbrev pub IsPlaceAt : Volume → Place → Resolution → Type 0
IsPlaceAt v (at_directory trail) (named p) = number_at (entries v) p ≡ Some (here trail)
IsPlaceAt v (at_entry trail x n) (named q) =
    (p : Path) × (number_at (entries v) p ≡ Some (here trail)) × (q ≡ p ++ x ∷ []) × (entries v (here trail) x ≡ Some n)
IsPlaceAt v (at_missing trail x) (missing p y) =
    (number_at (entries v) p ≡ Some (here trail)) × (y ≡ x) × (entries v (here trail) x ≡ None)
IsPlaceAt v (at_refusal errno) (refused other) = other ≡ errno
IsPlaceAt v _ _ = ⊥
