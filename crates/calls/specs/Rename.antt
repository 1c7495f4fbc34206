-- What moving a name comes to.
use Rattle.std.specs.Prelude.{ℕ, ◌≡◌, ◌≢◌, ◌↔◌, Bool, Contains, IsFalse, IsTrue, List, Option, Some, None, Result, Ok, Err}
use Rattle.model.specs.declared.limits.Limits.{Limits}
use Rattle.model.specs.Finding.{here}
use Rattle.model.specs.Paths.{IsName, Name, first_refusal, is_root_text, new_text_tests}
use Rattle.model.specs.Records.{IsBelow, rename, stamped}
use Rattle.model.specs.Volumes.{Volume, entries}
use Rattle.model.specs.declared.errno.Errno.{Errno}
use Rattle.model.specs.declared.time.Time.{Time}
use Rattle.calls.specs.Changing.{Decides}
use Rattle.calls.specs.declared.changed.Changing.{Changing}

-- the texts of two paths that passed the tests of a move
pub record PassTests (limits : Limits) (old path : List ℕ) : Type 0 where
  pub old_passed : first_refusal (new_text_tests limits old) ≡ None
  pub passed : first_refusal (new_text_tests limits path) ≡ None
  pub old_below : IsFalse (is_root_text old)
  pub below : IsFalse (is_root_text path)

-- where a trail comes from the root, it tells whether the directory at its end lies below n
abbrev pub TellsBelow : Volume → ℕ → Bool → List ℕ → Type 0
TellsBelow v n rooted trail = IsTrue rooted → Contains trail n ↔ IsBelow (entries v) n (here trail)

-- The object n may get the name y, which it hasn't, in the directory at the end of a trail.
pub record MovesAlong (v : Volume) (n : ℕ) (rooted : Bool) (trail : List ℕ) (y : Name)
    : Type 0 where
  pub name : IsName y
  pub other : entries v (here trail) y ≢ Some n
  pub tells : TellsBelow v n rooted trail

-- what comes of a name that an object moves to at this time: its record decides
abbrev pub MovesName : Limits → Option Time → Volume → ℕ → Name → ℕ → Name → Result (Option Changing) Errno → Type 0
MovesName limits now v d x k y (Ok None) = ⊥
MovesName limits now v d x k y (Ok (Some c)) = Decides limits v (stamped now (rename d x k y)) (Ok c)
MovesName limits now v d x k y (Err errno) = Decides limits v (stamped now (rename d x k y)) (Err errno)
