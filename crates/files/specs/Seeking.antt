-- Places in a file that an offset leads to.
use Rattle.std.specs.Prelude.{ℕ, ℤ, ◌≡◌, nat_abs, nat_lt, IfErr, IsTrue, OnErr, Some, None, Result, Ok, Err, [], ◌∷◌}
use Rattle.model.specs.Outcomes.{Outcome}
use Rattle.model.specs.Paths.{Tests, first_refusal}
use Rattle.model.specs.Reading.{is_negative}
use Rattle.model.specs.Room.{nothing}
use Rattle.model.specs.Trees.{Tree}
use Rattle.model.specs.Volumes.{IsMounted, Volume}
use Rattle.model.specs.declared.errno.Errno.{Errno}
use Rattle.model.specs.declared.errno.Errno.TheVariants.{EINVAL, EOVERFLOW}
use Rattle.model.specs.declared.limits.TheConstants.{GREATEST_OFFSET}
use Rattle.model.specs.declared.reply.Reply.{Reply}
use Rattle.records.specs.Opened.{HasNumbers}
use Rattle.calls.specs.Refusals.{is_path_refusal}
use Rattle.descriptors.specs.Fits.{FitsVolume}
use Rattle.descriptors.specs.Tables.{table_of}
use Rattle.descriptors.specs.declared.table.Descriptors.{Descriptors}
use Rattle.files.specs.Opened.{tree_with}

-- the tests of a place: it isn't negative, and no offset is greater than the limit
abbrev pub place_tests : ℤ → Tests
place_tests place = (is_negative place, EINVAL) ∷ (nat_lt GREATEST_OFFSET (nat_abs place), EOVERFLOW) ∷ []

-- a place that passes its tests, or the refusal of the first that holds
abbrev pub IsPlace : ℤ → Result ℕ Errno → Type 0
IsPlace place (Ok n) = (first_refusal (place_tests place) ≡ None) × (nat_abs place ≡ n)
IsPlace place (Err errno) = first_refusal (place_tests place) ≡ Some errno

-- A call with this outcome on a tree moves offsets alone; a refusal moves none.
pub record AnswersFromTable {T : Type 0} (table moved : Descriptors) (outcome : Tree → Outcome) (reply : Result T Errno → Reply) (result : Result T Errno) : Type 0 where
  pub answers : (v : Volume) → FitsVolume table v → outcome (tree_with table v) (reply result) (tree_with moved v) nothing
  pub fits : (v : Volume) → FitsVolume table v → FitsVolume moved v
  pub mounted : (v : Volume) → IsMounted v (table_of table) → IsMounted v (table_of moved)
  pub numbers : (n : ℕ) → HasNumbers n table → HasNumbers n moved
  pub own : IfErr result (λ e. IsTrue (is_path_refusal e))
  pub refused : OnErr result (moved ≡ table)
