-- What a change does to the times of objects (POSIX.1-2017, Base Definitions, "File Times Update").
use Rattle.std.specs.Prelude.{ℕ, Option, Some, None}
use Rattle.model.specs.declared.attributes.Attributes.{Attributes}
use Rattle.model.specs.declared.attributes.Touch.{Touch}
use Rattle.model.specs.declared.attributes.Touch.TheVariants.{Data, Status}
use Rattle.model.specs.declared.time.Time.{Time}

-- the attributes of an object that is touched at a time: where its data changed, that is when its
-- status did too
abbrev pub touched_at : Time → Touch → Attributes → Attributes
touched_at time Data a = record a { modified = time; changed = time }
touched_at time Status a = record a { changed = time }

-- the objects that a change touches, by their numbers: what it is about, what a move takes a name
-- of, and the directories whose names it changes. A number that nothing has stands for no object.
pub record Touches : Type 0 where
  pub object : Option ℕ
  pub touch : Touch  -- of that object
  pub replaced : Option ℕ  -- its status
  pub parent : Option ℕ  -- its data
  pub new_parent : Option ℕ  -- its data

-- an object alone
abbrev pub touches_object : Touch → ℕ → Touches
touches_object touch n = record { object = Some n; touch = touch; replaced = None; parent = None; new_parent = None }

-- an object, and the directory that gets or loses a name of it
abbrev pub touches_entry : Touch → Option ℕ → Option ℕ → Touches
touches_entry touch object parent = record { object = object; touch = touch; replaced = None; parent = parent; new_parent = None }

-- an object that moves from one directory to the other, and what it replaces there
abbrev pub touches_move : Option ℕ → Option ℕ → Option ℕ → Option ℕ → Touches
touches_move object replaced parent new_parent =
    record { object = object; touch = Status; replaced = replaced; parent = parent; new_parent = new_parent }
