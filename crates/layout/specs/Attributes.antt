-- What an inode tells of an object beside its kind, mode, links, size and body.
use Rattle.std.specs.Prelude.{ℕ, List, Option, Some}
use Rattle.std.specs.Int.{cast_signed, cast_unsigned, w64}
use Rattle.model.specs.declared.attributes.Attributes.{Attributes}
use Rattle.model.specs.declared.limits.TheConstants.{MOST_NANOSECONDS}
use Rattle.model.specs.declared.time.Time.{Time}
use Rattle.layout.specs.Format.{Format, num, ranged, blank, ◌▸◌}
use Rattle.layout.specs.Reading.{◌>>=◌}

-- a time: its seconds in two's complement, and its nanoseconds
abbrev pub time_fields : Format (ℕ × ℕ)
time_fields = num 8 ▸ ranged 4 0 MOST_NANOSECONDS

-- owner, group, the two times and the generation, between zeros
abbrev pub Others : Type 0
Others = Unit {0} × (ℕ × (ℕ × ((ℕ × ℕ) × ((ℕ × ℕ) × (ℕ × Unit {0})))))

abbrev pub attribute_fields : Format Others
attribute_fields = blank 3 ▸ num 4 ▸ num 4 ▸ time_fields ▸ time_fields ▸ num 8 ▸ blank 4

-- what stands for a time
abbrev pub time_told : Time → ℕ × ℕ
time_told t = (cast_unsigned w64 t.seconds, t.nanoseconds)

-- what stands for attributes, beside the mode
abbrev pub others_told : Attributes → Others
others_told a = (tt, (a.owner, (a.group, (time_told a.modified, (time_told a.changed, (a.generation, tt))))))

-- the time that numbers stand for
abbrev pub time_of : ℕ × ℕ → Time
time_of v = record { seconds = cast_signed w64 v.0; nanoseconds = v.1 }

-- the attributes that a mode and these numbers stand for
abbrev pub attributes_from : ℕ → Others → Attributes
attributes_from mode v = record {
  mode = mode;
  owner = v.1.0;
  group = v.1.1.0;
  modified = time_of v.1.1.1.0;
  changed = time_of v.1.1.1.1.0;
  generation = v.1.1.1.1.1.0;
}

-- a time, and the bytes behind it
abbrev pub time_read : List ℕ → Option (Time × List ℕ)
time_read bytes = time_fields.at bytes >>= λ x. Some (time_of x.0, x.1)

-- the attributes with a mode, and the bytes behind what tells them
abbrev pub attributes_read : ℕ → List ℕ → Option (Attributes × List ℕ)
attributes_read mode bytes = attribute_fields.at bytes >>= λ x. Some (attributes_from mode x.0, x.1)
