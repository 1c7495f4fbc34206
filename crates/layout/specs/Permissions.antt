-- What a record tells of permissions and of a time of data: all of it in an image whose objects have
-- attributes, and the mode alone in another.
use Rattle.std.specs.Prelude.{ℕ, Bool, true, false, List, [], Option, Some}
use Rattle.model.specs.declared.attributes.Permissions.{Permissions}
use Rattle.model.specs.declared.time.Time.{Time}
use Rattle.model.specs.Attributes.{epoch, mode_alone}
use Rattle.layout.specs.Attributes.{time_fields, time_read, time_told}
use Rattle.layout.specs.Format.{Format, num, mode_bits, ◌▸◌}
use Rattle.layout.specs.Reading.{◌>>=◌}

abbrev pub permission_fields : Format (ℕ × (ℕ × ℕ))
permission_fields = mode_bits ▸ num 4 ▸ num 4  -- mode, owner, group

-- the bytes of permissions
abbrev pub permission_bytes : Bool → Permissions → List ℕ
permission_bytes false p = mode_bits.text p.mode
permission_bytes true p = permission_fields.text (p.mode, (p.owner, p.group))

-- permissions, and the bytes behind them
unfoldable pub permissions_read : Bool → List ℕ → Option (Permissions × List ℕ)
permissions_read false bytes = mode_bits.at bytes >>= λ x. Some (mode_alone x.0, x.1)
permissions_read true bytes =
    permission_fields.at bytes >>= λ x. Some (record { mode = x.0.0; owner = x.0.1.0; group = x.0.1.1 }, x.1)

-- the bytes of a time of data
abbrev pub modified_bytes : Bool → Time → List ℕ
modified_bytes false time = []
modified_bytes true time = time_fields.text (time_told time)

-- a time of data, and the bytes behind it
unfoldable pub modified_read : Bool → List ℕ → Option (Time × List ℕ)
modified_read false bytes = Some (epoch, bytes)
modified_read true bytes = time_read bytes
