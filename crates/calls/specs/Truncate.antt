-- What changing a file's size comes to.
use Rattle.std.specs.Prelude.{ℕ, ◌≡◌, Option, Some, None, Ok}
use Rattle.model.specs.declared.limits.Limits.{Limits}
use Rattle.model.specs.Records.{stamped, truncate}
use Rattle.model.specs.Trees.{Description}
use Rattle.model.specs.Volumes.{Volume}
use Rattle.model.specs.declared.time.Time.{Time}
use Rattle.calls.specs.Changing.{change_by}
use Rattle.records.specs.Rewriting.{TruncatesBytes}
use Rattle.calls.specs.declared.changed.Changing.{Changing}

-- the record that gives this size to the file with this number, or nothing where that changes
-- nothing
abbrev pub TruncatesFile : Limits → Option Time → Volume → (ℕ → Option Description) → ℕ → ℕ → Option Changing → Type 0
TruncatesFile limits now v table n size None = TruncatesBytes limits now v table n size (Ok None)
TruncatesFile limits now v table n size (Some c) = (change_by c ≡ stamped now (truncate n size)) × TruncatesBytes limits now v table n size (Ok (Some c.prepared))
