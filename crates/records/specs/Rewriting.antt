-- What a change of the bytes of a file with a number comes to.
use Rattle.std.specs.Prelude.{ℕ, IsTrue, List, length, Option, Some, None, Result, Ok, Err}
use Rattle.model.specs.declared.limits.Limits.{Limits}
use Rattle.model.specs.Changing.{is_idle_size, sets_both, truncates_file}
use Rattle.model.specs.Descriptors.{puts}
use Rattle.model.specs.Edits.{contents}
use Rattle.model.specs.Records.{Applies, Change, applied, set_file, stamped, truncate, write}
use Rattle.model.specs.Room.{nothing, logs, changes_size, puts_bytes}
use Rattle.model.specs.Trees.{Tree, Description}
use Rattle.model.specs.Volumes.{Volume, IsMounted, tree_of}
use Rattle.model.specs.declared.errno.Errno.{Errno}
use Rattle.model.specs.declared.reply.Reply.TheVariants.{Done, Refused, Wrote}
use Rattle.model.specs.declared.time.Time.{Time}
use Rattle.records.specs.declared.prepared.Prepared.{Prepared}

-- the record applies, and needs no sweep
abbrev pub GoesOver : Limits → Volume → (ℕ → Option Description) → Change → Type 0
GoesOver limits v table change = Applies limits v change × IsMounted (applied change v) table

-- what writing bytes into a file comes to at this time, whatever else changes by the call: a
-- refusal, nothing where there are no bytes, or what the record does
abbrev pub PutsBytes : Limits → Option Time → Volume → (ℕ → Option Description) → ℕ → ℕ → List ℕ → Result (Option Prepared) Errno → Type 0
PutsBytes limits time v table n offset bytes (Err errno) =
    (also : Tree → Tree) → puts limits time (tree_of v table) n offset bytes also (Refused errno) (tree_of v table) nothing
PutsBytes limits time v table n offset bytes (Ok None) =
    (also : Tree → Tree) → puts limits time (tree_of v table) n offset bytes also (Wrote 0) (tree_of v table) nothing
PutsBytes limits time v table n offset bytes (Ok (Some p)) =
    GoesOver limits v table (stamped time (write n offset bytes))
    × ((also : Tree → Tree) → puts limits time (tree_of v table) n offset bytes also (Wrote (length bytes))
    (also (tree_of (applied (stamped time (write n offset bytes)) v) table)) (logs (puts_bytes (length (contents (tree_of v table) n)) offset (length bytes))))

-- what a new size of a file comes to: nothing where it changes nothing, or what the record does; it
-- isn't refused
abbrev pub TruncatesBytes : Limits → Option Time → Volume → (ℕ → Option Description) → ℕ → ℕ → Result (Option Prepared) Errno → Type 0
TruncatesBytes limits time v table n size (Err errno) = ⊥
TruncatesBytes limits time v table n size (Ok None) = truncates_file time (tree_of v table) n size Done (tree_of v table) nothing
TruncatesBytes limits time v table n size (Ok (Some p)) =
    GoesOver limits v table (stamped time (truncate n size))
    × truncates_file time (tree_of v table) n size Done (tree_of (applied (stamped time (truncate n size)) v) table)
    (logs (changes_size (length (contents (tree_of v table) n)) size))

-- what a mode and a size of a file come to: the mode alone is left where the size changes nothing, or
-- what the record of both does; it isn't refused
abbrev pub SetsBoth : Limits → Option Time → Volume → (ℕ → Option Description) → (n mode size : ℕ) → Result (Option Prepared) Errno → Type 0
SetsBoth limits time v table n mode size (Err errno) = ⊥
SetsBoth limits time v table n mode size (Ok None) = IsTrue (is_idle_size time n size (tree_of v table))
SetsBoth limits time v table n mode size (Ok (Some p)) =
    GoesOver limits v table (stamped time (set_file n mode size))
    × sets_both time (tree_of v table) n mode size Done (tree_of (applied (stamped time (set_file n mode size)) v) table)
    (logs (changes_size (length (contents (tree_of v table) n)) size))
