-- The room of the disk: what a call asks of the blocks that are left.
use Rattle.std.specs.Prelude.{ℕ, List, ◌+◌, ◌-◌, ◌*◌, ◌/◌, ◌<◌, max, nat_lt, if◌then◌else◌, Bool, IsTrue}
use Rattle.model.specs.declared.costs.Costs.{Costs}

-- the kind of work that a record of the log makes for a consistency point
pub data Work : Type 0 where
  adds_name : Work  -- it creates, links or renames
  removes_name : Work
  puts_bytes : (size offset count : ℕ) → Work  -- so many bytes at an offset, into a file of this size
  changes_size : (size to : ℕ) → Work  -- and a mode with it, perhaps
  changes_bits : Work  -- of attributes

-- how many blocks of 4,096 bytes so many bytes at an offset touch
abbrev pub touched : ℕ → ℕ → ℕ
touched offset count = (offset + count + 4095) / 4096 - offset / 4096

-- the most blocks that a write stores beside its own and those that lead to them, where its file
-- has this size before or behind it
abbrev pub beside : Costs → ℕ → ℕ
beside costs size = if nat_lt costs.single_file size then costs.great_file else costs.file

-- the most blocks that a consistency point stores for a record
abbrev pub cost : Costs → Work → ℕ
cost costs adds_name = costs.adds_name
cost costs removes_name = costs.removes_name
cost costs (puts_bytes size offset count) = 2 * touched offset count + beside costs (max size (offset + count))
cost costs (changes_size size to) = costs.file
cost costs changes_bits = costs.mode

-- the blocks that stay free behind a record, so that files can still be taken away
abbrev pub headroom : Costs → Work → ℕ
headroom costs adds_name = costs.headroom
headroom costs removes_name = 0
headroom costs (puts_bytes size offset count) = costs.headroom
headroom costs (changes_size size to) = if nat_lt size to then costs.headroom else 0
headroom costs changes_bits = 0

-- what a call asks of the room that is left
pub data Need : Type 0 where
  nothing : Need  -- it logs no record
  logs : Work → Need
  a_snapshot : Need  -- it takes one
  a_restore : (orphans : ℕ) → Need  -- it makes the tree that of one, which keeps so many orphans

-- the room of the disk at an answer
pub record Room : Type 0 where
  pub costs : Costs
  pub blocks : ℕ
  pub free : ℕ  -- the zero entries of the settled root's block map
  pub pledged : ℕ  -- blocks that a consistency point may store for what the settled root doesn't cover
  pub is_covered : Bool  -- the settled root has the tree as it is now, and no record stands beside it
  pub orphans_of : List ℕ → ℕ  -- orphans that the image keeps under the snapshot of a name
  pub stored : ℕ → ℕ → Bool  -- which blocks of a file are stored, by its number and their index

-- the blocks that no new data may have, of the free ones: pledged ones, those that the next
-- consistency point stores whatever changed, and those that stay for removals
abbrev pub reserved_of : Room → ℕ
reserved_of room = room.pledged + room.costs.point + room.costs.headroom

-- the room isn't enough for a need, although the settled root covers all that was done
abbrev pub IsShort : Room → Need → Type 0
IsShort room nothing = ⊥
IsShort room (logs work) = IsTrue room.is_covered × (room.free < room.pledged + cost room.costs work + room.costs.point + headroom room.costs work)
IsShort room a_snapshot = IsTrue room.is_covered × (room.free < room.pledged + 2 * room.costs.point + 1)
IsShort room (a_restore orphans) =
    IsTrue room.is_covered × (room.free < room.pledged + 2 * room.costs.point + 1 + room.costs.orphan * orphans)
