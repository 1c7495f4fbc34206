-- How many blocks an edit of a directory changes.
use Rattle.std.specs.Prelude.{ℕ, ◌+◌, ◌≤◌}
use Rattle.std.specs.BTreeMap.{btree_map_len}
use Rattle.inode.specs.Room.{changed_below, edit_room, file_room}
use Rattle.inode.specs.declared.file.File.{File}
use Rattle.dirs.specs.declared.edit.Edit.{Edit}

-- so many blocks are prepared
abbrev pub piece_count : Edit → ℕ
piece_count e = btree_map_len e.changed

-- an edit prepares one block more at the most
abbrev pub AddsPiece : Edit → Edit → Type 0
AddsPiece old new = piece_count new ≤ piece_count old + 1

-- So many blocks at the most are changed that weren't, and a consistency point may store no more
-- for them than an edit's room.
pub record ChangesFew (k : ℕ) (old new : File) : Type 0 where
  pub changed : (n : ℕ) → changed_below new.tree n ≤ changed_below old.tree n + k
  pub room : file_room new ≤ file_room old + edit_room k
