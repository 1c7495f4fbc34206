use Rattle.std.proofs.Common.{refl}
use Rattle.inode.proofs.BaseLaws.{same_base}
use Rattle.inode.proofs.file.File.make_room.Goals as goal

pub returns-clause-same : goal.returns-clause-same
returns-clause-same c = record {
  size = refl;
  blocks = c.make_room.ensures.same;
  base = same_base _ _ c.make_room.ensures.settled;
  sound = c.make_room.ensures.sound;
  was_sound = c.make_room.ensures.was_sound;
  changes = record { settled = c.make_room.ensures.settled; kept = c.make_room.ensures.kept; only = c.make_room.ensures.only };
}
