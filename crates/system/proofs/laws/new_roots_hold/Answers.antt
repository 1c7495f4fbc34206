use Rattle.system.proofs.laws.new_roots_hold.Goals as goal

pub returns : goal.returns
returns c = record {
  newest = c.finished_points_hold.ensures.newest;
  holds = c.finished_points_hold.ensures.holds;
  free = c.finished_points_hold.ensures.free;
  of_disk = c.needed_blocks_are_of_the_disk.ensures;
  unneeded = c.free_blocks_are_unneeded.ensures;
  readable = c.volumes_are_readable.ensures;
  settled = c.readable_inodes_are_settled.ensures.settled;
  held = c.readable_inodes_are_settled.ensures.holds;
  others = c.written_disks_have_the_blocks.ensures.others;
}
