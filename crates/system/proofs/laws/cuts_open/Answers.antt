use Rattle.system.proofs.laws.cuts_open.Goals as goal

pub returns : goal.returns
returns c = record {
  forgets = c.mounts_forget_open_files.ensures;
  free = c.free_blocks_are_no_matter.ensures;
  unfinished = c.cuts_are_those_of_images.ensures.unfinished;
  finished = c.cuts_are_those_of_images.ensures.finished;
  lost = c.cuts_are_those_of_images.ensures.lost;
  without_slot = c.lost_slots_open_as_before.ensures;
  opens = c.finished_points_open.ensures;
  one = c.roots_cover_epochs.ensures.one;
  both = c.roots_cover_epochs.ensures.both;
}
