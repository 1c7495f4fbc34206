use Rattle.std.proofs.Common.{sym, ◌∙◌, rules}
use Rattle.file_station.specs.Memory.{contents_after}
use Rattle.file_station.proofs.memory_files.MemoryFiles.new.Goals as goal

pub invariant_of-result : goal.invariant_of-result
unfolding contents_after
invariant_of-result c = record {
  disk_is = rw c.new.ensures.items (sym (c.in_ok-from_slice.ensures.items ∙ c.deref.ensures.value));
  nvram_is = rw c.new.ensures.items (sym (c.in_ok-from_slice-2.ensures.items ∙ c.deref-2.ensures.value));
  disk_size = search rules;
  nvram_size = search rules;
}
