-- The limits of the examples: 32 numbers, and a disk of 64 blocks.
use Rattle.model.specs.declared.costs.Costs.{Costs}
use Rattle.model.specs.declared.limits.Limits.{Limits}
use Rattle.std.proofs.Common.{true, false}

abbrev pub costs : Costs
costs = record {
  adds_name = 24;
  removes_name = 24;
  file = 6;
  great_file = 8;
  single_file = 67108864;
  mode = 2;
  orphan = 4;
  point = 5;
  headroom = 16;
}

abbrev pub limits : Limits
limits = record {
  inodes = 32;
  file_bytes = 68719476736;
  file_names = 1000;
  directory_names = 65536;
  path_bytes = 1023;
  snapshots = 30;
  least_blocks = 64;
  has_attributes = false;
  costs = costs;
}

-- the same where a file system keeps times
abbrev pub timed_limits : Limits
timed_limits = record limits { has_attributes = true }
