-- What limits a file system can have.
use Rattle.std.specs.Prelude.{◌≤◌}
use Rattle.model.specs.declared.limits.Limits.{Limits}
use Rattle.model.specs.declared.limits.TheConstants.{GREATEST_OFFSET}

-- limits that a file system can have: the length of each file is an offset of an open one, and a
-- file has a name
pub record AreLimits (limits : Limits) : Type 0 where
  pub files : limits.file_bytes ≤ GREATEST_OFFSET
  pub named : 1 ≤ limits.file_names
