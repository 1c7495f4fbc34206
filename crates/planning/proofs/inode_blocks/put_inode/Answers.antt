use Rattle.std.proofs.Common.{rules}
use Rattle.planning.proofs.inode_blocks.put_inode.Goals as goal

pub returns-in_err-make_room-clause-file : goal.returns-in_err-make_room-clause-file
returns-in_err-make_room-clause-file g c = record {
  size = search rules;
  settled = search rules;
  sound = search rules;
  changes = record { kept = search rules; only = search rules };
}

pub returns-in_err-block-clause-file : goal.returns-in_err-block-clause-file
returns-in_err-block-clause-file g c = record {
  size = search rules;
  settled = search rules;
  sound = search rules;
  changes = record { kept = search rules; only = search rules };
}

pub returns-clause-file : goal.returns-clause-file
returns-clause-file g c = record {
  size = search rules;
  settled = search rules;
  sound = search rules;
  changes = record { kept = search rules; only = search rules };
}

pub returns-in_err-put-clause-file : goal.returns-in_err-put-clause-file
returns-in_err-put-clause-file g c = record {
  size = search rules;
  settled = search rules;
  sound = search rules;
  changes = record { kept = search rules; only = search rules };
}
