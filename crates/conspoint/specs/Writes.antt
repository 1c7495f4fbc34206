-- The blocks of a plan in the words of what images mean.
use Rattle.std.specs.Prelude.{List, map}
use Rattle.images.specs.Cuts.{Write}
use Rattle.conspoint.specs.declared.plan.PlannedBlock.{PlannedBlock}

abbrev pub write_of : PlannedBlock → Write
write_of b = record { place = b.place; bytes = b.bytes }

abbrev pub writes_of : List PlannedBlock → List Write
writes_of blocks = map write_of blocks
