-- A table that keeps its room, over several steps.
use Rattle.descriptors.specs.Tables.{KeepsRoom}
use Rattle.descriptors.specs.declared.table.Descriptors.{Descriptors}

pub keeps_still : (t : Descriptors) → KeepsRoom t t
keeps_still t fd room = room

pub keeps_both : (old mid new : Descriptors) → KeepsRoom old mid → KeepsRoom mid new → KeepsRoom old new
keeps_both old mid new first next fd room = next fd (first fd room)
