use Rattle.std.proofs.Common.{◌↔◌, length}
use Rattle.layout.proofs.EntryLaws.{HoldsSome}
use Rattle.layout.proofs.directory.holds_entries.Given as goal

abbrev pub invariant-loop-behind : goal.invariant-loop-behind
invariant-loop-behind l = HoldsSome l.inodes l.bytes ↔ HoldsSome l.inodes l.rest

abbrev pub decreases-loop-behind : goal.decreases-loop-behind
decreases-loop-behind l = length l.rest
