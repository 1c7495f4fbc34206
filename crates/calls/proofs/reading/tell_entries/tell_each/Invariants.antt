use Rattle.std.proofs.Common.{ℕ, Ok}
use Rattle.std.specs.List.{AllZip}
use Rattle.buffers.specs.Errors.{IsFault}
use Rattle.buffers.specs.declared.error.BlockError.{BlockError}
use Rattle.paths.specs.Standing.{Looks, OnVolumes}
use Rattle.calls.specs.Entries.{IsEntryOf}
use Rattle.calls.proofs.reading.tell_entries.tell_each.Given as goal

abbrev pub invariant-loop-name : goal.invariant-loop-name
invariant-loop-name g l = record {
  looks : Looks {T = ℕ} {E = BlockError} g.B.Blocks IsFault l.initial.blocks l.blocks l.initial.inodes l.inodes (Ok 0);
  each : OnVolumes g.B.Blocks l.initial.blocks l.initial.inodes (λ disk settled v. AllZip (IsEntryOf v) l.yielded l.entries.items);
}
