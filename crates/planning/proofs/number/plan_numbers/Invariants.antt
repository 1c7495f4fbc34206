use Rattle.std.proofs.Common.{ℕ, ◌<◌, slice_index}
use Rattle.buffers.specs.Reads.{HasOnlyRead}
use Rattle.blockmap.specs.Maps.{entry_at}
use Rattle.conspoint.specs.Drafts.{Grows}
use Rattle.conspoint.specs.Marks.{IsAmong}
use Rattle.conspoint.specs.Space.{TakesAtMost}
use Rattle.planning.specs.Inodes.{ChangesFile, HasChange}
use Rattle.planning.specs.Progress.{KeepsSets}
use Rattle.planning.specs.Space.{nodes_below}
use Rattle.planning.specs.Steps.{ArePlanned, OverTree}
use Rattle.planning.proofs.number.plan_numbers.Given as goal

abbrev pub invariant-loop-i : goal.invariant-loop-i
invariant-loop-i g l = record {
  read : HasOnlyRead g.B.Blocks l.initial.blocks l.blocks;
  grows : Grows l.fn.draft l.draft;
  sets : KeepsSets (entry_at l.fn.draft.map.parts.items) (entry_at l.draft.map.parts.items);
  counted : (m : ℕ) → ((k : ℕ) → k < l.i → slice_index l.numbers.items k < m) → TakesAtMost (nodes_below l.inodes m) l.fn.draft l.draft;
  file : ChangesFile (HasChange l.inodes) l.fn.file l.file;
  planned : (o : OverTree g.B.Blocks l.initial.blocks l.inodes) (from : ℕ) → ArePlanned (λ n. ⊥) from l.fn.draft o.disk o.settled o.before l.inodes l.fn.file
      → ArePlanned (IsAmong l.numbers.items l.i) from l.draft o.disk o.settled o.before l.inodes l.file;
}
