use Rattle.std.proofs.Common.{ℕ, ◌≡◌, ◌<◌, length, get_or}
use Rattle.conspoint.specs.declared.plan.PlannedBlock.{PlannedBlock}
use Rattle.overlay.specs.declared.pending.Entry.{Entry}
use Rattle.overlay.proofs.pending.index_of.Given as goal

abbrev pub invariant-loop-i : goal.invariant-loop-i
invariant-loop-i l = record {
  made : length l.index.items ≡ l.i;
  nths : (k : ℕ) (e : Entry) → k < l.i → (get_or l.index.items k e).nth ≡ k;
  places : (k : ℕ) (e : Entry) (d : PlannedBlock) → k < l.i → (get_or l.index.items k e).place ≡ (get_or l.fn.blocks k d).place;
}
