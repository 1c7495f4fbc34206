use Rattle.conspoint.specs.Marks.{AreMarked}
use Rattle.conspoint.specs.Steps.{Keeps}
use Rattle.conspoint.proofs.marks.mark_all.Given as goal

abbrev pub invariant-loop-i : goal.invariant-loop-i
invariant-loop-i l = record {
  keeps : Keeps l.fn.draft l.draft;
  marked : AreMarked l.blocks l.i l.is_in l.fn.draft.map.parts.items l.draft.map.parts.items;
}
