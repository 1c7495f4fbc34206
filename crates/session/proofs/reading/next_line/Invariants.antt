use Rattle.std.specs.Prelude.{◌≤◌, length, take}
use Rattle.std.specs.Io.KnownBytes.{prepend_known, Keeps}
use Rattle.session.specs.Reading.{IsPlain}
use Rattle.session.proofs.reading.next_line.Given as goal

abbrev pub invariant-loop : goal.invariant-loop
invariant-loop g l = record {
  kept : Keeps (prepend_known l.fn.pending.items (g.R.Read.remaining l.fn.input.inner)) (prepend_known l.pending.items (g.R.Read.remaining l.input.inner));
  within : l.plain ≤ length l.pending.items;
  plain : IsPlain (take l.plain l.pending.items);
}
