use Rattle.std.specs.Io.KnownBytes.{prepend_known}
use Rattle.session.proofs.ReadingLemmas.{IsSkipping}
use Rattle.session.proofs.reading.skip_line.Given as goal

abbrev pub invariant-loop : goal.invariant-loop
invariant-loop g l = IsSkipping (prepend_known l.fn.pending.items (g.R.Read.remaining l.fn.input.inner)) l.pending.items (g.R.Read.remaining l.input.inner) l.is_comment
