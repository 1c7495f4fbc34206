use Rattle.std.proofs.Common.{◌≡◌, Bool, false, []}
use Rattle.std.specs.Fn.{FnReturnsAt}
use Rattle.std.specs.Io.KnownBytes.{prepend_known}
use Rattle.session.proofs.ShellLemmas.{IsListening}
use Rattle.session.proofs.line_by_line.answer_lines.Given as goal

abbrev pub invariant-loop : goal.invariant-loop
invariant-loop g l = record {
  listening : IsListening {G = g.S.Station} l.fn.fs l.fs (prepend_known [] (g.R.Read.remaining l.fn.input.inner)) (prepend_known l.pending.items (g.R.Read.remaining l.input.inner)) (g.O.Write.contents l.fn.out.inner) (g.O.Write.contents l.out.inner)
      (λ (b : Bool). FnReturnsAt g.C.Fn l.was_cut l.fs.system.blocks.buffers.station b);
  quiet : l.prompts ≡ false → g.E.Write.contents l.err.inner ≡ g.E.Write.contents l.fn.err.inner;
}
