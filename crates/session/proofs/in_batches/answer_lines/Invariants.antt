use Rattle.std.proofs.Common.{◌≡◌, Bool, false, []}
use Rattle.std.specs.Io.KnownBytes.{prepend_known}
use Rattle.session.proofs.TalkingLemmas.{IsTalking}
use Rattle.session.specs.Rounds.{AreAnswered}
use Rattle.session.proofs.in_batches.answer_lines.Given as goal

abbrev pub invariant-loop : goal.invariant-loop
invariant-loop g l = record {
  talking : AreAnswered {G = g.S.Station} l.manners.durability l.fn.files l.fn.files [] → IsTalking {G = g.S.Station} l.manners l.fn.files (prepend_known [] (g.R.Read.remaining l.fn.input.inner)) (g.O.Write.contents l.fn.out.inner)
      l.files (g.O.Write.contents l.out.inner) (prepend_known l.pending.items (g.R.Read.remaining l.input.inner)) l.kept;
  quiet : l.manners.prompts ≡ false → g.E.Write.contents l.err.inner ≡ g.E.Write.contents l.fn.err.inner;
}
