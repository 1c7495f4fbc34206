use Rattle.std.proofs.Common.{◌≡◌, ℕ, ◌<◌, true, Some}
use Rattle.std.specs.Prelude.{slice_get}
use Rattle.std.specs.Global.{Vec}
use Rattle.checker.specs.Seen.{HasRisen}
use Rattle.checker.specs.Spans.{name_in}
use Rattle.checker.specs.declared.seen.Span.{Span}
use Rattle.checker.proofs.SeenNames.{has_key}
use Rattle.checker.proofs.seen.Rising.to_set.Given as goal

abbrev pub invariant-loop-k : goal.invariant-loop-k
invariant-loop-k l = record {
  risen : (key : Vec ℕ) → has_key l.set key ≡ true → HasRisen l.self key.items;
  has : (j : ℕ) (s : Span) (key : Vec ℕ) → j < l.k → slice_get l.self.spans.items j ≡ Some s → key.items ≡ name_in l.self.text.items s → has_key l.set key ≡ true;
}
