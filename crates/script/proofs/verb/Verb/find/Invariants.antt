use Rattle.std.proofs.Common.{◌≢◌, ℕ, ◌<◌, slice_index_or}
use Rattle.script.specs.Verbs.{verb_name}
use Rattle.script.specs.declared.verb.Verb.{Verb}
use Rattle.script.proofs.verb.Verb.find.Given as goal

abbrev pub invariant-loop-verb : goal.invariant-loop-verb
invariant-loop-verb l = (k : ℕ) (d : Verb) → k < l.verb-index → l.word ≢ verb_name (slice_index_or l.verbs k d)
