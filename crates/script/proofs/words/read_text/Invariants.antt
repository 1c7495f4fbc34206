use Rattle.std.proofs.Common.{◌≡◌, ◌++◌, length}
use Rattle.std.specs.List.{flat_map}
use Rattle.script.specs.Words.{byte_word, AreByteValues}
use Rattle.script.proofs.words.read_text.Given as goal

abbrev pub invariant-loop-rest : goal.invariant-loop-rest
invariant-loop-rest l = AreByteValues l.bytes.items × (flat_map byte_word l.bytes.items ++ l.rest ≡ l.fn.word)

abbrev pub decreases-loop-rest : goal.decreases-loop-rest
decreases-loop-rest l = length l.rest
