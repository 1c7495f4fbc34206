use Rattle.std.proofs.Common.{◌≡◌, ◌++◌, drop}
use Rattle.std.specs.List.{flat_map}
use Rattle.script.specs.Words.{byte_word, text_word}
use Rattle.script.proofs.words.push_text.Given as goal

abbrev pub invariant-loop-byte : goal.invariant-loop-byte
invariant-loop-byte l = l.line.items ++ flat_map byte_word (drop l.byte-index l.text) ≡ l.fn.line.items ++ text_word l.text
