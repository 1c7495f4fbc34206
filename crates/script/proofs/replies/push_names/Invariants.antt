use Rattle.std.proofs.Common.{◌≡◌, ◌++◌, map, drop}
use Rattle.script.specs.Lines.{spaced}
use Rattle.script.specs.Words.{text_word}
use Rattle.script.proofs.replies.push_names.Given as goal

abbrev pub invariant-loop-name : goal.invariant-loop-name
invariant-loop-name l = l.line.items ++ spaced (map text_word (map (λ name. name.items) (drop l.name-index l.name-items))) ≡ l.fn.line.items ++ spaced (map text_word l.fn.names)
