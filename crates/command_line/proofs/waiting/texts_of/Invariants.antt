use Rattle.std.specs.Prelude.{◌≡◌, map, take}
use Rattle.command_line.proofs.waiting.texts_of.Given as goal

abbrev pub invariant-loop-word : goal.invariant-loop-word
invariant-loop-word g l = map (λ t. t.now) l.texts.items ≡ map g.S.AsStr.text (take l.word-index l.words)
