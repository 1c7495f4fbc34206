use Rattle.std.proofs.Common.{◌≡◌, take}
use Rattle.std.specs.Char.{is_ascii_uppercase}
use Rattle.std.specs.List.{list_any}
use Rattle.script.proofs.words.has_capital.Given as goal

abbrev pub invariant-loop-byte : goal.invariant-loop-byte
invariant-loop-byte l = l.found ≡ list_any is_ascii_uppercase (take l.byte-index l.word)
