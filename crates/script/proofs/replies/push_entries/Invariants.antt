use Rattle.std.proofs.Common.{◌≡◌, ◌++◌, drop}
use Rattle.std.specs.List.{flat_map}
use Rattle.script.specs.Lines.{spaced}
use Rattle.script.specs.Replies.{entry_words}
use Rattle.script.proofs.replies.push_entries.Given as goal

abbrev pub invariant-loop-entry : goal.invariant-loop-entry
invariant-loop-entry l = l.line.items ++ spaced (flat_map entry_words (drop l.entry-index l.entry-items)) ≡ l.fn.line.items ++ spaced (flat_map entry_words l.fn.entries)
