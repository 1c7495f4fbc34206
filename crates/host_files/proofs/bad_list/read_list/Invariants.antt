use Rattle.std.proofs.Common.{◌≡◌, ◌++◌, drop}
use Rattle.host_files.specs.BadList.{IsListOf, list_text}
use Rattle.host_files.proofs.bad_list.read_list.Given as goal

abbrev pub invariant-loop-byte : goal.invariant-loop-byte
invariant-loop-byte l = IsListOf l.sectors l.list.items × (list_text l.list.items ++ (l.word.items ++ drop l.byte-index l.text) ≡ l.text)
