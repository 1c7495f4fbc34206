use Rattle.std.proofs.Common.{◌≡◌, ◌++◌, drop}
use Rattle.host_files.specs.BadList.{list_text}
use Rattle.host_files.proofs.bad_list.write_list.Given as goal

abbrev pub invariant-loop-number : goal.invariant-loop-number
invariant-loop-number l = l.text.items ++ list_text (drop l.number-index l.list) ≡ list_text l.list
