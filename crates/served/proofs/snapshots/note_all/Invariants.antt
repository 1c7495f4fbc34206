use Rattle.std.proofs.Common.{◌≡◌, map, take}
use Rattle.served.specs.Known.{known_of}
use Rattle.served.specs.Snapshots.{with_names}
use Rattle.served.proofs.snapshots.note_all.Given as goal

abbrev pub invariant-loop-name : goal.invariant-loop-name
invariant-loop-name l =
    known_of l.memory ≡ with_names (map (λ name. name.items) (take l.name-index l.names)) (known_of l.fn.memory)
