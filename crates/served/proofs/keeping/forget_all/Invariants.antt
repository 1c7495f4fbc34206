use Rattle.std.proofs.Common.{◌≤◌, ◌+◌, length}
use Rattle.fuse.specs.Forgets.{forgets_of}
use Rattle.served.specs.Keeping.{forgets_all}
use Rattle.served.specs.Known.{Known, known_of}
use Rattle.served.specs.Turns.{Came}
use Rattle.served.proofs.keeping.forget_all.Given as goal

-- what comes of those that are left is what comes of all
abbrev pub invariant-loop : goal.invariant-loop
invariant-loop g l =
    ((new : g.row.F.Denot) (known : Known) → Came g.F.FileSystem l.files new (forgets_all (known_of l.memory) (forgets_of l.rest)) known
    → Came g.F.FileSystem l.fn.files new (forgets_all (known_of l.fn.memory) (forgets_of l.fn.forgets)) known)
    × (l.counter + length (forgets_of l.rest) ≤ l.end)
