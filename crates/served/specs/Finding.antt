-- What the kernel's nodes lead to.
use Rattle.std.specs.Prelude.{ℕ, ◌==◌, ◌||◌, if◌then◌else◌}
use Rattle.file_system.specs.declared.handle.Handle.{Handle}
use Rattle.model.specs.declared.limits.TheConstants.{ROOT_NUMBER}
use Rattle.served.specs.declared.finding.Found.{Found}
use Rattle.served.specs.declared.finding.Found.TheVariants as found
use Rattle.served.specs.declared.node.Node.TheVariants.{Snapshots, Running, Within}
use Rattle.served.specs.Nodes.{read_node, told_generation}
use Rattle.served.specs.Turns.{Turn, gives, ◌▹◌, handle_now}

-- an object of the running tree, where its number still has the generation that was told
abbrev pub still : Handle → Handle → Found
still told now =
    if (told.number == ROOT_NUMBER) || (told_generation now.generation == told.generation) then found.Running now
    else found.Nothing

-- what a node leads to
abbrev pub finds : ℕ → Turn Found
finds node = elim (read_node node) [
  | Snapshots ↦ gives found.Snapshots
  | Within snapshot number ↦ gives (found.Within snapshot number)
  | Running told ↦ handle_now told.number ▹ (λ now. gives (still told now))
]
