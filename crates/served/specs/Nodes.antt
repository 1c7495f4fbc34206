-- The kernel's numbers of objects.
use Rattle.std.specs.Prelude.{ℕ, ◌+◌, ◌*◌, ◌-◌, ◌/◌, ◌%◌, ◌^◌, ◌==◌, min, nat_lt, if◌then◌else◌}
use Rattle.model.specs.declared.limits.TheConstants.{ROOT_NUMBER}
use Rattle.file_system.specs.declared.handle.Handle.{Handle}
use Rattle.served.specs.declared.node.Node.{Node}
use Rattle.served.specs.declared.node.Node.TheVariants.{Snapshots, Running, Within}
use Rattle.served.specs.declared.node.TheConstants.{GREATEST_TOLD, ROOT_NODE, SNAPSHOTS_NODE}

-- a generation as far as a node tells it
abbrev pub told_generation : ℕ → ℕ
told_generation generation = min generation GREATEST_TOLD

-- of an object of the running tree: its generation in the upper half, its number in the lower one
abbrev pub node_of : Handle → ℕ
node_of handle =
    if handle.number == ROOT_NUMBER then ROOT_NODE
    else told_generation handle.generation * 2 ^ 32 + handle.number

-- of what has a number in a snapshot: the highest bit, and the snapshot's id, in the upper half
abbrev pub node_within : ℕ → ℕ → ℕ
node_within snapshot number = 2 ^ 63 + snapshot * 2 ^ 32 + number

-- what a node is a number of
abbrev pub read_node : ℕ → Node
read_node node =
    if node == ROOT_NODE then Running (record { number = ROOT_NUMBER; generation = 0 })
    else (if node == SNAPSHOTS_NODE then Snapshots
    else (if nat_lt node (2 ^ 63) then Running (record { number = node % 2 ^ 32; generation = node / 2 ^ 32 })
    else Within ((node - 2 ^ 63) / 2 ^ 32) (node % 2 ^ 32)))
