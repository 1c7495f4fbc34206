-- Worked rows of `snap restore`.
use Rattle.std.proofs.Common.{ℕ, [], ◌∷◌, true, false, refl, subst, arith, lit≤, Some}
use Rattle.std.specs.Prelude.{codes}
use Rattle.model.specs.declared.errno.Errno.TheVariants.{EBUSY, NOSNAP}
use Rattle.model.specs.declared.reply.Reply.TheVariants as reply
use Rattle.model.specs.declared.command.Command.TheVariants as command
use Rattle.model.specs.Trees.{Tree, root_alone}
use Rattle.model.specs.Attributes.{mode_alone}
use Rattle.model.specs.Edits.{with_directory, with_file, with_descriptor}
use Rattle.model.specs.Room.{Room, Need, nothing, a_restore, IsShort}
use Rattle.model.specs.States.{State, empty, with_tree, with_snapshots}
use Rattle.model.specs.Steps.{WouldStep}
use Rattle.model.specs.Circumstances.{IsShortFor}
use Rattle.model.proofs.ExampleLimits.{costs, limits}

-- a disk of 64 blocks, whose snapshots keep three orphans each
abbrev room_of : ℕ → Room
room_of free = record { costs = costs; blocks = 64; free = free; pledged = 0; is_covered = true; orphans_of = λ name. 3; stored = λ n k. false }

-- `mkdir /a`, `snap take s`

abbrev taken : State
taken =
    let t : Tree = with_directory (codes "a" ∷ []) 4 (mode_alone 0o755) (root_alone 0o755) in with_snapshots ((codes "s", t) ∷ []) (with_tree t (empty limits))

-- the tree that has another file since, and not the directory
abbrev changed : State
changed = with_tree (with_file (codes "f" ∷ []) 4 (mode_alone 0o644) (root_alone 0o755)) taken

-- `snap restore s`: the tree is the one that was taken, and the snapshot stays
restores_s : WouldStep (room_of 60) changed (command.SnapRestore (codes "s")) reply.Done taken (a_restore 3)
restores_s = (refl, ((codes "s", taken.tree), refl, refl), refl)

no_such_snapshot : WouldStep (room_of 60) changed (command.SnapRestore (codes "t")) (reply.Refused NOSNAP) changed nothing
no_such_snapshot = (refl, refl, refl)

-- the last descriptor is open

abbrev busy : State
busy = with_tree (with_descriptor 31 (Some (record { number = 4; offset = 0; reads = true; writes = false; appends = false })) changed.tree) changed

a_file_is_open : WouldStep (room_of 0) busy (command.SnapRestore (codes "s")) (reply.Refused EBUSY) busy nothing
a_file_is_open = (refl, refl, refl)

-- an open file is found before room is asked for, and a name that is missing before both
busy_before_room : ¬ IsShortFor (room_of 0) busy (command.SnapRestore (codes "s"))
busy_before_room (answer, new, need, would, short) = subst (λ (n : Need). IsShort (room_of 0) n) would.2 short

missing_before_busy : WouldStep (room_of 0) busy (command.SnapRestore (codes "t")) (reply.Refused NOSNAP) busy nothing
missing_before_busy = (refl, refl, refl)

-- with three such files 23 blocks are asked for: twice the five of each point, the root block, and four for each

short_of_one : IsShortFor (room_of 22) changed (command.SnapRestore (codes "s"))
short_of_one = (reply.Done, taken, a_restore 3, restores_s, (refl, lit≤ tt))

just_enough : ¬ IsShort (room_of 23) (a_restore 3)
just_enough short = absurd (omega (arith, short.1))
