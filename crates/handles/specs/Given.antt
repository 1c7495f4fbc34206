-- Which numbers a command gives to new objects.
use Rattle.std.specs.Prelude.{ℕ, ◌≡◌, ◌⊎◌, Bool, true, false, IsFalse, IsTrue}
use Rattle.model.specs.declared.command.Command.{Command}
use Rattle.model.specs.declared.command.Command.TheVariants as command
use Rattle.model.specs.declared.command.PathCall.TheVariants as call
use Rattle.model.specs.declared.reply.Reply.{Reply}
use Rattle.model.specs.declared.reply.Reply.TheVariants.{Done}
use Rattle.model.specs.Circumstances.{Circumstances, Allowed}
use Rattle.model.specs.Outcomes.{IsFresh}
use Rattle.model.specs.States.{State, failed}
use Rattle.model.specs.Trees.{IsUsed}

-- the command may make an object: `mkdir`, `symlink`, and `open` and `openstat` that create
abbrev pub may_make : Command → Bool
may_make (command.Path (call.Mkdir path mode)) = true
may_make (command.Path (call.Symlink text path)) = true
may_make (command.Open path flags mode below) = flags.creates
may_make (command.OpenStat path flags mode below) = flags.creates
may_make _ = false

-- the command is a `snap restore` that is done: another tree stands there
abbrev pub has_restored : Command → Reply → Bool
has_restored (command.SnapRestore name) Done = true
has_restored _ _ = false

-- What a command with this reply does to the numbers in use: the file system has the same limits;
-- where the system failed it stays so, and the tree too; and but for `snap restore` a number in use
-- was in use, or it is the one that a new object gets.
pub record GivesFresh (s t : State) (asked : Command) (answer : Reply) : Type 0 where
  pub limits : t.limits ≡ s.limits
  pub rests : s.mark ≡ failed → t.mark ≡ failed
  pub stays : t.mark ≡ failed → t.tree ≡ s.tree
  pub used : IsFalse (has_restored asked answer) → (n : ℕ) → IsUsed t.tree n → IsUsed s.tree n ⊎ (IsTrue (may_make asked) × IsFresh s.limits s.tree n)

-- so does each command that is allowed
abbrev pub FreshNumbersAreGiven : Type 0
FreshNumbersAreGiven =
    (c : Circumstances) (s t : State) (asked : Command) (answer : Reply) → Allowed c s asked answer t → GivesFresh s t asked answer
