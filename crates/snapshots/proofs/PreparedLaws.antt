-- What the tests of a command that changes the snapshots come to.
use Rattle.std.proofs.Common.{◌≡◌, ◌∙◌, [], ◌∷◌, Bool, true, Option, Some, None, refl, ap, sym, subst}
use Rattle.std.specs.Prelude.{is_none}
use Rattle.model.specs.Paths.{Name, Tests, first_refusal}
use Rattle.model.specs.Room.{Need, nothing}
use Rattle.model.specs.States.{State}
use Rattle.model.specs.Steps.{Step, frozen, has_open_below, passing, says}
use Rattle.model.specs.Trees.{Tree}
use Rattle.model.specs.declared.command.Command.TheVariants.{SnapDelete, SnapRestore}
use Rattle.model.specs.declared.errno.Errno.{Errno}
use Rattle.model.specs.declared.errno.Errno.TheVariants.{EBUSY, NOSNAP}
use Rattle.model.specs.declared.limits.TheConstants.{OPEN_FILES}
use Rattle.model.specs.declared.reply.Reply.{Reply}
use Rattle.model.specs.declared.reply.Reply.TheVariants.{Refused}
use Rattle.snapshots.specs.Prepared.{Refuses}

-- a test fails, or none does
abbrev by_first : State → Step → Option Errno → Step
by_first s rest first = elim first as (λ _. Step) [ Some errno ↦ says s (Refused errno) | None ↦ rest ]

pub refused : (s : State) (tests : Tests) (rest : Step) (errno : Errno) → first_refusal tests ≡ Some errno → passing s tests rest (Refused errno) s nothing
refused s tests rest errno is = subst (λ (first : Option Errno). by_first s rest first (Refused errno) s nothing) (sym is) (refl, refl, refl)

pub passed : (s : State) (tests : Tests) (rest : Step) (reply : Reply) (after : State) (need : Need) → first_refusal tests ≡ None → rest reply after need → passing s tests rest reply after need
passed s tests rest reply after need is done = subst (λ (first : Option Errno). by_first s rest first reply after need) (sym is) done

-- a snapshot has the name, and a file is open
pub busy : (s : State) (name : Name) (pair : Name × Tree) → frozen s name ≡ Some pair → has_open_below s.tree OPEN_FILES ≡ true → Refuses s (SnapRestore name) EBUSY
busy s name pair is is_open room =
    let first = λ (o : Option (Name × Tree)) (b : Bool). first_refusal ((is_none o, NOSNAP) ∷ (b, EBUSY) ∷ []) in
    refused s ((is_none (frozen s name), NOSNAP) ∷ (has_open_below s.tree OPEN_FILES, EBUSY) ∷ []) _ EBUSY (ap (λ (o : Option (Name × Tree)). first o (has_open_below s.tree OPEN_FILES)) is ∙ ap (first (Some pair)) is_open)

-- no snapshot has the name of the one that is to go
pub none_to_delete : (s : State) (name : Name) → frozen s name ≡ None → Refuses s (SnapDelete name) NOSNAP
none_to_delete s name is room =
    refused s ((is_none (frozen s name), NOSNAP) ∷ []) _ NOSNAP (ap (λ (o : Option (Name × Tree)). first_refusal ((is_none o, NOSNAP) ∷ [])) is)

-- no snapshot has the name
pub missing : (s : State) (name : Name) → frozen s name ≡ None → Refuses s (SnapRestore name) NOSNAP
missing s name is room =
    refused s ((is_none (frozen s name), NOSNAP) ∷ (has_open_below s.tree OPEN_FILES, EBUSY) ∷ []) _ NOSNAP
    (ap (λ (o : Option (Name × Tree)). first_refusal ((is_none o, NOSNAP) ∷ (has_open_below s.tree OPEN_FILES, EBUSY) ∷ [])) is)
