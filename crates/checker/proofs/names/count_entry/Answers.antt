use Rattle.std.proofs.Common.{◌∙◌, ℕ, Some, ap, subst, sym}
use Rattle.layout.specs.Directory.{IsEntry}
use Rattle.model.specs.Volumes.{with_edge}
use Rattle.checker.specs.Findings.{IsTreeFinding}
use Rattle.checker.specs.Walks.{IsOnWay}
use Rattle.checker.specs.declared.error.CheckError.TheVariants as check
use Rattle.checker.proofs.FoundLaws.{goes_none}
use Rattle.checker.proofs.SeenNames.{edge_adds}
use Rattle.checker.proofs.StepLaws.{not_none, passes_halt, passes_then}
use Rattle.checker.proofs.WalkLaws.{first_directory}
use Rattle.checker.proofs.names.count_entry.Goals as goal

pub returns-in_err-is_new-clause-goes : goal.returns-in_err-is_new-clause-goes
returns-in_err-is_new-clause-goes c = goes_none _ _

pub returns-in_err-is_new-clause-counted : goal.returns-in_err-is_new-clause-counted
returns-in_err-is_new-clause-counted c = λ r t e count way among knows is truth. passes_halt _ _ c.from_residual.result check.NoMemory c.from_residual.ensures.1

pub returns-then-not-is_new-clause-goes : goal.returns-then-not-is_new-clause-goes
returns-then-not-is_new-clause-goes c = goes_none _ _

pub returns-then-not-is_new-clause-counted : goal.returns-then-not-is_new-clause-counted
returns-then-not-is_new-clause-counted c = λ r t e count way among knows is truth.
    let d = c.args.directory in
    let again = c.in_ok-is_new.ensures.again c.if-not-is_new.true (e d) knows in (
      λ g. not_none (e d c.args.entry.now.name.now) again (truth g).1,
      first_directory r.geometry t e count c.args.found.now.items c.args.table.now.items d way among,
    )

pub returns-clause-counted : goal.returns-clause-counted
returns-clause-counted c = λ r t e count way among knows is truth.
    let d = c.args.directory in
    let x = c.args.entry.now.name.now in
    let n = c.args.entry.now.number in
    let seen = c.in_ok-is_new.ensures.new c.if-not-is_new.false (e d) (with_edge d x (Some n) e d) knows (edge_adds d n x e) in
    let told = c.count_name.ensures.counted r t e count x way among seen.0 (subst (λ (m : ℕ). IsEntry r.geometry.inodes (record { number = m; name = x })) (sym c.get.ensures) is) (λ g. (truth g).0 ∙ ap (λ (m : ℕ). Some m) (sym c.get.ensures)) in
    passes_then _ _ (IsTreeFinding r t) c.count_name.result (λ done now. (
      seen.0,
      subst (λ (m : ℕ). IsOnWay r.geometry t (with_edge d x (Some m) e) count c.count_name.new.found.items c.count_name.new.table.items) c.get.ensures now,
      seen.1,
    )) told
