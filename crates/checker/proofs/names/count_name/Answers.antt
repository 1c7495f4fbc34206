use Rattle.std.proofs.Common.{◌≡◌, ◌∙◌, ℕ, List, ◌++◌, ◌∷◌, [], Some, set, refl, sym, subst, arith}
use Rattle.std.proofs.lemmas.Bool.{false≢true}
use Rattle.layout.specs.declared.kind.Kind.TheVariants as kinds
use Rattle.model.specs.Volumes.{with_edge}
use Rattle.checker.specs.Findings.{IsNamedKind}
use Rattle.checker.specs.Walks.{GoesOn, IsOnWay}
use Rattle.checker.specs.declared.error.CheckError.TheVariants as check
use Rattle.checker.proofs.FoundLaws.{goes_found, goes_named, goes_none}
use Rattle.checker.proofs.StepLaws.{both, passes_halt, row_at}
use Rattle.checker.proofs.WalkLaws.{first_directory, found_more, found_none, on_way, one_name, twice, unnamed_kind, unused}
use Rattle.checker.proofs.names.count_name.Goals as goal

pub returns-then-not-may_be_named-clause-goes : goal.returns-then-not-may_be_named-clause-goes
returns-then-not-may_be_named-clause-goes c = goes_none _ _

pub returns-then-not-takes_name-clause-goes : goal.returns-then-not-takes_name-clause-goes
returns-then-not-takes_name-clause-goes c = goes_none _ _

pub returns-then-not-may_be_named-clause-counted : goal.returns-then-not-may_be_named-clause-counted
returns-then-not-may_be_named-clause-counted c = λ r t e count x way among free is leads.
    let found = c.args.found.now.items in
    let table = c.args.table.now.items in
    let d = c.args.directory in
    let n = c.args.number in
    let row = c.index-row.result.now in
    let there = row_at table n row (omega arith) c.index-row.ensures in
    let never = λ (named : IsNamedKind row.kind). false≢true (c.if-not-may_be_named.ensures.1 named) in (
      λ g. unused r.geometry t e count found table d n x row way among free is there never g (leads g),
      (
        first_directory r.geometry t e count found table d way among,
        unnamed_kind r.geometry t e count found table d n x row way among free is there never,
      ),
    )

pub returns-then-not-takes_name-clause-counted : goal.returns-then-not-takes_name-clause-counted
returns-then-not-takes_name-clause-counted c = λ r t e count x way among free is leads.
    let no = c.if-not-takes_name.ensures.no refl in
    let found = c.args.found.now.items in
    let table = c.args.table.now.items in
    let d = c.args.directory in
    let n = c.args.number in
    let row = c.index-row.result.now in
    let there = row_at table n row (omega arith) c.index-row.ensures in
    let named = c.if-not-may_be_named.ensures.0 refl in (
      λ g. twice r.geometry t e count found table d n x row way among free is there no.0 no.1 g (leads g),
      one_name r.geometry t e count found table d n x row way among free is there named no.0,
    )

pub returns-in_default-clause-goes : goal.returns-in_default-clause-goes
returns-in_default-clause-goes c = goes_none _ _

pub returns-then-not-is_directory-clause-goes : goal.returns-then-not-is_directory-clause-goes
returns-then-not-is_directory-clause-goes c =
    goes_named c.args.table.now.items c.args.number c.index-row.result.now (record c.index-row.result.now { names = c.in-Some.names }) (omega arith) (sym c.index-row.ensures) (omega (arith, c.in-Some.ensures.1)) c.args.found.now.items

pub returns-then-not-is_directory-clause-counted : goal.returns-then-not-is_directory-clause-counted
returns-then-not-is_directory-clause-counted c = λ r t e count x way among free is leads.
    let row = c.index-row.result.now in
    let n = c.args.number in
    let at = row_at c.args.table.now.items n row (omega arith) c.index-row.ensures in
    let kind : row.kind ≡ (t n).inode.kind = (way.counted.rows.each n row c.requires.low at).0 in
    on_way r.geometry t e count c.args.found.now.items c.args.table.now.items c.args.directory n x row way among free is at (record row { names = c.in-Some.names }) c.args.found.now.items
    (c.if-not-may_be_named.ensures.0 refl) refl refl (omega (arith, c.in-Some.ensures.1)) (c.if-not-takes_name.ensures.yes refl)
    (found_none n ((t n).inode.kind ≡ kinds.Directory) c.args.found.now.items (λ directory. false≢true (c.if-not-is_directory.ensures.1 (kind ∙ directory)))) leads

pub returns-in_err-push-clause-goes : goal.returns-in_err-push-clause-goes
returns-in_err-push-clause-goes c =
    let items : c.push.new.self.items ≡ c.args.found.now.items = c.in_err-push.ensures.items in
    let table = set c.args.table.now.items c.args.number (record c.index-row.result.now { names = c.in-Some.names }) in
    subst (GoesOn c.args.table.now.items c.args.found.now.items table) (sym items)
    (goes_named c.args.table.now.items c.args.number c.index-row.result.now (record c.index-row.result.now { names = c.in-Some.names }) (omega arith) (sym c.index-row.ensures) (omega (arith, c.in-Some.ensures.1)) c.args.found.now.items)

pub returns-in_err-push-clause-counted : goal.returns-in_err-push-clause-counted
returns-in_err-push-clause-counted c = λ r t e count x way among free is leads. passes_halt _ _ c.from_residual.result check.NoMemory c.from_residual.ensures.1

pub returns-clause-goes : goal.returns-clause-goes
returns-clause-goes c =
    let directory = c.if-not-is_directory.ensures.0 refl in
    let none : c.index-row.result.now.names ≡ 0 = c.if-not-takes_name.ensures.yes refl (λ file. absurd (both directory file)) in
    let table = set c.args.table.now.items c.args.number (record c.index-row.result.now { names = c.in-Some.names }) in
    subst (GoesOn c.args.table.now.items c.args.found.now.items table) (sym c.in_ok-push.ensures.items)
    (goes_found c.args.table.now.items c.args.number c.index-row.result.now (record c.index-row.result.now { names = c.in-Some.names }) (omega arith) (sym c.index-row.ensures) (omega (arith, c.in-Some.ensures.1)) c.args.found.now.items none c.requires.low)

pub returns-clause-counted : goal.returns-clause-counted
returns-clause-counted c = λ r t e count x way among free is leads.
    let row = c.index-row.result.now in
    let n = c.args.number in
    let found = c.args.found.now.items in
    let at = row_at c.args.table.now.items n row (omega arith) c.index-row.ensures in
    let kind : row.kind ≡ (t n).inode.kind = (way.counted.rows.each n row c.requires.low at).0 in
    let new = record row { names = c.in-Some.names } in
    let after = with_edge c.args.directory x (Some n) e in
    subst (λ (xs : List ℕ). IsOnWay r.geometry t after count xs (set c.args.table.now.items n new)) (sym c.in_ok-push.ensures.items)
    (on_way r.geometry t e count found c.args.table.now.items c.args.directory n x row way among free is at new (found ++ n ∷ [])
    (c.if-not-may_be_named.ensures.0 refl) refl refl (omega (arith, c.in-Some.ensures.1)) (c.if-not-takes_name.ensures.yes refl)
    (found_more n ((t n).inode.kind ≡ kinds.Directory) found (sym kind ∙ c.if-not-is_directory.ensures.0 refl)) leads)
