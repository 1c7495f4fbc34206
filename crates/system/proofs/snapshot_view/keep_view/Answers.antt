use Rattle.std.proofs.Common.{Option, subst, sym}
use Rattle.model.specs.Paths.{Name}
use Rattle.system.specs.Views.{LoadsView, StandsForSnapshot}
use Rattle.system.specs.declared.snapshot_view.View.{View}
use Rattle.system.proofs.snapshot_view.keep_view.Goals as goal

pub returns-clause-shows : goal.returns-clause-shows
returns-clause-shows g c = λ disk shows v pairs holds shown.
    let sizes = c.args.root.now.geometry in
    let loads = subst (λ (o : Option View). LoadsView disk sizes pairs c.args.name.now o) c.in-Some.is (c.in_ok-view.ensures.loads disk shows v pairs holds) in
    subst (λ (name : Name). StandsForSnapshot disk sizes pairs name c.in-Some.view.inodes) (sym loads.0) loads.1

pub returns-clause-keeps : goal.returns-clause-keeps
returns-clause-keeps g c = λ disk shows v pairs holds shown.
    (subst (λ (o : Option View). LoadsView disk c.args.root.now.geometry pairs c.args.name.now o) c.in-Some.is (c.in_ok-view.ensures.loads disk shows v pairs holds)).1
