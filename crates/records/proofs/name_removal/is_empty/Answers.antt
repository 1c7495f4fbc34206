use Rattle.std.proofs.Common.{List, sym, subst, ◌∙◌}
use Rattle.model.specs.Paths.{Name}
use Rattle.model.specs.Volumes.{entries}
use Rattle.dirs.specs.Listings.{IsListingOfNames}
use Rattle.records.proofs.FileLaws.{empty_listing}
use Rattle.records.proofs.Looking.{fails, seen, tells}
use Rattle.records.proofs.name_removal.is_empty.Goals as goal

pub returns-in_err-names : goal.returns-in_err-names
returns-in_err-names g c =
    fails c.from_residual.result c.from_residual.ensures.1
    (seen {P = λ detail disk settled v names. Unit {0}} c.in_err-names.ensures.looks c.list.ensures.loads (λ detail disk settled v stands. tt) (λ detail. c.in_err-names.ensures.damaged {detail = detail}))

pub returns : goal.returns
returns g c =
    tells (seen {P = λ detail disk settled v names. IsListingOfNames (entries v c.args.number) names} c.in_ok-names.ensures.looks c.list.ensures.loads (λ detail. c.in_ok-names.ensures.found {detail = detail}) (λ detail. c.in_ok-names.ensures.damaged {detail = detail}))
    (λ detail disk settled v now listed.
    let told = empty_listing _ c.as_slice.result.now (entries v c.args.number) (subst (λ (l : List Name). IsListingOfNames (entries v c.args.number) l) (sym c.as_slice.ensures) listed) in
    (λ is. told.0 (sym c.is_empty.ensures ∙ is), λ none. c.is_empty.ensures ∙ told.1 none))
