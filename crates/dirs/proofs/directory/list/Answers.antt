use Rattle.std.proofs.Common.{sym, subst}
use Rattle.dirs.specs.Listings.{IsListingOfNames}
use Rattle.dirs.proofs.directory.list.Goals as goal

pub returns-clause-listed : goal.returns-clause-listed
returns-clause-listed g c = λ disk names shows is. subst (IsListingOfNames names) (sym c.in_ok-names_alone.ensures) (c.in_ok-listed.ensures.listed disk names shows is).listing
