use Rattle.layout.specs.declared.version.TheConstants.{VERSION}
use Rattle.images.proofs.WithinLaws.{root_plain}
use Rattle.loading.proofs.LoadLaws as laws
use Rattle.loading.proofs.laws.readable_inodes_are_settled.Goals as goal

pub returns-clause-settled : goal.returns-clause-settled
returns-clause-settled c disk r file is ready of =
    laws.are_settled c.trees_read_as_held.ensures disk r is.head.sizes ready file of.blocks of.starts VERSION
    (laws.newest_within c.trees_read_as_held.ensures disk r is.head.sizes ready (root_plain r is))

pub returns-clause-holds : goal.returns-clause-holds
returns-clause-holds c disk r v is ready = laws.hold_volume c.trees_read_as_held.ensures disk r is.head.sizes ready v
