use Rattle.served.proofs.ListingLaws.{directory_behind, directory_told}
use Rattle.served.proofs.listing.append_directory.Goals as goal

pub returns-then-place-part : goal.returns-then-place-part
returns-then-place-part c = let a = c.args in directory_behind a.part a.inode a.place a.name.now a.listing.now.items c.if-place-part.true

pub returns : goal.returns
returns c =
    let a = c.args in
    directory_told c.append.result a.part a.inode a.place a.name.now a.listing.now.items c.append.new.listing.items c.untold.result c.if-place-part.false c.untold.ensures c.append.ensures.fits c.append.ensures.ok
