use Rattle.std.proofs.Common.{◌≡◌, Bool, true, false, List, ℕ, subst, map}
use Rattle.served.proofs.ListingLaws.{appended, not_appended}
use Rattle.served.proofs.listing.append_folder.Goals as goal
use Rattle.served.specs.Known.{seen_of}
use Rattle.served.specs.Listing.{dots, listed, snapshots_in}

pub returns-then-not-branch : goal.returns-then-not-branch
returns-then-not-branch c =
    let a = c.args in
    let none : c.in_ok-append_dots.field-0 ≡ false = c.if-not-branch.true in
    not_appended a.part (dots a.part a.inode) (snapshots_in a.part (map seen_of a.snapshots.now)) a.listing.now.items c.append_dots.new.listing.items
    (subst (λ (b : Bool). ◌≡◌ {A = List ℕ × Bool} (c.append_dots.new.listing.items, b) (listed a.part (dots a.part a.inode) a.listing.now.items)) none c.in_ok-append_dots.ensures)

pub returns : goal.returns
returns c =
    let a = c.args in
    let all : c.in_ok-append_dots.field-0 ≡ true = c.if-not-branch.false in
    appended c.append_snapshots.result a.part (dots a.part a.inode) (snapshots_in a.part (map seen_of a.snapshots.now)) a.listing.now.items c.append_dots.new.listing.items c.append_snapshots.new.listing.items
    (subst (λ (b : Bool). ◌≡◌ {A = List ℕ × Bool} (c.append_dots.new.listing.items, b) (listed a.part (dots a.part a.inode) a.listing.now.items)) all c.in_ok-append_dots.ensures)
    c.append_snapshots.ensures
