use Rattle.std.proofs.Common.{◌≡◌, Bool, true, false, List, [], ◌∷◌, ℕ, subst}
use Rattle.served.proofs.ListingLaws.{appended, not_appended}
use Rattle.served.proofs.listing.append_dots.Goals as goal
use Rattle.served.specs.Listing.{directory_at, listed}
use Rattle.served.specs.declared.listing.TheConstants.{BEHIND_PARENT, BEHIND_SELF}

pub returns-then-not-branch : goal.returns-then-not-branch
returns-then-not-branch c =
    let a = c.args in
    let none : c.in_ok-append_directory.field-0 ≡ false = c.if-not-branch.true in
    not_appended a.part (directory_at a.part a.inode BEHIND_SELF (46 ∷ [])) (directory_at a.part a.inode BEHIND_PARENT (46 ∷ 46 ∷ [])) a.listing.now.items c.append_directory.new.listing.items
    (subst (λ (b : Bool). ◌≡◌ {A = List ℕ × Bool} (c.append_directory.new.listing.items, b) (listed a.part (directory_at a.part a.inode BEHIND_SELF (46 ∷ [])) a.listing.now.items)) none c.in_ok-append_directory.ensures)

pub returns : goal.returns
returns c =
    let a = c.args in
    let all : c.in_ok-append_directory.field-0 ≡ true = c.if-not-branch.false in
    appended c.append_directory-2.result a.part (directory_at a.part a.inode BEHIND_SELF (46 ∷ [])) (directory_at a.part a.inode BEHIND_PARENT (46 ∷ 46 ∷ [])) a.listing.now.items c.append_directory.new.listing.items
    c.append_directory-2.new.listing.items
    (subst (λ (b : Bool). ◌≡◌ {A = List ℕ × Bool} (c.append_directory.new.listing.items, b) (listed a.part (directory_at a.part a.inode BEHIND_SELF (46 ∷ [])) a.listing.now.items)) all c.in_ok-append_directory.ensures)
    c.append_directory-2.ensures
