use Rattle.std.proofs.Common.{◌≡◌, Bool, true, false, List, [], ℕ, subst}
use Rattle.served.proofs.ListingLaws.{list_all, list_dots}
use Rattle.served.proofs.listing.list.Goals as goal
use Rattle.served.specs.Known.{known_of}
use Rattle.served.specs.Listing.{dots, inode_in, listed, whose_of}

pub returns-in-Ok-true : goal.returns-in-Ok-true
returns-in-Ok-true g c =
    let a = c.args in
    let k = known_of a.memory.now in
    let whose = whose_of a.tree in
    let now = c.append_dots.new.listing.items in
    let is : ◌≡◌ {A = List ℕ × Bool} (now, true) (listed a.part (dots a.part (inode_in whose a.number)) []) =
    subst (λ (b : Bool). ◌≡◌ {A = List ℕ × Bool} (now, b) (listed a.part (dots a.part (inode_in whose a.number)) [])) c.in-Ok-true.field-0-test
    (subst (λ (l : List ℕ). ◌≡◌ {A = List ℕ × Bool} (now, c.in-Ok-true.field-0) (listed a.part (dots a.part (inode_in whose a.number)) l)) c.new-listing.ensures.items
    (subst (λ (n : ℕ). ◌≡◌ {A = List ℕ × Bool} (now, c.in-Ok-true.field-0) (listed a.part (dots a.part n) c.new-listing.result.items)) c.inode_in.ensures c.in-Ok-true.ensures)) in
    list_all g.F.FileSystem k whose a.number a.part a.files.now c.list_names.new.files now c.list_names.result is c.list_names.ensures

pub returns-in-Ok-false : goal.returns-in-Ok-false
returns-in-Ok-false g c =
    let a = c.args in
    let k = known_of a.memory.now in
    let whose = whose_of a.tree in
    let now = c.append_dots.new.listing.items in
    let is : ◌≡◌ {A = List ℕ × Bool} (now, false) (listed a.part (dots a.part (inode_in whose a.number)) []) =
    subst (λ (b : Bool). ◌≡◌ {A = List ℕ × Bool} (now, b) (listed a.part (dots a.part (inode_in whose a.number)) [])) c.in-Ok-false.field-0-test
    (subst (λ (l : List ℕ). ◌≡◌ {A = List ℕ × Bool} (now, c.in-Ok-false.field-0) (listed a.part (dots a.part (inode_in whose a.number)) l)) c.new-listing.ensures.items
    (subst (λ (n : ℕ). ◌≡◌ {A = List ℕ × Bool} (now, c.in-Ok-false.field-0) (listed a.part (dots a.part n) c.new-listing.result.items)) c.inode_in.ensures c.in-Ok-false.ensures)) in
    list_dots g.F.FileSystem k whose a.number a.part a.files.now now c.new.result is c.new.ensures
