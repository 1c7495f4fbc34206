use Rattle.std.proofs.Common.{◌≡◌, Bool, true, false, List, ◌∷◌, ◌+◌, ℕ, subst}
use Rattle.served.proofs.ListingLaws.{IsFirst, snapshots_full, snapshots_more, snapshots_none}
use Rattle.served.proofs.listing.+append_snapshots.Goals as goal
use Rattle.served.specs.Listing.{directory_at, listed}
use Rattle.served.specs.declared.listing.TheConstants.{BEHIND_PARENT}

pub returns-in_default : goal.returns-in_default
returns-in_default t c = let a = c.args in snapshots_none a.part a.snapshots.now a.listing.now.items c.in_default.ensures.cases

pub returns-then-not-branch : goal.returns-then-not-branch
returns-then-not-branch t c =
    let a = c.args in
    let x = c.in-Some.snapshot.now in
    let cases = c.in-Some.ensures.cases in
    let first : a.snapshots.now ≡ x ∷ c.in-Some.behind.now = cases.0 in
    let f : IsFirst a.snapshots.now x c.in-Some.behind.now c.node_within-inode.result c.from.result c.deref.result.now =
    record { first = first; number = c.node_within-inode.ensures; same_id = c.from.ensures; same_name = c.deref.ensures.value } in
    let none : c.in_ok-append_directory.field-0 ≡ false = c.if-not-branch.true in
    snapshots_full a.part a.snapshots.now x c.in-Some.behind.now c.node_within-inode.result c.from.result c.deref.result.now a.listing.now.items c.append_directory.new.listing.items f
    (subst (λ (b : Bool). ◌≡◌ {A = List ℕ × Bool} (c.append_directory.new.listing.items, b) (listed a.part (directory_at a.part c.node_within-inode.result (c.from.result + BEHIND_PARENT + 1) c.deref.result.now) a.listing.now.items)) none c.in_ok-append_directory.ensures)

pub returns : goal.returns
returns t c =
    let a = c.args in
    let x = c.in-Some.snapshot.now in
    let cases = c.in-Some.ensures.cases in
    let first : a.snapshots.now ≡ x ∷ c.in-Some.behind.now = cases.0 in
    let f : IsFirst a.snapshots.now x c.in-Some.behind.now c.node_within-inode.result c.from.result c.deref.result.now =
    record { first = first; number = c.node_within-inode.ensures; same_id = c.from.ensures; same_name = c.deref.ensures.value } in
    let all : c.in_ok-append_directory.field-0 ≡ true = c.if-not-branch.false in
    snapshots_more c.append_snapshots.result a.part a.snapshots.now x c.in-Some.behind.now c.node_within-inode.result c.from.result c.deref.result.now a.listing.now.items c.append_directory.new.listing.items
    c.append_snapshots.new.listing.items f
    (subst (λ (b : Bool). ◌≡◌ {A = List ℕ × Bool} (c.append_directory.new.listing.items, b) (listed a.part (directory_at a.part c.node_within-inode.result (c.from.result + BEHIND_PARENT + 1) c.deref.result.now) a.listing.now.items)) all c.in_ok-append_directory.ensures)
    c.append_snapshots.ensures
