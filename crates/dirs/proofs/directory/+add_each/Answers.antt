use Rattle.std.proofs.Common.{◌≤◌, ◌^◌, subst, sym, arith}
use Rattle.layout.specs.Directory.{named_of}
use Rattle.layout.proofs.EntryLaws.{none_left, one_first}
use Rattle.entries.specs.Entries.{IsObjectNumber}
use Rattle.dirs.specs.Listings.{AddsNames}
use Rattle.dirs.proofs.ListingLaws.{adds_first, adds_none, collects}
use Rattle.dirs.proofs.directory.+add_each.Goals as goal

pub returns-in-End-clause-names : goal.returns-in-End-clause-names
returns-in-End-clause-names t c = λ entries holds.
    let limit : c.args.inodes ≤ 2 ^ 32 = omega arith in
    let none = none_left c.args.inodes c.args.bytes.now entries limit holds c.in-End.ensures in
    subst (λ es. AddsNames es c.args.names.now.entries c.args.names.now.entries) (sym none) (adds_none c.args.names.now.entries)

pub returns-in_ok-add_each-in-Entry-clause-names : goal.returns-in_ok-add_each-in-Entry-clause-names
returns-in_ok-add_each-in-Entry-clause-names t c = λ entries holds.
    let limit : c.args.inodes ≤ 2 ^ 32 = omega arith in
    let e = named_of c.in-Entry.entry in
    let b = one_first c.args.inodes c.args.bytes.now c.in-Entry.rest.now e entries limit c.in-Entry.ensures.0 c.in-Entry.ensures.1 holds in
    subst (λ es. AddsNames es c.args.names.now.entries c.add_each.new.names.entries) (sym b.are)
    (adds_first e b.others c.args.names.now.entries c.insert.new.self.entries c.add_each.new.names.entries c.in_ok-from_slice-in-Entry.field-0
    c.in_ok-from_slice-in-Entry.ensures.items c.in_ok-insert-in-Entry.ensures.entries (c.in_ok-add_each-in-Entry.ensures.names b.others b.holds))

pub returns-in_ok-add_each-in-Entry-clause-ordinary : goal.returns-in_ok-add_each-in-Entry-clause-ordinary
returns-in_ok-add_each-in-Entry-clause-ordinary t c = λ before.
    c.in_ok-add_each-in-Entry.ensures.ordinary (collects (λ name number. IsObjectNumber c.args.inodes number) c.args.names.now.entries c.insert.new.self.entries c.in_ok-from_slice-in-Entry.field-0 c.in-Entry.entry.number
    c.in_ok-insert-in-Entry.ensures.entries before (c.in-Entry.ensures.0.ordinary, c.in-Entry.ensures.0.below))
