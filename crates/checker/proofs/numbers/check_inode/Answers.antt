use Rattle.std.proofs.Common.{◌≤◌, arith, refl, sym, subst}
use Rattle.std.specs.Prelude.{Option, Ok}
use Rattle.checker.specs.Errors.{TellsFault}
use Rattle.checker.specs.Nodes.{MarksFile}
use Rattle.checker.specs.Rows.{AddsToEach}
use Rattle.checker.specs.declared.fault.Fault.{Fault}
use Rattle.checker.specs.declared.fault.TreeFault.TheVariants as tree_faults
use Rattle.checker.proofs.InodeLaws.{broken_file, marked_fault, marked_ok, not_spelled, sees_broken, sees_marked, told_by, told_none, told_past}
use Rattle.checker.proofs.RowLaws.{trees_none}
use Rattle.checker.proofs.numbers.check_inode.Goals as goal

pub mark_file-marked-requires-clause-fits : goal.mark_file-marked-requires-clause-fits
mark_file-marked-requires-clause-fits g c =
    (c.args.root.now.geometry, sym c.requires.size, c.in-Some.ensures.found.0)

pub returns-in_default-clause-seen : goal.returns-in_default-clause-seen
returns-in_default-clause-seen g c = λ disk i shows.
    let r = c.args.root.now in
    let are = c.requires.root.head.sizes in
    sees_broken disk r i c.args.number c.args.bits c.args.bytes.now c.args.marks.now c.args.marks.now c.args.shared.now.of c.args.shared.now.of c.args.trees.now.items c.add_to_each.new.trees.items
    c.add_to_each.ensures.trees (tree_faults.Inode c.args.number) c.add_to_each.ensures.added
    (not_spelled disk r c.args.number c.args.bytes.now are (λ f fits small spelled kind. c.in_default.not-Some f (c.inode_at.ensures.only f fits small spelled kind)))

pub returns-in-Some-2-clause-seen : goal.returns-in-Some-2-clause-seen
returns-in-Some-2-clause-seen g c = λ disk i shows.
    let r = c.args.root.now in
    let are = c.requires.root.head.sizes in
    let found = c.in-Some.ensures.found in
    let fits = found.0 in
    let kind = found.3 in
    let count = sym c.requires.size in
    let broken = marked_fault c.mark_file-marked.result c.in-Some-2.fault (subst (λ (o : Option Fault). TellsFault c.mark_file-marked.result (Ok o)) c.in-Some-2.is c.in_ok-fault.ensures) in
    let told = subst (MarksFile disk r.geometry c.in-Some.inode c.args.number c.args.bits c.args.marks.now c.mark_file-marked.new.marks c.args.shared.now.of c.mark_file-marked.new.shared.of) broken
    (c.mark_file-marked.ensures.marked disk r.geometry shows count fits) in
    sees_broken disk r i c.args.number c.args.bits c.args.bytes.now c.args.marks.now c.mark_file-marked.new.marks c.args.shared.now.of c.mark_file-marked.new.shared.of c.args.trees.now.items
    c.add_to_each-in-Some-2.new.trees.items c.add_to_each-in-Some-2.ensures.trees told.1
    (subst (λ (x : Fault). AddsToEach c.args.bits x c.args.trees.now.items c.add_to_each-in-Some-2.new.trees.items) told.2 c.add_to_each-in-Some-2.ensures.added)
    (broken_file disk r i c.args.number c.args.bits c.args.bytes.now c.args.marks.now c.mark_file-marked.new.marks c.args.shared.now.of c.mark_file-marked.new.shared.of c.args.trees.now.items
    c.add_to_each-in-Some-2.new.trees.items c.add_to_each-in-Some-2.ensures.trees c.inodes_are_what_their_bytes_spell.ensures.spelled c.inodes_are_what_their_bytes_spell.ensures.past are
    c.in-Some.inode fits found.2 kind told.0)

pub returns-then-number-inodes-clause-seen : goal.returns-then-number-inodes-clause-seen
returns-then-number-inodes-clause-seen g c = λ disk i shows.
    let r = c.args.root.now in
    let are = c.requires.root.head.sizes in
    let found = c.in-Some.ensures.found in
    let fits = found.0 in
    let kind = found.3 in
    let count = sym c.requires.size in
    let ok = marked_ok c.mark_file-marked.result (told_none c.mark_file-marked.result c.in_ok-fault.field-0 c.in_default-2.not-Some c.in_ok-fault.ensures) in
    let told = subst (MarksFile disk r.geometry c.in-Some.inode c.args.number c.args.bits c.args.marks.now c.mark_file-marked.new.marks c.args.shared.now.of c.mark_file-marked.new.shared.of) ok.1
    (c.mark_file-marked.ensures.marked disk r.geometry shows count fits) in
    sees_marked disk r i c.args.number c.args.bits c.args.bytes.now c.args.marks.now c.mark_file-marked.new.marks c.args.shared.now.of c.mark_file-marked.new.shared.of c.args.trees.now.items c.check_bits.new.trees.items
    c.check_bits.ensures.trees c.inodes_are_what_their_bytes_spell.ensures.spelled c.inodes_are_what_their_bytes_spell.ensures.past are c.in-Some.inode fits found.2 kind
    found.1 told.0 c.mark_file-marked.ensures.keeps told.1
    (told_by disk r i c.args.number c.args.bits c.args.bytes.now c.args.marks.now c.mark_file-marked.new.marks c.args.shared.now.of c.mark_file-marked.new.shared.of c.args.trees.now.items c.check_bits.new.trees.items
    c.check_bits.ensures.trees c.inodes_are_what_their_bytes_spell.ensures.spelled c.inodes_are_what_their_bytes_spell.ensures.past are c.in-Some.inode fits found.2 kind c.check_bits.ensures.compared)

pub returns-else-number-inodes-clause-seen : goal.returns-else-number-inodes-clause-seen
returns-else-number-inodes-clause-seen g c = λ disk i shows.
    let r = c.args.root.now in
    let are = c.requires.root.head.sizes in
    let found = c.in-Some.ensures.found in
    let fits = found.0 in
    let kind = found.3 in
    let count = sym c.requires.size in
    let past : r.geometry.inodes ≤ c.args.number = omega (arith, c.inodes.ensures.value, c.if-number-inodes.false) in
    let ok = marked_ok c.mark_file-marked.result (told_none c.mark_file-marked.result c.in_ok-fault.field-0 c.in_default-2.not-Some c.in_ok-fault.ensures) in
    let told = subst (MarksFile disk r.geometry c.in-Some.inode c.args.number c.args.bits c.args.marks.now c.mark_file-marked.new.marks c.args.shared.now.of c.mark_file-marked.new.shared.of) ok.1
    (c.mark_file-marked.ensures.marked disk r.geometry shows count fits) in
    sees_marked disk r i c.args.number c.args.bits c.args.bytes.now c.args.marks.now c.mark_file-marked.new.marks c.args.shared.now.of c.mark_file-marked.new.shared.of c.args.trees.now.items c.args.trees.now.items
    (trees_none c.args.trees.now.items) c.inodes_are_what_their_bytes_spell.ensures.spelled c.inodes_are_what_their_bytes_spell.ensures.past are c.in-Some.inode fits found.2 kind
    found.1 told.0 c.mark_file-marked.ensures.keeps told.1
    (told_past disk r i c.args.number c.args.bits c.args.bytes.now c.args.marks.now c.mark_file-marked.new.marks c.args.shared.now.of c.mark_file-marked.new.shared.of c.args.trees.now.items c.args.trees.now.items
    (trees_none c.args.trees.now.items) c.inodes_are_what_their_bytes_spell.ensures.spelled c.inodes_are_what_their_bytes_spell.ensures.past are c.in-Some.inode fits found.2 kind refl past)

pub returns-in_err-fault-clause-trees : goal.returns-in_err-fault-clause-trees
returns-in_err-fault-clause-trees g c = trees_none c.args.trees.now.items

pub returns-else-number-inodes-clause-trees : goal.returns-else-number-inodes-clause-trees
returns-else-number-inodes-clause-trees g c = trees_none c.args.trees.now.items
