use Rattle.std.proofs.Common.{ap, subst, arith}
use Rattle.records.specs.Entering.{IsNameEdit, pieces_of}
use Rattle.dirs.proofs.KnownLaws.{edited_knows}
use Rattle.records.proofs.NamingLaws.{edit_had}
use Rattle.records.proofs.naming.edit_file.Goals as goal

pub add_new-requires-clause-entry : goal.add_new-requires-clause-entry
add_new-requires-clause-entry g c = subst (IsNameEdit c.args.limits.inodes) c.in-Add.is c.requires.wanted

pub replace_in-requires-clause-entry : goal.replace_in-requires-clause-entry
replace_in-requires-clause-entry g c = subst (IsNameEdit c.args.limits.inodes) c.in-Replace.is c.requires.wanted

pub move_in-requires-clause-entry : goal.move_in-requires-clause-entry
move_in-requires-clause-entry g c = subst (IsNameEdit c.args.limits.inodes) c.in-Move.is c.requires.wanted

pub returns-in-Add : goal.returns-in-Add
returns-in-Add g c = edit_had c.in-Add.is c.add_new.ensures (omega (arith, ap pieces_of c.in-Add.is, c.of-edit.ensures.pieces)) (λ disk names had. (c.of-edit.ensures.same c.args.limits.inodes disk names had.0, edited_knows c.args.limits.inodes disk c.args.file.now c.of-edit.result c.args.known.now c.of-edit.ensures.none had.1))

pub returns-in-Remove : goal.returns-in-Remove
returns-in-Remove g c = edit_had c.in-Remove.is c.remove_one.ensures (omega (arith, ap pieces_of c.in-Remove.is, c.of-edit.ensures.pieces)) (λ disk names had. (c.of-edit.ensures.same c.args.limits.inodes disk names had.0, edited_knows c.args.limits.inodes disk c.args.file.now c.of-edit.result c.args.known.now c.of-edit.ensures.none had.1))

pub returns-in-Replace : goal.returns-in-Replace
returns-in-Replace g c = edit_had c.in-Replace.is c.replace_in.ensures (omega (arith, ap pieces_of c.in-Replace.is, c.of-edit.ensures.pieces)) (λ disk names had. (c.of-edit.ensures.same c.args.limits.inodes disk names had.0, edited_knows c.args.limits.inodes disk c.args.file.now c.of-edit.result c.args.known.now c.of-edit.ensures.none had.1))

pub returns-in-Move : goal.returns-in-Move
returns-in-Move g c = edit_had c.in-Move.is c.move_in.ensures (omega (arith, ap pieces_of c.in-Move.is, c.of-edit.ensures.pieces)) (λ disk names had. (c.of-edit.ensures.same c.args.limits.inodes disk names had.0, edited_knows c.args.limits.inodes disk c.args.file.now c.of-edit.result c.args.known.now c.of-edit.ensures.none had.1))
