use Rattle.std.proofs.Common.{rules, ◌∙◌, ◌/◌, ap, sym, subst}
use Rattle.layout.specs.Places.{pointed}
use Rattle.layout.specs.Pointer.{PointsBelow}
use Rattle.layout.specs.declared.pointer.Pointer.{Pointer}
use Rattle.buffers.specs.Disks.{IsWhole}
use Rattle.images.specs.Roots.{whole}
use Rattle.checker.specs.Findings.{tree_in}
use Rattle.checker.proofs.HaltLaws.{looks_residual}
use Rattle.checker.proofs.HeldLaws.{grammar_at, kind_of_place, newest_size}
use Rattle.checker.proofs.ReadLaws.{looked, looked_none, looks_ok}
use Rattle.checker.proofs.RowReads.{part_read, row_damaged}
use Rattle.checker.proofs.TableLaws.{hole_zeros}
use Rattle.checker.proofs.owners.read_inode.Goals as goal

pub returns-in_default-clause-reads : goal.returns-in_default-clause-reads
returns-in_default-clause-reads g c = looks_ok (looked_none c.args.blocks.now)

pub returns-in_default-clause-is : goal.returns-in_default-clause-is
returns-in_default-clause-is g c = λ disk r tree shows at leads.
    let n = c.args.number in
    let t = tree_in (whole disk r) tree.plane in
    c.inode_in.ensures.only (t n).inode ((grammar_at at).files n).inode (newest_size at.over ((grammar_at at).files n).inode)
    (part_read disk r c.args.geometry n tree _ c.args.place at (hole_zeros disk _ c.in_default.is) leads c.requires.low c.requires.high)
    (kind_of_place c.args.geometry t n (grammar_at at) c.requires.low c.requires.high)

pub returns-in_err-read_block-clause-reads : goal.returns-in_err-read_block-clause-reads
returns-in_err-read_block-clause-reads g c = looks_residual c.from_residual.result c.from_residual.ensures.1 c.in_err-read_block.ensures.reads

pub returns-then-not-branch-clause-reads : goal.returns-then-not-branch-clause-reads
returns-then-not-branch-clause-reads g c = looks_ok (looked c.in_ok-read_block.ensures.reads)

pub returns-then-not-branch-clause-is : goal.returns-then-not-branch-clause-is
returns-then-not-branch-clause-is g c = λ disk r tree shows at leads.
    absurd (row_damaged disk r (c.args.number / 21) tree at.tree c.args.place
    (λ good. c.in_ok-read_block.ensures.whole disk shows (search rules) (subst (λ (p : Pointer). IsWhole (pointed disk p)) c.in-Block.is good)) leads at.grammar)

pub returns-clause-reads : goal.returns-clause-reads
returns-clause-reads g c = looks_ok (looked c.in_ok-read_block.ensures.reads)

pub returns-clause-is : goal.returns-clause-is
returns-clause-is g c = λ disk r tree shows at leads.
    let n = c.args.number in
    let t = tree_in (whole disk r) tree.plane in
    c.inode_in-2.ensures.only (t n).inode ((grammar_at at).files n).inode (newest_size at.over ((grammar_at at).files n).inode)
    (part_read disk r c.args.geometry n tree c.bytes.result.now c.args.place at
    (c.bytes.ensures disk (c.in_ok-read_block.ensures.reads.same disk shows) ∙ sym (ap (pointed disk) c.in-Block.is)) leads c.requires.low c.requires.high)
    (kind_of_place c.args.geometry t n (grammar_at at) c.requires.low c.requires.high)

pub bytes-requires : goal.bytes-requires
bytes-requires g c = c.in_ok-read_block.ensures.resident (search rules)

pub read_block-requires : goal.read_block-requires
read_block-requires g c = subst (PointsBelow (g.B.Blocks.count c.args.blocks.now)) c.in-Block.is c.requires.below
