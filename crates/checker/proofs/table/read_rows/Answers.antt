use Rattle.std.proofs.Common.{◌∙◌, ap, sym, subst, rules}
use Rattle.layout.specs.Places.{pointed}
use Rattle.layout.specs.Pointer.{PointsBelow}
use Rattle.layout.specs.declared.pointer.Pointer.{Pointer}
use Rattle.buffers.specs.Disks.{IsWhole}
use Rattle.checker.proofs.HaltLaws.{looks_residual}
use Rattle.checker.proofs.ReadLaws.{looked, looked_none}
use Rattle.checker.proofs.TableLaws.{hole_zeros, looks_pushed}
use Rattle.checker.proofs.table.read_rows.Goals as goal

pub returns-in_default-clause-reads : goal.returns-in_default-clause-reads
returns-in_default-clause-reads g c = looks_pushed _ (looked_none c.args.blocks.now) c.add_rows.ensures.device

pub returns-in_default-clause-rows : goal.returns-in_default-clause-rows
returns-in_default-clause-rows g c = λ disk shows before.
    c.add_rows.ensures.rows disk c.args.places.now (λ whole. hole_zeros disk _ (sym c.at-place.ensures ∙ c.in_default.is)) before

pub returns-in_err-read_block-clause-reads : goal.returns-in_err-read_block-clause-reads
returns-in_err-read_block-clause-reads g c = looks_residual c.from_residual.result c.from_residual.ensures.1 c.in_err-read_block.ensures.reads

pub returns-then-not-branch-clause-reads : goal.returns-then-not-branch-clause-reads
returns-then-not-branch-clause-reads g c = looks_pushed _ (looked c.in_ok-read_block.ensures.reads) c.add_rows-then-not-branch.ensures.device

pub returns-then-not-branch-clause-rows : goal.returns-then-not-branch-clause-rows
returns-then-not-branch-clause-rows g c = λ disk shows before.
    c.add_rows-then-not-branch.ensures.rows disk c.args.places.now (λ whole.
    absurd (c.in_ok-read_block.ensures.whole disk shows (search rules) (subst (λ (p : Pointer). IsWhole (pointed disk p)) (sym c.at-place.ensures ∙ c.in-Block.is) whole))) before

pub returns-clause-reads : goal.returns-clause-reads
returns-clause-reads g c = looks_pushed _ (looked c.in_ok-read_block.ensures.reads) c.add_rows-2.ensures.device

pub returns-clause-rows : goal.returns-clause-rows
returns-clause-rows g c = λ disk shows before.
    c.add_rows-2.ensures.rows disk c.args.places.now (λ whole. c.bytes.ensures disk (c.in_ok-read_block.ensures.reads.same disk shows) ∙ sym (ap (pointed disk) (sym c.at-place.ensures ∙ c.in-Block.is))) before

pub bytes-requires : goal.bytes-requires
bytes-requires g c = c.in_ok-read_block.ensures.resident (search rules)

pub read_block-requires : goal.read_block-requires
read_block-requires g c = subst (PointsBelow (g.B.Blocks.count c.args.blocks.now)) (sym c.at-place.ensures ∙ c.in-Block.is) (c.requires.below c.args.i)
