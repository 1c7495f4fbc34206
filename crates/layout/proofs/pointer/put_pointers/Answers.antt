use Rattle.std.proofs.Common.{◌≡◌, take, arith}
use Rattle.std.proofs.lemmas.List.{take_all}
use Rattle.layout.proofs.WordLaws.{none_written, pointers_more}
use Rattle.layout.proofs.WritingLaws.{writes_both, written_to}
use Rattle.layout.proofs.pointer.put_pointers.Goals as goal

pub loop-i-init : goal.loop-i-init
loop-i-init c = none_written c.args.at c.args.out.now (omega arith)

pub loop-i-preserved : goal.loop-i-preserved
loop-i-preserved c =
    let p = c.index-pointers-i.result in
    rw (pointers_more c.args.pointers.now c.loop-i.i p c.loop-i-test.true c.index-pointers-i.is)
    (written_to (omega arith) (writes_both c.loop-i.invariant (rw c.number.ensures at c.put_u32.ensures)))

pub returns : goal.returns
returns c =
    let whole : take c.loop-i.i c.args.pointers.now ≡ c.args.pointers.now = take_all c.loop-i.i c.args.pointers.now c.loop-i-test.false in
    rw (← whole) (written_to (rw whole (omega arith)) c.loop-i.invariant)
