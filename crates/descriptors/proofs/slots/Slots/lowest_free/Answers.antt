use Rattle.std.proofs.Common.{◌*◌, inl, inr, arith}
use Rattle.std.proofs.lemmas.Bool.{cases_lt}
use Rattle.descriptors.specs.Slots.{slot_at}
use Rattle.descriptors.proofs.SlotLemmas.{chunk_full}
use Rattle.descriptors.proofs.slots.Slots.lowest_free.Goals as goal

pub loop-chunk-preserved : goal.loop-chunk-preserved
loop-chunk-preserved c fd below =
    let s = c.args.self.now in
    elim (cases_lt fd (256 * c.loop-chunk.chunk)) [
      | inl before ↦ c.loop-chunk.invariant fd before
      | inr from ↦ chunk_full (slot_at s) c.loop-chunk.chunk fd (omega (arith, s.counted c.loop-chunk.chunk (omega arith))) from (omega (arith, below))
    ]
