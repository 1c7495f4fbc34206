use Rattle.std.proofs.Common.{arith, rules}
use Rattle.std.proofs.lemmas.Grind.{common_steps}
use Rattle.blockmap.proofs.MapLemmas.{bit_set}
use Rattle.blockmap.proofs.map.BlockMap.put.Goals as goal

pub returns : goal.returns
returns c = record {
  count = search rules;
  next = search rules;
  settled = grind (arith, common_steps);
  bit = bit_set c.args.self.now.parts.items c.args.block c.get-b.result c.entry-entry.result c.with_bit.result c.args.set c.args.is_in c.index_mut-part.result.now c.set.new.self
      c.get-b.ensures (omega (arith, c.get-b.ensures, c.requires.within, c.args.self.now.covers)) c.index_mut-part.ensures.value c.entry-entry.ensures c.set.ensures.there c.with_bit.ensures;
  others = grind (arith, common_steps);
  same = grind (arith, common_steps);
}
