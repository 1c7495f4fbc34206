use Rattle.std.proofs.Common.{◌∙◌}
use Rattle.blockmap.proofs.MapLemmas.{entry_in}
use Rattle.blockmap.proofs.map.BlockMap.bytes.Goals as goal

pub returns : goal.returns
returns c i small = c.bytes.ensures i small ∙ entry_in c.args.self.now.parts.items c.args.j i c.index.result.now small c.requires c.index.ensures
