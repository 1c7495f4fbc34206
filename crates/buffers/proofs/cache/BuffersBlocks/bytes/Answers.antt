use Rattle.std.proofs.Common.{◌∙◌, inl, sym, ap}
use Rattle.buffers.proofs.cache.BuffersBlocks.bytes.Goals as goal

pub returns : goal.returns
returns g c = λ disk shows. c.bytes.ensures ∙ shows.kept_is c.get.result c.in-Some.block.now (inl (sym c.in-Some.ensures.value)) ∙ ap disk c.get.ensures
