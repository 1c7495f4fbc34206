use Rattle.std.proofs.Common.{inl, inr}
use Rattle.buffers.proofs.KeptLaws.{removed_less}
use Rattle.buffers.proofs.block_cache.BlockCache.forget.Goals as goal

pub returns-clause-loses : goal.returns-clause-loses
returns-clause-loses c = λ p b has. elim (c.take_cached.ensures.loses p b has) [
  | inl h ↦ inl (removed_less c.args.self.now.held c.remove.new.self c.args.place p b c.remove.ensures.updates h)
  | inr h ↦ inr h
]

pub returns-clause-gone : goal.returns-clause-gone
returns-clause-gone c = λ b has. cc (c.remove.ensures.updates.1, c.take_cached.ensures.gone b has)
