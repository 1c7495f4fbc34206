use Rattle.std.proofs.Common.{ℕ, Option, inl, inr, ap, sym, ◌∙◌}
use Rattle.std.specs.Prelude.{nat_eq}
use Rattle.std.specs.Map.{lookup}
use Rattle.lru.specs.LruCache.{LruCache}
use Rattle.buffers.specs.Caches.{cached}
use Rattle.buffers.specs.declared.block.Block.{Block}
use Rattle.buffers.proofs.KeptLaws.{popped, gone}
use Rattle.buffers.proofs.block_cache.BlockCache.take_cached.Goals as goal

pub returns-in-Some-clause-loses : goal.returns-in-Some-clause-loses
returns-in-Some-clause-loses c = λ p b has. elim has [
  | inl h ↦ inl h
  | inr h ↦ inr (ap (λ (o : Option (LruCache ℕ Block)). cached o p) c.in-Some.is
      ∙ popped c.in-Some.cache.entries c.args.place p b c.len.ensures.valid.0
      (sym (ap (λ (l : LruCache ℕ Block). lookup (nat_eq p) l.entries) c.pop.ensures.entries) ∙ h))
]

pub returns-in-Some-clause-gone : goal.returns-in-Some-clause-gone
returns-in-Some-clause-gone c = λ b has. elim has [
  | inl h ↦ h
  | inr h ↦ absurd (gone c.in-Some.cache.entries c.args.place b c.len.ensures.valid.0
      (sym (ap (λ (l : LruCache ℕ Block). lookup (nat_eq c.args.place) l.entries) c.pop.ensures.entries) ∙ h))
]
