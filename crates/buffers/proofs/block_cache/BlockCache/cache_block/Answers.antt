use Rattle.std.proofs.Common.{ℕ, Option, inl, inr, ap, sym, ◌∙◌}
use Rattle.std.specs.BTreeMap.{BTreeMap, get}
use Rattle.std.specs.Ordering.{nat_cmp}
use Rattle.lru.specs.LruCache.{LruCache}
use Rattle.buffers.specs.Caches.{cached}
use Rattle.buffers.specs.declared.block.Block.{Block}
use Rattle.buffers.proofs.KeptLaws.{put_only}
use Rattle.buffers.proofs.block_cache.BlockCache.cache_block.Goals as goal

pub returns-in-Some-clause-only : goal.returns-in-Some-clause-only
returns-in-Some-clause-only c = λ p b has. elim has [
  | inl h ↦ inr (inl (ap (λ (m : BTreeMap ℕ Block). get nat_cmp m p) (sym c.make_cache.ensures.held) ∙ h))
  | inr h ↦ elim (put_only c.in-Some.cache c.put.new.self c.args.place c.args.block p b c.put.result c.len.ensures.valid.0 c.put.ensures.entries c.put.ensures.err h) [
    | inl new ↦ inl new
    | inr old ↦ inr (inr (sym (c.make_cache.ensures.same p) ∙ ap (λ (o : Option (LruCache ℕ Block)). cached o p) c.in-Some.is ∙ old))
  ]
]
