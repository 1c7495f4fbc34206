use Rattle.std.proofs.Common.{Some, inl, inr, ap, sym, ◌∙◌}
use Rattle.std.specs.BTreeMap.{get}
use Rattle.std.specs.Ordering.{nat_cmp}
use Rattle.buffers.proofs.KeptLaws.{removed_less, unchanged_less}
use Rattle.buffers.proofs.block_cache.BlockCache.let_go.Goals as goal

pub loop-place-preserved : goal.loop-place-preserved
loop-place-preserved c = record {
  loses = λ p b has. c.loop-place.invariant.loses p b (elim (c.cache_block.ensures.only p b has) [
    | inl same ↦ inl (ap (get nat_cmp c.loop-place.self.held) same.0 ∙ c.in-Some.ensures.value ∙ ap Some (sym same.1))
    | inr had ↦ elim had [
      | inl h ↦ inl (removed_less c.loop-place.self.held c.pop_first.new.self c.in-Some.place p b c.in-Some.ensures.updates h)
      | inr h ↦ inr h
    ]
  ]);
}

pub returns-clause-loses : goal.returns-clause-loses
returns-clause-loses c = λ p b has. c.loop-place.invariant.loses p b (elim has [
  | inl h ↦ inl (unchanged_less c.loop-place.self.held c.pop_first.new.self p b c.in_default.ensures.unchanged h)
  | inr h ↦ inr h
])
