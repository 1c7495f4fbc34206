use Rattle.std.proofs.Common.{rules, ◌≡◌, length, arith}
use Rattle.std.proofs.lemmas.List.Sorted.{IsNonDecreasingBy-from_sort_by_key}
use Rattle.overlay.proofs.Indexed.{sorted}
use Rattle.overlay.proofs.pending.index_of.Goals as goal

pub returns : goal.returns
returns c =
    let made = c.loop-i.invariant in
    let end : c.loop-i.i ≡ length c.args.blocks.now = search rules in
    sorted _ _ _ (omega (arith, made.made, end)) (λ k e lt. made.nths k e (omega (arith, end, lt))) (λ k e d lt. made.places k e d (omega (arith, end, lt)))
    c.sort_by_key.ensures.permutation (IsNonDecreasingBy-from_sort_by_key (λ e. e.place) _ c.in_ok-sort_by_key.ensures.sorted (λ a r q k. search rules))
