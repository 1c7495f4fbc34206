use Rattle.std.proofs.Common.{rules}
use Rattle.std.proofs.lemmas.List.Sorted.{answers_always}
use Rattle.overlay.proofs.Indexed.{hit, missed}
use Rattle.overlay.proofs.pending.PendingPoint.find.Goals as goal

-- the closure gives an entry's place, and the slice is the index
pub returns-in-Ok-clause-some : goal.returns-in-Ok-clause-some
returns-in-Ok-clause-some c =
    let facts = c.in-Ok.ensures in
    let by_place = facts.position (λ e. e.place) (answers_always _ _ _ (λ f a r g called. search rules)) in
    rw c.blocks-blocks.ensures.blocks (hit _ _ c.args.self.now.indexed c.args.place c.in-Ok.at c.index.result.now c.index-blocks-index.result
    (rw (← c.deref.ensures.value) facts.bound) (rw (← c.deref.ensures.value) by_place) c.index.ensures)

pub returns-in-Err-clause-none : goal.returns-in-Err-clause-none
returns-in-Err-clause-none c =
    let by_place = c.in-Err.ensures.position (λ e. e.place) (answers_always _ _ _ (λ f a r g called. search rules)) in
    missed _ _ c.args.self.now.indexed c.args.place c.in-Err.field-0 (rw (← c.deref.ensures.value) by_place)
