use Rattle.checker.proofs.SeenNames.{set_more, set_new, was_new}
use Rattle.checker.proofs.seen.Seen.insert.Goals as goal

pub returns-clause-new : goal.returns-clause-new
returns-clause-new c = λ yes names more knows adds.
    let key = c.in_ok-from_slice.field-0 in
    let x = c.args.name.now in (
      set_new c.args.set.now key x names c.in_ok-from_slice.ensures.items (was_new c.in_ok-insert.field-0 _ c.in_ok-insert.ensures.added yes) knows,
      set_more c.args.set.now c.insert.new.self key c.in_ok-insert.ensures.updates.0 x names more c.in_ok-from_slice.ensures.items adds knows,
    )
