use Rattle.std.proofs.Common.{ap, cond, ◌∙◌, Ok, Err}
use Rattle.std.specs.Prelude.{is_ok}
use Rattle.std.specs.List.{insert}
use Rattle.memory_station.proofs.BadLemmas.{found, rising-insert, is_bad-insert, is_bad-there}
use Rattle.memory_station.proofs.disk.list.Goals as goal

pub returns-in-Err-clause-rising : goal.returns-in-Err-clause-rising
returns-in-Err-clause-rising c = rising-insert c.args.bad.now.items _ c.in-Err.place c.args.n
    (c.insert.ensures.items ∙ ap (λ r. cond (is_ok r) (insert c.args.bad.now.items c.in-Err.place c.args.n) c.args.bad.now.items) c.unwrap.ensures)
    c.requires.rising (found _ _ c.args.n (Err c.in-Err.place) c.deref.ensures.value c.requires.rising c.in-Err.ensures.position)

pub returns-in-Err-clause-has : goal.returns-in-Err-clause-has
returns-in-Err-clause-has c = λ m. is_bad-insert c.args.bad.now.items _ c.in-Err.place c.args.n m
    (c.insert.ensures.items ∙ ap (λ r. cond (is_ok r) (insert c.args.bad.now.items c.in-Err.place c.args.n) c.args.bad.now.items) c.unwrap.ensures)

pub returns-in_default-clause-has : goal.returns-in_default-clause-has
returns-in_default-clause-has c = λ m.
    let there = found _ _ c.args.n (Ok c.in_default.field-0) c.deref.ensures.value c.requires.rising c.in_default.ensures.position in
    is_bad-there c.args.bad.now.items c.in_default.field-0 c.args.n m there.0 there.1
