use Rattle.std.proofs.Common.{refl, rules}
use Rattle.served.proofs.LookingLaws.{tell_space-told, tell_space-refused}
use Rattle.served.proofs.looking.tell_space.Goals as goal

pub overflow_cast-result : goal.overflow_cast-result
overflow_cast-result g c = search rules

pub overflow_cast-result-in-Ok : goal.overflow_cast-result-in-Ok
overflow_cast-result-in-Ok g c = search rules

pub overflow_cast-result-in-Ok-2 : goal.overflow_cast-result-in-Ok-2
overflow_cast-result-in-Ok-2 g c = search rules

pub returns-in-Ok : goal.returns-in-Ok
returns-in-Ok g c =
    tell_space-told g.F.FileSystem c.args.files.now c.ask_done.new.files c.ask_usage.new.files c.ask_done.result c.in-Ok.usage _ c.ask_done.ensures c.in-Ok.ensures
    (rw (c.from.ensures, c.saturating_sub-available.ensures, c.from-free.ensures, c.from-in-Ok.ensures, c.from-in-Ok-2.ensures, c.saturating_sub.ensures) refl)

pub returns-in-Err : goal.returns-in-Err
returns-in-Err g c =
    tell_space-refused g.F.FileSystem c.args.files.now c.ask_done.new.files c.ask_usage.new.files c.ask_done.result c.in-Err.errno c.ask_done.ensures c.in-Err.ensures
