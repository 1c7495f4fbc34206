use Rattle.system.proofs.UsageLaws.{fresh_found}
use Rattle.system.proofs.system.System.next_number.Goals as goal

pub returns-clause-fresh : goal.returns-clause-fresh
returns-clause-fresh g c = λ table s serves.
    let told = c.next_free.ensures in
    fresh_found serves c.args.self.now.sizes c.volumes_tell_used_numbers.ensures c.next_free.result told.within told.free told.least told.none

pub returns-clause-ahead : goal.returns-clause-ahead
returns-clause-ahead g c = λ waits table s kept ahead.
    let told = c.next_free.ensures in
    fresh_found ahead.shown c.args.self.now.sizes c.volumes_tell_used_numbers.ensures c.next_free.result told.within told.free told.least told.none
