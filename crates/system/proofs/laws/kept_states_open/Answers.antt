use Rattle.std.proofs.Common.{refl}
use Rattle.system.proofs.AheadLaws.{begins, idle}
use Rattle.system.proofs.SystemLaws.{all_open}
use Rattle.system.proofs.laws.kept_states_open.Goals as goal

pub returns-clause-begins : goal.returns-clause-begins
returns-clause-begins g c = λ table s serves. begins serves

pub returns-clause-opens : goal.returns-clause-opens
returns-clause-opens g c = λ waits table s kept ahead. all_open ahead.served c.args.system.now.sectors c.args.system.now.half c.cuts_open.ensures

pub returns-clause-ends : goal.returns-clause-ends
returns-clause-ends g c = λ table s kept ahead. idle ahead refl refl
