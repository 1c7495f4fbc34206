use Rattle.std.proofs.Common.{◌∙◌, arith, rules}
use Rattle.std.proofs.lemmas.Grind.{common_steps}
use Rattle.memory_station.proofs.SimLemmas.{does-read, read_media, nvram-read}
use Rattle.memory_station.proofs.sim.SimStation.nv_read.Goals as goal

pub returns-in_err-begin_read-clause-call : goal.returns-in_err-begin_read-clause-call
returns-in_err-begin_read-clause-call c = does-read c.args.self.now c.begin_read.new.self c.from_residual.result (search rules) (search rules)

pub returns-clause-call : goal.returns-clause-call
returns-clause-call c = does-read c.args.self.now c.begin_read.new.self _ c.in_ok-begin_read.ensures.follows c.in_ok-begin_read.ensures.counts

pub returns-clause-bytes : goal.returns-clause-bytes
returns-clause-bytes c = λ _. c.copy_from_slice.ensures.after
    ∙ rw (c.deref.ensures.value, nvram-read c.args.self.now c.begin_read.new.self (read_media _ _ _ c.in_ok-begin_read.ensures.follows)) (grind (arith, common_steps))
