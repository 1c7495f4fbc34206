use Rattle.std.proofs.Common.{rules}
use Rattle.records.proofs.naming.remove_in.Goals as goal

pub returns-in_err-prepare_remove-clause-damaged : goal.returns-in_err-prepare_remove-clause-damaged
returns-in_err-prepare_remove-clause-damaged g c = λ disk names shows is has sound.
    c.in_err-prepare_remove.ensures.damaged disk shows (search rules) (λ i below. sound i) (λ i below. (has.entries i, has.holds i below))

pub returns-clause-edited : goal.returns-clause-edited
returns-clause-edited g c = λ disk names shows knows has. (c.in_ok-prepare_remove.ensures.removed disk names shows knows has, c.in_ok-prepare_remove.ensures.knows disk shows knows)
