use Rattle.model.proofs.StateLemmas.{commands_leave_states, allowed_are_states, mounts_find_states}
use Rattle.model.proofs.laws.outcomes_are_states.Goals as goal

pub returns-clause-done : goal.returns-clause-done
returns-clause-done c = commands_leave_states

pub returns-clause-allowed : goal.returns-clause-allowed
returns-clause-allowed c = allowed_are_states

pub returns-clause-mounted : goal.returns-clause-mounted
returns-clause-mounted c = mounts_find_states
