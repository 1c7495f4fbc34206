use Rattle.system.proofs.laws.records_lead_on.Goals as goal

pub returns : goal.returns
returns c = record { follow = c.replays_follow.ensures; costs = c.replays_cost_the_same.ensures; volumes = c.records_keep_volumes.ensures; sweeps = c.sweeps_keep_volumes.ensures }
