use Rattle.std.proofs.Common.{ap}
use Rattle.system.specs.Waits.{Waits}
use Rattle.mount.proofs.CommandLemmas.{is_alone}
use Rattle.mount.proofs.waiting.Waiting.apply_alone.Goals as goal

pub invariant_of-self : goal.invariant_of-self
invariant_of-self g c = record { half = λ some. absurd (some (ap (λ (w : Waits). w.batch) c.requires)); none = λ stopped. c.requires }

pub returns : goal.returns
returns g c =
    is_alone {G = g.S.Station} c.args.self.now _ c.args.command.now c.apply-reply.result c.requires c.requires c.apply-reply.ensures c.kept_states_open.ensures.ends c.kept_states_open-2.ensures.begins
    (λ s here. c.served_states_open.ensures s.tree.descriptors s here)
