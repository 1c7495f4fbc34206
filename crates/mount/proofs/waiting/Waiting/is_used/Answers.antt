use Rattle.mount.proofs.waiting.Waiting.is_used.Goals as goal

pub returns : goal.returns
returns g c = λ s kept shows. c.is_used.ensures.ahead c.args.self.now.records s.tree.descriptors s kept shows.ahead
