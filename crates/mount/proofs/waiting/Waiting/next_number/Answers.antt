use Rattle.mount.proofs.waiting.Waiting.next_number.Goals as goal

pub returns-clause-fresh : goal.returns-clause-fresh
returns-clause-fresh g c = λ s kept shows. c.next_number.ensures.ahead c.args.self.now.records s.tree.descriptors s kept shows.ahead
