use Rattle.mount.proofs.waiting.Waiting.count_inodes.Goals as goal

pub returns : goal.returns
returns g c = λ s kept shows. c.count_inodes.ensures.ahead c.args.self.now.records s.tree.descriptors s kept shows.ahead
