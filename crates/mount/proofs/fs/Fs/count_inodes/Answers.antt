use Rattle.mount.proofs.fs.Fs.count_inodes.Goals as goal

pub returns : goal.returns
returns g c = λ s serves still. c.count_inodes.ensures.served s.tree.descriptors s (serves.kept still)
