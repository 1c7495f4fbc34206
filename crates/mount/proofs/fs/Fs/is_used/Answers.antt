use Rattle.mount.proofs.fs.Fs.is_used.Goals as goal

pub returns : goal.returns
returns g c = λ s serves still. c.is_used.ensures.served s.tree.descriptors s (serves.kept still)
