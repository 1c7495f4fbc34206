use Rattle.mount.proofs.fs.Fs.next_number.Goals as goal

pub returns-clause-fresh : goal.returns-clause-fresh
returns-clause-fresh g c = λ s serves still. c.next_number.ensures.fresh s.tree.descriptors s (serves.kept still)
