use Rattle.mount.proofs.CommitLemmas.{slices_fail, slices_more, slices_none}
use Rattle.mount.proofs.fs.Fs.write_slices.Goals as goal

pub loop-init : goal.loop-init
loop-init g c = slices_none {G = g.S.Station} c.args.self.now c.requires (λ s here. c.served_states_open.ensures s.tree.descriptors s here)

pub returns-in-Err : goal.returns-in-Err
returns-in-Err g c = slices_fail {G = g.S.Station} c.args.self.now c.loop.self _ _ c.in-Err.errno c.loop.invariant c.in-Err.ensures

pub loop-preserved : goal.loop-preserved
loop-preserved g c = slices_more {G = g.S.Station} c.args.self.now c.loop.self _ _ _ c.loop.invariant (c.in_default.ensures)
