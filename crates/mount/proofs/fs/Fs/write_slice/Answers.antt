use Rattle.mount.proofs.CommitLemmas.{slice_done, slice_failed}
use Rattle.std.proofs.Common.{refl}
use Rattle.mount.proofs.fs.Fs.write_slice.Goals as goal

pub returns-in-Ok : goal.returns-in-Ok
returns-in-Ok g c = slice_done {G = g.S.Station} c.args.self.now _ c.requires.under_way _ c.requires.going c.in-Ok.ensures.steps

pub returns-in-Err : goal.returns-in-Err
returns-in-Err g c = slice_failed {G = g.S.Station} c.args.self.now _ c.requires.under_way c.in-Err.field-0 refl c.in-Err.ensures.steps
