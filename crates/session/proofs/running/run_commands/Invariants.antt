use Rattle.std.proofs.Common.{Bool, take}
use Rattle.std.specs.Fn.{FnReturnsAt}
use Rattle.session.proofs.RunLemmas.{IsReached}
use Rattle.session.proofs.running.run_commands.Given as goal

abbrev pub invariant-loop-command : goal.invariant-loop-command
invariant-loop-command g l =
    IsReached {G = g.S.Station} l.fn.fs l.fs (take l.command-index l.commands) l.stops (λ (b : Bool). FnReturnsAt g.C.Fn l.was_cut l.fs.system.blocks.buffers.station b) (g.O.Write.contents l.fn.out.inner) (g.O.Write.contents l.out.inner)
