use Rattle.std.proofs.Common.{ap, sym}
use Rattle.layout.specs.Limits.{Sizes}
use Rattle.layout.specs.StateLimits.{limits_of}
use Rattle.system.proofs.RoomLaws.{free_is}
use Rattle.system.proofs.SystemLaws.{sizes}
use Rattle.system.proofs.system.System.space.Goals as goal

pub returns-clause-free : goal.returns-clause-free
returns-clause-free g c = λ table s serves.
    free_is {G = g.S.Station} c.args.self.now table s serves

pub returns-clause-told : goal.returns-clause-told
returns-clause-told g c = λ table s serves orphans covered stored is. record {
  costs = ap (λ (g : Sizes). (limits_of g).costs) (sym (sizes serves));
  pledged = serves.lasts.pledges;
  covered = is;
}
