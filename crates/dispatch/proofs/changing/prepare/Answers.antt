use Rattle.std.proofs.Common.{refl}
use Rattle.calls.proofs.PrepareSteps.{carried}
use Rattle.dispatch.specs.Preparing.{PreparesOn}
use Rattle.dispatch.proofs.PreparedLaws.{can_carry_out, no_memory}
use Rattle.dispatch.proofs.changing.prepare.Goals as goal

pub returns-in_err-prepared : goal.returns-in_err-prepared
returns-in_err-prepared g c =
    carried (PreparesOn {G = g.S.Station} c.args.system.now _ c.args.call.now) c.from_residual.result c.from_residual.ensures.1 (record {
      parts = refl;
      prepares = c.in_err-prepared.ensures;
      said = c.fits.ensures;
      table = refl;
      fits = λ v fits. fits;
      can = tt;
    })

pub returns-in-Ok : goal.returns-in-Ok
returns-in-Ok g c = record {
  parts = refl;
  prepares = c.in_ok-prepared.ensures;
  said = c.fits.ensures;
  table = c.make_room.ensures.table;
  fits = c.make_room.ensures.fits;
  can = can_carry_out c.args.system.now.session c.in_ok-prepared.ensures _ refl c.make_room.ensures.table c.in-Ok.ensures.room;
}

pub returns : goal.returns
returns g c = record {
  parts = refl;
  prepares = no_memory c.args.system.now.session c.in_ok-prepared.ensures;
  said = c.fits.ensures;
  table = c.make_room.ensures.table;
  fits = c.make_room.ensures.fits;
  can = tt;
}
