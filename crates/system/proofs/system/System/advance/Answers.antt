use Rattle.std.proofs.Common.{◌<◌, ◌≤◌, List, ℕ, Ok, Err, refl, arith}
use Rattle.conspoint.specs.Cuts.{IsFault}
use Rattle.overlay.specs.Overlays.{ShowsOver, unwritten}
use Rattle.system.specs.declared.error.PointError.TheVariants.{NotWritten}
use Rattle.system.specs.declared.slicing.TheConstants.{SLICE_BLOCKS}
use Rattle.system.proofs.SteppingLaws.{done_too, last_ready, last_slice, slice_of, slice_ready, slice_step, wrote_all, wrote_not}
use Rattle.system.proofs.system.System.advance.Goals as goal

pub returns-then-left-le-SLICE_BLOCKS-clause-steps : goal.returns-then-left-le-SLICE_BLOCKS-clause-steps
returns-then-left-le-SLICE_BLOCKS-clause-steps g c =
    let few : unwritten c.args.self.now.blocks.pending ≤ SLICE_BLOCKS = omega (arith, c.left.ensures, c.if-left-le-SLICE_BLOCKS.true) in
    last_slice {G = g.S.Station} c.points_go_on.ensures c.args.self.now c.finish.new.self (g.met.S.Station.seen_may_be_left c.finish.new.self.blocks.buffers.station) c.finish.result c.requires c.finish.ensures few

pub returns-then-left-le-SLICE_BLOCKS-clause-ready : goal.returns-then-left-le-SLICE_BLOCKS-clause-ready
returns-then-left-le-SLICE_BLOCKS-clause-ready g c =
    last_ready {G = g.S.Station} c.points_go_on.ensures c.args.self.now c.finish.new.self (g.met.S.Station.seen_may_be_left c.finish.new.self.blocks.buffers.station) c.finish.result c.requires c.finish.ensures

pub returns-in-Ok : goal.returns-in-Ok
returns-in-Ok g c =
    let f = c.args.self.now in
    let m = g.S.Station.meaning f.blocks.buffers.station in
    let now = c.write_some.new.self in
    let n = g.S.Station.meaning now.buffers.station in
    let did = c.write_some.ensures in
    let more : SLICE_BLOCKS < unwritten f.blocks.pending = omega (arith, c.left.ensures, c.if-left-le-SLICE_BLOCKS.false) in
    let shows = λ (disk : ℕ → List ℕ) (shows : ShowsOver m f.blocks.buffers.kept f.blocks.pending disk).
    done_too c.write_some.result c.in-Ok.field-0 c.in-Ok.is (ShowsOver n now.buffers.kept now.pending disk) (did.shows disk shows) in
    let slice = slice_of f.blocks.pending now.pending c.write_some.result c.in-Ok.field-0 c.in-Ok.is c.requires did.slice more in
    record {
      steps = slice_step {G = g.S.Station} c.cuts_open.ensures c.points_go_on.ensures f _ c.requires refl did.goes (Ok tt) shows slice
          (wrote_all IsFault m n c.write_some.result c.in-Ok.field-0 c.in-Ok.is did.writes) tt;
      ready = slice_ready {G = g.S.Station} c.cuts_open.ensures c.points_go_on.ensures f _ c.requires refl did.goes (Ok tt) shows slice;
    }

pub returns-in-Err : goal.returns-in-Err
returns-in-Err g c =
    let f = c.args.self.now in
    let m = g.S.Station.meaning f.blocks.buffers.station in
    let n = g.S.Station.meaning c.write_some.new.self.buffers.station in
    let did = c.write_some.ensures in
    record {
      steps = slice_step {G = g.S.Station} c.cuts_open.ensures c.points_go_on.ensures f _ c.requires refl did.goes (Err NotWritten) (λ disk shows. tt) tt
          (wrote_not IsFault m n c.write_some.result c.in-Err.field-0 c.in-Err.is did.writes did.device) refl;
      ready = slice_ready {G = g.S.Station} c.cuts_open.ensures c.points_go_on.ensures f _ c.requires refl did.goes (Err NotWritten) (λ disk shows. tt) tt;
    }
