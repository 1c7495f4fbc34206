use Rattle.std.proofs.Common.{◌≡◌, ◌∙◌, ◌*◌, ℕ, Option, None, ap, refl, sym, subst}
use Rattle.layout.specs.StateLimits.{limits_of}
use Rattle.layout.specs.Places.{blocks_of}
use Rattle.buffers.specs.Disks.{ReadsOn}
use Rattle.overlay.specs.Overlays.{ShowsOver}
use Rattle.overlay.specs.declared.pending.PendingPoint.{PendingPoint}
use Rattle.system.proofs.LookedLaws.{reads_nothing}
use Rattle.station.proofs.Moments.{still_left}
use Rattle.system.proofs.OpenLaws.{IsOver, read_from, serves, shown_new}
use Rattle.system.proofs.opening.open_found.Goals as goal

pub invariant_of-result-clause-sectors : goal.invariant_of-result-clause-sectors
invariant_of-result-clause-sectors g c =
    (read_from {G = g.S.Station} c.args.station c.new-buffers.result c.new-blocks.result c.new-buffers.ensures.station c.new-blocks.ensures.buffers c.read_image.new.blocks c.read_image.ensures.reads.reads).same.sectors ∙ c.requires.fits.sectors

pub invariant_of-result-clause-nvram : goal.invariant_of-result-clause-nvram
invariant_of-result-clause-nvram g c =
    (read_from {G = g.S.Station} c.args.station c.new-buffers.result c.new-blocks.result c.new-buffers.ensures.station c.new-blocks.ensures.buffers c.read_image.new.blocks c.read_image.ensures.reads.reads).same.nvram_bytes ∙ c.requires.fits.nvram
    ∙ ap (λ (n : ℕ). 2 * n) (sym c.in-Ok.ensures.fits.half)

pub returns-in-Ok-clause-reads : goal.returns-in-Ok-clause-reads
returns-in-Ok-clause-reads g c =
    read_from {G = g.S.Station} c.args.station c.new-buffers.result c.new-blocks.result c.new-buffers.ensures.station c.new-blocks.ensures.buffers c.read_image.new.blocks c.read_image.ensures.reads.reads

pub returns-in-Err-clause-reads : goal.returns-in-Err-clause-reads
returns-in-Err-clause-reads g c =
    subst (λ (s : g.row.S.Denot). ReadsOn (g.S.Station.meaning c.args.station) (g.S.Station.meaning s)) (sym c.into_station.ensures)
    (read_from {G = g.S.Station} c.args.station c.new-buffers.result c.new-blocks.result c.new-buffers.ensures.station c.new-blocks.ensures.buffers c.read_image.new.blocks c.read_image.ensures.reads.reads)

pub returns-in-Ok-clause-serves : goal.returns-in-Ok-clause-serves
returns-in-Ok-clause-serves g c honest just of first last snapshots changes holds =
    let m = g.S.Station.meaning c.args.station in
    let new = g.S.Station.meaning c.read_image.new.blocks.buffers.station in
    let kept = c.read_image.new.blocks.buffers.kept in
    let i = m.seen in
    let shows = shown_new {G = g.S.Station} c.args.station c.new-buffers.result c.new-blocks.result c.new-buffers.ensures.station c.new-blocks.ensures.buffers
    (c.new-buffers.ensures.shows (blocks_of i.disk) honest (λ place within. refl)) c.new-blocks.ensures.shows in
    let from = read_from {G = g.S.Station} c.args.station c.new-buffers.result c.new-blocks.result c.new-buffers.ensures.station c.new-blocks.ensures.buffers c.read_image.new.blocks c.read_image.ensures.reads.reads in
    let rests : c.read_image.new.blocks.pending ≡ None = (c.read_image.ensures.reads.reads c.new-blocks.result (reads_nothing g.S.Station c.new-blocks.result)).pending ∙ c.new-blocks.ensures.none in
    let over : IsOver new kept c.args.found c.in-Ok.field-0 first last snapshots changes c.new.result c.new.ensures.closed c.new.ensures.fits c.new-in-Ok.result c.new-in-Ok.ensures i = record {
      just = still_left m new i from.same from.goes just;
      shows = subst (λ (l : Option PendingPoint). ShowsOver new kept l (blocks_of i.disk)) rests (c.read_image.ensures.reads.same (blocks_of i.disk) shows);
      of = of;
      holds = holds;
      has = c.in-Ok.ensures.has (blocks_of i.disk) i.nvram first last snapshots changes shows of.saved holds;
    } in
    let limits = limits_of c.args.found.newest.root.geometry in
    let mounted = (c.mounts_find_volumes.ensures limits last (c.replays_keep_volumes.ensures limits first changes last holds.holds.volume holds.replays)).1 in
    serves new kept c.args.found c.in-Ok.field-0 first last snapshots changes c.new.result c.new.ensures.closed c.new.ensures.fits c.new-in-Ok.result c.new-in-Ok.ensures c.read_image.new.blocks.pending rests i (from.goes honest).seen mounted
    c.in-Ok.ensures.fits.runs over

pub returns-in-Err-clause-serves : goal.returns-in-Err-clause-serves
returns-in-Err-clause-serves g c honest just of first last snapshots changes holds =
    let i = (g.S.Station.meaning c.args.station).seen in
    let shows = shown_new {G = g.S.Station} c.args.station c.new-buffers.result c.new-blocks.result c.new-buffers.ensures.station c.new-blocks.ensures.buffers
    (c.new-buffers.ensures.shows (blocks_of i.disk) honest (λ place within. refl)) c.new-blocks.ensures.shows in
    c.in-Err.ensures.has (blocks_of i.disk) i.nvram first last snapshots changes shows of.saved holds

pub returns-in-Ok-clause-found : goal.returns-in-Ok-clause-found
returns-in-Ok-clause-found g c honest of =
    let i = (g.S.Station.meaning c.args.station).seen in
    let shows = shown_new {G = g.S.Station} c.args.station c.new-buffers.result c.new-blocks.result c.new-buffers.ensures.station c.new-blocks.ensures.buffers
    (c.new-buffers.ensures.shows (blocks_of i.disk) honest (λ place within. refl)) c.new-blocks.ensures.shows in
    record { newest = of.newest; fits = c.requires.fits; read = c.in-Ok.ensures.found (blocks_of i.disk) i.nvram shows of.saved }

pub returns-in-Err-clause-faultless : goal.returns-in-Err-clause-faultless
returns-in-Err-clause-faultless g c honest of changes under =
    let i = (g.S.Station.meaning c.args.station).seen in
    let shows = shown_new {G = g.S.Station} c.args.station c.new-buffers.result c.new-blocks.result c.new-buffers.ensures.station c.new-blocks.ensures.buffers
    (c.new-buffers.ensures.shows (blocks_of i.disk) honest (λ place within. refl)) c.new-blocks.ensures.shows in
    c.in-Err.ensures.faultless (blocks_of i.disk) i.nvram changes shows of.saved under
