use Rattle.std.proofs.Common.{ℕ, ◌*◌, ◌<◌, List, length, take, ap, sym, subst, ◌∙◌}
use Rattle.station.specs.Images.{SectorsWritten}
use Rattle.buffers.specs.Disks.{ShowsDisk, disk_with_block}
use Rattle.conspoint.specs.declared.plan.PlannedBlock.{PlannedBlock}
use Rattle.conspoint.specs.Plans.{Planned}
use Rattle.conspoint.specs.Cuts.{HoldsWritten, disk_with_blocks, disk_so_far}
use Rattle.conspoint.proofs.DiskBlocks.{disk_more}
use Rattle.conspoint.proofs.Writes.{more_holds}
use Rattle.conspoint.proofs.plan.Plan.write_next.Goals as goal

pub returns-clause-written : goal.returns-clause-written
returns-clause-written g c holds honest1 =
    let m0 = g.S.Station.meaning c.args.buffers.now.station in
    let m1 = g.S.Station.meaning c.store.new.self.station in
    let honest = c.store.ensures.call.same.honest.1 honest1 in
    let blocks = c.self.inside.blocks.items in
    let at = c.self.inside.written in
    let block = c.index-block.result.now in
    let more = subst (λ (p : Planned). p.written < length p.blocks) (sym c.self.view_is) c.requires.more in
    let size = ap (λ (b : PlannedBlock). length b.bytes) c.index-block.ensures ∙ c.self.invariant.blocks.sizes at block more in
    let writes = subst (λ (xs : List ℕ). SectorsWritten (8 * block.place) xs m0.seen m1.seen) c.bytes.ensures (c.in_ok-store.ensures.written honest) in
    more_holds blocks at block m0.seen m1.seen c.self.invariant.blocks.apart more c.index-block.ensures size writes
    (subst (λ (p : Planned). HoldsWritten p m0.seen) (sym c.self.view_is) (holds honest))

pub returns-clause-shows : goal.returns-clause-shows
returns-clause-shows g c disk shows =
    let m0 = g.S.Station.meaning c.args.buffers.now.station in
    let m1 = g.S.Station.meaning c.store.new.self.station in
    let blocks = c.self.inside.blocks.items in
    let at = c.self.inside.written in
    let block = c.index-block.result.now in
    let more = subst (λ (p : Planned). p.written < length p.blocks) (sym c.self.view_is) c.requires.more in
    let before = disk_with_blocks (take at blocks) disk in
    let old = subst (λ (p : Planned). ShowsDisk m0 c.args.buffers.now.kept (disk_so_far p disk)) (sym c.self.view_is) shows in
    let stored = subst (λ (xs : List ℕ). ShowsDisk m1 c.store.new.self.kept (disk_with_block block.place xs before)) c.bytes.ensures (c.in_ok-store.ensures.shows before old) in
    subst (λ (e : ℕ → List ℕ). ShowsDisk m1 c.store.new.self.kept e) (disk_more blocks at block disk c.index-block.ensures more) stored
