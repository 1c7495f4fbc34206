use Rattle.std.proofs.Common.{◌↔◌, ◌∙◌, ℕ, List, ap, subst, sym}
use Rattle.std.specs.Prelude.{IsTrue}
use Rattle.station.specs.Images.{Images}
use Rattle.layout.specs.Maps.{IsIndirectBlock}
use Rattle.buffers.specs.Disks.{numbered_blocks}
use Rattle.buffers.specs.Readings.{reads_none}
use Rattle.overlay.proofs.OverlayLaws.{over_still}
use Rattle.overlay.proofs.overlay.OverlayBlocks.is_indirect.Goals as goal

pub returns-in-Some-clause-is : goal.returns-in-Some-clause-is
returns-in-Some-clause-is g c = λ disk shows.
    subst (λ (n : ℕ). IsTrue c.is_indirect_block.result ↔ IsIndirectBlock c.args.layout n c.args.used (disk c.args.place)) c.count.ensures
    (subst (λ (b : List ℕ). IsTrue c.is_indirect_block.result ↔ IsIndirectBlock c.args.layout c.count.result c.args.used b) (c.bytes.ensures ∙ c.in-Some.ensures.bytes disk shows) c.is_indirect_block.ensures)

pub returns-clause-is : goal.returns-clause-is
returns-clause-is g c = λ disk shows.
    subst (λ (b : List ℕ). IsTrue c.is_indirect.result ↔ IsIndirectBlock c.args.layout (numbered_blocks (g.S.Station.meaning c.args.self.now.buffers.station).sectors) c.args.used b) (sym (c.in_default.ensures.below disk shows))
    (c.is_indirect.ensures.is _ shows.below)

pub returns-clause-same : goal.returns-clause-same
returns-clause-same g c = λ disk shows.
    let m = g.S.Station.meaning c.args.self.now.buffers.station in
    let read = c.is_indirect.ensures.reads c.args.self.now.buffers (reads_none m) in
    over_still m (g.S.Station.meaning c.is_indirect.new.self.station) c.args.self.now.buffers.kept c.is_indirect.new.self.kept c.args.self.now.pending disk
    (ap (λ (i : Images). i.disk) (read.goes shows.below.honest).seen) c.is_indirect.ensures.same shows
