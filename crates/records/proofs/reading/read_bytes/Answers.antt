use Rattle.std.proofs.Common.{◌∙◌, ap}
use Rattle.model.specs.Volumes.{is_file_node}
use Rattle.inofile.specs.Settled.{content_of_object}
use Rattle.images.specs.Soundness.{by_bytes}
use Rattle.paths.proofs.LookingUp.{fails, finds}
use Rattle.paths.proofs.Looks.{looks_reads}
use Rattle.records.proofs.KindLaws.{not_file, part_read}
use Rattle.records.proofs.reading.read_bytes.Goals as goal

pub returns-in_err-load : goal.returns-in_err-load
returns-in_err-load g c = fails c.from_residual.result c.from_residual.ensures.1 c.in_err-load.ensures.looks c.load.ensures.loads (λ disk settled v stands. c.in_err-load.ensures.damaged disk settled v stands)

pub returns-in_default : goal.returns-in_default
returns-in_default g c = finds c.in_ok-load.ensures.looks c.load.ensures.loads tt (λ disk settled v stands.
    ap is_file_node (c.in_default.ensures.stands_for_none _ _ disk settled v (c.in_ok-load.ensures.looks.kept disk settled v stands).volume))

pub returns-in_default-kind : goal.returns-in_default-kind
returns-in_default-kind g c = finds c.in_ok-load.ensures.looks c.load.ensures.loads tt (λ disk settled v stands.
    let o = c.in-Some.ensures.stands _ _ disk settled v (c.in_ok-load.ensures.looks.kept disk settled v stands).volume in
    let object = c.in-Some.object.now in
    not_file by_bytes object.status.kind c.load.new.inodes.geometry.inodes (content_of_object disk object) (v c.args.number) o.stands c.in_default-kind.not-File)

pub returns-in_err-bytes : goal.returns-in_err-bytes
returns-in_err-bytes g c =
    fails c.from_residual-in_err-bytes.result c.from_residual-in_err-bytes.ensures.1 (looks_reads c.in_ok-load.ensures.looks c.in_err-bytes.ensures.reads) c.load.ensures.loads (λ disk settled v stands is.
    let now = c.in_ok-load.ensures.looks.kept disk settled v stands in
    let o = c.in-Some.ensures.stands _ _ disk settled v now.volume in
    c.in_err-bytes.ensures.damaged disk now.shows is
    (λ i. c.objects_stand_in_their_grammar.ensures _ _ disk settled c.load.new.inodes v c.args.number i c.in-Some.object.now (v c.args.number) now.volume o tt))

pub returns : goal.returns
returns g c = finds (looks_reads c.in_ok-load.ensures.looks c.in_ok-bytes.ensures.reads) c.load.ensures.loads tt (λ disk settled v stands.
    let now = c.in_ok-load.ensures.looks.kept disk settled v stands in
    let o = c.in-Some.ensures.stands _ _ disk settled v now.volume in
    part_read disk c.load.new.inodes.geometry.inodes c.in-Some.object.now v c.args.number c.args.offset c.args.count c.new.result c.in-File.is o.stands (c.new.ensures ∙ c.in_ok-bytes.ensures.bytes disk now.shows))
