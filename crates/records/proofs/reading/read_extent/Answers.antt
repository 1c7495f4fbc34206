use Rattle.std.proofs.Common.{ℕ, ap, subst}
use Rattle.blocktree.specs.Trees.{AreSound}
use Rattle.model.specs.Volumes.{is_file_node}
use Rattle.inofile.specs.Settled.{content_of_object}
use Rattle.images.specs.Soundness.{by_bytes}
use Rattle.paths.proofs.LookingUp.{fails, finds}
use Rattle.paths.proofs.Looks.{looks_reads}
use Rattle.records.proofs.KindLaws.{not_file}
use Rattle.records.proofs.ExtentLaws.{extent_told}
use Rattle.records.proofs.reading.read_extent.Goals as goal

pub returns-in_err-load : goal.returns-in_err-load
returns-in_err-load g c = fails c.from_residual.result c.from_residual.ensures.1 c.in_err-load.ensures.looks c.load.ensures.loads (λ disk settled v stands. c.in_err-load.ensures.damaged disk settled v stands)

pub returns-in_default : goal.returns-in_default
returns-in_default g c = finds c.in_ok-load.ensures.looks c.load.ensures.loads tt (λ disk settled v stands _ _ _ _.
    ap is_file_node (c.in_default.ensures.stands_for_none _ _ disk settled v (c.in_ok-load.ensures.looks.kept disk settled v stands).volume))

pub returns-in_default-kind : goal.returns-in_default-kind
returns-in_default-kind g c = finds c.in_ok-load.ensures.looks c.load.ensures.loads tt (λ disk settled v stands _ _ _ _.
    let o = c.in-Some.ensures.stands _ _ disk settled v (c.in_ok-load.ensures.looks.kept disk settled v stands).volume in
    let object = c.in-Some.object.now in
    not_file by_bytes object.status.kind c.load.new.inodes.geometry.inodes (content_of_object disk object) (v c.args.number) o.stands c.in_default-kind.not-File)

pub returns-in_err-extent : goal.returns-in_err-extent
returns-in_err-extent g c =
    fails c.from_residual-in_err-extent.result c.from_residual-in_err-extent.ensures.1 (looks_reads c.in_ok-load.ensures.looks c.in_err-extent.ensures.reads) c.load.ensures.loads (λ disk settled v stands is.
    let now = c.in_ok-load.ensures.looks.kept disk settled v stands in
    let o = c.in-Some.ensures.stands _ _ disk settled v now.volume in
    let tree = c.in-Some.object.now.file.tree in
    let inodes = now.volume.inodes in
    c.in_err-extent.ensures.damaged disk now.shows is
    (subst (λ (n : ℕ). AreSound n disk tree) inodes.count
    (c.based_trees_are_sound.ensures.all by_bytes c.load.new.inodes.geometry disk (settled c.args.number) tree (inodes.sound c.args.number) o.base)))

pub returns : goal.returns
returns g c = finds (looks_reads c.in_ok-load.ensures.looks c.in_ok-extent.ensures.reads) c.load.ensures.loads tt (λ disk settled v stands over stored shows told.
    let now = c.in_ok-load.ensures.looks.kept disk settled v stands in
    let object = c.in-Some.object.now in
    let o = c.in-Some.ensures.stands _ _ disk settled v now.volume in
    extent_told disk over c.load.new.inodes.geometry.inodes object v c.args.number c.args.offset (stored c.args.number) c.in_ok-extent.extent c.in-File.is o.stands
    (told c.args.number object c.in-Some.ensures.loaded) (c.in_ok-extent.ensures.told over (c.in_ok-load.ensures.looks.reads.same over shows)))
