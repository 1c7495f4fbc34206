use Rattle.std.proofs.Common.{ap, sym}
use Rattle.model.specs.Records.{is_vacant}
use Rattle.inofile.specs.Settled.{content_of_object}
use Rattle.inofile.proofs.DetailLaws.{by_size}
use Rattle.records.proofs.KindLaws.{sized_file}
use Rattle.records.proofs.EnterLaws.{file_vacancy, other_vacancy}
use Rattle.records.proofs.Looking.{brought, fails, tells}
use Rattle.records.proofs.new_objects.is_vacant.Goals as goal

pub returns-in_err-load : goal.returns-in_err-load
returns-in_err-load g c = fails c.from_residual.result c.from_residual.ensures.1 (brought c.in_err-load.ensures)

pub returns-in_default : goal.returns-in_default
returns-in_default g c = tells (brought c.in_ok-load.ensures) (λ detail disk settled v now any. ap is_vacant (sym (c.in_default.ensures.stands_for_none _ _ disk settled v now.volume)))

pub returns-in-File : goal.returns-in-File
returns-in-File g c = tells (brought c.in_ok-load.ensures) (λ detail disk settled v now any.
    let o = c.in-Some.ensures.stands _ _ disk settled v now.volume in
    let content = content_of_object disk c.in-Some.object.now in
    file_vacancy c.load.new.inodes.geometry.inodes content (v c.args.number)
    (sized_file detail c.in-Some.object.now.status.kind c.load.new.inodes.geometry.inodes content (v c.args.number) o.stands c.in-File.is))

pub returns-in_default-kind : goal.returns-in_default-kind
returns-in_default-kind g c = tells (brought c.in_ok-load.ensures) (λ detail disk settled v now any.
    let o = c.in-Some.ensures.stands _ _ disk settled v now.volume in
    other_vacancy c.in-Some.object.now.status.kind c.load.new.inodes.geometry.inodes (content_of_object disk c.in-Some.object.now) (v c.args.number) c.in_default-kind.not-File o.kind
    (by_size detail c.in-Some.object.now.status.kind c.load.new.inodes.geometry.inodes (content_of_object disk c.in-Some.object.now) (v c.args.number) o.stands))
