use Rattle.std.proofs.Common.{◌∙◌, sym, ap}
use Rattle.inofile.specs.Settled.{content_of_object}
use Rattle.inofile.proofs.DetailLaws.{by_size}
use Rattle.paths.specs.Steps.{found_in}
use Rattle.paths.proofs.LookingUp.{fails_into, finds_into}
use Rattle.paths.proofs.Objects.{found_is}
use Rattle.paths.proofs.lookup.object_at.Goals as goal

pub returns-in_err-load : goal.returns-in_err-load
returns-in_err-load g c = fails_into c.from_residual.result c.from_residual.ensures.1 c.in_err-load.ensures.looks c.load.ensures.loads (λ detail disk settled v stands. c.in_err-load.ensures.damaged {detail = detail} disk settled v stands)

pub returns-in_default : goal.returns-in_default
returns-in_default g c = finds_into c.in_ok-load.ensures.looks c.load.ensures.loads tt (λ detail disk settled v stands.
    sym (ap found_in (c.in_default.ensures.stands_for_none _ _ disk settled v (c.load.ensures.looks.kept disk settled v stands).volume)))

pub returns : goal.returns
returns g c = finds_into c.in_ok-load.ensures.looks c.load.ensures.loads tt (λ detail disk settled v stands.
    let o = c.in-Some.object.now in
    let now = c.load.ensures.looks.kept disk settled v stands in
    let is_object = c.in-Some.ensures.stands _ _ disk settled v now.volume in
    c.found_by.ensures ∙ found_is o.status.kind c.load.new.inodes.geometry.inodes (content_of_object disk o) (v c.args.number) (by_size detail o.status.kind c.load.new.inodes.geometry.inodes (content_of_object disk o) (v c.args.number) is_object.stands))
