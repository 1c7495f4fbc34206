use Rattle.std.proofs.Common.{Ok, subst}
use Rattle.paths.specs.Resolves.{Resolves}
use Rattle.paths.proofs.Reaching.{no_object, place_failed, place_found}
use Rattle.paths.proofs.resolution.resolve_place.Goals as goal

pub returns-in_err-target : goal.returns-in_err-target
returns-in_err-target g c = place_failed c.from_residual.result c.from_residual.ensures.1 c.in_err-target.ensures

pub returns : goal.returns
returns g c = place_found (subst (λ x. Resolves g.B.Blocks c.args.blocks.now c.resolve.new.blocks c.args.inodes.now c.resolve.new.inodes c.args.text.now c.args.follow (Ok x)) c.in-Place.is c.in_ok-target.ensures)

pub unreachable-requires : goal.unreachable-requires
unreachable-requires g c =
    absurd (no_object c.requires.named (subst (λ x. Resolves g.B.Blocks c.args.blocks.now c.resolve.new.blocks c.args.inodes.now c.resolve.new.inodes c.args.text.now c.args.follow (Ok x)) c.in-Object.is c.in_ok-target.ensures))
