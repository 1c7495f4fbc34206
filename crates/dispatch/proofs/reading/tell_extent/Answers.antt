use Rattle.std.proofs.Common.{refl, w64}
use Rattle.std.proofs.lemmas.Int.{to_z-of_z}
use Rattle.dispatch.proofs.AskingLaws.{extent_at, grants, grants_none}
use Rattle.dispatch.proofs.reading.tell_extent.Goals as goal

pub returns-in_err-extent-clause-tells : goal.returns-in_err-extent-clause-tells
returns-in_err-extent-clause-tells g c =
    grants_none _ c.from_residual.result c.from_residual.ensures.1 (λ errno. refl) (extent_at c.args.path.now (to_z-of_z w64 c.args.offset c.ranges.offset) c.in_err-extent.ensures)

pub returns-clause-tells : goal.returns-clause-tells
returns-clause-tells g c = grants (extent_at c.args.path.now (to_z-of_z w64 c.args.offset c.ranges.offset) c.in_ok-extent.ensures)
