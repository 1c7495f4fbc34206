use Rattle.std.proofs.Common.{◌∙◌, sym}
use Rattle.paths.proofs.Reaching.{from_number, next_behind, root_failed, root_found}
use Rattle.paths.proofs.resolution.resolve.Goals as goal

pub returns-in_err-place-in-None : goal.returns-in_err-place-in-None
returns-in_err-place-in-None g c = root_failed c.from_residual.result c.from_residual.ensures.1 c.in_err-place-in-None.ensures

pub returns-in_ok-place-in-None : goal.returns-in_ok-place-in-None
returns-in_ok-place-in-None g c = root_found (sym c.start.ensures ∙ c.in-None.is) c.requires c.in_ok-place-in-None.ensures

pub returns-in-Some : goal.returns-in-Some
returns-in-Some g c =
    let start = sym c.start.ensures ∙ c.in-Some.is in
    from_number c.args.text.now c.in-Some.number start
    (next_behind (λ part. part.items) c.args.text.now c.in-Some.number c.args.parts c.next.new.self c.next.result start c.requires c.next.ensures.some c.next.ensures.none)
    c.resolve_from.ensures
