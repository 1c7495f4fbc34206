use Rattle.std.proofs.Common.{◌≡◌, ◌∙◌, List, ℕ, ap, refl, sym, subst}
use Rattle.layout.specs.StateLimits.{limits_of}
use Rattle.model.specs.Records.{Applies, Change, link, stamped}
use Rattle.records.specs.Obstacles.{IsObstacle}
use Rattle.records.proofs.StandLaws.{no_look}
use Rattle.calls.proofs.PrepareSteps.{granted, hindered, refuses}
use Rattle.calls.proofs.preparing.link.link_in.Goals as goal

pub returns-in_default : goal.returns-in_default
returns-in_default g c = refuses no_look refl (λ disk settled v table stands volume mounted. c.in_default.ensures.none)

pub returns-in_err-prepared : goal.returns-in_err-prepared
returns-in_err-prepared g c =
    let said = λ (x : List ℕ). stamped c.args.now (link c.args.number c.args.parent x) in
    let same : said c.deref.result.now ≡ said c.args.name.items = ap said (c.deref.ensures.value ∙ c.in-Some.ensures.some) in
    hindered _ c.from_residual.result c.from_residual.ensures.1 c.in_err-prepared.ensures
    (λ disk settled v table stands volume errno first. subst (λ (h : Change). IsObstacle (limits_of c.args.inodes.now.geometry) v h errno) same (first stands))

pub returns : goal.returns
returns g c =
    let said = λ (x : List ℕ). stamped c.args.now (link c.args.number c.args.parent x) in
    let same : said c.deref.result.now ≡ said c.args.name.items = ap said (c.deref.ensures.value ∙ c.in-Some.ensures.some) in
    granted c.in_ok-prepared.ensures refl (ap said (sym c.deref.ensures.value)) tt (λ disk settled v stands. stands)
    (λ disk settled v table stands volume applies. (ap said c.in-Some.ensures.some, subst (Applies (limits_of c.args.inodes.now.geometry) v) same (applies stands)))
