use Rattle.std.proofs.Common.{refl, subst}
use Rattle.layout.specs.Limits.{Sizes}
use Rattle.layout.specs.StateLimits.{limits_of}
use Rattle.model.specs.Attributes.{FitAttributes, given_attributes, permissions_of}
use Rattle.model.specs.Records.{change_attributes, stamped}
use Rattle.calls.specs.Changing.{Decides}
use Rattle.calls.proofs.AttributeLaws.{attributes_told, fit_at}
use Rattle.calls.proofs.PrepareSteps.{follows, granted, hindered, stops}
use Rattle.calls.proofs.preparing.attributes.change_attributes.Goals as goal

pub returns-in_err-old : goal.returns-in_err-old
returns-in_err-old g c = stops c.from_residual.result c.from_residual.ensures.1 c.in_err-old.ensures.looks (λ disk settled v stands. c.in_err-old.ensures.damaged disk settled v stands)

pub returns-in_err-prepared : goal.returns-in_err-prepared
returns-in_err-prepared g c =
    let old = c.in_ok-old.ensures in
    let held = c.in_place-given.result in
    follows {Q = λ limits v table. Decides limits v (stamped c.args.now (change_attributes c.args.number (permissions_of held) held.modified))} old.looks
    (hindered _ c.from_residual-in_err-prepared.result c.from_residual-in_err-prepared.ensures.1 c.in_err-prepared.ensures.decides (λ disk settled v table stands volume errno first. first stands))
    (λ disk settled v table stands volume mounted.
    let found = old.found disk settled v stands in
    attributes_told (limits_of c.args.inodes.now.geometry) c.args.now v table volume mounted c.records_change_trees.ensures c.args.number c.args.new c.in_ok-old.old held
    found.0 c.in_place-given.ensures.changes c.requires.now c.requires.may found.1 c.in_place-given.ensures.limits)

pub returns : goal.returns
returns g c =
    let old = c.in_ok-old.ensures in
    let held = c.in_place-given.result in
    let given = given_attributes (permissions_of held) held.modified in
    let fits = subst (λ (z : Sizes). FitAttributes (limits_of z).has_attributes given) old.looks.geometry c.in_ok-prepared.ensures.kept in
    follows {Q = λ limits v table. Decides limits v (stamped c.args.now (change_attributes c.args.number (permissions_of held) held.modified))} old.looks
    (granted c.in_ok-prepared.ensures.decides refl refl (fit_at (limits_of c.args.inodes.now.geometry).has_attributes c.args.now given c.requires.now fits)
    (λ disk settled v stands. stands) (λ disk settled v table stands volume applies. (refl, applies stands)))
    (λ disk settled v table stands volume mounted.
    let found = old.found disk settled v stands in
    attributes_told (limits_of c.args.inodes.now.geometry) c.args.now v table volume mounted c.records_change_trees.ensures c.args.number c.args.new c.in_ok-old.old held
    found.0 c.in_place-given.ensures.changes c.requires.now c.requires.may found.1 c.in_place-given.ensures.limits)
