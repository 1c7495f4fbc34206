use Rattle.std.proofs.Common.{◌∙◌, refl, ap, subst}
use Rattle.std.specs.Prelude.{IsSome}
use Rattle.blocktree.specs.PlaceMaps.{pointer_in}
use Rattle.blocktree.proofs.PlaceMapLaws.{others_put, there_put}
use Rattle.blocktree.proofs.place_map.PlaceMap.set.Goals as goal

pub returns-in-Some-clause-there : goal.returns-in-Some-clause-there
returns-in-Some-clause-there c =
    there_put c.args.self.now _ c.fan_out-fan.result c.args.i c.set.new.self c.args.pointer c.fan_out-fan.ensures.value refl ((c.get_mut.follows.holds c.set.new.self).3 (subst IsSome c.in-Some.ensures.value refl)) c.set.ensures.there

pub returns-in-Some-clause-others : goal.returns-in-Some-clause-others
returns-in-Some-clause-others c =
    others_put c.args.self.now _ c.fan_out-fan.result c.args.i c.set.new.self c.fan_out-fan.ensures.value refl ((c.get_mut.follows.holds c.set.new.self).3 (subst IsSome c.in-Some.ensures.value refl))
    (λ k other. c.set.ensures.others k other ∙ ap (λ o. pointer_in o k) c.in-Some.ensures.value)
