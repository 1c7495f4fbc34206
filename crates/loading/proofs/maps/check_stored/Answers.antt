use Rattle.std.proofs.Common.{◌∙◌, ◌<◌, subst, sym, arith}
use Rattle.loading.specs.Readings.{HasAllPlaces}
use Rattle.loading.proofs.EndLaws.{lowest_nodes}
use Rattle.loading.proofs.maps.check_stored.Goals as goal

pub returns-then-has_hole-clause-damaged : goal.returns-then-has_hole-clause-damaged
returns-then-has_hole-clause-damaged g c = λ disk shows is sound all.
    let hole = c.has_hole.ensures.one c.if-has_hole.true in
    let t = c.tree-tree.result.now in
    let lt : hole.0 < t.count = omega (arith, hole.1, c.count.ensures.value) in
    subst (HasAllPlaces disk) (sym c.tree-tree.ensures) all hole.0 lt (sym (lowest_nodes disk t c.in_ok-places.places (c.in_ok-places.ensures.nodes disk shows) hole.0 lt) ∙ hole.2)

pub returns-clause-stored : goal.returns-clause-stored
returns-clause-stored g c = λ disk shows.
    let t = c.tree-tree.result.now in
    subst (HasAllPlaces disk) c.tree-tree.ensures (λ i lt hole.
    c.has_hole.ensures.none c.if-has_hole.false i (omega (arith, lt, c.count.ensures.value))
    (lowest_nodes disk t c.in_ok-places.places (c.in_ok-places.ensures.nodes disk shows) i lt ∙ hole))
