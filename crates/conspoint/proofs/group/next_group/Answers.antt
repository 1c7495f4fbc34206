use Rattle.std.proofs.Common.{◌≡◌, ℕ, ◌+◌, ◌*◌, ◌/◌, ◌<◌, ◌≤◌, ap, subst, sym, ◌∙◌}
use Rattle.layout.specs.Trees.{fan_out}
use Rattle.conspoint.proofs.FanLemmas.{group_of, node_before, node_below, node_from}
use Rattle.conspoint.proofs.GroupLemmas.{group_hole}
use Rattle.conspoint.proofs.group.next_group.Goals as goal

pub returns-in-Some-clause-found : goal.returns-in-Some-clause-found
returns-in-Some-clause-found c =
    let l = c.args.layout in
    let fan : c.fan_out-fan_out.result ≡ fan_out l = c.fan_out-fan_out.ensures.value in
    let found = c.in-Some.ensures.found in
    group_of l c.fan_out-fan_out.result c.args.from c.args.to c.in-Some.node.index fan found.0 found.1

pub returns-in-Some-clause-before : goal.returns-in-Some-clause-before
returns-in-Some-clause-before c = λ k i le lt small.
    let nodes = c.args.nodes.now in
    let l = nodes.layout in
    let fan : c.fan_out-fan_out.result ≡ fan_out l = c.fan_out-fan_out.ensures.value ∙ ap fan_out (sym c.requires.layout) in
    let below : k < c.in-Some.node.index / fan_out l = subst (λ (f : ℕ). k < c.in-Some.node.index / f) fan lt in
    group_hole nodes k i (λ low.
    c.in-Some.ensures.before (fan_out l * k + i) (subst (λ (f : ℕ). f * c.args.from ≤ fan_out l * k + i) (sym fan) (node_from l c.args.from k i le)) (node_below l k i c.in-Some.node.index below low))

pub returns-in-None-clause-none : goal.returns-in-None-clause-none
returns-in-None-clause-none c = λ k i le lt small.
    let nodes = c.args.nodes.now in
    let l = nodes.layout in
    let fan : c.fan_out-fan_out.result ≡ fan_out l = c.fan_out-fan_out.ensures.value ∙ ap fan_out (sym c.requires.layout) in
    group_hole nodes k i (λ low.
    c.in-None.ensures.none (fan_out l * k + i) (subst (λ (f : ℕ). f * c.args.from ≤ fan_out l * k + i) (sym fan) (node_from l c.args.from k i le))
    (subst (λ (f : ℕ). fan_out l * k + i < f * c.args.to) (sym fan) (node_before l k i c.args.to lt low)))
