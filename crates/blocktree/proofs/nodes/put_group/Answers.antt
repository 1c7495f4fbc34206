use Rattle.std.proofs.Common.{◌≡◌, ℕ, ◌+◌, ◌*◌, ◌<◌, ◌≤◌, ◌∙◌, subst, arith}
use Rattle.layout.proofs.FanLaws.{up_below}
use Rattle.layout.specs.Maps.{indirect_pointer}
use Rattle.layout.specs.Trees.{fan_out}
use Rattle.layout.specs.declared.trees.Layout.{Layout}
use Rattle.layout.specs.declared.pointer.Pointer.TheVariants.{Hole}
use Rattle.blocktree.specs.PlaceMaps.{place_at}
use Rattle.blocktree.proofs.FanLemmas.{behind_group}
use Rattle.blocktree.proofs.nodes.put_group.Goals as goal

pub returns-clause-before : goal.returns-clause-before
returns-clause-before c =
    let old = c.args.places.now in
    let put = c.in_ok-put_spelled.ensures in
    subst (λ (l : Layout). (i : ℕ) → i < fan_out l * c.args.j → place_at c.put_spelled.new.self i ≡ place_at old i) c.requires.layout
    (λ i lt. put.others i (λ same. omega (arith, up_below old.layout i c.args.j lt, same)))

pub returns-clause-group : goal.returns-clause-group
returns-clause-group c =
    subst (λ (l : Layout). (r : ℕ) → r < fan_out l → place_at c.put_spelled.new.self (fan_out l * c.args.j + r) ≡ indirect_pointer c.args.bytes.now r) c.requires.layout
    c.in_ok-put_spelled.ensures.group

pub returns-clause-behind : goal.returns-clause-behind
returns-clause-behind c =
    let old = c.args.places.now in
    let put = c.in_ok-put_spelled.ensures in
    subst (λ (l : Layout). ((i : ℕ) → fan_out l * c.args.j ≤ i → place_at old i ≡ Hole) → (i : ℕ) → fan_out l * c.args.j + fan_out l ≤ i → place_at c.put_spelled.new.self i ≡ Hole) c.requires.layout
    (λ holes i le. put.others i (λ same. omega (arith, behind_group old.layout i c.args.j le, same)) ∙ holes i (omega (arith, le))) c.requires.holes
