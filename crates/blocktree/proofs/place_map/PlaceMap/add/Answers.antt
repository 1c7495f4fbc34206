use Rattle.std.proofs.Common.{◌≡◌, ℕ, ◌/◌, ◌∙◌, refl, ap, sym, subst}
use Rattle.std.specs.Prelude.{None}
use Rattle.std.specs.BTreeMap.{get}
use Rattle.std.specs.Ordering.{nat_cmp}
use Rattle.blocktree.specs.PlaceMaps.{pointer_in}
use Rattle.blocktree.proofs.PlaceMapLaws.{in_none, others_put, there_put}
use Rattle.blocktree.proofs.place_map.PlaceMap.add.Goals as goal

pub returns-in-Hole-clause-there : goal.returns-in-Hole-clause-there
returns-in-Hole-clause-there c = in_none c.args.self.now c.args.i _ c.requires refl ∙ sym c.in-Hole.is

pub returns-in_ok-put-in-Block-clause-there : goal.returns-in_ok-put-in-Block-clause-there
returns-in_ok-put-in-Block-clause-there c =
    there_put c.args.self.now c.put.new.self c.fan_out-fan.result c.args.i c.in_ok-group-in-Block.group c.args.pointer c.fan_out-fan.ensures.value c.in_ok-put-in-Block.ensures.layout c.in_ok-put-in-Block.ensures.updates
    (c.in_ok-group-in-Block.ensures.there ∙ sym c.in-Block.is)

pub returns-in_ok-put-in-Block-clause-others : goal.returns-in_ok-put-in-Block-clause-others
returns-in_ok-put-in-Block-clause-others c =
    let none : get nat_cmp c.args.self.now.groups (c.args.i / c.fan_out-fan.result) ≡ None
    = subst (λ (f : ℕ). get nat_cmp c.args.self.now.groups (c.args.i / f) ≡ None) (sym c.fan_out-fan.ensures.value) c.requires in
    others_put c.args.self.now c.put.new.self c.fan_out-fan.result c.args.i c.in_ok-group-in-Block.group c.fan_out-fan.ensures.value c.in_ok-put-in-Block.ensures.layout c.in_ok-put-in-Block.ensures.updates
    (λ k other. c.in_ok-group-in-Block.ensures.others k other ∙ sym (ap (λ o. pointer_in o k) none))
