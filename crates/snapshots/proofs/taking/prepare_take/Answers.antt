use Rattle.std.proofs.Common.{◌≡◌, ap, refl, None, rules}
use Rattle.model.specs.declared.limits.Limits.{Limits}
use Rattle.snapshots.specs.Found.{named}
use Rattle.snapshots.proofs.TakeLaws.{full, good_length, has_room, may_take, no_room, not_found, passes}
use Rattle.snapshots.proofs.taking.prepare_take.Goals as goal

pub returns-in_default-clause-tests : goal.returns-in_default-clause-tests
returns-in_default-clause-tests g c disk shows v pairs holds s limits same =
    let none : named c.args.name.now pairs ≡ None = not_found disk c.args.root.now c.args.name.now pairs c.in_ok-found.found (search rules) (c.in_ok-found.ensures.finds disk shows v pairs holds) in
    full s c.args.name.now pairs (ap (λ (l : Limits). l.snapshots) limits) same (search rules) none (no_room disk c.args.root.now c.requires.root c.args.name.now v pairs holds (search rules))

pub returns-clause-tests : goal.returns-clause-tests
returns-clause-tests g c disk shows v pairs holds s limits same =
    let none : named c.args.name.now pairs ≡ None = not_found disk c.args.root.now c.args.name.now pairs c.in_ok-found.found (search rules) (c.in_ok-found.ensures.finds disk shows v pairs holds) in
    passes s c.args.name.now pairs (ap (λ (l : Limits). l.snapshots) limits) same (search rules) none (has_room disk c.args.root.now c.requires.root c.args.name.now v pairs holds c.in-Some.slot (search rules) (search rules))

pub returns-clause-may : goal.returns-clause-may
returns-clause-may g c disk shows v pairs holds =
    let none : named c.args.name.now pairs ≡ None = not_found disk c.args.root.now c.args.name.now pairs c.in_ok-found.found (search rules) (c.in_ok-found.ensures.finds disk shows v pairs holds) in
    may_take disk c.args.root.now c.requires.root c.args.name.now v pairs holds _ c.in_ok-last.last (search rules) (search rules) (search rules) (search rules) none
    (c.in_ok-last.ensures.is disk (c.find.ensures.reads.same disk shows)) refl

pub returns-clause-fits : goal.returns-clause-fits
returns-clause-fits g c = (search rules, (good_length c.args.name.now (search rules)).1)
