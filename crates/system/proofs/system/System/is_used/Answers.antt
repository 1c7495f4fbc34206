use Rattle.std.proofs.Common.{◌≡◌, ◌≤◌, ◌∙◌, ◌↔◌, ℕ, Option, ap, arith}
use Rattle.station.specs.Moments.{Meaning}
use Rattle.layout.specs.Limits.{Sizes}
use Rattle.layout.specs.Maps.{IsTaken}
use Rattle.model.specs.Laws.{VolumesTellUsed}
use Rattle.model.specs.States.{State}
use Rattle.model.specs.Trees.{Description, IsUsed}
use Rattle.model.specs.declared.limits.TheConstants.{FIRST_NUMBER}
use Rattle.system.specs.Systems.{IsServing, Parts}
use Rattle.system.proofs.UsageLaws.{none_past, taken_used, used_taken}
use Rattle.system.proofs.system.System.is_used.Goals as goal

-- what the map says is what the tree has
used_by : {m : Meaning} {k : Parts} {table : ℕ → Option Description} {s : State} {X : Type 0} (serves : IsServing m k table s) → k.inodes.geometry ≡ k.root.geometry → VolumesTellUsed
    → (n : ℕ) → FIRST_NUMBER ≤ n → X ↔ IsTaken k.inodes.numbers.bytes.items n → X ↔ IsUsed s.tree n
used_by serves same law n low told = (λ is. taken_used serves same law n low (told.0 is), λ used. told.1 (used_taken serves same law n used))

pub returns-clause-served : goal.returns-clause-served
returns-clause-served g c = λ table s serves.
    used_by serves c.args.self.now.sizes c.volumes_tell_used_numbers.ensures c.args.number c.requires c.is_taken.ensures.taken

pub returns-clause-ahead : goal.returns-clause-ahead
returns-clause-ahead g c = λ waits table s kept ahead.
    used_by ahead.shown c.args.self.now.sizes c.volumes_tell_used_numbers.ensures c.args.number c.requires c.is_taken.ensures.taken

-- from the number of inodes on there is none
pub returns-then-inodes-number-clause-served : goal.returns-then-inodes-number-clause-served
returns-then-inodes-number-clause-served g c = λ table s serves.
    let f = c.args.self.now in
    let past : f.inodes.geometry.inodes ≤ c.args.number = omega (arith, c.inodes.ensures.value ∙ ap (λ (sizes : Sizes). sizes.inodes) c.geometry.ensures) in
    (λ is. absurd (cc), λ used. absurd (none_past serves f.sizes c.volumes_tell_used_numbers.ensures c.args.number c.requires past used))

pub returns-then-inodes-number-clause-ahead : goal.returns-then-inodes-number-clause-ahead
returns-then-inodes-number-clause-ahead g c = λ waits table s kept ahead.
    let f = c.args.self.now in
    let past : f.inodes.geometry.inodes ≤ c.args.number = omega (arith, c.inodes.ensures.value ∙ ap (λ (sizes : Sizes). sizes.inodes) c.geometry.ensures) in
    (λ is. absurd (cc), λ used. absurd (none_past ahead.shown f.sizes c.volumes_tell_used_numbers.ensures c.args.number c.requires past used))
