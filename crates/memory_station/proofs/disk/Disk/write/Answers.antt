use Rattle.std.proofs.Common.{◌≡◌, ◌*◌, ap, ◌∙◌, arith, rules}
use Rattle.std.specs.Prelude.{filter}
use Rattle.std.proofs.lemmas.Fn.{filter_same}
use Rattle.std.proofs.lemmas.List.Kept.{IsStrictlyIncreasing-filter}
use Rattle.station.specs.Images.{nvram_with}
use Rattle.memory_station.proofs.BadLemmas.{stays, sectors_with-write, zeros-write, was_bad}
use Rattle.memory_station.proofs.disk.Disk.write.Goals as goal
use Rattle.memory_station.proofs.disk.Disk.write.Goals.{After-retain}

-- the bytes and the list after the write
put : (c : After-retain) → c.put.new.image.items ≡ nvram_with (512 * c.args.first) c.args.bytes.now c.args.self.now.bytes.items
put c = c.put.ensures.after ∙ ap (λ at. nvram_with at c.args.bytes.now c.args.self.now.bytes.items) (omega arith)

kept : (c : After-retain) → c.retain.new.self.items ≡ filter (stays c.args.first c.args.bytes.now) c.args.self.now.bad.items
kept c = filter_same _ _ _ (λ x b f' k. search rules) _ _ c.retain.ensures.filtered

pub invariant_of-self-clause-rising : goal.invariant_of-self-clause-rising
invariant_of-self-clause-rising c = rw (kept (goal.at.invariant_of-self-clause-rising c).After-retain) (IsStrictlyIncreasing-filter (stays c.args.first c.args.bytes.now) c.args.self.now.bad.items c.args.self.now.rising)

pub invariant_of-self-clause-within : goal.invariant_of-self-clause-within
invariant_of-self-clause-within c = λ n is.
    let at = (goal.at.invariant_of-self-clause-within c).After-retain in
    omega (arith, c.args.self.now.within n (was_bad _ _ _ _ _ c.args.first c.requires.place c.requires.whole (put at) (kept at) n is), c.put.ensures.length)

pub invariant_of-self-clause-zeros : goal.invariant_of-self-clause-zeros
invariant_of-self-clause-zeros c =
    let at = (goal.at.invariant_of-self-clause-zeros c).After-retain in
    zeros-write _ _ _ _ _ c.args.first c.requires.place c.requires.whole (put at) (kept at) c.args.self.now.zeros

pub returns-clause-sectors : goal.returns-clause-sectors
returns-clause-sectors c =
    let at = (goal.at.returns-clause-sectors c).After-retain in
    sectors_with-write _ _ _ _ _ c.args.first c.requires.place c.requires.whole (put at) (kept at)
