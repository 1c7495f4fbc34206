use Rattle.std.proofs.Common.{ap, ◌∙◌, arith}
use Rattle.std.specs.Prelude.{replicate}
use Rattle.station.specs.Images.{nvram_with}
use Rattle.memory_station.proofs.BadLemmas.{sectors_with-lose, zeros-lose, within-lose}
use Rattle.memory_station.proofs.disk.Disk.lose.Goals as goal

pub invariant_of-self-clause-within : goal.invariant_of-self-clause-within
invariant_of-self-clause-within c = λ m is. omega (arith, within-lose c.args.self.now.bytes.items c.args.self.now.bad.items c.list.new.bad.items c.args.n c.requires.place c.list.ensures.has c.args.self.now.within m is, c.put.ensures.length)

pub invariant_of-self-clause-zeros : goal.invariant_of-self-clause-zeros
invariant_of-self-clause-zeros c = zeros-lose c.args.self.now.bytes.items c.args.self.now.bad.items c.list.new.bad.items c.args.n c.requires.place c.list.ensures.has _
    (c.put.ensures.after ∙ ap (λ at. nvram_with at (replicate 512 0) c.args.self.now.bytes.items) (omega arith)) c.args.self.now.zeros

pub returns-clause-sectors : goal.returns-clause-sectors
returns-clause-sectors c = sectors_with-lose c.args.self.now.bytes.items c.args.self.now.bad.items c.list.new.bad.items c.args.n c.requires.place c.list.ensures.has _
    (c.put.ensures.after ∙ ap (λ at. nvram_with at (replicate 512 0) c.args.self.now.bytes.items) (omega arith))
