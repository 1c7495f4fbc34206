use Rattle.served.proofs.MemoryLaws.{nothing-known}
use Rattle.served.proofs.memory.Memory.new.Goals as goal

pub returns : goal.returns
returns c =
    nothing-known c.args.first c.args.numbers c.in_ok-marked.marked.items c.new.result c.new-2.result c.new-3.result.items
    (c.in_ok-marked.ensures.items_if_clones_equal (λ y is. is)) c.new.ensures.empty c.new-2.ensures.empty c.new-3.ensures.items
