use Rattle.std.proofs.Common.{◌+◌, ◌-◌, ◌*◌, sym, ◌∙◌, arith}
use Rattle.memory_station.proofs.BadLemmas.{read-whole}
use Rattle.memory_station.proofs.disk.Disk.read.Goals as goal

pub returns : goal.returns
returns c =
    let from = c.args.n * 512 in
    read-whole _ _ _ c.args.self.now.bytes.items c.args.self.now.bad.items c.args.n from (from + 512 - from)
    c.copy_from_slice.ensures.after c.deref-2.ensures.value c.deref.ensures.value (omega arith) (omega arith) (sym c.contains.ensures.value ∙ c.if-contains.false)
