use Rattle.std.proofs.Common.{ap, sym, ◌∙◌}
use Rattle.served.specs.Known.{known_of, with_removed}
use Rattle.served.proofs.FilesLaws.{kept_open}
use Rattle.served.proofs.files.release_gone.Goals as goal

pub returns-then-is_held : goal.returns-then-is_held
returns-then-is_held g c =
    let a = c.args in
    let k = known_of a.memory.now in
    kept_open g.F.FileSystem a.files.now k (known_of c.change_removed.new.self) a.node a.fd a.removed.now (sym c.is_held.ensures ∙ c.if-is_held.true)
    (c.change_removed.ensures ∙ ap (λ removed. with_removed a.node removed k) c.closed_once.ensures)
