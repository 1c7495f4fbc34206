use Rattle.std.proofs.Common.{List, [], ℕ, subst}
use Rattle.served.proofs.TurnLaws.{came_along}
use Rattle.served.proofs.files.read_within.Goals as goal
use Rattle.served.specs.Files.{read_in, reads}
use Rattle.served.specs.Looking.{no_memory}
use Rattle.served.specs.Turns.{Came, LeadsFrom}
use Rattle.served.specs.declared.numbers.TheConstants.{MOST_PARTS}

pub returns-in-Ok : goal.returns-in-Ok
returns-in-Ok g c =
    let a = c.args in
    let leads : LeadsFrom a.number [] c.in-Ok.path.items = record { starts = c.in-Ok.ensures.starts; goes_on = c.in-Ok.ensures.goes_on; one_name = c.in-Ok.ensures.one_name } in
    came_along g.F.FileSystem a.files.now c.read.new.files no_memory a.number [] c.in-Ok.path.items (λ (path : List ℕ). reads (read_in a.name.now path) a.offset a.count MOST_PARTS []) c.read.result leads
    (subst (λ (path : List ℕ). Came g.F.FileSystem a.files.now c.read.new.files (reads (read_in a.name.now path) a.offset a.count MOST_PARTS []) c.read.result) c.deref.ensures.value
    (subst (λ (had : List ℕ). Came g.F.FileSystem a.files.now c.read.new.files (reads (read_in a.name.now c.deref.result.now) a.offset a.count MOST_PARTS had) c.read.result) c.new.ensures.items
    c.read.ensures))
