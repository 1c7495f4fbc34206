use Rattle.std.proofs.Common.{◌≡◌, length, arith}
use Rattle.handles.proofs.numbered.Numbered.new.Goals as goal

pub returns-in-Ok-clause-names : goal.returns-in-Ok-clause-names
returns-in-Ok-clause-names g c = λ s kept shows.
    let told : c.count_inodes.result ≡ s.limits.inodes = c.count_inodes.ensures s kept shows in
    let numbers : length c.in-Ok.generations.given.items ≡ c.count_inodes.result = c.in-Ok.ensures.numbers in
    record { kept = kept; shows = shows; wide = omega (arith, told, numbers) }
