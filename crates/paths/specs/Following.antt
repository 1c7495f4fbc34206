-- Links that a walk may still follow.
use Rattle.std.specs.Prelude.{ℕ, zero, suc, Bool, List}
use Rattle.model.specs.declared.errno.Errno.TheVariants.{ELOOP}
use Rattle.model.specs.Finding.{Place, at_refusal, find_within}
use Rattle.model.specs.Paths.{Name}
use Rattle.model.specs.Volumes.{Volume}

-- where names lead from the end of a trail, with so many walks left
abbrev pub find_left : ℕ → Volume → Bool → List ℕ → List Name → Place
find_left zero v follow trail names = at_refusal ELOOP
find_left (suc links) v follow trail names = find_within links v follow trail names
