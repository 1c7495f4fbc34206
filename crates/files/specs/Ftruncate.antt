-- What changing the size of a descriptor's file comes to.
use Rattle.std.specs.Prelude.{ℤ, not, ◌∷◌}
use Rattle.model.specs.declared.limits.Limits.{Limits}
use Rattle.model.specs.Changing.{size_tests}
use Rattle.model.specs.Paths.{Tests}
use Rattle.model.specs.Trees.{Description}
use Rattle.model.specs.declared.errno.Errno.TheVariants.{EINVAL}

-- the tests of a new size
abbrev pub truncate_tests : Limits → ℤ → Description → Tests
truncate_tests limits size f = (not f.writes, EINVAL) ∷ size_tests limits size
