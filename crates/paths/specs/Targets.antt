-- Where parts lead from an object that is no directory.
use Rattle.std.specs.Prelude.{ℕ, Bool, if◌then◌else◌}
use Rattle.model.specs.declared.errno.Errno.TheVariants.{ELOOP, ENOTDIR}
use Rattle.paths.specs.declared.place.Place.TheVariants.{Refusal}
use Rattle.paths.specs.declared.place.Target.{Target}
use Rattle.paths.specs.declared.place.Target.TheVariants as target

-- to itself, where no parts stand behind it and it isn't followed
abbrev pub target_alone : ℕ → Bool → Bool → Target
target_alone n none follows =
    if none then (if follows then target.Place (Refusal ELOOP) else target.Object n) else target.Place (Refusal ENOTDIR)
