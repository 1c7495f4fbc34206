-- What taking a name away comes to, of anything but a directory.
use Rattle.std.specs.Prelude.{ℕ, ◌≡◌, ◌≢◌, ◌⊎◌, Option, Result, Err}
use Rattle.model.specs.declared.limits.Limits.{Limits}
use Rattle.model.specs.Paths.{Name}
use Rattle.model.specs.Records.{remove_name, stamped}
use Rattle.model.specs.Volumes.{Volume}
use Rattle.model.specs.declared.errno.Errno.{Errno}
use Rattle.model.specs.declared.errno.Errno.TheVariants.{EPERM}
use Rattle.model.specs.declared.time.Time.{Time}
use Rattle.paths.specs.Steps.{found_in}
use Rattle.paths.specs.declared.lookup.Found.TheVariants as found
use Rattle.calls.specs.Changing.{Decides}
use Rattle.calls.specs.declared.changed.Changing.{Changing}

-- this number is a directory's; or it isn't, and the record decides
abbrev pub UnlinksEntry : Limits → Option Time → Volume → ℕ → Name → ℕ → Result Changing Errno → Type 0
UnlinksEntry limits now v parent name number r =
    ((found_in (v number) ≡ found.Directory) × (r ≡ Err EPERM)) ⊎ ((found_in (v number) ≢ found.Directory) × Decides limits v (stamped now (remove_name parent name)) r)
