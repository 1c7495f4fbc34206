-- What taking the name of a directory away comes to.
use Rattle.std.specs.Prelude.{ℕ, ◌≡◌, ◌≢◌, ◌⊎◌, Option, Result, Err}
use Rattle.model.specs.declared.limits.Limits.{Limits}
use Rattle.model.specs.Paths.{Name}
use Rattle.model.specs.Records.{remove_name, stamped}
use Rattle.model.specs.Volumes.{Volume}
use Rattle.model.specs.declared.errno.Errno.{Errno}
use Rattle.model.specs.declared.errno.Errno.TheVariants.{ENOTDIR}
use Rattle.model.specs.declared.time.Time.{Time}
use Rattle.paths.specs.Steps.{found_in}
use Rattle.paths.specs.declared.lookup.Found.TheVariants as found
use Rattle.calls.specs.Changing.{Decides}
use Rattle.calls.specs.declared.changed.Changing.{Changing}

-- this number isn't a directory's; or it is, and the record decides
abbrev pub RemovesDirectory : Limits → Option Time → Volume → ℕ → Name → ℕ → Result Changing Errno → Type 0
RemovesDirectory limits now v parent name number r =
    ((found_in (v number) ≢ found.Directory) × (r ≡ Err ENOTDIR)) ⊎ ((found_in (v number) ≡ found.Directory) × Decides limits v (stamped now (remove_name parent name)) r)
