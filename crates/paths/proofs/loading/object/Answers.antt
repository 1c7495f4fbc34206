use Rattle.std.proofs.Common.{◌≡◌, ℕ, None, subst}
use Rattle.std.specs.Prelude.{IfNone, IfSome}
use Rattle.inofile.specs.Objects.{IsObjectIn}
use Rattle.paths.proofs.loading.object.Goals as goal

pub returns-clause-stands : goal.returns-clause-stands
returns-clause-stands c = λ detail count disk settled v volume.
    subst (λ (k : ℕ). IfSome c.get-2.result (λ o. IsObjectIn detail disk c.args.inodes.now.geometry.inodes (settled k) o.now (v k))) c.get.ensures (c.get-2.ensures.stands detail count disk settled v volume)

pub returns-clause-stands_for_none : goal.returns-clause-stands_for_none
returns-clause-stands_for_none c = λ detail count disk settled v volume.
    subst (λ (k : ℕ). IfNone c.get-2.result (v k ≡ None)) c.get.ensures (c.get-2.ensures.stands_for_none detail count disk settled v volume)
