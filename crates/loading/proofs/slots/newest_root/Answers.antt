use Rattle.std.proofs.Common.{rules, ◌≡◌, ◌⊎◌, inl, inr, ◌<◌, ℕ, List, Result, Ok, Err, arith, subst, sym}
use Rattle.std.specs.Prelude.{MatchResult}
use Rattle.std.specs.Result.{IsErrAnd}
use Rattle.station.specs.Moments.{Meaning}
use Rattle.layout.specs.Opens.{IsNewest}
use Rattle.layout.specs.declared.root.Root.{Root}
use Rattle.loading.specs.Slots.{FitsStation}
use Rattle.loading.specs.declared.error.RootError.{RootError}
use Rattle.loading.specs.declared.error.RootError.TheVariants.{Device, NoRoot}
use Rattle.loading.specs.declared.slots.Newest.{Newest}
use Rattle.loading.proofs.slots.newest_root.Goals as goal

-- a station that has the sizes of an image has its second slot
far : (r : Root) (m : Meaning) (a b : List ℕ) → FitsStation r m → IsNewest r a b → 8 < m.sectors
far r m a b fits (inl is) = let least = is.0.root.head.sizes.least_blocks in omega (arith, fits.sectors, least)
far r m a b fits (inr is) = let least = is.0.root.head.sizes.least_blocks in omega (arith, fits.sectors, least)

-- an error that goes on
rootless_on : {e : RootError} (q : Result Newest RootError) → IsErrAnd q (λ f. f ≡ e) → (e ≡ NoRoot) ⊎ (e ≡ Device) → MatchResult q (λ _. ⊥) (λ f. (f ≡ NoRoot) ⊎ (f ≡ Device))
rootless_on (Ok n) is said = absurd is
rootless_on (Err f) is said = subst (λ k. (k ≡ NoRoot) ⊎ (k ≡ Device)) (sym is) said

device_on : {e : RootError} (r : Root) (q : Result Newest RootError) → IsErrAnd q (λ f. f ≡ e) → e ≡ Device → MatchResult q (λ n. n.root ≡ r) (λ f. f ≡ Device)
device_on r (Ok n) is said = absurd is
device_on r (Err f) is said = subst (λ k. k ≡ Device) (sym is) said

pub returns-in_err-newest-clause-no_root : goal.returns-in_err-newest-clause-no_root
returns-in_err-newest-clause-no_root g c is = c.in_err-newest.ensures.no_root (search rules)

pub returns-in_err-newest-clause-rootless : goal.returns-in_err-newest-clause-rootless
returns-in_err-newest-clause-rootless g c honest none = rootless_on c.from_residual.result c.from_residual.ensures.1 (c.in_err-newest.ensures.rootless honest none)

pub returns-in_err-newest-clause-only : goal.returns-in_err-newest-clause-only
returns-in_err-newest-clause-only g c honest r newest fits = device_on r c.from_residual.result c.from_residual.ensures.1 (c.in_err-newest.ensures.only honest (far r _ _ _ fits newest) r newest)

pub returns-then-fits_station-clause-rootless : goal.returns-then-fits_station-clause-rootless
returns-then-fits_station-clause-rootless g c honest none = c.in_ok-newest.ensures.rootless honest none

pub returns-then-fits_station-clause-only : goal.returns-then-fits_station-clause-only
returns-then-fits_station-clause-only g c honest r newest fits = c.in_ok-newest.ensures.only honest (far r _ _ _ fits newest) r newest

pub returns-else-fits_station-clause-rootless : goal.returns-else-fits_station-clause-rootless
returns-else-fits_station-clause-rootless g c honest none = absurd (c.in_ok-newest.ensures.rootless honest none)
