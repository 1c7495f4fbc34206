-- What the two halves of a table keep: what each descriptor is open by, and the files by their
-- numbers.
use Rattle.std.specs.Prelude.{ℕ, ◌≡◌, ◌≤◌, ◌<◌, Option, None}
use Rattle.std.specs.Option.{ForSome}
use Rattle.std.proofs.Props.{props}
use Rattle.model.specs.declared.limits.TheConstants.{GREATEST_OFFSET, OPEN_FILES}
use Rattle.descriptors.specs.Openings.{kept_openings, openings}
use Rattle.descriptors.specs.declared.description.OpenDescription.{OpenDescription}
use Rattle.descriptors.specs.declared.shared.SharedFile.{SharedFile}

-- descriptors are below their bound, each file is kept with the count of the descriptors that are
-- open for it, and only where there is one, and offsets and sizes keep to the bound of offsets
pub record AreConsistent (slots : ℕ → Option OpenDescription) (files : ℕ → Option SharedFile)
    : Type 0 where
  pub bounded : (fd : ℕ) → OPEN_FILES ≤ fd → slots fd ≡ None
  pub counted : (n : ℕ) → kept_openings (files n) ≡ openings slots n
  pub used : (n : ℕ) → ForSome (files n) (λ f. 0 < f.openings)
  pub sizes : (n : ℕ) → ForSome (files n) (λ f. f.size ≤ GREATEST_OFFSET)
  pub offsets : (fd : ℕ) → ForSome (slots fd) (λ d. d.offset ≤ GREATEST_OFFSET)

pub AreConsistent-prop : (slots : ℕ → Option OpenDescription) (files : ℕ → Option SharedFile)
    → IsProp (AreConsistent slots files)
AreConsistent-prop slots files = hlevel props
