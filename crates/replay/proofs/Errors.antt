-- Errors other than `Damaged`.
use Rattle.std.proofs.Common.{◌≡◌, ◌⊎◌, inl, inr, refl}
use Rattle.std.specs.Prelude.{Result, Ok, Err, IsErr, IsErrOf, MatchResult}
use Rattle.std.proofs.lemmas.Bool.{false≢true}
use Rattle.buffers.specs.declared.error.BlockError.{BlockError}
use Rattle.buffers.specs.declared.error.BlockError.TheVariants.{NoMemory, Device, Damaged}

pub undamaged : {T : Type 0} (P : T → Type 0) (r : Result T BlockError) → IsErr r → (IsErrOf r Damaged → ⊥) → MatchResult r P (λ e. (e ≡ NoMemory) ⊎ (e ≡ Device))
undamaged P (Ok x) is none = absurd (false≢true is)
undamaged P (Err NoMemory) is none = inl refl
undamaged P (Err Device) is none = inr refl
undamaged P (Err Damaged) is none = absurd (none refl)

-- passed on
pub passed : {T : Type 0} (P : T → Type 0) (r : Result T BlockError) (e : BlockError) → r ≡ Err e → (e ≡ NoMemory) ⊎ (e ≡ Device) → MatchResult r P (λ e. (e ≡ NoMemory) ⊎ (e ≡ Device))
passed P (Ok x) e is why = cc
passed P (Err x) e is (inl none) = inl cc
passed P (Err x) e is (inr device) = inr cc
