-- What the calls of a device leave, and what a power cut may leave at a moment of them.
use Rattle.std.proofs.Common.{◌≡◌, ◌⊎◌, inl, inr, ℕ, zero, suc, ◌*◌, ◌≤◌, ◌↔◌, List, [], ◌∷◌, ◌++◌, length, subst, arith}
use Rattle.std.proofs.lemmas.List.Sums.{fold-append}
use Rattle.station.specs.Images.{Images, Sector}
use Rattle.memory_station.specs.Device.{Device, after, after_all, IsOneOf, MayBeLeft, LeftWithin, LeftAt}
use Rattle.memory_station.specs.DeviceLaws.{LeftAt-end}
use Rattle.memory_station.specs.declared.history.Call.{Call}

-- one call more
pub after_all-push : (d : Device) (calls : List Call) (call : Call) → after_all d (calls ++ call ∷ []) ≡ after (after_all d calls) call
unfolding after_all
after_all-push d calls call = fold-append after d calls (call ∷ [])

-- a call more changes no earlier moment
pub LeftAt-push_early : (d : Device) (calls : List Call) (call : Call) (t : ℕ) (c : Images) → t ≤ 2 * length calls → LeftAt d (calls ++ call ∷ []) t c ↔ LeftAt d calls t c
unfolding LeftAt
LeftAt-push_early d [] call zero c le = (λ left. left, λ left. left)
LeftAt-push_early d [] call (suc t) c le = absurd (omega arith)
LeftAt-push_early d (x ∷ calls) call zero c le = (λ left. left, λ left. left)
LeftAt-push_early d (x ∷ calls) call (suc zero) c le = (λ left. left, λ left. left)
LeftAt-push_early d (x ∷ calls) call (suc (suc t)) c le = LeftAt-push_early (after d x) calls call t c (omega arith)

-- within the last call
pub LeftAt-push_within : (d : Device) (calls : List Call) (call : Call) (c : Images) → LeftAt d (calls ++ call ∷ []) (suc (2 * length calls)) c → LeftWithin (after_all d calls) call c
unfolding LeftAt after_all
LeftAt-push_within d [] call c left = left
LeftAt-push_within d (x ∷ calls) call c left = LeftAt-push_within (after d x) calls call c (subst (λ t. LeftAt d (x ∷ calls ++ call ∷ []) t c) (twice-suc (length calls)) left)
  where
    twice-suc : (n : ℕ) → suc (2 * suc n) ≡ suc (suc (suc (2 * n)))
    twice-suc n = omega arith

-- after the last call
pub LeftAt-push_after : (d : Device) (calls : List Call) (call : Call) (c : Images) → LeftAt d (calls ++ call ∷ []) (2 * length (calls ++ call ∷ [])) c → MayBeLeft (after (after_all d calls) call) c
LeftAt-push_after d calls call c left = subst (λ e. MayBeLeft e c) (after_all-push d calls call) (LeftAt-end d (calls ++ call ∷ []) c left)

pub IsOneOf-append : (x : Sector) (xs : List Sector) (y : Sector) → IsOneOf x (xs ++ y ∷ []) → IsOneOf x xs ⊎ (x ≡ y)
IsOneOf-append x [] y one = elim one [ inl e ↦ inr e | inr none ↦ absurd none ]
IsOneOf-append x (z ∷ xs) y one = elim one [
  | inl e ↦ inl (inl e)
  | inr later ↦ elim (IsOneOf-append x xs y later) [ inl old ↦ inl (inr old) | inr e ↦ inr e ]
]
