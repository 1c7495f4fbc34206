-- Calls to a station, one after the other, and what a cut leaves of them.
use Rattle.std.proofs.Common.{◌≡◌, ◌⊎◌, inl, inr, ℕ, ◌≤◌, Bool, true, false, sym, subst, arith}
use Rattle.station.specs.Images.{Images}
use Rattle.station.specs.Moments.{Meaning, EachCut, IsSameStation, LeftOnly, MayGrow}
use Rattle.station.proofs.Moments.{same_moment}
use Rattle.model.specs.States.{State, going}
use Rattle.system.specs.Images.{OpensTo}
use Rattle.images.specs.States.{Opens}
use Rattle.mount.specs.Applying.{TimeGoesOn, LeftOnTheWay, LeftNow, TellsOfFault}
use Rattle.mount.specs.Systems.{OpensToSome}
use Rattle.mount.proofs.SpanLemmas.{leaves_going}

pub on_none : (m : Meaning) → TimeGoesOn m m
on_none m = record { later = omega arith; kept = λ t c le. (λ left. left, λ left. left) }

pub on_twice : (old mid new : Meaning) → TimeGoesOn old mid → TimeGoesOn mid new → TimeGoesOn old new
on_twice old mid new first second = record {
  later = omega (arith, first.later, second.later);
  kept = λ t c le.
      let again = second.kept t c (omega (arith, first.later, le)) in
      (λ left. (first.kept t c le).0 (again.0 left), λ left. again.1 ((first.kept t c le).1 left));
}

-- a flag tells of a count that may have grown
pub told : (old new : ℕ) → MayGrow old new → (flag : Bool) × TellsOfFault flag old new
told old new (inl same) = (false, same)
told old new (inr grown) = (true, grown)

-- the same images on the same station
pub moved : (m new : Meaning) (u : State) (c : Images) → new.sectors ≡ m.sectors → OpensTo m u c → OpensTo new u c
moved m new u c sectors opens =
    record { opens = subst (λ (n : ℕ). Opens n c.disk c.nvram u) (sym sectors) opens.opens }

pub moved_some : (m new : Meaning) (P : State → Type 0) (c : Images) → new.sectors ≡ m.sectors → OpensToSome m P c → OpensToSome new P c
moved_some m new P c sectors opens = (opens.0, moved m new opens.0 c sectors opens.1, opens.2)

pub left_within : (old new : Meaning) (s : State) (P : State → Type 0) → s.mark ≡ going → new.sectors ≡ old.sectors → LeftOnly old new (OpensToSome old P) → LeftOnTheWay old new s P
left_within old new s P is sectors leaves =
    (leaves_going new.left_at (λ c t. OpensTo new t c) s old.moment new.moment P is).1
    (λ t c from to left. moved_some old new P c sectors (leaves.each c (t, from, to, left)))

pub left_now : (m : Meaning) (s : State) (P : State → Type 0) → s.mark ≡ going → m.is_honest → EachCut m (OpensToSome m P) → LeftNow m s P
left_now m s P is honest here =
    (leaves_going m.left_at (λ c t. OpensTo m t c) s m.moment m.moment P is).1 (λ t c from to left. here honest c (same_moment m t c from to left))

pub time_on : (old new : Meaning) (P : Images → Type 0) → LeftOnly old new P → TimeGoesOn old new
time_on old new P leaves = record { later = leaves.later; kept = leaves.kept }

-- what is left at every moment is left now
pub at_last : (old new : Meaning) (P : State → Type 0) → IsSameStation old new → LeftOnly old new (OpensToSome old P) → EachCut new (OpensToSome new P)
at_last old new P same leaves honest c left = moved_some old new P c same.sectors (leaves.each c (new.moment, leaves.later, omega arith, left))

-- calls behind which a cut left only this state, and then a command
pub left_after : (old mid new : Meaning) (s : State) (P : State → Type 0) → s.mark ≡ going → IsSameStation old mid → IsSameStation mid new
    → LeftOnly old mid (OpensToSome old P) → TimeGoesOn mid new → LeftOnTheWay mid new s P → LeftOnTheWay old new s P
left_after old mid new s P is first_same second_same first time second =
    (leaves_going new.left_at (λ c t. OpensTo new t c) s old.moment new.moment P is).1
    (λ t c from to left. elim (order t mid.moment) [
      | inl early ↦
          moved_some mid new P c second_same.sectors (moved_some old mid P c first_same.sectors (first.each c (t, from, early, (time.kept t c early).0 left)))
      | inr late ↦ (leaves_going new.left_at (λ d u. OpensTo new u d) s mid.moment new.moment P is).0 second t c late to left
    ])
  where
    order : (a b : ℕ) → (a ≤ b) ⊎ (b ≤ a)
    order a b = grind arith
