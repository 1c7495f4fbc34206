-- How the calls of a station in memory go on from what they found.
use Rattle.std.proofs.Common.{◌≡◌, ◌⊎◌, inl, inr, ℕ, suc, ◌+◌, ◌*◌, ◌<◌, ◌≤◌, Bool, true, false, List, [], ◌∷◌, ◌++◌, length, refl, sym, subst, ◌∙◌, arith, length-append}
use Rattle.std.proofs.lemmas.Bool.{cases_eq}
use Rattle.std.specs.Global.{Vec}
use Rattle.std.specs.Prelude.{if◌then◌else◌}
use Rattle.std.proofs.Math.Path.{fun_ext}
use Rattle.station.specs.Images.{Images, Sector, part_of, reaches, disk_with, Unchanged, SomeSectorsWritten, NvramPrefixWritten, Reaches, unreadable}
use Rattle.station.specs.Moments.{Went}
use Rattle.memory_station.specs.Device.{Device, reads_of, after, after_all, IsOneOf, MayBeLeft, LeftWithin, LeftAt, IsLeftOf}
use Rattle.memory_station.specs.Sim.{known}
use Rattle.memory_station.specs.declared.history.Call.{Call}
use Rattle.memory_station.specs.declared.history.Call.TheVariants.{Read, Write, NvWrite, Sync}
use Rattle.memory_station.specs.DeviceLaws.{LeftAt-at_end, SeenIsHeld}
use Rattle.memory_station.proofs.DeviceLemmas.{after_all-push, LeftAt-push_early, LeftAt-push_within, LeftAt-push_after, IsOneOf-append}
use Rattle.station.proofs.DiskLemmas.{cases_reach}

-- what a call of a device is: whatever a cut in it or after it leaves is what one might have left before, after a step
pub record IsStep (step : Images → Images → Type 0) (d : Device) (call : Call) : Type 0 where
  pub within : (c : Images) → LeftWithin d call c → (e : Images) × MayBeLeft d e × step e c
  pub now : (c : Images) → MayBeLeft (after d call) c → (e : Images) × MayBeLeft d e × step e c
  pub seen : step (reads_of d) (reads_of (after d call))

-- no call
pub goes_stays : (step : Images → Images → Type 0) (s n r w s' n' r' w' : ℕ) (first first' : Device) (calls calls' : List Call) → first' ≡ first → calls' ≡ calls → ((c : Images) → step c c) → Went step (known s n r w first calls) (known s' n' r' w' first' calls')
goes_stays step s n r w s' n' r' w' first first' calls calls' e f same = rw (e, f) record {
  honest = tt;
  later = omega arith;
  kept = λ t c le. (λ left. left, λ left. left);
  added = λ t c early late left. absurd (omega arith);
  now = λ c left. (c, left, same c);
  seen = same _;
}

-- one call
pub goes_call : (step : Images → Images → Type 0) (s n r w s' n' r' w' : ℕ) (first first' : Device) (calls calls' : List Call) (call : Call) → first' ≡ first → calls' ≡ calls ++ call ∷ [] → IsStep step (after_all first calls) call → Went step (known s n r w first calls) (known s' n' r' w' first' calls')
goes_call step s n r w s' n' r' w' first first' calls calls' call e f is = rw (e, f) record {
  honest = tt;
  later = omega (arith, length-append calls (call ∷ []));
  kept = λ t c le. LeftAt-push_early first calls call t c le;
  added = λ t c early late left. elim (cases_two (2 * length calls) t early (omega (arith, length-append calls (call ∷ [])))) [
    | inl odd ↦ before (is.within c (LeftAt-push_within first calls call c (subst (λ u. LeftAt first (calls ++ call ∷ []) u c) odd left)))
    | inr even ↦ before (is.now c (LeftAt-push_after first calls call c (subst (λ u. LeftAt first (calls ++ call ∷ []) u c) (even ∙ twice) left)))
  ];
  now = λ c left. before (is.now c (LeftAt-push_after first calls call c left));
  seen = rw (after_all-push first calls call) is.seen;
}
  where
    cases_two : (m t : ℕ) → m < t → t ≤ m + 2 → (t ≡ suc m) ⊎ (t ≡ suc (suc m))
    cases_two m t low high = elim (cases_eq t (suc m)) [ inl e ↦ inl e | inr other ↦ inr (omega arith) ]

    twice : suc (suc (2 * length calls)) ≡ 2 * length (calls ++ call ∷ [])
    twice = omega (arith, length-append calls (call ∷ []))

    before : {c : Images} → ((e : Images) × MayBeLeft (after_all first calls) e × step e c) → (e : Images) × LeftAt first calls (2 * length calls) e × step e c
    before d = (d.0, LeftAt-at_end first calls d.0 d.1, d.2)

pub is_step-read : (d : Device) → IsStep Unchanged d Read
unfolding after LeftWithin
is_step-read d = record {
  within = λ c left. (c, left, refl);
  now = λ c left. (c, left, refl);
  seen = refl;
}

-- the one value of a settled sector
pub IsOneOf-single : (x y : Sector) → IsLeftOf x (y ∷ []) → x ≡ y
IsOneOf-single x y left = elim left [
  | inl one ↦ elim one [ inl e ↦ e | inr none ↦ absurd none ]
  | inr lost ↦ absurd (omega (arith, lost.1))
]

pub is_step-sync : (d : Device) (done : Bool) → SeenIsHeld d → IsStep Unchanged d (Sync done)
unfolding after LeftWithin
is_step-sync d false held = record {
  within = λ c left. (c, left, refl);
  now = λ c left. (c, left, refl);
  seen = refl;
}
is_step-sync d true held = record {
  within = λ c left. (c, left, refl);
  now = λ c left. (c, record { disk = λ n. inl (subst (λ x. IsOneOf x (d.held n)) (sym (IsOneOf-single _ _ (left.disk n))) (held n)); nvram = left.nvram }, refl);
  seen = refl;
}

-- after a sync that succeeded only what reads give is left
pub left_after_sync : (d : Device) (c : Images) → MayBeLeft (after d (Sync true)) c → c ≡ reads_of d
unfolding after
left_after_sync d c left =
    let disk : c.disk ≡ d.seen = fun_ext (λ n. IsOneOf-single _ _ (left.disk n)) in
    λ i. record { disk = disk i; nvram = left.nvram i }

pub is_step-nv_write : (d : Device) (at : ℕ) (bytes : Vec ℕ) (kept : ℕ) → kept ≤ length bytes.items → IsStep (NvramPrefixWritten at bytes.items) d (NvWrite at bytes kept)
unfolding after LeftWithin
is_step-nv_write d at bytes kept le = record {
  within = λ c left. keeps_some c left.0 left.1 left.2;
  now = λ c left. keeps_some c kept le left;
  seen = record { kept = kept; within = le; writes = refl };
}
  where
    keeps_some : (c : Images) (k : ℕ) → k ≤ length bytes.items → MayBeLeft (after d (NvWrite at bytes k)) c → (e : Images) × MayBeLeft d e × NvramPrefixWritten at bytes.items e c
    keeps_some c k within left = (record { disk = c.disk; nvram = d.nvram }, record { disk = left.disk; nvram = refl }, record { kept = k; within = within; writes = λ i. record { disk = c.disk; nvram = left.nvram i } })

-- a sector that a write may have reached, as it was before
record Earlier (d : Device) (first : ℕ) (bytes : List ℕ) (x : Sector) (n : ℕ) : Type 0 where
  pub value : Sector
  pub held : IsLeftOf value (d.held n)
  pub is : (x ≡ value) ⊎ (Reaches first bytes n × ((x ≡ part_of first bytes n) ⊎ (x ≡ unreadable)))

earlier : (d : Device) (first : ℕ) (bytes : List ℕ) (x : Sector) (n : ℕ) → SeenIsHeld d → IsLeftOf x (if reaches first bytes n then d.held n ++ part_of first bytes n ∷ [] else d.held n) → Earlier d first bytes x n
earlier d first bytes x n held one = elim (cases_reach first bytes n) [
  | inl within ↦ elim (rw within.2 at one) [
    | inl is ↦ elim (IsOneOf-append x (d.held n) (part_of first bytes n) is) [
      | inl old ↦ record { value = x; held = inl old; is = inl refl }
      | inr new ↦ record { value = d.seen n; held = inl (held n); is = inr ((within.0, within.1), inl new) }
    ]
    | inr lost ↦ record { value = d.seen n; held = inl (held n); is = inr ((within.0, within.1), inr lost.0) }
  ]
  | inr off ↦ record { value = x; held = rw off.1 at one; is = inl refl }
]

pub is_step-write : (d : Device) (first : ℕ) (bytes : Vec ℕ) (done : Bool) → SeenIsHeld d → IsStep (SomeSectorsWritten first bytes.items) d (Write first bytes done)
unfolding after LeftWithin
is_step-write d first bytes done held = record {
  within = may_write;
  now = may_write;
  seen = record { nvram = refl; disk = λ n. seen_is done n };
}
  where
    may_write : (c : Images) → MayBeLeft (after d (Write first bytes done)) c → (e : Images) × MayBeLeft d e × SomeSectorsWritten first bytes.items e c
    may_write c left = (
      record { disk = λ n. (earlier d first bytes.items (c.disk n) n held (left.disk n)).value; nvram = c.nvram },
      record { disk = λ n. (earlier d first bytes.items (c.disk n) n held (left.disk n)).held; nvram = left.nvram },
      record { nvram = refl; disk = λ n. (earlier d first bytes.items (c.disk n) n held (left.disk n)).is },
    )

    seen_is : (did : Bool) (n : ℕ) → ((if did then disk_with first bytes.items d.seen else d.seen) n ≡ d.seen n) ⊎ (Reaches first bytes.items n × (((if did then disk_with first bytes.items d.seen else d.seen) n ≡ part_of first bytes.items n) ⊎ ((if did then disk_with first bytes.items d.seen else d.seen) n ≡ unreadable)))
    seen_is false n = inl refl
    seen_is true n = elim (cases_reach first bytes.items n) [
      | inl within ↦ inr ((within.0, within.1), inl (rw within.2 refl))
      | inr off ↦ inl (rw off.1 refl)
    ]
