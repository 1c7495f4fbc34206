-- A new root beside the old one, and the log over it.
use Rattle.std.proofs.Common.{◌≡◌, inl, inr, ℕ, ◌+◌, ◌%◌, ◌<◌, ◌^◌, List, [], ◌∷◌, ◌++◌, drop, refl, ap, sym, subst, ◌∙◌, arith}
use Rattle.std.proofs.lemmas.List.{append-nil}
use Rattle.layout.specs.Bytes.{little, number}
use Rattle.layout.specs.Log.{half_at, half_of, opened, IsOpenFor, IsUnopened, EpochHolds, LogHolds}
use Rattle.layout.specs.Opens.{HoldsRoot, HoldsOlder, IsNewest}
use Rattle.layout.specs.Root.{IsRoot, root_bytes}
use Rattle.layout.specs.declared.root.Root.{Root}
use Rattle.layout.proofs.NumberLaws.{number-little}
use Rattle.layout.proofs.OpenLaws.{root_once}

-- ---- roots

older : (r new : Root) (a : List ℕ) → HoldsRoot a r → r.generation < new.generation → new.geometry ≡ r.geometry → HoldsOlder a new
older r new a holds later geometry other other_holds =
    let same : other ≡ r = root_once a other r other_holds holds in
    (subst (λ (q : Root). q.generation < new.generation) (sym same) later, ap (λ (q : Root). q.geometry) same ∙ sym geometry)

pub newest_second : (r new : Root) (a : List ℕ) → HoldsRoot a r → IsRoot new → r.generation < new.generation → new.geometry ≡ r.geometry → IsNewest new a (root_bytes new)
newest_second r new a holds is later geometry = inr (record { root = is; spelled = refl }, older r new a holds later geometry)

pub newest_first : (r new : Root) (b : List ℕ) → HoldsRoot b r → IsRoot new → r.generation < new.generation → new.geometry ≡ r.geometry → IsNewest new (root_bytes new) b
newest_first r new b holds is later geometry = inl (record { root = is; spelled = refl }, older r new b holds later geometry)

-- ---- epochs

opened_once : (a b : ℕ) (r t : List ℕ) → a < 2 ^ 64 → b < 2 ^ 64 → opened a ++ r ≡ opened b ++ t → a ≡ b
unfolding little
opened_once a b r t small small_too e =
    sym (number-little 8 a r small) ∙ ap (λ l. number 8 (drop 1 l)) e ∙ number-little 8 b t small_too

closed_is_not : (rest t : List ℕ) (epoch : ℕ) (bytes : List ℕ) → bytes ≡ 0 ∷ rest → bytes ≡ opened epoch ++ t → ⊥
closed_is_not rest t epoch bytes closed is = absurd (let e = sym closed ∙ is in cc)

open_earlier : (e later : ℕ) (bytes rest : List ℕ) → e < later → later < 2 ^ 64 → e % 2 ≡ later % 2 → IsOpenFor e bytes rest → IsUnopened later bytes
open_earlier e later bytes rest lt small parity is = record {
  earlier = inr (e, lt, parity, rest, is);
  not_open = λ t other. absurd (omega (arith, opened_once e later rest t (omega arith) small (sym is ∙ other)));
}

-- a half of an epoch isn't open for a later one
unopened_later : (epoch later : ℕ) (bytes : List ℕ) (bodies : List (List ℕ)) → epoch < later → later < 2 ^ 64 → epoch % 2 ≡ later % 2 → EpochHolds epoch bytes bodies → IsUnopened later bytes
unopened_later epoch later bytes bodies lt small parity (inl is) = open_earlier epoch later bytes is.0 lt small parity is.1
unopened_later epoch later bytes bodies lt small parity (inr none) = elim none.0.earlier [
  | inl closed ↦ record { earlier = inl closed; not_open = λ t other. closed_is_not closed.0 t later bytes closed.1 other }
  | inr before ↦ open_earlier before.0 later bytes before.3 (omega (arith, before.1)) small (before.2 ∙ parity) before.4
]

-- the half of one epoch is that of the next but one
same_half : (half e f : ℕ) (nvram : List ℕ) → e % 2 ≡ f % 2 → half_of half e nvram ≡ half_of half f nvram
same_half half e f nvram parity = ap (λ r. half_at half r nvram) parity

none_later : (half e f : ℕ) (nvram : List ℕ) (bodies : List (List ℕ)) → e < f → f < 2 ^ 64 → e % 2 ≡ f % 2 → EpochHolds e (half_of half e nvram) bodies → EpochHolds f (half_of half f nvram) []
none_later half e f nvram bodies lt small parity holds =
    inr (subst (IsUnopened f) (same_half half e f nvram parity) (unopened_later e f (half_of half e nvram) bodies lt small parity holds), refl)

pub covers_one : (half g : ℕ) (nvram : List ℕ) (bodies : List (List ℕ)) → g + 3 < 2 ^ 64 → (log : LogHolds half g nvram bodies) → LogHolds half (g + 1) nvram log.second
covers_one half g nvram bodies small log = record {
  size = log.size;
  first = log.second;
  second = [];
  in_order = sym (append-nil log.second);
  first_held = subst (λ e. EpochHolds e (half_of half e nvram) log.second) (omega arith) log.second_held;
  second_held = none_later half (g + 1) (g + 1 + 2) nvram log.first (omega arith) (omega arith) (omega arith) log.first_held;
}

pub covers_both : (half g : ℕ) (nvram : List ℕ) (bodies : List (List ℕ)) → g + 4 < 2 ^ 64 → LogHolds half g nvram bodies → LogHolds half (g + 2) nvram []
covers_both half g nvram bodies small log = record {
  size = log.size;
  first = [];
  second = [];
  in_order = refl;
  first_held = none_later half (g + 1) (g + 2 + 1) nvram log.first (omega arith) (omega arith) (omega arith) log.first_held;
  second_held = none_later half (g + 2) (g + 2 + 2) nvram log.second (omega arith) (omega arith) (omega arith) log.second_held;
}
