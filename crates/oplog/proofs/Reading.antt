-- What the bytes that were read tell of the log.
use Rattle.std.proofs.Common.{◌≡◌, inl, inr, ℕ, ◌+◌, ◌-◌, ◌*◌, ◌%◌, ◌≤◌, Bool, true, false, List, [], ◌∷◌, ◌++◌, length, take, drop, None, refl, sym, ap, ◌∙◌, subst, arith, length-append}
use Rattle.std.proofs.lemmas.List.{take_at, drop_at, drop-take, drop-drop, take-take, append-nil}
use Rattle.byteorder.specs.Endian.{little_bytes}
use Rattle.layout.specs.Gates.{HeaderIs}
use Rattle.layout.specs.Log.{half_of, opened, record_of, IsOpenFor, HoldsBodies, EpochHolds, LogHolds}
use Rattle.oplog.specs.LogEnd.{EndsBehind}
use Rattle.oplog.specs.SavedLog.{HoldsLeaving, StandsBehind, TellsLog, end_of}
use Rattle.oplog.specs.Internal.{TellsHalf, TellsEpoch}
use Rattle.oplog.specs.declared.log.End.TheVariants.{Unopened, At}
use Rattle.oplog.proofs.Halves.{length-half_at}
use Rattle.oplog.proofs.Records.{length-opened}
use Rattle.oplog.proofs.Writes.{stands_by}

-- THE BYTES OF A HALF

-- its header
pub header_at : (half start epoch : ℕ) (nvram : List ℕ) → 9 ≤ half → start ≡ half * (epoch % 2) → take 9 (drop start nvram) ≡ take 9 (half_of half epoch nvram)
header_at half start epoch nvram room is =
    ap (λ (n : ℕ). take 9 (drop n nvram)) is ∙ sym (take-take 9 half (drop (half * (epoch % 2)) nvram) room)

-- and what is behind it
pub behind_header : (epoch : ℕ) (bytes rest : List ℕ) → IsOpenFor epoch bytes rest → drop 9 bytes ≡ rest
behind_header epoch bytes rest is = ap (λ (l : List ℕ). drop 9 l) is ∙ drop_at (opened epoch) rest 9 (length-opened epoch)

records_at : (half start epoch : ℕ) (nvram : List ℕ) → 9 ≤ half → start ≡ half * (epoch % 2) → take (half - 9) (drop (start + 9) nvram) ≡ drop 9 (half_of half epoch nvram)
records_at half start epoch nvram room is =
    let whole : 9 + (half - 9) ≡ half = omega arith in
    ap (λ (n : ℕ). take (half - 9) (drop (n + 9) nvram)) is
    ∙ ap (λ (l : List ℕ). take (half - 9) l) (sym (drop-drop 9 (half * (epoch % 2)) nvram))
    ∙ sym (drop-take 9 (half - 9) (drop (half * (epoch % 2)) nvram))
    ∙ ap (λ (n : ℕ). drop 9 (take n (drop (half * (epoch % 2)) nvram))) whole

-- a half whose header has no gate holds no epoch
pub no_header : (epoch : ℕ) (bytes : List ℕ) (bodies : List (List ℕ)) → HeaderIs (take 9 bytes) None → EpochHolds epoch bytes bodies → ⊥
no_header epoch bytes bodies none (inl is) = (none 1 (take 8 (little_bytes 8 epoch ++ is.0)) (ap (λ (l : List ℕ). take 9 l) is.1)).1 refl
no_header epoch bytes bodies none (inr is) = elim is.0.earlier [
  | inl shut ↦ (none 0 (take 8 shut.0) (ap (λ (l : List ℕ). take 9 l) shut.1)).0 refl
  | inr open_for ↦ (none 1 (take 8 (little_bytes 8 open_for.0 ++ open_for.3)) (ap (λ (l : List ℕ). take 9 l) open_for.4)).1 refl
]

-- a Vec of them all, filled by a read of an NVRAM that is still the same
pub filled : (half epoch start asked kept : ℕ) (seen nvram out items : List ℕ) → 9 ≤ half → start ≡ half * (epoch % 2) → asked ≡ half - 9 → kept ≡ half - 9 → length out ≡ half - 9 → seen ≡ nvram
    → out ≡ take asked (drop (start + 9) seen) → take kept (out ++ drop (length out) items) ≡ drop 9 (half_of half epoch nvram)
filled half epoch start asked kept seen nvram out items room at all all_too long same is =
    take_at out (drop (length out) items) kept (omega (arith, long, all_too))
    ∙ is
    ∙ (λ i. take (all i) (drop (start + 9) (same i)))
    ∙ records_at half start epoch nvram room at

pub tells_open : (epoch : ℕ) (bytes records : List ℕ) (is_open : Bool) → TellsHalf epoch bytes is_open → is_open ≡ true → records ≡ drop 9 bytes → TellsEpoch epoch bytes true records
tells_open epoch bytes records is_open tells true_now is =
    let there = tells.present true_now in
    record { present = λ _. subst (IsOpenFor epoch bytes) (sym (is ∙ behind_header epoch bytes there.0 there.1)) there.1; absent = λ e. absurd (cc) }

pub tells_none : (epoch : ℕ) (bytes records : List ℕ) (is_open : Bool) → TellsHalf epoch bytes is_open → is_open ≡ false → records ≡ 0 ∷ [] → TellsEpoch epoch bytes false records
tells_none epoch bytes records is_open tells false_now is = record { present = λ e. absurd (cc); absent = λ _. (tells.absent false_now, is) }

-- BOTH HALVES

none_held : (bodies : List (List ℕ)) → HoldsBodies (0 ∷ []) bodies → bodies ≡ []
none_held [] holds = refl
none_held (body ∷ bodies) holds = let e : 0 ∷ [] ≡ record_of body ++ holds.0 = holds.2 in absurd (cc)

module _ (epoch : ℕ) (bytes records : List ℕ) (bodies : List (List ℕ)) where
  -- where a half isn't open, it holds no bodies
  no_bodies : TellsEpoch epoch bytes false records → HoldsBodies records bodies → bodies ≡ []
  no_bodies tells holds = none_held bodies (subst (λ (l : List ℕ). HoldsBodies l bodies) (tells.absent refl).1 holds)

  -- a half holds just the bodies that were read
  pub told : (is_open : Bool) → TellsEpoch epoch bytes is_open records → HoldsBodies records bodies → EpochHolds epoch bytes bodies
  told true tells holds = inl (records, tells.present refl, holds)
  told false tells holds = inr ((tells.absent refl).0, no_bodies tells holds)

  pub read : (is_open : Bool) → TellsEpoch epoch bytes is_open records → EpochHolds epoch bytes bodies → HoldsBodies records bodies
  read true tells (inl is) =
      let same : is.0 ≡ records = sym (behind_header epoch bytes is.0 is.1) ∙ behind_header epoch bytes records (tells.present refl) in
      subst (λ (l : List ℕ). HoldsBodies l bodies) same is.2
  read true tells (inr is) = absurd (is.0.not_open records (tells.present refl))
  read false tells (inl is) = absurd ((tells.absent refl).0.not_open is.0 is.1)
  read false tells (inr is) = subst (λ (l : List ℕ). HoldsBodies l bodies) (sym (tells.absent refl).1) (subst (HoldsBodies (0 ∷ [])) (sym is.1) ([], refl))

module _ (half g : ℕ) (nvram : List ℕ) (size : length nvram ≡ 2 * half) (one two : List ℕ) where
  -- the end of an open half
  ends : (epoch left : ℕ) (records : List ℕ) (bodies : List (List ℕ)) → TellsEpoch epoch (half_of half epoch nvram) true records → HoldsLeaving records bodies left
      → EndsBehind (At (half - left)) epoch (half_of half epoch nvram) bodies
  ends epoch left records bodies tells holds =
      let long : length records + 9 ≡ half =
      omega (arith, ap length (tells.present refl), length-append (opened epoch) records, length-opened epoch, length-half_at half (epoch % 2) nvram size (omega arith)) in
      (records, tells.present refl, holds.held, omega (arith, long, holds.left_is))

  pub ends_behind : (first second : Bool) → TellsEpoch (g + 1) (half_of half (g + 1) nvram) first one → TellsEpoch (g + 2) (half_of half (g + 2) nvram) second two
      → (bodies later : List (List ℕ)) (left left_too : ℕ) → HoldsLeaving one bodies left → HoldsLeaving two later left_too
      → StandsBehind (end_of (record { half = half; generation = g; first = record { is_open = first; records = one }; second = record { is_open = second; records = two } }) left left_too) g nvram (bodies ++ later)
  ends_behind first true tells tells_too bodies later left left_too holds holds_too = record {
    bodies = record { older = bodies; newest = later };
    all = refl;
    stands = stands_by (record { half = half; epoch = g + 2; end = At (half - left_too); is_stopped = false }) g (record { older = bodies; newest = later }) nvram size
        (ends (g + 2) left_too two later tells_too holds_too) (inr (refl, told (g + 1) (half_of half (g + 1) nvram) one bodies first tells holds.held));
  }
  ends_behind true false tells tells_too bodies later left left_too holds holds_too =
      let none = no_bodies (g + 2) (half_of half (g + 2) nvram) two later tells_too holds_too.held in
      record {
        bodies = record { older = []; newest = bodies };
        all = sym (append-nil bodies) ∙ ap (λ (l : List (List ℕ)). bodies ++ l) (sym none);
        stands = stands_by (record { half = half; epoch = g + 1; end = At (half - left); is_stopped = false }) g (record { older = []; newest = bodies }) nvram size
            (ends (g + 1) left one bodies tells holds) (inl (refl, (tells_too.absent refl).0, refl));
      }
  ends_behind false false tells tells_too bodies later left left_too holds holds_too =
      let none = no_bodies (g + 2) (half_of half (g + 2) nvram) two later tells_too holds_too.held in
      record {
        bodies = record { older = []; newest = bodies };
        all = sym (append-nil bodies) ∙ ap (λ (l : List (List ℕ)). bodies ++ l) (sym none);
        stands = stands_by (record { half = half; epoch = g + 1; end = Unopened; is_stopped = false }) g (record { older = []; newest = bodies }) nvram size
            ((tells.absent refl).0, no_bodies (g + 1) (half_of half (g + 1) nvram) one bodies tells holds.held) (inl (refl, (tells_too.absent refl).0, refl));
      }

  pub tells_log : (first second : Bool) → TellsEpoch (g + 1) (half_of half (g + 1) nvram) first one → TellsEpoch (g + 2) (half_of half (g + 2) nvram) second two
      → TellsLog nvram (record { half = half; generation = g; first = record { is_open = first; records = one }; second = record { is_open = second; records = two } })
  tells_log first second tells tells_too = record {
    ends = λ bodies later left left_too. ends_behind first second tells tells_too bodies later left left_too;
    held = λ bodies log. (
      log.first,
      log.second,
      log.in_order,
      read (g + 1) (half_of half (g + 1) nvram) one log.first first tells log.first_held,
      read (g + 2) (half_of half (g + 2) nvram) two log.second second tells_too log.second_held,
    );
  }

-- a log over the root would hold bodies of both epochs
pub first_unheld : (half g got epoch : ℕ) (nvram : List ℕ) → got ≡ half → epoch ≡ g + 1 → ((bodies : List (List ℕ)) → EpochHolds epoch (half_of got epoch nvram) bodies → ⊥)
    → (bodies : List (List ℕ)) → LogHolds half g nvram bodies → ⊥
first_unheld half g got epoch nvram same is none bodies log =
    none log.first (subst (λ (h : ℕ). EpochHolds epoch (half_of h epoch nvram) log.first) (sym same) (subst (λ (e : ℕ). EpochHolds e (half_of half e nvram) log.first) (sym is) log.first_held))

pub second_unheld : (half g got epoch : ℕ) (seen nvram : List ℕ) → got ≡ half → epoch ≡ g + 2 → seen ≡ nvram → ((bodies : List (List ℕ)) → EpochHolds epoch (half_of got epoch seen) bodies → ⊥)
    → (bodies : List (List ℕ)) → LogHolds half g nvram bodies → ⊥
second_unheld half g got epoch seen nvram same is still none bodies log =
    none log.second (subst (λ (l : List ℕ). EpochHolds epoch (half_of got epoch l) log.second) (sym still)
    (subst (λ (h : ℕ). EpochHolds epoch (half_of h epoch nvram) log.second) (sym same) (subst (λ (e : ℕ). EpochHolds e (half_of half e nvram) log.second) (sym is) log.second_held)))
