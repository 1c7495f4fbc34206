-- What a half holds: its records one behind the other, and what a write does to them.
use Rattle.std.proofs.Common.{◌≡◌, inl, inr, ℕ, ◌+◌, ◌<◌, ◌^◌, List, [], ◌∷◌, ◌++◌, length, take, drop, refl, sym, ap, ◌∙◌, All, arith, append_assoc, length-append, take-append-drop}
use Rattle.std.proofs.lemmas.List.{append-nil, take_at}
use Rattle.std.proofs.lemmas.List.Elements.{All-cons, All-head, All-nil, All-tail}
use Rattle.std.proofs.Math.Seq.{drop-append-add}
use Rattle.byteorder.specs.Numbers.{length-bytes_low_first}
use Rattle.byteorder.specs.Endian.{little_bytes}
use Rattle.station.specs.Images.{nvram_with}
use Rattle.layout.specs.Log.{opened, record_of, records_of, HoldsBodies, IsClosed, EpochHolds}
use Rattle.layout.proofs.LogLemmas.{closed_unopened}
use Rattle.oplog.specs.LogEnd.{EndsBehind}
use Rattle.oplog.specs.Batches.{AreBehind}
use Rattle.oplog.specs.Internal.{IsBehind}
use Rattle.oplog.specs.declared.log.End.{End}
use Rattle.oplog.specs.declared.log.End.TheVariants.{Unopened, At}

-- the bytes behind a gate whose records end in a closed one
pub spelled : (bytes : List ℕ) (bodies : List (List ℕ)) → HoldsBodies bytes bodies → (rest : List ℕ) × (bytes ≡ records_of bodies ++ 0 ∷ rest)
spelled bytes [] holds = holds
spelled bytes (body ∷ bodies) holds =
    let inner = spelled holds.0 bodies holds.3 in
    (inner.0, holds.2 ∙ ap (λ (l : List ℕ). record_of body ++ l) inner.1 ∙ sym (append_assoc (record_of body) (records_of bodies) (0 ∷ inner.0)))

-- other bytes behind the closed gate are no matter
behind_closed : (bytes : List ℕ) (bodies : List (List ℕ)) (rest : List ℕ) → HoldsBodies bytes bodies → HoldsBodies (records_of bodies ++ 0 ∷ rest) bodies
behind_closed bytes [] rest holds = (rest, refl)
behind_closed bytes (body ∷ bodies) rest holds =
    (records_of bodies ++ 0 ∷ rest, holds.1, append_assoc (record_of body) (records_of bodies) (0 ∷ rest), behind_closed holds.0 bodies rest holds.3)

-- the length of a body fits its field
abbrev pub IsShort : List ℕ → Type 0
IsShort body = length body < 2 ^ 32

-- records with a closed gate behind them
held : (more : List (List ℕ)) (rest : List ℕ) → All IsShort more → HoldsBodies (records_of more ++ 0 ∷ rest) more
held [] rest short = (rest, refl)
held (body ∷ more) rest short = (records_of more ++ 0 ∷ rest, All-head IsShort body more short, append_assoc (record_of body) (records_of more) (0 ∷ rest), held more rest (All-tail IsShort body more short))

-- more records in the closed gate's place
more_held : (bytes : List ℕ) (bodies more : List (List ℕ)) (rest : List ℕ) → All IsShort more → HoldsBodies bytes bodies
    → HoldsBodies (records_of bodies ++ (records_of more ++ 0 ∷ rest)) (bodies ++ more)
more_held bytes [] more rest short holds = held more rest short
more_held bytes (first ∷ bodies) more rest short holds =
    (records_of bodies ++ (records_of more ++ 0 ∷ rest), holds.1, append_assoc (record_of first) (records_of bodies) (records_of more ++ 0 ∷ rest), more_held holds.0 bodies more rest short holds.3)

pub length-record_of : (body : List ℕ) → length (record_of body) ≡ 5 + length body
length-record_of body = omega (arith, length-append (little_bytes 4 (length body)) body, length-bytes_low_first 0 4 (length body))

pub records_of-append : (bodies more : List (List ℕ)) → records_of (bodies ++ more) ≡ records_of bodies ++ records_of more
records_of-append [] more = refl
records_of-append (body ∷ bodies) more = ap (λ (l : List ℕ). record_of body ++ l) (records_of-append bodies more) ∙ sym (append_assoc (record_of body) (records_of bodies) (records_of more))

-- one record
pub length-one : (body : List ℕ) → length (records_of (body ∷ [])) ≡ 5 + length body
length-one body = omega (arith, length-append (record_of body) [], length-record_of body)

pub length-opened : (epoch : ℕ) → length (opened epoch) ≡ 9
length-opened epoch = omega (arith, length-bytes_low_first 0 8 epoch)

pub length-behind : (more : List (List ℕ)) (behind : List ℕ) → AreBehind more behind → length behind ≡ length (records_of more)
length-behind more behind are = omega (arith, ap length are.spelled, length-append (records_of more) (0 ∷ []))

-- what stands behind the gate of one record
pub one_behind : (body behind : List ℕ) → IsBehind body behind → AreBehind (body ∷ []) behind
one_behind body behind is = record {
  short = All-cons IsShort body [] is.short (All-nil IsShort);
  spelled = ap (λ (l : List ℕ). 1 ∷ l) (is.spelled ∙ sym (append_assoc (little_bytes 4 (length body)) body (0 ∷ []))) ∙ ap (λ (l : List ℕ). l ++ 0 ∷ []) (sym (append-nil (record_of body)));
}

-- bytes written behind a beginning
pub written_behind : (front tail bytes : List ℕ) (at : ℕ) → length front ≡ at → nvram_with at bytes (front ++ tail) ≡ front ++ (bytes ++ drop (length bytes) tail)
written_behind front tail bytes at here =
    let before : take at (front ++ tail) ≡ front = take_at front tail at here in
    let after : drop (at + length bytes) (front ++ tail) ≡ drop (length bytes) tail =
    ap (λ (n : ℕ). drop (n + length bytes) (front ++ tail)) (sym here) ∙ drop-append-add front tail (length bytes) in
    (λ i. (before i ++ bytes) ++ after i) ∙ append_assoc front bytes (drop (length bytes) tail)

-- nothing is written
pub none_written : (at : ℕ) (bytes : List ℕ) → nvram_with at [] bytes ≡ bytes
none_written at bytes =
    let same : at + 0 ≡ at = omega arith in
    ap (λ (n : ℕ). take at bytes ++ [] ++ drop n bytes) same ∙ ap (λ (l : List ℕ). l ++ drop at bytes) (append-nil (take at bytes)) ∙ take-append-drop at bytes

-- what ends somewhere is held
pub ends_hold : (end : End) (epoch : ℕ) (bytes : List ℕ) (bodies : List (List ℕ)) → EndsBehind end epoch bytes bodies → EpochHolds epoch bytes bodies
ends_hold Unopened epoch bytes bodies ends = inr ends
ends_hold (At next) epoch bytes bodies ends = inl (ends.0, ends.1, ends.2)

-- what stands before the closed gate of an open half
abbrev pub front : ℕ → List (List ℕ) → List ℕ
front epoch bodies = opened epoch ++ records_of bodies

module _ (epoch next : ℕ) (bytes : List ℕ) (bodies : List (List ℕ)) (ends : EndsBehind (At next) epoch bytes bodies) where
  place : length (front epoch bodies) ≡ next
  place = omega (arith, length-append (opened epoch) (records_of bodies), length-opened epoch, ends.3)

  -- the half with new bytes behind the closed gate
  pub staged : (new : List ℕ) → (rest : List ℕ) × (nvram_with (next + 1) new bytes ≡ front epoch bodies ++ 0 ∷ (new ++ rest))
  staged new =
      let inner = spelled ends.0 bodies ends.2 in
      let shape : bytes ≡ (front epoch bodies ++ 0 ∷ []) ++ inner.0 =
      ends.1 ∙ ap (λ (l : List ℕ). opened epoch ++ l) inner.1 ∙ sym (append_assoc (opened epoch) (records_of bodies) (0 ∷ inner.0))
      ∙ sym (append_assoc (front epoch bodies) (0 ∷ []) inner.0) in (
        drop (length new) inner.0,
        ap (λ (l : List ℕ). nvram_with (next + 1) new l) shape
            ∙ written_behind (front epoch bodies ++ 0 ∷ []) inner.0 new (next + 1) (omega (arith, length-append (front epoch bodies) (0 ∷ []), place))
            ∙ append_assoc (front epoch bodies) (0 ∷ []) (new ++ drop (length new) inner.0),
      )

  -- whatever stands behind it, the half ends there
  pub still_ends : (later rest : List ℕ) → later ≡ front epoch bodies ++ 0 ∷ rest → EndsBehind (At next) epoch later bodies
  still_ends later rest is =
      (records_of bodies ++ 0 ∷ rest, is ∙ append_assoc (opened epoch) (records_of bodies) (0 ∷ rest), behind_closed ends.0 bodies rest ends.2, ends.3)

  -- the gate is opened of the first of the records that stand behind it
  pub gate_opened : (later : List ℕ) (more : List (List ℕ)) (behind rest : List ℕ) → AreBehind more behind → later ≡ front epoch bodies ++ 0 ∷ (behind ++ rest)
      → EndsBehind (At (next + length (records_of more))) epoch (nvram_with next (1 ∷ []) later) (bodies ++ more)
  gate_opened later more behind rest are shape =
      let regroup : 1 ∷ (behind ++ rest) ≡ records_of more ++ 0 ∷ rest =
      ap (λ (l : List ℕ). l ++ rest) are.spelled ∙ append_assoc (records_of more) (0 ∷ []) rest in (
        records_of bodies ++ (records_of more ++ 0 ∷ rest),
        ap (λ (l : List ℕ). nvram_with next (1 ∷ []) l) shape
            ∙ written_behind (front epoch bodies) (0 ∷ (behind ++ rest)) (1 ∷ []) next place
            ∙ ap (λ (l : List ℕ). front epoch bodies ++ l) regroup
            ∙ append_assoc (opened epoch) (records_of bodies) (records_of more ++ 0 ∷ rest),
        more_held ends.0 bodies more rest are.short ends.2,
        omega (arith, ends.3, ap length (records_of-append bodies more), length-append (records_of bodies) (records_of more)),
      )

-- a half with a closed gate ends before its first record
pub closed_ends : (epoch : ℕ) (bytes : List ℕ) → IsClosed bytes → EndsBehind Unopened epoch bytes []
closed_ends epoch bytes shut = (closed_unopened epoch bytes shut, refl)

-- the header's gate is closed
pub header_closed : (bytes : List ℕ) → IsClosed (nvram_with 0 (0 ∷ []) bytes)
header_closed bytes = (drop 1 bytes, refl)

-- and bytes are written behind it
pub behind_header : (bytes new : List ℕ) → IsClosed bytes → (rest : List ℕ) × (nvram_with 1 new bytes ≡ 0 ∷ (new ++ rest))
behind_header bytes new shut = (drop (length new) shut.0, ap (λ (l : List ℕ). nvram_with 1 new l) shut.1 ∙ written_behind (0 ∷ []) shut.0 new 1 refl)

-- the header's gate is opened over an epoch with a closed gate behind it
pub header_opened : (epoch : ℕ) (bytes rest : List ℕ) → bytes ≡ 0 ∷ ((little_bytes 8 epoch ++ 0 ∷ []) ++ rest) → EndsBehind (At 9) epoch (nvram_with 0 (1 ∷ []) bytes) []
header_opened epoch bytes rest is = (
  0 ∷ rest,
  ap (λ (l : List ℕ). nvram_with 0 (1 ∷ []) l) is ∙ ap (λ (l : List ℕ). 1 ∷ l) (append_assoc (little_bytes 8 epoch) (0 ∷ []) rest),
  (rest, refl),
  refl,
)
