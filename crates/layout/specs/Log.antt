-- The two halves of the NVRAM, half 0 from byte 0 on and half 1 from byte `half` on. A half is a
-- gate, an epoch in eight bytes, and records; a record is a gate, its body's length in four bytes,
-- and its body. A gate is 1 where it is open and 0 where it is closed. Epoch e stands in half e mod
-- 2.
use Rattle.std.specs.Prelude.{◌≡◌, ◌⊎◌, ℕ, ◌+◌, ◌*◌, ◌%◌, ◌<◌, ◌^◌, List, [], ◌∷◌, ◌++◌, length, take, drop}
use Rattle.byteorder.specs.Endian.{little_bytes}

-- half r of an NVRAM, where r is 0 or 1
abbrev pub half_at : ℕ → ℕ → List ℕ → List ℕ
half_at half r nvram = take half (drop (half * r) nvram)

-- the half of an epoch
abbrev pub half_of : ℕ → ℕ → List ℕ → List ℕ
half_of half epoch nvram = half_at half (epoch % 2) nvram

-- a half that is open for an epoch
abbrev pub opened : ℕ → List ℕ
opened epoch = 1 ∷ little_bytes 8 epoch

-- an open record
abbrev pub record_of : List ℕ → List ℕ
record_of body = 1 ∷ little_bytes 4 (length body) ++ body

-- the records of these bodies, one behind the other
abbrev pub records_of : List (List ℕ) → List ℕ
records_of [] = []
records_of (body ∷ bodies) = record_of body ++ records_of bodies

-- the bytes from a record's gate on hold these bodies, and then a closed gate
abbrev pub HoldsBodies : List ℕ → List (List ℕ) → Type 0
HoldsBodies bytes [] = (rest : List ℕ) × (bytes ≡ 0 ∷ rest)
HoldsBodies bytes (body ∷ bodies) = (rest : List ℕ) × (length body < 2 ^ 32) × (bytes ≡ record_of body ++ rest) × HoldsBodies rest bodies

-- a half is open for an epoch, and these bytes stand behind its header
abbrev pub IsOpenFor : ℕ → List ℕ → List ℕ → Type 0
IsOpenFor epoch bytes rest = bytes ≡ opened epoch ++ rest

abbrev pub IsClosed : List ℕ → Type 0
IsClosed bytes = (rest : List ℕ) × (bytes ≡ 0 ∷ rest)

-- the half of an epoch isn't open for it: it is closed, or open for an earlier one of its parity,
-- whose records are no matter
pub record IsUnopened (epoch : ℕ) (bytes : List ℕ) : Type 0 where
  pub earlier : IsClosed bytes ⊎ ((e : ℕ) × (e < epoch) × (e % 2 ≡ epoch % 2) × (rest : List ℕ) × IsOpenFor e bytes rest)
  pub not_open : (rest : List ℕ) → IsOpenFor epoch bytes rest → ⊥

-- the half of an epoch holds these bodies of it, and nothing of a later one
abbrev pub EpochHolds : ℕ → List ℕ → List (List ℕ) → Type 0
EpochHolds epoch bytes bodies =
    ((rest : List ℕ) × IsOpenFor epoch bytes rest × HoldsBodies rest bodies) ⊎ (IsUnopened epoch bytes × (bodies ≡ []))

-- The log over a root of generation g holds these bodies, which the root doesn't cover: those of
-- the next epoch, and then those of the one after it. No later epoch has begun.
pub record LogHolds (half g : ℕ) (nvram : List ℕ) (bodies : List (List ℕ)) : Type 0 where
  pub size : length nvram ≡ 2 * half
  pub first : List (List ℕ)
  pub second : List (List ℕ)
  pub in_order : bodies ≡ first ++ second
  pub first_held : EpochHolds (g + 1) (half_of half (g + 1) nvram) first
  pub second_held : EpochHolds (g + 2) (half_of half (g + 2) nvram) second
