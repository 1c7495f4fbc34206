-- What a power cut may leave at each moment, and how a call goes on from what it found.
use Rattle.std.specs.Prelude.{◌≡◌, ◌⊎◌, ℕ, ◌+◌, ◌<◌, ◌≤◌, ◌-◌, ◌^◌, min, length, List, Result, OnOk, OnErr, ◌↔◌}
use Rattle.station.specs.Images.{Images, Sector, sector_bytes, unreadable}

-- What is known of a station. A moment is a number that doesn't fall: calls begin and end at
-- moments, and moments may lie within a call.
pub record Meaning : Type 1 where
  pub sectors : ℕ
  pub nvram_bytes : ℕ
  -- the calls that failed so far: each count stays at its last value, 2 ^ 64 - 1
  pub failed_reads : ℕ
  pub failed_writes : ℕ  -- of writes and of syncs
  -- the station is one of which all that follows is true
  pub is_honest : Type 0
  -- what reads give
  pub seen : Images
  -- now
  pub moment : ℕ
  -- what a cut at a moment so far might have left
  pub left_at : ℕ → Images → Type 0

-- a cut now may leave these images
abbrev pub MayLeave : Meaning → Images → Type 0
MayLeave m c = m.left_at m.moment c

-- a cut at some moment from a to b might have left these images
abbrev pub LeftBetween : Meaning → ℕ → ℕ → Images → Type 0
LeftBetween m a b c = (t : ℕ) × (a ≤ t) × (t ≤ b) × m.left_at t c

-- of an honest station: reads give images with P
abbrev pub Shows : Meaning → (Images → Type 0) → Type 0
Shows m P = m.is_honest → P m.seen

-- of an honest station: whatever a cut now may leave has P
abbrev pub EachCut : Meaning → (Images → Type 0) → Type 0
EachCut m P = m.is_honest → (c : Images) → MayLeave m c → P c

-- of an honest station: a cut now leaves just these images
abbrev pub LeavesJust : Meaning → Images → Type 0
LeavesJust m images = EachCut m (λ c. c ≡ images)

-- the disk's bytes fit 64 bits, and the NVRAM's 32
pub record FitsNumbers (m : Meaning) : Type 0 where
  pub sectors : m.sectors < 2 ^ 55
  pub nvram : m.nvram_bytes < 2 ^ 32

-- a sector has 512 bytes, or can't be read
abbrev pub IsSector : Sector → Type 0
IsSector sector = (length (sector_bytes sector) ≡ 512) ⊎ (sector ≡ unreadable)

-- images of a station's sizes
pub record HasSizes (m : Meaning) (c : Images) : Type 0 where
  pub nvram : length c.nvram ≡ m.nvram_bytes
  pub sector : (n : ℕ) → n < m.sectors → IsSector (c.disk n)

-- images that a cut may have left at old, after a step
abbrev pub After : (Images → Images → Type 0) → Meaning → Images → Type 0
After step old c = (d : Images) × MayLeave old d × step d c

-- on a disk that a cut may have left at old stands an NVRAM with P
abbrev pub KeepsDisk : Meaning → (List ℕ → Type 0) → Images → Type 0
KeepsDisk old P c = (d : Images) × MayLeave old d × (c.disk ≡ d.disk) × P c.nvram

-- Time went on from old to new by one step: whatever a cut leaves within it or after it is what one
-- might have left before it, after the step. Earlier moments stay as they were.
pub record Went (step : Images → Images → Type 0) (old new : Meaning) : Type 0 where
  pub honest : new.is_honest
  pub later : old.moment ≤ new.moment
  pub kept : (t : ℕ) (c : Images) → t ≤ old.moment → new.left_at t c ↔ old.left_at t c
  pub added : (t : ℕ) (c : Images)
      → old.moment < t → t ≤ new.moment → new.left_at t c → After step old c
  pub now : (c : Images) → MayLeave new c → After step old c
  pub seen : step old.seen new.seen

-- of a station that was honest: so it went on
abbrev pub Goes : (Images → Images → Type 0) → Meaning → Meaning → Type 0
Goes step old new = old.is_honest → Went step old new

-- of a station that was honest: what reads give went on by this step
abbrev pub SeenGoes : (Images → Images → Type 0) → Meaning → Meaning → Type 0
SeenGoes step old new = old.is_honest → step old.seen new.seen

-- of an honest station: what a cut now may leave went on from old by this step
abbrev pub LeftGoes : (Images → Images → Type 0) → Meaning → Meaning → Type 0
LeftGoes step old new = EachCut new (After step old)

-- A cut at any moment from old to new left images with P. Earlier moments stay as they were.
pub record LeftOnly (old new : Meaning) (P : Images → Type 0) : Type 0 where
  pub honest : new.is_honest
  pub later : old.moment ≤ new.moment
  pub kept : (t : ℕ) (c : Images) → t ≤ old.moment → new.left_at t c ↔ old.left_at t c
  pub each : (c : Images) → LeftBetween new old.moment new.moment c → P c

-- of a station that was honest: so it was
abbrev pub LeavesOnly : Meaning → Meaning → (Images → Type 0) → Type 0
LeavesOnly old new P = old.is_honest → LeftOnly old new P

-- the same station, whose sizes and honesty no call changes
pub record IsSameStation (old new : Meaning) : Type 0 where
  pub sectors : new.sectors ≡ old.sectors
  pub nvram_bytes : new.nvram_bytes ≡ old.nvram_bytes
  pub honest : old.is_honest ↔ new.is_honest

-- a count that goes up by one, and stays at its last value
abbrev pub counted_up : ℕ → ℕ
counted_up n = min (n + 1) (2 ^ 64 - 1)

-- a count has gone up, or is at its last value
abbrev pub HasGrown : ℕ → ℕ → Type 0
HasGrown old new = counted_up old ≤ new

-- a count is as it was, or has grown
abbrev pub MayGrow : ℕ → ℕ → Type 0
MayGrow old new = (new ≡ old) ⊎ HasGrown old new

-- a read failed, or no call did
pub record CountsRead {T E : Type 0} (old new : Meaning) (result : Result T E) : Type 0 where
  pub writes : new.failed_writes ≡ old.failed_writes
  pub ok : OnOk result (new.failed_reads ≡ old.failed_reads)
  pub err : OnErr result (new.failed_reads ≡ counted_up old.failed_reads)

-- a write or a sync failed, or no call did
pub record CountsWrite {T E : Type 0} (old new : Meaning) (result : Result T E) : Type 0 where
  pub reads : new.failed_reads ≡ old.failed_reads
  pub ok : OnOk result (new.failed_writes ≡ old.failed_writes)
  pub err : OnErr result (new.failed_writes ≡ counted_up old.failed_writes)
