-- A disk and an NVRAM as their calls leave them, and what a power cut then may leave. A disk writes
-- a sector whole or not at all, and in any order until it is told to sync; an NVRAM keeps each byte
-- that reached it. An NVRAM behind a file system on such a disk is described by Hitz, Lau and
-- Malcolm, "File System Design for an NFS File Server Appliance", USENIX Winter 1994.
use Rattle.std.specs.Prelude.{◌≡◌, ◌⊎◌, ℕ, zero, suc, ◌%◌, ◌^◌, ◌<◌, ◌≤◌, List, [], ◌∷◌, ◌++◌, length, get_or, take, fold, if◌then◌else◌}
use Rattle.station.specs.Images.{Images, Sector, unreadable, sector_with, part_of, reaches, disk_with, nvram_with}
use Rattle.memory_station.specs.Disk.{sectors_with}
use Rattle.memory_station.specs.declared.history.Call.{Call}
use Rattle.memory_station.specs.declared.history.Call.TheVariants.{Read, Write, NvWrite, Sync}

pub record Device : Type 0 where
  -- what a read of each sector gives
  pub seen : ℕ → Sector
  -- what a cut may leave in each sector: its settled value and each one written since the last sync
  -- that succeeded
  pub held : ℕ → List Sector
  pub nvram : List ℕ

-- the disk is no whole number of sectors, or the NVRAM has too many bytes
abbrev pub IsBadSize : List ℕ → List ℕ → Type 0
IsBadSize disk nvram = (0 < length disk % 512) ⊎ (2 ^ 32 ≤ length nvram)

-- before any call, all settled, where the sectors in a list can't be read
abbrev pub fresh : List ℕ → List ℕ → List ℕ → Device
fresh disk nvram bad = record {
  seen = sectors_with disk bad;
  held = λ n. sectors_with disk bad n ∷ [];
  nvram = nvram;
}

-- what reads give
abbrev pub reads_of : Device → Images
reads_of d = record { disk = d.seen; nvram = d.nvram }

-- what a call leaves
unfoldable pub after : Device → Call → Device
after d Read = d
after d (Write first bytes done) = record {
  seen = if done then disk_with first bytes.items d.seen else d.seen;
  held = λ n.
      if reaches first bytes.items n then d.held n ++ part_of first bytes.items n ∷ [] else d.held n;
  nvram = d.nvram;
}
after d (NvWrite at bytes kept) = record d { nvram = nvram_with at (take kept bytes.items) d.nvram }
after d (Sync done) = if done then record d { held = λ n. d.seen n ∷ [] } else d

-- what these calls leave, one after another
unfoldable pub after_all : Device → List Call → Device
after_all d calls = fold after d calls

-- the settled value of each sector
abbrev pub settled_of : Device → ℕ → Sector
settled_of d n = get_or (d.held n) 0 (sector_with [])

abbrev pub IsOneOf : Sector → List Sector → Type 0
IsOneOf x [] = ⊥
IsOneOf x (y ∷ ys) = (x ≡ y) ⊎ IsOneOf x ys

-- a sector that holds these was written since the last sync that succeeded
abbrev pub IsUnsynced : List Sector → Type 0
IsUnsynced held = 1 < length held

-- a cut leaves one of these in a sector, or one that can't be read where it was written since the
-- last sync that succeeded
abbrev pub IsLeftOf : Sector → List Sector → Type 0
IsLeftOf x held = IsOneOf x held ⊎ ((x ≡ unreadable) × IsUnsynced held)

-- a power cut may leave these images: each sector is independent of the others
pub record MayBeLeft (d : Device) (c : Images) : Type 0 where
  pub disk : (n : ℕ) → IsLeftOf (c.disk n) (d.held n)
  pub nvram : c.nvram ≡ d.nvram

-- a power cut within this call may leave them: of an NVRAM write it keeps a beginning
unfoldable pub LeftWithin : Device → Call → Images → Type 0
LeftWithin d Read c = MayBeLeft d c
LeftWithin d (Write first bytes done) c = MayBeLeft (after d (Write first bytes done)) c
LeftWithin d (NvWrite at bytes kept) c =
    (k : ℕ) × (k ≤ length bytes.items) × MayBeLeft (after d (NvWrite at bytes k)) c
LeftWithin d (Sync done) c = MayBeLeft d c

-- a power cut at this moment of these calls may leave them: moment 0 is before the first call, 1
-- within it, 2 after it
unfoldable pub LeftAt : Device → List Call → ℕ → Images → Type 0
LeftAt d [] t c = MayBeLeft d c
LeftAt d (call ∷ calls) zero c = MayBeLeft d c
LeftAt d (call ∷ calls) (suc zero) c = LeftWithin d call c
LeftAt d (call ∷ calls) (suc (suc t)) c = LeftAt (after d call) calls t c
