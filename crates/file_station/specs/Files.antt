-- What is known of the two files of an image, and how a call goes on from what it found.
use Rattle.std.specs.Prelude.{◌≡◌, ◌⊎◌, ◌↔◌, ℕ, ◌<◌, ◌≤◌, List, [], length, take}
use Rattle.station.specs.Images.{nvram_with, sectors_of}
use Rattle.file_station.specs.declared.image_files.Part.{Part}
use Rattle.file_station.specs.declared.image_files.Part.TheVariants.{Disk, Nvram}

-- what is known of one file
pub record FileMeaning : Type 1 where
  pub length : ℕ
  -- what reads give
  pub seen : List ℕ
  -- what a cut at a moment so far might have left
  pub left_at : ℕ → List ℕ → Type 0

pub record FilesMeaning : Type 1 where
  -- the files are ones of which all that follows is true
  pub is_honest : Type 0
  -- now, for both
  pub moment : ℕ
  pub disk : FileMeaning
  pub nvram : FileMeaning

abbrev pub file_of : FilesMeaning → Part → FileMeaning
file_of m Disk = m.disk
file_of m Nvram = m.nvram

-- no call changes the lengths, nor whether the files are honest
pub record AreSameFiles (old new : FilesMeaning) : Type 0 where
  pub disk : new.disk.length ≡ old.disk.length
  pub nvram : new.nvram.length ≡ old.nvram.length
  pub honest : old.is_honest ↔ new.is_honest

-- of honest files: reads of this one give a file with P
abbrev pub ShowsFile : FilesMeaning → Part → (List ℕ → Type 0) → Type 0
ShowsFile m part P = m.is_honest → P (file_of m part).seen

-- a cut now leaves just this of a file
abbrev pub LeavesJustFile : FilesMeaning → Part → List ℕ → Type 0
LeavesJustFile m part file = (f : List ℕ) → (file_of m part).left_at m.moment f → f ≡ file

-- STEPS OF A FILE

-- it stays
abbrev pub LeavesFile : List ℕ → List ℕ → Type 0
LeavesFile old new = new ≡ old

-- the file with these bytes at this offset
abbrev pub file_with : ℕ → List ℕ → List ℕ → List ℕ
file_with at bytes file = nvram_with at bytes file

-- any of its sectors are as the write made them, and the others stay
abbrev pub SomeSectorsKept : ℕ → List ℕ → List ℕ → List ℕ → Type 0
SomeSectorsKept at bytes old new =
    (n : ℕ) → (sectors_of new n ≡ sectors_of old n)
    ⊎ (sectors_of new n ≡ sectors_of (file_with at bytes old) n)

-- a beginning of the bytes is written
pub record PrefixKept (at : ℕ) (bytes old new : List ℕ) : Type 0 where
  pub kept : ℕ
  pub within : kept ≤ length bytes
  pub is : new ≡ file_with at (take kept bytes) old

-- what a write to one of the files does to each
abbrev pub disk_step : Part → ℕ → List ℕ → List ℕ → List ℕ → Type 0
disk_step Disk at bytes = SomeSectorsKept at bytes
disk_step Nvram at bytes = LeavesFile

abbrev pub nvram_step : Part → ℕ → List ℕ → List ℕ → List ℕ → Type 0
nvram_step Disk at bytes = LeavesFile
nvram_step Nvram at bytes = PrefixKept at bytes

-- A file went on by a step from one moment to another: whatever a cut leaves of it within or after
-- that is what one might have left before, after the step. Earlier moments stay as they were.
pub record FileWent (step : List ℕ → List ℕ → Type 0) (from to : ℕ)
    (old new : FileMeaning) : Type 0 where
  pub kept : (t : ℕ) (f : List ℕ) → t ≤ from → new.left_at t f ↔ old.left_at t f
  pub added : (t : ℕ) (f : List ℕ)
      → from < t → t ≤ to → new.left_at t f → (e : List ℕ) × old.left_at from e × step e f
  pub now : (f : List ℕ) → new.left_at to f → (e : List ℕ) × old.left_at from e × step e f
  pub seen : step old.seen new.seen

pub record FilesWent (on_disk on_nvram : List ℕ → List ℕ → Type 0)
    (old new : FilesMeaning) : Type 0 where
  pub honest : new.is_honest
  pub later : old.moment ≤ new.moment
  pub disk : FileWent on_disk old.moment new.moment old.disk new.disk
  pub nvram : FileWent on_nvram old.moment new.moment old.nvram new.nvram

-- of files that were honest: so they went on
abbrev pub FilesGo : (List ℕ → List ℕ → Type 0) → (List ℕ → List ℕ → Type 0)
    → FilesMeaning → FilesMeaning → Type 0
FilesGo on_disk on_nvram old new = old.is_honest → FilesWent on_disk on_nvram old new

-- whatever a cut now may leave of a file has its length
pub record HasLengths (m : FilesMeaning) : Type 0 where
  pub disk : (f : List ℕ) → m.disk.left_at m.moment f → length f ≡ m.disk.length
  pub nvram : (f : List ℕ) → m.nvram.left_at m.moment f → length f ≡ m.nvram.length
  pub disk_seen : m.disk.left_at m.moment m.disk.seen
  pub nvram_seen : m.nvram.left_at m.moment m.nvram.seen

-- files of which nothing but their lengths is known
abbrev pub claims_nothing : ℕ → ℕ → FilesMeaning
claims_nothing disk nvram = record {
  is_honest = ⊥;
  moment = 0;
  disk = record { length = disk; seen = []; left_at = λ _ _. ⊥ };
  nvram = record { length = nvram; seen = []; left_at = λ _ _. ⊥ };
}
