-- What is known of two files in memory.
use Rattle.std.specs.Prelude.{◌≡◌, ℕ, List, length, take}
use Rattle.std.proofs.Common.{ap, sym, ◌∙◌, arith, take_all}
use Rattle.file_station.specs.Files.{FileMeaning, FilesMeaning, file_of}
use Rattle.file_station.specs.Memory.{contents_after}
use Rattle.file_station.specs.declared.image_files.Part.{Part}
use Rattle.file_station.specs.declared.image_files.Part.TheVariants.{Disk, Nvram}
use Rattle.file_station.specs.declared.memory_files.FileWrite.{FileWrite}
use Rattle.file_station.specs.declared.memory_files.MemoryFiles.{MemoryFiles}

-- a file that held this first, after these writes: each is a moment, after which a cut leaves just
-- what was written
abbrev pub file_known : Part → List ℕ → List FileWrite → FileMeaning
file_known part first writes = record {
  length = length first;
  seen = contents_after part first writes;
  left_at = λ t file. file ≡ contents_after part first (take t writes);
}

abbrev pub known_files : List ℕ → List ℕ → List FileWrite → FilesMeaning
known_files disk nvram writes = record {
  is_honest = Unit {0};
  moment = length writes;
  disk = file_known Disk disk writes;
  nvram = file_known Nvram nvram writes;
}

abbrev pub memory_meaning : MemoryFiles → FilesMeaning
memory_meaning s = known_files s.first_disk.items s.first_nvram.items s.writes.items

-- files of these bytes, before any write
pub record AreLoadedFiles (on_disk in_nvram : List ℕ) (m : FilesMeaning) : Type 0 where
  pub disk : m.disk.seen ≡ on_disk
  pub nvram : m.nvram.seen ≡ in_nvram
  pub disk_length : m.disk.length ≡ length on_disk
  pub nvram_length : m.nvram.length ≡ length in_nvram
  pub honest : m.is_honest

-- the laws
all_taken : (writes : List FileWrite) → take (length writes) writes ≡ writes
all_taken writes = take_all (length writes) writes (omega arith)

pub seen_may_be_left : (s : MemoryFiles) (part : Part) → (file_of (memory_meaning s) part).left_at (memory_meaning s).moment (file_of (memory_meaning s) part).seen
seen_may_be_left s Disk = ap (contents_after Disk s.first_disk.items) (sym (all_taken s.writes.items))
seen_may_be_left s Nvram = ap (contents_after Nvram s.first_nvram.items) (sym (all_taken s.writes.items))

pub lengths : (s : MemoryFiles) (part : Part) (file : List ℕ) → (file_of (memory_meaning s) part).left_at (memory_meaning s).moment file → length file ≡ (file_of (memory_meaning s) part).length
lengths s Disk file left = ap length (left ∙ ap (contents_after Disk s.first_disk.items) (all_taken s.writes.items) ∙ sym s.disk_is) ∙ s.disk_size
lengths s Nvram file left = ap length (left ∙ ap (contents_after Nvram s.first_nvram.items) (all_taken s.writes.items) ∙ sym s.nvram_is) ∙ s.nvram_size
