-- What a list of writes makes of a file.
use Rattle.std.specs.Prelude.{◌≡◌, ℕ, List, [], ◌∷◌, ◌++◌, fold}
use Rattle.std.specs.Global.{Vec}
use Rattle.file_station.specs.Files.{file_with}
use Rattle.file_station.specs.declared.image_files.Part.{Part}
use Rattle.file_station.specs.declared.image_files.Part.TheVariants.{Disk, Nvram}
use Rattle.file_station.specs.declared.memory_files.FileWrite.{FileWrite}

-- a file after a write to it, and after one to the other file
abbrev pub written_file : Part → List ℕ → Part → ℕ → List ℕ → List ℕ
written_file Disk file Disk at bytes = file_with at bytes file
written_file Disk file Nvram at bytes = file
written_file Nvram file Disk at bytes = file
written_file Nvram file Nvram at bytes = file_with at bytes file

abbrev pub file_after : Part → List ℕ → FileWrite → List ℕ
file_after part file w = written_file part file w.part w.at w.bytes.items

-- a file that held this first, after these writes
unfoldable pub contents_after : Part → List ℕ → List FileWrite → List ℕ
contents_after part first writes = fold (file_after part) first writes

-- a write of these bytes was added to the list
abbrev pub IsAdded : List FileWrite → List FileWrite → Part → ℕ → List ℕ → Type 0
IsAdded old new part at bytes =
    (v : Vec ℕ) × (v.items ≡ bytes) × (new ≡ old ++ record { part = part; at = at; bytes = v } ∷ [])
