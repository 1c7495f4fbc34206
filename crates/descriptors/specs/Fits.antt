-- The table of open files beside the volume that they are of.
use Rattle.std.specs.Prelude.{ℕ, ◌≡◌, ◌==◌, if◌then◌else◌, IsTrue, Some}
use Rattle.std.specs.Option.{option_map}
use Rattle.model.specs.Volumes.{Volume, is_open}
use Rattle.model.specs.declared.limits.TheConstants.{OPEN_FILES}
use Rattle.descriptors.specs.Files.{Figures, figures_of, node_figures}
use Rattle.descriptors.specs.Tables.{open_at, table_of}
use Rattle.descriptors.specs.declared.open_file.OpenFile.{OpenFile}
use Rattle.descriptors.specs.declared.table.Descriptors.{Descriptors}

-- an open file is a file of the volume, with its size and its links
abbrev pub IsFileOf : Volume → OpenFile → Type 0
IsFileOf v f = node_figures (v f.number) ≡ Some (figures_of f)

-- each open file is a file of the volume, with its size and its links
pub record FitsVolume (table : Descriptors) (v : Volume) : Type 0 where
  pub files : (fd : ℕ) (f : OpenFile) → open_at table fd ≡ Some f → IsFileOf v f

-- each open file has the same figures in both volumes, but that those of the file n are changed so
abbrev pub ChangesFigures : Descriptors → ℕ → (Figures → Figures) → Volume → Volume → Type 0
ChangesFigures table n change v w =
    (k : ℕ) → IsTrue (is_open (table_of table) OPEN_FILES k)
    → node_figures (w k) ≡ (if k == n then option_map change (node_figures (v k)) else node_figures (v k))

-- each open file has the same figures in both volumes
abbrev pub SameFigures : Descriptors → Volume → Volume → Type 0
SameFigures table v w = (k : ℕ) → IsTrue (is_open (table_of table) OPEN_FILES k) → node_figures (w k) ≡ node_figures (v k)
