-- The open files by their numbers.
use Rattle.std.specs.Prelude.{ℕ, Bool, Option, nat_eq, nat_lt}
use Rattle.std.specs.HashMap.{get, spare}
use Rattle.descriptors.specs.declared.shared.SharedFile.{SharedFile}
use Rattle.descriptors.specs.declared.shared.SharedFiles.{SharedFiles}

-- the file with a number, if it is open
abbrev pub shared_at : SharedFiles → ℕ → Option SharedFile
shared_at s n = get nat_eq s.files n

-- one file more needs no memory
abbrev pub has_room : SharedFiles → Bool
has_room s = nat_lt 0 (spare s.files)
