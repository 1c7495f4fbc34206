-- The bytes of a disk, and a list of the sectors that can't be read.
use Rattle.std.specs.Prelude.{◌≡◌, ℕ, ◌/◌, ◌<◌, ◌==◌, Bool, true, List, length, replicate, All, if◌then◌else◌}
use Rattle.std.specs.List.{list_any}
use Rattle.station.specs.Images.{Images, Sector, unreadable, sectors_of}

-- the list has this number
abbrev pub is_bad : List ℕ → ℕ → Bool
is_bad bad n = list_any (λ b. b == n) bad

-- the sectors of a disk of these bytes, of which those in the list can't be read
abbrev pub sectors_with : List ℕ → List ℕ → ℕ → Sector
sectors_with disk bad n = if is_bad bad n then unreadable else sectors_of disk n

-- the images of these bytes and that list
abbrev pub images_with : List ℕ → List ℕ → List ℕ → Images
images_with disk nvram bad = record { disk = sectors_with disk bad; nvram = nvram }

-- a number of the list is past the disk
abbrev pub HasPast : List ℕ → List ℕ → Type 0
HasPast disk bad = All (λ n. n < length disk / 512) bad → ⊥

-- the sectors in the list have zeros
abbrev pub HasZeros : List ℕ → List ℕ → Type 0
HasZeros disk bad = (n : ℕ) → is_bad bad n ≡ true → sectors_of disk n ≡ replicate 512 0
