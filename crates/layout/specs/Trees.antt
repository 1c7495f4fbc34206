-- What differs from one layout of trees to the other: how many pointers an indirect block has and
-- what follows from it, and what an inode tells.
use Rattle.std.specs.Prelude.{ℕ, Bool, false, nat_le, if◌then◌else◌, true}
use Rattle.layout.specs.declared.TheConstants.{DIRECT_BYTES, INLINE_BYTES}
use Rattle.layout.specs.declared.trees.Layout.{Layout}
use Rattle.layout.specs.declared.trees.Layout.TheVariants.{Plain, Summed}

-- how many pointers an indirect block has
abbrev pub fan_out : Layout → ℕ
fan_out Plain = 1024
fan_out Summed = 512

-- whether objects have owners, times and a generation
abbrev pub has_attributes : Layout → Bool
has_attributes Plain = false
has_attributes Summed = true

-- the greatest size of a file with one indirect block on the way to each of its blocks, in bytes
abbrev pub single_bytes : Layout → ℕ
single_bytes Plain = 67108864
single_bytes Summed = 33554432

-- and with two
abbrev pub double_bytes : Layout → ℕ
double_bytes Plain = 68719476736
double_bytes Summed = 17179869184

-- the greatest size of any file
abbrev pub greatest_size : Layout → ℕ
greatest_size Plain = 68719476736
greatest_size Summed = 8796093022208

-- The level of a file of this size: inline, direct, and with one, two or three indirect blocks on
-- the way.
abbrev pub level_of : Layout → ℕ → ℕ
level_of layout size =
    if nat_le size INLINE_BYTES
    then 0
    else (if nat_le size DIRECT_BYTES
    then 1
    else (if nat_le size (single_bytes layout)
    then 2
    else (if nat_le size (double_bytes layout) then 3 else 4)))
