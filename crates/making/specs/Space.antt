-- How many blocks the files of a new image take at the most.
use Rattle.std.specs.Prelude.{ℕ}

-- the inode map: it has two blocks at the most
abbrev pub NUMBERS_STORES : ℕ
NUMBERS_STORES = 5

-- the inode file, of which the first block alone is stored
abbrev pub TOP_STORES : ℕ
TOP_STORES = 3
