-- Pointers to blocks, and arrays of numbers of four bytes.
use Rattle.std.specs.Prelude.{ℕ, zero, suc, ◌≤◌, ◌<◌, List, [], ◌∷◌, ◌++◌, drop, map}
use Rattle.layout.specs.Bytes.{little, number}
use Rattle.layout.specs.declared.pointer.Pointer.{Pointer}
use Rattle.layout.specs.declared.pointer.Pointer.TheVariants.{Hole, Block}

-- the number that spells a pointer: 0 for a hole
abbrev pub pointer_number : Pointer → ℕ
pointer_number Hole = 0
pointer_number (Block block) = block

-- the pointer that a number spells
abbrev pub pointer_of : ℕ → Pointer
pointer_of zero = Hole
pointer_of (suc n) = Block (suc n)

-- a hole, or a block of the disk behind the two that hold the roots
abbrev pub PointsBelow : ℕ → Pointer → Type 0
PointsBelow blocks Hole = Unit {0}
PointsBelow blocks (Block block) = (2 ≤ block) × (block < blocks)

-- numbers of four bytes, one behind the other
unfoldable pub words_bytes : List ℕ → List ℕ
words_bytes [] = []
words_bytes (word ∷ words) = little 4 word ++ words_bytes words

-- the first n numbers of four bytes
unfoldable pub words_in : ℕ → List ℕ → List ℕ
words_in zero bytes = []
words_in (suc n) bytes = number 4 bytes ∷ words_in n (drop 4 bytes)

abbrev pub pointers_bytes : List Pointer → List ℕ
pointers_bytes pointers = words_bytes (map pointer_number pointers)

abbrev pub pointers_in : ℕ → List ℕ → List Pointer
pointers_in n bytes = map pointer_of (words_in n bytes)
