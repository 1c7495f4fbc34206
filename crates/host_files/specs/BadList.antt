-- The list of a disk's sectors that can't be read, as the text of a file.
use Rattle.std.specs.Prelude.{ℕ, ◌≡◌, ◌<◌, ◌+◌, ◌⊎◌, List, [], ◌∷◌, ◌++◌, All, length, slice_index}
use Rattle.std.specs.Fmt.{decimal}
use Rattle.std.specs.List.{flat_map}
use Rattle.std.specs.List.Sorted.{IsStrictlyIncreasing}

-- a number's line: decimal digits, and a line feed (10)
abbrev pub line_of : ℕ → List ℕ
line_of n = decimal n ++ (10 ∷ [])

abbrev pub list_text : List ℕ → List ℕ
list_text numbers = flat_map line_of numbers

-- these are sectors of so many, in rising order
pub record IsListOf (sectors : ℕ) (numbers : List ℕ) : Type 0 where
  pub rising : IsStrictlyIncreasing numbers
  pub below : All (λ n. n < sectors) numbers

-- a text is that of these sectors of so many; the last line feed may be missing
pub record Names (text : List ℕ) (sectors : ℕ) (numbers : List ℕ) : Type 0 where
  pub spelled : (list_text numbers ≡ text) ⊎ (list_text numbers ≡ text ++ (10 ∷ []))
  pub list : IsListOf sectors numbers

-- a line of this word is added to a list
pub record EndsLine (word : List ℕ) (sectors : ℕ) (old new : List ℕ) : Type 0 where
  pub text : list_text new ≡ list_text old ++ (word ++ (10 ∷ []))
  pub list : IsListOf sectors new

-- a number is greater than the last of a list
abbrev pub IsBehind : List ℕ → ℕ → Type 0
IsBehind numbers n = (k : ℕ) → k + 1 ≡ length numbers → slice_index numbers k < n
