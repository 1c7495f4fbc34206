-- How each kind of field is spelled as a word of a line.
use Rattle.std.specs.Prelude.{◌≡◌, ℕ, ◌<◌, ◌+◌, ◌/◌, ◌%◌, ◌==◌, Bool, true, false, nat_lt, nat_le, ◌&&◌, not, List, [], ◌∷◌, ◌++◌, All, if◌then◌else◌, codes, Option, Some, None}
use Rattle.std.specs.Fmt.{decimal, signed_decimal}
use Rattle.std.specs.Global.{Vec}
use Rattle.std.specs.List.{flat_map, slice_split}
use Rattle.model.specs.declared.command.Access.{Access}
use Rattle.model.specs.declared.command.Access.TheVariants.{Reading, Writing, Both}
use Rattle.model.specs.declared.command.Flags.{Flags}
use Rattle.model.specs.declared.command.NewTime.{NewTime}
use Rattle.model.specs.declared.command.NewTime.TheVariants.{Omit, Now, At}
use Rattle.model.specs.declared.command.Whence.{Whence}
use Rattle.model.specs.declared.command.Whence.TheVariants.{Set, Cur, End}
use Rattle.hex.specs.Hex.{encode_lower}

-- the parts of a line between its spaces
abbrev pub words_of : List ℕ → List (List ℕ)
words_of line = slice_split (λ b. b == 32) line

-- text was added to a line
abbrev pub AddsText : Vec ℕ → Vec ℕ → List ℕ → Type 0
AddsText old new text = new.items ≡ old.items ++ text

-- these are bytes
abbrev pub AreByteValues : List ℕ → Type 0
AreByteValues bs = All (λ b. b < 256) bs

-- a byte that stands for itself: '!' to '~', but '%'
abbrev pub is_plain : ℕ → Bool
is_plain b = nat_le 33 b && nat_le b 126 && not (b == 37)

-- a number below 16 as a lower-case hexadecimal digit
abbrev pub hex_digit : ℕ → ℕ
hex_digit v = if nat_lt v 10 then 48 + v else 87 + v

-- a byte that isn't plain is '%' and two digits
abbrev pub byte_word : ℕ → List ℕ
byte_word b = if is_plain b then b ∷ [] else 37 ∷ hex_digit (b / 16) ∷ hex_digit (b % 16) ∷ []

-- the empty text is '%' alone
abbrev pub text_word : List ℕ → List ℕ
text_word [] = codes "%"
text_word (b ∷ bs) = flat_map byte_word (b ∷ bs)

-- a word begins with this byte's word, and this is the rest of it
abbrev pub IsSplit : List ℕ → ℕ → List ℕ → Type 0
IsSplit word b rest = (b < 256) × (byte_word b ++ rest ≡ word)

-- two hexadecimal digits for each byte, and '-' for none
abbrev pub data_word : List ℕ → List ℕ
data_word [] = codes "-"
data_word (b ∷ bs) = encode_lower (b ∷ bs)

-- four octal digits
abbrev pub mode_word : ℕ → List ℕ
mode_word m = (48 + m / 512) ∷ (48 + m / 64 % 8) ∷ (48 + m / 8 % 8) ∷ (48 + m % 8) ∷ []

-- a mode as a line's last word, which the default isn't
abbrev pub mode_words : ℕ → ℕ → List (List ℕ)
mode_words default mode = if mode == default then [] else mode_word mode ∷ []

abbrev pub access_word : Access → List ℕ
access_word Reading = codes "r"
access_word Writing = codes "w"
access_word Both = codes "rw"

-- a letter, where a flag is set
abbrev pub letter : ℕ → Bool → List ℕ
letter l true = l ∷ []
letter l false = []

-- what the file is opened for, then 'c', 'x', 't' and 'a', each where its flag is set
abbrev pub flags_word : Flags → List ℕ
flags_word f = access_word f.access ++ (letter 99 f.creates ++ (letter 120 f.exclusive ++ (letter 116 f.truncates ++ letter 97 f.appends)))

abbrev pub whence_word : Whence → List ℕ
whence_word Set = codes "set"
whence_word Cur = codes "cur"
whence_word End = codes "end"

-- the last words of a line, a time: its seconds and its nanoseconds, or 'now', or 'omit'
abbrev pub new_time_words : NewTime → List (List ℕ)
new_time_words Omit = codes "omit" ∷ []
new_time_words Now = codes "now" ∷ []
new_time_words (At seconds nanoseconds) = signed_decimal seconds ∷ decimal nanoseconds ∷ []

-- the word of a value where one is given, and '-' where none is
abbrev pub given_word : {X : Type 0} → (X → List ℕ) → Option X → List ℕ
given_word word None = codes "-"
given_word word (Some x) = word x
