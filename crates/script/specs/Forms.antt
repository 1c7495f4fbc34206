-- The forms of the words behind a command's name: which kinds of fields stand there, and how their
-- values are spelled.
use Rattle.std.specs.Prelude.{ℕ, ℤ, ◌^◌, ◌<◌, ◌≤◌, List, [], ◌∷◌, Option, IfSome}
use Rattle.std.specs.Fmt.{decimal, signed_decimal}
use Rattle.std.specs.Int.RustNames.{FitsSigned}
use Rattle.model.specs.declared.limits.TheConstants.{MODE_BITS}
use Rattle.model.specs.declared.command.Flags.{Flags}
use Rattle.model.specs.declared.command.NewTime.{NewTime}
use Rattle.model.specs.declared.command.NewTime.TheVariants.{At}
use Rattle.model.specs.declared.command.Whence.{Whence}
use Rattle.script.specs.Words.{data_word, flags_word, given_word, mode_word, mode_words, text_word, new_time_words, whence_word, AreByteValues}
use mir.Syntax.{w64}

-- what a word can be
pub data Kind : Type 0 where
  text : Kind
  bytes : Kind
  count : Kind
  offset : Kind
  mode : Kind
  flags : Kind
  whence : Kind
  given_mode : Kind  -- or none is given
  given_offset : Kind
  given_count : Kind

-- what such a word stands for
abbrev pub Value : Kind → Type 0
Value text = List ℕ
Value bytes = List ℕ
Value count = ℕ
Value offset = ℤ
Value mode = ℕ
Value flags = Flags
Value whence = Whence
Value given_mode = Option ℕ
Value given_offset = Option ℤ
Value given_count = Option ℕ

-- the values that a field can have
abbrev pub IsValue : (k : Kind) → Value k → Type 0
IsValue text t = AreByteValues t
IsValue bytes t = AreByteValues t
IsValue count n = n < 2 ^ 32
IsValue offset z = FitsSigned w64 z
IsValue mode m = m ≤ MODE_BITS
IsValue flags f = Unit {0}
IsValue whence w = Unit {0}
IsValue given_mode o = IfSome o (λ m. m ≤ MODE_BITS)
IsValue given_offset o = IfSome o (FitsSigned w64)
IsValue given_count o = IfSome o (λ n. n < 2 ^ 32)

-- the one word of a value
abbrev pub word_of : (k : Kind) → Value k → List ℕ
word_of text t = text_word t
word_of bytes t = data_word t
word_of count n = decimal n
word_of offset z = signed_decimal z
word_of mode m = mode_word m
word_of flags f = flags_word f
word_of whence w = whence_word w
word_of given_mode o = given_word mode_word o
word_of given_offset o = given_word signed_decimal o
word_of given_count o = given_word decimal o

-- the times that a line can say
abbrev pub IsTimeValue : NewTime → Type 0
IsTimeValue (At seconds nanoseconds) = FitsSigned w64 seconds × (nanoseconds < 2 ^ 32)
IsTimeValue other = Unit {0}

-- nothing, or a word of a kind and further words, or a last mode that may be left out where it is
-- the default, or a last time; `none` is no form
pub data Form : Type 0 where
  end : Form
  field : (k : Kind) → (more : Form) → Form
  last_mode : (default : ℕ) → Form
  last_time : Form
  none : Form

-- the values of a form's fields
abbrev pub Values : Form → Type 0
Values end = Unit {0}
Values (field k more) = Value k × Values more
Values (last_mode default) = ℕ
Values last_time = NewTime
Values none = ⊥

abbrev pub AreValues : (f : Form) → Values f → Type 0
AreValues end v = Unit {0}
AreValues (field k more) (v, vs) = IsValue k v × AreValues more vs
AreValues (last_mode default) m = m ≤ MODE_BITS
AreValues last_time t = IsTimeValue t
AreValues none v = ⊥

-- the words of these values
abbrev pub form_words : (f : Form) → Values f → List (List ℕ)
form_words end v = []
form_words (field k more) (v, vs) = word_of k v ∷ form_words more vs
form_words (last_mode default) m = mode_words default m
form_words last_time t = new_time_words t
form_words none v = []
