-- Formats that the layout hasn't, and grammars: how all of some bytes are read, and what they say.
-- Where some of the bytes may be any, as those that pad a field, several spellings say the same.
use Rattle.std.specs.Prelude.{ℕ, ◌≡◌, List, [], ◌++◌, length, Bool, true, false, Option, Some}
use Rattle.layout.specs.Format.{Format}
use Rattle.layout.specs.Reading.{◌>>=◌, part_at, all_of}

-- a value, and behind it so many bytes as it says
abbrev pub counting_at : {A : Type 0} → (List ℕ → Option (A × List ℕ)) → (A → ℕ)
    → List ℕ → Option ((A × List ℕ) × List ℕ)
counting_at p count bytes = p bytes >>= λ x. part_at (count x.0) x.1 >>= λ y. Some ((x.0, y.0), y.1)

-- no bytes
abbrev pub nothing : Format (Unit {0})
nothing = record { at = λ bytes. Some (tt, bytes); text = λ v. []; Fits = λ v. Unit {0} }

-- a value, and behind it so many bytes as it says
abbrev pub counting : {A : Type 0} → Format A → (A → ℕ) → Format (A × List ℕ)
counting f count = record { at = counting_at f.at count; text = λ v. f.text v.0 ++ v.1; Fits = λ v. f.Fits v.0 × (length v.1 ≡ count v.0) }

pub record Grammar (A : Type 0) : Type 1 where
  pub read : List ℕ → Option A
  pub Says : List ℕ → A → Type 0

-- the bytes spell fields that mean this
pub record AreFields {F A : Type 0} (f : Format F) (meaning : F → A) (bytes : List ℕ) (said : A) : Type 0 where
  pub fields : F
  pub fit : f.Fits fields
  pub bytes_are : bytes ≡ f.text fields
  pub said_is : said ≡ meaning fields

-- the bytes begin with the spelling of fields that mean this, and those behind may be any
pub record BeginWithFields {F A : Type 0} (f : Format F) (meaning : F → A) (bytes : List ℕ) (said : A) : Type 0 where
  pub fields : F
  pub rest : List ℕ
  pub fit : f.Fits fields
  pub bytes_are : bytes ≡ f.text fields ++ rest
  pub said_is : said ≡ meaning fields

-- fields, and nothing behind them
abbrev pub saying : {F A : Type 0} → Format F → (F → A) → Grammar A
saying f meaning = record { read = λ bytes. all_of f.at bytes >>= λ v. Some (meaning v); Says = AreFields f meaning }

-- fields, and any bytes behind them
abbrev pub saying_first : {F A : Type 0} → Format F → (F → A) → Grammar A
saying_first f meaning = record { read = λ bytes. f.at bytes >>= λ x. Some (meaning x.0); Says = BeginWithFields f meaning }

-- one grammar or the other
abbrev pub choose : {A : Type 0} → Bool → Grammar A → Grammar A → Grammar A
choose true g h = g
choose false g h = h
