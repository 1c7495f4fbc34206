-- How a word and a form are read: as the values that they spell, and refused where they spell none.
use Rattle.std.specs.Prelude.{◌≡◌, ◌≢◌, ◌++◌, ℕ, List, Result, Err, IfOk}
use Rattle.script.specs.declared.error.ScriptError.{ScriptError}
use Rattle.script.specs.declared.error.ScriptError.TheVariants.{NotACommand}
use Rattle.script.specs.Forms.{form_words, word_of, AreValues, Form, IsValue, Kind, Value, Values}

pub record ReadsWord {X : Type 0} (k : Kind) (value : X → Value k) (word : List ℕ) (r : Result X ScriptError) : Type 0 where
  pub spelled : IfOk r (λ x. word ≡ word_of k (value x))
  pub good : IfOk r (λ x. IsValue k (value x))
  pub refused : r ≡ Err NotACommand → (v : Value k) → IsValue k v → word ≢ word_of k v

pub record ReadsForm {X : Type 0} (f : Form) (values : X → Values f) (words : List (List ℕ)) (r : Result X ScriptError) : Type 0 where
  pub spelled : IfOk r (λ x. words ≡ form_words f (values x))
  pub good : IfOk r (λ x. AreValues f (values x))
  pub refused : r ≡ Err NotACommand → (v : Values f) → AreValues f v → words ≢ form_words f v

-- words behind a head are read as what they spell with it, and refused where no fields of this form
-- stand there
pub record ReadsFields {X : Type 0} (f : Form) (words_of : X → List (List ℕ)) (IsGood : X → Type 0) (head : List (List ℕ)) (words : List (List ℕ)) (r : Result X ScriptError) : Type 0 where
  pub spelled : IfOk r (λ x. head ++ words ≡ words_of x)
  pub good : IfOk r IsGood
  pub refused : r ≡ Err NotACommand → (v : Values f) → AreValues f v → words ≢ form_words f v

-- words are read as what they spell, and refused where they spell nothing
pub record ReadsWords {X : Type 0} (words_of : X → List (List ℕ)) (IsGood : X → Type 0) (words : List (List ℕ)) (r : Result X ScriptError) : Type 0 where
  pub spelled : IfOk r (λ x. words ≡ words_of x)
  pub good : IfOk r IsGood
  pub refused : r ≡ Err NotACommand → (x : X) → IsGood x → words ≢ words_of x
