-- A command has one spelling.
use Rattle.std.proofs.Common.{◌≡◌, ℕ, ℤ, pos, negsuc, zero, suc, ◌<◌, ◌^◌, get_or, length, Some, None, ◌+◌, ◌/◌, ◌%◌, ◌==◌, ◌||◌, Bool, true, false, cond, eqb, List, [], ◌∷◌, ◌++◌, Result, Ok, Err, ◌⊎◌, inl, inr, codes, arith, refl, sym, ◌∙◌, ap, subst}
use Rattle.std.specs.List.{list_any}
use Rattle.std.proofs.lemmas.Fmt.{decimal_digit, decimal_injective, decimal_nonempty, first_decimal, signed_decimal_injective}
use Rattle.std.specs.Fmt.{decimal, signed_decimal}
use lib.Signed.{mag}
use Rattle.hex.specs.Hex.{decode_of, encode_lower}
use Rattle.hex.specs.declared.error.FromHexError.TheVariants.{OddLength}
use Rattle.hex.proofs.HexLemmas.{decode_of-same}
use Rattle.model.specs.declared.limits.TheConstants.{SESSION_FILES}
use Rattle.model.specs.declared.command.Access.{Access}
use Rattle.model.specs.declared.command.Access.TheVariants.{Reading, Writing, Both}
use Rattle.model.specs.declared.command.Command.{Command}
use Rattle.model.specs.declared.command.Command.TheVariants as command
use Rattle.model.specs.declared.command.Flags.{Flags}
use Rattle.model.specs.declared.command.NewTime.{NewTime}
use Rattle.model.specs.declared.command.NewTime.TheVariants.{Omit, Now, At}
use Rattle.model.specs.declared.command.PathCall.{PathCall}
use Rattle.model.specs.declared.command.PathCall.TheVariants as call
use Rattle.model.specs.declared.command.Whence.{Whence}
use Rattle.model.specs.declared.command.Whence.TheVariants.{Set, Cur, End}
use Rattle.script.specs.Forms.{bytes, count, end, field, flags, form_words, given_count, given_mode, given_offset, last_mode, last_time, mode, none, offset, text, whence, word_of, AreValues, Form, IsTimeValue, IsValue, Kind, Value, Values}
use Rattle.script.specs.Lines.{call_fields, call_words, command_words, spelling_of, spelling_words, named, plain, snap, within, IsPathCallInForm, IsCommandInForm, IsSpelling, Spelling}
use Rattle.script.specs.Readings.{ReadsWords}
use Rattle.script.specs.Verbs.{call_form, command_form, is_call, snap_form, verb_name}
use Rattle.script.specs.Words.{access_word, data_word, flags_word, letter, mode_word, mode_words, text_word, new_time_words, whence_word, AreByteValues}
use Rattle.script.specs.declared.error.ScriptError.{ScriptError}
use Rattle.script.specs.declared.error.ScriptError.TheVariants.{NoMemory, NotACommand}
use Rattle.script.specs.declared.verb.Verb.{Verb}
use Rattle.script.specs.declared.verb.Verb.TheVariants as verb
use Rattle.script.proofs.CommandLemmas.{call_is_call, in_form, no_command, same_verb, same_word, same_words}
use Rattle.script.proofs.DataLemmas.{decoded}
use Rattle.script.proofs.NumberLemmas.{small, small_mag}
use Rattle.script.proofs.WordLemmas.{text_word-unique}

-- a mode has one word
mode_word-unique : (m n : ℕ) → mode_word m ≡ mode_word n → m ≡ n
mode_word-unique m n e =
    let a : 48 + m / 512 ≡ 48 + n / 512 = grind (arith, e) in
    let b : 48 + m / 64 % 8 ≡ 48 + n / 64 % 8 = grind (arith, e) in
    let c : 48 + m / 8 % 8 ≡ 48 + n / 8 % 8 = grind (arith, e) in
    let d : 48 + m % 8 ≡ 48 + n % 8 = grind (arith, e) in
    omega (arith, a, b, c, d)

mode_words-unique : (default m n : ℕ) → mode_words default m ≡ mode_words default n → m ≡ n
mode_words-unique default m n e = by_default (m == default) (n == default) m n refl refl e
  where
    by_default : (p q : Bool) (m n : ℕ) → (m == default) ≡ p → (n == default) ≡ q → cond p [] (mode_word m ∷ []) ≡ cond q [] (mode_word n ∷ []) → m ≡ n
    by_default true true m n mp nq e = grind (arith, mp, nq)
    by_default true false m n mp nq e = absurd (grind (arith, e))
    by_default false true m n mp nq e = absurd (grind (arith, e))
    by_default false false m n mp nq e = mode_word-unique m n (grind (arith, e))

-- data have one word
not_none : (b : ℕ) (bs : List ℕ) → AreByteValues (b ∷ bs) → codes "-" ≡ encode_lower (b ∷ bs) → ⊥
not_none b bs good e = let is : decode_of (codes "-") ≡ Ok (b ∷ bs) = decoded (codes "-") (b ∷ bs) good e in let odd : decode_of (codes "-") ≡ Err OddLength = refl in let both : Err OddLength ≡ Ok (b ∷ bs) = sym odd ∙ is in absurd (cc)

data_word-unique : (t u : List ℕ) → AreByteValues t → AreByteValues u → data_word t ≡ data_word u → t ≡ u
data_word-unique [] [] gt gu e = refl
data_word-unique [] (c ∷ u) gt gu e = absurd (not_none c u gu e)
data_word-unique (b ∷ t) [] gt gu e = absurd (not_none b t gt (sym e))
data_word-unique (b ∷ t) (c ∷ u) gt gu e = decode_of-same (encode_lower (b ∷ t)) (b ∷ t) (c ∷ u) (decoded (encode_lower (b ∷ t)) (b ∷ t) gt refl) (decoded (encode_lower (b ∷ t)) (c ∷ u) gu e)

-- flags have one word: the letters that stand in it tell them
has : ℕ → List ℕ → Bool
has l word = list_any (λ y. eqb y l) word

miss : (l m : ℕ) (b : Bool) (rest : List ℕ) → eqb m l ≡ false → has l (letter m b ++ rest) ≡ has l rest
unfolding has
miss l m true rest e = ap (λ p. p || has l rest) e
miss l m false rest e = refl

last : (l m : ℕ) (b : Bool) → eqb m l ≡ false → has l (letter m b) ≡ false
unfolding has
last l m true e = ap (λ p. p || false) e
last l m false e = refl

hit : (l : ℕ) (b : Bool) (rest : List ℕ) → eqb l l ≡ true → has l rest ≡ false → has l (letter l b ++ rest) ≡ b
unfolding has
hit l true rest e absent = ap (λ p. p || has l rest) e
hit l false rest e absent = absent

end_hit : (l : ℕ) (b : Bool) → eqb l l ≡ true → has l (letter l b) ≡ b
unfolding has
end_hit l true e = ap (λ p. p || false) e
end_hit l false e = refl

miss_access : (l : ℕ) (a : Access) (rest : List ℕ) → eqb 114 l ≡ false → eqb 119 l ≡ false → has l (access_word a ++ rest) ≡ has l rest
unfolding has
miss_access l Reading rest r w = ap (λ p. p || has l rest) r
miss_access l Writing rest r w = ap (λ p. p || has l rest) w
miss_access l Both rest r w = ap (λ p. p || (eqb 119 l || has l rest)) r ∙ ap (λ p. p || has l rest) w

-- what stands behind the letters of a flag
abbrev from_truncates : Flags → List ℕ
from_truncates f = letter 116 f.truncates ++ letter 97 f.appends

abbrev from_exclusive : Flags → List ℕ
from_exclusive f = letter 120 f.exclusive ++ from_truncates f

abbrev from_creates : Flags → List ℕ
from_creates f = letter 99 f.creates ++ from_exclusive f

creates_of : (f : Flags) → has 99 (flags_word f) ≡ f.creates
creates_of f = miss_access 99 f.access (from_creates f) refl refl ∙ hit 99 f.creates (from_exclusive f) refl (miss 99 120 f.exclusive (from_truncates f) refl ∙ miss 99 116 f.truncates (letter 97 f.appends) refl ∙ last 99 97 f.appends refl)

exclusive_of : (f : Flags) → has 120 (flags_word f) ≡ f.exclusive
exclusive_of f = miss_access 120 f.access (from_creates f) refl refl ∙ miss 120 99 f.creates (from_exclusive f) refl ∙ hit 120 f.exclusive (from_truncates f) refl (miss 120 116 f.truncates (letter 97 f.appends) refl ∙ last 120 97 f.appends refl)

truncates_of : (f : Flags) → has 116 (flags_word f) ≡ f.truncates
truncates_of f = miss_access 116 f.access (from_creates f) refl refl ∙ miss 116 99 f.creates (from_exclusive f) refl ∙ miss 116 120 f.exclusive (from_truncates f) refl ∙ hit 116 f.truncates (letter 97 f.appends) refl (last 116 97 f.appends refl)

appends_of : (f : Flags) → has 97 (flags_word f) ≡ f.appends
appends_of f = miss_access 97 f.access (from_creates f) refl refl ∙ miss 97 99 f.creates (from_exclusive f) refl ∙ miss 97 120 f.exclusive (from_truncates f) refl ∙ miss 97 116 f.truncates (letter 97 f.appends) refl ∙ end_hit 97 f.appends refl

is_read : Access → Bool
is_read Reading = true
is_read Writing = false
is_read Both = true

writes : Access → Bool
writes Reading = false
writes Writing = true
writes Both = true

hits_reading : (a : Access) (rest : List ℕ) → has 114 rest ≡ false → has 114 (access_word a ++ rest) ≡ is_read a
unfolding has is_read
hits_reading Reading rest absent = refl
hits_reading Writing rest absent = absent
hits_reading Both rest absent = refl

hits_writing : (a : Access) (rest : List ℕ) → has 119 rest ≡ false → has 119 (access_word a ++ rest) ≡ writes a
unfolding has writes
hits_writing Reading rest absent = absent
hits_writing Writing rest absent = refl
hits_writing Both rest absent = refl

reads_of : (f : Flags) → has 114 (flags_word f) ≡ is_read f.access
reads_of f = hits_reading f.access (from_creates f) (miss 114 99 f.creates (from_exclusive f) refl ∙ miss 114 120 f.exclusive (from_truncates f) refl ∙ miss 114 116 f.truncates (letter 97 f.appends) refl ∙ last 114 97 f.appends refl)

writes_of : (f : Flags) → has 119 (flags_word f) ≡ writes f.access
writes_of f = hits_writing f.access (from_creates f) (miss 119 99 f.creates (from_exclusive f) refl ∙ miss 119 120 f.exclusive (from_truncates f) refl ∙ miss 119 116 f.truncates (letter 97 f.appends) refl ∙ last 119 97 f.appends refl)

same_access : (a b : Access) → is_read a ≡ is_read b → writes a ≡ writes b → a ≡ b
unfolding is_read writes
same_access Reading Reading r w = refl
same_access Reading Writing r w = absurd (cc)
same_access Reading Both r w = absurd (cc)
same_access Writing Reading r w = absurd (cc)
same_access Writing Writing r w = refl
same_access Writing Both r w = absurd (cc)
same_access Both Reading r w = absurd (cc)
same_access Both Writing r w = absurd (cc)
same_access Both Both r w = refl

abbrev flags_of : Access → Bool → Bool → Bool → Bool → Flags
flags_of a c x t p = record { access = a; creates = c; exclusive = x; truncates = t; appends = p }

same_flags : (a b : Access) (c d e f g h i j : Bool) → a ≡ b → c ≡ d → e ≡ f → g ≡ h → i ≡ j → flags_of a c e g i ≡ flags_of b d f h j
same_flags a b c d e f g h i j p q r s t =
    ap (λ z. flags_of z c e g i) p ∙ ap (λ z. flags_of b z e g i) q ∙ ap (λ z. flags_of b d z g i) r ∙ ap (λ z. flags_of b d f z i) s ∙ ap (λ z. flags_of b d f h z) t

flags_word-unique : (f g : Flags) → flags_word f ≡ flags_word g → f ≡ g
flags_word-unique f g e = same_flags f.access g.access f.creates g.creates f.exclusive g.exclusive f.truncates g.truncates f.appends g.appends
    (same_access f.access g.access (sym (reads_of f) ∙ ap (has 114) e ∙ reads_of g) (sym (writes_of f) ∙ ap (has 119) e ∙ writes_of g))
    (sym (creates_of f) ∙ ap (has 99) e ∙ creates_of g) (sym (exclusive_of f) ∙ ap (has 120) e ∙ exclusive_of g) (sym (truncates_of f) ∙ ap (has 116) e ∙ truncates_of g) (sym (appends_of f) ∙ ap (has 97) e ∙ appends_of g)

whence_word-unique : (v w : Whence) → whence_word v ≡ whence_word w → v ≡ w
whence_word-unique Set Set e = refl
whence_word-unique Set Cur e = absurd (grind (arith, e))
whence_word-unique Set End e = absurd (grind (arith, e))
whence_word-unique Cur Set e = absurd (grind (arith, e))
whence_word-unique Cur Cur e = refl
whence_word-unique Cur End e = absurd (grind (arith, e))
whence_word-unique End Set e = absurd (grind (arith, e))
whence_word-unique End Cur e = absurd (grind (arith, e))
whence_word-unique End End e = refl

-- '-' alone is no number
no_number : (z : ℤ) → mag z < 2 ^ 63 → codes "-" ≡ signed_decimal z → ⊥
no_number (pos zero) few e = let one : decimal 0 ≡ 48 ∷ [] = decimal_digit 0 (omega arith) in let first = ap (λ (l : List ℕ). get_or l 0 0) (e ∙ one) in omega (arith, first)
no_number (pos (suc n)) few e = let first = first_decimal (suc n) (omega arith) (omega (arith, few)) in omega (arith, first, ap (λ (l : List ℕ). get_or l 0 0) e)
no_number (negsuc n) few e = let some = decimal_nonempty (suc n) (omega (arith, few)) in let long = ap (length {A = ℕ}) e in omega (arith, some, long)

no_count : (n : ℕ) → n < 2 ^ 32 → codes "-" ≡ decimal n → ⊥
no_count n few e = no_number (pos n) (omega (arith, few)) e

word_of-unique : (k : Kind) (v w : Value k) → IsValue k v → IsValue k w → word_of k v ≡ word_of k w → v ≡ w
word_of-unique text v w gv gw e = text_word-unique v w gv gw e
word_of-unique bytes v w gv gw e = data_word-unique v w gv gw e
word_of-unique count v w gv gw e = decimal_injective v w (small v gv) (small w gw) e
word_of-unique offset v w gv gw e = signed_decimal_injective v w (small_mag v gv) (small_mag w gw) e
word_of-unique mode v w gv gw e = mode_word-unique v w e
word_of-unique flags v w gv gw e = flags_word-unique v w e
word_of-unique whence v w gv gw e = whence_word-unique v w e
word_of-unique given_mode None None gv gw e = refl
word_of-unique given_mode None (Some m) gv gw e = absurd (cc)
word_of-unique given_mode (Some m) None gv gw e = absurd (cc)
word_of-unique given_mode (Some m) (Some n) gv gw e = ap (λ k. Some k) (mode_word-unique m n e)
word_of-unique given_offset None None gv gw e = refl
word_of-unique given_offset None (Some z) gv gw e = absurd (no_number z (small_mag z gw) e)
word_of-unique given_offset (Some y) None gv gw e = absurd (no_number y (small_mag y gv) (sym e))
word_of-unique given_offset (Some y) (Some z) gv gw e = ap (λ k. Some k) (signed_decimal_injective y z (small_mag y gv) (small_mag z gw) e)
word_of-unique given_count None None gv gw e = refl
word_of-unique given_count None (Some n) gv gw e = absurd (no_count n gw e)
word_of-unique given_count (Some m) None gv gw e = absurd (no_count m gv (sym e))
word_of-unique given_count (Some m) (Some n) gv gw e = ap (λ k. Some k) (decimal_injective m n (small m gv) (small n gw) e)

-- a time has one spelling
new_time_words-unique : (t u : NewTime) → IsTimeValue t → IsTimeValue u → new_time_words t ≡ new_time_words u → t ≡ u
new_time_words-unique Omit Omit gt gu e = refl
new_time_words-unique Omit Now gt gu e = absurd (cc)
new_time_words-unique Omit (At z n) gt gu e = absurd (cc)
new_time_words-unique Now Omit gt gu e = absurd (cc)
new_time_words-unique Now Now gt gu e = refl
new_time_words-unique Now (At z n) gt gu e = absurd (cc)
new_time_words-unique (At y m) Omit gt gu e = absurd (cc)
new_time_words-unique (At y m) Now gt gu e = absurd (cc)
new_time_words-unique (At y m) (At z n) gt gu e =
    let seconds = signed_decimal_injective y z (small_mag y gt.0) (small_mag z gu.0) (same_word (signed_decimal y) (signed_decimal z) (decimal m ∷ []) (decimal n ∷ []) e) in
    let behind = same_words (signed_decimal y) (signed_decimal z) (decimal m ∷ []) (decimal n ∷ []) e in
    let nanoseconds = decimal_injective m n (small m gt.1) (small n gu.1) (same_word (decimal m) (decimal n) [] [] behind) in
    ap (λ (s : ℤ). At s m) seconds ∙ ap (λ (k : ℕ). At z k) nanoseconds

abbrev joined : (k : Kind) (more : Form) → Value k → Values more → Values (field k more)
joined k more v vs = (v, vs)

same_pair : (k : Kind) (more : Form) (v w : Value k) (vs ws : Values more) → v ≡ w → vs ≡ ws → joined k more v vs ≡ joined k more w ws
same_pair k more v w vs ws p q = ap (λ z. joined k more z vs) p ∙ ap (λ z. joined k more w z) q

form_words-unique : (f : Form) (v w : Values f) → AreValues f v → AreValues f w → form_words f v ≡ form_words f w → v ≡ w
form_words-unique end v w gv gw e = refl
form_words-unique (field k more) (v, vs) (w, ws) gv gw e = same_pair k more v w vs ws
    (word_of-unique k v w gv.0 gw.0 (same_word (word_of k v) (word_of k w) (form_words more vs) (form_words more ws) e))
    (form_words-unique more vs ws gv.1 gw.1 (same_words (word_of k v) (word_of k w) (form_words more vs) (form_words more ws) e))
form_words-unique (last_mode default) v w gv gw e = mode_words-unique default v w e
form_words-unique last_time v w gv gw e = new_time_words-unique v w gv gw e
form_words-unique none v w gv gw e = absurd v

-- what a verb and its fields make is one thing
same_made : {X : Type 0} (form : Verb → Form) (make : (v : Verb) → Values (form v) → X) (v w : Verb) (vs : Values (form v)) (ws : Values (form w)) → AreValues (form v) vs → AreValues (form w) ws
    → verb_name v ∷ form_words (form v) vs ≡ verb_name w ∷ form_words (form w) ws → make v vs ≡ make w ws
same_made {X} form make v w vs ws gv gw e =
    let P : Verb → Type 0 = λ u. (us : Values (form u)) → AreValues (form u) us → form_words (form v) vs ≡ form_words (form u) us → make v vs ≡ make u us in
    let here : P v = λ us gu same. ap (make v) (form_words-unique (form v) vs us gv gu same) in
    subst P (same_verb v w (form_words (form v) vs) (form_words (form w) ws) e) here ws gw (same_words (verb_name v) (verb_name w) (form_words (form v) vs) (form_words (form w) ws) e)

call_of : (v : Verb) → Values (call_form v) → PathCall
call_of verb.List (p, _) = call.List p
call_of verb.Entries (p, (o, (n, _))) = call.Entries p o n
call_of verb.Stat (p, _) = call.Stat p
call_of verb.Lstat (p, _) = call.Lstat p
call_of verb.Attr (p, _) = call.Attr p true
call_of verb.Lattr (p, _) = call.Attr p false
call_of verb.Readlink (p, _) = call.Readlink p
call_of verb.Get (p, (o, (n, _))) = call.Get p o n
call_of verb.Mkdir (p, m) = call.Mkdir p m
call_of verb.Rmdir (p, _) = call.Rmdir p
call_of verb.Unlink (p, _) = call.Unlink p
call_of verb.Link (p, (q, _)) = call.Link p q
call_of verb.Symlink (t, (p, _)) = call.Symlink t p
call_of verb.Rename (p, (q, _)) = call.Rename p q
call_of verb.RenameNew (p, (q, _)) = call.RenameNew p q
call_of verb.Chmod (p, (m, _)) = call.Chmod p m
call_of verb.Chown (p, (o, (g, _))) = call.Chown p true o g
call_of verb.Lchown (p, (o, (g, _))) = call.Chown p false o g
call_of verb.Utimens (p, z) = call.Utimens p true z
call_of verb.Lutimens (p, z) = call.Utimens p false z
call_of verb.Truncate (p, (n, _)) = call.Truncate p n
call_of verb.Store (p, (o, (d, _))) = call.Store p o d
call_of verb.Set (p, (m, (z, _))) = call.Set p (record { mode = m; size = z })
call_of v vs = absurd vs

call_of_fields : (c : PathCall) → call_of (call_fields c).0 (call_fields c).1 ≡ c
unfolding call_of
call_of_fields (call.List p) = refl
call_of_fields (call.Entries p o n) = refl
call_of_fields (call.Stat p) = refl
call_of_fields (call.Lstat p) = refl
call_of_fields (call.Attr p true) = refl
call_of_fields (call.Attr p false) = refl
call_of_fields (call.Readlink p) = refl
call_of_fields (call.Get p o n) = refl
call_of_fields (call.Mkdir p m) = refl
call_of_fields (call.Rmdir p) = refl
call_of_fields (call.Unlink p) = refl
call_of_fields (call.Link p q) = refl
call_of_fields (call.Symlink t p) = refl
call_of_fields (call.Rename p q) = refl
call_of_fields (call.RenameNew p q) = refl
call_of_fields (call.Chmod p m) = refl
call_of_fields (call.Chown p true o g) = refl
call_of_fields (call.Chown p false o g) = refl
call_of_fields (call.Utimens p true z) = refl
call_of_fields (call.Utimens p false z) = refl
call_of_fields (call.Truncate p n) = refl
call_of_fields (call.Store p o d) = refl
call_of_fields (call.Set p s) = refl

call_words-unique : (c d : PathCall) → IsPathCallInForm c → IsPathCallInForm d → call_words c ≡ call_words d → c ≡ d
call_words-unique c d gc gd e = sym (call_of_fields c) ∙ same_made call_form call_of (call_fields c).0 (call_fields d).0 (call_fields c).1 (call_fields d).1 gc gd e ∙ call_of_fields d

-- no two ways of spelling give the same words
clash : (v w : Verb) (xs ys : List (List ℕ)) → is_call v ≡ false → is_call w ≡ true → verb_name v ∷ xs ≡ verb_name w ∷ ys → ⊥
clash v w xs ys off on e = let no : false ≡ true = sym off ∙ ap is_call (same_verb v w xs ys e) ∙ on in absurd (cc)

plain_is_other : (v : Verb) → Values (command_form v) → (is_call v ≡ true → ⊥) × (v ≡ verb.Snap → ⊥) × (v ≡ verb.In → ⊥)
plain_is_other v vs = (λ is. no_command v is vs, λ is. subst (λ u. Values (command_form u)) is vs, λ is. subst (λ u. Values (command_form u)) is vs)

plain_only : (v : Verb) (vs : Values (command_form v)) (s : Spelling) → AreValues (command_form v) vs → IsSpelling s → spelling_words (plain v vs) ≡ spelling_words s → plain v vs ≡ s
plain_only v vs (plain w ws) gv gs e = same_made command_form (λ u fs. plain u fs) v w vs ws gv gs e
plain_only v vs (named c) gv gs e = absurd ((plain_is_other v vs).0 (ap is_call (same_verb v (call_fields c).0 _ _ e) ∙ call_is_call c))
plain_only v vs (within name c) gv gs e = absurd ((plain_is_other v vs).2 (same_verb v verb.In _ _ e))
plain_only v vs (snap w ws) gv gs e = absurd ((plain_is_other v vs).1 (same_verb v verb.Snap _ _ e))

named_only : (c : PathCall) (s : Spelling) → IsPathCallInForm c → IsSpelling s → call_words c ≡ spelling_words s → named c ≡ s
named_only c (plain w ws) gc gs e = absurd ((plain_is_other w ws).0 (sym (ap is_call (same_verb (call_fields c).0 w _ _ e)) ∙ call_is_call c))
named_only c (named d) gc gs e = ap named (call_words-unique c d gc gs e)
named_only c (within name d) gc gs e = absurd (clash verb.In (call_fields c).0 _ _ refl (call_is_call c) (sym e))
named_only c (snap w ws) gc gs e = absurd (clash verb.Snap (call_fields c).0 _ _ refl (call_is_call c) (sym e))

in_is_not_snap : (xs ys : List (List ℕ)) → verb_name verb.In ∷ xs ≡ verb_name verb.Snap ∷ ys → ⊥
in_is_not_snap xs ys e = absurd (cc (same_word (verb_name verb.In) (verb_name verb.Snap) xs ys e))

within_only : (name : List ℕ) (c : PathCall) (s : Spelling) → AreByteValues name → IsPathCallInForm c → IsSpelling s → verb_name verb.In ∷ text_word name ∷ call_words c ≡ spelling_words s → within name c ≡ s
within_only name c (plain w ws) gn gc gs e = absurd ((plain_is_other w ws).2 (sym (same_verb verb.In w _ _ e)))
within_only name c (named d) gn gc gs e = absurd (clash verb.In (call_fields d).0 _ _ refl (call_is_call d) e)
within_only name c (within other d) gn gc gs e =
    let more = same_words (verb_name verb.In) (verb_name verb.In) (text_word name ∷ call_words c) (text_word other ∷ call_words d) e in
    ap (λ n. within n c) (text_word-unique name other gn gs.0 (same_word (text_word name) (text_word other) (call_words c) (call_words d) more)) ∙ ap (within other) (call_words-unique c d gc gs.1 (same_words (text_word name) (text_word other) (call_words c) (call_words d) more))
within_only name c (snap w ws) gn gc gs e = absurd (in_is_not_snap _ _ e)

snap_only : (v : Verb) (vs : Values (snap_form v)) (s : Spelling) → AreValues (snap_form v) vs → IsSpelling s → spelling_words (snap v vs) ≡ spelling_words s → snap v vs ≡ s
snap_only v vs (plain w ws) gv gs e = absurd ((plain_is_other w ws).1 (sym (same_verb verb.Snap w _ _ e)))
snap_only v vs (named d) gv gs e = absurd (clash verb.Snap (call_fields d).0 _ _ refl (call_is_call d) e)
snap_only v vs (within name d) gv gs e = absurd (in_is_not_snap _ _ (sym e))
snap_only v vs (snap w ws) gv gs e = same_made snap_form (λ u fs. snap u fs) v w vs ws gv gs (same_words (verb_name verb.Snap) (verb_name verb.Snap) (verb_name v ∷ form_words (snap_form v) vs) (verb_name w ∷ form_words (snap_form w) ws) e)

spelling_words-unique : (s t : Spelling) → IsSpelling s → IsSpelling t → spelling_words s ≡ spelling_words t → s ≡ t
spelling_words-unique (plain v vs) t gs gt e = plain_only v vs t gs gt e
spelling_words-unique (named c) t gs gt e = named_only c t gs gt e
spelling_words-unique (within name c) t gs gt e = within_only name c t gs.0 gs.1 gt e
spelling_words-unique (snap v vs) t gs gt e = snap_only v vs t gs gt e

-- the command of a spelling
plain_command : (v : Verb) → Values (command_form v) → Command
plain_command verb.Open (p, (f, m)) = command.Open p f m SESSION_FILES
plain_command verb.OpenStat (p, (f, m)) = command.OpenStat p f m SESSION_FILES
plain_command verb.Close (fd, _) = command.Close fd
plain_command verb.Read (fd, (n, _)) = command.Read fd n
plain_command verb.Write (fd, (d, _)) = command.Write fd d
plain_command verb.Pread (fd, (o, (n, _))) = command.Pread fd o n
plain_command verb.Pwrite (fd, (o, (d, _))) = command.Pwrite fd o d
plain_command verb.Lseek (fd, (w, (o, _))) = command.Lseek fd w o
plain_command verb.Ftruncate (fd, (n, _)) = command.Ftruncate fd n
plain_command verb.Fchmod (fd, (m, _)) = command.Fchmod fd m
plain_command verb.Fchown (fd, (o, (g, _))) = command.Fchown fd o g
plain_command verb.Futimens (fd, z) = command.Futimens fd z
plain_command verb.Fstat (fd, _) = command.Fstat fd
plain_command verb.Fattr (fd, _) = command.Fattr fd
plain_command verb.Fsync (fd, _) = command.Fsync fd
plain_command verb.Extent (p, (o, _)) = command.Extent p o
plain_command verb.At (z, (n, _)) = command.At z n
plain_command verb.As (o, (g, _)) = command.As o g
plain_command verb.Sync _ = command.Sync
plain_command verb.Df _ = command.Df
plain_command verb.Statfs _ = command.Statfs
plain_command v vs = absurd vs

snap_command : (v : Verb) → Values (snap_form v) → Command
snap_command verb.Take (name, _) = command.SnapTake name
snap_command verb.Delete (name, _) = command.SnapDelete name
snap_command verb.Restore (name, _) = command.SnapRestore name
snap_command verb.List _ = command.SnapList
snap_command v vs = absurd vs

command_of : Spelling → Command
command_of (plain v vs) = plain_command v vs
command_of (named c) = command.Path c
command_of (within name c) = command.Within name c
command_of (snap v vs) = snap_command v vs

command_of_spelling : (c : Command) → IsCommandInForm c → command_of (spelling_of c) ≡ c
unfolding command_of plain_command snap_command
command_of_spelling (command.Path c) good = refl
command_of_spelling (command.Open p f m b) good = ap (λ n. command.Open p f m n) (sym good.0)
command_of_spelling (command.OpenStat p f m b) good = ap (λ n. command.OpenStat p f m n) (sym good.0)
command_of_spelling (command.Close fd) good = refl
command_of_spelling (command.Read fd n) good = refl
command_of_spelling (command.Write fd d) good = refl
command_of_spelling (command.Pread fd o n) good = refl
command_of_spelling (command.Pwrite fd o d) good = refl
command_of_spelling (command.Lseek fd w o) good = refl
command_of_spelling (command.Ftruncate fd n) good = refl
command_of_spelling (command.Fchmod fd m) good = refl
command_of_spelling (command.Fchown fd o g) good = refl
command_of_spelling (command.Futimens fd z) good = refl
command_of_spelling (command.Fstat fd) good = refl
command_of_spelling (command.Fattr fd) good = refl
command_of_spelling (command.Fsync fd) good = refl
command_of_spelling (command.Extent p o) good = refl
command_of_spelling (command.At z n) good = refl
command_of_spelling (command.As o g) good = refl
command_of_spelling command.Sync good = refl
command_of_spelling command.Df good = refl
command_of_spelling command.Statfs good = refl
command_of_spelling (command.SnapTake name) good = refl
command_of_spelling (command.SnapDelete name) good = refl
command_of_spelling (command.SnapRestore name) good = refl
command_of_spelling command.SnapList good = refl
command_of_spelling (command.Within name c) good = refl

-- words are one command's at most
pub command_words-unique : (c d : Command) → IsCommandInForm c → IsCommandInForm d → command_words c ≡ command_words d → c ≡ d
command_words-unique c d gc gd e = sym (command_of_spelling c gc) ∙ ap command_of (spelling_words-unique (spelling_of c) (spelling_of d) (in_form c gc) (in_form d gd) e) ∙ command_of_spelling d gd

-- words that are read are read as the command that they spell
pub reads_command : (words : List (List ℕ)) (r : Result Command ScriptError) → ReadsWords command_words IsCommandInForm words r → (c : Command) → IsCommandInForm c → words ≡ command_words c → (r ≡ Ok c) ⊎ (r ≡ Err NoMemory)
reads_command words (Ok d) reads c good e = inl (ap Ok (command_words-unique d c reads.good good (sym reads.spelled ∙ e)))
reads_command words (Err NoMemory) reads c good e = inr refl
reads_command words (Err NotACommand) reads c good e = absurd (reads.refused refl c good e)
