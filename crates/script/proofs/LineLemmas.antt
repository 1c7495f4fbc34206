-- A line is its words and the spaces between them.
use Rattle.std.proofs.Common.{◌≡◌, Result, Ok, Err, IfOk, Some, None, ℕ, ℤ, zero, suc, pos, negsuc, ◌+◌, ◌/◌, ◌%◌, ◌^◌, ◌<◌, ◌≤◌, ◌==◌, Bool, true, false, List, [], ◌∷◌, ◌++◌, All, codes, cond, eqb, nat_le, get_or, arith, refl, sym, ◌∙◌, ap}
use Rattle.std.specs.Fmt.{decimal, signed_decimal}
use Rattle.std.specs.Int.RustNames.{FitsSigned}
use mir.Syntax.{w64}
use Rattle.std.specs.List.{flat_map, join_with_byte, list_all, slice_split}
use Rattle.std.proofs.lemmas.Fmt.{decimal_by_steps}
use Rattle.std.proofs.lemmas.List.{append-nil}
use Rattle.std.proofs.lemmas.List.Elements.{All-append, All-cons, All-nil}
use Rattle.std.proofs.lemmas.List.Splits.{join_with_byte-slice_split, slice_split_at, slice_split_none}
use Rattle.hex.specs.Hex.{encode_lower, encode_with, lower_digits}
use Rattle.model.specs.declared.command.Access.{Access}
use Rattle.model.specs.declared.command.Access.TheVariants.{Reading, Writing, Both}
use Rattle.model.specs.declared.command.Command.{Command}
use Rattle.model.specs.declared.command.Flags.{Flags}
use Rattle.model.specs.declared.command.NewTime.{NewTime}
use Rattle.model.specs.declared.command.NewTime.TheVariants.{Omit, Now, At}
use Rattle.model.specs.declared.command.PathCall.{PathCall}
use Rattle.model.specs.declared.command.Whence.{Whence}
use Rattle.model.specs.declared.command.Whence.TheVariants.{Set, Cur, End}
use Rattle.script.specs.Forms.{bytes, count, end, field, flags, form_words, given_count, given_mode, given_offset, last_mode, last_time, mode, none, offset, text, whence, word_of, AreValues, Form, IsTimeValue, IsValue, Kind, Value, Values}
use Rattle.script.specs.Lines.{call_fields, call_words, command_line, command_words, line_of, spelling_of, spelling_words, named, plain, snap, within, IsPathCallInForm, IsCommandInForm, IsSpelling, Spelling}
use Rattle.script.specs.Verbs.{call_form, command_form, snap_form, verb_name}
use Rattle.script.specs.Words.{access_word, byte_word, data_word, flags_word, hex_digit, is_plain, letter, mode_word, mode_words, text_word, new_time_words, whence_word}
use Rattle.script.specs.declared.error.ScriptError.{ScriptError}
use Rattle.script.specs.declared.verb.Verb.{Verb}
use Rattle.script.specs.declared.verb.Verb.TheVariants as verb
use Rattle.script.proofs.CommandLemmas.{in_form}
use Rattle.script.proofs.NumberLemmas.{small, small_mag}

-- no space stands in a word
abbrev IsWord : List ℕ → Type 0
IsWord w = All (λ b. eqb b 32 ≡ false) w

-- nor in any of these
abbrev AreWords : List (List ℕ) → Type 0
AreWords [] = Unit {0}
AreWords (w ∷ ws) = IsWord w × AreWords ws

not_space : (b : ℕ) → 33 ≤ b → eqb b 32 ≡ false
not_space b h = grind (arith, h)

empty_word : IsWord []
empty_word = All-nil (λ b. eqb b 32 ≡ false)

with_letter : (b : ℕ) (w : List ℕ) → 33 ≤ b → IsWord w → IsWord (b ∷ w)
with_letter b w h rest = All-cons (λ x. eqb x 32 ≡ false) b w (not_space b h) rest

hex_digit_above : (v : ℕ) → 33 ≤ hex_digit v
hex_digit_above v = grind arith

two_digits : (v w : ℕ) → IsWord (37 ∷ hex_digit v ∷ hex_digit w ∷ [])
two_digits v w = with_letter 37 (hex_digit v ∷ hex_digit w ∷ []) (omega arith) (with_letter (hex_digit v) (hex_digit w ∷ []) (hex_digit_above v) (with_letter (hex_digit w) [] (hex_digit_above w) empty_word))

byte_is_word : (b : ℕ) → IsWord (byte_word b)
byte_is_word b = by_plain (is_plain b) b refl
  where
    by_plain : (p : Bool) (b : ℕ) → is_plain b ≡ p → IsWord (cond p (b ∷ []) (37 ∷ hex_digit (b / 16) ∷ hex_digit (b % 16) ∷ []))
    by_plain true b e = with_letter b [] (grind (arith, e)) empty_word
    by_plain false b e = two_digits (b / 16) (b % 16)

bytes_are_word : (bs : List ℕ) → IsWord (flat_map byte_word bs)
bytes_are_word [] = empty_word
bytes_are_word (b ∷ bs) = All-append (λ x. eqb x 32 ≡ false) (byte_word b) (flat_map byte_word bs) (byte_is_word b) (bytes_are_word bs)

text_is_word : (t : List ℕ) → IsWord (text_word t)
text_is_word [] = with_letter 37 [] (omega arith) empty_word
text_is_word (b ∷ t) = bytes_are_word (b ∷ t)

letters_are_word : (w : List ℕ) → list_all (λ b. nat_le 33 b) w ≡ true → IsWord w
letters_are_word [] e = empty_word
letters_are_word (b ∷ w) e = with_letter b w (grind (arith, e)) (letters_are_word w (grind (arith, e)))

mode_is_word : (m : ℕ) → IsWord (mode_word m)
mode_is_word m = letters_are_word (mode_word m) (grind arith)

modes_are_words : (default m : ℕ) → AreWords (mode_words default m)
modes_are_words default m = by_default (m == default) m
  where
    by_default : (p : Bool) (m : ℕ) → AreWords (cond p [] (mode_word m ∷ []))
    by_default true m = tt
    by_default false m = (mode_is_word m, tt)

digit_at : (ds : List ℕ) → list_all (λ b. nat_le 33 b) ds ≡ true → (i : ℕ) → eqb (get_or ds i 0) 32 ≡ false
digit_at [] e i = refl
digit_at (d ∷ ds) e zero = not_space d (grind (arith, e))
digit_at (d ∷ ds) e (suc i) = digit_at ds (grind (arith, e)) i

with_byte : (b : ℕ) (w : List ℕ) → eqb b 32 ≡ false → IsWord w → IsWord (b ∷ w)
with_byte b w h rest = All-cons (λ x. eqb x 32 ≡ false) b w h rest

digits_are_word : (bs : List ℕ) → IsWord (encode_lower bs)
unfolding encode_with
digits_are_word [] = empty_word
digits_are_word (b ∷ bs) = with_byte (get_or lower_digits (b / 16) 0) (get_or lower_digits (b % 16) 0 ∷ encode_lower bs) (digit_at lower_digits refl (b / 16)) (with_byte (get_or lower_digits (b % 16) 0) (encode_lower bs) (digit_at lower_digits refl (b % 16)) (digits_are_word bs))

data_is_word : (t : List ℕ) → IsWord (data_word t)
data_is_word [] = letters_are_word (codes "-") refl
data_is_word (b ∷ t) = digits_are_word (b ∷ t)

-- a number's digits
digit_is_word : (n : ℕ) → n < 10 → IsWord ((48 + n) ∷ [])
digit_is_word n lt = with_letter (48 + n) [] (omega arith) empty_word

number_is_word : (n : ℕ) → n < 2 ^ 64 → IsWord (decimal n)
number_is_word n lt = decimal_by_steps (λ _ ds. IsWord ds) digit_is_word (λ m ds some w. All-append (λ x. eqb x 32 ≡ false) ds ((48 + m % 10) ∷ []) w (with_letter (48 + m % 10) [] (omega arith) empty_word)) n lt

letter_is_word : (l : ℕ) (b : Bool) → 33 ≤ l → IsWord (letter l b)
letter_is_word l true h = with_letter l [] h empty_word
letter_is_word l false h = empty_word

access_is_word : (a : Access) → IsWord (access_word a)
access_is_word Reading = letters_are_word (codes "r") refl
access_is_word Writing = letters_are_word (codes "w") refl
access_is_word Both = letters_are_word (codes "rw") refl

both_are_word : (v w : List ℕ) → IsWord v → IsWord w → IsWord (v ++ w)
both_are_word v w p q = All-append (λ x. eqb x 32 ≡ false) v w p q

flags_are_word : (f : Flags) → IsWord (flags_word f)
flags_are_word f =
    let appends = letter_is_word 97 f.appends (omega arith) in
    let truncates = both_are_word (letter 116 f.truncates) (letter 97 f.appends) (letter_is_word 116 f.truncates (omega arith)) appends in
    let exclusive = both_are_word (letter 120 f.exclusive) (letter 116 f.truncates ++ letter 97 f.appends) (letter_is_word 120 f.exclusive (omega arith)) truncates in
    let creates = both_are_word (letter 99 f.creates) (letter 120 f.exclusive ++ (letter 116 f.truncates ++ letter 97 f.appends)) (letter_is_word 99 f.creates (omega arith)) exclusive in
    both_are_word (access_word f.access) (letter 99 f.creates ++ (letter 120 f.exclusive ++ (letter 116 f.truncates ++ letter 97 f.appends))) (access_is_word f.access) creates

whence_is_word : (w : Whence) → IsWord (whence_word w)
whence_is_word Set = letters_are_word (codes "set") refl
whence_is_word Cur = letters_are_word (codes "cur") refl
whence_is_word End = letters_are_word (codes "end") refl

offset_is_word : (z : ℤ) → FitsSigned w64 z → IsWord (signed_decimal z)
offset_is_word (pos n) good = number_is_word n (omega (arith, small_mag (pos n) good))
offset_is_word (negsuc n) good = with_letter 45 (decimal (suc n)) (omega arith) (number_is_word (suc n) (omega (arith, small_mag (negsuc n) good)))

value_is_word : (k : Kind) (v : Value k) → IsValue k v → IsWord (word_of k v)
value_is_word text t good = text_is_word t
value_is_word bytes t good = data_is_word t
value_is_word count n good = number_is_word n (small n good)
value_is_word offset z good = offset_is_word z good
value_is_word mode m good = mode_is_word m
value_is_word flags f good = flags_are_word f
value_is_word whence w good = whence_is_word w
value_is_word given_mode None good = letters_are_word (codes "-") refl
value_is_word given_mode (Some m) good = mode_is_word m
value_is_word given_offset None good = letters_are_word (codes "-") refl
value_is_word given_offset (Some z) good = offset_is_word z good
value_is_word given_count None good = letters_are_word (codes "-") refl
value_is_word given_count (Some n) good = number_is_word n (small n good)

time_has_words : (t : NewTime) → IsTimeValue t → AreWords (new_time_words t)
time_has_words Omit good = (letters_are_word (codes "omit") refl, tt)
time_has_words Now good = (letters_are_word (codes "now") refl, tt)
time_has_words (At z n) good = (offset_is_word z good.0, (number_is_word n (small n good.1), tt))

form_has_words : (f : Form) (vs : Values f) → AreValues f vs → AreWords (form_words f vs)
form_has_words end vs good = tt
form_has_words (field k more) (v, vs) good = (value_is_word k v good.0, form_has_words more vs good.1)
form_has_words (last_mode default) m good = modes_are_words default m
form_has_words last_time t good = time_has_words t good
form_has_words none vs good = absurd vs

verb_is_word : (v : Verb) → IsWord (verb_name v)
verb_is_word verb.List = letters_are_word (codes "list") refl
verb_is_word verb.Entries = letters_are_word (codes "entries") refl
verb_is_word verb.Stat = letters_are_word (codes "stat") refl
verb_is_word verb.Lstat = letters_are_word (codes "lstat") refl
verb_is_word verb.Attr = letters_are_word (codes "attr") refl
verb_is_word verb.Lattr = letters_are_word (codes "lattr") refl
verb_is_word verb.Readlink = letters_are_word (codes "readlink") refl
verb_is_word verb.Get = letters_are_word (codes "get") refl
verb_is_word verb.Mkdir = letters_are_word (codes "mkdir") refl
verb_is_word verb.Rmdir = letters_are_word (codes "rmdir") refl
verb_is_word verb.Unlink = letters_are_word (codes "unlink") refl
verb_is_word verb.Link = letters_are_word (codes "link") refl
verb_is_word verb.Symlink = letters_are_word (codes "symlink") refl
verb_is_word verb.Rename = letters_are_word (codes "rename") refl
verb_is_word verb.RenameNew = letters_are_word (codes "renamenew") refl
verb_is_word verb.Chmod = letters_are_word (codes "chmod") refl
verb_is_word verb.Chown = letters_are_word (codes "chown") refl
verb_is_word verb.Lchown = letters_are_word (codes "lchown") refl
verb_is_word verb.Utimens = letters_are_word (codes "utimens") refl
verb_is_word verb.Lutimens = letters_are_word (codes "lutimens") refl
verb_is_word verb.Truncate = letters_are_word (codes "truncate") refl
verb_is_word verb.Store = letters_are_word (codes "store") refl
verb_is_word verb.Set = letters_are_word (codes "set") refl
verb_is_word verb.Open = letters_are_word (codes "open") refl
verb_is_word verb.OpenStat = letters_are_word (codes "openstat") refl
verb_is_word verb.Close = letters_are_word (codes "close") refl
verb_is_word verb.Read = letters_are_word (codes "read") refl
verb_is_word verb.Write = letters_are_word (codes "write") refl
verb_is_word verb.Pread = letters_are_word (codes "pread") refl
verb_is_word verb.Pwrite = letters_are_word (codes "pwrite") refl
verb_is_word verb.Lseek = letters_are_word (codes "lseek") refl
verb_is_word verb.Ftruncate = letters_are_word (codes "ftruncate") refl
verb_is_word verb.Fchmod = letters_are_word (codes "fchmod") refl
verb_is_word verb.Fchown = letters_are_word (codes "fchown") refl
verb_is_word verb.Futimens = letters_are_word (codes "futimens") refl
verb_is_word verb.Fstat = letters_are_word (codes "fstat") refl
verb_is_word verb.Fattr = letters_are_word (codes "fattr") refl
verb_is_word verb.Fsync = letters_are_word (codes "fsync") refl
verb_is_word verb.Extent = letters_are_word (codes "extent") refl
verb_is_word verb.At = letters_are_word (codes "at") refl
verb_is_word verb.As = letters_are_word (codes "as") refl
verb_is_word verb.Sync = letters_are_word (codes "sync") refl
verb_is_word verb.Df = letters_are_word (codes "df") refl
verb_is_word verb.Statfs = letters_are_word (codes "statfs") refl
verb_is_word verb.Snap = letters_are_word (codes "snap") refl
verb_is_word verb.Take = letters_are_word (codes "take") refl
verb_is_word verb.Delete = letters_are_word (codes "delete") refl
verb_is_word verb.Restore = letters_are_word (codes "restore") refl
verb_is_word verb.In = letters_are_word (codes "in") refl

call_has_words : (c : PathCall) → IsPathCallInForm c → AreWords (call_words c)
call_has_words c good = (verb_is_word (call_fields c).0, form_has_words (call_form (call_fields c).0) (call_fields c).1 good)

-- a line is cut at its spaces into its words
split_line : (w : List ℕ) (ws : List (List ℕ)) → AreWords (w ∷ ws) → slice_split (λ b. eqb b 32) (line_of (w ∷ ws)) ≡ w ∷ ws
split_line w [] words = ap (λ l. slice_split (λ b. eqb b 32) l) (append-nil w) ∙ slice_split_none (λ b. eqb b 32) w words.0
split_line w (v ∷ vs) words = slice_split_at (λ b. eqb b 32) w 32 (line_of (v ∷ vs)) words.0 refl ∙ ap (λ l. w ∷ l) (split_line v vs words.1)

join_words : (ws : List (List ℕ)) → join_with_byte 32 ws ≡ line_of ws
join_words [] = refl
join_words (w ∷ []) = sym (append-nil w)
join_words (w ∷ v ∷ vs) = ap (λ l. w ++ 32 ∷ l) (join_words (v ∷ vs))

-- the parts of a line between its spaces make it up
pub line_of_parts : (line : List ℕ) → line ≡ line_of (slice_split (λ b. eqb b 32) line)
line_of_parts line = sym (join_with_byte-slice_split 32 line) ∙ join_words (slice_split (λ b. eqb b 32) line)

-- the parts of a command's line are its words
parts_of_spelling : (s : Spelling) → IsSpelling s → slice_split (λ b. eqb b 32) (line_of (spelling_words s)) ≡ spelling_words s
parts_of_spelling (plain v vs) good = split_line _ _ (verb_is_word v, form_has_words (command_form v) vs good)
parts_of_spelling (named c) good = split_line _ _ (call_has_words c good)
parts_of_spelling (within name c) good = split_line _ _ (verb_is_word verb.In, (text_is_word name, call_has_words c good.1))
parts_of_spelling (snap v vs) good = split_line _ _ (verb_is_word verb.Snap, (verb_is_word v, form_has_words (snap_form v) vs good))

pub parts_of_command : (c : Command) → IsCommandInForm c → slice_split (λ b. eqb b 32) (command_line c) ≡ command_words c
parts_of_command c good = parts_of_spelling (spelling_of c) (in_form c good)

-- where the parts of a line are a command's words, the line is its line
pub line_spelled : (line : List ℕ) (r : Result Command ScriptError) → IfOk r (λ c. slice_split (λ b. eqb b 32) line ≡ command_words c) → IfOk r (λ c. line ≡ command_line c)
line_spelled line (Ok c) h = line_of_parts line ∙ ap line_of h
line_spelled line (Err e) h = tt
