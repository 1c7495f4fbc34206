-- A first word and its fields spell one command at most, and where no fields of its form stand behind it, none.
use Rattle.std.proofs.Common.{◌≡◌, ◌≢◌, ℕ, ℤ, true, false, List, [], ◌∷◌, ◌++◌, ◌≤◌, length, map, get_or, arith, Result, Ok, Err, IfOk, OnErr, OnOk, refl, sym, ◌∙◌, ap, subst}
use Rattle.model.specs.declared.command.Command.{Command}
use Rattle.model.specs.declared.command.Command.TheVariants as command
use Rattle.model.specs.declared.command.PathCall.{PathCall}
use Rattle.model.specs.declared.command.PathCall.TheVariants as call
use Rattle.script.specs.Forms.{end, form_words, AreValues, Form, Values}
use Rattle.script.specs.Lines.{line_of, call_fields, call_words, command_words, spelling_of, spelling_words, named, plain, snap, within, IsPathCallInForm, IsCommandInForm, IsSpelling, Spelling}
use Rattle.script.specs.Readings.{ReadsFields, ReadsWords}
use Rattle.script.specs.Verbs.{call_form, change_form, command_form, file_form, is_call, snap_form, verb_name}
use Rattle.script.specs.Words.{text_word}
use Rattle.script.specs.declared.error.ScriptError.{ScriptError}
use Rattle.script.specs.declared.verb.Verb.{Verb}
use Rattle.script.specs.declared.verb.Verb.TheVariants as verb
use Rattle.script.proofs.VerbLemmas.{verb_name-unique}

-- a command in form is spelled by values that fit
pub in_form : (c : Command) → IsCommandInForm c → IsSpelling (spelling_of c)
in_form (command.Open p f m b) good = good.1
in_form (command.OpenStat p f m b) good = good.1
in_form c good = good

-- no fields of a form stand in these words
abbrev pub HasNone : Form → List (List ℕ) → Type 0
HasNone f words = (vs : Values f) → AreValues f vs → words ≡ form_words f vs → ⊥

-- what is read behind a verb is read behind the same verb
pub at_form : {X : Type 0} (form : Verb → Form) (words_of : X → List (List ℕ)) (IsGood : X → Type 0) (head : Verb → List (List ℕ)) (v w : Verb) (words : List (List ℕ)) (r : Result X ScriptError) → v ≡ w
    → ReadsFields (form w) words_of IsGood (head w) words r → ReadsFields (form v) words_of IsGood (head v) words r
at_form form words_of IsGood head v w words r e reads = subst (λ u. ReadsFields (form u) words_of IsGood (head u) words r) (sym e) reads

pub same_word : (a b : List ℕ) (xs ys : List (List ℕ)) → a ∷ xs ≡ b ∷ ys → a ≡ b
same_word a b xs ys e = cc

pub same_words : (a b : List ℕ) (xs ys : List (List ℕ)) → a ∷ xs ≡ b ∷ ys → xs ≡ ys
same_words a b xs ys e = cc

-- the first words of two spellings
pub same_verb : (v w : Verb) (xs ys : List (List ℕ)) → verb_name v ∷ xs ≡ verb_name w ∷ ys → v ≡ w
same_verb v w xs ys e = verb_name-unique v w (same_word (verb_name v) (verb_name w) xs ys e)

behind : (form : Verb → Form) (v w : Verb) (words : List (List ℕ)) → HasNone (form v) words → (vs : Values (form w)) → AreValues (form w) vs → verb_name v ∷ words ≡ verb_name w ∷ form_words (form w) vs → ⊥
behind form v w words none vs good e =
    subst (λ u. HasNone (form u) words) (same_verb v w words (form_words (form w) vs) e) none vs good (same_words (verb_name v) (verb_name w) words (form_words (form w) vs) e)

pub refused_call : (v : Verb) (words : List (List ℕ)) → HasNone (call_form v) words → (c : PathCall) → IsPathCallInForm c → verb_name v ∷ words ≡ call_words c → ⊥
refused_call v words none c good e = behind call_form v (call_fields c).0 words none (call_fields c).1 good e

pub call_is_call : (c : PathCall) → is_call (call_fields c).0 ≡ true
call_is_call (call.List p) = refl
call_is_call (call.Entries p o n) = refl
call_is_call (call.Stat p) = refl
call_is_call (call.Lstat p) = refl
call_is_call (call.Attr p true) = refl
call_is_call (call.Attr p false) = refl
call_is_call (call.Readlink p) = refl
call_is_call (call.Get p o n) = refl
call_is_call (call.Mkdir p m) = refl
call_is_call (call.Rmdir p) = refl
call_is_call (call.Unlink p) = refl
call_is_call (call.Link p q) = refl
call_is_call (call.Symlink t p) = refl
call_is_call (call.Rename p q) = refl
call_is_call (call.RenameNew p q) = refl
call_is_call (call.Chmod p m) = refl
call_is_call (call.Chown p true o g) = refl
call_is_call (call.Chown p false o g) = refl
call_is_call (call.Utimens p true z) = refl
call_is_call (call.Utimens p false z) = refl
call_is_call (call.Truncate p n) = refl
call_is_call (call.Store p o d) = refl
call_is_call (call.Set p s) = refl

-- no verb of a call begins another command
pub no_command : (v : Verb) → is_call v ≡ true → Values (command_form v) → ⊥
no_command verb.Open e vs = absurd (cc)
no_command verb.OpenStat e vs = absurd (cc)
no_command verb.Close e vs = absurd (cc)
no_command verb.Read e vs = absurd (cc)
no_command verb.Write e vs = absurd (cc)
no_command verb.Pread e vs = absurd (cc)
no_command verb.Pwrite e vs = absurd (cc)
no_command verb.Lseek e vs = absurd (cc)
no_command verb.Ftruncate e vs = absurd (cc)
no_command verb.Fchmod e vs = absurd (cc)
no_command verb.Fchown e vs = absurd (cc)
no_command verb.Futimens e vs = absurd (cc)
no_command verb.Fstat e vs = absurd (cc)
no_command verb.Fattr e vs = absurd (cc)
no_command verb.Fsync e vs = absurd (cc)
no_command verb.Extent e vs = absurd (cc)
no_command verb.At e vs = absurd (cc)
no_command verb.As e vs = absurd (cc)
no_command verb.Sync e vs = absurd (cc)
no_command verb.Df e vs = absurd (cc)
no_command verb.Statfs e vs = absurd (cc)
no_command v e vs = vs

by_path : (v : Verb) (words : List (List ℕ)) → is_call v ≡ true → HasNone (call_form v) words → (s : Spelling) → IsSpelling s → verb_name v ∷ words ≡ spelling_words s → ⊥
by_path v words is none (plain w vs) good e = no_command w (sym (ap is_call (same_verb v w words (form_words (command_form w) vs) e)) ∙ is) vs
by_path v words is none (named c) good e = refused_call v words none c good e
by_path v words is none (within name c) good e =
    let same = same_verb v verb.In words (text_word name ∷ call_words c) e in let no : true ≡ false = sym is ∙ ap is_call same in absurd (cc)
by_path v words is none (snap w vs) good e =
    let same = same_verb v verb.Snap words (verb_name w ∷ form_words (snap_form w) vs) e in let no : true ≡ false = sym is ∙ ap is_call same in absurd (cc)

pub refused_path : (v : Verb) (words : List (List ℕ)) → is_call v ≡ true → HasNone (call_form v) words → (c : Command) → IsCommandInForm c → verb_name v ∷ words ≡ command_words c → ⊥
refused_path v words is none c good e = by_path v words is none (spelling_of c) (in_form c good) e

by_plain : (v : Verb) (words : List (List ℕ)) → is_call v ≡ false → (v ≡ verb.Snap → ⊥) → (v ≡ verb.In → ⊥) → HasNone (command_form v) words → (s : Spelling) → IsSpelling s → verb_name v ∷ words ≡ spelling_words s → ⊥
by_plain v words is not_snap not_in none (plain w vs) good e = behind command_form v w words none vs good e
by_plain v words is not_snap not_in none (named c) good e =
    let same = same_verb v (call_fields c).0 words (form_words (call_form (call_fields c).0) (call_fields c).1) e in let no : false ≡ true = sym is ∙ ap is_call same ∙ call_is_call c in absurd (cc)
by_plain v words is not_snap not_in none (within name c) good e = not_in (same_verb v verb.In words (text_word name ∷ call_words c) e)
by_plain v words is not_snap not_in none (snap w vs) good e = not_snap (same_verb v verb.Snap words (verb_name w ∷ form_words (snap_form w) vs) e)

pub refused_plain : (v : Verb) (words : List (List ℕ)) → is_call v ≡ false → (v ≡ verb.Snap → ⊥) → (v ≡ verb.In → ⊥) → HasNone (command_form v) words → (c : Command) → IsCommandInForm c → verb_name v ∷ words ≡ command_words c → ⊥
refused_plain v words is not_snap not_in none c good e = by_plain v words is not_snap not_in none (spelling_of c) (in_form c good) e

by_snap : (words : List (List ℕ)) → ((w : Verb) (vs : Values (snap_form w)) → AreValues (snap_form w) vs → words ≡ verb_name w ∷ form_words (snap_form w) vs → ⊥) → (s : Spelling) → IsSpelling s → verb_name verb.Snap ∷ words ≡ spelling_words s → ⊥
by_snap words none (plain w vs) good e = subst (λ u. Values (command_form u)) (sym (same_verb verb.Snap w words (form_words (command_form w) vs) e)) vs
by_snap words none (named c) good e =
    let same = same_verb verb.Snap (call_fields c).0 words (form_words (call_form (call_fields c).0) (call_fields c).1) e in let no : false ≡ true = ap is_call same ∙ call_is_call c in absurd (cc)
by_snap words none (within name c) good e = absurd (cc (same_word (verb_name verb.Snap) (verb_name verb.In) words (text_word name ∷ call_words c) e))
by_snap words none (snap w vs) good e = none w vs good (same_words (verb_name verb.Snap) (verb_name verb.Snap) words (verb_name w ∷ form_words (snap_form w) vs) e)

-- behind `snap` stands no second word, or one behind which no fields of its form stand
pub refused_snap : (v : Verb) (words : List (List ℕ)) → HasNone (snap_form v) words → (c : Command) → IsCommandInForm c → verb_name verb.Snap ∷ verb_name v ∷ words ≡ command_words c → ⊥
refused_snap v words none c good e = by_snap (verb_name v ∷ words) (λ w vs fine is. behind snap_form v w words none vs fine is) (spelling_of c) (in_form c good) e

pub refused_second : {X : Type 0} (word : X → List ℕ) (xs : List X) (d : X) → 1 ≤ length xs → ((w : Verb) → word (get_or xs 0 d) ≡ verb_name w → ⊥) → (c : Command) → IsCommandInForm c → verb_name verb.Snap ∷ map word xs ≡ command_words c → ⊥
refused_second word [] d some none c good e = absurd (omega (arith, some))
refused_second word (x ∷ xs) d some none c good e =
    by_snap (word x ∷ map word xs) (λ w vs fine is. none w (same_word (word x) (verb_name w) (map word xs) (form_words (snap_form w) vs) is)) (spelling_of c) (in_form c good) e

-- a first word that begins no command
by_first : (first : List ℕ) (more : List (List ℕ)) → ((w : Verb) → first ≡ verb_name w → ⊥) → (s : Spelling) → first ∷ more ≡ spelling_words s → ⊥
by_first first more none (plain w vs) e = none w (same_word first (verb_name w) more (form_words (command_form w) vs) e)
by_first first more none (named c) e = none (call_fields c).0 (same_word first (verb_name (call_fields c).0) more (form_words (call_form (call_fields c).0) (call_fields c).1) e)
by_first first more none (within name c) e = none verb.In (same_word first (verb_name verb.In) more (text_word name ∷ call_words c) e)
by_first first more none (snap w vs) e = none verb.Snap (same_word first (verb_name verb.Snap) more (verb_name w ∷ form_words (snap_form w) vs) e)

pub refused_first : {X : Type 0} (word : X → List ℕ) (xs : List X) (d : X) → 1 ≤ length xs → ((w : Verb) → word (get_or xs 0 d) ≡ verb_name w → ⊥) → (c : Command) → IsCommandInForm c → map word xs ≡ command_words c → ⊥
refused_first word [] d some none c good e = absurd (omega (arith, some))
refused_first word (x ∷ xs) d some none c good e = by_first (word x) (map word xs) none (spelling_of c) e

-- the verbs that have no fields of their own
pub not_change : (v : Verb) → v ≢ verb.Mkdir → v ≢ verb.Rmdir → v ≢ verb.Unlink → v ≢ verb.Link → v ≢ verb.Symlink → v ≢ verb.Rename → v ≢ verb.RenameNew → v ≢ verb.Chmod → v ≢ verb.Chown → v ≢ verb.Lchown → v ≢ verb.Utimens → v ≢ verb.Lutimens → v ≢ verb.Truncate → v ≢ verb.Store → v ≢ verb.Set → Values (change_form v) → ⊥
not_change verb.Mkdir a b c d e f g h i j k l m n o vs = a refl
not_change verb.Rmdir a b c d e f g h i j k l m n o vs = b refl
not_change verb.Unlink a b c d e f g h i j k l m n o vs = c refl
not_change verb.Link a b c d e f g h i j k l m n o vs = d refl
not_change verb.Symlink a b c d e f g h i j k l m n o vs = e refl
not_change verb.Rename a b c d e f g h i j k l m n o vs = f refl
not_change verb.RenameNew a b c d e f g h i j k l m n o vs = g refl
not_change verb.Chmod a b c d e f g h i j k l m n o vs = h refl
not_change verb.Chown a b c d e f g h i j k l m n o vs = i refl
not_change verb.Lchown a b c d e f g h i j k l m n o vs = j refl
not_change verb.Utimens a b c d e f g h i j k l m n o vs = k refl
not_change verb.Lutimens a b c d e f g h i j k l m n o vs = l refl
not_change verb.Truncate a b c d e f g h i j k l m n o vs = m refl
not_change verb.Store a b c d e f g h i j k l m n o vs = n refl
not_change verb.Set a b c d e f g h i j k l m n o vs = o refl
not_change v a b c d e f g h i j k l m n o vs = vs

pub is_change : (v : Verb) → v ≢ verb.List → v ≢ verb.Entries → v ≢ verb.Stat → v ≢ verb.Lstat → v ≢ verb.Attr → v ≢ verb.Lattr → v ≢ verb.Readlink → v ≢ verb.Get → call_form v ≡ change_form v
is_change verb.List a b c d e f g h = absurd (a refl)
is_change verb.Entries a b c d e f g h = absurd (b refl)
is_change verb.Stat a b c d e f g h = absurd (c refl)
is_change verb.Lstat a b c d e f g h = absurd (d refl)
is_change verb.Attr a b c d e f g h = absurd (e refl)
is_change verb.Lattr a b c d e f g h = absurd (f refl)
is_change verb.Readlink a b c d e f g h = absurd (g refl)
is_change verb.Get a b c d e f g h = absurd (h refl)
is_change v a b c d e f g h = refl

pub not_file : (v : Verb) → v ≢ verb.Read → v ≢ verb.Write → v ≢ verb.Pread → v ≢ verb.Pwrite → v ≢ verb.Lseek → v ≢ verb.Ftruncate → v ≢ verb.Fchmod → v ≢ verb.Fchown → v ≢ verb.Futimens → Values (file_form v) → ⊥
not_file verb.Read a b c d e f g h i vs = a refl
not_file verb.Write a b c d e f g h i vs = b refl
not_file verb.Pread a b c d e f g h i vs = c refl
not_file verb.Pwrite a b c d e f g h i vs = d refl
not_file verb.Lseek a b c d e f g h i vs = e refl
not_file verb.Ftruncate a b c d e f g h i vs = f refl
not_file verb.Fchmod a b c d e f g h i vs = g refl
not_file verb.Fchown a b c d e f g h i vs = h refl
not_file verb.Futimens a b c d e f g h i vs = i refl
not_file v a b c d e f g h i vs = vs

pub is_file : (v : Verb) → v ≢ verb.Open → v ≢ verb.OpenStat → v ≢ verb.Close → v ≢ verb.Fstat → v ≢ verb.Fattr → v ≢ verb.Fsync → v ≢ verb.Extent → v ≢ verb.At → v ≢ verb.As → v ≢ verb.Sync → v ≢ verb.Df → v ≢ verb.Statfs → command_form v ≡ file_form v
is_file verb.Open a b c d e f g h i j k l = absurd (a refl)
is_file verb.OpenStat a b c d e f g h i j k l = absurd (b refl)
is_file verb.Close a b c d e f g h i j k l = absurd (c refl)
is_file verb.Fstat a b c d e f g h i j k l = absurd (d refl)
is_file verb.Fattr a b c d e f g h i j k l = absurd (e refl)
is_file verb.Fsync a b c d e f g h i j k l = absurd (f refl)
is_file verb.Extent a b c d e f g h i j k l = absurd (g refl)
is_file verb.At a b c d e f g h i j k l = absurd (h refl)
is_file verb.As a b c d e f g h i j k l = absurd (i refl)
is_file verb.Sync a b c d e f g h i j k l = absurd (j refl)
is_file verb.Df a b c d e f g h i j k l = absurd (k refl)
is_file verb.Statfs a b c d e f g h i j k l = absurd (l refl)
is_file v a b c d e f g h i j k l = refl

pub not_snapping : (v : Verb) → v ≢ verb.Take → v ≢ verb.Delete → v ≢ verb.Restore → v ≢ verb.List → Values (snap_form v) → ⊥
not_snapping verb.Take a b c d vs = a refl
not_snapping verb.Delete a b c d vs = b refl
not_snapping verb.Restore a b c d vs = c refl
not_snapping verb.List a b c d vs = d refl
not_snapping v a b c d vs = vs

-- what is read by the last case of a form is read by the form
pub change_read : (v : Verb) (words : List (List ℕ)) (r : Result PathCall ScriptError) → v ≢ verb.List → v ≢ verb.Entries → v ≢ verb.Stat → v ≢ verb.Lstat → v ≢ verb.Attr → v ≢ verb.Lattr → v ≢ verb.Readlink → v ≢ verb.Get
    → ReadsFields (change_form v) call_words IsPathCallInForm (verb_name v ∷ []) words r → ReadsFields (call_form v) call_words IsPathCallInForm (verb_name v ∷ []) words r
change_read v words r a b c d e f g h reads = subst (λ u. ReadsFields u call_words IsPathCallInForm (verb_name v ∷ []) words r) (sym (is_change v a b c d e f g h)) reads

pub file_read : (v : Verb) (words : List (List ℕ)) (r : Result Command ScriptError) → v ≢ verb.Open → v ≢ verb.OpenStat → v ≢ verb.Close → v ≢ verb.Fstat → v ≢ verb.Fattr → v ≢ verb.Fsync → v ≢ verb.Extent → v ≢ verb.At → v ≢ verb.As → v ≢ verb.Sync → v ≢ verb.Df → v ≢ verb.Statfs
    → ReadsFields (file_form v) command_words IsCommandInForm (verb_name v ∷ []) words r → ReadsFields (command_form v) command_words IsCommandInForm (verb_name v ∷ []) words r
file_read v words r a b c d e f g h i j k l reads = subst (λ u. ReadsFields u command_words IsCommandInForm (verb_name v ∷ []) words r) (sym (is_file v a b c d e f g h i j k l)) reads

-- what is read behind a verb is read as words
pub call_read : (v : Verb) (words : List (List ℕ)) (r : Result PathCall ScriptError) → ReadsFields (call_form v) call_words IsPathCallInForm (verb_name v ∷ []) words r → ReadsWords call_words IsPathCallInForm (verb_name v ∷ words) r
call_read v words r reads = record { spelled = reads.spelled; good = reads.good; refused = λ e. refused_call v words (reads.refused e) }

pub snap_read : (v : Verb) (words : List (List ℕ)) (r : Result Command ScriptError) → ReadsFields (snap_form v) command_words IsCommandInForm (verb_name verb.Snap ∷ verb_name v ∷ []) words r → ReadsWords command_words IsCommandInForm (verb_name verb.Snap ∷ verb_name v ∷ words) r
snap_read v words r reads = record { spelled = reads.spelled; good = reads.good; refused = λ e. refused_snap v words (reads.refused e) }

pub path_read : (v : Verb) (words : List (List ℕ)) (r : Result Command ScriptError) → is_call v ≡ true → ReadsFields (call_form v) command_words IsCommandInForm (verb_name v ∷ []) words r → ReadsWords command_words IsCommandInForm (verb_name v ∷ words) r
path_read v words r is reads = record { spelled = reads.spelled; good = reads.good; refused = λ e. refused_path v words is (reads.refused e) }

pub plain_read : (v : Verb) (words : List (List ℕ)) (r : Result Command ScriptError) → is_call v ≡ false → (v ≡ verb.Snap → ⊥) → (v ≡ verb.In → ⊥) → ReadsFields (command_form v) command_words IsCommandInForm (verb_name v ∷ []) words r
    → ReadsWords command_words IsCommandInForm (verb_name v ∷ words) r
plain_read v words r is not_snap not_in reads = record { spelled = reads.spelled; good = reads.good; refused = λ e. refused_plain v words is not_snap not_in (reads.refused e) }

-- a command of one word
pub alone_read : (head : List (List ℕ)) (c : Command) (words : List (List ℕ)) (r : Result Command ScriptError) → head ++ [] ≡ command_words c → IsCommandInForm c → IfOk r (λ x. (x ≡ c) × (words ≡ [])) → OnErr r (words ≡ [] → ⊥) → ReadsFields end command_words IsCommandInForm head words r
alone_read head c words (Ok x) is good same none = record {
  spelled = ap (λ ws. head ++ ws) same.1 ∙ is ∙ ap command_words (sym same.0);
  good = subst IsCommandInForm (sym same.0) good;
  refused = λ e. absurd (cc);
}
alone_read head c words (Err e) is good same none = record { spelled = tt; good = tt; refused = λ _ vs fine empty. none empty }

-- what is added to a line of a call
pub pushed : {X Y : Type 0} (c d : PathCall) (old new : List ℕ) (r : Result X Y) → c ≡ d → OnOk r (new ≡ old ++ line_of (call_words d)) → OnOk r (new ≡ old ++ line_of (call_words c))
pushed c d old new r e h = subst (λ x. OnOk r (new ≡ old ++ line_of (call_words x))) (sym e) h

-- the same of a call with a signed number that was read back
pub pushed_at : {X Y : Type 0} (make : ℤ → PathCall) (c : PathCall) (z offset : ℤ) (old new : List ℕ) (r : Result X Y) → c ≡ make offset → z ≡ offset
    → OnOk r (new ≡ old ++ line_of (call_words (make z))) → OnOk r (new ≡ old ++ line_of (call_words c))
pushed_at make c z offset old new r e back h = pushed c (make offset) old new r e (subst (λ (x : ℤ). OnOk r (new ≡ old ++ line_of (call_words (make x)))) back h)
