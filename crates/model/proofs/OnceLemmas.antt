-- A call has at most one outcome.
use Rattle.std.proofs.Common.{◌≡◌, ◌≢◌, ◌⊎◌, inl, inr, ℕ, List, [], ◌∷◌, ◌++◌, length, Bool, true, false, Option, Some, None, bytes_eq, refl, sym, ap, subst, ◌∙◌}
use Rattle.std.specs.Prelude.{ℤ, MatchOption, nat_abs, nat_le, nat_lt, min, ◌==◌, not, ◌&&◌, ◌||◌, if◌then◌else◌, ◌+◌}
use Rattle.std.proofs.Math.Path.{fun_ext}
use Rattle.std.proofs.lemmas.Bool.{cases_Bool, cases_order, both_ways}
use Rattle.std.proofs.lemmas.Slice.Eq.{bytes_eq-Decides}
use Rattle.model.specs.declared.limits.Limits.{Limits}
use Rattle.model.specs.declared.attributes.Permissions.{Permissions}
use Rattle.model.specs.declared.session.Session.{Session}
use Rattle.model.specs.declared.time.Time.{Time}
use Rattle.model.specs.declared.limits.TheConstants.{ENTRIES_TOLD, LINK_MODE, OPEN_FILES}
use Rattle.model.specs.declared.errno.Errno.{Errno}
use Rattle.model.specs.declared.errno.Errno.TheVariants.{ENOENT, ENOTDIR, EISDIR, EEXIST, EINVAL, EPERM, EBUSY, EBADF, EMFILE, EFBIG, EMLINK, EOVERFLOW, ELOOP, ENOTEMPTY, DIRFULL, NONUMBER, ESTALE}
use Rattle.model.specs.declared.reply.Reply.{Reply}
use Rattle.model.specs.declared.reply.Reply.TheVariants as reply
use Rattle.model.specs.declared.command.Flags.{Flags}
use Rattle.model.specs.declared.command.NewTime.{NewTime}
use Rattle.model.specs.declared.command.Settings.{Settings}
use Rattle.model.specs.declared.reply.Extent.{Extent}
use Rattle.model.proofs.HoleLemmas.{extent_once}
use Rattle.model.specs.declared.command.Whence.{Whence}
use Rattle.model.specs.declared.command.PathCall.{PathCall}
use Rattle.model.specs.declared.command.PathCall.TheVariants as call
use Rattle.model.specs.Paths.{Name, Path, Tests, first_refusal, text_tests_then, text_tests, new_text_tests, is_empty, is_root_text, parts_behind, path_eq, start_number}
use Rattle.model.specs.Trees.{Tree, Object, directory, symlink, file, Description, HasNumber, HasPath, IsUsed, number_of_object}
use Rattle.model.specs.Edits.{contents, with_descriptor, with_directory, with_symlink, IsSwept}
use Rattle.model.specs.Resolution.{Resolution, named, missing, refused, resolve, resolve_within}
use Rattle.model.specs.Room.{Need}
use Rattle.model.specs.Outcomes.{Outcome, answers, refuses, changes, changes_swept, tested, either, leads, leads_from, goes_along, goes_to, with_number, with_names, with_place, IsFresh, HasNoFresh, at_number, with_fresh, HasLinks, with_links, lowest_free, described}
use Rattle.model.specs.Reading as reading
use Rattle.model.specs.Changing as changing
use Rattle.model.specs.Descriptors as descriptors
use Rattle.model.specs.Sessions.{call_time, new_permissions}
use Rattle.model.specs.States.{ForgetsOpenFiles}
use Rattle.model.specs.Steps.{calls}
use Rattle.model.proofs.AttributeLaws.{attributes_apart}
use Rattle.model.proofs.CountLemmas.{counts_once}
use Rattle.model.proofs.ListingLemmas.{listing_once, members_once}
use Rattle.model.proofs.EntryLemmas.{cookie_total}
use Rattle.model.proofs.OptionLaws.{some_same}
use Rattle.model.specs.declared.entries.Entry.{Entry}
use Rattle.model.specs.Stats.{stat_of}
use Rattle.model.specs.Entries.{IsPart, TellsEntry, TellsEntries, cookie_cmp, with_part}
use Rattle.model.proofs.WalkLemmas.{same_path, path_eq-same}

-- two outcomes are one
pub record IsOne (a b : Reply) (t u : Tree) (m n : Need) : Type 0 where
  pub reply : a ≡ b
  pub tree : t ≡ u
  pub need : m ≡ n

-- what an outcome comes to is one
abbrev pub Once : Outcome → Type 0
Once outcome = (a b : Reply) (t u : Tree) (m n : Need) → outcome a t m → outcome b u n → IsOne a b t u m n

once_answers : (t : Tree) (r : Reply) → Once (answers t r)
once_answers t r a b u w m n one other = record { reply = one.0 ∙ sym other.0; tree = one.1 ∙ sym other.1; need = one.2 ∙ sym other.2 }

once_refuses : (t : Tree) (errno : Errno) → Once (refuses t errno)
once_refuses t errno = once_answers t (reply.Refused errno)

once_changes : (r : Reply) (t : Tree) (need : Need) → Once (changes r t need)
once_changes r t need a b u w m n one other = record { reply = one.0 ∙ sym other.0; tree = one.1 ∙ sym other.1; need = one.2 ∙ sym other.2 }

-- an option of numbers or of bytes is equal where it can't be otherwise
option_apart : {X : Type 0} → ((x y : X) → (x ≡ y) ⊎ (x ≢ y)) → (o r : Option X) → (o ≡ r) ⊎ (o ≢ r)
option_apart apart None None = inl refl
option_apart apart None (Some y) = inr (λ e. cc)
option_apart apart (Some x) None = inr (λ e. cc)
option_apart apart (Some x) (Some y) = elim (apart x y) [ inl e ↦ inl (ap (λ z. Some z) e) | inr e ↦ inr (λ same. e (cc)) ]

bytes_apart : (x y : List ℕ) → (x ≡ y) ⊎ (x ≢ y)
bytes_apart x y =
    elim (cases_Bool (bytes_eq x y)) [
      | inl e ↦ inl ((bytes_eq-Decides x y).0 e)
      | inr e ↦ inr (λ same. both_ways (bytes_eq x y) e ((bytes_eq-Decides x y).1 same))
    ]

pub path_apart : (x y : Path) → (x ≡ y) ⊎ (x ≢ y)
path_apart x y =
    elim (cases_Bool (path_eq x y)) [
      | inl e ↦ inl (same_path x y e)
      | inr e ↦ inr (λ same. both_ways (path_eq x y) e (subst (λ p. path_eq x p ≡ true) same (path_eq-same x)))
    ]

-- what is the same where P holds, and where it doesn't
the_same : {X : Type 0} → ((x y : X) → (x ≡ y) ⊎ (x ≢ y)) → (P : Type 0) (o r s : Option X) → (P → o ≡ s) → (P → r ≡ s) → (¬ P → o ≡ None) → (¬ P → r ≡ None) → o ≡ r
the_same apart P o r s one other gone lost =
    elim (option_apart apart o r) [
      | inl e ↦ e
      | inr e ↦ let unused : ¬ P = λ p. e (one p ∙ sym (other p)) in gone unused ∙ sym (lost unused)
    ]

pub trees_same : (t u : Tree) → t.objects ≡ u.objects → t.bytes ≡ u.bytes → t.attributes ≡ u.attributes → t.descriptors ≡ u.descriptors → t ≡ u
trees_same t u objects bytes attributes descriptors = λ i. record { objects = objects i; bytes = bytes i; attributes = attributes i; descriptors = descriptors i }

swept_once : (old t u : Tree) → IsSwept old t → IsSwept old u → t ≡ u
swept_once old t u one other =
    trees_same t u (one.objects ∙ sym other.objects)
    (fun_ext {f = t.bytes} {g = u.bytes} (λ n. the_same bytes_apart (IsUsed old n) (t.bytes n) (u.bytes n) (old.bytes n) (λ used. (one.kept n used).0) (λ used. (other.kept n used).0) (λ unused. (one.gone n unused).0) (λ unused. (other.gone n unused).0)))
    (fun_ext {f = t.attributes} {g = u.attributes} (λ n. the_same attributes_apart (IsUsed old n) (t.attributes n) (u.attributes n) (old.attributes n) (λ used. (one.kept n used).1) (λ used. (other.kept n used).1) (λ unused. (one.gone n unused).1) (λ unused. (other.gone n unused).1)))
    (one.descriptors ∙ sym other.descriptors)

pub forgets_once : (old t u : Tree) → ForgetsOpenFiles old t → ForgetsOpenFiles old u → t ≡ u
forgets_once old t u one other =
    trees_same t u (one.objects ∙ sym other.objects)
    (fun_ext {f = t.bytes} {g = u.bytes} (λ n. the_same bytes_apart (HasPath old n) (t.bytes n) (u.bytes n) (old.bytes n) (λ used. (one.kept n used).0) (λ used. (other.kept n used).0) (λ unused. (one.gone n unused).0) (λ unused. (other.gone n unused).0)))
    (fun_ext {f = t.attributes} {g = u.attributes} (λ n. the_same attributes_apart (HasPath old n) (t.attributes n) (u.attributes n) (old.attributes n) (λ used. (one.kept n used).1) (λ used. (other.kept n used).1) (λ unused. (one.gone n unused).1) (λ unused. (other.gone n unused).1)))
    (one.descriptors ∙ sym other.descriptors)

once_swept : (r : Reply) (t : Tree) (need : Need) → Once (changes_swept r t need)
once_swept r t need a b u w m n one other = record { reply = one.0 ∙ sym other.0; tree = swept_once t u w one.1 other.1; need = one.2 ∙ sym other.2 }

once_tested : (t : Tree) (tests : Tests) (rest : Outcome) → Once rest → Once (tested t tests rest)
once_tested t tests rest once =
    elim (first_refusal tests) as (λ o. Once (elim o as (λ _. Outcome) [ Some errno ↦ refuses t errno | None ↦ rest ])) [
      | Some errno ↦ once_refuses t errno
      | None ↦ once
    ]

once_test : (t : Tree) (b : Bool) (e : Errno) (rest : Outcome) → Once rest → Once (tested t ((b, e) ∷ []) rest)
once_test t b e rest once = once_tested t ((b, e) ∷ []) rest once

once_two : (t : Tree) (a b : Bool) (e f : Errno) (rest : Outcome) → Once rest → Once (tested t ((a, e) ∷ (b, f) ∷ []) rest)
once_two t a b e f rest once = once_tested t ((a, e) ∷ (b, f) ∷ []) rest once

once_either : (b : Bool) (x y : Outcome) → Once x → Once y → Once (either b x y)
once_either true x y once other = once
once_either false x y once other = other

never_once : Once (λ _ _ _. ⊥)
never_once a b t u m n one other = absurd one

once_leads : (t : Tree) (r : Resolution) (there : Path → Object → Outcome) (gone : Path → Name → Outcome) → ((p : Path) (o : Object) → Once (there p o)) → ((p : Path) (name : Name) → Once (gone p name)) → Once (leads t r there gone)
once_leads t (refused errno) there gone at_there at_gone = once_refuses t errno
once_leads t (missing p name) there gone at_there at_gone = at_gone p name
once_leads t (named p) there gone at_there at_gone =
    elim (t.objects p) as (λ o. Once (elim o as (λ _. Outcome) [ Some o ↦ there p o | None ↦ λ _ _ _. ⊥ ])) [
      | Some o ↦ at_there p o
      | None ↦ never_once
    ]

-- what has a number stands at a path
pub numbered_path : (t : Tree) (n : ℕ) (o : Object) → HasNumber t n o → HasPath t n
numbered_path t n o (p, is, number) = (p, o, is, number)

once_numbered : (t : Tree) (n : ℕ) (rest : Object → Outcome) → ((o : Object) → Once (rest o)) → Once (with_number t n rest)
once_numbered t n rest once a b u w m k (inl (o, is, done)) (inl (r, another, again)) =
    once o a b u w m k done (subst (λ (x : Object). rest x b w k) (is.only r another.has) again)
once_numbered t n rest once a b u w m k (inl (o, is, done)) (inr (unused, again)) = absurd (unused (numbered_path t n o is.has))
once_numbered t n rest once a b u w m k (inr (unused, done)) (inl (o, is, again)) = absurd (unused (numbered_path t n o is.has))
once_numbered t n rest once a b u w m k (inr (unused, done)) (inr (lost, again)) = once_refuses t ESTALE a b u w m k done again

once_from : (t : Tree) (follow : Bool) (names : List Name) (there : Path → Object → Outcome) (gone : Path → Name → Outcome) → ((p : Path) (o : Object) → Once (there p o)) → ((p : Path) (name : Name) → Once (gone p name))
    → (o : Object) → Once (leads_from t follow names there gone o)
once_from t follow names there gone at_there at_gone (directory n) = λ a b u w m k one other.
    once_leads t (resolve_within 0 t follow one.0 names) there gone at_there at_gone a b u w m k one.2
    (subst (λ (x : Path). leads t (resolve_within 0 t follow x names) there gone b w k) (one.1.only other.0 other.1.stands) other.2)
once_from t follow names there gone at_there at_gone (symlink n text) =
    once_either (is_empty names) _ _ (once_either follow _ _ (once_refuses t ELOOP) (at_there [] (symlink n text))) (once_refuses t ENOTDIR)
once_from t follow names there gone at_there at_gone (file n) =
    once_either (is_empty names) _ _ (at_there [] (file n)) (once_refuses t ENOTDIR)

once_along : (t : Tree) (follow : Bool) (text : List ℕ) (there : Path → Object → Outcome) (gone : Path → Name → Outcome) → ((p : Path) (o : Object) → Once (there p o)) → ((p : Path) (name : Name) → Once (gone p name))
    → Once (goes_along t follow text there gone)
once_along t follow text there gone at_there at_gone =
    elim (start_number text) as (λ o. Once (elim o as (λ _. Outcome) [
      | None ↦ leads t (resolve t follow text) there gone
      | Some n ↦ with_number t n (leads_from t follow (parts_behind text) there gone)
    ])) [
      | None ↦ once_leads t (resolve t follow text) there gone at_there at_gone
      | Some n ↦ once_numbered t n _ (once_from t follow (parts_behind text) there gone at_there at_gone)
    ]

once_to : (t : Tree) (follow : Bool) (text : List ℕ) (there : Path → Object → Outcome) → ((p : Path) (o : Object) → Once (there p o)) → Once (goes_to t follow text there)
once_to t follow text there once = once_along t follow text there (λ p name. refuses t ENOENT) once (λ p name. once_refuses t ENOENT)

once_names : (t : Tree) (p : Path) (rest : List Name → Outcome) → ((names : List Name) → Once (rest names)) → Once (with_names t p rest)
once_names t p rest once a b u w m n (names, listing, done) (others, another, again) =
    once names a b u w m n done (subst (λ (l : List Name). rest l b w n) (listing_once t p others names another listing) again)

once_place : (limits : Limits) (t : Tree) (p : Path) (rest : Outcome) → Once rest → Once (with_place limits t p rest)
once_place limits t p rest once = once_names t p _ (λ names. once_test t (nat_le limits.directory_names (length names)) DIRFULL rest once)

fresh_once : (limits : Limits) (t : Tree) (k l : ℕ) → IsFresh limits t k → IsFresh limits t l → k ≡ l
fresh_once limits t k l one other =
    elim (cases_order k l) [
      | inl e ↦ e
      | inr apart ↦ elim apart [ inl lt ↦ absurd (one.free (other.least k one.low lt)) | inr lt ↦ absurd (other.free (one.least l other.low lt)) ]
    ]

found_once : (limits : Limits) (t : Tree) (o r : Option ℕ) → MatchOption o (HasNoFresh limits t) (IsFresh limits t) → MatchOption r (HasNoFresh limits t) (IsFresh limits t) → o ≡ r
found_once limits t None None one other = refl
found_once limits t None (Some l) none other = absurd (other.free (none l other.low other.high))
found_once limits t (Some k) None one none = absurd (one.free (none k one.low one.high))
found_once limits t (Some k) (Some l) one other = ap (λ n. Some n) (fresh_once limits t k l one other)

once_number : (t : Tree) (rest : ℕ → Outcome) (o : Option ℕ) → ((n : ℕ) → Once (rest n)) → Once (at_number t rest o)
once_number t rest None once = once_refuses t NONUMBER
once_number t rest (Some n) once = once n

once_fresh : (limits : Limits) (t : Tree) (rest : ℕ → Outcome) → ((n : ℕ) → Once (rest n)) → Once (with_fresh limits t rest)
once_fresh limits t rest once a b u w m n (o, is, done) (r, another, again) =
    once_number t rest o once a b u w m n done (subst (λ (k : Option ℕ). at_number t rest k b w n) (found_once limits t r o another is) again)

links_once : (t : Tree) (o : Object) (k l : ℕ) → HasLinks t o k → HasLinks t o l → k ≡ l
links_once t (directory n) k l one other = one ∙ sym other
links_once t (symlink n text) k l one other = one ∙ sym other
links_once t (file n) k l one other = counts_once (λ p. t.objects p ≡ Some (file n)) path_apart k l one other

once_links : (t : Tree) (o : Object) (rest : ℕ → Outcome) → ((n : ℕ) → Once (rest n)) → Once (with_links t o rest)
once_links t o rest once a b u w m n (count, is, done) (other, another, again) =
    once count a b u w m n done (subst (λ (k : ℕ). rest k b w n) (links_once t o other count another is) again)

once_described : (t : Tree) (fd : ℕ) (rest : Description → Outcome) → ((f : Description) → Once (rest f)) → Once (described t fd rest)
once_described t fd rest once =
    elim (t.descriptors fd) as (λ o. Once (elim o as (λ _. Outcome) [ Some f ↦ rest f | None ↦ refuses t EBADF ])) [
      | Some f ↦ once f
      | None ↦ once_refuses t EBADF
    ]

once_by_kind : (o : Object) (a : ℕ → Outcome) (b : ℕ → List ℕ → Outcome) (c : ℕ → Outcome) → ((n : ℕ) → Once (a n)) → ((n : ℕ) (text : List ℕ) → Once (b n text)) → ((n : ℕ) → Once (c n)) → Once (elim o as (λ _. Outcome) [ directory n ↦ a n | symlink n text ↦ b n text | file n ↦ c n ])
once_by_kind (directory n) a b c once_a once_b once_c = once_a n
once_by_kind (symlink n text) a b c once_a once_b once_c = once_b n text
once_by_kind (file n) a b c once_a once_b once_c = once_c n

-- the calls

once_tells : (t : Tree) (o : Object) → Once (reading.tells_stat t o)
once_tells t o = once_links t o _ (λ links. once_answers t _)

once_stat : (limits : Limits) (t : Tree) (follow : Bool) (path : List ℕ) → Once (reading.stats limits t follow path)
once_stat limits t follow path = once_tested t (text_tests limits path) _ (once_to t follow path _ (λ p o. once_tells t o))

once_attributes : (t : Tree) (o : Object) → Once (reading.tells_attributes t o)
once_attributes t o = once_links t o _ (λ links. once_answers t _)

once_attr : (limits : Limits) (t : Tree) (follow : Bool) (path : List ℕ) → Once (reading.attributes limits t follow path)
once_attr limits t follow path =
    once_tested t (reading.attribute_tests limits ++ text_tests limits path) _ (once_to t follow path _ (λ p o. once_attributes t o))

once_list : (limits : Limits) (t : Tree) (path : List ℕ) → Once (reading.lists limits t path)
once_list limits t path =
    once_tested t (text_tests limits path) _
    (once_to t true path _ (λ p o. once_by_kind o _ _ _ (λ n. once_names t p _ (λ names. once_answers t _)) (λ n text. once_refuses t ENOTDIR) (λ n. once_refuses t ENOTDIR)))

-- the part of a directory's names, and what is told of them, is one
part_once : (names : List Name) (after count : ℕ) (k l : List Name) → IsPart names after count k → IsPart names after count l → k ≡ l
part_once names after count k l one other =
    members_once cookie_cmp cookie_total k l one.sorted other.sorted (λ x has. (other.whole x).1 ((one.whole x).0 has)) (λ x has. (one.whole x).1 ((other.whole x).0 has))

entry_once : (t : Tree) (p : Path) (x : Name) (d e : Entry) → TellsEntry t p x d → TellsEntry t p x e → d ≡ e
entry_once t p x d e one other =
    let object : one.object ≡ other.object = some_same (sym one.there ∙ other.there) in
    let links : d.stat.links ≡ e.stat.links = links_once t one.object d.stat.links e.stat.links one.links (subst (λ (o : Object). HasLinks t o e.stat.links) (sym object) other.links) in
    let stat : d.stat ≡ e.stat =
    one.stat ∙ ap (λ (o : Object). stat_of t o d.stat.links) object ∙ ap (λ (k : ℕ). stat_of t other.object k) links ∙ sym other.stat in
    entries_same d e (one.name ∙ sym other.name) (one.cookie ∙ sym other.cookie) stat
  where
    entries_same : (d e : Entry) → d.name ≡ e.name → d.cookie ≡ e.cookie → d.stat ≡ e.stat → d ≡ e
    entries_same d e name cookie stat = λ i. record { cookie = cookie i; name = name i; stat = stat i }

told_once : (t : Tree) (p : Path) (names : List Name) (k l : List Entry) → TellsEntries t p names k → TellsEntries t p names l → k ≡ l
told_once t p [] [] [] one other = refl
told_once t p [] [] (e ∷ l) one other = absurd other
told_once t p [] (d ∷ k) l one other = absurd one
told_once t p (x ∷ names) [] l one other = absurd one
told_once t p (x ∷ names) (d ∷ k) [] one other = absurd other
told_once t p (x ∷ names) (d ∷ k) (e ∷ l) one other =
    let first : d ≡ e = entry_once t p x d e one.0 other.0 in
    let rest : k ≡ l = told_once t p names k l one.1 other.1 in
    ap (λ (z : Entry). z ∷ k) first ∙ ap (λ (z : List Entry). e ∷ z) rest

once_part : (t : Tree) (p : Path) (names : List Name) (after count : ℕ) (rest : List Entry → Outcome) → ((entries : List Entry) → Once (rest entries)) → Once (with_part t p names after count rest)
once_part t p names after count rest once a b u w m n (told, entries, part, each, done) (others, listed, another, all, again) =
    let same : others ≡ told = part_once names after count others told another part in
    let one : listed ≡ entries = told_once t p told listed entries (subst (λ (l : List Name). TellsEntries t p l listed) same all) each in
    once entries a b u w m n done (subst (λ (l : List Entry). rest l b w n) one again)

once_entries : (limits : Limits) (t : Tree) (path : List ℕ) (after : ℤ) (count : ℕ) → Once (reading.tells_entries limits t path after count)
once_entries limits t path after count =
    once_tested t (text_tests_then limits ((reading.is_negative after || count == 0 || nat_lt ENTRIES_TOLD count, EINVAL) ∷ []) path) _
    (once_to t true path _ (λ p o. once_by_kind o _ _ _ (λ n. once_names t p _ (λ names. once_part t p names (nat_abs after) count _ (λ entries. once_answers t _))) (λ n text. once_refuses t ENOTDIR) (λ n. once_refuses t ENOTDIR)))

once_readlink : (limits : Limits) (t : Tree) (path : List ℕ) → Once (reading.reads_link limits t path)
once_readlink limits t path =
    once_tested t (text_tests limits path) _
    (once_to t false path _ (λ p o. once_by_kind o _ _ _ (λ n. once_refuses t EINVAL) (λ n text. once_answers t _) (λ n. once_refuses t EINVAL)))

once_get : (limits : Limits) (t : Tree) (path : List ℕ) (offset : ℤ) (count : ℕ) → Once (reading.gets limits t path offset count)
once_get limits t path offset count =
    once_tested t (text_tests_then limits ((reading.is_negative offset || reading.is_too_many count, EINVAL) ∷ []) path) _
    (once_to t true path _ (λ p o. once_by_kind o _ _ _ (λ n. once_refuses t EISDIR) (λ n text. never_once) (λ n. once_answers t _)))

once_creates : (limits : Limits) (now : Option Time) (t : Tree) (path : List ℕ) (make : Path → ℕ → Tree → Tree) → Once (changing.creates limits now t path make)
once_creates limits now t path make =
    once_tested t (new_text_tests limits path) _
    (once_along t false path _ _ (λ p o. once_refuses t EEXIST) (λ p name. once_place limits t p _ (once_fresh limits t _ (λ n. once_changes _ _ _))))

once_symlink : (limits : Limits) (now : Option Time) (t : Tree) (text path : List ℕ) (permissions : Permissions) → Once (changing.makes_symlink limits now t text path permissions)
once_symlink limits now t text path permissions =
    once_tested t (changing.link_text_tests limits text) _ (once_creates limits now t path (λ p n. with_symlink p n permissions text))

once_removes : (now : Option Time) (t : Tree) (p : Path) → Once (changing.removes now t p)
once_removes now t p = once_swept _ _ _

once_rmdir : (limits : Limits) (now : Option Time) (t : Tree) (path : List ℕ) → Once (changing.removes_directory limits now t path)
once_rmdir limits now t path =
    once_tested t (new_text_tests limits path ++ (is_root_text path, EBUSY) ∷ []) _
    (once_to t false path _ (λ p o. once_by_kind o _ _ _ (λ n. once_names t p _ (λ names. once_test t _ ENOTEMPTY _ (once_removes now t p))) (λ n text. once_refuses t ENOTDIR) (λ n. once_refuses t ENOTDIR)))

once_unlink : (limits : Limits) (now : Option Time) (t : Tree) (path : List ℕ) → Once (changing.unlinks limits now t path)
once_unlink limits now t path =
    once_tested t (new_text_tests limits path) _
    (once_to t false path _ (λ p o. once_test t _ EPERM _ (once_removes now t p)))

once_link : (limits : Limits) (now : Option Time) (t : Tree) (old path : List ℕ) → Once (changing.links limits now t old path)
once_link limits now t old path =
    once_tested t (text_tests limits old ++ new_text_tests limits path) _
    (once_to t false old _ (λ p o. once_by_kind o _ _ _ (λ n. once_refuses t EPERM) (λ n text. once_refuses t EPERM) (λ n.
    once_along t false path _ _ (λ q r. once_refuses t EEXIST) (λ q name.
    once_links t (file n) _ (λ count. once_test t _ EMLINK _ (once_place limits t q _ (once_changes _ _ _)))))))

once_target : (limits : Limits) (t : Tree) (p q : Path) (r : Option Object) (rest : Outcome) → Once rest → Once (changing.with_target limits t p q r rest)
once_target limits t p q None rest once = once_either _ rest _ once (once_place limits t _ rest once)
once_target limits t p q (Some (directory n)) rest once = once_names t q _ (λ names. once_test t (not (is_empty names)) ENOTEMPTY rest once)
once_target limits t p q (Some (symlink n text)) rest once = once
once_target limits t p q (Some (file n)) rest once = once

once_moves : (limits : Limits) (now : Option Time) (t : Tree) (p : Path) (o : Object) (q : Path) → Once (changing.moves limits now t p o q)
once_moves limits now t p o q =
    once_either _ _ _ (once_answers t _) (once_tested t (changing.move_tests p o q (t.objects q)) _ (once_target limits t p q (t.objects q) _ (once_swept _ _ _)))

once_rename : (limits : Limits) (now : Option Time) (t : Tree) (only_new : Bool) (old path : List ℕ) → Once (changing.renames limits now t only_new old path)
once_rename limits now t only_new old path =
    once_tested t (new_text_tests limits old ++ new_text_tests limits path ++ (is_root_text old || is_root_text path, EBUSY) ∷ []) _
    (once_to t false old _ (λ p o. once_along t false path _ _ (λ q r. once_test t only_new EEXIST _ (once_moves limits now t p o q)) (λ q name. once_moves limits now t p o (q ++ name ∷ []))))

once_chmod : (limits : Limits) (now : Option Time) (t : Tree) (path : List ℕ) (mode : ℕ) → Once (changing.changes_mode limits now t path mode)
once_chmod limits now t path mode =
    once_tested t (text_tests limits path) _
    (once_to t true path _ (λ p o. once_by_kind o _ _ _ (λ n. once_changes _ _ _) (λ n text. never_once) (λ n. once_changes _ _ _)))

once_owners : (now : Option Time) (t : Tree) (n : ℕ) (owner group : Option ℕ) → Once (changing.gives_owners now t n owner group)
once_owners now t n owner group = once_either _ _ _ (once_answers t _) (once_changes _ _ _)

once_time : (now : Option Time) (t : Tree) (n : ℕ) (time : Option Time) → Once (changing.gives_time now t n time)
once_time now t n None = once_answers t _
once_time now t n (Some time) = once_changes _ _ _

once_chown : (limits : Limits) (now : Option Time) (t : Tree) (follow : Bool) (path : List ℕ) (owner group : Option ℕ) → Once (changing.changes_owners limits now t follow path owner group)
once_chown limits now t follow path owner group =
    once_tested t (reading.attribute_tests limits ++ text_tests limits path) _
    (once_to t follow path _ (λ p o. once_owners now t (number_of_object o) owner group))

once_utimens : (limits : Limits) (now : Option Time) (t : Tree) (follow : Bool) (path : List ℕ) (time : NewTime) → Once (changing.changes_times limits now t follow path time)
once_utimens limits now t follow path time =
    once_tested t (reading.attribute_tests limits ++ text_tests limits path ++ changing.time_tests time) _
    (once_to t follow path _ (λ p o. once_time now t (number_of_object o) (changing.meant_time now time)))

once_truncate : (limits : Limits) (now : Option Time) (t : Tree) (path : List ℕ) (size : ℤ) → Once (changing.truncates limits now t path size)
once_truncate limits now t path size =
    once_tested t (text_tests_then limits (changing.size_tests limits size) path) _
    (once_to t true path _ (λ p o. once_by_kind o _ _ _ (λ n. once_refuses t EISDIR) (λ n text. never_once) (λ n. once_changes _ _ _)))

once_sets_mode : (now : Option Time) (t : Tree) (n : ℕ) (mode : Option ℕ) → Once (changing.sets_mode now t n mode)
once_sets_mode now t n None = once_answers t _
once_sets_mode now t n (Some mode) = once_changes _ _ _

once_sets_file : (now : Option Time) (t : Tree) (n : ℕ) (mode : Option ℕ) (size : Option ℤ) → Once (changing.sets_file now t n mode size)
once_sets_file now t n mode None = once_sets_mode now t n mode
once_sets_file now t n None (Some size) = once_changes _ _ _
once_sets_file now t n (Some mode) (Some size) = once_either _ _ _ (once_changes _ _ _) (once_changes _ _ _)

once_set : (limits : Limits) (now : Option Time) (t : Tree) (path : List ℕ) (settings : Settings) → Once (changing.sets limits now t path settings)
once_set limits now t path settings =
    once_tested t (text_tests_then limits (changing.given_size_tests limits settings.size) path) _
    (once_to t true path _ (λ p o. once_by_kind o _ _ _ (λ n. once_test t _ EISDIR _ (once_sets_mode now t n settings.mode)) (λ n text. never_once) (λ n. once_sets_file now t n settings.mode settings.size)))

once_opens_file : (tells : Bool) (n : ℕ) (flags : Flags) (fd : ℕ) (t : Tree) (need : Need) → Once (descriptors.opens_file tells n flags fd t need)
once_opens_file tells n flags fd t need =
    let opened : Tree = with_descriptor fd (Some (descriptors.described_by n flags)) t in
    once_either tells _ _ (once_links opened (file n) _ (λ links. once_changes _ opened need)) (once_changes _ opened need)

once_opens_object : (tells : Bool) (now : Option Time) (t : Tree) (o : Object) (flags : Flags) (fd : ℕ) → Once (descriptors.opens_object tells now t o flags fd)
once_opens_object tells now t o flags fd =
    once_test t _ EEXIST _ (once_by_kind o _ _ _ (λ n. once_refuses t EISDIR) (λ n text. never_once) (λ n. once_either _ _ _ (once_opens_file tells n flags fd _ _) (once_opens_file tells n flags fd _ _)))

once_opens_new : (tells : Bool) (limits : Limits) (now : Option Time) (t : Tree) (p : Path) (name : Name) (flags : Flags) (permissions : Permissions) (fd : ℕ) → Once (descriptors.opens_new tells limits now t p name flags permissions fd)
once_opens_new tells limits now t p name flags permissions fd =
    once_test t _ ENOENT _ (once_place limits t p _ (once_fresh limits t _ (λ n. once_opens_file tells n flags fd _ _)))

pub once_open : (tells : Bool) (below : ℕ) (limits : Limits) (now : Option Time) (t : Tree) (path : List ℕ) (flags : Flags) (permissions : Permissions) → Once (descriptors.opens tells below limits now t path flags permissions)
once_open tells below limits now t path flags permissions =
    once_tested t (text_tests_then limits (descriptors.open_tests flags) path) _
    (elim (lowest_free t.descriptors (min below OPEN_FILES)) as (λ o. Once (elim o as (λ _. Outcome) [
      | None ↦ refuses t EMFILE
      | Some fd ↦ goes_along t (not (flags.creates && flags.exclusive)) path (λ p o. descriptors.opens_object tells now t o flags fd) (λ p name. descriptors.opens_new tells limits now t p name flags permissions fd)
    ])) [
      | None ↦ once_refuses t EMFILE
      | Some fd ↦ once_along t (not (flags.creates && flags.exclusive)) path _ _ (λ p o. once_opens_object tells now t o flags fd) (λ p name. once_opens_new tells limits now t p name flags permissions fd)
    ])

once_puts : (limits : Limits) (now : Option Time) (t : Tree) (n offset : ℕ) (given : List ℕ) (also : Tree → Tree) → Once (descriptors.puts limits now t n offset given also)
once_puts limits now t n offset given also = once_either _ _ _ (once_answers t _) (once_test t _ EFBIG _ (once_changes _ _ _))

once_store : (limits : Limits) (now : Option Time) (t : Tree) (path : List ℕ) (offset : ℤ) (given : List ℕ) → Once (descriptors.stores limits now t path offset given)
once_store limits now t path offset given =
    once_tested t (text_tests_then limits ((reading.is_negative offset || reading.is_too_many (length given), EINVAL) ∷ []) path) _
    (once_to t true path _ (λ p o. once_by_kind o _ _ _ (λ n. once_refuses t EISDIR) (λ n text. never_once) (λ n. once_puts limits now t n (nat_abs offset) given (λ after. after))))

once_with_extent : (t : Tree) (stored : ℕ → Bool) (n offset : ℕ) → Once (reading.with_extent t stored n offset)
once_with_extent t stored n offset a b u v m k (extent, tells, done) (other, again, also) =
    let same : extent ≡ other = extent_once stored (length (contents t n)) offset extent other tells again in
    once_answers t (reply.Extent other) a b u v m k (subst (λ (e : Extent). answers t (reply.Extent e) a u m) same done) also

pub once_extent : (limits : Limits) (t : Tree) (stored : ℕ → ℕ → Bool) (path : List ℕ) (offset : ℤ) → Once (reading.tells_extent limits t stored path offset)
once_extent limits t stored path offset =
    once_tested t (text_tests_then limits ((reading.is_negative offset, EINVAL) ∷ []) path) _
    (once_to t true path _ (λ p o. once_by_kind o _ _ _ (λ n. once_refuses t EISDIR) (λ n text. never_once) (λ n. once_with_extent t (stored n) n (nat_abs offset))))

pub once_close : (t : Tree) (fd : ℕ) → Once (descriptors.closes t fd)
once_close t fd = once_described t fd _ (λ f. once_swept _ _ _)

pub once_read : (t : Tree) (fd count : ℕ) → Once (descriptors.reads t fd count)
once_read t fd count = once_described t fd _ (λ f. once_two t _ _ EBADF EINVAL _ (once_changes _ _ _))

pub once_write : (limits : Limits) (now : Option Time) (t : Tree) (fd : ℕ) (given : List ℕ) → Once (descriptors.writes limits now t fd given)
once_write limits now t fd given =
    once_described t fd _ (λ f.
    let offset = if f.appends then length (contents t f.number) else f.offset in
    once_two t (not f.writes) (reading.is_too_many (length given)) EBADF EINVAL (descriptors.puts limits now t f.number offset given (descriptors.with_offset fd f (offset + length given)))
    (once_puts limits now t f.number offset given (descriptors.with_offset fd f (offset + length given))))

pub once_pread : (t : Tree) (fd : ℕ) (offset : ℤ) (count : ℕ) → Once (descriptors.reads_from t fd offset count)
once_pread t fd offset count = once_described t fd _ (λ f. once_two t _ _ EBADF EINVAL _ (once_answers t _))

pub once_pwrite : (limits : Limits) (now : Option Time) (t : Tree) (fd : ℕ) (offset : ℤ) (given : List ℕ) → Once (descriptors.writes_to limits now t fd offset given)
once_pwrite limits now t fd offset given =
    once_described t fd _ (λ f.
    once_two t (not f.writes) (reading.is_negative offset || reading.is_too_many (length given)) EBADF EINVAL (descriptors.puts limits now t f.number (nat_abs offset) given (λ after. after))
    (once_puts limits now t f.number (nat_abs offset) given (λ after. after)))

pub once_seek : (t : Tree) (fd : ℕ) (from : Whence) (offset : ℤ) → Once (descriptors.seeks t fd from offset)
once_seek t fd from offset = once_described t fd _ (λ f. once_two t _ _ EINVAL EOVERFLOW _ (once_changes _ _ _))

pub once_ftruncate : (limits : Limits) (now : Option Time) (t : Tree) (fd : ℕ) (size : ℤ) → Once (descriptors.truncates_open limits now t fd size)
once_ftruncate limits now t fd size = once_described t fd _ (λ f. once_tested t ((not f.writes, EINVAL) ∷ changing.size_tests limits size) (changing.truncates_file now t f.number (nat_abs size)) (once_changes _ _ _))

pub once_fchmod : (now : Option Time) (t : Tree) (fd mode : ℕ) → Once (descriptors.changes_open_mode now t fd mode)
once_fchmod now t fd mode = once_described t fd _ (λ f. once_changes _ _ _)

pub once_fchown : (limits : Limits) (now : Option Time) (t : Tree) (fd : ℕ) (owner group : Option ℕ) → Once (descriptors.changes_open_owners limits now t fd owner group)
once_fchown limits now t fd owner group =
    once_tested t (reading.attribute_tests limits) _ (once_described t fd _ (λ f. once_owners now t f.number owner group))

pub once_futimens : (limits : Limits) (now : Option Time) (t : Tree) (fd : ℕ) (time : NewTime) → Once (descriptors.changes_open_times limits now t fd time)
once_futimens limits now t fd time =
    once_tested t (reading.attribute_tests limits) _
    (once_described t fd _ (λ f. once_tested t (changing.time_tests time) _ (once_time now t f.number (changing.meant_time now time))))

pub once_fstat : (t : Tree) (fd : ℕ) → Once (descriptors.stats_open t fd)
once_fstat t fd = once_described t fd _ (λ f. once_tells t (file f.number))

pub once_fattr : (limits : Limits) (t : Tree) (fd : ℕ) → Once (descriptors.attributes_open limits t fd)
once_fattr limits t fd = once_tested t (reading.attribute_tests limits) _ (once_described t fd _ (λ f. once_attributes t (file f.number)))

pub once_fsync : (t : Tree) (fd : ℕ) → Once (descriptors.syncs_open t fd)
once_fsync t fd = once_described t fd _ (λ f. once_answers t _)

pub once_path : (limits : Limits) (said : Session) (t : Tree) (c : PathCall) → Once (calls limits said t c)
once_path limits said t (call.List path) = once_list limits t path
once_path limits said t (call.Entries path after count) = once_entries limits t path after count
once_path limits said t (call.Stat path) = once_stat limits t true path
once_path limits said t (call.Lstat path) = once_stat limits t false path
once_path limits said t (call.Attr path follow) = once_attr limits t follow path
once_path limits said t (call.Readlink path) = once_readlink limits t path
once_path limits said t (call.Get path offset count) = once_get limits t path offset count
once_path limits said t (call.Mkdir path mode) = once_creates limits (call_time limits said) t path (λ p n. with_directory p n (new_permissions limits said mode))
once_path limits said t (call.Rmdir path) = once_rmdir limits (call_time limits said) t path
once_path limits said t (call.Unlink path) = once_unlink limits (call_time limits said) t path
once_path limits said t (call.Link old path) = once_link limits (call_time limits said) t old path
once_path limits said t (call.Symlink text path) = once_symlink limits (call_time limits said) t text path (new_permissions limits said LINK_MODE)
once_path limits said t (call.Rename old path) = once_rename limits (call_time limits said) t false old path
once_path limits said t (call.RenameNew old path) = once_rename limits (call_time limits said) t true old path
once_path limits said t (call.Chmod path mode) = once_chmod limits (call_time limits said) t path mode
once_path limits said t (call.Chown path follow owner group) = once_chown limits (call_time limits said) t follow path owner group
once_path limits said t (call.Utimens path follow time) = once_utimens limits (call_time limits said) t follow path time
once_path limits said t (call.Truncate path size) = once_truncate limits (call_time limits said) t path size
once_path limits said t (call.Store path offset given) = once_store limits (call_time limits said) t path offset given
once_path limits said t (call.Set path settings) = once_set limits (call_time limits said) t path settings
