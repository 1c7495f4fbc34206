-- Own refusals, none of which tells of devices, memory or room: the steps that calls are told by.
use Rattle.std.proofs.Common.{◌≡◌, inl, inr, ℕ, zero, suc, List, [], ◌∷◌, ◌++◌, Bool, true, false, not, ◌&&◌, ◌||◌, cond, Option, Some, None, refl, sym, ap, subst, ◌∙◌}
use Rattle.std.specs.Prelude.{if◌then◌else◌, nat_le, length}
use Rattle.std.proofs.lemmas.Bool.{cond_both}
use Rattle.model.specs.declared.limits.Limits.{Limits}
use Rattle.model.specs.declared.limits.TheConstants.{LINKS_FOLLOWED}
use Rattle.model.specs.declared.errno.Errno.{Errno}
use Rattle.model.specs.declared.errno.Errno.TheVariants.{ENOENT, ENOTDIR, EINVAL, ENAMETOOLONG, ELOOP, EBADF, DIRFULL, NONUMBER, ESTALE}
use Rattle.model.specs.declared.reply.Reply.{Reply}
use Rattle.model.specs.declared.reply.Reply.TheVariants as reply
use Rattle.model.specs.Paths.{Name, Path, parts, is_empty, is_dot, is_dot_dot, last_part, starts_with_slash, is_number_alone, parts_behind, start_number, Tests, first_refusal, text_tests_then, text_tests, new_text_tests}
use Rattle.model.specs.Trees.{Tree, Object, directory, symlink, file, Description}
use Rattle.model.specs.Resolution.{Resolution, named, missing, refused, Next, into, over, link, absent, too_long, next, Stop, at, at_link, walk, go_on, resolve_within, resolve}
use Rattle.model.specs.Room.{Need, nothing}
use Rattle.model.specs.Outcomes.{Outcome, answers, refuses, changes, changes_swept, tested, either, leads, leads_from, goes_along, goes_to, with_number, with_names, with_place, at_number, with_fresh, with_links, described}
use Rattle.model.specs.Laws.{is_own}

-- a refusal is one of its own, and nothing changes
abbrev pub Own : Tree → Outcome → Type 0
Own t outcome =
    (answer : Reply) (new : Tree) (need : Need) → outcome answer new need → (errno : Errno) → answer ≡ reply.Refused errno
    → (is_own errno ≡ true) × (new ≡ t) × (need ≡ nothing)

-- resolution

abbrev AnswersOwn : Resolution → Type 0
AnswersOwn (named p) = Unit {0}
AnswersOwn (missing p n) = Unit {0}
AnswersOwn (refused errno) = is_own errno ≡ true

abbrev StopsOwn : Stop → Type 0
StopsOwn (at r) = AnswersOwn r
StopsOwn (at_link p text rest) = Unit {0}

abbrev after : Tree → Bool → Path → Name → List Name → Next → Stop
after t follow p part rest (into q) = walk t follow q rest
after t follow p part rest (over q) = at (cond (is_empty rest) (named q) (refused ENOTDIR))
after t follow p part rest (link text) = cond (is_empty rest && not follow) (at (named (p ++ part ∷ []))) (at_link p text rest)
after t follow p part rest absent = at (cond (is_empty rest) (missing p part) (refused ENOENT))
after t follow p part rest too_long = at (refused ENAMETOOLONG)

walk_own : (t : Tree) (follow : Bool) (names : List Name) (p : Path) → StopsOwn (walk t follow p names)
walk_own t follow [] p = tt
walk_own t follow (part ∷ rest) p =
    elim (next t p part) as (λ n. StopsOwn (after t follow p part rest n)) [
      | into q ↦ walk_own t follow rest q
      | over q ↦ cond_both (is_empty rest) (named q) (refused ENOTDIR) AnswersOwn (λ e. tt) (λ e. refl)
      | link text ↦ cond_both (is_empty rest && not follow) (at (named (p ++ part ∷ []))) (at_link p text rest) StopsOwn (λ e. tt) (λ e. tt)
      | absent ↦ cond_both (is_empty rest) (missing p part) (refused ENOENT) AnswersOwn (λ e. tt) (λ e. refl)
      | too_long ↦ refl
    ]

go_on_own : (f : Path → List Name → Resolution) → ((p : Path) (names : List Name) → AnswersOwn (f p names)) → (s : Stop) → StopsOwn s → AnswersOwn (go_on f s)
go_on_own f own (at r) stops = stops
go_on_own f own (at_link p text rest) stops = own (if starts_with_slash text then [] else p) (parts text ++ rest)

within_own : (links : ℕ) (t : Tree) (follow : Bool) (p : Path) (names : List Name) → AnswersOwn (resolve_within links t follow p names)
within_own zero t follow p names = go_on_own (λ _ _. refused ELOOP) (λ _ _. refl) (walk t follow p names) (walk_own t follow names p)
within_own (suc links) t follow p names = go_on_own (resolve_within links t follow) (within_own links t follow) (walk t follow p names) (walk_own t follow names p)

resolve_own : (t : Tree) (follow : Bool) (text : List ℕ) → AnswersOwn (resolve t follow text)
resolve_own t follow text = within_own LINKS_FOLLOWED t follow [] (parts text)

-- the steps

pub refused_same : (a b : Errno) → reply.Refused a ≡ reply.Refused b → a ≡ b
refused_same a b e = cc

pub own_refuses : (t : Tree) (e : Errno) → is_own e ≡ true → Own t (refuses t e)
own_refuses t e own answer new need done errno is = (ap is_own (refused_same errno e (sym is ∙ done.0)) ∙ own, done.1, done.2)

-- a reply that refuses nothing
abbrev pub IsGood : Reply → Type 0
IsGood (reply.Refused errno) = ⊥
IsGood _ = Unit {0}

pub good_own : {X : Type 0} (r : Reply) → IsGood r → (errno : Errno) → r ≡ reply.Refused errno → X
good_own r good errno is = absurd (subst IsGood is good)

pub own_answers : (t : Tree) (r : Reply) → IsGood r → Own t (answers t r)
own_answers t r good answer new need done errno is = good_own r good errno (sym done.0 ∙ is)

pub own_changes : (old : Tree) (r : Reply) (t : Tree) (n : Need) → IsGood r → Own old (changes r t n)
own_changes old r t n good answer new need done errno is = good_own r good errno (sym done.0 ∙ is)

pub own_swept : (old : Tree) (r : Reply) (t : Tree) (n : Need) → IsGood r → Own old (changes_swept r t n)
own_swept old r t n good answer new need done errno is = good_own r good errno (sym done.0 ∙ is)

abbrev pub TestsOwn : Tests → Type 0
TestsOwn [] = Unit {0}
TestsOwn (test ∷ tests) = (is_own test.1 ≡ true) × TestsOwn tests

abbrev pub RefusesOwn : Option Errno → Type 0
RefusesOwn None = Unit {0}
RefusesOwn (Some errno) = is_own errno ≡ true

pub first_own : (tests : Tests) → TestsOwn tests → RefusesOwn (first_refusal tests)
first_own [] own = tt
first_own (test ∷ tests) own = cond_both test.0 (Some test.1) (first_refusal tests) RefusesOwn (λ e. own.0) (λ e. first_own tests own.1)

pub own_tested : (t : Tree) (tests : Tests) (rest : Outcome) → TestsOwn tests → Own t rest → Own t (tested t tests rest)
own_tested t tests rest own more =
    elim (first_refusal tests) as (λ o. RefusesOwn o → Own t (elim o as (λ _. Outcome) [ Some errno ↦ refuses t errno | None ↦ rest ])) [
      | Some errno ↦ λ is. own_refuses t errno is
      | None ↦ λ is. more
    ] (first_own tests own)

pub own_test : (t : Tree) (b : Bool) (e : Errno) (rest : Outcome) → is_own e ≡ true → Own t rest → Own t (tested t ((b, e) ∷ []) rest)
own_test t b e rest own more = own_tested t ((b, e) ∷ []) rest (own, tt) more

pub own_two : (t : Tree) (a b : Bool) (e f : Errno) (rest : Outcome) → is_own e ≡ true → is_own f ≡ true → Own t rest → Own t (tested t ((a, e) ∷ (b, f) ∷ []) rest)
own_two t a b e f rest own other more = own_tested t ((a, e) ∷ (b, f) ∷ []) rest (own, (other, tt)) more

pub own_three : (t : Tree) (a b d : Bool) (e f g : Errno) (rest : Outcome) → is_own e ≡ true → is_own f ≡ true → is_own g ≡ true → Own t rest → Own t (tested t ((a, e) ∷ (b, f) ∷ (d, g) ∷ []) rest)
own_three t a b d e f g rest own other third more = own_tested t ((a, e) ∷ (b, f) ∷ (d, g) ∷ []) rest (own, (other, (third, tt))) more

pub own_either : (t : Tree) (b : Bool) (x y : Outcome) → Own t x → Own t y → Own t (either b x y)
own_either t true x y own other = own
own_either t false x y own other = other

own_leads : (t : Tree) (r : Resolution) (there : Path → Object → Outcome) (gone : Path → Name → Outcome) → AnswersOwn r → ((p : Path) (o : Object) → Own t (there p o)) → ((p : Path) (name : Name) → Own t (gone p name)) → Own t (leads t r there gone)
own_leads t (refused errno) there gone own at_there at_gone = own_refuses t errno own
own_leads t (missing p name) there gone own at_there at_gone = at_gone p name
own_leads t (named p) there gone own at_there at_gone =
    elim (t.objects p) as (λ o. Own t (elim o as (λ _. Outcome) [ Some o ↦ there p o | None ↦ λ _ _ _. ⊥ ])) [
      | Some o ↦ at_there p o
      | None ↦ λ answer new need never. absurd never
    ]

own_numbered : (t : Tree) (n : ℕ) (rest : Object → Outcome) → ((o : Object) → Own t (rest o)) → Own t (with_number t n rest)
own_numbered t n rest own answer new need (inl (o, is, done)) = own o answer new need done
own_numbered t n rest own answer new need (inr (unused, done)) = own_refuses t ESTALE refl answer new need done

own_from : (t : Tree) (follow : Bool) (names : List Name) (there : Path → Object → Outcome) (gone : Path → Name → Outcome) → ((p : Path) (o : Object) → Own t (there p o)) → ((p : Path) (name : Name) → Own t (gone p name))
    → (o : Object) → Own t (leads_from t follow names there gone o)
own_from t follow names there gone at_there at_gone (directory n) = λ answer new need done.
    own_leads t (resolve_within 0 t follow done.0 names) there gone (within_own 0 t follow done.0 names) at_there at_gone answer new need done.2
own_from t follow names there gone at_there at_gone (symlink n text) =
    own_either t (is_empty names) _ _ (own_either t follow _ _ (own_refuses t ELOOP refl) (at_there [] (symlink n text))) (own_refuses t ENOTDIR refl)
own_from t follow names there gone at_there at_gone (file n) =
    own_either t (is_empty names) _ _ (at_there [] (file n)) (own_refuses t ENOTDIR refl)

pub own_along : (t : Tree) (follow : Bool) (text : List ℕ) (there : Path → Object → Outcome) (gone : Path → Name → Outcome) → ((p : Path) (o : Object) → Own t (there p o)) → ((p : Path) (name : Name) → Own t (gone p name))
    → Own t (goes_along t follow text there gone)
own_along t follow text there gone at_there at_gone =
    elim (start_number text) as (λ o. Own t (elim o as (λ _. Outcome) [
      | None ↦ leads t (resolve t follow text) there gone
      | Some n ↦ with_number t n (leads_from t follow (parts_behind text) there gone)
    ])) [
      | None ↦ own_leads t (resolve t follow text) there gone (resolve_own t follow text) at_there at_gone
      | Some n ↦ own_numbered t n _ (own_from t follow (parts_behind text) there gone at_there at_gone)
    ]

pub own_to : (t : Tree) (follow : Bool) (text : List ℕ) (there : Path → Object → Outcome) → ((p : Path) (o : Object) → Own t (there p o)) → Own t (goes_to t follow text there)
own_to t follow text there own = own_along t follow text there (λ p name. refuses t ENOENT) own (λ p name. own_refuses t ENOENT refl)

pub own_names : (t : Tree) (p : Path) (rest : List Name → Outcome) → ((names : List Name) → Own t (rest names)) → Own t (with_names t p rest)
own_names t p rest own answer new need (names, listing, done) = own names answer new need done

pub own_place : (limits : Limits) (t : Tree) (p : Path) (rest : Outcome) → Own t rest → Own t (with_place limits t p rest)
own_place limits t p rest own = own_names t p _ (λ names. own_test t (nat_le limits.directory_names (length names)) DIRFULL rest refl own)

own_number : (t : Tree) (rest : ℕ → Outcome) (found : Option ℕ) → ((n : ℕ) → Own t (rest n)) → Own t (at_number t rest found)
own_number t rest None own = own_refuses t NONUMBER refl
own_number t rest (Some n) own = own n

pub own_fresh : (limits : Limits) (t : Tree) (rest : ℕ → Outcome) → ((n : ℕ) → Own t (rest n)) → Own t (with_fresh limits t rest)
own_fresh limits t rest own answer new need (found, is, done) = own_number t rest found own answer new need done

pub own_links : (t : Tree) (o : Object) (rest : ℕ → Outcome) → ((n : ℕ) → Own t (rest n)) → Own t (with_links t o rest)
own_links t o rest own answer new need (count, is, done) = own count answer new need done

pub never : (t : Tree) → Own t (λ _ _ _. ⊥)
never t answer new need done = absurd done

pub own_described : (t : Tree) (fd : ℕ) (rest : Description → Outcome) → ((f : Description) → Own t (rest f)) → Own t (described t fd rest)
own_described t fd rest own =
    elim (t.descriptors fd) as (λ o. Own t (elim o as (λ _. Outcome) [ Some f ↦ rest f | None ↦ refuses t EBADF ])) [
      | Some f ↦ own f
      | None ↦ own_refuses t EBADF refl
    ]

-- an outcome by what stands there
pub by_kind : (t : Tree) (o : Object) (a : ℕ → Outcome) (b : ℕ → List ℕ → Outcome) (c : ℕ → Outcome) → ((n : ℕ) → Own t (a n)) → ((n : ℕ) (text : List ℕ) → Own t (b n text)) → ((n : ℕ) → Own t (c n)) → Own t (elim o as (λ _. Outcome) [ directory n ↦ a n | symlink n text ↦ b n text | file n ↦ c n ])
by_kind t (directory n) a b c own_a own_b own_c = own_a n
by_kind t (symlink n text) a b c own_a own_b own_c = own_b n text
by_kind t (file n) a b c own_a own_b own_c = own_c n

pub tests_append : (a b : Tests) → TestsOwn a → TestsOwn b → TestsOwn (a ++ b)
tests_append [] b own more = more
tests_append (test ∷ a) b own more = (own.0, tests_append a b own.1 more)

pub text_own : (limits : Limits) (more : Tests) (text : List ℕ) → TestsOwn more → TestsOwn (text_tests_then limits more text)
text_own limits more text own = (refl, (refl, (refl, (refl, (refl, (refl, (refl, own)))))))

pub plain_own : (limits : Limits) (text : List ℕ) → TestsOwn (text_tests limits text)
plain_own limits text = text_own limits [] text tt

pub new_own : (limits : Limits) (text : List ℕ) → TestsOwn (new_text_tests limits text)
new_own limits text = text_own limits ((is_dot (last_part text) || is_dot_dot (last_part text) || is_number_alone text, EINVAL) ∷ []) text (refl, tt)
