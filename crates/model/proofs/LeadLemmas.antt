-- Where a text leads in a tree: to what is there, or to a name that isn't in a directory that is.
use Rattle.std.proofs.Common.{◌≡◌, ◌≢◌, inl, inr, ℕ, zero, suc, ◌-◌, List, [], ◌∷◌, ◌++◌, length, take, drop, get_or, Bool, true, false, not, ◌&&◌, ◌||◌, cond, Option, Some, None, is_some, IsSome, refl, sym, ap, subst, ◌∙◌, length-append, arith}
use Rattle.std.specs.Prelude.{◌⊎◌, if◌then◌else◌, nat_lt, slice_index_or}
use Rattle.std.specs.List.{AllByRecursion, slice_split, onto_first, filter}
use Rattle.std.proofs.lemmas.Bool.{cases_Bool, cond_both, cond-true, cond-false, false≢true, ne_eqb, eqb-true, lt-ltb, or_parts}
use Rattle.std.proofs.Math.Seq.{take-append_seam}
use Rattle.std.proofs.lemmas.Slice.Eq.{bytes_eq-Decides}
use Rattle.model.specs.declared.limits.Limits.{Limits}
use Rattle.model.specs.declared.limits.TheConstants.{LINKS_FOLLOWED}
use Rattle.model.specs.declared.errno.Errno.TheVariants.{ENOENT, ENOTDIR, ENAMETOOLONG, ELOOP, EINVAL}
use Rattle.model.specs.Paths.{Name, Path, IsName, IsLinkText, Tests, first_refusal, text_tests_then, new_text_tests, parts, is_slash, is_empty, is_dot, is_dot_dot, is_too_long, last_part, starts_with_slash, ends_with_slash, is_number_alone, is_root_text, number_named, parts_behind, starts_at_number}
use Rattle.model.specs.Trees.{Tree, Object, directory, symlink, file, is_directory, IsPathOf, IsTree}
use Rattle.model.specs.Resolution.{Resolution, named, missing, refused, Next, into, over, link, absent, too_long, next, found, parent, Stop, at, at_link, walk, go_on, resolve_within, resolve}
use Rattle.model.proofs.VolumeLemmas.{ends}
use Rattle.model.proofs.NameLemmas.{IsPart, passed_parts, part_is_name, linked_parts}
use Rattle.model.proofs.OptionLaws.{some_none}

-- the tests

-- tests none of which holds
abbrev pub AllPass : Tests → Type 0
AllPass [] = Unit {0}
AllPass (test ∷ tests) = (test.0 ≡ false) × AllPass tests

pub all_passed : (tests : Tests) → first_refusal tests ≡ None → AllPass tests
all_passed [] e = tt
all_passed (test ∷ tests) e =
    elim (cases_Bool test.0) [
      | inl t ↦ some_none (sym (cond-true test.0 (Some test.1) (first_refusal tests) t) ∙ e)
      | inr f ↦ (f, all_passed tests (sym (cond-false test.0 (Some test.1) (first_refusal tests) f) ∙ e))
    ]

pub passed_both : (a b : Tests) → first_refusal (a ++ b) ≡ None → (first_refusal a ≡ None) × (first_refusal b ≡ None)
passed_both [] b e = (refl, e)
passed_both (test ∷ a) b e =
    elim (cases_Bool test.0) [
      | inl t ↦ some_none (sym (cond-true test.0 (Some test.1) (first_refusal (a ++ b)) t) ∙ e)
      | inr f ↦
          let more = passed_both a b (sym (cond-false test.0 (Some test.1) (first_refusal (a ++ b)) f) ∙ e) in
          (cond-false test.0 (Some test.1) (first_refusal a) f ∙ more.0, more.1)
    ]

-- the walk

pub record Misses (t : Tree) (p : Path) (name : Name) : Type 0 where
  pub directory : is_directory (t.objects p) ≡ true
  pub free : t.objects (p ++ name ∷ []) ≡ None
  pub good : IsName name

abbrev pub AnswersWell : Tree → Resolution → Type 0
AnswersWell t (named p) = IsSome (t.objects p)
AnswersWell t (missing p name) = Misses t p name
AnswersWell t (refused errno) = Unit {0}

-- where the parts behind a text's number lead from the directory with it
pub record FromNumber (t : Tree) (follow : Bool) (text : List ℕ) (r : Resolution) : Type 0 where
  pub number : ℕ
  pub path : Path
  pub starts : starts_at_number text ≡ true
  pub stands : IsPathOf t number path
  pub is : r ≡ resolve_within 0 t follow path (parts_behind text)

-- where a text may lead: from the root, or from a directory
abbrev pub IsReached : Tree → Bool → List ℕ → Resolution → Type 0
IsReached t follow text r = (r ≡ resolve t follow text) ⊎ FromNumber t follow text r

abbrev StopsWell : (limits : Limits) → Tree → Stop → Type 0
StopsWell limits t (at r) = AnswersWell t r
StopsWell limits t (at_link p text rest) = (is_directory (t.objects p) ≡ true) × IsLinkText limits.path_bytes text × AllByRecursion IsPart rest

abbrev GoesWell : (limits : Limits) → Tree → Path → Name → Next → Type 0
GoesWell limits t p part (into q) = is_directory (t.objects q) ≡ true
GoesWell limits t p part (over q) = IsSome (t.objects q)
GoesWell limits t p part (link text) = IsLinkText limits.path_bytes text × IsSome (t.objects (p ++ part ∷ []))
GoesWell limits t p part absent = Misses t p part
GoesWell limits t p part too_long = Unit {0}

abbrev after : Tree → Bool → Path → Name → List Name → Next → Stop
after t follow p part rest (into q) = walk t follow q rest
after t follow p part rest (over q) = at (cond (is_empty rest) (named q) (refused ENOTDIR))
after t follow p part rest (link text) = cond (is_empty rest && not follow) (at (named (p ++ part ∷ []))) (at_link p text rest)
after t follow p part rest absent = at (cond (is_empty rest) (missing p part) (refused ENOENT))
after t follow p part rest too_long = at (refused ENAMETOOLONG)

pub directory_some : (o : Option Object) → is_directory o ≡ true → IsSome o
directory_some None e = e
directory_some (Some o) e = refl

pub parent-push : (p : Path) (x : Name) → parent (p ++ x ∷ []) ≡ p
parent-push p x = ap (λ k. take k (p ++ x ∷ [])) (omega (arith, length-append p (x ∷ []))) ∙ take-append_seam p (x ∷ [])

pub push_filled : (p : Path) (x : Name) → p ++ x ∷ [] ≢ []
push_filled p x e = let n : length (p ++ x ∷ []) ≡ 0 = ap length e in omega (arith, length-append p (x ∷ []), n)

pushed_some : (p : Path) (x : Name) (y : List Name) → x ∷ y ≢ []
pushed_some p x y e = cc

-- the directory that something stands in
pub stands_in : (limits : Limits) (t : Tree) → IsTree limits t → (p : Path) (x : Name) → IsSome (t.objects (p ++ x ∷ [])) → is_directory (t.objects p) ≡ true
stands_in limits t tree p x some = tree.above p (x ∷ []) (pushed_some p x []) some

module _ (limits : Limits) (t : Tree) (tree : IsTree limits t) where
  up_well : (p : Path) → is_directory (t.objects p) ≡ true → is_directory (t.objects (parent p)) ≡ true
  up_well p here =
      elim (ends p) [
        | inl e ↦ subst (λ q. is_directory (t.objects (parent q)) ≡ true) (sym e) (ap is_directory tree.root)
        | inr (u, x, e) ↦
            subst (λ q. is_directory (t.objects q) ≡ true) (sym (ap parent e ∙ parent-push u x))
            (stands_in limits t tree u x (subst (λ q. IsSome (t.objects q)) e (directory_some (t.objects p) here)))
      ]

  found_well : (p : Path) (part : Name) → IsName part → is_directory (t.objects p) ≡ true → (o : Option Object) → t.objects (p ++ part ∷ []) ≡ o → GoesWell limits t p part (found (p ++ part ∷ []) o)
  found_well p part name here None is = record { directory = here; free = is; good = name }
  found_well p part name here (Some (directory n)) is = ap is_directory is
  found_well p part name here (Some (symlink n text)) is = (tree.texts (p ++ part ∷ []) n text is, ap is_some is)
  found_well p part name here (Some (file n)) is = ap is_some is

  goes_well : (p : Path) (part : Name) → IsPart part → is_directory (t.objects p) ≡ true → GoesWell limits t p part (next t p part)
  goes_well p part plain here =
      cond_both (is_dot part) _ _ (GoesWell limits t p part) (λ e. here) (λ e.
      cond_both (is_dot_dot part) _ _ (GoesWell limits t p part) (λ f. up_well p here) (λ f.
      cond_both (is_too_long part) _ _ (GoesWell limits t p part) (λ g. tt) (λ g. found_well p part (part_is_name part plain e f g) here (t.objects (p ++ part ∷ [])) refl)))

  walk_well : (follow : Bool) (names : List Name) (p : Path) → AllByRecursion IsPart names → is_directory (t.objects p) ≡ true → StopsWell limits t (walk t follow p names)
  walk_well follow [] p plain here = directory_some (t.objects p) here
  walk_well follow (part ∷ rest) p plain here =
      elim (next t p part) as (λ n. GoesWell limits t p part n → StopsWell limits t (after t follow p part rest n)) [
        | into q ↦ λ well. walk_well follow rest q plain.1 well
        | over q ↦ λ well. cond_both (is_empty rest) (named q) (refused ENOTDIR) (AnswersWell t) (λ e. well) (λ e. tt)
        | link text ↦ λ well. cond_both (is_empty rest && not follow) (at (named (p ++ part ∷ []))) (at_link p text rest) (StopsWell limits t) (λ e. well.1) (λ e. (here, well.0, plain.1))
        | absent ↦ λ well. cond_both (is_empty rest) (missing p part) (refused ENOENT) (AnswersWell t) (λ e. well) (λ e. tt)
        | too_long ↦ λ well. tt
      ] (goes_well p part plain.0 here)

  all_append : (a b : List Name) → AllByRecursion IsPart a → AllByRecursion IsPart b → AllByRecursion IsPart (a ++ b)
  all_append [] b one other = other
  all_append (x ∷ a) b one other = (one.0, all_append a b one.1 other)

  go_well : (f : Path → List Name → Resolution) → ((p : Path) (names : List Name) → AllByRecursion IsPart names → is_directory (t.objects p) ≡ true → AnswersWell t (f p names)) → (s : Stop) → StopsWell limits t s → AnswersWell t (go_on f s)
  go_well f well (at r) stops = stops
  go_well f well (at_link p text rest) stops =
      well (if starts_with_slash text then [] else p) (parts text ++ rest) (all_append (parts text) rest (linked_parts limits text stops.1) stops.2)
      (cond_both (starts_with_slash text) [] p (λ q. is_directory (t.objects q) ≡ true) (λ e. ap is_directory tree.root) (λ e. stops.0))

  within_well : (links : ℕ) (follow : Bool) (p : Path) (names : List Name) → AllByRecursion IsPart names → is_directory (t.objects p) ≡ true → AnswersWell t (resolve_within links t follow p names)
  within_well zero follow p names plain here = go_well (λ _ _. refused ELOOP) (λ p names _ _. tt) (walk t follow p names) (walk_well follow names p plain here)
  within_well (suc links) follow p names plain here = go_well (resolve_within links t follow) (within_well links follow) (walk t follow p names) (walk_well follow names p plain here)

  -- where a text that passed its tests leads from the root
  pub resolves_well : (more : Tests) (follow : Bool) (text : List ℕ) → first_refusal (text_tests_then limits more text) ≡ None → AnswersWell t (resolve t follow text)
  resolves_well more follow text e = within_well LINKS_FOLLOWED follow [] (parts text) (passed_parts limits more text e) (ap is_directory tree.root)

  behind_plain : (b : Bool) (names : List Name) → AllByRecursion IsPart names → AllByRecursion IsPart (if b then drop 1 names else names)
  behind_plain true [] plain = tt
  behind_plain true (x ∷ names) plain = plain.1
  behind_plain false names plain = plain

  -- and where it may lead
  pub reached_well : (more : Tests) (follow : Bool) (text : List ℕ) → first_refusal (text_tests_then limits more text) ≡ None → (r : Resolution) → IsReached t follow text r → AnswersWell t r
  reached_well more follow text e r (inl is) = subst (AnswersWell t) (sym is) (resolves_well more follow text e)
  reached_well more follow text e r (inr from) =
      subst (AnswersWell t) (sym from.is) (within_well 0 follow from.path (parts_behind text) (behind_plain (starts_at_number text) (parts text) (passed_parts limits more text e)) (ap is_directory from.stands.stands))

-- a last part that is a name

abbrev EndsPlain : List Name → Type 0
EndsPlain [] = ⊥
EndsPlain (x ∷ []) = (is_dot x ≡ false) × (is_dot_dot x ≡ false)
EndsPlain (x ∷ (y ∷ rest)) = EndsPlain (y ∷ rest)

plain_cons : (x : Name) (names : List Name) → EndsPlain names → EndsPlain (x ∷ names)
plain_cons x [] plain = absurd plain
plain_cons x (y ∷ names) plain = plain

plain_append : (a b : List Name) → EndsPlain b → EndsPlain (a ++ b)
plain_append [] b plain = plain
plain_append (x ∷ a) b plain = plain_cons x (a ++ b) (plain_append a b plain)

abbrev pub AnswersBelowRoot : Resolution → Type 0
AnswersBelowRoot (named p) = p ≢ []
AnswersBelowRoot _ = Unit {0}

abbrev StopsBelowRoot : Stop → Type 0
StopsBelowRoot (at r) = AnswersBelowRoot r
StopsBelowRoot (at_link p text rest) = EndsPlain rest

abbrev GoesBelowRoot : Name → Next → Type 0
GoesBelowRoot part (into q) = is_dot part ≡ false → is_dot_dot part ≡ false → q ≢ []
GoesBelowRoot part (over q) = q ≢ []
GoesBelowRoot part _ = Unit {0}

found_low : (p : Path) (part : Name) (o : Option Object) → GoesBelowRoot part (found (p ++ part ∷ []) o)
found_low p part None = tt
found_low p part (Some (directory n)) = λ e f. push_filled p part
found_low p part (Some (symlink n text)) = tt
found_low p part (Some (file n)) = push_filled p part

module _ (t : Tree) where
  goes_low : (p : Path) (part : Name) → GoesBelowRoot part (next t p part)
  goes_low p part =
      cond_both (is_dot part) _ _ (GoesBelowRoot part) (λ e f g. absurd (false≢true (sym f ∙ e))) (λ e.
      cond_both (is_dot_dot part) _ _ (GoesBelowRoot part) (λ f g h. absurd (false≢true (sym h ∙ f))) (λ f.
      cond_both (is_too_long part) _ _ (GoesBelowRoot part) (λ g. tt) (λ g. found_low p part (t.objects (p ++ part ∷ [])))))

  walk_low : (names : List Name) (p : Path) → EndsPlain names → StopsBelowRoot (walk t false p names)
  walk_low [] p plain = absurd plain
  walk_low (part ∷ []) p plain =
      elim (next t p part) as (λ n. GoesBelowRoot part n → StopsBelowRoot (after t false p part [] n)) [
        | into q ↦ λ low. low plain.0 plain.1
        | over q ↦ λ low. low
        | link text ↦ λ low. push_filled p part
        | absent ↦ λ low. tt
        | too_long ↦ λ low. tt
      ] (goes_low p part)
  walk_low (part ∷ (y ∷ rest)) p plain =
      elim (next t p part) as (λ n. GoesBelowRoot part n → StopsBelowRoot (after t false p part (y ∷ rest) n)) [
        | into q ↦ λ low. walk_low (y ∷ rest) q plain
        | over q ↦ λ low. cond_both (is_empty (y ∷ rest)) (named q) (refused ENOTDIR) AnswersBelowRoot (λ e. low) (λ e. tt)
        | link text ↦ λ low. cond_both (is_empty (y ∷ rest) && not false) (at (named (p ++ part ∷ []))) (at_link p text (y ∷ rest)) StopsBelowRoot (λ e. push_filled p part) (λ e. plain)
        | absent ↦ λ low. cond_both (is_empty (y ∷ rest)) (missing p part) (refused ENOENT) AnswersBelowRoot (λ e. tt) (λ e. tt)
        | too_long ↦ λ low. tt
      ] (goes_low p part)

  go_low : (f : Path → List Name → Resolution) → ((p : Path) (names : List Name) → EndsPlain names → AnswersBelowRoot (f p names)) → (s : Stop) → StopsBelowRoot s → AnswersBelowRoot (go_on f s)
  go_low f low (at r) stops = stops
  go_low f low (at_link p text rest) stops = low (if starts_with_slash text then [] else p) (parts text ++ rest) (plain_append (parts text) rest stops)

  within_low : (links : ℕ) (p : Path) (names : List Name) → EndsPlain names → AnswersBelowRoot (resolve_within links t false p names)
  within_low zero p names plain = go_low (λ _ _. refused ELOOP) (λ p names _. tt) (walk t false p names) (walk_low names p plain)
  within_low (suc links) p names plain = go_low (resolve_within links t false) (within_low links) (walk t false p names) (walk_low names p plain)

back : {X : Type 0} (x d : X) (y : X) (rest : List X) → get_or (x ∷ (y ∷ rest)) (length (x ∷ (y ∷ rest)) - 1) d ≡ get_or (y ∷ rest) (length (y ∷ rest) - 1) d
back x d y rest =
    let one : length (x ∷ (y ∷ rest)) - 1 ≡ suc (length (y ∷ rest) - 1) = omega arith in
    ap (λ k. get_or (x ∷ (y ∷ rest)) k d) one

last_plain : (names : List Name) → names ≢ [] → is_dot (get_or names (length names - 1) []) ≡ false → is_dot_dot (get_or names (length names - 1) []) ≡ false → EndsPlain names
last_plain [] some dot dots = absurd (some refl)
last_plain (x ∷ []) some dot dots = (dot, dots)
last_plain (x ∷ (y ∷ rest)) some dot dots =
    let same = back x [] y rest in
    last_plain (y ∷ rest) (pushed_some [] y rest) (ap is_dot (sym same) ∙ dot) (ap is_dot_dot (sym same) ∙ dots)

-- a text that ends with no slash has parts

onto_kept : (x : ℕ) (names : List Name) → filter (λ part. not (is_empty part)) (onto_first x names) ≢ []
onto_kept x [] e = absurd (pushed_some [] (x ∷ []) [] e)
onto_kept x (part ∷ names) e =
    absurd (pushed_some [] (x ∷ part) (filter (λ part. not (is_empty part)) names) (sym (cond-true (not (is_empty (x ∷ part))) ((x ∷ part) ∷ filter (λ part. not (is_empty part)) names) _ (ap not (ne_eqb (length (x ∷ part)) 0 (λ z. omega (arith, z))))) ∙ e))

last_byte : (text : List ℕ) → text ≢ [] → is_slash (get_or text (length text - 1) 0) ≡ false → parts text ≢ []
last_byte [] some plain = absurd (some refl)
last_byte (x ∷ []) some plain = subst (λ b. filter (λ part. not (is_empty part)) (if b then [] ∷ ([] ∷ []) else onto_first x ([] ∷ [])) ≢ []) (sym plain) (onto_kept x ([] ∷ []))
last_byte (x ∷ (y ∷ text)) some plain =
    cond_both (is_slash x) ([] ∷ slice_split is_slash (y ∷ text)) (onto_first x (slice_split is_slash (y ∷ text))) (λ names. filter (λ part. not (is_empty part)) names ≢ [])
    (λ e. last_byte (y ∷ text) (λ z. cc) (ap is_slash (sym (back x 0 y text)) ∙ plain)) (λ e. onto_kept x (slice_split is_slash (y ∷ text)))

not_false : (b : Bool) → not b ≡ false → b ≡ true
not_false true e = refl
not_false false e = sym e

and_false : (a b : Bool) → b ≡ true → (a && b) ≡ false → a ≡ false
and_false true b e f = absurd (false≢true (sym f ∙ e))
and_false false b e f = refl

-- a text that begins at a number has parts
number_parts : (text : List ℕ) → starts_at_number text ≡ true → parts text ≢ []
number_parts text starts none =
    let part : is_some (if starts_with_slash text then None else number_named []) ≡ true = subst (λ (names : List Name). is_some (if starts_with_slash text then None else number_named (slice_index_or names 0 [])) ≡ true) none starts in
    cond_both (starts_with_slash text) None (number_named []) (λ o. is_some o ≡ true → ⊥) (λ e f. false≢true f) (λ e f. false≢true f) part

-- a text that passed its tests and isn't `/` has parts
has_parts : (limits : Limits) (more : Tests) (text : List ℕ) → first_refusal (text_tests_then limits more text) ≡ None → is_root_text text ≡ false → parts text ≢ []
has_parts limits more text e other =
    let pass = all_passed (text_tests_then limits more text) e in
    elim (cases_Bool (starts_at_number text)) [
      | inl starts ↦ number_parts text starts
      | inr rooted ↦ by_text text pass.0 (ap not (sym (or_false (starts_with_slash text) (starts_at_number text) rooted)) ∙ pass.1.1.1.0) pass.1.1.1.1.0 other
    ]
  where
    or_false : (a b : Bool) → b ≡ false → (a || b) ≡ a
    or_false true b e = refl
    or_false false b e = e

    by_text : (text : List ℕ) → is_empty text ≡ false → not (starts_with_slash text) ≡ false → (ends_with_slash text && nat_lt 1 (length text)) ≡ false → is_root_text text ≡ false → parts text ≢ []
    by_text [] filled starts ending other = absurd (false≢true (sym filled))
    by_text (x ∷ []) filled starts ending other = absurd (false≢true (sym other ∙ (bytes_eq-Decides (x ∷ []) (47 ∷ [])).1 (ap (λ y. y ∷ []) (eqb-true x 47 (not_false (is_slash x) starts)))))
    by_text (x ∷ (y ∷ text)) filled starts ending other =
        last_byte (x ∷ (y ∷ text)) (λ z. cc)
        (and_false (ends_with_slash (x ∷ (y ∷ text))) (nat_lt 1 (length (x ∷ (y ∷ text)))) (lt-ltb 1 (length (x ∷ (y ∷ text))) (omega arith)) ending)

-- the last part of a text that passed its tests is a name
last_names : (limits : Limits) (text : List ℕ) → first_refusal (new_text_tests limits text) ≡ None → is_root_text text ≡ false → EndsPlain (parts text)
last_names limits text e other =
    let last = or_parts (is_dot (last_part text) || is_dot_dot (last_part text)) (is_number_alone text) (all_passed (new_text_tests limits text) e).1.1.1.1.1.1.1.0 in
    let dots = or_parts (is_dot (last_part text)) (is_dot_dot (last_part text)) last.0 in
    last_plain (parts text) (has_parts limits ((is_dot (last_part text) || is_dot_dot (last_part text) || is_number_alone text, EINVAL) ∷ []) text e other) dots.0 dots.1

-- such a text isn't a number alone
pub not_alone : (limits : Limits) (text : List ℕ) → first_refusal (new_text_tests limits text) ≡ None → is_number_alone text ≡ true → ⊥
not_alone limits text e alone =
    false≢true (sym (or_parts (is_dot (last_part text) || is_dot_dot (last_part text)) (is_number_alone text) (all_passed (new_text_tests limits text) e).1.1.1.1.1.1.1.0).1 ∙ alone)

-- so is that of the parts behind its number
behind_ends : (b : Bool) (names : List Name) → b ≡ true → (b && is_empty (if b then drop 1 names else names)) ≡ false → EndsPlain names → EndsPlain (if b then drop 1 names else names)
behind_ends false names starts some plain = absurd (false≢true starts)
behind_ends true [] starts some plain = absurd plain
behind_ends true (x ∷ []) starts some plain = absurd (false≢true (sym some))
behind_ends true (x ∷ (y ∷ rest)) starts some plain = plain

-- where a text that passed its tests, with a name for its last part, leads to something, it isn't the root
pub resolves_below_root : (limits : Limits) (t : Tree) (text : List ℕ) → first_refusal (new_text_tests limits text) ≡ None → is_root_text text ≡ false → AnswersBelowRoot (resolve t false text)
resolves_below_root limits t text e other =
    within_low t LINKS_FOLLOWED [] (parts text) (last_names limits text e other)

pub reached_below_root : (limits : Limits) (t : Tree) (text : List ℕ) → first_refusal (new_text_tests limits text) ≡ None → is_root_text text ≡ false → (r : Resolution) → IsReached t false text r → AnswersBelowRoot r
reached_below_root limits t text e other r (inl is) = subst AnswersBelowRoot (sym is) (resolves_below_root limits t text e other)
reached_below_root limits t text e other r (inr from) =
    let last = or_parts (is_dot (last_part text) || is_dot_dot (last_part text)) (is_number_alone text) (all_passed (new_text_tests limits text) e).1.1.1.1.1.1.1.0 in
    subst AnswersBelowRoot (sym from.is) (within_low t 0 from.path (parts_behind text) (behind_ends (starts_at_number text) (parts text) from.starts last.1 (last_names limits text e other)))
