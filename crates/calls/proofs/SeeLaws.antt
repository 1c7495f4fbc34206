-- What a call that only reads is answered on a tree it is answered on the tree without its open files, too.
use Rattle.std.proofs.Common.{◌≡◌, inl, inr, ℕ, List, [], ◌∷◌, ◌++◌, length, zero, suc, Bool, true, false, not, ◌&&◌, ◌||◌, if◌then◌else◌, Option, Some, None, IsSome, refl, sym, ap, subst, ◌∙◌}
use Rattle.std.specs.Prelude.{nat_abs, nat_lt, ◌==◌, IsTrue, unwrap_or}
use Rattle.std.proofs.lemmas.Bool.{false≢true}
use Rattle.model.specs.Counting.{Counts}
use Rattle.model.specs.Attributes.{no_attributes}
use Rattle.model.specs.declared.attributes.Attributes.{Attributes}
use Rattle.model.specs.Edits.{attributes_at, contents, read_at}
use Rattle.model.specs.Entries.{TellsEntries, TellsEntry, with_part}
use Rattle.model.specs.Outcomes.{Outcome, answers, either, goes_to, leads_from, leads_to, refuses, tested, with_names, with_number, HasLinks, IsListing}
use Rattle.model.specs.Paths.{Name, Path, Tests, first_refusal, is_empty, parts, parts_behind, start_number, text_tests, text_tests_then}
use Rattle.model.specs.Reading.{attribute_tests, is_negative, is_too_many, tells_attributes, tells_stat}
use Rattle.model.specs.Resolution.{Next, Resolution, Stop, absent, at, at_link, go_on, into, link, missing, named, next, over, refused, resolve, resolve_within, too_long, walk}
use Rattle.model.specs.Room.{nothing}
use Rattle.model.specs.States.{ForgetsOpenFiles}
use Rattle.model.specs.Stats.{stat_of}
use Rattle.model.specs.Trees.{Tree, Object, HasPath, IsNumbered, IsPathOf, directory, file, number_of_object, symlink}
use Rattle.model.specs.declared.command.PathCall.TheVariants as call
use Rattle.model.specs.declared.entries.Entry.{Entry}
use Rattle.model.specs.declared.errno.Errno.{Errno}
use Rattle.model.specs.declared.errno.Errno.TheVariants.{EINVAL, EISDIR, ELOOP, ENAMETOOLONG, ENOENT, ENOTDIR, ESTALE}
use Rattle.model.specs.declared.limits.TheConstants.{ENTRIES_TOLD, LINKS_FOLLOWED}
use Rattle.model.specs.declared.reply.Reply.{Reply}
use Rattle.model.specs.declared.reply.Stat as figures
use Rattle.model.specs.declared.reply.Reply.TheVariants as replies
use Rattle.model.specs.declared.reply.Reply.TheVariants.{Data, Entries, Names, Stat, Text}
use Rattle.model.specs.declared.reply.FileType.TheVariants.{Dir, File}
use Rattle.calls.specs.Seeing.{ReadingForgets}

-- ---- where a path leads is told by what stands at paths

abbrev bare : (Path → Option Object) → Tree
bare objects = record { objects = objects; bytes = λ n. None; attributes = λ n. None; descriptors = λ d. None }

abbrev after : Tree → Bool → Path → Name → List Name → Next → Stop
after t follow p part rest (into q) = walk t follow q rest
after t follow p part rest (over q) = at (if is_empty rest then named q else refused ENOTDIR)
after t follow p part rest (link text) = if is_empty rest && not follow then at (named (p ++ part ∷ [])) else at_link p text rest
after t follow p part rest absent = at (if is_empty rest then missing p part else refused ENOENT)
after t follow p part rest too_long = at (refused ENAMETOOLONG)

go_same : (f g : Path → List Name → Resolution) → ((p : Path) (names : List Name) → f p names ≡ g p names) → (s : Stop) → go_on f s ≡ go_on g s
go_same f g same (at r) = refl
go_same f g same (at_link p text rest) = same _ _

module _ (t : Tree) (follow : Bool) where
  walk_bare : (names : List Name) (p : Path) → walk t follow p names ≡ walk (bare t.objects) follow p names
  walk_bare [] p = refl
  walk_bare (part ∷ rest) p =
      elim (next t p part) as (λ n. after t follow p part rest n ≡ after (bare t.objects) follow p part rest n) [
        | into q ↦ walk_bare rest q
        | over q ↦ refl
        | link text ↦ refl
        | absent ↦ refl
        | too_long ↦ refl
      ]

  within_bare : (links : ℕ) (p : Path) (names : List Name) → resolve_within links t follow p names ≡ resolve_within links (bare t.objects) follow p names
  within_bare zero p names = ap (go_on (λ _ _. refused ELOOP)) (walk_bare names p)
  within_bare (suc links) p names =
      go_same (resolve_within links t follow) (resolve_within links (bare t.objects) follow) (within_bare links) (walk t follow p names)
      ∙ ap (go_on (resolve_within links (bare t.objects) follow)) (walk_bare names p)

-- ---- what each call comes to with what stands where its path leads

abbrev listed : Tree → Path → Object → Outcome
listed t p o = elim o as (λ _. Outcome) [
  | directory n ↦ with_names t p (λ names. answers t (Names names))
  | symlink n text ↦ refuses t ENOTDIR
  | file n ↦ refuses t ENOTDIR
]

abbrev told_in_part : ℕ → ℕ → Tree → Path → Object → Outcome
told_in_part behind count t p o = elim o as (λ _. Outcome) [
  | directory n ↦ with_names t p (λ names. with_part t p names behind count (λ entries. answers t (Entries entries)))
  | symlink n text ↦ refuses t ENOTDIR
  | file n ↦ refuses t ENOTDIR
]

abbrev linked : Tree → Path → Object → Outcome
linked t p o = elim o as (λ _. Outcome) [
  | symlink n text ↦ answers t (Text text)
  | directory n ↦ refuses t EINVAL
  | file n ↦ refuses t EINVAL
]

abbrev told_of : Tree → Path → Object → Outcome
told_of t p o = tells_stat t o

abbrev attributed : Tree → Path → Object → Outcome
attributed t p o = tells_attributes t o

abbrev got : ℕ → ℕ → Tree → Path → Object → Outcome
got offset count t p o = elim o as (λ _. Outcome) [
  | file n ↦ answers t (Data (read_at offset count (contents t n)))
  | directory n ↦ refuses t EISDIR
  | symlink n text ↦ λ _ _ _. ⊥
]

-- ---- outcomes

module _ (old new : Tree) (forgets : ForgetsOpenFiles old new) where
  -- what holds of what stands at the paths of one tree holds of what stands at those of the other
  onto : (P : (Path → Option Object) → Type 0) → P old.objects → P new.objects
  onto P is = subst P (sym forgets.objects) is

  back : (P : (Path → Option Object) → Type 0) → P new.objects → P old.objects
  back P is = subst P forgets.objects is

  numbered : (n : ℕ) (o : Object) → IsNumbered old n o → IsNumbered new n o
  numbered n o is = record {
    has = onto (λ f. (p : Path) × (f p ≡ Some o) × (number_of_object o ≡ n)) is.has;
    only = λ r has. is.only r (back (λ f. (p : Path) × (f p ≡ Some r) × (number_of_object r ≡ n)) has);
  }

  path_of : (n : ℕ) (p : Path) → IsPathOf old n p → IsPathOf new n p
  path_of n p is = record {
    stands = onto (λ f. f p ≡ Some (directory n)) is.stands;
    only = λ q at_q. is.only q (back (λ f. f q ≡ Some (directory n)) at_q);
  }

  has_path : (n : ℕ) → HasPath new n → HasPath old n
  has_path n has = back (λ f. (p : Path) × (o : Object) × (f p ≡ Some o) × (number_of_object o ≡ n)) has

  -- the object stands somewhere
  abbrev StandsIn : Object → Type 0
  StandsIn o = (p : Path) × (old.objects p ≡ Some o)

  withins : (links : ℕ) (follow : Bool) (p : Path) (names : List Name) → resolve_within links old follow p names ≡ resolve_within links new follow p names
  withins links follow p names =
      within_bare old follow links p names ∙ ap (λ (o : Path → Option Object). resolve_within links (bare o) follow p names) (sym forgets.objects) ∙ sym (within_bare new follow links p names)

  module _ (reply : Reply) where
    -- what the old tree answers by the one outcome the new one answers by the other
    abbrev Sees : Outcome → Outcome → Type 0
    Sees one other = one reply old nothing → other reply new nothing

    refused_same : (errno : Errno) → Sees (refuses old errno) (refuses new errno)
    refused_same errno told = (told.0, refl, refl)

    either_same : (test : Bool) (one rest other last : Outcome) → Sees one other → Sees rest last → Sees (either test one rest) (either test other last)
    either_same true one rest other last first second = first
    either_same false one rest other last first second = second

    tested_same : (tests : Tests) (one other : Outcome) → Sees one other → Sees (tested old tests one) (tested new tests other)
    tested_same tests one other sees =
        elim (first_refusal tests) as (λ f. (elim f as (λ _. Outcome) [ Some errno ↦ refuses old errno | None ↦ one ]) reply old nothing
        → (elim f as (λ _. Outcome) [ Some errno ↦ refuses new errno | None ↦ other ]) reply new nothing) [
          | Some errno ↦ refused_same errno
          | None ↦ sees
        ]

    module _ (one other : Path → Object → Outcome) (sees : (p : Path) (o : Object) → StandsIn o → Sees (one p o) (other p o)) where
      at_path : (p : Path) (o : Option Object) → old.objects p ≡ o → (elim o as (λ _. Outcome) [ Some x ↦ one p x | None ↦ λ _ _ _. ⊥ ]) reply old nothing
          → (elim o as (λ _. Outcome) [ Some x ↦ other p x | None ↦ λ _ _ _. ⊥ ]) reply new nothing
      at_path p None is told = absurd told
      at_path p (Some o) is told = sees p o (p, is) told

      leads_same : (r : Resolution) → Sees (leads_to old r one) (leads_to new r other)
      leads_same (refused errno) told = refused_same errno told
      leads_same (missing p name) told = refused_same ENOENT told
      leads_same (named p) told =
          onto (λ f. (elim (f p) as (λ _. Outcome) [ Some x ↦ other p x | None ↦ λ _ _ _. ⊥ ]) reply new nothing) (at_path p (old.objects p) refl told)

      module _ (follow : Bool) where
        within_same : (links : ℕ) (p : Path) (names : List Name) → Sees (leads_to old (resolve_within links old follow p names) one) (leads_to new (resolve_within links new follow p names) other)
        within_same links p names told =
            subst (λ (r : Resolution). leads_to new r other reply new nothing) (withins links follow p names) (leads_same (resolve_within links old follow p names) told)

        abbrev from : Tree → (Path → Object → Outcome) → List Name → Object → Outcome
        from t there names o = leads_from t follow names there (λ p name. refuses t ENOENT) o

        from_same : (names : List Name) (o : Object) → StandsIn o → Sees (from old one names o) (from new other names o)
        from_same names (directory n) stands (p, is, told) = (p, path_of n p is, within_same 0 p names told)
        from_same names (symlink n text) stands told =
            either_same (is_empty names) (either follow (refuses old ELOOP) (one [] (symlink n text))) (refuses old ENOTDIR) (either follow (refuses new ELOOP) (other [] (symlink n text))) (refuses new ENOTDIR)
            (either_same follow (refuses old ELOOP) (one [] (symlink n text)) (refuses new ELOOP) (other [] (symlink n text)) (refused_same ELOOP) (sees [] (symlink n text) stands)) (refused_same ENOTDIR) told
        from_same names (file n) stands told =
            either_same (is_empty names) (one [] (file n)) (refuses old ENOTDIR) (other [] (file n)) (refuses new ENOTDIR) (sees [] (file n) stands) (refused_same ENOTDIR) told

        number_same : (n : ℕ) (names : List Name) → Sees (with_number old n (from old one names)) (with_number new n (from new other names))
        number_same n names (inl (o, is, told)) = inl (o, numbered n o is, from_same names o (is.has.0, is.has.1) told)
        number_same n names (inr (none, told)) = inr (λ has. none (has_path n has), refused_same ESTALE told)

        goes_same : (text : List ℕ) → Sees (goes_to old follow text one) (goes_to new follow text other)
        goes_same text =
            elim (start_number text) as (λ s. (elim s as (λ _. Outcome) [ None ↦ leads_to old (resolve old follow text) one | Some n ↦ with_number old n (from old one (parts_behind text)) ]) reply old nothing
            → (elim s as (λ _. Outcome) [ None ↦ leads_to new (resolve new follow text) other | Some n ↦ with_number new n (from new other (parts_behind text)) ]) reply new nothing) [
              | None ↦ within_same LINKS_FOLLOWED [] (parts text)
              | Some n ↦ number_same n (parts_behind text)
            ]

        led_same : (tests : Tests) (text : List ℕ) → Sees (tested old tests (goes_to old follow text one)) (tested new tests (goes_to new follow text other))
        led_same tests text = tested_same tests (goes_to old follow text one) (goes_to new follow text other) (goes_same text)

    -- ---- each call

    same_names : (p : Path) (names : List Name) → IsListing old p names → IsListing new p names
    same_names p names listing = record {
      sorted = listing.sorted;
      whole = λ x. (
        λ in_list. onto (λ f. IsSome (f (p ++ x ∷ []))) ((listing.whole x).0 in_list),
        λ some. (listing.whole x).1 (back (λ f. IsSome (f (p ++ x ∷ []))) some),
      );
    }

    lists_same : (p : Path) (o : Object) → StandsIn o → Sees (listed old p o) (listed new p o)
    lists_same p (directory n) stands (names, listing, told) = (names, same_names p names listing, (told.0, refl, refl))
    lists_same p (symlink n text) stands told = refused_same ENOTDIR told
    lists_same p (file n) stands told = refused_same ENOTDIR told

    links_same : (p : Path) (o : Object) → StandsIn o → Sees (linked old p o) (linked new p o)
    links_same p (symlink n text) stands told = (told.0, refl, refl)
    links_same p (directory n) stands told = refused_same EINVAL told
    links_same p (file n) stands told = refused_same EINVAL told

    has_links : (o : Object) (count : ℕ) → HasLinks old o count → HasLinks new o count
    has_links (directory n) count has = has
    has_links (symlink n text) count has = has
    has_links (file n) count has = onto (λ f. Counts (λ p. f p ≡ Some (file n)) count) has

    same_stat : (o : Object) (count : ℕ) → StandsIn o → stat_of old o count ≡ stat_of new o count
    same_stat (directory n) count (p, is) =
        ap (λ (m : Option Attributes). record { number = n; kind = Dir; mode = (unwrap_or m no_attributes).mode; links = count; size = 0 }) (sym (forgets.kept n (p, directory n, is, refl)).1)
    same_stat (symlink n text) count stands = refl
    same_stat (file n) count (p, is) =
        let kept = forgets.kept n (p, file n, is, refl) in
        ap (λ (m : Option Attributes). record { number = n; kind = File; mode = (unwrap_or m no_attributes).mode; links = count; size = length (unwrap_or (old.bytes n) []) }) (sym kept.1)
        ∙ ap (λ (b : Option (List ℕ)). record { number = n; kind = File; mode = (attributes_at new n).mode; links = count; size = length (unwrap_or b []) }) (sym kept.0)

    stats_same : (p : Path) (o : Object) → StandsIn o → Sees (told_of old p o) (told_of new p o)
    stats_same p o stands (count, has, told) = (count, has_links o count has, (told.0 ∙ ap Stat (same_stat o count stands), refl, refl))

    same_attributes : (o : Object) → StandsIn o → attributes_at old (number_of_object o) ≡ attributes_at new (number_of_object o)
    same_attributes o (p, is) = ap (λ (m : Option Attributes). unwrap_or m no_attributes) (sym (forgets.kept (number_of_object o) (p, o, is, refl)).1)

    attributes_same : (p : Path) (o : Object) → StandsIn o → Sees (attributed old p o) (attributed new p o)
    attributes_same p o stands (count, has, told) = (
      count,
      has_links o count has,
      (
        told.0 ∙ ap (λ (s : figures.Stat). replies.Attributes s (attributes_at old (number_of_object o))) (same_stat o count stands)
            ∙ ap (replies.Attributes (stat_of new o count)) (same_attributes o stands),
        refl,
        refl,
      ),
    )

    same_entry : (p : Path) (x : Name) (e : Entry) → TellsEntry old p x e → TellsEntry new p x e
    same_entry p x e tells = record {
      name = tells.name;
      cookie = tells.cookie;
      object = tells.object;
      there = onto (λ f. f (p ++ x ∷ []) ≡ Some tells.object) tells.there;
      links = has_links tells.object e.stat.links tells.links;
      stat = tells.stat ∙ same_stat tells.object e.stat.links (p ++ x ∷ [], tells.there);
    }

    same_entries : (p : Path) (names : List Name) (es : List Entry) → TellsEntries old p names es → TellsEntries new p names es
    same_entries p [] [] tells = tt
    same_entries p [] (e ∷ es) tells = absurd tells
    same_entries p (x ∷ names) [] tells = absurd tells
    same_entries p (x ∷ names) (e ∷ es) tells = (same_entry p x e tells.0, same_entries p names es tells.1)

    parts_same : (behind count : ℕ) (p : Path) (o : Object) → StandsIn o → Sees (told_in_part behind count old p o) (told_in_part behind count new p o)
    parts_same behind count p (directory n) stands (names, listing, (told, es, part, tells, answered)) =
        (names, same_names p names listing, (told, es, part, same_entries p told es tells, (answered.0, refl, refl)))
    parts_same behind count p (symlink n text) stands told = refused_same ENOTDIR told
    parts_same behind count p (file n) stands told = refused_same ENOTDIR told

    gets_same : (offset count : ℕ) (p : Path) (o : Object) → StandsIn o → Sees (got offset count old p o) (got offset count new p o)
    gets_same offset count p (directory n) stands told = refused_same EISDIR told
    gets_same offset count p (symlink n text) stands told = absurd told
    gets_same offset count p (file n) (q, is) told =
        let bytes = sym (forgets.kept n (q, file n, is, refl)).0 in
        (told.0 ∙ ap (λ (b : Option (List ℕ)). Data (read_at offset count (unwrap_or b []))) bytes, refl, refl)

no_reading : {X : Type 0} → IsTrue false → X
no_reading is = absurd (false≢true is)

pub reading_forgets : ReadingForgets
reading_forgets limits said old new (call.List path) reply forgets reading told =
    led_same old new forgets reply (listed old) (listed new) (lists_same old new forgets reply) true (text_tests limits path) path told
reading_forgets limits said old new (call.Entries path behind count) reply forgets reading told =
    led_same old new forgets reply (told_in_part (nat_abs behind) count old) (told_in_part (nat_abs behind) count new) (parts_same old new forgets reply (nat_abs behind) count) true
    (text_tests_then limits ((is_negative behind || count == 0 || nat_lt ENTRIES_TOLD count, EINVAL) ∷ []) path) path told
reading_forgets limits said old new (call.Stat path) reply forgets reading told =
    led_same old new forgets reply (told_of old) (told_of new) (stats_same old new forgets reply) true (text_tests limits path) path told
reading_forgets limits said old new (call.Lstat path) reply forgets reading told =
    led_same old new forgets reply (told_of old) (told_of new) (stats_same old new forgets reply) false (text_tests limits path) path told
reading_forgets limits said old new (call.Attr path follow) reply forgets reading told =
    led_same old new forgets reply (attributed old) (attributed new) (attributes_same old new forgets reply) follow (attribute_tests limits ++ text_tests limits path) path told
reading_forgets limits said old new (call.Readlink path) reply forgets reading told =
    led_same old new forgets reply (linked old) (linked new) (links_same old new forgets reply) false (text_tests limits path) path told
reading_forgets limits said old new (call.Get path offset count) reply forgets reading told =
    led_same old new forgets reply (got (nat_abs offset) count old) (got (nat_abs offset) count new) (gets_same old new forgets reply (nat_abs offset) count) true
    (text_tests_then limits ((is_negative offset || is_too_many count, EINVAL) ∷ []) path) path told
reading_forgets limits said old new (call.Mkdir path mode) reply forgets reading told = no_reading reading
reading_forgets limits said old new (call.Rmdir path) reply forgets reading told = no_reading reading
reading_forgets limits said old new (call.Unlink path) reply forgets reading told = no_reading reading
reading_forgets limits said old new (call.Link from path) reply forgets reading told = no_reading reading
reading_forgets limits said old new (call.Symlink text path) reply forgets reading told = no_reading reading
reading_forgets limits said old new (call.Rename from path) reply forgets reading told = no_reading reading
reading_forgets limits said old new (call.RenameNew from path) reply forgets reading told = no_reading reading
reading_forgets limits said old new (call.Chmod path mode) reply forgets reading told = no_reading reading
reading_forgets limits said old new (call.Chown path follow owner group) reply forgets reading told = no_reading reading
reading_forgets limits said old new (call.Utimens path follow time) reply forgets reading told = no_reading reading
reading_forgets limits said old new (call.Truncate path size) reply forgets reading told = no_reading reading
reading_forgets limits said old new (call.Store path offset bytes) reply forgets reading told = no_reading reading
reading_forgets limits said old new (call.Set path settings) reply forgets reading told = no_reading reading
