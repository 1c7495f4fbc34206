-- Each step of a call leaves a tree: the steps, the calls that change nothing, and those on descriptors, bytes and modes.
use Rattle.std.proofs.Common.{◌≡◌, ◌⊎◌, inl, inr, ℕ, ℤ, pos, ◌+◌, ◌≤◌, ◌<◌, List, [], ◌∷◌, ◌++◌, length, drop, Bool, true, false, not, ◌&&◌, ◌||◌, is_none, is_some, Option, Some, None, IfSome, refl, sym, ap, subst, ◌∙◌, length-take, length-drop, arith}
use Rattle.std.specs.Prelude.{◌+ℤ◌, ◌==◌, if◌then◌else◌, nat_abs, nat_le, nat_lt, unwrap_or}
use Rattle.std.proofs.lemmas.Bool.{cases_lt, cond_both, leb-false, ltb-false}
use Rattle.model.specs.declared.limits.Limits.{Limits}
use Rattle.model.specs.declared.limits.TheConstants.{MODE_BITS, MOST_NANOSECONDS, GREATEST_OFFSET, OPEN_FILES, ENTRIES_TOLD}
use Rattle.model.specs.declared.errno.Errno.{Errno}
use Rattle.model.specs.declared.errno.Errno.TheVariants.{ENOENT, ENOTDIR, EISDIR, EINVAL, ELOOP, EBADF, DIRFULL, NONUMBER, EFBIG, EOVERFLOW, ESTALE}
use Rattle.model.specs.declared.reply.Reply.{Reply}
use Rattle.model.specs.declared.reply.Reply.TheVariants as reply
use Rattle.model.specs.declared.attributes.Attributes.{Attributes}
use Rattle.model.specs.declared.command.NewTime.{NewTime}
use Rattle.model.specs.declared.command.NewTime.TheVariants.{Omit, Now, At}
use Rattle.model.specs.declared.command.Settings.{Settings}
use Rattle.model.specs.declared.command.Whence.{Whence}
use Rattle.model.specs.Limits.{AreLimits}
use Rattle.model.specs.Paths.{Name, Path, Tests, first_refusal, text_tests, text_tests_then, is_empty, is_number_alone, parts_behind, start_number, starts_at_number}
use Rattle.model.specs.Trees.{Tree, Object, directory, symlink, file, Description, HasNumber, HasPath, StandsAtPath, IsOpen, IsUsed, IsTree, number_of_object}
use Rattle.model.specs.Touches.{Touches, touches_object}
use Rattle.model.specs.declared.attributes.Touch.TheVariants.{Data, Status}
use Rattle.model.specs.declared.time.Time.{Time}
use Rattle.model.specs.Attributes.{FitAttributes, IsTime, KeepsTime, set_modified, set_owners}
use Rattle.model.specs.Edits.{attributes_at, changing_attributes, contents, marked, resized, written, read_at, with_mode, with_bytes, with_descriptor}
use Rattle.model.specs.Resolution.{Resolution, named, missing, refused, resolve, resolve_within}
use Rattle.model.specs.Room.{Need}
use Rattle.model.specs.Outcomes.{Outcome, answers, refuses, changes, changes_swept, tested, either, leads, leads_from, leads_to, goes_along, goes_to, with_number, IsListing, with_names, with_place, IsFresh, at_number, with_fresh, HasLinks, with_links, described}
use Rattle.model.specs.Reading as reading
use Rattle.model.specs.Changing as changing
use Rattle.model.specs.Descriptors as descriptors
use Rattle.model.specs.Laws.{AreOwners, IsNewTime}
use Rattle.model.proofs.AttributeLaws.{modified_fit, owners_fit}
use Rattle.model.proofs.LeadLemmas.{AllPass, all_passed, passed_both, IsReached, Misses, AnswersWell, reached_well}
use Rattle.model.proofs.LooseLemmas.{IsLooseTree, swept_is_tree, closed_is_loose, attributes_fit, attributes_keep, bytes_keep, mode_keeps, held_is_tree, used_file}
use Rattle.model.proofs.TreeMarkLemmas.{marked_is_tree, marked_objects, marked_descriptors}
use Rattle.model.proofs.OptionLaws.{none_some, some_same}
use Rattle.model.proofs.EditLaws.{length-resized, written_short}

-- sizes

reads_within : (limits : Limits) → AreLimits limits → (offset count : ℕ) (bytes : List ℕ) → offset ≤ GREATEST_OFFSET → length bytes ≤ limits.file_bytes → offset + length (read_at offset count bytes) ≤ GREATEST_OFFSET
reads_within limits can_be offset count bytes few short = omega (arith, can_be.files, length-take count (drop offset bytes), length-drop offset bytes, few, short)

-- an object that has a number has its own
own_number : (t : Tree) (n : ℕ) (o : Object) → HasNumber t n o → HasNumber t (number_of_object o) o
own_number t n o (p, at_p, number) = (p, at_p, refl)

both_true : (a b : Bool) → a ≡ true → b ≡ true → (a && b) ≡ true
both_true a b one other = λ i. one i && other i

-- what an outcome leaves is a tree
abbrev pub LeavesTree : Limits → Outcome → Type 0
LeavesTree limits outcome = (answer : Reply) (new : Tree) (need : Need) → outcome answer new need → IsTree limits new

module _ (limits : Limits) (t : Tree) (tree : IsTree limits t) where
  -- the steps

  pub stays_same : (r : Reply) → LeavesTree limits (answers t r)
  stays_same r answer new need done = subst (IsTree limits) (sym done.1) tree

  pub stays_refused : (e : Errno) → LeavesTree limits (refuses t e)
  stays_refused e = stays_same (reply.Refused e)

  pub stays_changed : (r : Reply) (u : Tree) (n : Need) → IsTree limits u → LeavesTree limits (changes r u n)
  stays_changed r u n is answer new need done = subst (IsTree limits) (sym done.1) is

  pub stays_swept : (r : Reply) (u : Tree) (n : Need) → IsLooseTree limits u → LeavesTree limits (changes_swept r u n)
  stays_swept r u n loose answer new need done = swept_is_tree limits u new loose done.1

  pub stays_tested : (tests : Tests) (rest : Outcome) → (first_refusal tests ≡ None → LeavesTree limits rest) → LeavesTree limits (tested t tests rest)
  stays_tested tests rest leaves =
      elim (first_refusal tests) as (λ o. first_refusal tests ≡ o → LeavesTree limits (elim o as (λ _. Outcome) [ Some errno ↦ refuses t errno | None ↦ rest ])) [
        | Some errno ↦ λ e. stays_refused errno
        | None ↦ λ e. leaves e
      ] refl

  -- tests in a row, of which none holds
  pub stays_passed : (tests : Tests) (rest : Outcome) → (AllPass tests → LeavesTree limits rest) → LeavesTree limits (tested t tests rest)
  stays_passed tests rest leaves = stays_tested tests rest (λ e. leaves (all_passed tests e))

  pub stays_either : (b : Bool) (x y : Outcome) → (b ≡ true → LeavesTree limits x) → (b ≡ false → LeavesTree limits y) → LeavesTree limits (either b x y)
  stays_either true x y one other = one refl
  stays_either false x y one other = other refl

  pub stays_leads : (r : Resolution) (there : Path → Object → Outcome) (gone : Path → Name → Outcome) → AnswersWell t r → ((p : Path) (o : Object) → r ≡ named p → t.objects p ≡ Some o → LeavesTree limits (there p o)) → ((p : Path) (name : Name) → r ≡ missing p name → Misses t p name → LeavesTree limits (gone p name)) → LeavesTree limits (leads t r there gone)
  stays_leads (refused errno) there gone well at_there at_gone = stays_refused errno
  stays_leads (missing p name) there gone well at_there at_gone = at_gone p name refl well
  stays_leads (named p) there gone well at_there at_gone =
      elim (t.objects p) as (λ o. t.objects p ≡ o → LeavesTree limits (elim o as (λ _. Outcome) [ Some o ↦ there p o | None ↦ λ _ _ _. ⊥ ])) [
        | Some o ↦ λ e. at_there p o refl e
        | None ↦ λ e answer new need never. absurd never
      ] refl

  pub stays_leads_to : (r : Resolution) (there : Path → Object → Outcome) → AnswersWell t r → ((p : Path) (o : Object) → r ≡ named p → t.objects p ≡ Some o → LeavesTree limits (there p o)) → LeavesTree limits (leads_to t r there)
  stays_leads_to r there well at_there = stays_leads r there (λ p name. refuses t ENOENT) well at_there (λ p name is misses. stays_refused ENOENT)

  pub stays_names : (p : Path) (rest : List Name → Outcome) → ((names : List Name) → IsListing t p names → LeavesTree limits (rest names)) → LeavesTree limits (with_names t p rest)
  stays_names p rest leaves answer new need (names, listing, done) = leaves names listing answer new need done

  pub stays_place : (p : Path) (rest : Outcome) → ((names : List Name) → IsListing t p names → length names < limits.directory_names → LeavesTree limits rest) → LeavesTree limits (with_place limits t p rest)
  stays_place p rest leaves =
      stays_names p _ (λ names listing. stays_passed ((nat_le limits.directory_names (length names), DIRFULL) ∷ []) rest (λ pass. leaves names listing (leb-false limits.directory_names (length names) pass.0)))

  stays_number : (rest : ℕ → Outcome) (found : Option ℕ) → ((n : ℕ) → found ≡ Some n → LeavesTree limits (rest n)) → LeavesTree limits (at_number t rest found)
  stays_number rest None leaves = stays_refused NONUMBER
  stays_number rest (Some n) leaves = leaves n refl

  pub stays_fresh : (rest : ℕ → Outcome) → ((n : ℕ) → IsFresh limits t n → LeavesTree limits (rest n)) → LeavesTree limits (with_fresh limits t rest)
  stays_fresh rest leaves answer new need (None, is, done) = stays_refused NONUMBER answer new need done
  stays_fresh rest leaves answer new need (Some n, is, done) = leaves n is answer new need done

  pub stays_links : (o : Object) (rest : ℕ → Outcome) → ((n : ℕ) → HasLinks t o n → LeavesTree limits (rest n)) → LeavesTree limits (with_links t o rest)
  stays_links o rest leaves answer new need (count, is, done) = leaves count is answer new need done

  pub stays_never : LeavesTree limits (λ _ _ _. ⊥)
  stays_never answer new need done = absurd done

  pub stays_described : (fd : ℕ) (rest : Description → Outcome) → ((f : Description) → t.descriptors fd ≡ Some f → LeavesTree limits (rest f)) → LeavesTree limits (described t fd rest)
  stays_described fd rest leaves =
      elim (t.descriptors fd) as (λ o. t.descriptors fd ≡ o → LeavesTree limits (elim o as (λ _. Outcome) [ Some f ↦ rest f | None ↦ refuses t EBADF ])) [
        | Some f ↦ λ e. leaves f e
        | None ↦ λ e. stays_refused EBADF
      ] refl

  -- by what stands there
  pub stays_by_kind : (o : Object) (a : ℕ → Outcome) (b : ℕ → List ℕ → Outcome) (c : ℕ → Outcome) → ((n : ℕ) → o ≡ directory n → LeavesTree limits (a n)) → ((n : ℕ) (text : List ℕ) → o ≡ symlink n text → LeavesTree limits (b n text)) → ((n : ℕ) → o ≡ file n → LeavesTree limits (c n)) → LeavesTree limits (elim o as (λ _. Outcome) [ directory n ↦ a n | symlink n text ↦ b n text | file n ↦ c n ])
  stays_by_kind (directory n) a b c one other third = one n refl
  stays_by_kind (symlink n text) a b c one other third = other n text refl
  stays_by_kind (file n) a b c one other third = third n refl

  -- from a number
  stays_from : (follow : Bool) (text : List ℕ) (there : Path → Object → Outcome) (gone : Path → Name → Outcome) → starts_at_number text ≡ true
      → ((r : Resolution) → IsReached t follow text r → LeavesTree limits (leads t r there gone))
      → (n : ℕ) (o : Object) → HasNumber t n o → (is_number_alone text ≡ true → LeavesTree limits (there [] o)) → LeavesTree limits (leads_from t follow (parts_behind text) there gone o)
  stays_from follow text there gone starts reaches n (directory k) has alone = λ answer new need done.
      reaches (resolve_within 0 t follow done.0 (parts_behind text)) (inr (record { number = k; path = done.0; starts = starts; stands = done.1; is = refl })) answer new need done.2
  stays_from follow text there gone starts reaches n (symlink k link) has alone =
      stays_either (is_empty (parts_behind text)) _ _
      (λ e. stays_either follow _ _ (λ f. stays_refused ELOOP) (λ f. alone (both_true (starts_at_number text) (is_empty (parts_behind text)) starts e)))
      (λ e. stays_refused ENOTDIR)
  stays_from follow text there gone starts reaches n (file k) has alone =
      stays_either (is_empty (parts_behind text)) _ _ (λ e. alone (both_true (starts_at_number text) (is_empty (parts_behind text)) starts e)) (λ e. stays_refused ENOTDIR)

  stays_numbered : (n : ℕ) (rest : Object → Outcome) → ((o : Object) → HasNumber t n o → LeavesTree limits (rest o)) → LeavesTree limits (with_number t n rest)
  stays_numbered n rest leaves answer new need (inl (o, is, done)) = leaves o is.has answer new need done
  stays_numbered n rest leaves answer new need (inr (unused, done)) = stays_refused ESTALE answer new need done

  -- where a text leads, or at the object whose number it is
  pub stays_along : (follow : Bool) (text : List ℕ) (there : Path → Object → Outcome) (gone : Path → Name → Outcome)
      → ((r : Resolution) → IsReached t follow text r → LeavesTree limits (leads t r there gone))
      → ((o : Object) → is_number_alone text ≡ true → HasNumber t (number_of_object o) o → LeavesTree limits (there [] o)) → LeavesTree limits (goes_along t follow text there gone)
  stays_along follow text there gone reaches alone =
      elim (start_number text) as (λ o. start_number text ≡ o → LeavesTree limits (elim o as (λ _. Outcome) [
        | None ↦ leads t (resolve t follow text) there gone
        | Some n ↦ with_number t n (leads_from t follow (parts_behind text) there gone)
      ])) [
        | None ↦ λ e. reaches (resolve t follow text) (inl refl)
        | Some n ↦ λ e. stays_numbered n _ (λ o has. stays_from follow text there gone (ap is_some e) reaches n o has (λ is. alone o is (own_number t n o has)))
      ] refl

  -- a path that passed its tests
  pub stays_at : (more : Tests) (follow : Bool) (path : List ℕ) (there : Path → Object → Outcome) → ((p : Path) (o : Object) → AllPass (text_tests_then limits more path) → HasNumber t (number_of_object o) o → LeavesTree limits (there p o)) → LeavesTree limits (tested t (text_tests_then limits more path) (goes_to t follow path there))
  stays_at more follow path there leaves =
      stays_tested (text_tests_then limits more path) _ (λ e.
      let pass = all_passed (text_tests_then limits more path) e in
      stays_along follow path there (λ p name. refuses t ENOENT)
      (λ r reached. stays_leads_to r there (reached_well limits t tree more follow path e r reached) (λ p o is at_p. leaves p o pass (p, at_p, refl)))
      (λ o alone has. leaves [] o pass has))

  -- and one beside whose tests are others, before and behind
  stays_among : (before behind : Tests) (follow : Bool) (path : List ℕ) (there : Path → Object → Outcome) → ((p : Path) (o : Object) → AllPass before → AllPass behind → HasNumber t (number_of_object o) o → LeavesTree limits (there p o)) → LeavesTree limits (tested t (before ++ text_tests limits path ++ behind) (goes_to t follow path there))
  stays_among before behind follow path there leaves =
      stays_tested (before ++ text_tests limits path ++ behind) _ (λ e.
      let both = passed_both (before ++ text_tests limits path) behind e in
      let first = passed_both before (text_tests limits path) both.0 in
      let passed = all_passed before first.0 in
      let pass = all_passed behind both.1 in
      stays_along follow path there (λ p name. refuses t ENOENT)
      (λ r reached. stays_leads_to r there (reached_well limits t tree [] follow path first.1 r reached) (λ p o is at_p. leaves p o passed pass (p, at_p, refl)))
      (λ o alone has. leaves [] o passed pass has))

  -- the calls that change nothing

  stays_tells : (o : Object) → LeavesTree limits (reading.tells_stat t o)
  stays_tells o = stays_links o _ (λ links has. stays_same _)

  pub stays_stat : (follow : Bool) (path : List ℕ) → LeavesTree limits (reading.stats limits t follow path)
  stays_stat follow path = stays_at [] follow path _ (λ p o pass at_p. stays_tells o)

  stays_attributes : (o : Object) → LeavesTree limits (reading.tells_attributes t o)
  stays_attributes o = stays_links o _ (λ links has. stays_same _)

  pub stays_attr : (follow : Bool) (path : List ℕ) → LeavesTree limits (reading.attributes limits t follow path)
  stays_attr follow path = stays_among (reading.attribute_tests limits) [] follow path _ (λ p o kept pass at_p. stays_attributes o)

  pub stays_list : (path : List ℕ) → LeavesTree limits (reading.lists limits t path)
  stays_list path =
      stays_at [] true path _ (λ p o pass at_p. stays_by_kind o _ _ _ (λ n is. stays_names p _ (λ names listing. stays_same _)) (λ n text is. stays_refused ENOTDIR) (λ n is. stays_refused ENOTDIR))

  pub stays_entries : (path : List ℕ) (after : ℤ) (count : ℕ) → LeavesTree limits (reading.tells_entries limits t path after count)
  stays_entries path after count =
      stays_at ((reading.is_negative after || count == 0 || nat_lt ENTRIES_TOLD count, EINVAL) ∷ []) true path _ (λ p o pass at_p. stays_by_kind o _ _ _
      (λ n is. stays_names p _ (λ names listing answer new need (told, entries, part, each, done). stays_same _ answer new need done))
      (λ n text is. stays_refused ENOTDIR)
      (λ n is. stays_refused ENOTDIR))

  pub stays_readlink : (path : List ℕ) → LeavesTree limits (reading.reads_link limits t path)
  stays_readlink path = stays_at [] false path _ (λ p o pass at_p. stays_by_kind o _ _ _ (λ n is. stays_refused EINVAL) (λ n text is. stays_same _) (λ n is. stays_refused EINVAL))

  pub stays_get : (path : List ℕ) (offset : ℤ) (count : ℕ) → LeavesTree limits (reading.gets limits t path offset count)
  stays_get path offset count =
      stays_at ((reading.is_negative offset || reading.is_too_many count, EINVAL) ∷ []) true path _ (λ p o pass at_p. stays_by_kind o _ _ _ (λ n is. stays_refused EISDIR) (λ n text is. stays_never) (λ n is. stays_same _))

  pub stays_extent : (stored : ℕ → ℕ → Bool) (path : List ℕ) (offset : ℤ) → LeavesTree limits (reading.tells_extent limits t stored path offset)
  stays_extent stored path offset =
      stays_at ((reading.is_negative offset, EINVAL) ∷ []) true path _ (λ p o pass at_p. stays_by_kind o _ _ _
      (λ n is. stays_refused EISDIR)
      (λ n text is. stays_never)
      (λ n is answer new need (extent, tells, done). stays_same _ answer new need done))

  -- bytes and modes

  few_bytes : (o : Option (List ℕ)) → IfSome o (λ bytes. length bytes ≤ limits.file_bytes) → length (unwrap_or o []) ≤ limits.file_bytes
  few_bytes None few = omega arith
  few_bytes (Some bytes) few = few

  pub few_contents : (n : ℕ) → length (contents t n) ≤ limits.file_bytes
  few_contents n = few_bytes (t.bytes n) (tree.sizes n)

  -- a file truncated to a size stays where it is, and open where it is
  pub record IsTruncated (u : Tree) : Type 0 where
    pub is : IsTree limits u
    pub objects : u.objects ≡ t.objects
    pub descriptors : u.descriptors ≡ t.descriptors

  -- what has a number stands at a path
  pub kind_stands : (kind : ℕ → Object) (o : Object) (n : ℕ) → o ≡ kind n → HasNumber t (number_of_object o) o → StandsAtPath t kind n
  kind_stands kind o n is (p, at_p, number) = (p, at_p ∙ ap (λ r. Some r) is)

  object_stands : (o : Object) (n : ℕ) → number_of_object o ≡ n → HasNumber t (number_of_object o) o → HasPath t n
  object_stands o n is (p, at_p, number) = (p, o, at_p, is)

  fits_given : (path : List ℕ) (size : Option ℤ) → AllPass (text_tests_then limits (changing.given_size_tests limits size) path) → IfSome size (λ s. nat_abs s ≤ limits.file_bytes)
  fits_given path None pass = tt
  fits_given path (Some size) pass = ltb-false limits.file_bytes (nat_abs size) pass.1.1.1.1.1.1.1.1.0

  -- descriptors

  below_table : (fd : ℕ) (f : Description) → t.descriptors fd ≡ Some f → fd < OPEN_FILES
  below_table fd f is = elim (cases_lt fd OPEN_FILES) [ inl below ↦ below | inr past ↦ none_some (sym (tree.table fd past) ∙ is) ]

  -- the offset of an open file moves
  offset_moves : (fd : ℕ) (f : Description) (offset : ℕ) → t.descriptors fd ≡ Some f → offset ≤ GREATEST_OFFSET → IsTree limits (descriptors.with_offset fd f offset t)
  offset_moves fd f offset is few =
      held_is_tree limits t tree fd (record f { offset = offset }) (below_table fd f is) (inr (fd, f, is, refl)) few (λ g at_g. ap (λ (h : Description). h.number) (some_same (sym at_g ∙ is)))

  pub stays_close : (fd : ℕ) → LeavesTree limits (descriptors.closes t fd)
  stays_close fd =
      stays_described fd _ (λ f at_fd.
      stays_swept reply.Done (with_descriptor fd None t) _ (closed_is_loose limits t tree (λ k. if k == fd then None else t.descriptors k)
      (λ d g is. cond_both (d == fd) None (t.descriptors d) (λ o. o ≡ Some g → t.descriptors d ≡ Some g) (λ e none. none_some none) (λ e some. some) is)))

  pub stays_read : (fd count : ℕ) → LeavesTree limits (descriptors.reads t fd count)
  stays_read fd count =
      stays_described fd _ (λ f at_fd. stays_passed ((not f.reads, EBADF) ∷ (reading.is_too_many count, EINVAL) ∷ []) _ (λ pass.
      stays_changed _ (descriptors.with_offset fd f (f.offset + length (read_at f.offset count (contents t f.number))) t) _
      (offset_moves fd f _ at_fd (reads_within limits tree.can_be f.offset count (contents t f.number) (tree.offsets fd f at_fd) (few_contents f.number)))))

  pub stays_pread : (fd : ℕ) (offset : ℤ) (count : ℕ) → LeavesTree limits (descriptors.reads_from t fd offset count)
  stays_pread fd offset count =
      stays_described fd _ (λ f at_fd. stays_passed ((not f.reads, EBADF) ∷ (reading.is_negative offset || reading.is_too_many count, EINVAL) ∷ []) _ (λ pass. stays_same _))

  pub stays_seek : (fd : ℕ) (from : Whence) (offset : ℤ) → LeavesTree limits (descriptors.seeks t fd from offset)
  stays_seek fd from offset =
      stays_described fd _ (λ f at_fd.
      let place : ℤ = pos (descriptors.base_of t f from) +ℤ offset in
      stays_passed ((reading.is_negative place, EINVAL) ∷ (nat_lt GREATEST_OFFSET (nat_abs place), EOVERFLOW) ∷ []) _ (λ pass.
      stays_changed _ (descriptors.with_offset fd f (nat_abs place) t) _ (offset_moves fd f (nat_abs place) at_fd (ltb-false GREATEST_OFFSET (nat_abs place) pass.1.0))))

  pub stays_fattr : (fd : ℕ) → LeavesTree limits (descriptors.attributes_open limits t fd)
  stays_fattr fd = stays_passed (reading.attribute_tests limits) _ (λ pass. stays_described fd _ (λ f at_fd. stays_attributes (file f.number)))

  pub stays_fstat : (fd : ℕ) → LeavesTree limits (descriptors.stats_open t fd)
  stays_fstat fd = stays_described fd _ (λ f at_fd. stays_tells (file f.number))

  pub stays_fsync : (fd : ℕ) → LeavesTree limits (descriptors.syncs_open t fd)
  stays_fsync fd = stays_described fd _ (λ f at_fd. stays_same _)

  -- the calls that change bytes and modes, at a time that the file system may keep
  module _ (now : Option Time) (timed : KeepsTime limits.has_attributes now) where
    -- a tree in which a change touches objects
    touched_is_tree : (touches : Touches) (u : Tree) → IsTree limits u → IsTree limits (marked now touches u)
    touched_is_tree touches u is = marked_is_tree limits now timed touches u is

    mode_is : (n mode : ℕ) (u : Tree) → IsTree limits u → IsUsed u n → mode ≤ MODE_BITS → IsTree limits (changing.with_changed_mode now n mode u)
    mode_is n mode u is used few = touched_is_tree (touches_object Status n) (with_mode n mode u) (mode_keeps limits u n mode is used few)

    sized_is : (n size : ℕ) → StandsAtPath t file n ⊎ IsOpen t n → size ≤ limits.file_bytes → IsTree limits (with_bytes n (resized size (contents t n)) t)
    sized_is n size stands few = bytes_keep limits t n (resized size (contents t n)) tree stands (subst (λ k. k ≤ limits.file_bytes) (sym (length-resized size (contents t n))) few)

    pub truncated_is : (n size : ℕ) → StandsAtPath t file n ⊎ IsOpen t n → size ≤ limits.file_bytes → IsTruncated (changing.truncated_to now n size t)
    truncated_is n size stands few =
        let sized : Tree = with_bytes n (resized size (contents t n)) t in
        cond_both (changing.is_idle_size now n size t) t (marked now (touches_object Data n) sized) IsTruncated (λ e. record { is = tree; objects = refl; descriptors = refl }) (λ e. record {
          is = touched_is_tree (touches_object Data n) sized (sized_is n size stands few);
          objects = marked_objects now (touches_object Data n) sized;
          descriptors = marked_descriptors now (touches_object Data n) sized;
        })

    stays_truncated : (n size : ℕ) → StandsAtPath t file n ⊎ IsOpen t n → size ≤ limits.file_bytes → LeavesTree limits (changing.truncates_file now t n size)
    stays_truncated n size stands few = stays_changed reply.Done (changing.truncated_to now n size t) (changing.need_of_truncate now n size t) (truncated_is n size stands few).is

    pub stays_truncate : (path : List ℕ) (size : ℤ) → LeavesTree limits (changing.truncates limits now t path size)
    stays_truncate path size =
        stays_at (changing.size_tests limits size) true path _ (λ p o pass has. stays_by_kind o _ _ _ (λ n is. stays_refused EISDIR) (λ n text is. stays_never)
        (λ n is. stays_truncated n (nat_abs size) (inl (kind_stands (λ k. file k) o n is has)) (ltb-false limits.file_bytes (nat_abs size) pass.1.1.1.1.1.1.1.1.0)))

    pub stays_chmod : (path : List ℕ) (mode : ℕ) → mode ≤ MODE_BITS → LeavesTree limits (changing.changes_mode limits now t path mode)
    stays_chmod path mode few =
        stays_at [] true path _ (λ p o pass has. stays_by_kind o _ _ _
        (λ n is. stays_changed _ _ _ (mode_is n mode t tree (inl (object_stands o n (ap number_of_object is) has)) few))
        (λ n text is. stays_never)
        (λ n is. stays_changed _ _ _ (mode_is n mode t tree (inl (object_stands o n (ap number_of_object is) has)) few)))

    stays_sets_mode : (n : ℕ) (mode : Option ℕ) → IsUsed t n → IfSome mode (λ bits. bits ≤ MODE_BITS) → LeavesTree limits (changing.sets_mode now t n mode)
    stays_sets_mode n None stands few = stays_same _
    stays_sets_mode n (Some mode) stands few = stays_changed _ _ _ (mode_is n mode t tree stands few)

    stays_sets_both : (n mode size : ℕ) → StandsAtPath t file n → mode ≤ MODE_BITS → size ≤ limits.file_bytes → LeavesTree limits (changing.sets_both now t n mode size)
    stays_sets_both n mode size stands few fits =
        let sized : Tree = with_bytes n (resized size (contents t n)) t in
        stays_either (changing.is_idle_size now n size t) _ _
        (λ e. stays_changed _ _ _ (mode_is n mode t tree (used_file t n (inl stands)) few))
        (λ e. stays_changed _ _ _ (touched_is_tree (touches_object Data n) (with_mode n mode sized) (mode_keeps limits sized n mode (sized_is n size (inl stands) fits) (used_file t n (inl stands)) few)))

    stays_sets_file : (n : ℕ) (mode : Option ℕ) (size : Option ℤ) → StandsAtPath t file n → IfSome mode (λ bits. bits ≤ MODE_BITS) → IfSome size (λ s. nat_abs s ≤ limits.file_bytes) → LeavesTree limits (changing.sets_file now t n mode size)
    stays_sets_file n mode None stands few fits = stays_sets_mode n mode (used_file t n (inl stands)) few
    stays_sets_file n None (Some size) stands few fits = stays_truncated n (nat_abs size) (inl stands) fits
    stays_sets_file n (Some mode) (Some size) stands few fits = stays_sets_both n mode (nat_abs size) stands few fits

    pub stays_set : (path : List ℕ) (settings : Settings) → IfSome settings.mode (λ bits. bits ≤ MODE_BITS) → LeavesTree limits (changing.sets limits now t path settings)
    stays_set path settings few =
        stays_at (changing.given_size_tests limits settings.size) true path _ (λ p o pass has. stays_by_kind o _ _ _
        (λ n is. stays_passed ((is_some settings.size, EISDIR) ∷ []) _ (λ passed. stays_sets_mode n settings.mode (inl (object_stands o n (ap number_of_object is) has)) few))
        (λ n text is. stays_never)
        (λ n is. stays_sets_file n settings.mode settings.size (kind_stands (λ k. file k) o n is has) few (fits_given path settings.size pass)))

    stays_puts : (n offset : ℕ) (given : List ℕ) (also : Tree → Tree) → StandsAtPath t file n ⊎ IsOpen t n → ((u : Tree) → IsTree limits u → u.descriptors ≡ t.descriptors → offset + length given ≤ limits.file_bytes → IsTree limits (also u)) → LeavesTree limits (descriptors.puts limits now t n offset given also)
    stays_puts n offset given also used keeps =
        stays_either (is_empty given) _ _ (λ e. stays_same _) (λ e. stays_passed ((nat_lt limits.file_bytes (offset + length given), EFBIG) ∷ []) _ (λ pass.
        let few : offset + length given ≤ limits.file_bytes = ltb-false limits.file_bytes (offset + length given) pass.0 in
        let put : Tree = with_bytes n (written offset given (contents t n)) t in
        stays_changed _ (also (marked now (touches_object Data n) put)) _ (keeps (marked now (touches_object Data n) put)
        (touched_is_tree (touches_object Data n) put (bytes_keep limits t n (written offset given (contents t n)) tree used (written_short offset given (contents t n) few (few_contents n))))
        (marked_descriptors now (touches_object Data n) put) few)))

    pub stays_store : (path : List ℕ) (offset : ℤ) (given : List ℕ) → LeavesTree limits (descriptors.stores limits now t path offset given)
    stays_store path offset given =
        stays_at ((reading.is_negative offset || reading.is_too_many (length given), EINVAL) ∷ []) true path _ (λ p o pass has. stays_by_kind o _ _ _
        (λ n is. stays_refused EISDIR)
        (λ n text is. stays_never)
        (λ n is. stays_puts n (nat_abs offset) given (λ after. after) (inl (kind_stands (λ k. file k) o n is has)) (λ u keeps same few. keeps)))

    pub stays_write : (fd : ℕ) (given : List ℕ) → LeavesTree limits (descriptors.writes limits now t fd given)
    stays_write fd given =
        stays_described fd _ (λ f at_fd.
        let offset : ℕ = if f.appends then length (contents t f.number) else f.offset in
        stays_passed ((not f.writes, EBADF) ∷ (reading.is_too_many (length given), EINVAL) ∷ []) (descriptors.puts limits now t f.number offset given (descriptors.with_offset fd f (offset + length given))) (λ pass.
        stays_puts f.number offset given (descriptors.with_offset fd f (offset + length given)) (inr (fd, f, at_fd, refl)) (λ u is same few.
        let open_now : u.descriptors fd ≡ Some f = ap (λ table. table fd) same ∙ at_fd in
        held_is_tree limits u is fd (record f { offset = offset + length given }) (below_table fd f at_fd) (inr (fd, f, open_now, refl)) (omega (arith, few)) (λ g at_g. ap (λ (h : Description). h.number) (some_same (sym at_g ∙ open_now))))))

    pub stays_pwrite : (fd : ℕ) (offset : ℤ) (given : List ℕ) → LeavesTree limits (descriptors.writes_to limits now t fd offset given)
    stays_pwrite fd offset given =
        stays_described fd _ (λ f at_fd.
        stays_passed ((not f.writes, EBADF) ∷ (reading.is_negative offset || reading.is_too_many (length given), EINVAL) ∷ []) (descriptors.puts limits now t f.number (nat_abs offset) given (λ after. after)) (λ pass.
        stays_puts f.number (nat_abs offset) given (λ after. after) (inr (fd, f, at_fd, refl)) (λ u is same few. is)))

    pub stays_ftruncate : (fd : ℕ) (size : ℤ) → LeavesTree limits (descriptors.truncates_open limits now t fd size)
    stays_ftruncate fd size =
        stays_described fd _ (λ f at_fd. stays_passed ((not f.writes, EINVAL) ∷ changing.size_tests limits size) _ (λ pass.
        stays_truncated f.number (nat_abs size) (inr (fd, f, at_fd, refl)) (ltb-false limits.file_bytes (nat_abs size) pass.1.1.0)))

    pub stays_fchmod : (fd mode : ℕ) → mode ≤ MODE_BITS → LeavesTree limits (descriptors.changes_open_mode now t fd mode)
    stays_fchmod fd mode few = stays_described fd _ (λ f at_fd. stays_changed _ _ _ (mode_is f.number mode t tree (inr (fd, f, at_fd, refl)) few))

    -- owners and times, which only a file system with attributes keeps

    changed_attributes : (n : ℕ) (f : Attributes → Attributes) → IsUsed t n → FitAttributes limits.has_attributes (f (attributes_at t n)) → LeavesTree limits (changing.changes_attributes now t n f)
    changed_attributes n f used fit =
        stays_changed _ _ _ (touched_is_tree (touches_object Status n) (changing_attributes n f t) (attributes_keep limits t n (f (attributes_at t n)) tree used fit))

    has_them : AllPass (reading.attribute_tests limits) → limits.has_attributes ≡ true
    has_them pass = by limits.has_attributes pass.0
      where
        by : (b : Bool) → not b ≡ false → b ≡ true
        by true e = refl
        by false e = sym e

    used_there : (o : Object) → HasNumber t (number_of_object o) o → IsUsed t (number_of_object o)
    used_there o has = inl (object_stands o (number_of_object o) refl has)

    stays_owners : (n : ℕ) (owner group : Option ℕ) → limits.has_attributes ≡ true → IsUsed t n → AreOwners owner group → LeavesTree limits (changing.gives_owners now t n owner group)
    stays_owners n owner group has used few =
        stays_either (is_none owner && is_none group) _ _ (λ e. stays_same _)
        (λ e. changed_attributes n (set_owners owner group) used (owners_fit limits.has_attributes owner group (attributes_at t n) has few (attributes_fit limits t n tree used)))

    stays_time : (n : ℕ) (time : Option Time) → limits.has_attributes ≡ true → IsUsed t n → IfSome time IsTime → LeavesTree limits (changing.gives_time now t n time)
    stays_time n None has used is = stays_same _
    stays_time n (Some time) has used is =
        changed_attributes n (set_modified time) used (modified_fit limits.has_attributes time (attributes_at t n) has is (attributes_fit limits t n tree used))

    kept_is_time : (time : Option Time) → KeepsTime limits.has_attributes time → IfSome time IsTime
    kept_is_time None keeps = tt
    kept_is_time (Some time) keeps = keeps.1

    meant_is_time : (time : NewTime) → IsNewTime time → AllPass (changing.time_tests time) → IfSome (changing.meant_time now time) IsTime
    meant_is_time Omit bound pass = tt
    meant_is_time Now bound pass = kept_is_time now timed
    meant_is_time (At seconds nanoseconds) bound pass = record { seconds = bound; nanoseconds = ltb-false MOST_NANOSECONDS nanoseconds pass.0 }

    pub stays_chown : (follow : Bool) (path : List ℕ) (owner group : Option ℕ) → AreOwners owner group → LeavesTree limits (changing.changes_owners limits now t follow path owner group)
    stays_chown follow path owner group few =
        stays_among (reading.attribute_tests limits) [] follow path _ (λ p o kept pass has. stays_owners (number_of_object o) owner group (has_them kept) (used_there o has) few)

    pub stays_utimens : (follow : Bool) (path : List ℕ) (time : NewTime) → IsNewTime time → LeavesTree limits (changing.changes_times limits now t follow path time)
    stays_utimens follow path time bound =
        stays_among (reading.attribute_tests limits) (changing.time_tests time) follow path _ (λ p o kept pass has.
        stays_time (number_of_object o) (changing.meant_time now time) (has_them kept) (used_there o has) (meant_is_time time bound pass))

    pub stays_fchown : (fd : ℕ) (owner group : Option ℕ) → AreOwners owner group → LeavesTree limits (descriptors.changes_open_owners limits now t fd owner group)
    stays_fchown fd owner group few =
        stays_passed (reading.attribute_tests limits) _ (λ kept. stays_described fd _ (λ f at_fd. stays_owners f.number owner group (has_them kept) (inr (fd, f, at_fd, refl)) few))

    pub stays_futimens : (fd : ℕ) (time : NewTime) → IsNewTime time → LeavesTree limits (descriptors.changes_open_times limits now t fd time)
    stays_futimens fd time bound =
        stays_passed (reading.attribute_tests limits) _ (λ kept. stays_described fd _ (λ f at_fd. stays_passed (changing.time_tests time) _ (λ pass.
        stays_time f.number (changing.meant_time now time) (has_them kept) (inr (fd, f, at_fd, refl)) (meant_is_time time bound pass))))
