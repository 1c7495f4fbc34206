-- The calls that make, remove, link and rename, and `open`, leave a tree.
use Rattle.std.proofs.Common.{◌≡◌, ◌≢◌, inl, inr, ℕ, zero, suc, ◌≤◌, ◌<◌, List, [], ◌∷◌, ◌++◌, length, Bool, true, false, not, ◌&&◌, ◌||◌, is_none, IsSome, Option, Some, None, refl, sym, ap, subst, ◌∙◌, arith, lit≤, min}
use Rattle.std.specs.Prelude.{◌==◌, if◌then◌else◌, nat_le}
use Rattle.std.specs.List.{AllByRecursion, list_any}
use Rattle.std.proofs.lemmas.Bool.{cases_Bool, cond-true, cond-false, eqb-false, ne_eqb, or_parts, false≢true, leb-false, ltb-false}
use Rattle.std.proofs.lemmas.List.Elements.{All-nil, All-contains, All-from_recursion}
use Rattle.std.proofs.Math.Nat.{min-le_right}
use Rattle.model.specs.declared.limits.Limits.{Limits}
use Rattle.model.specs.declared.limits.TheConstants.{OPEN_FILES}
use Rattle.model.specs.declared.attributes.Permissions.{Permissions}
use Rattle.model.specs.declared.attributes.Touch.{Touch}
use Rattle.model.specs.declared.attributes.Touch.TheVariants.{Data, Status}
use Rattle.model.specs.declared.time.Time.{Time}
use Rattle.model.specs.Attributes.{FitAttributes, KeepsTime, new_attributes}
use Rattle.model.specs.Touches.{Touches, touches_entry}
use Rattle.model.specs.declared.errno.Errno.TheVariants.{ENOENT, ENOTDIR, EISDIR, EEXIST, EINVAL, EPERM, EBUSY, ENOTEMPTY, EMLINK, EMFILE}
use Rattle.model.specs.declared.reply.Reply.TheVariants as reply
use Rattle.model.specs.declared.command.Flags.{Flags}
use Rattle.model.specs.Paths.{Name, Path, IsLinkText, Tests, text_tests_then, text_tests, new_text_tests, is_empty, is_root_text, is_dot, is_dot_dot, first_refusal, is_number_alone, last_part}
use Rattle.model.specs.Trees.{Tree, Object, directory, symlink, file, is_directory, Description, HasNumber, IsTree, StandsAtPath, number_of_object}
use Rattle.model.specs.Edits.{marked, number_at_path, with_object, without_object, with_attributes, with_bytes, with_descriptor, with_directory, with_file, with_symlink}
use Rattle.model.specs.Resolution.{Resolution, named, parent}
use Rattle.model.specs.Room.{logs, adds_name, removes_name, nothing, Need}
use Rattle.model.specs.Outcomes.{Outcome, refuses, goes_along, IsListing, IsFresh, lowest_free}
use Rattle.model.specs.Changing as changing
use Rattle.model.specs.Descriptors as descriptors
use Rattle.model.proofs.LeadLemmas.{AllPass, all_passed, passed_both, Misses, AnswersBelowRoot, not_alone, reached_below_root, reached_well, stands_in}
use Rattle.model.proofs.LooseLemmas.{held_is_tree}
use Rattle.model.proofs.PlaceLemmas.{directory_joins, file_joins, symlink_joins, link_joins, placed_is_tree, put-here}
use Rattle.model.proofs.TakeLemmas.{taken_is_loose}
use Rattle.model.proofs.TreeMarkLemmas.{marked_is_tree, marked_is_loose, marked_objects, marked_descriptors}
use Rattle.model.proofs.StayLemmas.{LeavesTree, stays_refused, stays_changed, stays_swept, stays_tested, stays_passed, stays_either, stays_leads, stays_leads_to, stays_names, stays_place, stays_fresh, stays_links, stays_never, stays_by_kind, stays_along, IsTruncated, kind_stands, truncated_is}
use Rattle.model.proofs.OptionLaws.{none_some, some_same}

none_from : {X : Type 0} (o : Option X) → ¬ IsSome o → o ≡ None
none_from None e = refl
none_from (Some x) e = absurd (e refl)

-- a text that passed a link's tests
not_zeros : (text : List ℕ) → list_any (λ byte. byte == 0) text ≡ false → AllByRecursion (λ byte. byte ≢ 0) text
not_zeros [] e = tt
not_zeros (x ∷ text) e = let both = or_parts (x == 0) (list_any (λ byte. byte == 0) text) e in (eqb-false x 0 both.0, not_zeros text both.1)

link_text : (limits : Limits) (text : List ℕ) → AllPass (changing.link_text_tests limits text) → IsLinkText limits.path_bytes text
link_text limits text pass = record {
  some = let filled : length text ≢ 0 = eqb-false (length text) 0 pass.0 in omega (arith, filled);
  short = ltb-false limits.path_bytes (length text) pass.1.1.0;
  plain = All-from_recursion (λ byte. byte ≢ 0) text (not_zeros text pass.1.0);
}

-- the test of a last part
abbrev pub last_tests : List ℕ → Tests
last_tests text = (is_dot (last_part text) || is_dot_dot (last_part text) || is_number_alone text, EINVAL) ∷ []

-- the lowest descriptor that is free
free_is : (table : ℕ → Option Description) (bound d : ℕ) → lowest_free table bound ≡ Some d → (d < bound) × (table d ≡ None)
free_is table zero d e = none_some e
free_is table (suc bound) d e =
    elim (lowest_free table bound) as (λ o. lowest_free table bound ≡ o → elim o as (λ _. Option ℕ) [ Some k ↦ Some k | None ↦ if is_none (table bound) then Some bound else None ] ≡ Some d → (d < suc bound) × (table d ≡ None)) [
      | Some k ↦ λ is same. let rest = free_is table bound d (is ∙ same) in (omega (arith, rest.0), rest.1)
      | None ↦ λ is same. elim (cases_Bool (is_none (table bound))) [
        | inl t ↦
            let here : bound ≡ d = some_same (sym (cond-true (is_none (table bound)) (Some bound) None t) ∙ same) in
            (omega (arith, here), ap table (sym here) ∙ none_by (table bound) t)
        | inr f ↦ none_some (sym (cond-false (is_none (table bound)) (Some bound) None f) ∙ same)
      ]
    ] refl e
  where
    none_by : (o : Option Description) → is_none o ≡ true → o ≡ None
    none_by None t = refl
    none_by (Some f) t = absurd (false≢true t)

module _ (limits : Limits) (t : Tree) (tree : IsTree limits t) where
  pub no_names : (p : Path) (names : List Name) → IsListing t p names → not (is_empty names) ≡ false → (x : Name) → t.objects (p ++ x ∷ []) ≡ None
  no_names p [] listing e x = none_from (t.objects (p ++ x ∷ [])) (λ some. All-contains {X = Name} (λ _. ⊥) [] x (All-nil {X = Name} (λ _. ⊥)) ((listing.whole x).1 some))
  no_names p (y ∷ names) listing e x = absurd (false≢true (sym e ∙ ap not (ne_eqb (length (y ∷ names)) 0 (λ z. omega (arith, z)))))

  pub no_directory : (p : Path) (o : Object) → t.objects p ≡ Some o → is_directory (Some o) ≡ false → (x : Name) → t.objects (p ++ x ∷ []) ≡ None
  no_directory p o at_p plain x = none_from (t.objects (p ++ x ∷ [])) (λ some. false≢true (sym plain ∙ ap is_directory (sym at_p) ∙ stands_in limits t tree p x some))

  pub low_by : (r : Resolution) (p : Path) → AnswersBelowRoot r → r ≡ named p → p ≢ []
  low_by r p low is = subst AnswersBelowRoot is low

  -- it is opened: the tree with its descriptor is a tree
  stays_opens_file : (tells : Bool) (n : ℕ) (flags : Flags) (fd : ℕ) (u : Tree) (need : Need) → IsTree limits (with_descriptor fd (Some (descriptors.described_by n flags)) u)
      → LeavesTree limits (descriptors.opens_file tells n flags fd u need)
  stays_opens_file true n flags fd u need is answer new other done = subst (IsTree limits) (sym done.2.1) is
  stays_opens_file false n flags fd u need is answer new other done = subst (IsTree limits) (sym done.1) is

  -- at a time that the file system may keep
  module _ (now : Option Time) (timed : KeepsTime limits.has_attributes now) where
    entered_is : (touch : Touch) (n : ℕ) (p : Path) (u : Tree) → IsTree limits u → IsTree limits (changing.entered now touch n p t u)
    entered_is touch n p u is = marked_is_tree limits now timed (touches_entry touch (Some n) (number_at_path t p)) u is

    stays_creates : (path : List ℕ) (make : Path → ℕ → Tree → Tree) → ((p : Path) (name : Name) (n : ℕ) (names : List Name) → Misses t p name → IsListing t p names → length names < limits.directory_names → IsFresh limits t n → IsTree limits (make (p ++ name ∷ []) n t)) → LeavesTree limits (changing.creates limits now t path make)
    stays_creates path make makes =
        stays_tested limits t tree (new_text_tests limits path) _ (λ e. stays_along limits t tree false path _ _ (λ r reached. stays_leads limits t tree r _ _ (reached_well limits t tree (last_tests path) false path e r reached)
        (λ p o is at_p. stays_refused limits t tree EEXIST)
        (λ p name is misses. stays_place limits t tree p _ (λ names listing room. stays_fresh limits t tree _ (λ n fresh. stays_changed limits t tree reply.Done (changing.entered now Data n p t (make (p ++ name ∷ []) n t)) (logs adds_name) (entered_is Data n p (make (p ++ name ∷ []) n t) (makes p name n names misses listing room fresh))))))
        (λ o alone has. stays_refused limits t tree EEXIST))

    pub stays_mkdir : (path : List ℕ) (permissions : Permissions) → FitAttributes limits.has_attributes (new_attributes permissions) → LeavesTree limits (changing.makes_directory limits now t path permissions)
    stays_mkdir path permissions fits =
        stays_creates path (λ p n. with_directory p n permissions) (λ p name n names misses listing room fresh.
        placed_is_tree limits t tree p name (directory n) t.bytes (with_attributes n (new_attributes permissions) t).attributes misses.directory misses.free misses.good (directory_joins limits t tree n fresh.low fresh.high fresh.free permissions fits) names listing room)

    pub stays_symlink : (text path : List ℕ) (permissions : Permissions) → FitAttributes limits.has_attributes (new_attributes permissions) → LeavesTree limits (changing.makes_symlink limits now t text path permissions)
    stays_symlink text path permissions fits =
        stays_passed limits t tree (changing.link_text_tests limits text) (changing.creates limits now t path (λ p n. with_symlink p n permissions text)) (λ pass.
        stays_creates path (λ p n. with_symlink p n permissions text) (λ p name n names misses listing room fresh.
        placed_is_tree limits t tree p name (symlink n text) t.bytes (with_attributes n (new_attributes permissions) t).attributes misses.directory misses.free misses.good (symlink_joins limits t tree n fresh.low fresh.high fresh.free permissions fits text (link_text limits text pass)) names listing room))

    -- a file gets one more name
    stays_linked : (p : Path) (o : Object) (path : List ℕ) → t.objects p ≡ Some o → first_refusal (new_text_tests limits path) ≡ None → LeavesTree limits (changing.links_object limits now t o path)
    stays_linked p o path at_p passed =
        stays_by_kind limits t tree o _ _ _ (λ n kind. stays_refused limits t tree EPERM) (λ n text kind. stays_refused limits t tree EPERM) (λ n kind.
        stays_along limits t tree false path _ _ (λ s reached. stays_leads limits t tree s _ _ (reached_well limits t tree (last_tests path) false path passed s reached)
        (λ q r at at_q. stays_refused limits t tree EEXIST)
        (λ q name at misses. stays_links limits t tree (file n) _ (λ count counts.
        stays_passed limits t tree ((nat_le limits.file_names count, EMLINK) ∷ []) _ (λ pass.
        stays_place limits t tree q _ (λ names listing room.
        stays_changed limits t tree reply.Done (changing.entered now Status n q t (with_object (q ++ name ∷ []) (file n) t)) (logs adds_name)
        (entered_is Status n q (with_object (q ++ name ∷ []) (file n) t) (placed_is_tree limits t tree q name (file n) t.bytes t.attributes misses.directory misses.free misses.good (link_joins limits t tree p n count (at_p ∙ ap (λ x. Some x) kind) counts (leb-false limits.file_names count pass.0)) names listing room)))))))
        (λ r alone has. absurd (not_alone limits path passed alone)))

    pub stays_link : (old path : List ℕ) → LeavesTree limits (changing.links limits now t old path)
    stays_link old path =
        stays_tested limits t tree (text_tests limits old ++ new_text_tests limits path) _ (λ e.
        let both = passed_both (text_tests limits old) (new_text_tests limits path) e in
        stays_along limits t tree false old _ _ (λ s reached. stays_leads_to limits t tree s _ (reached_well limits t tree [] false old both.0 s reached) (λ p o is at_p. stays_linked p o path at_p both.1))
        (λ o alone has. stays_linked has.0 o path has.1 both.1))

    -- what is taken away

    stays_removed : (p : Path) (o : Object) → t.objects p ≡ Some o → p ≢ [] → ((x : Name) → t.objects (p ++ x ∷ []) ≡ None) → LeavesTree limits (changing.removes now t p)
    stays_removed p o at_p low leaf =
        let touches : Touches = touches_entry Status (number_at_path t p) (number_at_path t (parent p)) in
        stays_swept limits t tree reply.Done (marked now touches (without_object p t)) (logs removes_name) (marked_is_loose limits now timed touches (without_object p t) (taken_is_loose limits t tree p o at_p low leaf))

    pub stays_rmdir : (path : List ℕ) → LeavesTree limits (changing.removes_directory limits now t path)
    stays_rmdir path =
        stays_tested limits t tree (new_text_tests limits path ++ (is_root_text path, EBUSY) ∷ []) _ (λ e.
        let both = passed_both (new_text_tests limits path) ((is_root_text path, EBUSY) ∷ []) e in
        let not_root = (all_passed ((is_root_text path, EBUSY) ∷ []) both.1).0 in
        stays_along limits t tree false path _ _ (λ r reached. stays_leads_to limits t tree r _ (reached_well limits t tree (last_tests path) false path both.0 r reached) (λ p o is at_p.
        stays_by_kind limits t tree o _ _ _
        (λ n kind. stays_names limits t tree p _ (λ names listing. stays_passed limits t tree ((not (is_empty names), ENOTEMPTY) ∷ []) _ (λ pass.
        stays_removed p o at_p (low_by r p (reached_below_root limits t path both.0 not_root r reached) is) (no_names p names listing pass.0))))
        (λ n text kind. stays_refused limits t tree ENOTDIR) (λ n kind. stays_refused limits t tree ENOTDIR)))
        (λ o alone has. absurd (not_alone limits path both.0 alone)))

    pub stays_unlink : (path : List ℕ) → LeavesTree limits (changing.unlinks limits now t path)
    stays_unlink path =
        stays_tested limits t tree (new_text_tests limits path) _ (λ e.
        stays_along limits t tree false path _ _ (λ r reached. stays_leads_to limits t tree r _ (reached_well limits t tree (last_tests path) false path e r reached) (λ p o is at_p.
        stays_passed limits t tree ((is_directory (Some o), EPERM) ∷ []) _ (λ pass.
        stays_removed p o at_p (λ root. false≢true (sym pass.0 ∙ ap is_directory (sym at_p ∙ ap t.objects root ∙ tree.root))) (no_directory p o at_p pass.0))))
        (λ o alone has. absurd (not_alone limits path e alone)))

    -- `open`

    stays_opens_object : (tells : Bool) (o : Object) (flags : Flags) (fd : ℕ) → HasNumber t (number_of_object o) o → fd < OPEN_FILES → t.descriptors fd ≡ None → LeavesTree limits (descriptors.opens_object tells now t o flags fd)
    stays_opens_object tells o flags fd has below closed =
        stays_passed limits t tree ((flags.creates && flags.exclusive, EEXIST) ∷ []) _ (λ pass.
        stays_by_kind limits t tree o _ _ _ (λ n kind. stays_refused limits t tree EISDIR) (λ n text kind. stays_never limits t tree) (λ n kind.
        stays_either limits t tree flags.truncates _ _
        (λ e. stays_opens_file tells n flags fd (changing.truncated_to now n 0 t) (changing.need_of_truncate now n 0 t) (opened n (kind_stands limits t tree (λ k. file k) o n kind has) (changing.truncated_to now n 0 t) (truncated_is limits t tree now timed n 0 (inl (kind_stands limits t tree (λ k. file k) o n kind has)) (omega arith))))
        (λ e. stays_opens_file tells n flags fd t nothing (opened n (kind_stands limits t tree (λ k. file k) o n kind has) t (record { is = tree; objects = refl; descriptors = refl })))))
      where
        opened : (n : ℕ) → StandsAtPath t file n → (u : Tree) → IsTruncated limits t tree u → IsTree limits (with_descriptor fd (Some (descriptors.described_by n flags)) u)
        opened n is u truncate =
            held_is_tree limits u truncate.is fd (descriptors.described_by n flags) below (inl (is.0, ap (λ f. f is.0) truncate.objects ∙ is.1)) (lit≤ tt) (λ g at_g. none_some (sym closed ∙ ap (λ f. f fd) (sym truncate.descriptors) ∙ at_g))

    stays_opens_new : (tells : Bool) (p : Path) (name : Name) (flags : Flags) (permissions : Permissions) (fd : ℕ) → FitAttributes limits.has_attributes (new_attributes permissions) → Misses t p name → fd < OPEN_FILES → t.descriptors fd ≡ None → LeavesTree limits (descriptors.opens_new tells limits now t p name flags permissions fd)
    stays_opens_new tells p name flags permissions fd fits misses below closed =
        stays_passed limits t tree ((not flags.creates, ENOENT) ∷ []) _ (λ pass.
        stays_place limits t tree p _ (λ names listing room. stays_fresh limits t tree _ (λ n fresh.
        let made : Tree = with_file (p ++ name ∷ []) n permissions t in
        let touches : Touches = touches_entry Data (Some n) (number_at_path t p) in
        stays_opens_file tells n flags fd (marked now touches made) (logs adds_name)
        (held_is_tree limits (marked now touches made)
        (entered_is Data n p made (placed_is_tree limits t tree p name (file n) (with_bytes n [] t).bytes (with_attributes n (new_attributes permissions) t).attributes misses.directory misses.free misses.good (file_joins limits t tree n fresh.low fresh.high fresh.free permissions fits) names listing room))
        fd (descriptors.described_by n flags) below (inl (p ++ name ∷ [], ap (λ f. f (p ++ name ∷ [])) (marked_objects now touches made) ∙ put-here (p ++ name ∷ []) (Some (file n)) t.objects)) (lit≤ tt) (λ g at_g. none_some (sym closed ∙ ap (λ f. f fd) (sym (marked_descriptors now touches made)) ∙ at_g))))))

    pub stays_open : (tells : Bool) (below : ℕ) (path : List ℕ) (flags : Flags) (permissions : Permissions) → FitAttributes limits.has_attributes (new_attributes permissions) → LeavesTree limits (descriptors.opens tells below limits now t path flags permissions)
    stays_open tells below path flags permissions fits =
        let follow : Bool = not (flags.creates && flags.exclusive) in
        stays_tested limits t tree (text_tests_then limits (descriptors.open_tests flags) path) _ (λ e.
        elim (lowest_free t.descriptors (min below OPEN_FILES)) as (λ o. lowest_free t.descriptors (min below OPEN_FILES) ≡ o → LeavesTree limits (elim o as (λ _. Outcome) [
          | None ↦ refuses t EMFILE
          | Some fd ↦ goes_along t follow path (λ p o. descriptors.opens_object tells now t o flags fd) (λ p name. descriptors.opens_new tells limits now t p name flags permissions fd)
        ])) [
          | None ↦ λ is. stays_refused limits t tree EMFILE
          | Some fd ↦ λ is.
              let free = free_is t.descriptors (min below OPEN_FILES) fd is in
              let below : fd < OPEN_FILES = omega (arith, free.0, min-le_right below OPEN_FILES) in
              stays_along limits t tree follow path _ _ (λ r reached. stays_leads limits t tree r _ _ (reached_well limits t tree (descriptors.open_tests flags) follow path e r reached)
              (λ p o at at_p. stays_opens_object tells o flags fd (p, at_p, refl) below free.1)
              (λ p name at misses. stays_opens_new tells p name flags permissions fd fits misses below free.1))
              (λ o alone has. stays_opens_object tells o flags fd has below free.1)
        ] refl)
