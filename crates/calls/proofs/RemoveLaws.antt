-- What the definitions say of taking a name away over a path, by what was found in a volume.
use Rattle.std.proofs.Common.{◌≡◌, ◌≢◌, ◌↔◌, inl, inr, ℕ, List, [], ◌∷◌, ◌++◌, length, Bool, true, false, not, Option, Some, None, IsSome, Result, Ok, Err, refl, sym, ap, subst, ◌∙◌, arith}
use Rattle.std.specs.List.Sorted.{IsStrictlySortedBy}
use Rattle.std.proofs.lemmas.Bool.{false≢true, ne_eqb}
use Rattle.model.specs.declared.limits.Limits.{Limits}
use Rattle.model.specs.Changing.{removes, removes_directory, unlinks}
use Rattle.model.specs.Edits.{marked, number_at_path, without_object, IsSwept}
use Rattle.model.specs.Finding.{at_entry, here, IsPlaceAt}
use Rattle.model.specs.Laws.{RecordsChangeTrees}
use Rattle.model.specs.Outcomes.{Outcome, IsListing, goes_to, leads, refuses, tested, with_names}
use Rattle.model.specs.Paths.{Name, Path, Tests, first_refusal, is_empty, is_root_text, new_text_tests}
use Rattle.model.specs.Records.{Change, Applies, applied, remove_name, stamped, IsEmpty}
use Rattle.model.specs.Resolution.{Resolution, named, missing, parent, refused}
use Rattle.model.specs.Room.{Need, logs, nothing, removes_name}
use Rattle.model.specs.Trees.{Tree, Object, Description, IsTree, is_directory}
use Rattle.model.specs.Trees as trees
use Rattle.model.specs.Touches.{touches_entry}
use Rattle.model.specs.Volumes.{Node, directory_node, file_node, link_node, Volume, enter, entries, names_in, number_at, object_at, object_of, swept, tree_of, IsMounted, IsVolume}
use Rattle.model.specs.declared.attributes.Touch.TheVariants.{Status}
use Rattle.model.specs.declared.errno.Errno.{Errno}
use Rattle.model.specs.declared.errno.Errno.TheVariants.{ENOENT, ENOTDIR, EPERM, EBUSY, ENOTEMPTY}
use Rattle.model.specs.declared.reply.Reply.{Reply}
use Rattle.model.specs.declared.reply.Reply.TheVariants.{Done, Refused}
use Rattle.model.specs.declared.time.Time.{Time}
use Rattle.model.proofs.LooseLemmas.{some_same}
use Rattle.model.proofs.VolumeLemmas.{enters_directory}
use Rattle.model.proofs.WalkLemmas.{number_at-push}
use Rattle.paths.specs.Starts.{Reaches}
use Rattle.paths.specs.Steps.{found_in}
use Rattle.paths.specs.declared.lookup.Found.TheVariants as found
use Rattle.calls.specs.Changing.{ComesSwept, ComesSweptBy}
use Rattle.calls.specs.Leading.{LeadsAlong}
use Rattle.calls.specs.Rmdir.{RemovesDirectory}
use Rattle.calls.specs.Unlink.{UnlinksEntry}
use Rattle.calls.specs.declared.changed.Changing.{Changing}
use Rattle.calls.proofs.LeadLaws.{along_reached, along_refused, along_there}
use Rattle.calls.proofs.DirectoryLaws.{child_some, listing}
use Rattle.calls.proofs.MarkLaws.{parent_number}
use Rattle.calls.proofs.TestedLaws.{tested_some, tested_none}
use Rattle.model.proofs.ObjectLaws.{directory_object, node_object}
use Rattle.model.proofs.OptionLaws.{none_some}
use Rattle.model.proofs.TestLaws.{first_append, first_in_front}

-- ---- kinds

-- what isn't a directory has no names
pub no_names : (o : Option Node) → found_in o ≢ found.Directory → (x : Name) → names_in o x ≡ None
no_names None other x = refl
no_names (Some (directory_node attributes names)) other x = absurd (other refl)
no_names (Some (file_node attributes links bytes)) other x = refl
no_names (Some (link_node attributes text)) other x = refl

object_is : (n : ℕ) (o : Option Node) (x : Object) → found_in o ≡ found.Directory → object_of n o ≡ Some x → x ≡ trees.directory n
object_is n None x is object = not_found is
  where
    not_found : {X : Type 0} → found.Nothing ≡ found.Directory → X
    not_found e = cc
object_is n (Some (directory_node attributes names)) x is object = sym (some_same object)
object_is n (Some (file_node attributes links bytes)) x is object = not_found is
  where
    not_found : {X : Type 0} → found.File ≡ found.Directory → X
    not_found e = cc
object_is n (Some (link_node attributes text)) x is object = not_found is
  where
    not_found : {X : Type 0} → found.Link ≡ found.Directory → X
    not_found e = cc

object_other : (n : ℕ) (o : Option Node) (x : Object) → found_in o ≢ found.Directory → object_of n o ≡ Some x → is_directory (Some x) ≡ false
object_other n None x other object = none_some object
object_other n (Some (directory_node attributes names)) x other object = absurd (other refl)
object_other n (Some (file_node attributes links bytes)) x other object = ap (λ (y : Object). is_directory (Some y)) (sym (some_same object))
object_other n (Some (link_node attributes text)) x other object = ap (λ (y : Object). is_directory (Some y)) (sym (some_same object))

-- ---- an entry that a path leads to

pub record FindsEntry (v : Volume) (r : Resolution) (d : ℕ) (x : Name) (n : ℕ) : Type 0 where
  pub path : Path
  pub is : r ≡ named (path ++ x ∷ [])
  pub at : number_at (entries v) path ≡ Some d
  pub edge : entries v d x ≡ Some n

pub finds_entry : (v : Volume) (trail : List ℕ) (x : Name) (n : ℕ) (r : Resolution) → IsPlaceAt v (at_entry trail x n) r → FindsEntry v r (here trail) x n
finds_entry v trail x n (named q) (p, at, same, to) = record {
  path = p;
  is = ap named same;
  at = at;
  edge = to;
}
finds_entry v trail x n (missing p name) is = absurd is
finds_entry v trail x n (refused errno) is = absurd is

-- ---- texts that are refused

module _ (limits : Limits) (now : Option Time) (v : Volume) (table : ℕ → Option Description) (text : List ℕ) where
  abbrev of_volume : Tree
  of_volume = tree_of v table

  pub unlink_text_refused : (errno : Errno) → first_refusal (new_text_tests limits text) ≡ Some errno → unlinks limits now of_volume text (Refused errno) of_volume nothing
  unlink_text_refused errno is = tested_some of_volume (new_text_tests limits text) _ errno is

  pub remove_refused : (errno : Errno) → first_refusal (new_text_tests limits text) ≡ Some errno → removes_directory limits now of_volume text (Refused errno) of_volume nothing
  remove_refused errno is =
      tested_some of_volume (new_text_tests limits text ++ (is_root_text text, EBUSY) ∷ []) _ errno (first_in_front (new_text_tests limits text) ((is_root_text text, EBUSY) ∷ []) errno is)

  pub remove_root : first_refusal (new_text_tests limits text) ≡ None → is_root_text text ≡ true → removes_directory limits now of_volume text (Refused EBUSY) of_volume nothing
  remove_root passed is =
      tested_some of_volume (new_text_tests limits text ++ (is_root_text text, EBUSY) ∷ []) _ EBUSY
      (first_append (new_text_tests limits text) ((is_root_text text, EBUSY) ∷ []) passed ∙ ap (λ (b : Bool). first_refusal ((b, EBUSY) ∷ [])) is)

module _ (limits : Limits) (now : Option Time) (v : Volume) (table : ℕ → Option Description) (volume : IsVolume limits v) (mounted : IsMounted v table) (tree : IsTree limits (tree_of v table)) (law : RecordsChangeTrees) where
  abbrev t : Tree
  t = tree_of v table

  module _ (d : ℕ) (x : Name) (n : ℕ) (r : Resolution) (finds : FindsEntry v r d x n) where
    abbrev q : Path
    q = finds.path ++ x ∷ []

    at_name : number_at (entries v) q ≡ Some n
    at_name = number_at-push (entries v) finds.path x ∙ ap (λ (o : Option ℕ). enter (entries v) o x) finds.at ∙ finds.edge

    abbrev change : Change
    change = stamped now (remove_name d x)

    abbrev after : Tree
    after = tree_of (swept table (applied change v)) table

    parent_is : t.objects finds.path ≡ Some (trees.directory d)
    parent_is = ap (object_at v) finds.at ∙ directory_object d (v d) (enters_directory (v d) x n finds.edge)

    -- the record takes away what stands there
    record IsRemoved : Type 0 where
      still_mounted : IsMounted (swept table (applied change v)) table
      swept : IsSwept (marked now (touches_entry Status (number_at_path t q) (number_at_path t (parent q))) (without_object q t)) after

    is_removed : Applies limits v change → IsRemoved
    is_removed applies =
        let told = law limits v table change volume mounted applies tt in
        let same : told.1.0 ≡ finds.path =
        elim (tree.single told.1.0 finds.path (trees.directory d) (trees.directory d) told.1.1 parent_is refl) [ inl e ↦ e | inr other ↦ no_file other.0 ] in
        record {
          still_mounted = told.0;
          swept = subst (λ (o : Option ℕ). IsSwept (marked now (touches_entry Status (number_at_path t q) o) (without_object q t)) after) (sym (parent_number t finds.path x d parent_is))
              (subst (λ (p : Path). IsSwept (marked now (touches_entry Status (number_at_path t (p ++ x ∷ [])) (Some d)) (without_object (p ++ x ∷ []) t)) after) same told.1.2);
        }
      where
        no_file : {X : Type 0} → trees.directory d ≡ trees.file d → X
        no_file e = cc

    removed : Applies limits v change → removes now t q Done after (logs removes_name)
    removed applies = (refl, (is_removed applies).swept, refl)

    -- what comes of the object there
    pub there_comes : (there : Path → Object → Outcome) (gone : Path → Name → Outcome) (reply : Reply) (new : Tree) (need : Need) → ((o : Object) → object_of n (v n) ≡ Some o → there q o reply new need)
        → leads t r there gone reply new need
    there_comes there gone reply new need comes =
        subst (λ (s : Resolution). leads t s there gone reply new need) (sym finds.is)
        (subst (λ (o : Option Object). (elim o as (λ _. Outcome) [ Some o ↦ there q o | None ↦ λ _ _ _. ⊥ ]) reply new need) (sym (ap (object_at v) at_name))
        (by (object_of n (v n)) refl (node_object n (v n) (volume.graph.naming.used d n x finds.edge))))
      where
        by : (o : Option Object) → object_of n (v n) ≡ o → IsSome o → (elim o as (λ _. Outcome) [ Some o ↦ there q o | None ↦ λ _ _ _. ⊥ ]) reply new need
        by None is some = absurd (false≢true some)
        by (Some o) is some = comes o is

    -- where a text leads to it
    pub entry_comes : (text : List ℕ) → Reaches t false text r → (there : Path → Object → Outcome) (reply : Reply) (new : Tree) (need : Need)
        → ((o : Object) → object_of n (v n) ≡ Some o → there q o reply new need) → goes_to t false text there reply new need
    entry_comes text reaches there reply new need comes =
        along_reached t false text there (λ p name. refuses t ENOENT) reply new need r reaches (there_comes there (λ p name. refuses t ENOENT) reply new need comes)

  -- ---- unlink

  module _ (text : List ℕ) (passed : first_refusal (new_text_tests limits text) ≡ None) where
    abbrev unlinked : Path → Object → Outcome
    unlinked p o = tested t ((is_directory (Some o), EPERM) ∷ []) (removes now t p)

    unlink_led : (reply : Reply) (new : Tree) (need : Need) → goes_to t false text unlinked reply new need → unlinks limits now t text reply new need
    unlink_led reply new need done = tested_none t (new_text_tests limits text) (goes_to t false text unlinked) reply new need passed done

    pub unlink_refused : (errno : Errno) → LeadsAlong t v false text (Err errno) → unlinks limits now t text (Refused errno) t nothing
    unlink_refused errno is = unlink_led (Refused errno) t nothing (along_refused v table false text unlinked errno is)

    -- a directory isn't unlinked
    unlink_no_directory : (n : ℕ) (p : Path) (o : Object) → found_in (v n) ≡ found.Directory → object_of n (v n) ≡ Some o → unlinked p o (Refused EPERM) t nothing
    unlink_no_directory n p o is object =
        subst (λ (y : Object). unlinked p y (Refused EPERM) t nothing) (sym (object_is n (v n) o is object)) (refl, refl, refl)

    pub unlink_directory : (n : ℕ) → LeadsAlong t v false text (Ok n) → found_in (v n) ≡ found.Directory → unlinks limits now t text (Refused EPERM) t nothing
    unlink_directory n leads is =
        unlink_led (Refused EPERM) t nothing (along_there v table false text unlinked n (Refused EPERM) t nothing (λ p o here. unlink_no_directory n p o is here.here) leads)

    module _ (r : Resolution) (reaches : Reaches t false text r) (d : ℕ) (x : Name) (n : ℕ) (finds : FindsEntry v r d x n) where
      not_directory : (p : Path) (o : Object) (reply : Reply) (new : Tree) (need : Need) → is_directory (Some o) ≡ false → removes now t p reply new need → unlinked p o reply new need
      not_directory p o reply new need not done =
          subst (λ (b : Bool). tested t ((b, EPERM) ∷ []) (removes now t p) reply new need) (sym not) done

      pub unlink_comes : (c : Result Changing Errno) → UnlinksEntry limits now v d x n c → ComesSwept (unlinks limits now t text) limits v table c
      unlink_comes c (inl (directory, is)) =
          subst (ComesSwept (unlinks limits now t text) limits v table) (sym is)
          (unlink_led (Refused EPERM) t nothing
          (entry_comes d x n r finds text reaches unlinked (Refused EPERM) t nothing (λ o object. unlink_no_directory n (finds.path ++ x ∷ []) o directory object)))
      unlink_comes (Ok c) (inr (other, (says, applies))) =
          let new = tree_of (swept table (applied (stamped now (remove_name d x)) v)) table in
          subst (ComesSweptBy (unlinks limits now t text) limits v table) (sym says) (
            applies,
            (is_removed d x n r finds applies).still_mounted,
            unlink_led Done new (logs removes_name)
                (entry_comes d x n r finds text reaches unlinked Done new (logs removes_name) (λ o object.
                not_directory (finds.path ++ x ∷ []) o Done new (logs removes_name) (object_other n (v n) o other object) (removed d x n r finds applies))),
          )
      unlink_comes (Err ENOENT) (inr (other, none)) = none_some (sym none ∙ finds.edge)
      unlink_comes (Err ENOTEMPTY) (inr (other, (m, there, filled))) =
          absurd (filled (λ y. no_names (v m) (subst (λ (k : ℕ). found_in (v k) ≢ found.Directory) (some_same (sym finds.edge ∙ there)) other) y))
      unlink_comes (Err _) (inr (other, told)) = absurd told

  -- ---- rmdir

  none_if : (o : Option ℕ) → (IsSome o → ⊥) → o ≡ None
  none_if None nothing_there = refl
  none_if (Some n) nothing_there = absurd (nothing_there refl)

  module _ (text : List ℕ) where
    abbrev tests : Tests
    tests = new_text_tests limits text ++ (is_root_text text, EBUSY) ∷ []

    abbrev taken_away : Path → Object → Outcome
    taken_away p o = elim o as (λ _. Outcome) [
      | trees.directory n ↦ with_names t p (λ names. tested t ((not (is_empty names), ENOTEMPTY) ∷ []) (removes now t p))
      | trees.symlink n link ↦ refuses t ENOTDIR
      | trees.file n ↦ refuses t ENOTDIR
    ]

    module _ (passed : first_refusal (new_text_tests limits text) ≡ None) (not_root : is_root_text text ≡ false) where
      remove_led : (reply : Reply) (new : Tree) (need : Need) → goes_to t false text taken_away reply new need → removes_directory limits now t text reply new need
      remove_led reply new need done =
          tested_none t tests (goes_to t false text taken_away) reply new need
          (first_append (new_text_tests limits text) ((is_root_text text, EBUSY) ∷ []) passed ∙ ap (λ (b : Bool). first_refusal ((b, EBUSY) ∷ [])) not_root) done

      pub remove_led_nowhere : (errno : Errno) → LeadsAlong t v false text (Err errno) → removes_directory limits now t text (Refused errno) t nothing
      remove_led_nowhere errno is = remove_led (Refused errno) t nothing (along_refused v table false text taken_away errno is)

      module _ (r : Resolution) (reaches : Reaches t false text r) (d : ℕ) (x : Name) (n : ℕ) (finds : FindsEntry v r d x n) where
        abbrev at : Path
        at = finds.path ++ x ∷ []

        no_directory : (o : Option Node) (y : Object) → found_in o ≢ found.Directory → object_of n o ≡ Some y → taken_away at y (Refused ENOTDIR) t nothing
        no_directory None y other object = none_some object
        no_directory (Some (directory_node attributes names)) y other object = absurd (other refl)
        no_directory (Some (file_node attributes links bytes)) y other object = subst (λ (z : Object). taken_away at z (Refused ENOTDIR) t nothing) (some_same object) (refl, refl, refl)
        no_directory (Some (link_node attributes link)) y other object = subst (λ (z : Object). taken_away at z (Refused ENOTDIR) t nothing) (some_same object) (refl, refl, refl)

        -- the names in it
        child : (y : Name) → IsSome (t.objects (at ++ y ∷ [])) ↔ IsSome (entries v n y)
        child y = child_some limits v table volume at n (at_name d x n r finds) y

        empty_listing : IsEmpty v n → IsListing t at []
        unfolding IsStrictlySortedBy
        empty_listing empty = record {
          sorted = tt;
          whole = λ y. (
            λ is. absurd (omega (arith, is.1)),
            λ there. absurd (false≢true (subst (λ (o : Option ℕ). IsSome o) (empty y) ((child y).0 there))),
          );
        }

        same_number : (a b : ℕ) → Some a ≡ Some b → a ≡ b
        same_number a b e = cc

        filled : (names : List Name) → IsListing t at names → (IsEmpty v n → ⊥) → tested t ((not (is_empty names), ENOTEMPTY) ∷ []) (removes now t at) (Refused ENOTEMPTY) t nothing
        filled [] lists cannot =
            absurd (cannot (λ y. none_if (entries v n y) (λ there. let is = (lists.whole y).1 ((child y).1 there) in omega (arith, is.1))))
        filled (y ∷ names) lists cannot =
            subst (λ (b : Bool). tested t ((b, ENOTEMPTY) ∷ []) (removes now t at) (Refused ENOTEMPTY) t nothing)
            (sym (ap not_of (ne_eqb (length (y ∷ names)) 0 (λ (z : length (y ∷ names) ≡ 0). omega (arith, z))))) (refl, refl, refl)
          where
            not_of : Bool → Bool
            not_of b = not b

        pub remove_comes : (c : Result Changing Errno) → RemovesDirectory limits now v d x n c → ComesSwept (removes_directory limits now t text) limits v table c
        remove_comes c (inl (other, is)) =
            subst (ComesSwept (removes_directory limits now t text) limits v table) (sym is)
            (remove_led (Refused ENOTDIR) t nothing (entry_comes d x n r finds text reaches taken_away (Refused ENOTDIR) t nothing (λ o object. no_directory (v n) o other object)))
        remove_comes (Ok c) (inr (is, (says, applies))) =
            let new = tree_of (swept table (applied (stamped now (remove_name d x)) v)) table in
            let same : applies.edit.number ≡ n = same_number applies.edit.number n (sym applies.edit.there ∙ finds.edge) in
            let empty = subst (λ (k : ℕ). IsEmpty v k) same applies.edit.empty in
            subst (ComesSweptBy (removes_directory limits now t text) limits v table) (sym says) (
              applies,
              (is_removed d x n r finds applies).still_mounted,
              remove_led Done new (logs removes_name)
                  (entry_comes d x n r finds text reaches taken_away Done new (logs removes_name) (λ o object.
                  subst (λ (z : Object). taken_away at z Done new (logs removes_name)) (sym (object_is n (v n) o is object))
                  ([], empty_listing empty, removed d x n r finds applies))),
            )
        remove_comes (Err ENOENT) (inr (is, none)) = none_some (sym none ∙ finds.edge)
        remove_comes (Err ENOTEMPTY) (inr (directory, (m, there, not))) =
            let (count, counts, most) = volume.keeps.children n in
            let (names, are, many) = listing limits v table volume mounted tree at n (at_name d x n r finds) count counts in
            let cannot = subst (λ (k : ℕ). IsEmpty v k → ⊥) (some_same (sym there ∙ finds.edge)) not in
            remove_led (Refused ENOTEMPTY) t nothing
            (entry_comes d x n r finds text reaches taken_away (Refused ENOTEMPTY) t nothing (λ o object.
            subst (λ (z : Object). taken_away at z (Refused ENOTEMPTY) t nothing) (sym (object_is n (v n) o directory object)) (names, are, filled names are cannot)))
        remove_comes (Err _) (inr (is, told)) = absurd told
