-- What the definitions say of giving a file one more name over paths, by what was found in a volume.
use Rattle.std.proofs.Common.{◌≡◌, inl, inr, ℕ, ◌+◌, ◌<◌, List, [], ◌∷◌, ◌++◌, Bool, true, false, Option, Some, None, Result, Ok, Err, add-one, refl, sym, ap, subst, ◌∙◌}
use Rattle.std.specs.Prelude.{nat_le}
use Rattle.std.proofs.lemmas.Bool.{cases_eq, false≢true, lt-leb, le-leb}
use Rattle.model.specs.declared.limits.Limits.{Limits}
use Rattle.model.specs.declared.attributes.Attributes.{Attributes}
use Rattle.model.specs.Changes.{ChangesTree}
use Rattle.model.specs.Changing.{entered, links, links_object}
use Rattle.model.specs.Edits.{marked, with_object}
use Rattle.model.specs.Finding.{at_refusal, IsPlaceAt}
use Rattle.model.specs.Laws.{RecordsChangeTrees, VolumesTellLinks}
use Rattle.model.specs.Outcomes.{Outcome, changes, goes_to, leads, refuses, tested, with_links, with_place}
use Rattle.model.specs.Paths.{Name, Path, first_refusal, new_text_tests, text_tests}
use Rattle.model.specs.Records.{Change, Applies, applied, link, stamped}
use Rattle.model.specs.Resolution.{Resolution}
use Rattle.model.specs.Room.{Need, adds_name, logs, nothing}
use Rattle.model.specs.Trees.{Tree, Object, Description, IsTree}
use Rattle.model.specs.Trees as trees
use Rattle.model.specs.Touches.{touches_entry}
use Rattle.model.specs.Volumes.{Node, directory_node, file_node, link_node, Volume, object_of, is_directory_node, is_file_node, is_open, linked, set_name, swept, swept_node, tree_of, with_name_more, with_node, IsMounted, IsVolume}
use Rattle.model.specs.declared.attributes.Touch.TheVariants.{Status}
use Rattle.model.specs.declared.errno.Errno.{Errno}
use Rattle.model.specs.declared.errno.Errno.TheVariants.{DIRFULL, EEXIST, EMLINK, ENAMETOOLONG, EPERM}
use Rattle.model.specs.declared.limits.TheConstants.{OPEN_FILES}
use Rattle.model.specs.declared.reply.Reply.{Reply}
use Rattle.model.specs.declared.reply.Reply.TheVariants.{Done, Refused}
use Rattle.model.specs.declared.time.Time.{Time}
use Rattle.model.proofs.LooseLemmas.{some_same}
use Rattle.paths.specs.Starts.{Reaches}
use Rattle.paths.specs.Steps.{found_in}
use Rattle.paths.specs.declared.lookup.Found.TheVariants as found
use Rattle.calls.specs.Changing.{Comes, ComesBy, Decides}
use Rattle.calls.specs.Leading.{LeadsAlong, LeadsTo}
use Rattle.records.specs.Steps.{IsFileWithLinks}
use Rattle.calls.specs.declared.changed.Changing.{Changing}
use Rattle.calls.proofs.GapLaws.{FindsGap, gap_parent, place_free, place_full}
use Rattle.calls.proofs.LeadLaws.{along_reached, along_refused, along_there}
use Rattle.calls.proofs.MarkLaws.{entered_here, marked_unswept}
use Rattle.calls.proofs.TestedLaws.{tested_none, tested_some}
use Rattle.calls.proofs.PlaceLaws.{refused_at, there_at}
use Rattle.model.proofs.ObjectLaws.{node_here, node_other}
use Rattle.model.proofs.OptionLaws.{none_some}

-- texts that don't pass their tests
pub link_tests_refused : (limits : Limits) (now : Option Time) (v : Volume) (table : ℕ → Option Description) (old path : List ℕ) (errno : Errno) → first_refusal (text_tests limits old ++ new_text_tests limits path) ≡ Some errno
    → links limits now (tree_of v table) old path (Refused errno) (tree_of v table) nothing
link_tests_refused limits now v table old path errno is = tested_some (tree_of v table) (text_tests limits old ++ new_text_tests limits path) _ errno is

-- a file that has names isn't swept
file_stays : (open_now : Bool) (attributes : Attributes) (links : ℕ) (bytes : List ℕ) → swept_node open_now (Some (file_node attributes (links + 1) bytes)) ≡ Some (file_node attributes (links + 1) bytes)
file_stays open_now attributes links bytes =
    subst (λ (n : ℕ). swept_node open_now (Some (file_node attributes n bytes)) ≡ Some (file_node attributes n bytes)) (sym (add-one links)) refl

directory_stays : (open_now : Bool) (x : Name) (to : Option ℕ) (o : Option Node) → is_directory_node o ≡ true → swept_node open_now (set_name x to o) ≡ set_name x to o
directory_stays open_now x to None is = absurd (false≢true is)
directory_stays open_now x to (Some (directory_node attributes names)) is = refl
directory_stays open_now x to (Some (file_node attributes links bytes)) is = absurd (false≢true is)
directory_stays open_now x to (Some (link_node attributes text)) is = absurd (false≢true is)

object_file : (n : ℕ) (o : Option Node) (y : Object) (attributes : Attributes) (count : ℕ) (bytes : List ℕ) → o ≡ Some (file_node attributes count bytes) → object_of n o ≡ Some y → trees.file n ≡ y
object_file n o y attributes count bytes is object = some_same (sym (ap (object_of n) is) ∙ object)

-- ---- kinds

pub file_found : (o : Option Node) → found_in o ≡ found.File → (count : ℕ) × IsFileWithLinks count o
file_found None is = other is
  where
    other : {X : Type 0} → found.Nothing ≡ found.File → X
    other e = cc
file_found (Some (directory_node attributes names)) is = other is
  where
    other : {X : Type 0} → found.Directory ≡ found.File → X
    other e = cc
file_found (Some (file_node attributes count bytes)) is = (count, (attributes, bytes, refl))
file_found (Some (link_node attributes text)) is = other is
  where
    other : {X : Type 0} → found.Link ≡ found.File → X
    other e = cc

module _ (limits : Limits) (now : Option Time) (v : Volume) (table : ℕ → Option Description) (volume : IsVolume limits v) (mounted : IsMounted v table) (tree : IsTree limits (tree_of v table)) where
  abbrev t : Tree
  t = tree_of v table

  module _ (old path : List ℕ) (passed : first_refusal (text_tests limits old ++ new_text_tests limits path) ≡ None) where
    abbrev gone : ℕ → Path → Name → Outcome
    gone n q x =
        with_links t (trees.file n)
        (λ count. tested t ((nat_le limits.file_names count, EMLINK) ∷ []) (with_place limits t q (changes Done (entered now Status n q t (with_object (q ++ x ∷ []) (trees.file n) t)) (logs adds_name))))

    abbrev exists : Path → Object → Outcome
    exists q r = refuses t EEXIST

    abbrev there : Path → Object → Outcome
    there p o = links_object limits now t o path

    led : (reply : Reply) (new : Tree) (need : Need) → goes_to t false old there reply new need → links limits now t old path reply new need
    led reply new need done = tested_none t (text_tests limits old ++ new_text_tests limits path) (goes_to t false old there) reply new need passed done

    pub link_nowhere : (errno : Errno) → LeadsAlong t v false old (Err errno) → links limits now t old path (Refused errno) t nothing
    link_nowhere errno is = led (Refused errno) t nothing (along_refused v table false old there errno is)

    no_file : (n : ℕ) (o : Option Node) (y : Object) → is_file_node o ≡ false → object_of n o ≡ Some y → links_object limits now t y path (Refused EPERM) t nothing
    no_file n None y other object = none_some object
    no_file n (Some (directory_node attributes names)) y other object = subst (λ (z : Object). links_object limits now t z path (Refused EPERM) t nothing) (some_same object) (refl, refl, refl)
    no_file n (Some (file_node attributes count bytes)) y other object = absurd (false≢true (sym other))
    no_file n (Some (link_node attributes text)) y other object = subst (λ (z : Object). links_object limits now t z path (Refused EPERM) t nothing) (some_same object) (refl, refl, refl)

    pub link_no_file : (n : ℕ) → LeadsAlong t v false old (Ok n) → is_file_node (v n) ≡ false → links limits now t old path (Refused EPERM) t nothing
    link_no_file n leads other =
        led (Refused EPERM) t nothing (along_there v table false old there n (Refused EPERM) t nothing (λ p y is. no_file n (v n) y other is.here) leads)

    -- the file is found, and where the new path leads
    module _ (n : ℕ) (attributes : Attributes) (count : ℕ) (bytes : List ℕ) (is : v n ≡ Some (file_node attributes count bytes)) (leads_from : LeadsAlong t v false old (Ok n))
        (target : Resolution) (reaches : Reaches t false path target) where
      at_target : (reply : Reply) (new : Tree) (need : Need) → leads t target exists (gone n) reply new need → links limits now t old path reply new need
      at_target reply new need done =
          led reply new need
          (along_there v table false old there n reply new need (λ p y here.
          subst (λ (z : Object). links_object limits now t z path reply new need) (object_file n (v n) y attributes count bytes is here.here)
          (along_reached t false path exists (gone n) reply new need target reaches done)) leads_from)

      pub link_target_refused : (errno : Errno) → IsPlaceAt v (at_refusal errno) target → links limits now t old path (Refused errno) t nothing
      link_target_refused errno place = at_target (Refused errno) t nothing (refused_at v table exists (gone n) errno target place)

      pub link_exists : (m : ℕ) → LeadsTo v target (Ok m) → links limits now t old path (Refused EEXIST) t nothing
      link_exists m leads_target = at_target (Refused EEXIST) t nothing (there_at v table exists (gone n) m (Refused EEXIST) t nothing (λ q r there. (refl, refl, refl)) target leads_target)

      module _ (law : RecordsChangeTrees) (tell : VolumesTellLinks) (d : ℕ) (x : Name) (gap : FindsGap limits v table volume mounted tree target d x) where
        in_gap : (reply : Reply) (new : Tree) (need : Need) → gone n gap.path x reply new need → links limits now t old path reply new need
        in_gap reply new need done =
            at_target reply new need (subst (λ (r : Resolution). leads t r exists (gone n) reply new need) (sym gap.is) done)

        abbrev change : Change
        change = stamped now (link n d x)

        abbrev bare : Volume
        bare = linked n d x v

        abbrev new : Volume
        new = applied change v

        abbrev between : Volume
        between = with_node n (with_name_more (v n)) v

        apart : d ≡ n → ⊥
        apart same =
            let directory = subst (λ (k : ℕ). is_directory_node (v k) ≡ true) same gap.parent in
            false≢true (sym (ap is_directory_node is) ∙ directory)

        each : (k : ℕ) → swept table bare k ≡ bare k
        each k =
            let open_now = is_open table OPEN_FILES k in
            elim (cases_eq k d) [
              | inl is_d ↦
                  let e = node_here d k (set_name x (Some n) (between d)) between is_d in
                  let directory = ap is_directory_node (node_other n d (with_name_more (v n)) v apart) ∙ gap.parent in
                  ap (swept_node open_now) e ∙ directory_stays open_now x (Some n) (between d) directory ∙ sym e
              | inr not_d ↦
                  let e = node_other d k (set_name x (Some n) (between d)) between not_d in
                  elim (cases_eq k n) [
                    | inl is_n ↦
                        let f = e ∙ node_here n k (with_name_more (v n)) v is_n ∙ ap with_name_more is in
                        ap (swept_node open_now) f ∙ file_stays open_now attributes count bytes ∙ sym f
                    | inr not_n ↦
                        let f = e ∙ node_other n k (with_name_more (v n)) v not_n in
                        ap (swept_node open_now) f ∙ mounted.is_swept k ∙ sym f
                  ]
            ]

        unswept : swept table new ≡ new
        unswept = marked_unswept table now (touches_entry Status (Some n) (Some d)) bare each

        abbrev made : Tree
        made = entered now Status n gap.path t (with_object (gap.path ++ x ∷ []) (trees.file n) t)

        record Gives : Type 0 where
          still_mounted : IsMounted new table
          gives : tree_of new table ≡ made

        gives : Applies limits v change → Gives
        gives applies =
            let told = subst (λ (w : Volume). IsMounted w table × ChangesTree change t (tree_of w table)) unswept (law limits v table change volume mounted applies tt) in
            let there = gap_parent limits v table volume mounted tree d x target gap in
            let same : told.1.0 ≡ gap.path =
            elim (tree.single told.1.0 gap.path (trees.directory d) (trees.directory d) told.1.1 there refl)
            [ inl e ↦ e | inr other ↦ is_no_file other.0 ] in
            record {
              still_mounted = told.0;
              gives = told.1.2 ∙ ap (λ (p : Path). marked now (touches_entry Status (Some n) (Some d)) (with_object (p ++ x ∷ []) (trees.file n) t)) same
                  ∙ entered_here now Status n d gap.path t (with_object (gap.path ++ x ∷ []) (trees.file n) t) there;
            }
          where
            is_no_file : {X : Type 0} → trees.directory d ≡ trees.file d → X
            is_no_file e = cc

        -- a file with room for a name more
        few_names : (k : ℕ) → k < limits.file_names → (rest : Outcome) (reply : Reply) (after : Tree) (need : Need) → rest reply after need
            → tested t ((nat_le limits.file_names k, EMLINK) ∷ []) rest reply after need
        few_names k few rest reply after need done =
            subst (λ (b : Bool). tested t ((b, EMLINK) ∷ []) rest reply after need) (sym (lt-leb limits.file_names k few)) done

        pub link_comes : (c : Result Changing Errno) → Decides limits v (stamped now (link n d x)) c → Comes (links limits now t old path) limits v table c
        link_comes (Ok c) (says, applies) =
            let after = tree_of new table in
            let here = gives applies in
            subst (ComesBy (links limits now t old path) limits v table) (sym says) (
              applies,
              here.still_mounted,
              in_gap Done after (logs adds_name) (
                applies.edit.links,
                tell limits v table n applies.edit.attributes applies.edit.links applies.edit.bytes volume applies.edit.file,
                few_names applies.edit.links applies.edit.few _ Done after (logs adds_name)
                    (place_free limits v table volume mounted tree d x target gap applies.edit.takes (changes Done made (logs adds_name)) Done after (logs adds_name) (refl, here.gives, refl)),
              ),
            )
        link_comes (Err ENAMETOOLONG) bad = absurd (bad gap.good)
        link_comes (Err EPERM) other = absurd (false≢true (sym other ∙ ap is_file_node is))
        link_comes (Err EMLINK) (k, file, many) = in_gap (Refused EMLINK) t nothing (
          k,
          tell limits v table n file.0 k file.1 volume file.2,
          subst (λ (b : Bool). tested t ((b, EMLINK) ∷ []) (with_place limits t gap.path (changes Done made (logs adds_name))) (Refused EMLINK) t nothing)
              (sym (le-leb limits.file_names k many)) (refl, refl, refl),
        )
        link_comes (Err DIRFULL) (k, file, few, not) = in_gap (Refused DIRFULL) t nothing (
          k,
          tell limits v table n file.0 k file.1 volume file.2,
          few_names k few _ (Refused DIRFULL) t nothing (place_full limits v table volume mounted tree d x target gap (changes Done made (logs adds_name)) not),
        )
        link_comes (Err _) told = absurd told
