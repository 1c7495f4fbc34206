-- What the definitions say of moving a name over two paths that lead to names.
use Rattle.std.proofs.Common.{◌≡◌, ◌≢◌, ◌↔◌, inl, inr, ◌⊎◌, IsTrue, ℕ, List, [], ◌∷◌, ◌++◌, Bool, false, true, ◌||◌, Option, Some, None, IsSome, is_some, Result, Ok, Err, refl, sym, ap, subst, ◌∙◌, arith, length-append}
use Rattle.std.specs.List.{Contains}
use Rattle.std.proofs.lemmas.Bool.{cond-false, cond-true, false≢true}
use Rattle.model.specs.declared.limits.Limits.{Limits}
use Rattle.model.specs.Changing.{move_tests, moves, renames}
use Rattle.model.specs.Finding.{at_entry, at_missing, at_refusal, here, IsPlaceAt, IsPlaceOf, Trails}
use Rattle.model.specs.Laws.{BelowIsByPaths, RecordsChangeTrees, TrailsTellBelow}
use Rattle.model.specs.Outcomes.{Outcome, goes_along, goes_to, leads, tested}
use Rattle.model.specs.Paths.{Name, Path, IsName, Tests, first_refusal, is_root_text, new_text_tests}
use Rattle.model.specs.Records.{CanRename, CanReplace, Change, IsBelow, applied, rename, stamped}
use Rattle.model.specs.Resolution.{Resolution, named, missing, refused}
use Rattle.model.specs.Room.{Need, adds_name, logs, nothing}
use Rattle.model.specs.Trees.{Tree, Object, Description, IsTree}
use Rattle.model.specs.Volumes.{Volume, enter, entries, is_directory_node, number_at, object_at, object_of, swept, tree_of, IsMounted, IsVolume}
use Rattle.model.specs.declared.errno.Errno.{Errno}
use Rattle.model.specs.declared.errno.Errno.TheVariants.{EBUSY, EEXIST, ENAMETOOLONG, ENOENT}
use Rattle.model.specs.declared.reply.Reply.{Reply}
use Rattle.model.specs.declared.reply.Reply.TheVariants.{Done, Refused}
use Rattle.model.specs.declared.time.Time.{Time}
use Rattle.model.proofs.LeadLemmas.{AnswersWell}
use Rattle.model.proofs.VolumeLemmas.{directory_no_file, enters_directory}
use Rattle.model.proofs.WalkLemmas.{number_at-push}
use Rattle.calls.specs.Changing.{ComesOrStays, ComesSweptBy}
use Rattle.calls.specs.Leading.{LeadsAlong, LeadsTo}
use Rattle.calls.specs.Rename.{MovesAlong, MovesName, PassTests}
use Rattle.calls.specs.declared.changed.Changing.{Changing}
use Rattle.paths.specs.Starts.{Reaches}
use Rattle.records.specs.Obstacles.{BarsMove}
use Rattle.calls.proofs.GapLaws.{finds_gap}
use Rattle.calls.proofs.LeadLaws.{along_reached, along_refused, trail_end}
use Rattle.calls.proofs.TestedLaws.{tested_none, tested_some}
use Rattle.calls.proofs.PlaceLaws.{refused_at, there_at}
use Rattle.calls.proofs.RemoveLaws.{FindsEntry, entry_comes, finds_entry}
use Rattle.calls.proofs.RenameEnds.{move_barred}
use Rattle.calls.proofs.RenameTests.{above_directory, below_trail}
use Rattle.calls.proofs.RenameLaws.{move_done, move_stays, passes_none, passes_some, target_takes}
use Rattle.model.proofs.ObjectLaws.{node_object}
use Rattle.model.proofs.OptionLaws.{none_some, some_same}
use Rattle.model.proofs.TestLaws.{first_append, first_in_front}

-- ---- texts

abbrev root_test : List ℕ → List ℕ → Tests
root_test old path = (is_root_text old || is_root_text path, EBUSY) ∷ []

module _ (limits : Limits) (now : Option Time) (v : Volume) (table : ℕ → Option Description) (only_new : Bool) (old path : List ℕ) where
  abbrev of_volume : Tree
  of_volume = tree_of v table

  abbrev tests : Tests
  tests = new_text_tests limits old ++ new_text_tests limits path ++ root_test old path

  pub old_text_refused : (errno : Errno) → first_refusal (new_text_tests limits old) ≡ Some errno → renames limits now of_volume only_new old path (Refused errno) of_volume nothing
  old_text_refused errno is =
      tested_some of_volume tests _ errno
      (first_in_front (new_text_tests limits old ++ new_text_tests limits path) (root_test old path) errno (first_in_front (new_text_tests limits old) (new_text_tests limits path) errno is))

  pub new_text_refused : (errno : Errno) → first_refusal (new_text_tests limits old) ≡ None → first_refusal (new_text_tests limits path) ≡ Some errno → renames limits now of_volume only_new old path (Refused errno) of_volume nothing
  new_text_refused errno passed is =
      tested_some of_volume tests _ errno
      (first_in_front (new_text_tests limits old ++ new_text_tests limits path) (root_test old path) errno (first_append (new_text_tests limits old) (new_text_tests limits path) passed ∙ is))

  pub at_root_test : first_refusal (new_text_tests limits old) ≡ None → first_refusal (new_text_tests limits path) ≡ None → first_refusal tests ≡ first_refusal (root_test old path)
  at_root_test old_passed passed =
      first_append (new_text_tests limits old ++ new_text_tests limits path) (root_test old path) (first_append (new_text_tests limits old) (new_text_tests limits path) old_passed ∙ passed)

  pub root_refused : first_refusal (new_text_tests limits old) ≡ None → first_refusal (new_text_tests limits path) ≡ None → (is_root_text old || is_root_text path) ≡ true
      → renames limits now of_volume only_new old path (Refused EBUSY) of_volume nothing
  root_refused old_passed passed is =
      tested_some of_volume tests _ EBUSY (at_root_test old_passed passed ∙ ap (λ (b : Bool). first_refusal ((b, EBUSY) ∷ [])) is)

neither_root : (a b : Bool) → a ≡ false → b ≡ false → (a || b) ≡ false
neither_root true b is also = absurd (false≢true (sym is))
neither_root false b is also = also

module _ (limits : Limits) (now : Option Time) (v : Volume) (table : ℕ → Option Description) (volume : IsVolume limits v) (mounted : IsMounted v table) (tree : IsTree limits (tree_of v table)) where
  abbrev t : Tree
  t = tree_of v table

  -- ---- where a path leads to a name that something has, or nothing

  -- where something has it, that doesn't refuse the move
  pub record EndsAt (only_new : Bool) (r : Resolution) (k : ℕ) (y : Name) : Type 0 where
    pub path : Path
    pub is : (r ≡ missing path y) ⊎ ((r ≡ named (path ++ y ∷ [])) × IsSome (entries v k y) × (only_new ≡ false))
    pub at : number_at (entries v) path ≡ Some k
    pub good : IsName y
    pub directory : is_directory_node (v k) ≡ true

  pub ends_entry : (only_new : Bool) (trail : List ℕ) (y : Name) (m : ℕ) (r : Resolution) → only_new ≡ false → IsPlaceAt v (at_entry trail y m) r → EndsAt only_new r (here trail) y
  ends_entry only_new trail y m r any place =
      let finds = finds_entry v trail y m r place in
      let some = ap is_some finds.edge in
      record {
        path = finds.path;
        is = inr (finds.is, some, any);
        at = finds.at;
        good = volume.graph.naming.names (here trail) y some;
        directory = enters_directory (v (here trail)) y m finds.edge;
      }

  pub ends_gap : (only_new : Bool) (trail : List ℕ) (y : Name) (r : Resolution) → AnswersWell t r → IsPlaceAt v (at_missing trail y) r → EndsAt only_new r (here trail) y
  ends_gap only_new trail y r well place =
      let gap = finds_gap limits v table volume mounted tree trail y r well place in
      record { path = gap.path; is = inl gap.is; at = gap.at; good = gap.good; directory = gap.parent }

  module _ (only_new : Bool) (r : Resolution) (k : ℕ) (y : Name) (ends : EndsAt only_new r k y) (there : Path → Outcome) (reply : Reply) (new : Tree) (need : Need) where
    abbrev q : Path
    q = ends.path ++ y ∷ []

    at_q : t.objects q ≡ object_at v (entries v k y)
    at_q = ap (object_at v) (number_at-push (entries v) ends.path y ∙ ap (λ (o : Option ℕ). enter (entries v) o y) ends.at)

    abbrev replaces : Path → Object → Outcome
    replaces z o = tested t ((only_new, EEXIST) ∷ []) (there z)

    abbrev goes : Resolution → Type 0
    goes s = leads t s replaces (λ z name. there (z ++ name ∷ [])) reply new need

    abbrev stands : Option Object → Type 0
    stands a = (elim a as (λ _. Outcome) [ Some o ↦ replaces q o | None ↦ λ _ _ _. ⊥ ]) reply new need

    goes_on : there q reply new need → goes r
    goes_on done =
        elim ends.is [
          | inl gone ↦ subst goes (sym gone) done
          | inr (is, some, any) ↦ subst goes (sym is) (subst stands (sym at_q) (by any (entries v k y) refl some))
        ]
      where
        by_object : only_new ≡ false → (a : Option Object) → IsSome a → stands a
        by_object any None some = absurd (false≢true some)
        by_object any (Some o) some = tested_none t ((only_new, EEXIST) ∷ []) (there q) reply new need (cond-false only_new (Some EEXIST) None any) done

        by : only_new ≡ false → (a : Option ℕ) → entries v k y ≡ a → IsSome a → stands (object_at v a)
        by any None is some = absurd (false≢true some)
        by any (Some m) is some = by_object any (object_of m (v m)) (node_object m (v m) (volume.graph.naming.used k m y is))

  -- ---- the trail of the new path

  module _ (by_paths : BelowIsByPaths) (by_trails : TrailsTellBelow) (r : Resolution) (d : ℕ) (x : Name) (n : ℕ) (finds : FindsEntry v r d x n) where
    trail_tells : (w : Path) (trail : List ℕ) → Trails (entries v) w trail → is_directory_node (v (here trail)) ≡ true → Contains trail n ↔ IsBelow (entries v) n (here trail)
    trail_tells w trail trails directory = (
      λ on. below_trail v w trail n trails on,
      λ under.
          let p = finds.path ++ x ∷ [] in
          let is = above_directory v n (here trail) under.0 under.1 directory in
          let at = number_at-push (entries v) finds.path x ∙ ap (λ (o : Option ℕ). enter (entries v) o x) finds.at ∙ finds.edge in
          let on = by_trails limits v p w trail n volume trails at (directory_no_file (v n) is) (omega (arith, length-append finds.path (x ∷ []))) in
          on.1 ((by_paths limits v p w n (here trail) volume at (trail_end v w trail trails) (directory_no_file (v (here trail)) directory)).0 under),
    )

    entry_tells : (trail : List ℕ) (y : Name) (m : ℕ) (s : Resolution) → is_directory_node (v (here trail)) ≡ true → IsPlaceOf v (at_entry trail y m) s → Contains trail n ↔ IsBelow (entries v) n (here trail)
    entry_tells trail y m (named q) directory (w, trails, same, to) = trail_tells w trail trails directory
    entry_tells trail y m (missing w z) directory is = absurd is
    entry_tells trail y m (refused errno) directory is = absurd is

    gap_tells : (trail : List ℕ) (y : Name) (s : Resolution) → is_directory_node (v (here trail)) ≡ true → IsPlaceOf v (at_missing trail y) s → Contains trail n ↔ IsBelow (entries v) n (here trail)
    gap_tells trail y (named q) directory is = absurd is
    gap_tells trail y (missing w z) directory (trails, same, none) = trail_tells w trail trails directory
    gap_tells trail y (refused errno) directory is = absurd is

    -- what leads to the new name from the root
    module _ (rooted : Bool) (s : Resolution) (trail : List ℕ) (y : Name) where
      pub along_entry : (m : ℕ) → entries v (here trail) y ≡ Some m → m ≢ n → (IsTrue rooted → IsPlaceOf v (at_entry trail y m) s) → MovesAlong v n rooted trail y
      along_entry m to apart place = record {
        name = volume.graph.naming.names (here trail) y (ap is_some to);
        other = λ is. apart (some_same (sym to ∙ is));
        tells = λ is. entry_tells trail y m s (enters_directory (v (here trail)) y m to) (place is);
      }

      pub along_gap : is_directory_node (v (here trail)) ≡ true → IsName y → entries v (here trail) y ≡ None → (IsTrue rooted → IsPlaceOf v (at_missing trail y) s) → MovesAlong v n rooted trail y
      along_gap directory name none place = record {
        name = name;
        other = λ is. none_some (sym none ∙ is);
        tells = λ is. gap_tells trail y s directory (place is);
      }

  -- ---- the call

  module _ (only_new : Bool) (old path : List ℕ) (passed : PassTests limits old path) where
    abbrev renamed : Outcome
    renamed = renames limits now t only_new old path

    abbrev onto : Path → Object → Path → Object → Outcome
    onto p o q r = tested t ((only_new, EEXIST) ∷ []) (moves limits now t p o q)

    abbrev into_gap : Path → Object → Path → Name → Outcome
    into_gap p o q name = moves limits now t p o (q ++ name ∷ [])

    abbrev there : Path → Object → Outcome
    there p o = goes_along t false path (onto p o) (into_gap p o)

    led : (reply : Reply) (new : Tree) (need : Need) → goes_to t false old there reply new need → renamed reply new need
    led reply new need done =
        tested_none t (tests limits now v table only_new old path) (goes_to t false old there) reply new need
        (at_root_test limits now v table only_new old path passed.old_passed passed.passed
        ∙ ap (λ (b : Bool). first_refusal ((b, EBUSY) ∷ [])) (neither_root (is_root_text old) (is_root_text path) passed.old_below passed.below)) done

    pub rename_nowhere : (errno : Errno) → LeadsAlong t v false old (Err errno) → renamed (Refused errno) t nothing
    rename_nowhere errno is = led (Refused errno) t nothing (along_refused v table false old there errno is)

    -- where both texts lead
    module _ (law : RecordsChangeTrees) (from : Resolution) (begins : Reaches t false old from) (to : Resolution) (reaches : Reaches t false path to) (d : ℕ) (x : Name) (n : ℕ) (finds : FindsEntry v from d x n) where
      abbrev p : Path
      p = finds.path ++ x ∷ []

      found : (reply : Reply) (new : Tree) (need : Need) → ((o : Object) → object_of n (v n) ≡ Some o → leads t to (onto p o) (into_gap p o) reply new need) → renamed reply new need
      found reply new need comes =
          led reply new need
          (entry_comes limits now v table volume mounted tree law d x n from finds old begins there reply new need
          (λ o object. along_reached t false path (onto p o) (into_gap p o) reply new need to reaches (comes o object)))

      pub target_refused : (errno : Errno) → IsPlaceAt v (at_refusal errno) to → renamed (Refused errno) t nothing
      target_refused errno place = found (Refused errno) t nothing (λ o object. refused_at v table (onto p o) (into_gap p o) errno to place)

      -- something has the new name, and only a new one is wanted
      pub rename_exists : only_new ≡ true → (m : ℕ) → LeadsTo v to (Ok m) → renamed (Refused EEXIST) t nothing
      rename_exists one m leads_to =
          found (Refused EEXIST) t nothing (λ o object.
          there_at v table (onto p o) (into_gap p o) m (Refused EEXIST) t nothing
          (λ q r is. tested_some t ((only_new, EEXIST) ∷ []) (moves limits now t p o q) EEXIST (cond-true only_new (Some EEXIST) None one)) to leads_to)

      module _ (below : BelowIsByPaths) (k : ℕ) (y : Name) (ends : EndsAt only_new to k y) where
        at_end : (reply : Reply) (new : Tree) (need : Need) → ((o : Object) → object_of n (v n) ≡ Some o → moves limits now t p o (ends.path ++ y ∷ []) reply new need) → renamed reply new need
        at_end reply new need comes = found reply new need (λ o object. goes_on only_new to k y ends (moves limits now t p o) reply new need (comes o object))

        abbrev change : Change
        change = stamped now (rename d x k y)

        -- the object has the name already
        pub rename_stays : entries v k y ≡ Some n → renamed Done t nothing
        rename_stays same =
            at_end Done t nothing (λ o object.
            move_stays limits now v table volume mounted tree finds.path d x n finds.at finds.edge ends.path k y ends.at o object same)

        module _ (other : entries v k y ≢ Some n) where
          obstructed : (errno : Errno) → BarsMove limits v d n k y (entries v k y) errno → renamed (Refused errno) t nothing
          obstructed errno bars =
              at_end (Refused errno) t nothing (λ o object.
              move_barred limits now v table volume mounted tree finds.path d x n finds.at finds.edge ends.path k y ends.at o object below ends.directory other ends.good errno bars)

          -- the tests pass where the record applies
          module _ (can : CanRename limits v d x k y) where
            same_number : can.number ≡ n
            same_number = some_same (sym can.there ∙ finds.edge)

            outside : IsBelow (entries v) n k → ⊥
            outside = subst (λ (j : ℕ). IsBelow (entries v) j k → ⊥) same_number can.outside

            passes : (o : Object) (object : object_of n (v n) ≡ Some o) → first_refusal (move_tests p o (ends.path ++ y ∷ []) (t.objects (ends.path ++ y ∷ []))) ≡ None
            passes o object = by (entries v k y) refl (subst (λ (j : ℕ). CanReplace limits v d k y j (entries v k y)) same_number can.replaces)
              where
                by : (a : Option ℕ) → entries v k y ≡ a → CanReplace limits v d k y n a → first_refusal (move_tests p o (ends.path ++ y ∷ []) (t.objects (ends.path ++ y ∷ []))) ≡ None
                by None is may =
                    passes_none limits now v table volume mounted tree finds.path d x n finds.at finds.edge ends.path k y ends.at o object below ends.directory other outside is
                by (Some m) is may =
                    passes_some limits now v table volume mounted tree finds.path d x n finds.at finds.edge ends.path k y ends.at o object below ends.directory other outside m is may.1

          pub rename_comes : (c : Result (Option Changing) Errno) → MovesName limits now v d x k y c → ComesOrStays renamed limits v table c
          rename_comes (Ok None) told = absurd told
          rename_comes (Ok (Some c)) (says, applies) =
              let after = tree_of (swept table (applied change v)) table in
              let told = law limits v table change volume mounted applies tt in
              subst (ComesSweptBy renamed limits v table) (sym says) (
                applies,
                told.0,
                at_end Done after (logs adds_name) (λ o object.
                    move_done limits now v table volume mounted tree finds.path d x n finds.at finds.edge ends.path k y ends.at o object below ends.directory other applies.edit (passes applies.edit o object) after told.1
                    (λ rest. target_takes limits now v table volume mounted tree finds.path d x n finds.at finds.edge ends.path k y ends.at o object below ends.directory other applies.edit rest Done after (logs adds_name))),
              )
          rename_comes (Err ENAMETOOLONG) bad = absurd (bad ends.good)
          rename_comes (Err ENOENT) none = none_some (sym none ∙ finds.edge)
          rename_comes (Err errno) (m, there, bars) = obstructed errno (subst (λ (j : ℕ). BarsMove limits v d j k y (entries v k y) errno) (some_same (sym there ∙ finds.edge)) bars)
