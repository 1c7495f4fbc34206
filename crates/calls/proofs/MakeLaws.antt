-- What the definitions say of making an object over a path, by what was found in a volume.
use Rattle.std.proofs.Common.{◌≡◌, inl, inr, ℕ, ◌≤◌, ◌<◌, Bool, List, [], ◌∷◌, ◌++◌, true, false, Option, Some, None, IsSome, is_some, Result, Ok, Err, refl, sym, ap, subst, ◌∙◌}
use Rattle.std.proofs.lemmas.Bool.{cases_eq, false≢true}
use Rattle.model.specs.declared.limits.Limits.{Limits}
use Rattle.model.specs.Changes.{ChangesTree, with_made}
use Rattle.model.specs.Attributes.{KeepsTime}
use Rattle.model.specs.Changing.{creates, entered}
use Rattle.model.specs.Finding.{IsPlaceAt, at_directory, at_entry, at_missing, at_refusal, here}
use Rattle.model.specs.Laws.{RecordsChangeTrees, VolumesTellFresh}
use Rattle.model.specs.Outcomes.{Outcome, changes, goes_along, leads, refuses, with_fresh, with_place}
use Rattle.model.specs.Paths.{Name, Path, first_refusal, new_text_tests}
use Rattle.model.specs.Edits.{marked}
use Rattle.model.specs.Records.{Applies, Change, IsMade, Made, TakesName, applied, create, directory, file, is_vacant, node_of, stamped, symbolic_link}
use Rattle.model.specs.Resolution.{Resolution}
use Rattle.model.specs.Room.{Need, adds_name, logs, nothing}
use Rattle.model.specs.Trees.{Description, IsTree, Object, Tree}
use Rattle.model.specs.Trees as trees
use Rattle.model.specs.Touches.{touches_entry}
use Rattle.model.specs.Volumes.{IsMounted, IsVolume, Node, Volume, created, directory_node, file_node, is_directory_node, is_open, link_node, set_name, swept, swept_node, tree_of, with_node}
use Rattle.model.specs.declared.attributes.Touch.TheVariants.{Data}
use Rattle.model.specs.declared.errno.Errno.{Errno}
use Rattle.model.specs.declared.errno.Errno.TheVariants.{DIRFULL, EEXIST, NONUMBER}
use Rattle.model.specs.declared.limits.TheConstants.{FIRST_NUMBER, OPEN_FILES}
use Rattle.model.specs.declared.reply.Reply.{Reply}
use Rattle.model.specs.declared.reply.Reply.TheVariants.{Done, Refused}
use Rattle.model.specs.declared.time.Time.{Time}
use Rattle.model.proofs.ObjectLaws.{node_here, node_other}
use Rattle.model.proofs.SweepLemmas.{not_unused}
use Rattle.paths.specs.Starts.{Reaches}
use Rattle.calls.specs.Changing.{Comes, ComesBy}
use Rattle.calls.specs.Leading.{LeadsTo}
use Rattle.calls.specs.Making.{IsLeastFree, MakesIn}
use Rattle.calls.specs.declared.changed.Changing.{Changing}
use Rattle.calls.proofs.GapLaws.{FindsGap, finds_gap, gap_parent, place_free, place_full}
use Rattle.calls.proofs.LeadLaws.{along_reached, leads_directory, leads_entry}
use Rattle.calls.proofs.MarkLaws.{entered_here, marked_unswept}
use Rattle.calls.proofs.TestedLaws.{tested_none, tested_some}
use Rattle.calls.proofs.PlaceLaws.{refused_at, there_at}
use Rattle.calls.proofs.ReachLaws.{new_text_well}

-- ---- objects

-- what is made isn't swept: it has a name
new_stays : (what : Made) (open_now : Bool) → swept_node open_now (Some (node_of what)) ≡ Some (node_of what)
new_stays (file permissions) open_now = refl
new_stays (directory permissions) open_now = refl
new_stays (symbolic_link permissions text) open_now = refl

-- a volume with a new object has no more to sweep
module _ (table : ℕ → Option Description) (v : Volume) (n d : ℕ) (x : Name) (what : Made) (parent : is_directory_node (v d) ≡ true) (apart : d ≡ n → ⊥) (is_swept : (k : ℕ) → swept table v k ≡ v k) where
  abbrev node : Node
  node = node_of what

  stays : (open_now : Bool) (to : Option ℕ) (o : Option Node) → is_directory_node o ≡ true → swept_node open_now (set_name x to o) ≡ set_name x to o
  stays open_now to None is = absurd (false≢true is)
  stays open_now to (Some (directory_node m names)) is = refl
  stays open_now to (Some (file_node m links bytes)) is = absurd (false≢true is)
  stays open_now to (Some (link_node attributes text)) is = absurd (false≢true is)

  abbrev put : Volume
  put = with_node n (Some node) v

  still : is_directory_node (put d) ≡ true
  still = ap is_directory_node (node_other n d (Some node) v apart) ∙ parent

  each : (k : ℕ) → swept table (created n d x node v) k ≡ created n d x node v k
  each k =
      let open_now = is_open table OPEN_FILES k in
      elim (cases_eq k d) [
        | inl is_d ↦
            let e = node_here d k (set_name x (Some n) (put d)) put is_d in
            ap (swept_node open_now) e ∙ stays open_now (Some n) (put d) still ∙ sym e
        | inr not_d ↦
            let e = node_other d k (set_name x (Some n) (put d)) put not_d in
            elim (cases_eq k n) [
              | inl is_n ↦
                  let f = e ∙ node_here n k (Some node) v is_n in
                  ap (swept_node open_now) f ∙ new_stays what open_now ∙ sym f
              | inr not_n ↦
                  let f = e ∙ node_other n k (Some node) v not_n in
                  ap (swept_node open_now) f ∙ is_swept k ∙ sym f
            ]
      ]

  pub created_unswept : (now : Option Time) → swept table (applied (stamped now (create n d what x)) v) ≡ applied (stamped now (create n d what x)) v
  created_unswept now = marked_unswept table now (touches_entry Data (Some n) (Some d)) (created n d x node v) each

-- ---- a call that makes an object

-- a text that doesn't pass its tests
pub text_refused : (limits : Limits) (now : Option Time) (v : Volume) (table : ℕ → Option Description) (text : List ℕ) (make : Path → ℕ → Tree → Tree) (errno : Errno) → first_refusal (new_text_tests limits text) ≡ Some errno
    → creates limits now (tree_of v table) text make (Refused errno) (tree_of v table) nothing
text_refused limits now v table text make errno is = tested_some (tree_of v table) (new_text_tests limits text) _ errno is

module _ (limits : Limits) (now : Option Time) (v : Volume) (table : ℕ → Option Description) (volume : IsVolume limits v) (mounted : IsMounted v table) (tree : IsTree limits (tree_of v table)) where
  abbrev t : Tree
  t = tree_of v table

  module _ (text : List ℕ) (what : Made) where
    abbrev makes : Outcome
    makes = creates limits now t text (with_made what)

    abbrev made_at : Path → ℕ → Tree
    made_at p n = with_made what p n t

    abbrev fresh : Path → Name → Outcome
    fresh p name = with_fresh limits t (λ n. changes Done (entered now Data n p t (made_at (p ++ name ∷ []) n)) (logs adds_name))

    abbrev makes_in : Path → Name → Outcome
    makes_in p name = with_place limits t p (fresh p name)

    abbrev exists : Path → Object → Outcome
    exists p o = refuses t EEXIST

    module _ (passed : first_refusal (new_text_tests limits text) ≡ None) (r : Resolution) (reaches : Reaches t false text r) where
      led : (reply : Reply) (new : Tree) (need : Need) → leads t r exists makes_in reply new need → makes reply new need
      led reply new need done =
          tested_none t (new_text_tests limits text) (goes_along t false text exists makes_in) reply new need passed (along_reached t false text exists makes_in reply new need r reaches done)

      pub path_refused : (errno : Errno) → IsPlaceAt v (at_refusal errno) r → makes (Refused errno) t nothing
      path_refused errno is = led (Refused errno) t nothing (refused_at v table exists makes_in errno r is)

      object_there : (n : ℕ) → LeadsTo v r (Ok n) → makes (Refused EEXIST) t nothing
      object_there n leads = led (Refused EEXIST) t nothing (there_at v table exists makes_in n (Refused EEXIST) t nothing (λ p o is. (refl, refl, refl)) r leads)

      pub directory_there : (trail : List ℕ) → IsPlaceAt v (at_directory trail) r → makes (Refused EEXIST) t nothing
      directory_there trail is = object_there (here trail) (leads_directory limits v volume trail r is)

      pub entry_there : (trail : List ℕ) (name : Name) (n : ℕ) → IsPlaceAt v (at_entry trail name n) r → makes (Refused EEXIST) t nothing
      entry_there trail name n is = object_there n (leads_entry limits v volume trail name n r is)

      -- ---- a name that a directory doesn't have

      module _ (trail : List ℕ) (name : Name) (at : IsPlaceAt v (at_missing trail name) r) where
        abbrev d : ℕ
        d = here trail

        gap : FindsGap limits v table volume mounted tree r d name
        gap = finds_gap limits v table volume mounted tree trail name r (new_text_well limits t tree text passed r reaches) at

        in_gap : (reply : Reply) (new : Tree) (need : Need) → makes_in gap.path name reply new need → makes reply new need
        in_gap reply new need done = led reply new need (subst (λ (s : Resolution). leads t s exists makes_in reply new need) (sym gap.is) done)

        -- where it doesn't take the name, it is full
        dir_full : (TakesName limits v d name → ⊥) → makes (Refused DIRFULL) t nothing
        dir_full not = in_gap (Refused DIRFULL) t nothing (place_full limits v table volume mounted tree d name r gap (fresh gap.path name) not)

        with_room : TakesName limits v d name → (reply : Reply) (new : Tree) (need : Need) → fresh gap.path name reply new need → makes reply new need
        with_room can reply new need done = in_gap reply new need (place_free limits v table volume mounted tree d name r gap can (fresh gap.path name) reply new need done)

        no_number : TakesName limits v d name → ((k : ℕ) → FIRST_NUMBER ≤ k → k < limits.inodes → IsSome (v k)) → makes (Refused NONUMBER) t nothing
        no_number can all_taken =
            with_room can (Refused NONUMBER) t nothing (
              None,
              (λ k low below. not_unused v volume.graph table mounted.bounded k (λ none. false≢true (sym (ap is_some (sym (mounted.is_swept k) ∙ none)) ∙ all_taken k low below))),
              (refl, refl, refl),
            )

        module _ (fresh_law : VolumesTellFresh) (change_law : RecordsChangeTrees) (keeps : KeepsTime limits.has_attributes now) where
          module _ (good : IsMade limits what) (n : ℕ) (can : TakesName limits v d name) (free : IsLeastFree limits.inodes v n) where
            abbrev change : Change
            change = stamped now (create n d what name)

            abbrev new : Tree
            new = tree_of (applied change v) table

            applies : Applies limits v change
            applies = record {
              time = keeps;
              edit = record {
                low = free.low;
                high = free.high;
                vacant = ap is_vacant free.free;
                takes = can;
                good = good;
              };
            }

            apart : d ≡ n → ⊥
            apart same = false≢true (sym (ap is_directory_node free.free) ∙ subst (λ (k : ℕ). is_directory_node (v k) ≡ true) same gap.parent)

            -- nothing is to be swept of what it leaves
            unswept : swept table (applied change v) ≡ applied change v
            unswept = created_unswept table v n d name what gap.parent apart mounted.is_swept now

            changed : IsMounted (applied change v) table × ChangesTree change t new
            changed = subst (λ (w : Volume). IsMounted w table × ChangesTree change t (tree_of w table)) unswept (change_law limits v table change volume mounted applies free.free)

            -- the record does what the call does
            made : makes Done new (logs adds_name)
            made =
                let (p, stands, becomes) = changed.1 in
                let there = gap_parent limits v table volume mounted tree d name r gap in
                let same : p ≡ gap.path =
                elim (tree.single p gap.path (trees.directory d) (trees.directory d) stands there refl) [ inl e ↦ e | inr other ↦ no_file other.0 ] in
                let gives : new ≡ entered now Data n gap.path t (made_at (gap.path ++ name ∷ []) n) =
                becomes ∙ ap (λ (q : Path). marked now (touches_entry Data (Some n) (Some d)) (made_at (q ++ name ∷ []) n)) same
                ∙ entered_here now Data n d gap.path t (made_at (gap.path ++ name ∷ []) n) there in
                with_room can Done new (logs adds_name)
                (Some n, fresh_law limits v table n volume mounted free.low free.high free.free free.least, (refl, gives, refl))
              where
                no_file : {X : Type 0} → trees.directory d ≡ trees.file d → X
                no_file e = cc

          pub gap_comes : (told : Result Changing Errno) → MakesIn limits now v d name what told → Comes makes limits v table told
          gap_comes (Err errno) (inl (is, not)) = subst (λ e. makes (Refused e) t nothing) (sym is) (dir_full not)
          gap_comes (Err errno) (inr (is, can, none)) = subst (λ e. makes (Refused e) t nothing) (sym is) (no_number can none)
          gap_comes (Ok c) (n, says, good, can, free) =
              subst (ComesBy makes limits v table) (sym says)
              (applies good n can free, (changed good n can free).0, made good n can free)
