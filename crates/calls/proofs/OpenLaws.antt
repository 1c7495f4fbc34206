-- What the definitions say of opening a file over a path, by what was found in a volume.
use Rattle.std.proofs.Common.{◌≡◌, ◌≢◌, ◌≤◌, ◌<◌, ◌==◌, inl, inr, ℕ, List, [], ◌∷◌, ◌++◌, length, Bool, true, false, not, ◌&&◌, Option, Some, None, IsSome, is_some, Result, Ok, Err, unwrap_or, refl, sym, ap, subst, ◌∙◌}
use Rattle.std.specs.Prelude.{is_none}
use Rattle.std.proofs.Math.Path.{fun_ext}
use Rattle.std.proofs.lemmas.Bool.{cases_Bool, cond-true, cond-false, eqb-true, false≢true, not-true, not-false}
use Rattle.model.specs.declared.limits.Limits.{Limits}
use Rattle.model.specs.declared.attributes.Attributes.{Attributes}
use Rattle.model.specs.declared.attributes.Permissions.{Permissions}
use Rattle.model.specs.Attributes.{KeepsTime, new_attributes, no_attributes}
use Rattle.model.specs.Changes.{ChangesTree}
use Rattle.model.specs.Changing.{entered, is_idle_size, need_of_truncate, truncated_to}
use Rattle.model.specs.Descriptors.{opens_file, opens_new, opens_object}
use Rattle.model.specs.Edits.{contents, marked, resized, with_file}
use Rattle.model.specs.Finding.{at_refusal, IsPlaceAt}
use Rattle.model.specs.Laws.{RecordsChangeTrees, RecordsKeepVolumes, SweepsKeepVolumes, VolumesTellFresh, VolumesTellLinks}
use Rattle.model.specs.Outcomes.{HasNoFresh, Outcome, either, leads, refuses, with_fresh, with_place}
use Rattle.model.specs.Paths.{Name, Path}
use Rattle.model.specs.Records.{Applies, Change, IsMade, Made, TakesName, applied, create, file, is_vacant, node_of, stamped, with_file_bytes, with_size, work_of}
use Rattle.model.specs.Records as records
use Rattle.model.specs.Resolution.{Resolution}
use Rattle.model.specs.Room.{Need, Work, adds_name, changes_size, logs, nothing}
use Rattle.model.specs.Trees.{Tree, Object, Description, IsTree}
use Rattle.model.specs.Trees as trees
use Rattle.model.specs.Touches.{touches_entry, touches_object}
use Rattle.model.specs.Volumes.{IsMounted, IsVolume, Node, created, directory_node, file_node, link_node, Volume, bytes_of_node, is_directory_node, is_file_node, attributes_of, object_of, set_name, swept, tree_of, with_node}
use Rattle.model.specs.declared.attributes.Touch.TheVariants.{Data}
use Rattle.model.specs.declared.command.Flags.{Flags}
use Rattle.model.specs.declared.errno.Errno.{Errno}
use Rattle.model.specs.declared.errno.Errno.TheVariants.{DIRFULL, EEXIST, EISDIR, ENOENT, NONUMBER}
use Rattle.model.specs.declared.reply.FileType.TheVariants.{File, Dir, Link}
use Rattle.model.specs.declared.reply.Reply.{Reply}
use Rattle.model.specs.declared.reply.Reply.TheVariants as replies
use Rattle.model.specs.declared.reply.Reply.TheVariants.{Refused}
use Rattle.model.specs.declared.reply.Stat.{Stat}
use Rattle.model.specs.declared.time.Time.{Time}
use Rattle.model.specs.declared.limits.TheConstants.{FIRST_NUMBER}
use Rattle.model.proofs.SweepLemmas.{not_unused}
use Rattle.paths.specs.Starts.{Reaches}
use Rattle.paths.specs.Steps.{found_in}
use Rattle.paths.specs.declared.lookup.Found.TheVariants as found
use Rattle.calls.specs.Changing.{said_by}
use Rattle.calls.specs.Leading.{LeadsAlong}
use Rattle.calls.specs.Making.{CreatesNumber, IsLeastFree, MakesIn}
use Rattle.calls.specs.Open.{IsOpened, IsOpenedOver, Opening, OpensAt, OpensByRecord, OpensMade, OpensNew, OpensOver, opened_reply, opened_tree, opens_along}
use Rattle.calls.specs.Stat.{TellsStat, stat_in}
use Rattle.calls.specs.Truncate.{TruncatesFile}
use Rattle.calls.specs.declared.changed.Changing.{Changing}
use Rattle.calls.specs.declared.changed.OwnedChange.{OwnedChange}
use Rattle.calls.specs.declared.changed.OwnedChange.TheVariants as owned
use Rattle.calls.specs.declared.preparing.open.Opened.{Opened}
use Rattle.calls.proofs.GapLaws.{FindsGap, gap_parent, place_free, place_full}
use Rattle.model.proofs.EditLaws.{length-resized}
use Rattle.model.proofs.ObjectLaws.{node_here, node_object, node_other}
use Rattle.calls.proofs.LeadLaws.{along_alone, along_reached, led_some}
use Rattle.calls.proofs.MakeLaws.{created_unswept}
use Rattle.calls.proofs.MarkLaws.{IsFileWith, entered_here, marked_file}
use Rattle.calls.proofs.TestedLaws.{tested_none, tested_some}
use Rattle.calls.proofs.PlaceLaws.{refused_at, there_at}
use Rattle.calls.proofs.StatLaws.{object_by}
use Rattle.model.proofs.OptionLaws.{none_some, some_same}

-- ---- outcomes

module _ (limits : Limits) (flags : Flags) (v : Volume) (table : ℕ → Option Description) where
  -- what one outcome allows, another may allow too
  module _ (these others : Opening) (more : (tells : Bool) (fd : ℕ) (reply : Reply) (new : Tree) (need : Need) → these tells fd reply new need → others tells fd reply new need) where
    over_more : (o : Opened) (changing : Option Changing) → OpensOver these limits flags v table o changing → OpensOver others limits flags v table o changing
    over_more o None (is, opens) = (is, λ tells fd. more tells fd (opened_reply tells fd o) _ nothing (opens tells fd))
    over_more o (Some c) (applies, mounted, is, opens) = (applies, mounted, is, λ tells fd. more tells fd (opened_reply tells fd o) _ _ (opens tells fd))

    pub opens_more : (r : Result Opened Errno) → OpensAt these limits flags v table r → OpensAt others limits flags v table r
    opens_more (Ok o) opens = over_more o o.changing opens
    opens_more (Err errno) opens = λ tells fd. more tells fd (Refused errno) (tree_of v table) nothing (opens tells fd)

-- a file is opened over the tree of a volume that has it
module _ (limits : Limits) (v : Volume) (table : ℕ → Option Description) (links_law : VolumesTellLinks) (volume : IsVolume limits v) (flags : Flags) (o : Opened) where
  abbrev over : ℕ → Tree
  over fd = opened_tree flags o fd (tree_of v table)

  abbrev stat_with : ℕ → ℕ → Stat
  stat_with mode size = record { number = o.number; kind = File; mode = mode; links = o.links; size = size }

  pub file_opened : IsOpened v o → (tells : Bool) (fd : ℕ) (t : Tree) (need : Need) → tree_of v table ≡ t → opens_file tells o.number flags fd t need (opened_reply tells fd o) (over fd) need
  file_opened (attributes, bytes, is, mode, size) false fd t need same = (refl, ap (opened_tree flags o fd) same, refl)
  file_opened (attributes, bytes, is, mode, size) true fd t need same =
      subst (λ (u : Tree). opens_file true o.number flags fd u need (opened_reply true fd o) (over fd) need) same (
        o.links,
        links_law limits v table o.number attributes o.links bytes volume is,
        (
          ap (λ (m : ℕ). replies.Opened fd (stat_with m o.size)) (mode ∙ sym (ap (λ (x : Option Node). (unwrap_or (attributes_of x) no_attributes).mode) is))
              ∙ ap (λ (k : ℕ). replies.Opened fd (stat_with ((unwrap_or (attributes_of (v o.number)) no_attributes).mode) k)) (size ∙ sym (ap (λ (x : Option Node). length (unwrap_or (bytes_of_node x) [])) is)),
          refl,
          refl,
        ),
      )

-- ---- where a path leads

module _ (limits : Limits) (now : Option Time) (v : Volume) (table : ℕ → Option Description) (text : List ℕ) (flags : Flags) (permissions : Permissions) where
  abbrev t : Tree
  t = tree_of v table

  abbrev follow : Bool
  follow = not (flags.creates && flags.exclusive)

  abbrev along : Opening
  along = opens_along limits now t text flags permissions

  abbrev there : Bool → ℕ → Path → Object → Outcome
  there tells fd p o = opens_object tells now t o flags fd

  abbrev gone : Bool → ℕ → Path → Name → Outcome
  gone tells fd p name = opens_new tells limits now t p name flags permissions fd

  pub along_nowhere : (errno : Errno) (r : Resolution) → Reaches t follow text r → IsPlaceAt v (at_refusal errno) r → (tells : Bool) (fd : ℕ) → along tells fd (Refused errno) t nothing
  along_nowhere errno r reaches is tells fd =
      along_reached t follow text (there tells fd) (gone tells fd) (Refused errno) t nothing r reaches (refused_at v table (there tells fd) (gone tells fd) errno r is)

  -- the object that a path leads to is opened, or refused
  pub along_object : (n : ℕ) → LeadsAlong t v follow text (Ok n) → (o : Object) → object_of n (v n) ≡ Some o → (told : Result Opened Errno)
      → OpensAt (λ tells. opens_object tells now t o flags) limits flags v table told → OpensAt along limits flags v table told
  along_object n leads o object = opens_more limits flags v table (λ tells. opens_object tells now t o flags) along (λ tells fd reply new need done. by tells fd reply new need leads done)
    where
      by : (tells : Bool) (fd : ℕ) (reply : Reply) (new : Tree) (need : Need) → LeadsAlong t v follow text (Ok n) → opens_object tells now t o flags fd reply new need → along tells fd reply new need
      by tells fd reply new need (inl (r, reaches, to)) done =
          along_reached t follow text (there tells fd) (gone tells fd) reply new need r reaches
          (there_at v table (there tells fd) (gone tells fd) n reply new need (λ p y is.
          subst (λ (z : Object). opens_object tells now t z flags fd reply new need) (some_same (sym object ∙ is)) done) r to)
      by tells fd reply new need (inr (start, alone)) done =
          along_alone t follow text (there tells fd) (gone tells fd) reply new need v n start alone
          (subst (λ (z : Object). opens_object tells now t z flags fd reply new need) (some_same (sym object ∙ alone.here)) done)

  -- what a path leads to is an object of the tree
  pub object_there : (n : ℕ) → LeadsAlong t v follow text (Ok n) → (o : Object) × (object_of n (v n) ≡ Some o)
  object_there n leads = by (object_of n (v n)) refl (node_object n (v n) (led_some t v follow text n leads))
    where
      by : (x : Option Object) → object_of n (v n) ≡ x → IsSome x → (o : Object) × (object_of n (v n) ≡ Some o)
      by None e is = absurd (false≢true is)
      by (Some o) e is = (o, e)

-- ---- an object that is there

-- what is in the tree is there by its number
pub opens_damaged : {X : Type 0} (v : Volume) (n : ℕ) (y : Object) → object_of n (v n) ≡ Some y → ((o : Node) → v n ≡ Some o → ⊥) → X
opens_damaged v n y object none = by (v n) object none
  where
    by : {Y : Type 0} (o : Option Node) → object_of n o ≡ Some y → ((x : Node) → o ≡ Some x → ⊥) → Y
    by None object none = none_some object
    by (Some x) object none = absurd (none x refl)

-- a new file is wanted
pub opens_exclusive : (now : Option Time) (t : Tree) (o : Object) (flags : Flags) → (flags.creates && flags.exclusive) ≡ true → (tells : Bool) (fd : ℕ) → opens_object tells now t o flags fd (Refused EEXIST) t nothing
opens_exclusive now t o flags wants tells fd = tested_some t ((flags.creates && flags.exclusive, EEXIST) ∷ []) _ EEXIST (cond-true (flags.creates && flags.exclusive) (Some EEXIST) None wants)

second_too : (a b : Bool) → (a && b) ≡ true → b ≡ true
second_too true b is = is
second_too false b is = absurd (false≢true is)

nothing_logs : {X : Type 0} {work : Work} → nothing ≡ logs work → X
nothing_logs e = cc

module _ (limits : Limits) (now : Option Time) (v : Volume) (table : ℕ → Option Description) (n : ℕ) (y : Object) (object : object_of n (v n) ≡ Some y) (flags : Flags) (old : (flags.creates && flags.exclusive) ≡ false) where
  abbrev tree : Tree
  tree = tree_of v table

  abbrev opens : Opening
  opens tells = opens_object tells now tree y flags

  abbrev case : Bool → ℕ → Object → Outcome
  case tells fd o = elim o as (λ _. Outcome) [
    | trees.directory k ↦ refuses tree EISDIR
    | trees.symlink k text ↦ λ _ _ _. ⊥
    | trees.file k ↦ either flags.truncates
        (opens_file tells k flags fd (truncated_to now k 0 tree) (need_of_truncate now k 0 tree))
        (opens_file tells k flags fd tree nothing)
  ]

  past : (tells : Bool) (fd : ℕ) (reply : Reply) (new : Tree) (need : Need) → case tells fd y reply new need → opens tells fd reply new need
  past tells fd reply new need done =
      tested_none tree ((flags.creates && flags.exclusive, EEXIST) ∷ []) (case tells fd y) reply new need (cond-false (flags.creates && flags.exclusive) (Some EEXIST) None old) done

  module _ (stat : Stat) (told : TellsStat v n (Ok stat)) where
    pub opens_no_file : stat.kind ≢ File → found_in (v n) ≢ found.Link → (tells : Bool) (fd : ℕ) → opens tells fd (Refused EISDIR) tree nothing
    opens_no_file other plain tells fd = past tells fd (Refused EISDIR) tree nothing (by told.0 told.1 told.2)
      where
        by : (o : Node) → v n ≡ Some o → stat ≡ stat_in n o → case tells fd y (Refused EISDIR) tree nothing
        by (directory_node attributes names) is same =
            subst (λ (z : Object). case tells fd z (Refused EISDIR) tree nothing) (object_by n v (directory_node attributes names) (trees.directory n) y is refl object) (refl, refl, refl)
        by (file_node attributes links bytes) is same = absurd (other (ap (λ (s : Stat). s.kind) same))
        by (link_node attributes text) is same = absurd (plain (ap found_in is))

    module _ (kind : stat.kind ≡ File) where
      record TellsFile : Type 0 where
        attributes : Attributes
        bytes : List ℕ
        is : v n ≡ Some (file_node attributes stat.links bytes)
        mode : stat.mode ≡ attributes.mode
        size : stat.size ≡ length bytes

      dir_file : {X : Type 0} → Dir ≡ File → X
      dir_file e = cc

      link_file : {X : Type 0} → Link ≡ File → X
      link_file e = cc

      f : TellsFile
      f = by told.0 told.1 told.2
        where
          by : (o : Node) → v n ≡ Some o → stat ≡ stat_in n o → TellsFile
          by (directory_node attributes names) is same = dir_file (sym (ap (λ (s : Stat). s.kind) same) ∙ kind)
          by (file_node attributes links bytes) is same = record {
            attributes = attributes;
            bytes = bytes;
            is = is ∙ ap (λ (k : ℕ). Some (file_node attributes k bytes)) (sym (ap (λ (s : Stat). s.links) same));
            mode = ap (λ (s : Stat). s.mode) same;
            size = ap (λ (s : Stat). s.size) same;
          }
          by (link_node attributes text) is same = link_file (sym (ap (λ (s : Stat). s.kind) same) ∙ kind)

      at_file : (tells : Bool) (fd : ℕ) (reply : Reply) (new : Tree) (need : Need) → case tells fd (trees.file n) reply new need → opens tells fd reply new need
      at_file tells fd reply new need done =
          past tells fd reply new need
          (subst (λ (z : Object). case tells fd z reply new need) (object_by n v (file_node f.attributes stat.links f.bytes) (trees.file n) y f.is refl object) done)

      pub is_file_at : is_file_node (v n) ≡ true
      is_file_at = ap is_file_node f.is

      abbrev opened : ℕ → Option Changing → Opened
      opened size changing = record { number = n; size = size; links = stat.links; mode = stat.mode; changing = changing }

      abbrev file_case : Bool → Bool → ℕ → Outcome
      file_case truncates tells fd = either truncates (opens_file tells n flags fd (truncated_to now n 0 tree) (need_of_truncate now n 0 tree)) (opens_file tells n flags fd tree nothing)

      module _ (links_law : VolumesTellLinks) (volume : IsVolume limits v) where
        pub opens_whole : not flags.truncates ≡ true → OpensOver opens limits flags v table (opened stat.size None) None
        opens_whole keeps =
            let o = opened stat.size None in
            let is : IsOpened v o = (f.attributes, f.bytes, f.is, f.mode, f.size) in (
              is,
              λ tells fd.
                  at_file tells fd (opened_reply tells fd o) (opened_tree flags o fd tree) nothing
                  (subst (λ (b : Bool). file_case b tells fd (opened_reply tells fd o) (opened_tree flags o fd tree) nothing) (sym (not-true flags.truncates keeps))
                  (file_opened limits v table links_law volume flags o is tells fd tree nothing refl)),
            )

        module _ (keep_law : RecordsKeepVolumes) (truncates_file : not flags.truncates ≡ false) where
          -- the file of another volume, whose tree is this one with the file truncated
          truncated_at : (w : Volume) (o : Opened) → o.number ≡ n → IsVolume limits w → IsOpened w o → (need : Need) → tree_of w table ≡ truncated_to now n 0 tree → need ≡ need_of_truncate now n 0 tree
              → IsOpenedOver opens flags o (tree_of w table) need
          truncated_at w o same whole is need becomes needs tells fd =
              at_file tells fd (opened_reply tells fd o) (opened_tree flags o fd (tree_of w table)) need
              (subst (λ (b : Bool). file_case b tells fd (opened_reply tells fd o) (opened_tree flags o fd (tree_of w table)) need) (sym (not-false flags.truncates truncates_file))
              (subst (λ (k : Need). opens_file tells n flags fd (truncated_to now n 0 tree) k (opened_reply tells fd o) (opened_tree flags o fd (tree_of w table)) need) needs
              (subst (λ (k : ℕ). opens_file tells k flags fd (truncated_to now n 0 tree) need (opened_reply tells fd o) (opened_tree flags o fd (tree_of w table)) need) same
              (file_opened limits w table links_law whole flags o is tells fd (truncated_to now n 0 tree) need becomes))))

          abbrev held : ℕ
          held = length (contents tree n)

          -- what needs nothing to be truncated has no bytes
          no_bytes : nothing ≡ need_of_truncate now n 0 tree → 0 ≡ length f.bytes
          no_bytes needs =
              elim (cases_Bool (is_idle_size now n 0 tree)) [
                | inl idle ↦ eqb-true 0 held (second_too (is_none now) (0 == held) idle) ∙ ap (λ (o : Option Node). length (unwrap_or (bytes_of_node o) [])) f.is
                | inr more ↦ nothing_logs (needs ∙ cond-false (is_idle_size now n 0 tree) nothing (logs (changes_size held 0)) more)
              ]

          abbrev truncate_change : Change
          truncate_change = stamped now (records.truncate n 0)

          abbrev after : Volume
          after = applied truncate_change v

          truncated_now : (changing : Option Changing) → IsOpened after (opened 0 changing)
          truncated_now changing =
              let bare : IsFileWith stat.mode stat.links (resized 0 f.bytes) (with_size n 0 v n) = record {
                attributes = f.attributes;
                is = node_here n n (with_file_bytes (resized 0) (v n)) v refl ∙ ap (with_file_bytes (resized 0)) f.is;
                mode_is = f.mode;
              } in
              let it = marked_file now (touches_object Data n) (with_size n 0 v) n stat.mode stat.links (resized 0 f.bytes) bare in
              (it.attributes, resized 0 f.bytes, it.is, it.mode_is, sym (length-resized 0 f.bytes))

          pub opens_truncated : (changing : Option Changing) → TruncatesFile limits now v table n 0 changing → OpensOver opens limits flags v table (opened 0 changing) changing
          opens_truncated None (done, is, needs) =
              let still : IsOpened v (opened 0 None) = (f.attributes, f.bytes, f.is, f.mode, no_bytes needs) in
              (still, truncated_at v (opened 0 None) refl volume still nothing is needs)
          opens_truncated (Some c) (says, (over, (done, is, needs))) =
              let o = opened 0 (Some c) in
              let whole : swept table after ≡ after = fun_ext {f = swept table after} {g = after} over.1.is_swept in
              let (still, is_file, all) = subst
              (λ (w : Volume). IsMounted w table × IsOpened w o × IsOpenedOver opens flags o (tree_of w table) (logs (work_of v truncate_change))) (sym whole)
              (over.1, truncated_now (Some c), truncated_at after o refl (keep_law limits v truncate_change volume over.0) (truncated_now (Some c)) (logs (work_of v truncate_change)) is needs) in
              subst (OpensByRecord opens limits flags v table o) (sym says) (over.0, still, is_file, all)

-- ---- a file that is made

pub created_number : (change : OwnedChange) (n d k : ℕ) (what : Made) (x : Name) → CreatesNumber n change → said_by change ≡ create k d what x → k ≡ n
created_number (owned.Create creation) n d k what x is says = sym (number_same says) ∙ is
  where
    number_same : {a b c e : ℕ} {m o : Made} {y z : Name} → create a b m y ≡ create c e o z → a ≡ c
    number_same e = cc
created_number _ n d k what x is says = absurd is

same_number : {n k d : ℕ} {what : Made} {x : Name} → create n d what x ≡ create k d what x → n ≡ k
same_number e = cc

module _ (limits : Limits) (now : Option Time) (v : Volume) (table : ℕ → Option Description) (volume : IsVolume limits v) (mounted : IsMounted v table) (tree_is : IsTree limits (tree_of v table)) where
  abbrev old : Tree
  old = tree_of v table

  module _ (d : ℕ) (x : Name) (r : Resolution) (gap : FindsGap limits v table volume mounted tree_is r d x) where
    module _ (fresh_law : VolumesTellFresh) (change_law : RecordsChangeTrees) (keeps : KeepsTime limits.has_attributes now) (flags : Flags) (permissions : Permissions) where
      abbrev outcome : Opening
      outcome tells = opens_new tells limits now old gap.path x flags permissions

      -- the tree with the file
      abbrev with_new : ℕ → Tree
      with_new n = entered now Data n gap.path old (with_file (gap.path ++ x ∷ []) n permissions old)

      abbrev fresh : Bool → ℕ → Outcome
      fresh tells fd = with_fresh limits old (λ n. opens_file tells n flags fd (with_new n) (logs adds_name))

      none_made : flags.creates ≡ false → (tells : Bool) (fd : ℕ) → outcome tells fd (Refused ENOENT) old nothing
      none_made none tells fd =
          tested_some old ((not flags.creates, ENOENT) ∷ []) (with_place limits old gap.path (fresh tells fd)) ENOENT
          (cond-true (not flags.creates) (Some ENOENT) None (ap not none))

      module _ (does : flags.creates ≡ true) where
        past_tests : (tells : Bool) (fd : ℕ) (reply : Reply) (new : Tree) (need : Need) → with_place limits old gap.path (fresh tells fd) reply new need → outcome tells fd reply new need
        past_tests tells fd reply new need done =
            tested_none old ((not flags.creates, ENOENT) ∷ []) (with_place limits old gap.path (fresh tells fd)) reply new need
            (cond-false (not flags.creates) (Some ENOENT) None (ap not does)) done

        with_room : TakesName limits v d x → (tells : Bool) (fd : ℕ) (reply : Reply) (new : Tree) (need : Need) → fresh tells fd reply new need → outcome tells fd reply new need
        with_room can tells fd reply new need done =
            past_tests tells fd reply new need (place_free limits v table volume mounted tree_is d x r gap can (fresh tells fd) reply new need done)

        all_used : ((k : ℕ) → FIRST_NUMBER ≤ k → k < limits.inodes → IsSome (v k)) → HasNoFresh limits old
        all_used taken k low below =
            not_unused v volume.graph table mounted.bounded k (λ none. false≢true (sym (ap is_some (sym (mounted.is_swept k) ∙ none)) ∙ taken k low below))

        pub new_refused : (errno : Errno) → MakesIn limits now v d x (file permissions) (Err errno) → (tells : Bool) (fd : ℕ) → outcome tells fd (Refused errno) old nothing
        new_refused errno (inl (is, not)) tells fd =
            subst (λ (e : Errno). outcome tells fd (Refused e) old nothing) (sym is)
            (past_tests tells fd (Refused DIRFULL) old nothing (place_full limits v table volume mounted tree_is d x r gap (fresh tells fd) not))
        new_refused errno (inr (is, can, none)) tells fd =
            subst (λ (e : Errno). outcome tells fd (Refused e) old nothing) (sym is)
            (with_room can tells fd (Refused NONUMBER) old nothing (None, all_used none, (refl, refl, refl)))

        module _ (n : ℕ) (good : IsMade limits (file permissions)) (can : TakesName limits v d x) (free : IsLeastFree limits.inodes v n) where
          abbrev change : Change
          change = stamped now (create n d (file permissions) x)

          abbrev made : Volume
          made = applied change v

          applies : Applies limits v change
          applies = record {
            time = keeps;
            edit = record {
              low = free.low;
              high = free.high;
              vacant = ap is_vacant free.free;
              takes = can;
              good = good;
            };
          }

          apart : d ≡ n → ⊥
          apart same = false≢true (sym (ap is_directory_node free.free) ∙ subst (λ (k : ℕ). is_directory_node (v k) ≡ true) same gap.parent)

          unswept : swept table made ≡ made
          unswept = created_unswept table v n d x (file permissions) gap.parent apart mounted.is_swept now

          changed : IsMounted (swept table made) table × ChangesTree change old (tree_of (swept table made) table)
          changed = change_law limits v table change volume mounted applies free.free

          new_tree : tree_of (swept table made) table ≡ with_new n
          new_tree =
              let (p, stands, becomes) = changed.1 in
              let there = gap_parent limits v table volume mounted tree_is d x r gap in
              let same : p ≡ gap.path =
              elim (tree_is.single p gap.path (trees.directory d) (trees.directory d) stands there refl) [ inl e ↦ e | inr other ↦ no_file other.0 ] in
              becomes ∙ ap (λ (q : Path). marked now (touches_entry Data (Some n) (Some d)) (with_file (q ++ x ∷ []) n permissions old)) same
              ∙ entered_here now Data n d gap.path old (with_file (gap.path ++ x ∷ []) n permissions old) there
            where
              no_file : {X : Type 0} → trees.directory d ≡ trees.file d → X
              no_file e = cc

          is_made : IsFileWith permissions.mode 1 [] (swept table made n)
          is_made =
              let between = with_node n (Some (node_of (file permissions))) v in
              let bare : IsFileWith permissions.mode 1 [] (created n d x (node_of (file permissions)) v n) = record {
                attributes = new_attributes permissions;
                is = node_other d n (set_name x (Some n) (between d)) between (λ same. apart (sym same)) ∙ node_here n n (Some (node_of (file permissions))) v refl;
                mode_is = refl;
              } in
              subst (λ (w : Volume). IsFileWith permissions.mode 1 [] (w n)) (sym unswept)
              (marked_file now (touches_entry Data (Some n) (Some d)) (created n d x (node_of (file permissions)) v) n permissions.mode 1 [] bare)

          -- it is opened over the tree that it leaves
          opens_made : VolumesTellLinks → RecordsKeepVolumes → SweepsKeepVolumes → (o : Opened) → o.number ≡ n → IsOpened (swept table made) o
              → IsOpenedOver outcome flags o (tree_of (swept table made) table) (logs adds_name)
          opens_made links_law keep_law sweep_law o same is tells fd =
              let after = swept table made in
              let new = opened_tree flags o fd (tree_of after table) in
              let whole = sweep_law limits made table (keep_law limits v change volume applies) in
              with_room can tells fd (opened_reply tells fd o) new (logs adds_name) (
                Some n,
                fresh_law limits v table n volume mounted free.low free.high free.free free.least,
                subst (λ (k : ℕ). opens_file tells k flags fd (with_new n) (logs adds_name) (opened_reply tells fd o) new (logs adds_name)) same
                    (file_opened limits after table links_law whole flags o is tells fd (with_new n) (logs adds_name) new_tree),
              )

        module _ (links_law : VolumesTellLinks) (keep_law : RecordsKeepVolumes) (sweep_law : SweepsKeepVolumes) where
          pub new_made : (o : Opened) (changing : Option Changing) → OpensMade limits now v permissions d x o changing → OpensOver outcome limits flags v table o changing
          new_made o None is = absurd is
          new_made o (Some c) ((n, says, good, can, free), told, one, own, empty) =
              let same : n ≡ o.number = same_number (ap (λ (h : Change). h.edit) (sym says ∙ told)) in
              let it = is_made n good can free in
              let is : IsOpened (swept table (made n good can free)) o = (
                it.attributes,
                [],
                ap (swept table (made n good can free)) (sym same) ∙ it.is ∙ ap (λ (k : ℕ). Some (file_node it.attributes k [])) (sym one),
                own ∙ it.mode_is,
                empty,
              ) in
              subst (OpensByRecord outcome limits flags v table o) (sym says)
              (applies n good can free, (changed n good can free).0, is, opens_made n good can free links_law keep_law sweep_law o (sym same) is)

      module _ (links_law : VolumesTellLinks) (keep_law : RecordsKeepVolumes) (sweep_law : SweepsKeepVolumes) where
        pub new_opens : (told : Result Opened Errno) → OpensNew limits now v flags permissions d x told → OpensAt outcome limits flags v table told
        new_opens (Err errno) (inl (none, is)) = λ tells fd. subst (λ (e : Errno). outcome tells fd (Refused e) old nothing) (sym is) (none_made none tells fd)
        new_opens (Err errno) (inr (does, told)) = new_refused does errno told
        new_opens (Ok o) (does, told) = new_made does links_law keep_law sweep_law o o.changing told

        -- what opening comes to where a path leads to that name
        pub along_gap : (text : List ℕ) → Reaches old (not (flags.creates && flags.exclusive)) text r → (told : Result Opened Errno) → OpensNew limits now v flags permissions d x told
            → OpensAt (opens_along limits now old text flags permissions) limits flags v table told
        along_gap text reaches told made =
            opens_more limits flags v table outcome (opens_along limits now old text flags permissions) (λ tells fd reply new need done.
            along_reached old (not (flags.creates && flags.exclusive)) text (there limits now v table text flags permissions tells fd) (gone limits now v table text flags permissions tells fd) reply new need r reaches
            (subst (λ (q : Resolution). leads old q (there limits now v table text flags permissions tells fd) (gone limits now v table text flags permissions tells fd) reply new need) (sym gap.is) done)) told (new_opens told made)
