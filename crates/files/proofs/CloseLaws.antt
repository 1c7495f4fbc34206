-- What the definitions say of closing a descriptor.
use Rattle.std.proofs.Common.{◌≡◌, ◌≢◌, ◌<◌, ◌≤◌, ◌==◌, inl, inr, ℕ, zero, suc, Bool, true, false, Option, Some, None, Result, Ok, Err, OnErr, OnOk, refl, sym, ap, subst, ◌∙◌, arith}
use Rattle.std.proofs.Math.Path.{fun_ext}
use Rattle.std.proofs.lemmas.Bool.{cases_Bool, cases_eq, cases_lt, cond-true, cond-false, eq-eqb, ne_eqb}
use Rattle.std.specs.Option.{option_map}
use Rattle.model.specs.declared.limits.Limits.{Limits}
use Rattle.model.specs.Descriptors.{closes}
use Rattle.model.specs.Edits.{IsSwept, with_descriptor}
use Rattle.model.specs.Outcomes.{Outcome, changes_swept}
use Rattle.model.specs.Room.{nothing}
use Rattle.model.specs.Trees.{Tree, Description}
use Rattle.model.specs.Volumes.{IsMounted, IsVolume, Node, Volume, directory_node, file_node, link_node, is_file_node, is_orphan, is_open, swept, swept_node, tree_of, with_node}
use Rattle.model.specs.declared.limits.TheConstants.{OPEN_FILES}
use Rattle.model.specs.declared.reply.Reply.TheVariants.{Done, Refused}
use Rattle.model.specs.declared.errno.Errno.TheVariants.{EBADF}
use Rattle.buffers.specs.Errors.{IsFault}
use Rattle.buffers.specs.declared.error.BlockError.{BlockError}
use Rattle.buffers.specs.declared.blocks.Blocks.{Ghosts}
use Rattle.model.proofs.OptionLaws.{some_same}
use Rattle.model.proofs.RecordLemmas.{swept_twice}
use Rattle.model.proofs.SweepLemmas.{IsOrphan, found_open, opened_by, stays_named, stays_open, swept_from}
use Rattle.inofile.specs.declared.inode_file.InodeFile.{InodeFile}
use Rattle.paths.specs.Standing.{Looks}
use Rattle.paths.proofs.Looks.{looks_ok}
use Rattle.records.specs.Shown.{NeverDamaged}
use Rattle.records.specs.Steps.{IsAtHand}
use Rattle.records.proofs.StandLaws.{no_look}
use Rattle.descriptors.specs.Files.{Figures, description_of, figures_of, node_figures}
use Rattle.descriptors.specs.Fits.{FitsVolume}
use Rattle.descriptors.specs.Tables.{open_at, put_open, table_of}
use Rattle.descriptors.specs.declared.open_file.OpenFile.{OpenFile}
use Rattle.descriptors.proofs.FitLemmas.{past_bound}
use Rattle.descriptors.specs.declared.table.Descriptors.{Descriptors}
use Rattle.files.specs.Closing.{ClosesReady, IsOpenOrphan, PreparesClose, swept_at}
use Rattle.files.specs.Opened.{tree_with}
use Rattle.records.specs.Opened.{HasNumbers}
use Rattle.files.proofs.OpenLaws as laws
use Rattle.model.proofs.ObjectLaws.{node_here, node_other}

-- nothing is open past the table's end
past_end : (t : Descriptors) (d : ℕ) → OPEN_FILES ≤ d → table_of t d ≡ None
past_end t d past = ap (option_map description_of) (past_bound t d past)

-- what stays where nothing is open stays whatever is open
stays_any : (open_now : Bool) (o : Option Node) → swept_node false o ≡ o → swept_node open_now o ≡ o
stays_any true o is = stays_open o
stays_any false o is = is

-- a file with names isn't nameless
not_orphan : (o : Option Node) (figures : Figures) → node_figures o ≡ Some figures → 0 < figures.links → ¬ IsOrphan o
not_orphan o figures is some (attributes, bytes, same) =
    let none : 0 ≡ figures.links = ap (λ (k : Figures). k.links) (some_same (sym (ap node_figures same) ∙ is)) in omega (arith, none, some)

module _ (old new : Descriptors) (fd : ℕ) (freed : table_of new ≡ put_open fd None (table_of old)) where
  -- another descriptor is as it was
  as_it_was : (d : ℕ) → d ≢ fd → table_of new d ≡ table_of old d
  as_it_was d other = ap (λ (g : ℕ → Option Description). g d) freed ∙ cond-false (d == fd) None (table_of old d) (ne_eqb d fd other)

  -- what is open then was open
  was_open : (d : ℕ) (g : Description) → table_of new d ≡ Some g → table_of old d ≡ Some g
  was_open d g e =
      elim (cases_eq d fd) [
        | inl same ↦ let none : None ≡ Some g = sym (ap (λ (h : ℕ → Option Description). h d) freed ∙ cond-true (d == fd) None (table_of old d) (eq-eqb d fd same)) ∙ e in cc
        | inr other ↦ sym (as_it_was d other) ∙ e
      ]

  module _ (v : Volume) where
    abbrev t : Tree
    t = tree_with old v

    abbrev rest : Description → Outcome
    rest f = changes_swept Done (with_descriptor fd None t) nothing

    abbrev left : Volume
    left = swept (table_of new) v

    pub close_done : (limits : Limits) (f : OpenFile) → IsVolume limits v → open_at old fd ≡ Some f → closes t fd Done (tree_with new left) nothing
    close_done limits f volume some = laws.is_open old v fd rest f Done (tree_with new left) nothing some (refl, is_swept, refl)
      where
        whole : IsSwept (tree_of v (table_of new)) (tree_of left (table_of new))
        whole = swept_from v volume.graph (table_of new) (past_end new) (tree_of v (table_of new)) refl refl (λ n used. (refl, refl))

        is_swept : IsSwept (with_descriptor fd None t) (tree_of left (table_of new))
        is_swept = subst (λ (s : Tree). IsSwept s (tree_of left (table_of new))) (ap (tree_of v) freed) whole

    pub close_mounted : IsMounted v (table_of old) → IsMounted left (table_of new)
    close_mounted mounted = record {
      files = λ d g e.
          let was = was_open d g e in
          elim (cases_lt d OPEN_FILES) [
            | inl below ↦ ap is_file_node (ap (λ b. swept_node b (v g.number)) (found_open (table_of new) OPEN_FILES d g.number g below e refl) ∙ stays_open (v g.number)) ∙ mounted.files d g was
            | inr past ↦ let none : None ≡ Some g = sym (past_end new d past) ∙ e in cc
          ];
      is_swept = λ n. swept_twice (is_open (table_of new) OPEN_FILES n) (v n);
      bounded = past_end new;
      offsets = λ d g e. mounted.offsets d g (was_open d g e);
    }

    module _ (f : OpenFile) (some : open_at old fd ≡ Some f) where
      -- a number that is open elsewhere stays open
      open_other : (n : ℕ) → n ≢ f.number → is_open (table_of old) OPEN_FILES n ≡ true → is_open (table_of new) OPEN_FILES n ≡ true
      open_other n differs opened =
          let at = opened_by (table_of old) OPEN_FILES n opened in
          let d : ℕ = at.0 in
          let g : Description = at.1 in
          let here : table_of old fd ≡ Some (description_of f) = ap (option_map description_of) some in
          let other : d ≢ fd = λ same. differs (sym at.3 ∙ ap (λ (k : Description). k.number) (some_same (sym at.2 ∙ ap (table_of old) same ∙ here))) in
          let now : table_of new d ≡ Some g = as_it_was d other ∙ at.2 in
          elim (cases_lt d OPEN_FILES) [
            | inl below ↦ found_open (table_of new) OPEN_FILES d n g below now at.3
            | inr past ↦ let none : None ≡ Some g = sym (past_end new d past) ∙ now in cc
          ]

      swept_other : IsMounted v (table_of old) → (n : ℕ) → n ≢ f.number → swept (table_of new) v n ≡ v n
      swept_other mounted n differs =
          elim (cases_Bool (is_open (table_of old) OPEN_FILES n)) [
            | inl opened ↦ ap (λ b. swept_node b (v n)) (open_other n differs opened) ∙ stays_open (v n)
            | inr closed ↦ stays_any (is_open (table_of new) OPEN_FILES n) (v n) (sym (ap (λ b. swept_node b (v n)) closed) ∙ mounted.is_swept n)
          ]

      pub one_swept : IsMounted v (table_of old) → swept_at (table_of new) f.number v ≡ left
      one_swept mounted =
          fun_ext {f = swept_at (table_of new) f.number v} {g = left}
          (λ n. elim (cases_eq n f.number) [
            | inl same ↦
                node_here f.number n (swept_node (is_open (table_of new) OPEN_FILES f.number) (v f.number)) v same
                ∙ ap (λ (m : ℕ). swept_node (is_open (table_of new) OPEN_FILES m) (v m)) (sym same)
            | inr differs ↦ node_other f.number n (swept_node (is_open (table_of new) OPEN_FILES f.number) (v f.number)) v differs ∙ sym (swept_other mounted n differs)
          ])

-- ---- a descriptor that isn't open

module _ (table : Descriptors) (v : Volume) (mounted : IsMounted v (table_of table)) where
  -- of a mounted volume nothing goes
  pub none_swept : v ≡ swept (table_of table) v
  none_swept = sym (fun_ext {f = swept (table_of table) v} {g = v} mounted.is_swept)

  pub close_refused : (fd : ℕ) → open_at table fd ≡ None → closes (tree_with table v) fd (Refused EBADF) (tree_with table (swept (table_of table) v)) nothing
  close_refused fd none =
      subst (λ (w : Volume). closes (tree_with table v) fd (Refused EBADF) (tree_of w (table_of table)) nothing) none_swept
      (laws.not_open table v fd (λ f. changes_swept Done (with_descriptor fd None (tree_with table v)) nothing) none)

-- ---- the file of a descriptor that is freed

module _ (table : ℕ → Option Description) (n : ℕ) (v : Volume) where
  pub drops : is_open table OPEN_FILES n ≡ false → with_node n (swept_node false (v n)) v ≡ swept_at table n v
  drops closed = ap (λ (b : Bool). with_node n (swept_node b (v n)) v) (sym closed)

  stays_at : swept_node (is_open table OPEN_FILES n) (v n) ≡ v n → v ≡ swept_at table n v
  stays_at same =
      fun_ext {f = v} {g = swept_at table n v}
      (λ k. elim (cases_eq k n) [
        | inl here ↦ ap v here ∙ sym same ∙ sym (node_here n k (swept_node (is_open table OPEN_FILES n) (v n)) v here)
        | inr other ↦ sym (node_other n k (swept_node (is_open table OPEN_FILES n) (v n)) v other)
      ])

  pub open_stays : is_open table OPEN_FILES n ≡ true → v ≡ swept_at table n v
  open_stays opened = stays_at (ap (λ (b : Bool). swept_node b (v n)) opened ∙ stays_open (v n))

  pub named_stays : (figures : Figures) → node_figures (v n) ≡ Some figures → 0 < figures.links → v ≡ swept_at table n v
  named_stays figures is some = stays_at (stays_named (is_open table OPEN_FILES n) (v n) (not_orphan (v n) figures is some))

-- a descriptor less changes no number
pub freed_numbers : (inodes : ℕ) (old new : Descriptors) (fd : ℕ) → ((d : ℕ) → open_at new d ≡ put_open fd None (open_at old) d) → HasNumbers inodes old → HasNumbers inodes new
freed_numbers inodes old new fd files has = record {
  numbers = λ d g e.
      elim (cases_eq d fd) [
        | inl same ↦ let none : None ≡ Some g = sym (cond-true (d == fd) _ _ (eq-eqb d fd same)) ∙ sym (files d) ∙ e in cc
        | inr other ↦ has.numbers d g (sym (cond-false (d == fd) _ _ (ne_eqb d fd other)) ∙ sym (files d) ∙ e)
      ];
}

-- the file of a descriptor has no name in the volume
pub open_orphan : (table : Descriptors) (fd : ℕ) (f : OpenFile) (v : Volume) → FitsVolume table v → open_at table fd ≡ Some f → f.links ≡ 0 → IsOpenOrphan v table fd
open_orphan table fd f v fits some none = (f, some, orphans (v f.number) (figures_of f) (fits.files fd f some) none)
  where
    orphans : (o : Option Node) (figures : Figures) → node_figures o ≡ Some figures → figures.links ≡ 0 → is_orphan o ≡ true
    orphans None figures is none = cc
    orphans (Some (directory_node attributes names)) figures is none = cc
    orphans (Some (file_node attributes zero bytes)) figures is none = refl
    orphans (Some (file_node attributes (suc links) bytes)) figures is none =
        let many : suc links ≡ figures.links = ap (λ (k : Figures). k.links) (some_same is) in absurd (omega (arith, many, none))
    orphans (Some (link_node attributes text)) figures is none = cc

on_err : {T E : Type 0} {P : Type 0} (r : Result T E) → P → OnErr r P
on_err (Ok x) is = tt
on_err (Err e) is = is

-- ---- before a descriptor is freed

ready_by : {T : Type 0} (table : Descriptors) (fd : ℕ) (r : Result T BlockError) (t : InodeFile) (f : OpenFile) → open_at table fd ≡ Some f → OnOk r (IsAtHand t f.number)
    → OnOk r (ClosesReady t table fd)
ready_by table fd (Err e) t f some here = tt
ready_by table fd (Ok x) t f some here = λ g is none. subst (λ (k : OpenFile). IsAtHand t k.number) (some_same (sym some ∙ is)) here

module _ {B T : Type 0} {G : Ghosts B} {table : Descriptors} {fd : ℕ} where
  -- nothing is needed where no orphan is open there
  pub needs_nothing : {a : B} {s : InodeFile} {x : T} → ((f : OpenFile) → open_at table fd ≡ Some f → f.links ≡ 0 → ⊥) → PreparesClose G a a s s table fd (Ok x)
  needs_nothing other = record {
    looks = looks_ok no_look;
    ready = λ f some none. absurd (other f some none);
    sure = λ disk settled v stands volume mounted fits. tt;
    still = λ disk settled v stands volume mounted fits named. refl;
    linked = λ is. (refl, tt);
    damaged = λ disk settled v stands bad. cc;
  }

  -- and else this file is taken into memory
  pub prepared : {a b : B} {s t : InodeFile} {r : Result T BlockError} → Looks G IsFault a b s t r → (f : OpenFile) → OnOk r (IsAtHand t f.number) → NeverDamaged G a s r
      → open_at table fd ≡ Some f → f.links ≡ 0 → PreparesClose G a b s t table fd r
  prepared {t = t} {r = r} looks f here sound some none = record {
    looks = looks;
    ready = ready_by table fd r t f some here;
    sure = λ disk settled v stands volume mounted fits. on_err r (open_orphan table fd f v fits some none);
    still = λ disk settled v stands volume mounted fits named. absurd (named (open_orphan table fd f v fits some none));
    linked = λ is. absurd (is f some none);
    damaged = sound;
  }
