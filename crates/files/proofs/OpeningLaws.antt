-- What the definitions say of opening a file, by what its path leads to and which descriptor is free.
use Rattle.std.proofs.Common.{◌≡◌, ℕ, Bool, true, false, List, Option, Some, None, Ok, Err, refl, sym, ap, subst, ◌∙◌}
use Rattle.std.specs.Prelude.{min}
use Rattle.model.specs.declared.limits.Limits.{Limits}
use Rattle.model.specs.Descriptors.{described_by, open_tests, opens}
use Rattle.model.specs.Outcomes.{Outcome, lowest_free, refuses}
use Rattle.model.specs.Paths.{Tests, first_refusal, text_tests, text_tests_then}
use Rattle.model.specs.Records.{applied, work_of}
use Rattle.model.specs.Room.{Need, logs, nothing}
use Rattle.model.specs.Trees.{Tree, Description}
use Rattle.model.specs.Volumes.{Volume, swept, tree_of}
use Rattle.model.specs.declared.attributes.Permissions.{Permissions}
use Rattle.model.specs.declared.command.Flags.{Flags}
use Rattle.model.specs.declared.errno.Errno.{Errno}
use Rattle.model.specs.declared.errno.Errno.TheVariants.{EMFILE}
use Rattle.model.specs.declared.limits.TheConstants.{OPEN_FILES}
use Rattle.model.specs.declared.reply.FileType.TheVariants.{File}
use Rattle.model.specs.declared.reply.Reply.{Reply}
use Rattle.model.specs.declared.reply.Reply.TheVariants as replies
use Rattle.model.specs.declared.reply.Reply.TheVariants.{Refused}
use Rattle.model.specs.declared.reply.Stat.{Stat}
use Rattle.model.specs.declared.time.Time.{Time}
use Rattle.calls.specs.Changing.{change_by}
use Rattle.calls.specs.Open.{IsOpened, OpensAt, OpensOver as FindsOver, opened_reply, opened_tree, opens_along}
use Rattle.calls.specs.declared.changed.Changing.{Changing}
use Rattle.calls.specs.declared.preparing.open.Opened.{Opened}
use Rattle.calls.proofs.GetLaws.{text_before}
use Rattle.descriptors.specs.Files.{Figures, description_of, figures_of, node_figures}
use Rattle.descriptors.specs.Fits.{IsFileOf}
use Rattle.descriptors.specs.Tables.{put_open, table_of}
use Rattle.descriptors.specs.declared.open_file.OpenFile.{OpenFile}
use Rattle.descriptors.specs.declared.table.Descriptors.{Descriptors}
use Rattle.files.specs.Opened.{tree_with}
use Rattle.files.specs.Opening.{OpensDescriptor, OpensDescriptorOver, opening_reply}
use Rattle.files.specs.declared.opening.Opening.{Opening}
use Rattle.files.proofs.OpenLaws.{passes, refused_by}

module _ (below : ℕ) (limits : Limits) (now : Option Time) (v : Volume) (table : Descriptors) (text : List ℕ) (flags : Flags) (permissions : Permissions) where
  abbrev t : Tree
  t = tree_with table v

  abbrev tests : Tests
  tests = text_tests_then limits (open_tests flags) text

  abbrev along : Bool → ℕ → Outcome
  along = opens_along limits now t text flags permissions

  abbrev outcome : Bool → Outcome
  outcome tells = opens tells below limits now t text flags permissions

  abbrev free_fd : Option ℕ
  free_fd = lowest_free (table_of table) (min below OPEN_FILES)

  abbrev at_free : Bool → Option ℕ → Outcome
  at_free tells free = elim free as (λ _. Outcome) [ None ↦ refuses t EMFILE | Some fd ↦ along tells fd ]

  -- a text that doesn't pass its tests, or flags that don't
  pub open_refused : (errno : Errno) → first_refusal tests ≡ Some errno → (tells : Bool) → outcome tells (Refused errno) t nothing
  open_refused errno is tells = refused_by t tests (at_free tells free_fd) errno is

  module _ (good_text : first_refusal (text_tests limits text) ≡ None) (good_flags : first_refusal (open_tests flags) ≡ None) where
    passed : (tells : Bool) (reply : Reply) (new : Tree) (need : Need) → at_free tells free_fd reply new need → outcome tells reply new need
    passed tells reply new need done = passes t tests (at_free tells free_fd) reply new need (text_before limits text (open_tests flags) good_text ∙ good_flags) done

    -- no such descriptor is free
    pub open_full : free_fd ≡ None → (tells : Bool) → outcome tells (Refused EMFILE) t nothing
    open_full none tells = passed tells (Refused EMFILE) t nothing (subst (λ (o : Option ℕ). at_free tells o (Refused EMFILE) t nothing) (sym none) (refl, refl, refl))

    module _ (fd : ℕ) (free : free_fd ≡ Some fd) where
      at_fd : (tells : Bool) (reply : Reply) (new : Tree) (need : Need) → along tells fd reply new need → outcome tells reply new need
      at_fd tells reply new need done = passed tells reply new need (subst (λ (o : Option ℕ). at_free tells o reply new need) (sym free) done)

      pub open_nowhere : (errno : Errno) → OpensAt along limits flags v (table_of table) (Err errno) → (tells : Bool) → outcome tells (Refused errno) t nothing
      open_nowhere errno told tells = at_fd tells (Refused errno) t nothing (told tells fd)

      module _ (o : Opened) (f : OpenFile) (stat : Stat) (described : description_of f ≡ described_by o.number flags) (figures : figures_of f ≡ record { links = o.links; size = o.size })
          (told_is : stat ≡ record { number = o.number; kind = File; mode = o.mode; links = o.links; size = o.size }) where
        -- what is opened is a file, with its size and its links
        is_file : (w : Volume) → IsOpened w o → IsFileOf w f
        is_file w (attributes, bytes, is, mode_is, size) =
            ap (λ (d : Description). node_figures (w d.number)) described ∙ ap node_figures is
            ∙ ap (λ (k : ℕ). Some (record { links = o.links; size = k })) (sym size)
            ∙ ap (λ (g : Figures). Some g) (sym figures)

        abbrev opening : Opening
        opening = record { fd = fd; file = f; stat = stat; changing = o.changing }

        same_reply : (tells : Bool) → opened_reply tells fd o ≡ opening_reply tells opening
        same_reply false = refl
        same_reply true = ap (λ (s : Stat). replies.Opened fd s) (sym told_is)

        opens_at : (w : Volume) (need : Need) (tells : Bool) → along tells fd (opened_reply tells fd o) (opened_tree flags o fd (tree_of w (table_of table))) need
            → outcome tells (opening_reply tells opening) (tree_of w (put_open fd (Some (description_of f)) (table_of table))) need
        opens_at w need tells done =
            let after = tree_of w (put_open fd (Some (description_of f)) (table_of table)) in
            let here : along tells fd (opened_reply tells fd o) after need =
            subst (λ (d : Description). along tells fd (opened_reply tells fd o) (tree_of w (put_open fd (Some d) (table_of table))) need) (sym described) done in
            at_fd tells (opening_reply tells opening) after need (subst (λ (r : Reply). along tells fd r after need) (same_reply tells) here)

        over : (changing : Option Changing) → FindsOver along limits flags v (table_of table) o changing → OpensDescriptorOver outcome limits v table opening changing
        over None (is, opened) = (is_file v is, λ tells. opens_at v nothing tells (opened tells fd))
        over (Some c) (applies, mounted, is, opened) =
            let w = swept (table_of table) (applied (change_by c) v) in
            (applies, mounted, is_file w is, λ tells. opens_at w (logs (work_of v (change_by c))) tells (opened tells fd))

        pub open_told : OpensAt along limits flags v (table_of table) (Ok o) → OpensDescriptor outcome limits v table (Ok opening)
        open_told told = over o.changing told
