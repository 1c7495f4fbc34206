-- What the definitions say of changing attributes of a descriptor's file.
use Rattle.std.proofs.Common.{◌≡◌, ℕ, [], true, false, Option, Some, None, IsSome, Result, refl}
use Rattle.std.proofs.lemmas.Bool.{false≢true}
use Rattle.model.specs.declared.errno.Errno.{Errno}
use Rattle.model.specs.declared.errno.Errno.TheVariants.{EBADF, ENOTSUP}
use Rattle.model.specs.declared.limits.Limits.{Limits}
use Rattle.model.specs.declared.reply.Reply.TheVariants.{Refused}
use Rattle.model.specs.Reading.{attribute_tests}
use Rattle.model.specs.Outcomes.{Outcome, described, tested}
use Rattle.model.specs.Paths.{Tests, first_refusal}
use Rattle.model.specs.Room.{nothing}
use Rattle.model.specs.Trees.{Description, Tree}
use Rattle.model.specs.Volumes.{Node, Volume, is_file_node}
use Rattle.calls.specs.Changing.{ComesOrStays}
use Rattle.calls.specs.declared.changed.Changing.{Changing}
use Rattle.calls.proofs.AttributeLaws.{attributes_passed, attributes_refused, stays_more}
use Rattle.descriptors.specs.Files.{description_of}
use Rattle.descriptors.specs.Tables.{open_at, table_of}
use Rattle.descriptors.specs.declared.open_file.OpenFile.{OpenFile}
use Rattle.descriptors.specs.declared.table.Descriptors.{Descriptors}
use Rattle.files.specs.Opened.{tree_with}
use Rattle.files.proofs.OpenLaws.{is_open, not_open, passes, refused_by}

pub file_some : (o : Option Node) → is_file_node o ≡ true → IsSome o
file_some None is = absurd (false≢true is)
file_some (Some node) is = refl

module _ (limits : Limits) (v : Volume) (table : Descriptors) (fd : ℕ) where
  abbrev t : Tree
  t = tree_with table v

  -- what comes of an open file behind its tests
  pub tests_told : (tests : Tests) (gives : Outcome) (r : Result (Option Changing) Errno) → first_refusal tests ≡ None → ComesOrStays gives limits v (table_of table) r
      → ComesOrStays (tested t tests gives) limits v (table_of table) r
  tests_told tests gives r passed = stays_more gives (tested t tests gives) limits v (table_of table) (λ reply after need done. passes t tests gives reply after need passed done) r

  module _ (gives : Description → Outcome) where
    abbrev opened : Outcome
    opened = described t fd gives

    pub open_told : (f : OpenFile) (r : Result (Option Changing) Errno) → open_at table fd ≡ Some f → ComesOrStays (gives (description_of f)) limits v (table_of table) r
        → ComesOrStays opened limits v (table_of table) r
    open_told f r some = stays_more (gives (description_of f)) opened limits v (table_of table) (λ reply after need done. is_open table v fd gives f reply after need some done) r

    -- a call on what is kept only with attributes
    abbrev whole : Outcome
    whole = tested t (attribute_tests limits) opened

    pub not_kept : limits.has_attributes ≡ false → whole (Refused ENOTSUP) t nothing
    not_kept none = refused_by t (attribute_tests limits) opened ENOTSUP (attributes_refused limits [] none)

    module _ (has : limits.has_attributes ≡ true) where
      pub kept_not_open : open_at table fd ≡ None → whole (Refused EBADF) t nothing
      kept_not_open none = passes t (attribute_tests limits) opened (Refused EBADF) t nothing (attributes_passed limits [] has) (not_open table v fd gives none)

      pub kept_told : (f : OpenFile) (r : Result (Option Changing) Errno) → open_at table fd ≡ Some f → ComesOrStays (gives (description_of f)) limits v (table_of table) r
          → ComesOrStays whole limits v (table_of table) r
      kept_told f r some comes = tests_told (attribute_tests limits) opened r (attributes_passed limits [] has) (open_told f r some comes)
