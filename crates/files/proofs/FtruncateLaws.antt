-- What the definitions say of changing the size of a descriptor's file.
use Rattle.std.proofs.Common.{◌≡◌, ℕ, ℤ, nat_abs, Option, Some, None, Result, Ok, Err, IsOkAnd, sym, subst}
use Rattle.std.proofs.Math.Path.{fun_ext}
use Rattle.model.specs.declared.limits.Limits.{Limits}
use Rattle.model.specs.Changing.{truncates_file}
use Rattle.model.specs.Descriptors.{truncates_open}
use Rattle.model.specs.Outcomes.{Outcome}
use Rattle.model.specs.Records.{Change, applied, stamped, work_of}
use Rattle.model.specs.Records as records
use Rattle.model.specs.Room.{logs, nothing}
use Rattle.model.specs.Trees.{Tree, Description}
use Rattle.model.specs.Volumes.{IsMounted, Volume, swept, tree_of}
use Rattle.model.specs.declared.errno.Errno.{Errno}
use Rattle.model.specs.declared.reply.Reply.TheVariants.{Done, Refused}
use Rattle.model.specs.declared.time.Time.{Time}
use Rattle.calls.specs.Changing.{ComesOrStays, ComesSweptBy}
use Rattle.calls.specs.Truncate.{TruncatesFile}
use Rattle.calls.specs.declared.changed.Changing.{Changing}
use Rattle.descriptors.specs.Tables.{table_of}
use Rattle.descriptors.specs.declared.open_file.OpenFile.{OpenFile}
use Rattle.descriptors.specs.declared.table.Descriptors.{Descriptors}
use Rattle.files.specs.Ftruncate.{truncate_tests}
use Rattle.files.specs.Opened.{tree_with}
use Rattle.files.specs.Reading.{PassesOpen}
use Rattle.files.proofs.ReadLaws.{open_passes, open_refused}

-- the call is refused by a test
pub ftruncate_refused : (limits : Limits) (now : Option Time) (v : Volume) (table : Descriptors) (fd : ℕ) (size : ℤ) (errno : Errno) → PassesOpen (truncate_tests limits size) table fd (Err errno)
    → truncates_open limits now (tree_with table v) fd size (Refused errno) (tree_with table v) nothing
ftruncate_refused limits now v table fd size errno is = open_refused table v fd (truncate_tests limits size) (λ d. truncates_file now (tree_with table v) d.number (nat_abs size)) errno is

module _ (limits : Limits) (now : Option Time) (v : Volume) (table : Descriptors) (fd : ℕ) (size : ℤ) (f : OpenFile) where
  abbrev t : Tree
  t = tree_with table v

  abbrev ftruncate : Description → Outcome
  ftruncate d = truncates_file now t d.number (nat_abs size)

  abbrev change : Change
  change = stamped now (records.truncate f.number (nat_abs size))

  -- a mounted volume has nothing to be swept
  whole : IsMounted (applied change v) (table_of table) → swept (table_of table) (applied change v) ≡ applied change v
  whole mounted = fun_ext {f = swept (table_of table) (applied change v)} {g = applied change v} mounted.is_swept

  pub ftruncate_told : (r : Result (Option Changing) Errno) → PassesOpen (truncate_tests limits size) table fd (Ok f) → IsOkAnd r (TruncatesFile limits now v (table_of table) f.number (nat_abs size))
      → ComesOrStays (truncates_open limits now t fd size) limits v (table_of table) r
  ftruncate_told (Err errno) opened truncate = absurd truncate
  ftruncate_told (Ok None) opened truncate = open_passes table v fd (truncate_tests limits size) ftruncate f Done t nothing opened truncate
  ftruncate_told (Ok (Some c)) opened (says, (over, truncate)) =
      subst (ComesSweptBy (truncates_open limits now t fd size) limits v (table_of table)) (sym says) (
        over.0,
        subst (λ (w : Volume). IsMounted w (table_of table)) (sym (whole over.1)) over.1,
        subst (λ (w : Volume). truncates_open limits now t fd size Done (tree_of w (table_of table)) (logs (work_of v change))) (sym (whole over.1))
            (open_passes table v fd (truncate_tests limits size) ftruncate f Done (tree_of (applied change v) (table_of table)) (logs (work_of v change)) opened truncate),
      )
