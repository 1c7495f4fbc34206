-- What the definitions say of reading through a descriptor.
use Rattle.std.proofs.Common.{◌≡◌, ◌+◌, ◌≤◌, ◌||◌, inl, inr, ℕ, ℤ, nat_abs, List, [], length, drop, min, Option, Some, None, Result, Ok, Err, unwrap_or, refl, sym, ap, subst, ◌∙◌, arith}
use Rattle.std.proofs.lemmas.List.{length-drop, length-take}
use Rattle.model.specs.Descriptors.{reads, reads_from, with_offset}
use Rattle.model.specs.Edits.{contents, read_at}
use Rattle.model.specs.Outcomes.{Outcome, answers, changes, described, tested}
use Rattle.model.specs.Paths.{Tests}
use Rattle.model.specs.Reading.{is_negative, is_too_many}
use Rattle.model.specs.Room.{Need, nothing}
use Rattle.model.specs.Trees.{Tree, Description}
use Rattle.model.specs.Volumes.{Node, Volume, bytes_of_node, directory_node, file_node, link_node}
use Rattle.model.specs.declared.errno.Errno.{Errno}
use Rattle.model.specs.declared.limits.TheConstants.{GREATEST_OFFSET}
use Rattle.model.specs.declared.reply.Reply.{Reply}
use Rattle.model.specs.declared.reply.Reply.TheVariants.{Data, Refused}
use Rattle.calls.specs.Get.{data_reply}
use Rattle.descriptors.specs.Files.{Figures, KeepsBounds, description_of, figures_of, node_figures}
use Rattle.descriptors.specs.Fits.{FitsVolume}
use Rattle.descriptors.specs.Tables.{put_open, table_of}
use Rattle.descriptors.specs.declared.open_file.OpenFile.{OpenFile}
use Rattle.descriptors.specs.declared.table.Descriptors.{Descriptors}
use Rattle.files.specs.Opened.{tree_with}
use Rattle.files.specs.Reading.{PassesOpen, ReadsFile, read_tests}
use Rattle.files.proofs.OpenLaws.{is_open, moved_tree, not_open, passes, refused_by}

-- ---- what is open passes its tests, or doesn't

module _ (table : Descriptors) (v : Volume) (fd : ℕ) (tests : Description → Tests) (rest : Description → Outcome) where
  abbrev t : Tree
  t = tree_with table v

  abbrev behind : Description → Outcome
  behind f = tested t (tests f) (rest f)

  pub open_refused : (errno : Errno) → PassesOpen tests table fd (Err errno) → described t fd behind (Refused errno) t nothing
  open_refused errno (inl (none, same)) = subst (λ (e : Errno). described t fd behind (Refused e) t nothing) (sym same) (not_open table v fd behind none)
  open_refused errno (inr (f, some, is)) = is_open table v fd behind f (Refused errno) t nothing some (refused_by t (tests (description_of f)) (rest (description_of f)) errno is)

  pub open_passes : (f : OpenFile) (reply : Reply) (new : Tree) (need : Need) → PassesOpen tests table fd (Ok f) → rest (description_of f) reply new need
      → described t fd behind reply new need
  open_passes f reply new need (some, none) is = is_open table v fd behind f reply new need some (passes t (tests (description_of f)) (rest (description_of f)) reply new need none is)

-- ---- an open file of a volume

pub figured_size : (o : Option Node) (figures : Figures) → node_figures o ≡ Some figures → length (unwrap_or (bytes_of_node o) []) ≡ figures.size
figured_size None figures e = cc
figured_size (Some (directory_node attributes names)) figures e = cc
figured_size (Some (file_node attributes links bytes)) figures e = cc
figured_size (Some (link_node attributes text)) figures e = cc

-- no offset behind what is read is past the greatest one
place_is : (bytes : List ℕ) (offset count : ℕ) → length bytes ≤ GREATEST_OFFSET → offset ≤ 9223372036854775807
    → min (offset + length (read_at offset count bytes)) 9223372036854775807 ≡ offset + length (read_at offset count bytes)
place_is bytes offset count size within = omega (arith, length-take count (drop offset bytes), length-drop offset bytes)

-- ---- what is read

module _ (table : Descriptors) (v : Volume) (fd count : ℕ) where
  abbrev tree : Tree
  tree = tree_with table v

  abbrev given : Description → List ℕ
  given f = read_at f.offset count (contents tree f.number)

  abbrev reading : Description → Outcome
  reading f = changes (Data (given f)) (with_offset fd f (f.offset + length (given f)) tree) nothing

  pub read_refused : (errno : Errno) → PassesOpen (read_tests (is_too_many count)) table fd (Err errno) → reads tree fd count (Refused errno) tree nothing
  read_refused errno is = open_refused table v fd (read_tests (is_too_many count)) reading errno is

  pub read_done : (new : Descriptors) (f : OpenFile) (bytes : List ℕ) → PassesOpen (read_tests (is_too_many count)) table fd (Ok f) → KeepsBounds f → FitsVolume table v
      → ReadsFile v f.number f.offset count (Ok bytes)
      → table_of new ≡ put_open fd (Some (record (description_of f) { offset = min (f.offset + length bytes) 9223372036854775807 })) (table_of table)
      → reads tree fd count (Data bytes) (tree_with new v) nothing
  read_done new f bytes opened bounds fits is moved =
      open_passes table v fd (read_tests (is_too_many count)) reading f (Data bytes) (tree_with new v) nothing opened (ap (λ b. Data b) is, tree_is, refl)
    where
      size : length (contents tree f.number) ≤ GREATEST_OFFSET
      size = let same = figured_size (v f.number) (figures_of f) (fits.files fd f opened.0) in omega (arith, same, bounds.size)

      tree_is : tree_with new v ≡ with_offset fd (description_of f) (f.offset + length (given (description_of f))) tree
      tree_is =
          moved_tree table new v fd (min (f.offset + length bytes) 9223372036854775807) f moved
          ∙ ap (λ (p : ℕ). with_offset fd (description_of f) p tree) (ap (λ (b : List ℕ). min (f.offset + length b) 9223372036854775807) is ∙ place_is (contents tree f.number) f.offset count size bounds.offset)

module _ (table : Descriptors) (v : Volume) (fd : ℕ) (offset : ℤ) (count : ℕ) where
  abbrev tree_now : Tree
  tree_now = tree_with table v

  abbrev reading_from : Description → Outcome
  reading_from f = answers tree_now (Data (read_at (nat_abs offset) count (contents tree_now f.number)))

  pub pread_refused : (errno : Errno) → PassesOpen (read_tests (is_negative offset || is_too_many count)) table fd (Err errno) → reads_from tree_now fd offset count (Refused errno) tree_now nothing
  pread_refused errno is = open_refused table v fd (read_tests (is_negative offset || is_too_many count)) reading_from errno is

  pub pread_done : (f : OpenFile) (bytes : List ℕ) → PassesOpen (read_tests (is_negative offset || is_too_many count)) table fd (Ok f) → ReadsFile v f.number (nat_abs offset) count (Ok bytes)
      → reads_from tree_now fd offset count (Data bytes) tree_now nothing
  pread_done f bytes opened is =
      open_passes table v fd (read_tests (is_negative offset || is_too_many count)) reading_from f (Data bytes) tree_now nothing opened (ap (λ b. Data b) is, refl, refl)

  -- what was read, as it is answered
  pub pread_told : (f : OpenFile) (r : Result (List ℕ) Errno) → PassesOpen (read_tests (is_negative offset || is_too_many count)) table fd (Ok f) → ReadsFile v f.number (nat_abs offset) count r
      → reads_from tree_now fd offset count (data_reply r) tree_now nothing
  pread_told f (Ok bytes) opened is = pread_done f bytes opened is
  pread_told f (Err errno) opened is = absurd is
