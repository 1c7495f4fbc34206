-- A file of a volume stands at a path just where it has a name; and what is told of an open file.
use Rattle.std.proofs.Common.{◌≡◌, ℕ, zero, suc, List, [], true, false, Option, Some, None, Result, Ok, Err, refl, sym, ap, subst, ◌∙◌}
use Rattle.std.proofs.lemmas.Bool.{false≢true}
use Rattle.model.specs.declared.limits.Limits.{Limits}
use Rattle.model.specs.declared.attributes.Attributes.{Attributes}
use Rattle.model.specs.Descriptors.{attributes_open, stats_open}
use Rattle.model.specs.Laws.{VolumesTellLinks}
use Rattle.model.specs.Outcomes.{described}
use Rattle.model.specs.Reading.{attribute_tests, tells_attributes, tells_stat}
use Rattle.model.specs.Room.{nothing}
use Rattle.model.specs.Trees.{Description, HasPath, Tree, file}
use Rattle.model.specs.Volumes.{IsVolume, Node, Volume, directory_node, file_node, link_node, is_file_node, is_orphan, number_at, entries, object_at, object_of, tree_of}
use Rattle.model.specs.declared.errno.Errno.{Errno}
use Rattle.model.specs.declared.reply.Reply.TheVariants as replies
use Rattle.model.specs.declared.reply.Stat.{Stat}
use Rattle.model.proofs.SweepLemmas.{found_number}
use Rattle.calls.specs.Attributes.{TellsAttributes, attributes_reply}
use Rattle.calls.specs.Stat.{TellsStat, stat_reply}
use Rattle.calls.proofs.AttrLaws.{with_attributes}
use Rattle.calls.proofs.AttributeLaws.{attributes_passed}
use Rattle.calls.proofs.StatLaws.{told}
use Rattle.descriptors.specs.Files.{figures_of}
use Rattle.descriptors.specs.Fits.{FitsVolume}
use Rattle.descriptors.specs.Tables.{open_at, table_of}
use Rattle.descriptors.specs.declared.open_file.OpenFile.{OpenFile}
use Rattle.descriptors.specs.declared.table.Descriptors.{Descriptors}
use Rattle.files.specs.Opened.{tree_with}
use Rattle.files.proofs.OpenLaws.{is_open, passes}
use Rattle.descriptors.proofs.FitLemmas.{figured_file}

-- a file of a volume
file_of : (o : Option Node) → is_file_node o ≡ true → (attributes : Attributes) × (links : ℕ) × (bytes : List ℕ) × (o ≡ Some (file_node attributes links bytes))
file_of None is = cc
file_of (Some (directory_node attributes names)) is = cc
file_of (Some (file_node attributes links bytes)) is = (attributes, links, bytes, refl)
file_of (Some (link_node attributes text)) is = cc

module _ (limits : Limits) (n : ℕ) (v : Volume) (table : ℕ → Option Description) (tell_links : VolumesTellLinks) (volume : IsVolume limits v) (a_file : is_file_node (v n) ≡ true) where
  abbrev t : Tree
  t = tree_of v table

  path_by : (attributes : Attributes) (links : ℕ) (bytes : List ℕ) → v n ≡ Some (file_node attributes links bytes) → is_orphan (v n) ≡ false → HasPath t n
  path_by attributes zero bytes is named = absurd (false≢true (sym named ∙ ap is_orphan is))
  path_by attributes (suc links) bytes is named = let one = tell_links limits v table n attributes (suc links) bytes volume is in (one.0, file n, one.1, refl)

  pub has_path : is_orphan (v n) ≡ false → HasPath t n
  has_path named = let f = file_of (v n) a_file in path_by f.0 f.1 f.2 f.3 named

  name_by : (attributes : Attributes) (links : ℕ) (bytes : List ℕ) → v n ≡ Some (file_node attributes links bytes) → HasPath t n → is_orphan (v n) ≡ false
  name_by attributes zero bytes is (p, o, at, same) =
      let number_is = found_number v (number_at (entries v) p) o n at same in
      absurd (tell_links limits v table n attributes 0 bytes volume is p (ap (object_at v) number_is ∙ ap (object_of n) is))
  name_by attributes (suc links) bytes is path = ap is_orphan is

  pub has_name : HasPath t n → is_orphan (v n) ≡ false
  has_name path = let f = file_of (v n) a_file in name_by f.0 f.1 f.2 f.3 path

-- ---- what is told of an open file

module _ (table : Descriptors) (v : Volume) (fd : ℕ) where
  abbrev tree : Tree
  tree = tree_with table v

  pub stat_told : (limits : Limits) (f : OpenFile) (r : Result Stat Errno) → IsVolume limits v → VolumesTellLinks → FitsVolume table v → open_at table fd ≡ Some f → TellsStat v f.number r
      → stats_open tree fd (stat_reply r) tree nothing
  stat_told limits f (Ok stat) volume tell_links fits some (o, is, same) =
      let a_file = file_of (v f.number) (figured_file (v f.number) (figures_of f) (fits.files fd f some)) in
      is_open table v fd (λ d. tells_stat tree (file d.number)) f (replies.Stat stat) tree nothing some
      (subst (λ (s : Stat). tells_stat tree (file f.number) (replies.Stat s) tree nothing) (sym same) (told v (table_of table) limits volume tell_links f.number o (file f.number) is (ap (object_of f.number) a_file.3)))
  stat_told limits f (Err errno) volume tell_links fits some none =
      let a_file = file_of (v f.number) (figured_file (v f.number) (figures_of f) (fits.files fd f some)) in
      absurd (none _ a_file.3)

  -- the same with its attributes
  pub attributes_told : (limits : Limits) → limits.has_attributes ≡ true → (f : OpenFile) (r : Result (Stat × Attributes) Errno) → IsVolume limits v → VolumesTellLinks → FitsVolume table v
      → open_at table fd ≡ Some f → TellsAttributes v f.number r → attributes_open limits tree fd (attributes_reply r) tree nothing
  attributes_told limits has f (Ok x) volume tell_links fits some ((o, is, same), kept) =
      let a_file = file_of (v f.number) (figured_file (v f.number) (figures_of f) (fits.files fd f some)) in
      passes tree (attribute_tests limits) (described tree fd (λ d. tells_attributes tree (file d.number))) (replies.Attributes x.0 x.1) tree nothing (attributes_passed limits [] has)
      (is_open table v fd (λ d. tells_attributes tree (file d.number)) f (replies.Attributes x.0 x.1) tree nothing some
      (with_attributes tree (file f.number) x.0 x.1
      (subst (λ (s : Stat). tells_stat tree (file f.number) (replies.Stat s) tree nothing) (sym same) (told v (table_of table) limits volume tell_links f.number o (file f.number) is (ap (object_of f.number) a_file.3)))
      kept))
  attributes_told limits has f (Err errno) volume tell_links fits some none =
      let a_file = file_of (v f.number) (figured_file (v f.number) (figures_of f) (fits.files fd f some)) in
      absurd (none _ a_file.3)
