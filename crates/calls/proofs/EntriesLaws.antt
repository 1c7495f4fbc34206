-- What the definitions say of telling a part of a directory's names over a path, by what was found
-- in a volume.
use Rattle.std.proofs.Common.{◌≡◌, inl, inr, ℕ, ℤ, nat_abs, ◌≤◌, ◌||◌, ◌==◌, nat_lt, List, [], ◌∷◌, All, true, false, Bool, Option, Some, None, IsSome, Result, Ok, Err, refl, sym, ap, subst, ◌∙◌, arith}
use Rattle.std.specs.Prelude.{IsFalse, IsTrue}
use Rattle.std.specs.List.{AllZip}
use Rattle.std.proofs.lemmas.Bool.{cond-true, cases_Bool, cond-false, eqb-false, false≢true}
use Rattle.std.proofs.lemmas.List.Elements.{All-contains, All-head, All-tail}
use Rattle.model.specs.declared.limits.Limits.{Limits}
use Rattle.model.specs.Entries.{TellsEntries, TellsEntry, with_part}
use Rattle.model.specs.Laws.{VolumesTellLinks}
use Rattle.model.specs.Outcomes.{HasLinks, IsListing, Outcome, answers, refuses, with_names}
use Rattle.model.specs.Paths.{Path, first_refusal, text_tests, text_tests_then}
use Rattle.model.specs.Reading.{is_negative, tells_entries}
use Rattle.model.specs.Room.{nothing}
use Rattle.model.specs.Stats.{stat_of}
use Rattle.model.specs.Trees.{Tree, Object, Description, is_directory}
use Rattle.model.specs.Trees as trees
use Rattle.model.specs.Volumes.{Node, directory_node, file_node, link_node, Volume, IsVolume, entries, number_at, object_at, object_of, is_directory_node, tree_of}
use Rattle.model.specs.declared.entries.Entry.{Entry}
use Rattle.model.specs.declared.errno.Errno.{Errno}
use Rattle.model.specs.declared.errno.Errno.TheVariants.{EINVAL, ENOTDIR}
use Rattle.model.specs.declared.limits.TheConstants.{ENTRIES_TOLD}
use Rattle.model.specs.declared.reply.Reply.TheVariants as replies
use Rattle.model.specs.declared.reply.Stat.{Stat}
use Rattle.model.proofs.LooseLemmas.{some_same}
use Rattle.model.proofs.ObjectLaws.{node_object}
use Rattle.model.proofs.OptionLaws.{none_some}
use Rattle.dirs.specs.Listings.{IsNumberedListing, listed_names}
use Rattle.dirs.specs.declared.directory.NumberedName.{NumberedName}
use Rattle.calls.specs.Entries.{IsEntryOf, entries_reply, part_tests}
use Rattle.calls.specs.Leading.{IsLed}
use Rattle.calls.specs.Parts.{IsMarked, IsToldPart, told_names}
use Rattle.calls.specs.Stat.{stat_in}
use Rattle.calls.specs.declared.reading.part.ToldName.{ToldName}
use Rattle.calls.proofs.DirectoryLaws.{child, child_some}
use Rattle.calls.proofs.GetLaws.{text_before}
use Rattle.calls.proofs.LeadLaws.{led_refused, led_there}
use Rattle.calls.proofs.StatLaws.{told}
use Rattle.calls.proofs.TestedLaws.{tested_some}

-- what is told of a part of the names in the directory with this number
pub record IsPartOf (v : Volume) (n after count : ℕ) (es : List Entry) : Type 0 where
  pub listed : List NumberedName
  pub listing : IsNumberedListing (entries v n) listed
  pub names : List ToldName
  pub part : IsToldPart listed after count names
  pub each : AllZip (IsEntryOf v) names es

-- the same, or that it is no directory
abbrev pub PartsNumber : Volume → ℕ → ℕ → ℕ → Result (List Entry) Errno → Type 0
PartsNumber v n after count (Ok es) = IsTrue (is_directory_node (v n)) × IsPartOf v n after count es
PartsNumber v n after count (Err errno) = IsFalse (is_directory_node (v n)) × (errno ≡ ENOTDIR)

-- ---- a refusal of what is asked

pub part_refused : (after : ℤ) (count : ℕ) → (is_negative after || count == 0 || nat_lt ENTRIES_TOLD count) ≡ true → first_refusal (part_tests after count) ≡ Some EINVAL
part_refused after count is = cond-true (is_negative after || count == 0 || nat_lt ENTRIES_TOLD count) (Some EINVAL) None is

pub part_passed : (limits : Limits) (text : List ℕ) (after : ℤ) (count : ℕ) → first_refusal (text_tests limits text) ≡ None → (is_negative after || count == 0 || nat_lt ENTRIES_TOLD count) ≡ false
    → first_refusal (text_tests_then limits (part_tests after count) text) ≡ None
part_passed limits text after count none within =
    text_before limits text (part_tests after count) none ∙ cond-false (is_negative after || count == 0 || nat_lt ENTRIES_TOLD count) (Some EINVAL) None within

pub some_asked : (after : ℤ) (count : ℕ) → (is_negative after || count == 0 || nat_lt ENTRIES_TOLD count) ≡ false → 1 ≤ count
some_asked after count within =
    elim (cases_Bool (count == 0)) [
      | inl none ↦ absurd (asked (is_negative after) (count == 0) (nat_lt ENTRIES_TOLD count) none within)
      | inr some ↦ let apart = eqb-false count 0 some in omega (arith, apart)
    ]
  where
    asked : (x y z : Bool) → y ≡ true → (x || y || z) ≡ false → ⊥
    asked true y z is out = false≢true (sym out)
    asked false true z is out = false≢true (sym out)
    asked false false z is out = false≢true is

pub entries_refused : (limits : Limits) (v : Volume) (table : ℕ → Option Description) (text : List ℕ) (after : ℤ) (count : ℕ) (errno : Errno) → first_refusal (text_tests_then limits (part_tests after count) text) ≡ Some errno
    → tells_entries limits (tree_of v table) text after count (replies.Refused errno) (tree_of v table) nothing
entries_refused limits v table text after count errno is = tested_some (tree_of v table) (text_tests_then limits (part_tests after count) text) _ errno is

-- ---- what is told of an object

links_told : (t : Tree) (x : Object) (count : ℕ) → (stat_of t x count).links ≡ count
links_told t (trees.directory n) count = refl
links_told t (trees.symlink n text) count = refl
links_told t (trees.file n) count = refl

same_stat : (a b : Stat) → replies.Stat a ≡ replies.Stat b → a ≡ b
same_stat a b is = cc

some_object : (o : Option Object) → IsSome o → (x : Object) × (o ≡ Some x)
some_object None some = absurd (false≢true some)
some_object (Some x) some = (x, refl)

-- each name that is listed has an object
pub objects_there : (limits : Limits) (v : Volume) → IsVolume limits v → (n : ℕ) (listed : List NumberedName) → IsNumberedListing (entries v n) listed → (names : List ToldName) → All (IsMarked listed) names
    → All (λ name. IsSome (v name.numbered.number)) names
objects_there limits v volume n listed listing names marked k d low =
    let m = marked k d low in
    let is = All-contains (λ (x : NumberedName). entries v n x.name.items ≡ Some x.number) listed _ listing.numbers m.named in
    volume.graph.naming.used n _ _ is

module _ (limits : Limits) (v : Volume) (table : ℕ → Option Description) (volume : IsVolume limits v) (tell_links : VolumesTellLinks) where
  abbrev t : Tree
  t = tree_of v table

  module _ (p : Path) (d : ℕ) (at : number_at (entries v) p ≡ Some d) (listed : List NumberedName) (listing : IsNumberedListing (entries v d) listed) where
    entry_told : (name : ToldName) (e : Entry) → IsMarked listed name → IsEntryOf v name e → TellsEntry t p name.numbered.name.items e
    entry_told name e marked is =
        let k = name.numbered.number in
        let x = name.numbered.name.items in
        let number = All-contains (λ (y : NumberedName). entries v d y.name.items ≡ Some y.number) listed name.numbered listing.numbers marked.named in
        let object = some_object (object_of k (v k)) (node_object k (v k) (ap_some (sym is.told.1))) in
        let tells = told v table limits volume tell_links k is.told.0 object.0 is.told.1 object.1 in
        let same : e.stat ≡ stat_of t object.0 tells.0 = is.told.2 ∙ same_stat (stat_in k is.told.0) (stat_of t object.0 tells.0) tells.2.0 in
        let links : e.stat.links ≡ tells.0 = ap (λ (s : Stat). s.links) same ∙ links_told t object.0 tells.0 in
        record {
          name = is.named;
          cookie = is.marked ∙ marked.cookie;
          object = object.0;
          there = child limits v table volume p d at x ∙ ap (object_at v) number ∙ object.1;
          links = subst (HasLinks t object.0) (sym links) tells.1;
          stat = same ∙ ap (stat_of t object.0) (sym links);
        }
      where
        ap_some : {o : Option Node} {x : Node} → Some x ≡ o → IsSome o
        ap_some is = subst IsSome is refl

    entries_told : (names : List ToldName) (es : List Entry) → All (IsMarked listed) names → AllZip (IsEntryOf v) names es → TellsEntries t p (told_names names) es
    entries_told [] [] marked each = tt
    entries_told [] (e ∷ es) marked each = absurd each
    entries_told (name ∷ names) [] marked each = absurd each
    entries_told (name ∷ names) (e ∷ es) marked each =
        (entry_told name e (All-head (IsMarked listed) name names marked) each.0, entries_told names es (All-tail (IsMarked listed) name names marked) each.1)

    is_listing : IsListing t p (listed_names listed)
    is_listing = record {
      sorted = listing.listing.sorted;
      whole = λ x. (
        λ in_list. (child_some limits v table volume p d at x).1 ((listing.listing.whole x).0 in_list),
        λ stands. (listing.listing.whole x).1 ((child_some limits v table volume p d at x).0 stands),
      );
    }

  module _ (after : ℤ) (count n : ℕ) where
    abbrev there : Path → Object → Outcome
    there p o = elim o as (λ _. Outcome) [
      | trees.directory n ↦ with_names t p (λ names. with_part t p names (nat_abs after) count (λ entries. answers t (replies.Entries entries)))
      | trees.symlink n link ↦ refuses t ENOTDIR
      | trees.file n ↦ refuses t ENOTDIR
    ]

    in_directory : (p : Path) → number_at (entries v) p ≡ Some n → (r : Result (List Entry) Errno) → IsTrue (is_directory_node (v n)) → PartsNumber v n (nat_abs after) count r
        → with_names t p (λ names. with_part t p names (nat_abs after) count (λ entries. answers t (replies.Entries entries))) (entries_reply r) t nothing
    in_directory p at (Ok es) directory found =
        let part = found.1 in (
          listed_names part.listed,
          is_listing p n at part.listed part.listing,
          (told_names part.names, es, part.part.part, entries_told p n at part.listed part.listing part.names es part.part.marked part.each, (refl, refl, refl)),
        )
    in_directory p at (Err errno) directory found = absurd (false≢true (sym found.0 ∙ directory))

    in_other : (r : Result (List Entry) Errno) → IsFalse (is_directory_node (v n)) → PartsNumber v n (nat_abs after) count r → refuses t ENOTDIR (entries_reply r) t nothing
    in_other (Ok es) other found = absurd (false≢true (sym other ∙ found.0))
    in_other (Err errno) other found = (ap replies.Refused found.1, refl, refl)

    comes : (p : Path) (o : Object) → (IsTrue (is_directory (Some o)) → number_at (entries v) p ≡ Some n) → (r : Result (List Entry) Errno) → PartsNumber v n (nat_abs after) count r → (node : Option Node)
        → v n ≡ node → object_of n node ≡ Some o → there p o (entries_reply r) t nothing
    comes p o at r found None is made = none_some made
    comes p o at r found (Some (directory_node attributes names)) is made =
        subst (λ (x : Object). there p x (entries_reply r) t nothing) (some_same made) (in_directory p (at (ap (λ (y : Object). is_directory (Some y)) (sym (some_same made)))) r (ap is_directory_node is) found)
    comes p o at r found (Some (file_node attributes links bytes)) is made =
        subst (λ (x : Object). there p x (entries_reply r) t nothing) (some_same made) (in_other r (ap is_directory_node is) found)
    comes p o at r found (Some (link_node attributes link)) is made =
        subst (λ (x : Object). there p x (entries_reply r) t nothing) (some_same made) (in_other r (ap is_directory_node is) found)

    pub entries_answered : (text : List ℕ) (r : Result (List Entry) Errno) → IsLed (text_tests_then limits (part_tests after count) text) t v true text (Ok n) → PartsNumber v n (nat_abs after) count r
        → tells_entries limits t text after count (entries_reply r) t nothing
    entries_answered text r led found =
        led_there v table true text there n (entries_reply r) t nothing (λ p o stands. comes p o stands.at r found (v n) refl stands.here) (text_tests_then limits (part_tests after count) text) led

    pub entries_nowhere : (text : List ℕ) (errno : Errno) → IsLed (text_tests_then limits (part_tests after count) text) t v true text (Err errno)
        → tells_entries limits t text after count (replies.Refused errno) t nothing
    entries_nowhere text errno led = led_refused v table true text there (text_tests_then limits (part_tests after count) text) errno led
