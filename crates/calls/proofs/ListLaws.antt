-- What the definitions say of listing a directory over a path, by what was found in a volume.
use Rattle.std.proofs.Common.{◌≡◌, ℕ, List, true, Option, Some, None, Result, Ok, Err, refl, sym, ap, subst, ◌∙◌}
use Rattle.std.specs.Prelude.{IsFalse, IsTrue}
use Rattle.std.proofs.lemmas.Bool.{false≢true}
use Rattle.model.specs.declared.limits.Limits.{Limits}
use Rattle.model.specs.Outcomes.{Outcome, answers, refuses, with_names}
use Rattle.model.specs.Paths.{Name, Path, text_tests}
use Rattle.model.specs.Reading.{lists}
use Rattle.model.specs.Room.{nothing}
use Rattle.model.specs.Trees.{Tree, Object, Description, is_directory}
use Rattle.model.specs.Trees as trees
use Rattle.model.specs.Volumes.{Node, directory_node, file_node, link_node, Volume, entries, number_at, object_of, is_directory_node, tree_of, IsVolume}
use Rattle.model.specs.declared.errno.Errno.{Errno}
use Rattle.model.specs.declared.errno.Errno.TheVariants.{ENOTDIR}
use Rattle.model.specs.declared.reply.Reply.TheVariants.{Names, Refused}
use Rattle.model.proofs.LooseLemmas.{some_same}
use Rattle.dirs.specs.Listings.{IsListingOfNames}
use Rattle.calls.specs.Leading.{IsLed}
use Rattle.calls.specs.List.{names_reply}
use Rattle.calls.proofs.LeadLaws.{led_refused, led_there}
use Rattle.calls.proofs.DirectoryLaws.{child_some}
use Rattle.model.proofs.OptionLaws.{none_some}

-- the names of the directory with this number, or that it is none
abbrev pub ListsNumber : Volume → ℕ → Result (List Name) Errno → Type 0
ListsNumber v n (Ok names) = IsTrue (is_directory_node (v n)) × IsListingOfNames (entries v n) names
ListsNumber v n (Err errno) = IsFalse (is_directory_node (v n)) × (errno ≡ ENOTDIR)

module _ (limits : Limits) (v : Volume) (table : ℕ → Option Description) (volume : IsVolume limits v) where
  abbrev t : Tree
  t = tree_of v table

  abbrev there : Path → Object → Outcome
  there p o = elim o as (λ _. Outcome) [
    | trees.directory n ↦ with_names t p (λ names. answers t (Names names))
    | trees.symlink n link ↦ refuses t ENOTDIR
    | trees.file n ↦ refuses t ENOTDIR
  ]

  module _ (n : ℕ) where
    in_directory : (p : Path) → number_at (entries v) p ≡ Some n → (r : Result (List Name) Errno) → IsTrue (is_directory_node (v n)) → ListsNumber v n r
        → with_names t p (λ names. answers t (Names names)) (names_reply r) t nothing
    in_directory p at (Ok list) directory told = (
      list,
      record {
        sorted = told.1.sorted;
        whole = λ x. (
          λ in_list. (child_some limits v table volume p n at x).1 ((told.1.whole x).0 in_list),
          λ stands. (told.1.whole x).1 ((child_some limits v table volume p n at x).0 stands),
        );
      },
      (refl, refl, refl),
    )
    in_directory p at (Err errno) directory told = absurd (false≢true (sym told.0 ∙ directory))

    in_other : (r : Result (List Name) Errno) → IsFalse (is_directory_node (v n)) → ListsNumber v n r → refuses t ENOTDIR (names_reply r) t nothing
    in_other (Ok list) other told = absurd (false≢true (sym other ∙ told.0))
    in_other (Err errno) other told = (ap Refused told.1, refl, refl)

    comes : (p : Path) (o : Object) → (IsTrue (is_directory (Some o)) → number_at (entries v) p ≡ Some n) → (r : Result (List Name) Errno) → ListsNumber v n r → (node : Option Node)
        → v n ≡ node → object_of n node ≡ Some o → there p o (names_reply r) t nothing
    comes p o at r told None is made = none_some made
    comes p o at r told (Some (directory_node attributes names)) is made =
        subst (λ (x : Object). there p x (names_reply r) t nothing) (some_same made) (in_directory p (at (ap (λ (y : Object). is_directory (Some y)) (sym (some_same made)))) r (ap is_directory_node is) told)
    comes p o at r told (Some (file_node attributes links bytes)) is made =
        subst (λ (x : Object). there p x (names_reply r) t nothing) (some_same made) (in_other r (ap is_directory_node is) told)
    comes p o at r told (Some (link_node attributes link)) is made =
        subst (λ (x : Object). there p x (names_reply r) t nothing) (some_same made) (in_other r (ap is_directory_node is) told)

    pub list_answers : (text : List ℕ) (r : Result (List Name) Errno) → IsLed (text_tests limits text) t v true text (Ok n) → ListsNumber v n r
        → lists limits t text (names_reply r) t nothing
    list_answers text r led told =
        led_there v table true text there n (names_reply r) t nothing (λ p o stands. comes p o stands.at r told (v n) refl stands.here) (text_tests limits text) led

  pub list_refused : (text : List ℕ) (errno : Errno) → IsLed (text_tests limits text) t v true text (Err errno)
      → lists limits t text (Refused errno) t nothing
  list_refused text errno led = led_refused v table true text there (text_tests limits text) errno led
