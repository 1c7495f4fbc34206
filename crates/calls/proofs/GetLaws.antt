-- What the definitions say of reading a file over a path, by what was found in a volume.
use Rattle.std.proofs.Common.{◌≡◌, ◌≢◌, ℕ, ℤ, nat_abs, ◌||◌, List, [], true, false, Option, Some, None, Result, Ok, Err, unwrap_or, refl, sym, ap, subst, ◌∙◌}
use Rattle.std.specs.Prelude.{IsFalse, IsTrue}
use Rattle.std.proofs.lemmas.Bool.{cond-true, cond-false, false≢true}
use Rattle.model.specs.declared.limits.Limits.{Limits}
use Rattle.model.specs.Edits.{read_at}
use Rattle.model.specs.Outcomes.{Outcome, answers, refuses}
use Rattle.model.specs.Paths.{Path, Tests, first_refusal, text_tests, text_tests_then}
use Rattle.model.specs.Reading.{gets, is_negative, is_too_many}
use Rattle.model.specs.Room.{nothing}
use Rattle.model.specs.Trees.{Tree, Object, Description}
use Rattle.model.specs.Trees as trees
use Rattle.model.specs.Volumes.{Node, directory_node, file_node, link_node, Volume, bytes_of_node, object_of, is_file_node, tree_of}
use Rattle.model.specs.declared.errno.Errno.{Errno}
use Rattle.model.specs.declared.errno.Errno.TheVariants.{EISDIR, EINVAL}
use Rattle.model.specs.declared.reply.Reply.TheVariants.{Data, Refused}
use Rattle.calls.specs.Get.{data_reply, range_tests}
use Rattle.model.proofs.LooseLemmas.{some_same}
use Rattle.paths.specs.Steps.{found_in}
use Rattle.paths.specs.declared.lookup.Found.TheVariants as found
use Rattle.calls.specs.Leading.{IsLed}
use Rattle.calls.proofs.LeadLaws.{led_refused, led_there}
use Rattle.calls.proofs.TestedLaws.{tested_some}
use Rattle.model.proofs.OptionLaws.{none_some}
use Rattle.model.proofs.TestLaws.{first_append, first_in_front}

-- bytes of the file with this number, or that it is none
abbrev pub GetsNumber : Volume → ℕ → ℕ → ℕ → Result (List ℕ) Errno → Type 0
GetsNumber v n offset count (Ok bytes) =
    IsTrue (is_file_node (v n)) × (bytes ≡ read_at offset count (unwrap_or (bytes_of_node (v n)) []))
GetsNumber v n offset count (Err errno) = IsFalse (is_file_node (v n)) × (errno ≡ EISDIR)

-- ---- a refusal of what is asked

pub text_first : (limits : Limits) (text : List ℕ) (more : Tests) (e : Errno) → first_refusal (text_tests limits text) ≡ Some e → first_refusal (text_tests_then limits more text) ≡ Some e
text_first limits text more e is = first_in_front (text_tests limits text) more e is

pub text_before : (limits : Limits) (text : List ℕ) (more : Tests) → first_refusal (text_tests limits text) ≡ None → first_refusal (text_tests_then limits more text) ≡ first_refusal more
text_before limits text more is = first_append (text_tests limits text) more is

pub range_refused : (offset : ℤ) (count : ℕ) → (is_negative offset || is_too_many count) ≡ true → first_refusal (range_tests offset count) ≡ Some EINVAL
range_refused offset count is = cond-true (is_negative offset || is_too_many count) (Some EINVAL) None is

pub range_passed : (offset : ℤ) (count : ℕ) → (is_negative offset || is_too_many count) ≡ false → first_refusal (range_tests offset count) ≡ None
range_passed offset count is = cond-false (is_negative offset || is_too_many count) (Some EINVAL) None is

pub get_passed : (limits : Limits) (text : List ℕ) (offset : ℤ) (count : ℕ) → first_refusal (text_tests limits text) ≡ None → (is_negative offset || is_too_many count) ≡ false
    → first_refusal (text_tests_then limits (range_tests offset count) text) ≡ None
get_passed limits text offset count none within = text_before limits text (range_tests offset count) none ∙ range_passed offset count within

pub get_refused : (limits : Limits) (v : Volume) (table : ℕ → Option Description) (text : List ℕ) (offset : ℤ) (count : ℕ) (errno : Errno) → first_refusal (text_tests_then limits (range_tests offset count) text) ≡ Some errno
    → gets limits (tree_of v table) text offset count (Refused errno) (tree_of v table) nothing
get_refused limits v table text offset count errno is = tested_some (tree_of v table) (text_tests_then limits (range_tests offset count) text) _ errno is

-- ---- where a path leads

module _ (limits : Limits) (v : Volume) (table : ℕ → Option Description) (text : List ℕ) (offset : ℤ) (count : ℕ) where
  abbrev t : Tree
  t = tree_of v table

  abbrev tests : Tests
  tests = text_tests_then limits (range_tests offset count) text

  abbrev there : Path → Object → Outcome
  there p o = elim o as (λ _. Outcome) [
    | trees.file n ↦ answers t (Data (read_at (nat_abs offset) count (unwrap_or (t.bytes n) [])))
    | trees.directory n ↦ refuses t EISDIR
    | trees.symlink n link ↦ λ _ _ _. ⊥
  ]

  at_object : (n : ℕ) (o : Option Node) → v n ≡ o → found_in o ≢ found.Link → (p : Path) (x : Object) → object_of n o ≡ Some x → (r : Result (List ℕ) Errno) → GetsNumber v n (nat_abs offset) count r
      → there p x (data_reply r) t nothing
  at_object n None is plain p x object r got = none_some object
  at_object n (Some (directory_node attributes names)) is plain p x object (Ok bytes) got = absurd (false≢true (sym (ap is_file_node is) ∙ got.0))
  at_object n (Some (directory_node attributes names)) is plain p x object (Err errno) got =
      subst (λ (y : Object). there p y (Refused errno) t nothing) (some_same object) (ap Refused got.1, refl, refl)
  at_object n (Some (file_node attributes links bytes)) is plain p x object (Ok list) got =
      subst (λ (y : Object). there p y (Data list) t nothing) (some_same object) (ap Data got.1, refl, refl)
  at_object n (Some (file_node attributes links bytes)) is plain p x object (Err errno) got = absurd (false≢true (sym got.0 ∙ ap is_file_node is))
  at_object n (Some (link_node attributes link)) is plain p x object r got = absurd (plain refl)

  pub get_led : (n : ℕ) (r : Result (List ℕ) Errno) → IsLed tests t v true text (Ok n) → found_in (v n) ≢ found.Link → GetsNumber v n (nat_abs offset) count r
      → gets limits t text offset count (data_reply r) t nothing
  get_led n r led plain got =
      led_there v table true text there n (data_reply r) t nothing (λ p x stands. at_object n (v n) refl plain p x stands.here r got) tests led

  pub get_led_nowhere : (errno : Errno) → IsLed tests t v true text (Err errno) → gets limits t text offset count (Refused errno) t nothing
  get_led_nowhere errno led = led_refused v table true text there tests errno led
