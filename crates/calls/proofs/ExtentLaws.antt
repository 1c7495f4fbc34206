-- What the definitions say of telling the stored blocks of a file over a path, by what was found in
-- a volume.
use Rattle.std.proofs.Common.{◌≡◌, ◌≢◌, ℕ, ℤ, Bool, nat_abs, List, true, false, Option, Some, None, Result, Ok, Err, refl, sym, ap, subst, ◌∙◌}
use Rattle.std.specs.Prelude.{IsFalse}
use Rattle.std.proofs.lemmas.Bool.{cond-true, cond-false, false≢true}
use Rattle.model.specs.declared.limits.Limits.{Limits}
use Rattle.model.specs.Outcomes.{Outcome, refuses}
use Rattle.model.specs.Paths.{Path, Tests, first_refusal, text_tests, text_tests_then}
use Rattle.model.specs.Reading.{is_negative, tells_extent, with_extent}
use Rattle.model.specs.Room.{nothing}
use Rattle.model.specs.Trees.{Tree, Object, Description}
use Rattle.model.specs.Trees as trees
use Rattle.model.specs.Volumes.{Node, directory_node, file_node, link_node, Volume, object_of, is_file_node, tree_of}
use Rattle.model.specs.declared.errno.Errno.{Errno}
use Rattle.model.specs.declared.errno.Errno.TheVariants.{EISDIR, EINVAL}
use Rattle.model.specs.declared.reply.Extent.{Extent}
use Rattle.model.specs.declared.reply.Reply.TheVariants.{Refused}
use Rattle.calls.specs.Extent.{extent_reply, offset_tests}
use Rattle.model.proofs.LooseLemmas.{some_same}
use Rattle.paths.specs.Steps.{found_in}
use Rattle.paths.specs.declared.lookup.Found.TheVariants as found
use Rattle.records.specs.Reading.{TellsNumber}
use Rattle.calls.specs.Leading.{IsLed}
use Rattle.calls.proofs.GetLaws.{text_before}
use Rattle.calls.proofs.LeadLaws.{led_refused, led_there}
use Rattle.calls.proofs.TestedLaws.{tested_some}
use Rattle.model.proofs.OptionLaws.{none_some}

-- what of the file with this number is stored, or that it is none
abbrev pub TellsOrRefuses : Volume → (ℕ → Bool) → ℕ → ℕ → Result Extent Errno → Type 0
TellsOrRefuses v stored n offset (Ok extent) = TellsNumber v stored n offset (Some extent)
TellsOrRefuses v stored n offset (Err errno) = IsFalse (is_file_node (v n)) × (errno ≡ EISDIR)

-- ---- a refusal of what is asked

pub offset_refused : (offset : ℤ) → is_negative offset ≡ true → first_refusal (offset_tests offset) ≡ Some EINVAL
offset_refused offset is = cond-true (is_negative offset) (Some EINVAL) None is

pub extent_passed : (limits : Limits) (text : List ℕ) (offset : ℤ) → first_refusal (text_tests limits text) ≡ None → is_negative offset ≡ false → first_refusal (text_tests_then limits (offset_tests offset) text) ≡ None
extent_passed limits text offset none within = text_before limits text (offset_tests offset) none ∙ cond-false (is_negative offset) (Some EINVAL) None within

module _ (limits : Limits) (stored : ℕ → ℕ → Bool) (v : Volume) (table : ℕ → Option Description) (text : List ℕ) (offset : ℤ) where
  abbrev t : Tree
  t = tree_of v table

  abbrev tests : Tests
  tests = text_tests_then limits (offset_tests offset) text

  pub extent_refused : (errno : Errno) → first_refusal tests ≡ Some errno → tells_extent limits t stored text offset (Refused errno) t nothing
  extent_refused errno is = tested_some t tests _ errno is

  -- ---- where a path leads

  abbrev there : Path → Object → Outcome
  there p o = elim o as (λ _. Outcome) [
    | trees.file n ↦ with_extent t (stored n) n (nat_abs offset)
    | trees.directory n ↦ refuses t EISDIR
    | trees.symlink n link ↦ λ _ _ _. ⊥
  ]

  at_object : (n : ℕ) (o : Option Node) → v n ≡ o → found_in o ≢ found.Link → (p : Path) (x : Object) → object_of n o ≡ Some x → (r : Result Extent Errno)
      → TellsOrRefuses v (stored n) n (nat_abs offset) r → there p x (extent_reply r) t nothing
  at_object n None is plain p x object r told = none_some object
  at_object n (Some (directory_node attributes names)) is plain p x object (Ok extent) told = absurd (false≢true (sym (ap is_file_node is) ∙ told.0))
  at_object n (Some (directory_node attributes names)) is plain p x object (Err errno) told =
      subst (λ (y : Object). there p y (Refused errno) t nothing) (some_same object) (ap Refused told.1, refl, refl)
  at_object n (Some (file_node attributes links bytes)) is plain p x object (Ok extent) told =
      subst (λ (y : Object). there p y (extent_reply (Ok extent)) t nothing) (some_same object) (extent, told.1, (refl, refl, refl))
  at_object n (Some (file_node attributes links bytes)) is plain p x object (Err errno) told = absurd (false≢true (sym told.0 ∙ ap is_file_node is))
  at_object n (Some (link_node attributes link)) is plain p x object r told = absurd (plain refl)

  pub extent_led : (n : ℕ) (r : Result Extent Errno) → IsLed tests t v true text (Ok n) → found_in (v n) ≢ found.Link → TellsOrRefuses v (stored n) n (nat_abs offset) r
      → tells_extent limits t stored text offset (extent_reply r) t nothing
  extent_led n r led plain told =
      led_there v table true text there n (extent_reply r) t nothing (λ p x stands. at_object n (v n) refl plain p x stands.here r told) tests led

  pub extent_led_nowhere : (errno : Errno) → IsLed tests t v true text (Err errno) → tells_extent limits t stored text offset (Refused errno) t nothing
  extent_led_nowhere errno led = led_refused v table true text there tests errno led
