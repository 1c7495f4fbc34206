-- What the definitions say of writing bytes into a file over a path, by what was found in a volume.
use Rattle.std.proofs.Common.{◌≡◌, ◌≢◌, ℕ, ℤ, nat_abs, List, length, true, false, Option, Some, None, Result, Ok, Err, refl, sym, ap, subst, ◌∙◌}
use Rattle.std.proofs.lemmas.Bool.{false≢true}
use Rattle.model.specs.declared.limits.Limits.{Limits}
use Rattle.model.specs.Descriptors.{puts, stores}
use Rattle.model.specs.Outcomes.{Outcome, refuses}
use Rattle.model.specs.Paths.{Path, Tests, first_refusal, text_tests_then}
use Rattle.model.specs.Records.{Change, applied, stamped, work_of, write}
use Rattle.model.specs.Room.{Need, logs, nothing}
use Rattle.model.specs.Trees.{Tree, Object, Description}
use Rattle.model.specs.Trees as trees
use Rattle.model.specs.Volumes.{Node, directory_node, file_node, link_node, Volume, is_file_node, object_of, tree_of}
use Rattle.model.specs.declared.errno.Errno.{Errno}
use Rattle.model.specs.declared.errno.Errno.TheVariants.{EISDIR}
use Rattle.model.specs.declared.reply.Reply.{Reply}
use Rattle.model.specs.declared.reply.Reply.TheVariants.{Refused, Wrote}
use Rattle.model.specs.declared.time.Time.{Time}
use Rattle.model.proofs.LooseLemmas.{some_same}
use Rattle.model.proofs.OptionLaws.{none_some}
use Rattle.paths.specs.Steps.{found_in}
use Rattle.paths.specs.declared.lookup.Found.TheVariants as found
use Rattle.records.specs.Rewriting.{GoesOver}
use Rattle.calls.specs.Get.{range_tests}
use Rattle.calls.specs.Leading.{IsLed}
use Rattle.calls.specs.Store.{PutsInto, StoresFile}
use Rattle.calls.specs.declared.preparing.store.Storing.{Storing}
use Rattle.calls.proofs.LeadLaws.{led_refused, led_there}
use Rattle.calls.proofs.TestedLaws.{tested_some}

module _ (limits : Limits) (now : Option Time) (v : Volume) (table : ℕ → Option Description) (text : List ℕ) (offset : ℤ) (bytes : List ℕ) where
  abbrev t : Tree
  t = tree_of v table

  abbrev tests : Tests
  tests = text_tests_then limits (range_tests offset (length bytes)) text

  abbrev there : Path → Object → Outcome
  there p o = elim o as (λ _. Outcome) [
    | trees.file n ↦ puts limits now t n (nat_abs offset) bytes (λ after. after)
    | trees.directory n ↦ refuses t EISDIR
    | trees.symlink n link ↦ λ _ _ _. ⊥
  ]

  pub store_refused : (errno : Errno) → first_refusal tests ≡ Some errno → stores limits now t text offset bytes (Refused errno) t nothing
  store_refused errno is = tested_some t tests _ errno is

  pub store_nowhere : (errno : Errno) → IsLed tests t v true text (Err errno) → stores limits now t text offset bytes (Refused errno) t nothing
  store_nowhere errno led = led_refused v table true text there tests errno led

  -- what bytes that go to a file come to is what the call comes to
  at_file : (n : ℕ) (o : Option Node) → is_file_node o ≡ true → (p : Path) (x : Object) → object_of n o ≡ Some x
      → (reply : Reply) (new : Tree) (need : Need) → puts limits now t n (nat_abs offset) bytes (λ after. after) reply new need → there p x reply new need
  at_file n None is p x object reply new need put = none_some object
  at_file n (Some (directory_node attributes names)) is p x object reply new need put = absurd (false≢true is)
  at_file n (Some (file_node attributes links old)) is p x object reply new need put = subst (λ (y : Object). there p y reply new need) (some_same object) put
  at_file n (Some (link_node attributes link)) is p x object reply new need put = absurd (false≢true is)

  at_directory : (n : ℕ) (o : Option Node) → is_file_node o ≡ false → found_in o ≢ found.Link → (p : Path) (x : Object) → object_of n o ≡ Some x → there p x (Refused EISDIR) t nothing
  at_directory n None is plain p x object = none_some object
  at_directory n (Some (directory_node attributes names)) is plain p x object = subst (λ (y : Object). there p y (Refused EISDIR) t nothing) (some_same object) (refl, refl, refl)
  at_directory n (Some (file_node attributes links old)) is plain p x object = absurd (false≢true (sym is))
  at_directory n (Some (link_node attributes link)) is plain p x object = absurd (plain refl)

  module _ (n : ℕ) (led : IsLed tests t v true text (Ok n)) where
    pub store_directory : found_in (v n) ≢ found.Link → is_file_node (v n) ≡ false → stores limits now t text offset bytes (Refused EISDIR) t nothing
    store_directory plain is = led_there v table true text there n (Refused EISDIR) t nothing (λ p x stands. at_directory n (v n) is plain p x stands.here) tests led

    module _ (is : is_file_node (v n) ≡ true) where
      put_there : (reply : Reply) (new : Tree) (need : Need) → puts limits now t n (nat_abs offset) bytes (λ after. after) reply new need → stores limits now t text offset bytes reply new need
      put_there reply new need put = led_there v table true text there n reply new need (λ p x stands. at_file n (v n) is p x stands.here reply new need put) tests led

      abbrev change : Change
      change = stamped now (write n (nat_abs offset) bytes)

      pub store_comes : (r : Result (Option Storing) Errno) → PutsInto limits now v table n (nat_abs offset) bytes r → StoresFile (stores limits now t text offset bytes) limits now v table bytes r
      store_comes (Err errno) put = put_there (Refused errno) t nothing (put (λ after. after))
      store_comes (Ok None) put = put_there (Wrote 0) t nothing (put (λ after. after))
      store_comes (Ok (Some w)) (number, place, (over, put)) =
          subst (λ (x : Change). GoesOver limits v table x × stores limits now t text offset bytes (Wrote (length bytes)) (tree_of (applied x v) table) (logs (work_of v x)))
          (sym (ap (λ (k : ℕ). stamped now (write k w.offset bytes)) number ∙ ap (λ (k : ℕ). stamped now (write n k bytes)) place))
          (over, put_there (Wrote (length bytes)) (tree_of (applied change v) table) (logs (work_of v change)) (put (λ after. after)))
