-- What the definitions say of giving a mode and a size, by what was found in a volume.
use Rattle.std.proofs.Common.{◌≡◌, ◌≢◌, ◌||◌, ℕ, List, Bool, true, Option, Some, None, IsSome, Result, Ok, Err, IsTrue, refl, sym, ap, subst}
use Rattle.std.specs.Result.{IsOkAnd}
use Rattle.std.proofs.Math.Path.{fun_ext}
use Rattle.std.proofs.lemmas.Bool.{false≢true}
use Rattle.model.specs.declared.limits.Limits.{Limits}
use Rattle.model.specs.Changing.{given_size_tests, is_idle_size, sets, sets_both, sets_mode, sets_object, truncates_file}
use Rattle.model.specs.Outcomes.{Outcome}
use Rattle.model.specs.Paths.{Path, Tests, first_refusal, text_tests_then}
use Rattle.model.specs.Records.{Change, applied, set_file, stamped, truncate, work_of}
use Rattle.model.specs.Room.{logs, nothing}
use Rattle.model.specs.Trees.{Tree, Object, Description}
use Rattle.model.specs.Trees as trees
use Rattle.model.specs.Volumes.{IsMounted, Node, directory_node, file_node, link_node, Volume, is_directory_node, is_file_node, object_of, swept, tree_of}
use Rattle.model.specs.declared.command.Settings.{Settings}
use Rattle.model.specs.declared.errno.Errno.{Errno}
use Rattle.model.specs.declared.reply.Reply.TheVariants.{Done, Refused}
use Rattle.model.specs.declared.time.Time.{Time}
use Rattle.model.proofs.LooseLemmas.{some_same}
use Rattle.paths.specs.Steps.{found_in}
use Rattle.paths.specs.declared.lookup.Found.TheVariants as found
use Rattle.records.specs.Rewriting.{GoesOver, SetsBoth}
use Rattle.calls.specs.Leading.{IsLed}
use Rattle.calls.specs.Changing.{ComesOrStays, ComesSweptBy, change_by}
use Rattle.calls.specs.Truncate.{TruncatesFile}
use Rattle.calls.specs.declared.changed.Changing.{Changing}
use Rattle.calls.proofs.LeadLaws.{led_refused, led_some, led_there}
use Rattle.calls.proofs.TestedLaws.{tested_some}
use Rattle.model.proofs.OptionLaws.{none_some}

-- ---- where a path leads

pub set_refused : (limits : Limits) (now : Option Time) (v : Volume) (table : ℕ → Option Description) (text : List ℕ) (settings : Settings) (errno : Errno) → first_refusal (text_tests_then limits (given_size_tests limits settings.size) text) ≡ Some errno
    → sets limits now (tree_of v table) text settings (Refused errno) (tree_of v table) nothing
set_refused limits now v table text settings errno is = tested_some (tree_of v table) (text_tests_then limits (given_size_tests limits settings.size) text) _ errno is

-- what is there is an object
object_there : (n : ℕ) (o : Option Node) → IsSome o → (x : Object) × (object_of n o ≡ Some x)
object_there n None some = absurd (false≢true some)
object_there n (Some (directory_node attributes names)) some = (trees.directory n, refl)
object_there n (Some (file_node attributes links bytes)) some = (trees.file n, refl)
object_there n (Some (link_node attributes text)) some = (trees.symlink n text, refl)

module _ (limits : Limits) (now : Option Time) (v : Volume) (table : ℕ → Option Description) (text : List ℕ) (settings : Settings) where
  abbrev t : Tree
  t = tree_of v table

  abbrev tests : Tests
  tests = text_tests_then limits (given_size_tests limits settings.size) text

  abbrev there : Path → Object → Outcome
  there p o = sets_object now t settings o

  pub set_nowhere : (errno : Errno) → IsLed tests t v true text (Err errno) → sets limits now t text settings (Refused errno) t nothing
  set_nowhere errno led = led_refused v table true text there tests errno led

  -- what is given to the object there is what the call comes to
  pub set_comes : (n : ℕ) → IsLed tests t v true text (Ok n) → (r : Result (Option Changing) Errno)
      → ((o : Object) → object_of n (v n) ≡ Some o → ComesOrStays (sets_object now t settings o) limits v table r) → ComesOrStays (sets limits now t text settings) limits v table r
  set_comes n led (Err errno) given = led_there v table true text there n (Refused errno) t nothing (λ p x stands. given x stands.here) tests led
  set_comes n led (Ok None) given = led_there v table true text there n Done t nothing (λ p x stands. given x stands.here) tests led
  set_comes n led (Ok (Some c)) given =
      let x = object_there n (v n) (led_some t v true text n led.1) in
      let one = given x.0 x.1 in
      let change = change_by c in
      (one.0, one.1, led_there v table true text there n Done (tree_of (swept table (applied change v)) table) (logs (work_of v change)) (λ p y stands. (given y stands.here).2) tests led)

-- ---- what is found

pub file_object : (n : ℕ) (o : Option Node) (x : Object) → is_file_node o ≡ true → object_of n o ≡ Some x → trees.file n ≡ x
file_object n None x is object = none_some object
file_object n (Some (directory_node attributes names)) x is object = absurd (false≢true is)
file_object n (Some (file_node attributes links bytes)) x is object = some_same object
file_object n (Some (link_node attributes text)) x is object = absurd (false≢true is)

-- what is neither file nor link
pub directory_left : (n : ℕ) (o : Option Node) (x : Object) → found_in o ≢ found.File → found_in o ≢ found.Link → object_of n o ≡ Some x → IsTrue (is_directory_node o) × (trees.directory n ≡ x)
directory_left n None x file link object = none_some object
directory_left n (Some (directory_node attributes names)) x file link object = (refl, some_same object)
directory_left n (Some (file_node attributes links bytes)) x file link object = absurd (file refl)
directory_left n (Some (link_node attributes text)) x file link object = absurd (link refl)

pub directory_has_mode : (o : Option Node) → IsTrue (is_directory_node o) → IsTrue (is_file_node o || is_directory_node o)
directory_has_mode None is = absurd (false≢true is)
directory_has_mode (Some (directory_node attributes names)) is = refl
directory_has_mode (Some (file_node attributes links bytes)) is = refl
directory_has_mode (Some (link_node attributes text)) is = absurd (false≢true is)

pub file_has_mode : (o : Option Node) → IsTrue (is_file_node o) → IsTrue (is_file_node o || is_directory_node o)
file_has_mode o is = ap (λ (b : Bool). b || is_directory_node o) is

-- ---- a size

-- nothing is to be swept in a mounted volume
whole : (w : Volume) (table : ℕ → Option Description) → IsMounted w table → swept table w ≡ w
whole w table mounted = fun_ext {f = swept table w} {g = w} mounted.is_swept

-- what a record does where nothing is swept
unswept : (outcome : Outcome) (limits : Limits) (v : Volume) (table : ℕ → Option Description) (change : Change) (c : Changing) → change_by c ≡ change → GoesOver limits v table change
    → outcome Done (tree_of (applied change v) table) (logs (work_of v change)) → ComesOrStays outcome limits v table (Ok (Some c))
unswept outcome limits v table change c says over done =
    let same = sym (whole (applied change v) table over.1) in
    subst (ComesSweptBy outcome limits v table) (sym says) (
      over.0,
      subst (λ (w : Volume). IsMounted w table) same over.1,
      subst (λ (w : Volume). outcome Done (tree_of w table) (logs (work_of v change))) same done,
    )

pub truncate_file_comes : (limits : Limits) (now : Option Time) (v : Volume) (table : ℕ → Option Description) (n size : ℕ) (r : Result (Option Changing) Errno) → IsOkAnd r (TruncatesFile limits now v table n size)
    → ComesOrStays (truncates_file now (tree_of v table) n size) limits v table r
truncate_file_comes limits now v table n size (Err errno) truncates = absurd truncates
truncate_file_comes limits now v table n size (Ok None) truncates = truncates
truncate_file_comes limits now v table n size (Ok (Some c)) (says, (over, done)) = unswept (truncates_file now (tree_of v table) n size) limits v table (stamped now (truncate n size)) c says over done

-- ---- both

pub sets_both_comes : (limits : Limits) (now : Option Time) (v : Volume) (table : ℕ → Option Description) (n mode size : ℕ) (c : Changing) → change_by c ≡ stamped now (set_file n mode size)
    → SetsBoth limits now v table n mode size (Ok (Some c.prepared)) → ComesOrStays (sets_both now (tree_of v table) n mode size) limits v table (Ok (Some c))
sets_both_comes limits now v table n mode size c says (over, done) = unswept (sets_both now (tree_of v table) n mode size) limits v table (stamped now (set_file n mode size)) c says over done

-- the mode alone, where the size changes nothing
pub sets_mode_alone : (limits : Limits) (now : Option Time) (v : Volume) (table : ℕ → Option Description) (n mode size : ℕ) (r : Result (Option Changing) Errno) → is_idle_size now n size (tree_of v table) ≡ true
    → ComesOrStays (sets_mode now (tree_of v table) n (Some mode)) limits v table r → ComesOrStays (sets_both now (tree_of v table) n mode size) limits v table r
sets_mode_alone limits now v table n mode size r idle comes = rw idle comes
