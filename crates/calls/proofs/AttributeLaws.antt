-- What the definitions say of changing attributes of an object, by what was found in a volume.
use Rattle.std.proofs.Common.{◌≡◌, ◌≢◌, ◌∙◌, inl, inr, ℕ, List, ◌++◌, Bool, true, false, not, ◌||◌, Option, Some, None, IsSome, Result, Ok, Err, unwrap_or, is_some, refl, sym, ap, subst, arith}
use Rattle.std.specs.Prelude.{IfSome}
use Rattle.std.proofs.lemmas.Bool.{cases_eq, cond-false, cond-true, false≢true}
use Rattle.model.specs.declared.attributes.Attributes.{Attributes}
use Rattle.model.specs.declared.attributes.Permissions.{Permissions}
use Rattle.model.specs.declared.attributes.Touch.TheVariants.{Status}
use Rattle.model.specs.declared.errno.Errno.{Errno}
use Rattle.model.specs.declared.errno.Errno.TheVariants.{DAMAGED, ENOTSUP}
use Rattle.model.specs.declared.limits.Limits.{Limits}
use Rattle.model.specs.declared.limits.TheConstants.{OPEN_FILES}
use Rattle.model.specs.declared.reply.Reply.{Reply}
use Rattle.model.specs.declared.reply.Reply.TheVariants.{Done, Refused}
use Rattle.model.specs.declared.time.Time.{Time}
use Rattle.model.specs.Attributes.{AreAttributes, FitAttributes, KeepsTime, given_attributes, no_attributes, permissions_of, set_given, set_mode}
use Rattle.model.specs.Changes.{ChangesTree}
use Rattle.model.specs.Changing.{changes_attributes, changes_mode, with_changed_mode}
use Rattle.model.specs.Edits.{marked, with_attributes}
use Rattle.model.specs.Laws.{RecordsChangeTrees}
use Rattle.model.specs.Outcomes.{Outcome, changes, goes_to, tested}
use Rattle.model.specs.Paths.{Path, Tests, first_refusal, text_tests}
use Rattle.model.specs.Records.{Applies, CanEdit, Change, TakesMode, applied, change_attributes, stamped, with_given, with_node_attributes}
use Rattle.model.specs.Reading.{attribute_tests}
use Rattle.model.specs.Room.{Need, changes_bits, logs, nothing}
use Rattle.model.specs.Touches.{touches_object}
use Rattle.model.specs.Trees.{Description, Object, Tree, number_of_object}
use Rattle.model.specs.Trees as trees
use Rattle.model.specs.Volumes.{IsMounted, IsNode, IsVolume, Node, Volume, attributes_of, directory_node, file_node, is_directory_node, is_file_node, is_open, link_node, object_of, swept, swept_node, tree_of}
use Rattle.model.proofs.AttributeLaws.{epoch_is, kept_fit}
use Rattle.model.proofs.ObjectLaws.{node_here, node_other, object_number}
use Rattle.model.proofs.OptionLaws.{some_same}
use Rattle.paths.specs.Steps.{found_in}
use Rattle.paths.specs.declared.lookup.Found.TheVariants as found
use Rattle.records.specs.Attributes.{HasLinkMode}
use Rattle.calls.specs.Attributes.{MayChange, MayGet, attributes_by}
use Rattle.calls.specs.Changing.{Comes, ComesBy, ComesOrStays, Decides}
use Rattle.calls.specs.Leading.{IsLed}
use Rattle.calls.specs.declared.changed.Changing.{Changing}
use Rattle.calls.specs.declared.preparing.attributes.NewAttributes.{NewAttributes}
use Rattle.calls.specs.declared.preparing.attributes.NewAttributes.TheVariants as new
use Rattle.calls.proofs.LeadLaws.{led_refused, led_some, led_there}
use Rattle.calls.proofs.MarkLaws.{attributes_stay, marked_unswept}
use Rattle.calls.proofs.TestedLaws.{tested_some}

-- ---- attributes that fit

-- calls have a time just where attributes are kept
pub kept_where : (has_attributes : Bool) (now : Option Time) → KeepsTime has_attributes now → is_some now ≡ has_attributes
kept_where has_attributes None keeps = sym keeps
kept_where has_attributes (Some time) keeps = sym keeps.0

-- what is changed at a time fits where attributes are kept so
pub fit_at : (has_attributes : Bool) (now : Option Time) (a : Attributes) → KeepsTime has_attributes now → FitAttributes has_attributes a → FitAttributes (is_some now) a
fit_at has_attributes now a keeps fit = subst (λ (b : Bool). FitAttributes b a) (sym (kept_where has_attributes now keeps)) fit

pub fit_where : (has_attributes : Bool) (now : Option Time) (a : Attributes) → KeepsTime has_attributes now → FitAttributes (is_some now) a → FitAttributes has_attributes a
fit_where has_attributes now a keeps fit = subst (λ (b : Bool). FitAttributes b a) (kept_where has_attributes now keeps) fit

-- attributes fit with what calls may change changed
changed_fit : (has_attributes : Bool) (now : Option Time) (given : NewAttributes) (a : Attributes) → KeepsTime has_attributes now → MayChange now given → AreAttributes (attributes_by given a)
    → FitAttributes has_attributes a → FitAttributes has_attributes (attributes_by given a)
changed_fit has_attributes now (new.Mode mode) a keeps may are fit = record { limits = are; only_mode = λ none. ap (set_mode mode) (fit.only_mode none) }
changed_fit has_attributes now (new.Owners owner group) a keeps may are fit =
    kept_fit has_attributes (attributes_by (new.Owners owner group) a) (sym (kept_where has_attributes now keeps) ∙ may) are
changed_fit has_attributes now (new.Modified time) a keeps may are fit =
    kept_fit has_attributes (attributes_by (new.Modified time) a) (sym (kept_where has_attributes now keeps) ∙ may) are

-- and so does the part of them that a record gives
given_fits : (has_attributes : Bool) (a : Attributes) → FitAttributes has_attributes a → FitAttributes has_attributes (given_attributes (permissions_of a) a.modified)
given_fits has_attributes a fit = record {
  limits = record {
    mode = fit.limits.mode;
    owner = fit.limits.owner;
    group = fit.limits.group;
    modified = fit.limits.modified;
    changed = epoch_is;
    generation = omega arith;
  };
  only_mode = λ none. ap (λ (b : Attributes). given_attributes (permissions_of b) b.modified) (fit.only_mode none);
}

-- a record that gives all of it changes just what is given
given_same : (given : NewAttributes) (a : Attributes) → set_given (permissions_of (attributes_by given a)) (attributes_by given a).modified a ≡ attributes_by given a
given_same (new.Mode mode) a = refl
given_same (new.Owners owner group) a = refl
given_same (new.Modified time) a = refl

-- ---- objects

-- an object's attributes, or none
abbrev found_attributes : Option Node → Attributes
found_attributes o = unwrap_or (attributes_of o) no_attributes

-- what may have attributes changed is there
may_some : (o : Option Node) (given : NewAttributes) → MayGet o given → IsSome o
may_some None (new.Mode mode) may = absurd (false≢true may)
may_some None (new.Owners owner group) may = may
may_some None (new.Modified time) may = may
may_some (Some node) given may = refl

node_fits : (limits : Limits) (o : Option Node) → IfSome o (IsNode limits) → IsSome o → FitAttributes limits.has_attributes (found_attributes o)
node_fits limits None is some = absurd (false≢true some)
node_fits limits (Some (directory_node attributes names)) is some = is
node_fits limits (Some (file_node attributes links bytes)) is some = is.0
node_fits limits (Some (link_node attributes text)) is some = is.0

-- it takes the mode that it has then
takes_mode : (has_attributes : Bool) (now : Option Time) (o : Option Node) (given : NewAttributes) → KeepsTime has_attributes now → MayChange now given → MayGet o given → HasLinkMode o
    → TakesMode has_attributes o (attributes_by given (found_attributes o)).mode
takes_mode has_attributes now None given keeps change may link = absurd (false≢true (may_some None given may))
takes_mode has_attributes now (Some (directory_node attributes names)) given keeps change may link = tt
takes_mode has_attributes now (Some (file_node attributes links bytes)) given keeps change may link = tt
takes_mode has_attributes now (Some (link_node attributes text)) (new.Mode mode) keeps change may link = absurd (false≢true may)
takes_mode has_attributes now (Some (link_node attributes text)) (new.Owners owner group) keeps change may link = (sym (kept_where has_attributes now keeps) ∙ change, link)
takes_mode has_attributes now (Some (link_node attributes text)) (new.Modified time) keeps change may link = (sym (kept_where has_attributes now keeps) ∙ change, link)

-- what isn't a link has a mode
has_mode : (o : Option Node) → IsSome o → found_in o ≢ found.Link → (is_file_node o || is_directory_node o) ≡ true
has_mode None some other = absurd (false≢true some)
has_mode (Some (directory_node attributes names)) some other = refl
has_mode (Some (file_node attributes links bytes)) some other = refl
has_mode (Some (link_node attributes text)) some other = absurd (other refl)

-- ---- a record that giving attributes at a number

module _ (limits : Limits) (now : Option Time) (v : Volume) (table : ℕ → Option Description) (volume : IsVolume limits v) (mounted : IsMounted v table) (law : RecordsChangeTrees) (n : ℕ) where
  abbrev before : Tree
  before = tree_of v table

  module _ (permissions : Permissions) (modified : Time) where
    abbrev change : Change
    change = stamped now (change_attributes n permissions modified)

    abbrev bare : Volume
    bare = with_given n permissions modified v

    abbrev giving : Attributes → Attributes
    giving = set_given permissions modified

    each : (k : ℕ) → swept table bare k ≡ bare k
    each k =
        elim (cases_eq k n) [
          | inl same ↦
              let e = node_here n k (with_node_attributes giving (v n)) v same in
              let kept = subst (λ (i : ℕ). swept_node (is_open table OPEN_FILES k) (v i) ≡ v i) same (mounted.is_swept k) in
              ap (swept_node (is_open table OPEN_FILES k)) e ∙ attributes_stay (is_open table OPEN_FILES k) giving (v n) kept ∙ sym e
          | inr other ↦
              let e = node_other n k (with_node_attributes giving (v n)) v other in
              ap (swept_node (is_open table OPEN_FILES k)) e ∙ mounted.is_swept k ∙ sym e
        ]

    unswept : swept table (applied change v) ≡ applied change v
    unswept = marked_unswept table now (touches_object Status n) bare each

    changed : Applies limits v change → IsMounted (applied change v) table × ChangesTree change before (tree_of (applied change v) table)
    changed applies = subst (λ (w : Volume). IsMounted w table × ChangesTree change before (tree_of w table)) unswept (law limits v table change volume mounted applies tt)

  -- it is the object's own attributes, with some changed
  module _ (given : NewAttributes) where
    abbrev all : Attributes
    all = attributes_by given (found_attributes (v n))

    abbrev gives_all : Change
    gives_all = stamped now (change_attributes n (permissions_of all) all.modified)

    can_give : KeepsTime limits.has_attributes now → MayChange now given → MayGet (v n) given → HasLinkMode (v n) → AreAttributes all
        → CanEdit limits v (change_attributes n (permissions_of all) all.modified)
    can_give keeps change may link are = (
      takes_mode limits.has_attributes now (v n) given keeps change may link,
      given_fits limits.has_attributes all
          (changed_fit limits.has_attributes now given (found_attributes (v n)) keeps change are (node_fits limits (v n) (volume.keeps.nodes n) (may_some (v n) given may))),
    )

    attributes_come : CanEdit limits v (change_attributes n (permissions_of all) all.modified) → (r : Result Changing Errno) → Decides limits v gives_all r
        → Comes (changes_attributes now before n (attributes_by given)) limits v table r
    attributes_come can (Ok c) (says, applies) =
        let both = changed (permissions_of all) all.modified applies in
        let same = ap (λ (a : Attributes). marked now (touches_object Status n) (with_attributes n a before)) (given_same given (found_attributes (v n))) in
        subst (ComesBy (changes_attributes now before n (attributes_by given)) limits v table) (sym says) (applies, both.0, (refl, both.1 ∙ same, refl))
    attributes_come can (Err DAMAGED) not = absurd (not can)
    attributes_come can (Err _) not = absurd not

    -- the same where they are told by what was found
    pub attributes_told : (old held : Attributes) → old ≡ found_attributes (v n) → held ≡ attributes_by given old → KeepsTime limits.has_attributes now → MayChange now given → HasLinkMode (v n)
        → AreAttributes held → (r : Result Changing Errno) → Decides limits v (stamped now (change_attributes n (permissions_of held) held.modified)) r → MayGet (v n) given
        → Comes (changes_attributes now before n (attributes_by given)) limits v table r
    attributes_told old held old_is held_is keeps may_change link are r decides may =
        let is : held ≡ all = held_is ∙ ap (attributes_by given) old_is in
        attributes_come (can_give keeps may_change may link (subst AreAttributes is are)) r
        (subst (λ (a : Attributes). Decides limits v (stamped now (change_attributes n (permissions_of a) a.modified)) r) is decides)

-- ---- over a path

-- what a call comes to is what another one may come to
pub comes_more : (these others : Outcome) (limits : Limits) (v : Volume) (table : ℕ → Option Description) → ((reply : Reply) (after : Tree) (need : Need) → these reply after need → others reply after need)
    → (r : Result Changing Errno) → Comes these limits v table r → Comes others limits v table r
comes_more these others limits v table more (Err errno) comes = more (Refused errno) _ nothing comes
comes_more these others limits v table more (Ok c) (applies, mounted, comes) = (applies, mounted, more Done _ _ comes)

pub stays_more : (these others : Outcome) (limits : Limits) (v : Volume) (table : ℕ → Option Description) → ((reply : Reply) (after : Tree) (need : Need) → these reply after need → others reply after need)
    → (r : Result (Option Changing) Errno) → ComesOrStays these limits v table r → ComesOrStays others limits v table r
stays_more these others limits v table more (Err errno) comes = more (Refused errno) _ nothing comes
stays_more these others limits v table more (Ok None) comes = more Done _ nothing comes
stays_more these others limits v table more (Ok (Some c)) (applies, mounted, comes) = (applies, mounted, more Done _ _ comes)

-- ---- a mode

module _ (limits : Limits) (now : Option Time) (v : Volume) (table : ℕ → Option Description) (text : List ℕ) (mode : ℕ) where
  abbrev t : Tree
  t = tree_of v table

  abbrev there : Path → Object → Outcome
  there p o = elim o as (λ _. Outcome) [
    | trees.directory n ↦ changes Done (with_changed_mode now n mode t) (logs changes_bits)
    | trees.file n ↦ changes Done (with_changed_mode now n mode t) (logs changes_bits)
    | trees.symlink n text ↦ λ _ _ _. ⊥
  ]

  pub mode_refused : (errno : Errno) → IsLed (text_tests limits text) t v true text (Err errno) → changes_mode limits now t text mode (Refused errno) t nothing
  mode_refused errno led = led_refused v table true text there (text_tests limits text) errno led

  at_object : (n : ℕ) (o : Option Node) (p : Path) (x : Object) → (is_file_node o || is_directory_node o) ≡ true → object_of n o ≡ Some x → (reply : Reply) (after : Tree) (need : Need)
      → changes_attributes now t n (set_mode mode) reply after need → there p x reply after need
  at_object n None p x is object reply after need done = absurd (false≢true is)
  at_object n (Some (directory_node old names)) p x is object reply after need done = subst (λ (y : Object). there p y reply after need) (some_same object) done
  at_object n (Some (file_node old links bytes)) p x is object reply after need done = subst (λ (y : Object). there p y reply after need) (some_same object) done
  at_object n (Some (link_node attributes text)) p x is object reply after need done = absurd (false≢true is)

  module _ (n : ℕ) (led : IsLed (text_tests limits text) t v true text (Ok n)) (plain : found_in (v n) ≢ found.Link) where
    pub mode_there : MayGet (v n) (new.Mode mode)
    mode_there = has_mode (v n) (led_some t v true text n led.1) plain

    pub mode_comes : (r : Result Changing Errno) → Comes (changes_attributes now t n (set_mode mode)) limits v table r → Comes (changes_mode limits now t text mode) limits v table r
    mode_comes =
        comes_more (changes_attributes now t n (set_mode mode)) (changes_mode limits now t text mode) limits v table (λ reply after need done.
        led_there v table true text there n reply after need (λ p x stands. at_object n (v n) p x mode_there stands.here reply after need done) (text_tests limits text) led)

-- ---- what is kept only with attributes

-- the test of a call on it, before all others
pub attributes_refused : (limits : Limits) (tests : Tests) → limits.has_attributes ≡ false → first_refusal (attribute_tests limits ++ tests) ≡ Some ENOTSUP
attributes_refused limits tests none = cond-true (not limits.has_attributes) (Some ENOTSUP) (first_refusal tests) (ap not none)

pub attributes_passed : (limits : Limits) (tests : Tests) → limits.has_attributes ≡ true → first_refusal (attribute_tests limits ++ tests) ≡ first_refusal tests
attributes_passed limits tests has = cond-false (not limits.has_attributes) (Some ENOTSUP) (first_refusal tests) (ap not has)

-- tests that refuse the same lead to the same
pub led_same : (tests others : Tests) (t : Tree) (v : Volume) (follow : Bool) (text : List ℕ) (r : Result ℕ Errno) → first_refusal others ≡ first_refusal tests
    → IsLed tests t v follow text r → IsLed others t v follow text r
led_same tests others t v follow text (Ok n) same led = (same ∙ led.0, led.1)
led_same tests others t v follow text (Err errno) same (inl is) = inl (same ∙ is)
led_same tests others t v follow text (Err errno) same (inr (passed, leads)) = inr (same ∙ passed, leads)

-- a call that changes what a path leads to, whatever that is
module _ (limits : Limits) (v : Volume) (table : ℕ → Option Description) (follow : Bool) (text : List ℕ) (tests : Tests) (gives : ℕ → Outcome) where
  abbrev tree : Tree
  tree = tree_of v table

  abbrev all_tests : Tests
  all_tests = attribute_tests limits ++ tests

  abbrev given_there : Path → Object → Outcome
  given_there p o = gives (number_of_object o)

  abbrev whole : Outcome
  whole = tested tree all_tests (goes_to tree follow text given_there)

  pub not_kept : limits.has_attributes ≡ false → whole (Refused ENOTSUP) tree nothing
  not_kept none = tested_some tree all_tests _ ENOTSUP (attributes_refused limits tests none)

  module _ (has : limits.has_attributes ≡ true) where
    pub kept_tested : (errno : Errno) → first_refusal tests ≡ Some errno → whole (Refused errno) tree nothing
    kept_tested errno is = tested_some tree all_tests _ errno (attributes_passed limits tests has ∙ is)

    pub kept_refused : (errno : Errno) → IsLed tests tree v follow text (Err errno) → whole (Refused errno) tree nothing
    kept_refused errno led = led_refused v table follow text given_there all_tests errno (led_same tests all_tests tree v follow text (Err errno) (attributes_passed limits tests has) led)

    pub kept_comes : (n : ℕ) → IsLed tests tree v follow text (Ok n) → (r : Result (Option Changing) Errno) → ComesOrStays (gives n) limits v table r → ComesOrStays whole limits v table r
    kept_comes n led =
        stays_more (gives n) whole limits v table (λ reply after need done.
        led_there v table follow text given_there n reply after need
        (λ p x stands. subst (λ (k : ℕ). gives k reply after need) (sym (object_number n (v n) x stands.here)) done)
        all_tests (led_same tests all_tests tree v follow text (Ok n) (attributes_passed limits tests has) led))
