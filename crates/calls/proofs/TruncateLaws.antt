-- What the definitions say of changing a file's size over a path, by what was found in a volume.
use Rattle.std.proofs.Common.{◌≡◌, ◌≢◌, ℕ, ℤ, nat_abs, List, true, false, Option, Some, None, Result, Ok, Err, IsFalse, IsTrue, refl, sym, subst}
use Rattle.std.specs.Result.{IsOkAnd}
use Rattle.std.proofs.Math.Path.{fun_ext}
use Rattle.std.proofs.lemmas.Bool.{false≢true}
use Rattle.model.specs.declared.limits.Limits.{Limits}
use Rattle.model.specs.Changing.{truncates_file, size_tests, truncates}
use Rattle.model.specs.Outcomes.{Outcome, refuses}
use Rattle.model.specs.Paths.{Path, Tests, first_refusal, text_tests_then}
use Rattle.model.specs.Records.{Change, applied, stamped, work_of}
use Rattle.model.specs.Records as records
use Rattle.model.specs.Room.{Need, logs, nothing}
use Rattle.model.specs.Trees.{Tree, Object, Description}
use Rattle.model.specs.Trees as trees
use Rattle.model.specs.Volumes.{IsMounted, Node, directory_node, file_node, link_node, Volume, is_file_node, object_of, swept, tree_of}
use Rattle.model.specs.declared.errno.Errno.{Errno}
use Rattle.model.specs.declared.errno.Errno.TheVariants.{EISDIR}
use Rattle.model.specs.declared.reply.Reply.{Reply}
use Rattle.model.specs.declared.reply.Reply.TheVariants.{Done, Refused}
use Rattle.model.specs.declared.time.Time.{Time}
use Rattle.model.proofs.LooseLemmas.{some_same}
use Rattle.paths.specs.Steps.{found_in}
use Rattle.paths.specs.declared.lookup.Found.TheVariants as found
use Rattle.calls.specs.Leading.{IsLed}
use Rattle.calls.specs.Changing.{ComesOrStays, ComesSweptBy}
use Rattle.calls.specs.Truncate.{TruncatesFile}
use Rattle.calls.specs.declared.changed.Changing.{Changing}
use Rattle.calls.proofs.LeadLaws.{led_refused, led_there}
use Rattle.calls.proofs.TestedLaws.{tested_some}
use Rattle.model.proofs.OptionLaws.{none_some}

-- ---- what is found

pub found_file : (o : Option Node) → found_in o ≡ found.File → is_file_node o ≡ true
found_file None e = cc
found_file (Some (directory_node attributes names)) e = cc
found_file (Some (file_node attributes links bytes)) e = refl
found_file (Some (link_node attributes text)) e = cc

pub found_other : (o : Option Node) → found_in o ≢ found.File → is_file_node o ≡ false
found_other None other = refl
found_other (Some (directory_node attributes names)) other = refl
found_other (Some (file_node attributes links bytes)) other = absurd (other refl)
found_other (Some (link_node attributes text)) other = refl

-- a file with this number is truncated, or it is none
abbrev pub TruncatesNumber : Limits → Option Time → Volume → (ℕ → Option Description) → ℕ → ℕ → Result (Option Changing) Errno → Type 0
TruncatesNumber limits now v table n size (Ok o) = IsTrue (is_file_node (v n)) × TruncatesFile limits now v table n size o
TruncatesNumber limits now v table n size (Err errno) = IsFalse (is_file_node (v n)) × (errno ≡ EISDIR)

-- what a file is truncated to
pub truncates_found : (limits : Limits) (now : Option Time) (v : Volume) (table : ℕ → Option Description) (n size : ℕ) (r : Result (Option Changing) Errno) → IsTrue (is_file_node (v n))
    → (IsTrue (is_file_node (v n)) → IsOkAnd r (TruncatesFile limits now v table n size)) → TruncatesNumber limits now v table n size r
truncates_found limits now v table n size (Ok o) is truncates_file = (is, truncates_file is)
truncates_found limits now v table n size (Err errno) is truncates_file = absurd (truncates_file is)

-- ---- where a path leads

pub truncate_refused : (limits : Limits) (now : Option Time) (v : Volume) (table : ℕ → Option Description) (text : List ℕ) (size : ℤ) (errno : Errno) → first_refusal (text_tests_then limits (size_tests limits size) text) ≡ Some errno
    → truncates limits now (tree_of v table) text size (Refused errno) (tree_of v table) nothing
truncate_refused limits now v table text size errno is = tested_some (tree_of v table) (text_tests_then limits (size_tests limits size) text) _ errno is

module _ (limits : Limits) (now : Option Time) (v : Volume) (table : ℕ → Option Description) (text : List ℕ) (size : ℤ) where
  abbrev t : Tree
  t = tree_of v table

  abbrev tests : Tests
  tests = text_tests_then limits (size_tests limits size) text

  abbrev there : Path → Object → Outcome
  there p o = elim o as (λ _. Outcome) [
    | trees.file n ↦ truncates_file now t n (nat_abs size)
    | trees.directory n ↦ refuses t EISDIR
    | trees.symlink n link ↦ λ _ _ _. ⊥
  ]

  pub truncate_nowhere : (errno : Errno) → IsLed tests t v true text (Err errno) → truncates limits now t text size (Refused errno) t nothing
  truncate_nowhere errno led = led_refused v table true text there tests errno led

  -- what a file is truncated to is what the call comes to
  at_file : (n : ℕ) (o : Option Node) → is_file_node o ≡ true → (p : Path) (x : Object) → object_of n o ≡ Some x
      → (reply : Reply) (new : Tree) (need : Need) → truncates_file now t n (nat_abs size) reply new need → there p x reply new need
  at_file n None is p x object reply new need truncate = none_some object
  at_file n (Some (directory_node attributes names)) is p x object reply new need truncate = absurd (false≢true is)
  at_file n (Some (file_node attributes links bytes)) is p x object reply new need truncate = subst (λ (y : Object). there p y reply new need) (some_same object) truncate
  at_file n (Some (link_node attributes link)) is p x object reply new need truncate = absurd (false≢true is)

  at_other : (n : ℕ) (o : Option Node) → is_file_node o ≡ false → found_in o ≢ found.Link → (p : Path) (x : Object) → object_of n o ≡ Some x → there p x (Refused EISDIR) t nothing
  at_other n None is plain p x object = none_some object
  at_other n (Some (directory_node attributes names)) is plain p x object = subst (λ (y : Object). there p y (Refused EISDIR) t nothing) (some_same object) (refl, refl, refl)
  at_other n (Some (file_node attributes links bytes)) is plain p x object = absurd (false≢true (sym is))
  at_other n (Some (link_node attributes link)) is plain p x object = absurd (plain refl)

  abbrev truncate_change : ℕ → Change
  truncate_change n = stamped now (records.truncate n (nat_abs size))

  module _ (n : ℕ) (led : IsLed tests t v true text (Ok n)) where
    truncated_there : (reply : Reply) (new : Tree) (need : Need) → is_file_node (v n) ≡ true → truncates_file now t n (nat_abs size) reply new need → truncates limits now t text size reply new need
    truncated_there reply new need is truncate =
        led_there v table true text there n reply new need (λ p x stands. at_file n (v n) is p x stands.here reply new need truncate) tests led

    -- a mounted volume has nothing to be swept
    whole : IsMounted (applied (truncate_change n) v) table → swept table (applied (truncate_change n) v) ≡ applied (truncate_change n) v
    whole mounted = fun_ext {f = swept table (applied (truncate_change n) v)} {g = applied (truncate_change n) v} mounted.is_swept

    pub truncate_comes : found_in (v n) ≢ found.Link → (r : Result (Option Changing) Errno) → TruncatesNumber limits now v table n (nat_abs size) r
        → ComesOrStays (truncates limits now t text size) limits v table r
    truncate_comes plain (Err errno) (is, same) =
        led_there v table true text there n (Refused errno) t nothing
        (λ p x stands. subst (λ (e : Errno). there p x (Refused e) t nothing) (sym same) (at_other n (v n) is plain p x stands.here)) tests led
    truncate_comes plain (Ok None) (is, truncate) = truncated_there Done t nothing is truncate
    truncate_comes plain (Ok (Some c)) (is, (says, (over, truncate))) =
        subst (ComesSweptBy (truncates limits now t text size) limits v table) (sym says) (
          over.0,
          subst (λ (w : Volume). IsMounted w table) (sym (whole over.1)) over.1,
          subst (λ (w : Volume). truncates limits now t text size Done (tree_of w table) (logs (work_of v (truncate_change n)))) (sym (whole over.1)) (truncated_there Done (tree_of (applied (truncate_change n) v) table) (logs (work_of v (truncate_change n))) is truncate),
        )
