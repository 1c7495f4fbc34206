-- What is told of a block with an entry more or one fewer.
use Rattle.std.proofs.Common.{◌≡◌, ◌∙◌, ℕ, ◌+◌, ◌^◌, ◌≤◌, List, [], ◌∷◌, ◌++◌, length, Some, true, false, bytes_eq, inl, inr, ap, sym, subst, arith}
use Rattle.std.proofs.lemmas.Bool.{cases_Bool}
use Rattle.std.proofs.lemmas.List.{length-append}
use Rattle.layout.specs.Directory.{Named, HoldsEntries, entry_bytes}
use Rattle.layout.specs.DirectoryNames.{number_of}
use Rattle.layout.proofs.EntryLaws.{entries_once}
use Rattle.model.specs.Paths.{Name}
use Rattle.model.proofs.OptionLaws.{none_some}
use Rattle.entries.specs.Entries.{IsOneFewer, used_by, without}
use Rattle.entries.specs.Marks.{AreMarked, HasMarks, KeepsMarks, IsTally}
use Rattle.entries.proofs.MissingLaws.{number_of-here, number_of-behind, same_name, without-here, without-behind}
use Rattle.entries.proofs.Once.{keeps_name}

-- ---- one fewer

pub fewer_first : (name : Name) (e : Named) (entries others : List Named) (n : ℕ) → entries ≡ e ∷ others → bytes_eq name e.name ≡ true → n ≡ length (entry_bytes e) → IsOneFewer n entries (without name entries)
fewer_first name e entries others n are same count =
    let left : without name entries ≡ others = ap (without name) are ∙ without-here name e others same in
    record { names = omega (arith, ap length are, ap length left); used = omega (arith, ap used_by are, ap used_by left, count) }

pub fewer_behind : (name : Name) (e : Named) (entries others : List Named) (n : ℕ) → entries ≡ e ∷ others → bytes_eq name e.name ≡ false → IsOneFewer n others (without name others) → IsOneFewer n entries (without name entries)
fewer_behind name e entries others n are apart fewer =
    let left : without name entries ≡ e ∷ without name others = ap (without name) are ∙ without-behind name e others apart in
    record { names = omega (arith, ap length are, ap length left, fewer.names); used = omega (arith, ap used_by are, ap used_by left, fewer.used) }

-- a name that is left stood there before
left_before : (name gone : Name) (n : ℕ) (es : List Named) → number_of name (without gone es) ≡ Some n → (m : ℕ) × (number_of name es ≡ Some m)
left_before name gone n [] is = none_some is
left_before name gone n (e ∷ es) is = elim (cases_Bool (bytes_eq name e.name)) [
  | inl same ↦ (e.number, number_of-here name e es same)
  | inr other ↦ elim (cases_Bool (bytes_eq gone e.name)) [
    | inl here ↦ (n, number_of-behind name e es other ∙ ap (number_of name) (sym (without-here gone e es here)) ∙ is)
    | inr behind ↦
        let m = left_before name gone n es (sym (number_of-behind name e (without gone es) other) ∙ ap (number_of name) (sym (without-behind gone e es behind)) ∙ is) in
        (m.0, number_of-behind name e es other ∙ m.1)
  ]
]

pub removed_tally : (inodes : ℕ) (old new marks : List ℕ) (names used fewer less count : ℕ) (name : Name) (es : List Named) → inodes ≤ 2 ^ 32
    → IsTally inodes old marks names used → HoldsEntries inodes old es → HoldsEntries inodes new (without name es) → IsOneFewer count es (without name es)
    → names ≡ fewer + 1 → used ≡ less + count → IsTally inodes new marks fewer less
removed_tally inodes old new marks names used fewer less count name es limit tally had has one names_are used_is =
    let are : (fs : List Named) → HoldsEntries inodes new fs → fs ≡ without name es = λ fs h. entries_once inodes new fs (without name es) limit h has in
    record {
      names = λ fs h. omega (arith, tally.names es had, ap length (are fs h), one.names, names_are);
      used = λ fs h. omega (arith, tally.used es had, ap used_by (are fs h), one.used, used_is);
      marked = λ fs h other n is.
          let before = left_before other name n es (ap (number_of other) (sym (are fs h)) ∙ is) in
          tally.marked es had other before.0 before.1;
    }

-- ---- one more

used_by-added : (es : List Named) (e : Named) → used_by (es ++ e ∷ []) ≡ used_by es + length (entry_bytes e)
used_by-added [] e = omega arith
used_by-added (f ∷ es) e = omega (arith, used_by-added es e)

number_of-added : (name : Name) (es : List Named) (e : Named) → bytes_eq name e.name ≡ false → number_of name (es ++ e ∷ []) ≡ number_of name es
number_of-added name [] e apart = number_of-behind name e [] apart
number_of-added name (f ∷ es) e apart = elim (cases_Bool (bytes_eq name f.name)) [
  | inl same ↦ number_of-here name f (es ++ e ∷ []) same ∙ sym (number_of-here name f es same)
  | inr other ↦ number_of-behind name f (es ++ e ∷ []) other ∙ number_of-added name es e apart ∙ sym (number_of-behind name f es other)
]

marked_added : (marks more : List ℕ) (es : List Named) (e : Named) → AreMarked marks es → KeepsMarks marks more → HasMarks more e.name → AreMarked more (es ++ e ∷ [])
marked_added marks more es e marked keeps here name n is = elim (cases_Bool (bytes_eq name e.name)) [
  | inl same ↦ subst (HasMarks more) (sym (same_name name e.name same)) here
  | inr apart ↦ keeps_name marks more name keeps (marked name n (sym (number_of-added name es e apart) ∙ is))
]

pub added_tally : (inodes : ℕ) (old new marks more : List ℕ) (names used count : ℕ) (es : List Named) (e : Named) → inodes ≤ 2 ^ 32
    → IsTally inodes old marks names used → HoldsEntries inodes old es → HoldsEntries inodes new (es ++ e ∷ [])
    → KeepsMarks marks more → HasMarks more e.name → count ≡ length (entry_bytes e) → IsTally inodes new more (names + 1) (used + count)
added_tally inodes old new marks more names used count es e limit tally had has keeps here count_is =
    let are : (fs : List Named) → HoldsEntries inodes new fs → fs ≡ es ++ e ∷ [] = λ fs h. entries_once inodes new fs (es ++ e ∷ []) limit h has in
    record {
      names = λ fs h. omega (arith, tally.names es had, ap length (are fs h), length-append es (e ∷ []));
      used = λ fs h. omega (arith, tally.used es had, ap used_by (are fs h), used_by-added es e, count_is);
      marked = λ fs h. subst (AreMarked more) (sym (are fs h)) (marked_added marks more es e (tally.marked es had) keeps here);
    }
