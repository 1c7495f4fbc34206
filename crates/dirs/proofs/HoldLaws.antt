-- Blocks that hold the entries of names, and how one of them changes.
use Rattle.std.proofs.Common.{◌≡◌, ◌≢◌, inl, inr, ℕ, ◌<◌, ◌≤◌, List, [], ◌∷◌, ◌++◌, length, Some, None, refl, sym, ap, subst, ◌∙◌, bytes_eq}
use Rattle.std.proofs.lemmas.Bool.{cases_Bool, cases_lt, cases_eq, cond-true, cond-false}
use Rattle.layout.specs.Directory.{Named, HoldsEntries}
use Rattle.model.specs.Paths.{Name}
use Rattle.layout.specs.DirectoryNames.{number_of, NameMap, AreNames, HoldNames}
use Rattle.entries.specs.Entries.{without}
use Rattle.dirs.specs.Directory.{HasCount, first_entries, with_name, with_at}
use Rattle.dirs.specs.Errors.{add_error}
use Rattle.buffers.specs.declared.error.BlockError.{BlockError}
use Rattle.buffers.specs.declared.error.BlockError.TheVariants as below
use Rattle.dirs.specs.declared.error.AddError.TheVariants.{Damaged}
use Rattle.dirs.proofs.CountLaws.{count_is}
use Rattle.dirs.proofs.NameLaws.{removed, added_to, with_at-here, with_at-else}
use Rattle.entries.proofs.MissingLaws.{same_name}

-- a name that no block has is none of the names
pub missing_name : (inodes count : ℕ) (block : ℕ → List ℕ) (names : NameMap) (name : Name) → (h : HoldNames inodes count block names) → ((i : ℕ) → i < count → number_of name (h.entries i) ≡ None) → names name ≡ None
missing_name inodes count block names name h none =
    h.are.only name (λ i. elim (cases_lt i count) [ inl below ↦ none i below | inr beyond ↦ ap (number_of name) (h.past i beyond) ])

-- names that differ nowhere are the same
pub same_names : (inodes count : ℕ) (block : ℕ → List ℕ) (old new : NameMap) → ((name : Name) → new name ≡ old name) → HoldNames inodes count block old → HoldNames inodes count block new
same_names inodes count block old new same h = record {
  entries = h.entries;
  holds = h.holds;
  past = h.past;
  are = record {
    each = h.are.each;
    once = h.are.once;
    found = λ i name n is. same name ∙ h.are.found i name n is;
    only = λ name none. same name ∙ h.are.only name none;
  };
}

-- blocks that are the same hold the same
pub same_blocks : (inodes count : ℕ) (old new : ℕ → List ℕ) (names : NameMap) → ((i : ℕ) → i < count → new i ≡ old i) → HoldNames inodes count old names → HoldNames inodes count new names
same_blocks inodes count old new names same h = record {
  entries = h.entries;
  holds = λ i below. subst (λ b. HoldsEntries inodes b (h.entries i)) (sym (same i below)) (h.holds i below);
  past = h.past;
  are = h.are;
}

-- a name that isn't there may be taken away
pub removed_nothing : (inodes count : ℕ) (block : ℕ → List ℕ) (names : NameMap) (name : Name) → (h : HoldNames inodes count block names) → ((i : ℕ) → i < count → number_of name (h.entries i) ≡ None)
    → HoldNames inodes count block (with_name name None names)
removed_nothing inodes count block names name h none =
    same_names inodes count block names (with_name name None names) (λ other. elim (cases_Bool (bytes_eq other name)) [
      | inl same ↦ cond-true (bytes_eq other name) None (names other) same ∙ sym (ap names (same_name other name same) ∙ missing_name inodes count block names name h none)
      | inr apart ↦ cond-false (bytes_eq other name) None (names other) apart
    ]) h

-- block i has other entries, and so many blocks are left
pub record Changes (inodes count : ℕ) (old new : ℕ → List ℕ) (entries : ℕ → List Named) (i more : ℕ) (es : List Named) : Type 0 where
  pub others : (j : ℕ) → j < more → j ≢ i → (j < count) × (new j ≡ old j)
  pub here : i < more → HoldsEntries inodes (new i) es
  pub past : (j : ℕ) → more ≤ j → j ≢ i → entries j ≡ []
  pub gone : more ≤ i → es ≡ []

hold_changed : (inodes count : ℕ) (old new : ℕ → List ℕ) (names others : NameMap) (i more : ℕ) (es : List Named) → (h : HoldNames inodes count old names)
    → Changes inodes count old new h.entries i more es → AreNames (with_at i es h.entries) others → HoldNames inodes more new others
hold_changed inodes count old new names others i more es h changes are = record {
  entries = with_at i es h.entries;
  holds = λ j below. elim (cases_eq j i) [
    | inl here ↦ subst (HoldsEntries inodes (new j)) (sym (with_at-here i j es h.entries here))
        (subst (λ k. HoldsEntries inodes (new k) es) (sym here) (changes.here (subst (λ k. k < more) here below)))
    | inr else ↦ subst (HoldsEntries inodes (new j)) (sym (with_at-else i j es h.entries else))
        (subst (λ b. HoldsEntries inodes b (h.entries j)) (sym (changes.others j below else).1) (h.holds j (changes.others j below else).0))
  ];
  past = λ j beyond. elim (cases_eq j i) [
    | inl here ↦ with_at-here i j es h.entries here ∙ changes.gone (subst (λ k. more ≤ k) here beyond)
    | inr else ↦ with_at-else i j es h.entries else ∙ changes.past j beyond else
  ];
  are = are;
}

pub hold_removed : (inodes count : ℕ) (old new : ℕ → List ℕ) (names : NameMap) (i more n : ℕ) (name : Name) → (h : HoldNames inodes count old names)
    → number_of name (h.entries i) ≡ Some n → Changes inodes count old new h.entries i more (without name (h.entries i)) → HoldNames inodes more new (with_name name None names)
hold_removed inodes count old new names i more n name h stands changes =
    hold_changed inodes count old new names (with_name name None names) i more (without name (h.entries i)) h changes (removed i name n h.entries names stands h.are)

pub hold_added : (inodes count : ℕ) (old new : ℕ → List ℕ) (names : NameMap) (i more : ℕ) (e : Named) → (h : HoldNames inodes count old names)
    → names e.name ≡ None → Changes inodes count old new h.entries i more (h.entries i ++ e ∷ []) → HoldNames inodes more new (with_name e.name (Some e.number) names)
hold_added inodes count old new names i more e h free changes =
    hold_changed inodes count old new names (with_name e.name (Some e.number) names) i more (h.entries i ++ e ∷ []) h changes (added_to i e h.entries names free h.are)

-- a directory has as many names as its blocks have entries
pub has_count : (inodes count : ℕ) (block : ℕ → List ℕ) (names : NameMap) (n : ℕ) → (h : HoldNames inodes count block names) → n ≡ length (first_entries h.entries count) → HasCount names n
has_count inodes count block names n h is = subst (HasCount names) (sym is) (count_is h.entries names h.are count h.past)

-- an error of reading that becomes this one of adding
pub damaged_below : (r : BlockError) → add_error r ≡ Damaged → r ≡ below.Damaged
damaged_below below.NoMemory e = absurd cc
damaged_below below.Device e = absurd cc
damaged_below below.Damaged e = refl
