-- Entries of a directory, one by one, and block by block.
use Rattle.std.proofs.Common.{◌≡◌, ◌≢◌, ◌⊎◌, ◌∙◌, inl, inr, ℕ, zero, suc, ◌+◌, ◌/◌, ◌<◌, ◌≤◌, ◌^◌, ◌==◌, if◌then◌else◌, List, [], ◌∷◌, ◌++◌, length, Option, Some, None, bytes_eq, refl, sym, ap, subst, arith}
use Rattle.std.proofs.Math.Path.{fun_ext}
use Rattle.std.proofs.lemmas.Bool.{cases_eq, cases_lt, cond-true, cond-false, eq-eqb, ne_eqb, false_from_ne_true}
use Rattle.std.proofs.lemmas.Slice.Eq.{bytes_eq-Decides}
use Rattle.layout.specs.Bytes.{zeros}
use Rattle.layout.specs.Directory.{HoldsEntries, IsEntry, Named, entry_bytes}
use Rattle.layout.specs.DirectoryNames.{HasEachOnce, number_of}
use Rattle.layout.specs.Limits.{Sizes}
use Rattle.layout.specs.declared.TheConstants.{BLOCK_BYTES}
use Rattle.layout.specs.declared.kind.Kind.{Kind}
use Rattle.layout.specs.declared.kind.Kind.TheVariants.{Directory}
use Rattle.layout.proofs.EntryLaws.{entries_once, one_first}
use Rattle.model.specs.Paths.{Name}
use Rattle.model.specs.Volumes.{Entries, Volume, entries, names_in, with_edge}
use Rattle.model.proofs.ListingLemmas.{names_apart}
use Rattle.model.proofs.OptionLaws.{none_some}
use Rattle.model.proofs.WalkLemmas.{edge_here, edge_other}
use Rattle.images.specs.Contents.{IsDirectoryOf, StandsAs, content_of}
use Rattle.images.specs.Faults.{HoldsNames}
use Rattle.images.specs.Nodes.{file_block}
use Rattle.images.specs.Roots.{HeldTree}
use Rattle.checker.specs.Walks.{AddsEntries, HasCounted, HasRows, IsAwaited, IsOnWay}
use Rattle.checker.specs.declared.names.NumberRow.{NumberRow}

-- ---- the number of a name

number_here : (x : Name) (e : Named) (es : List Named) → x ≡ e.name → number_of x (e ∷ es) ≡ Some e.number
number_here x e es same = cond-true (bytes_eq x e.name) (Some e.number) (number_of x es) ((bytes_eq-Decides x e.name).1 same)

number_behind : (x : Name) (e : Named) (es : List Named) → x ≢ e.name → number_of x (e ∷ es) ≡ number_of x es
number_behind x e es other = cond-false (bytes_eq x e.name) (Some e.number) (number_of x es) (false_from_ne_true (bytes_eq x e.name) (λ t. other ((bytes_eq-Decides x e.name).0 t)))

-- ---- one entry more

module _ (d : ℕ) (first : Named) (e : Entries) where
  abbrev one : Entries
  one = with_edge d first.name (Some first.number) e

  one_else : (x : Name) → x ≢ first.name → one d x ≡ e d x
  one_else x other = edge_other d d first.name x (Some first.number) e (λ _. other)

  -- what stands behind an entry is awaited, once that is counted
  pub awaited_behind : (inodes : ℕ) (v : Volume) (bytes rest : List ℕ) → inodes ≤ 2 ^ 32 → IsEntry inodes first → bytes ≡ entry_bytes first ++ rest → IsAwaited inodes v d e bytes
      → ((entries v d first.name ≡ Some first.number) × (e d first.name ≡ None)) × IsAwaited inodes v d one rest
  awaited_behind inodes v bytes rest limit is spelled a =
      let b = one_first inodes bytes rest first a.awaited limit is spelled a.holds in
      let once : HasEachOnce (first ∷ b.others) = subst HasEachOnce b.are a.once in (
        a.leads first.name first.number (ap (number_of first.name) b.are ∙ number_here first.name first b.others refl),
        record {
          awaited = b.others;
          holds = b.holds;
          once = once.1;
          leads = λ x n at.
              let other : x ≢ first.name = λ same. none_some (sym once.0 ∙ ap (λ (y : Name). number_of y b.others) (sym same) ∙ at) in
              let both = a.leads x n (ap (number_of x) b.are ∙ number_behind x first b.others other ∙ at) in
              (both.0, one_else x other ∙ both.1);
        },
      )

  pub adds_more : (others : List Named) (f : Entries) → e d first.name ≡ None → AddsEntries d others one f → AddsEntries d (first ∷ others) e f
  adds_more others f free adds = record {
    once = (alone (number_of first.name others) refl, adds.once);
    new = λ x n is. elim (names_apart x first.name) [
      | inl same ↦ (ap (e d) same ∙ free, ap (f d) same ∙ adds.kept first.name (alone (number_of first.name others) refl) ∙ here ∙ sym (number_here x first others same) ∙ is)
      | inr other ↦
          let old = adds.new x n (sym (number_behind x first others other) ∙ is) in
          (sym (one_else x other) ∙ old.0, old.1)
    ];
    kept = λ x none.
        let other : x ≢ first.name = λ same. none_some (sym none ∙ number_here x first others same) in
        adds.kept x (sym (number_behind x first others other) ∙ none) ∙ one_else x other;
    others = λ k other. adds.others k other ∙ fun_ext (λ x. edge_other d k first.name x (Some first.number) e (λ same. absurd (other same)));
  }
    where
      here : one d first.name ≡ Some first.number
      here = edge_here d first.name (Some first.number) e

      alone : (o : Option ℕ) → number_of first.name others ≡ o → number_of first.name others ≡ None
      alone None is = is
      alone (Some n) is = none_some (sym (adds.new first.name n is).0 ∙ here)

  abbrev pub counted_more : (s : Sizes) (t : HeldTree) (bytes rest : List ℕ) (count : ℕ) (found : List ℕ) (table : List NumberRow) → IsEntry s.inodes first → bytes ≡ entry_bytes first ++ rest → e d first.name ≡ None
      → HasCounted s t d rest one count found table → HasCounted s t d bytes e count found table
  counted_more s t bytes rest count found table is spelled free h = record {
    added = first ∷ h.added;
    holds = (rest, is, spelled, h.holds);
    names = h.names;
    adds = adds_more h.added h.names free h.adds;
    way = h.way;
  }

abbrev pub counted_none : (s : Sizes) (t : HeldTree) (d : ℕ) (bytes : List ℕ) (e : Entries) (count : ℕ) (found : List ℕ) (table : List NumberRow) → bytes ≡ zeros (length bytes) → IsOnWay s t e count found table → HasCounted s t d bytes e count found table
counted_none s t d bytes e count found table end way = record {
  added = [];
  holds = end;
  names = e;
  adds = record { once = tt; new = λ x n is. none_some is; kept = λ x none. refl; others = λ k other. refl };
  way = way;
}

-- ---- one block more

abbrev pub with_row : ℕ → List Named → (ℕ → List Named) → ℕ → List Named
with_row i added rows j = if j == i then added else rows j

pub rows_none : (inodes : ℕ) (block : ℕ → List ℕ) (d : ℕ) (e : Entries) → ((x : Name) → e d x ≡ None) → HasRows inodes 0 block d (λ i. []) e e
rows_none inodes block d e none = record {
  holds = λ i low. absurd (omega (arith, low));
  past = λ i high. refl;
  are = record { each = λ i. tt; once = λ i j x m n is. none_some is; found = λ i x n is. none_some is; only = λ x never. none x };
  others = λ k other. refl;
}

module _ (inodes i : ℕ) (block : ℕ → List ℕ) (d : ℕ) (rows : ℕ → List Named) (added : List Named) (e f g : Entries) (has : HasRows inodes i block d rows e f) (here : HoldsEntries inodes (block i) added) (adds : AddsEntries d added f g) where
  at_row : (j : ℕ) → j ≡ i → with_row i added rows j ≡ added
  at_row j same = cond-true (j == i) added (rows j) (eq-eqb j i same)

  at_other : (j : ℕ) → j ≢ i → with_row i added rows j ≡ rows j
  at_other j other = cond-false (j == i) added (rows j) (ne_eqb j i other)

  -- what has a number before isn't added
  absent : (x : Name) (n : ℕ) → f d x ≡ Some n → (o : Option ℕ) → number_of x added ≡ o → number_of x added ≡ None
  absent x n old None is = is
  absent x n old (Some m) is = none_some (sym (adds.new x m is).0 ∙ old)

  in_row : (j : ℕ) (x : Name) (n : ℕ) → number_of x (with_row i added rows j) ≡ Some n → ((j ≡ i) × (number_of x added ≡ Some n)) ⊎ ((f d x ≡ Some n) × (number_of x (rows j) ≡ Some n))
  in_row j x n is = elim (cases_eq j i) [
    | inl same ↦ inl (same, ap (number_of x) (sym (at_row j same)) ∙ is)
    | inr other ↦
        let old : number_of x (rows j) ≡ Some n = ap (number_of x) (sym (at_other j other)) ∙ is in
        inr (has.are.found j x n old, old)
  ]

  pub rows_more : HasRows inodes (i + 1) block d (with_row i added rows) e g
  rows_more = record {
    holds = λ j low. elim (cases_eq j i) [
      | inl same ↦ subst (HoldsEntries inodes (block j)) (sym (at_row j same)) (subst (λ (k : ℕ). HoldsEntries inodes (block k) added) (sym same) here)
      | inr other ↦ subst (HoldsEntries inodes (block j)) (sym (at_other j other)) (has.holds j (omega (arith, low, other)))
    ];
    past = λ j high. at_other j (omega (arith, high)) ∙ has.past j (omega (arith, high));
    are = record {
      each = λ j. elim (cases_eq j i) [
        | inl same ↦ subst HasEachOnce (sym (at_row j same)) adds.once
        | inr other ↦ subst HasEachOnce (sym (at_other j other)) (has.are.each j)
      ];
      once = λ j k x m n at_j at_k. elim (in_row j x m at_j) [
        | inl new ↦ elim (in_row k x n at_k) [
          | inl too ↦ new.0 ∙ sym too.0
          | inr old ↦ none_some (sym (adds.new x m new.1).0 ∙ old.0)
        ]
        | inr old ↦ elim (in_row k x n at_k) [
          | inl new ↦ none_some (sym (adds.new x n new.1).0 ∙ old.0)
          | inr too ↦ has.are.once j k x m n old.1 too.1
        ]
      ];
      found = λ j x n at. elim (in_row j x n at) [
        | inl new ↦ (adds.new x n new.1).1
        | inr old ↦ adds.kept x (absent x n old.0 (number_of x added) refl) ∙ old.0
      ];
      only = λ x none.
          adds.kept x (ap (number_of x) (sym (at_row i refl)) ∙ none i)
          ∙ has.are.only x (λ j. elim (cases_eq j i) [
            | inl same ↦ ap (number_of x) (has.past j (omega (arith, same)))
            | inr other ↦ ap (number_of x) (sym (at_other j other)) ∙ none j
          ]);
    };
    others = λ k other. adds.others k other ∙ has.others k other;
  }

-- a name stands in one of the first so many rows, or in none of them
look : (x : Name) (rows : ℕ → List Named) (count : ℕ) → ((i : ℕ) × (i < count) × (n : ℕ) × (number_of x (rows i) ≡ Some n)) ⊎ ((i : ℕ) → i < count → number_of x (rows i) ≡ None)
look x rows zero = inr (λ i low. absurd (omega (arith, low)))
look x rows (suc count) = elim (look x rows count) [
  | inl there ↦ inl (there.0, omega (arith, there.1), there.2, there.3)
  | inr none ↦ last (number_of x (rows count)) refl none
]
  where
    last : (o : Option ℕ) → number_of x (rows count) ≡ o → ((i : ℕ) → i < count → number_of x (rows i) ≡ None) → ((i : ℕ) × (i < suc count) × (n : ℕ) × (number_of x (rows i) ≡ Some n)) ⊎ ((i : ℕ) → i < suc count → number_of x (rows i) ≡ None)
    last (Some n) is none = inl (count, omega arith, n, is)
    last None is none = inr (λ i low. elim (cases_eq i count) [
      | inl same ↦ ap (λ (k : ℕ). number_of x (rows k)) same ∙ is
      | inr other ↦ none i (omega (arith, low, other))
    ])

-- the next block of a directory is awaited, whatever graph the tree holds
module _ (inodes : ℕ) (t : HeldTree) (d i : ℕ) (rows : ℕ → List Named) (e f : Entries) (g : HoldsNames inodes t) (limit : inodes ≤ 2 ^ 32) (kind : (t d).inode.kind ≡ Directory) (low : i < (t d).inode.size / BLOCK_BYTES) (has : HasRows inodes i (file_block (t d)) d rows e f) where
  stands : StandsAs Directory inodes (content_of (t d)) (g.volume d)
  stands = subst (λ (k : Kind). StandsAs k inodes (content_of (t d)) (g.volume d)) kind (g.holds d)

  pub awaited_block : IsAwaited inodes g.volume d f (file_block (t d) i)
  awaited_block = record {
    awaited = stands.1.entries i;
    holds = stands.1.holds i low;
    once = stands.1.are.each i;
    leads = λ x n at. (ap (λ o. names_in o x) stands.2 ∙ stands.1.are.found i x n at, new x n at (f d x) refl);
  }
    where
      new : (x : Name) (n : ℕ) → number_of x (stands.1.entries i) ≡ Some n → (o : Option ℕ) → f d x ≡ o → f d x ≡ None
      new x n at None is = is
      new x n at (Some m) is = elim (look x rows i) [
        | inr none ↦ has.are.only x (λ j. elim (cases_lt j i) [ inl before ↦ none j before | inr past ↦ ap (number_of x) (has.past j past) ])
        | inl there ↦
            let j = there.0 in
            let before : j < i = there.1 in
            let same = entries_once inodes (file_block (t d) j) (stands.1.entries j) (rows j) limit (stands.1.holds j (omega (arith, before, low))) (has.holds j before) in
            let again : i ≡ j = stands.1.are.once i j x n there.2 at (ap (number_of x) same ∙ there.3) in
            absurd (omega (arith, before, again))
      ]

-- all blocks give a directory its names
pub rows_all : (s : Sizes) (t : HeldTree) (d : ℕ) (rows : ℕ → List Named) (e f : Entries) → HasRows s.inodes ((t d).inode.size / BLOCK_BYTES) (file_block (t d)) d rows e f → IsDirectoryOf s.inodes (content_of (t d)) (f d)
rows_all s t d rows e f has = record { entries = rows; holds = has.holds; past = has.past; are = has.are }
