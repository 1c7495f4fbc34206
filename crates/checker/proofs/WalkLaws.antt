-- A name more is counted.
use Rattle.std.proofs.Common.{◌≡◌, ◌≢◌, ◌⊎◌, ◌∙◌, inl, inr, ℕ, zero, suc, ◌+◌, ◌<◌, ◌≤◌, List, [], ◌∷◌, ◌++◌, fold, length, set, length-set, length-append, add-one, Option, Some, None, false, is_some, refl, sym, ap, subst, arith}
use Rattle.std.specs.Prelude.{slice_get}
use Rattle.std.proofs.lemmas.Bool.{cases_eq, false≢true}
use Rattle.std.proofs.lemmas.Option.{slice_get_within}
use Rattle.layout.specs.Directory.{IsEntry}
use Rattle.layout.specs.Limits.{Sizes}
use Rattle.layout.specs.declared.kind.Kind.{Kind}
use Rattle.layout.specs.declared.kind.Kind.TheVariants as kinds
use Rattle.model.specs.Counting.{Counts}
use Rattle.model.specs.Paths.{Name, Path}
use Rattle.model.specs.Volumes.{Entries, HasNames, Node, entries, enter, is_file_node, number_at, with_edge}
use Rattle.model.specs.declared.limits.TheConstants.{ROOT_NUMBER}
use Rattle.model.proofs.CountLemmas.{one_more, same_count}
use Rattle.model.proofs.KeptLemmas.{pair_same}
use Rattle.model.proofs.OptionLaws.{none_some, some_same}
use Rattle.model.proofs.WalkLemmas.{edge_from, edge_here, edge_other, number_at-push}
use Rattle.model.proofs.MountedLemmas.{nowhere}
use Rattle.model.proofs.ListLaws.{get_last, get_others, get_pushed}
use Rattle.images.specs.Contents.{Content, StandsAs, content_of}
use Rattle.images.specs.Faults.{HoldsNames}
use Rattle.images.specs.Roots.{HeldTree}
use Rattle.checker.specs.Findings.{HasOneName, IsNamedKind}
use Rattle.checker.specs.Names.{IsFirst, IsUsed}
use Rattle.checker.specs.Walks.{IsOnWay}
use Rattle.checker.specs.declared.names.NumberRow.{NumberRow}
use Rattle.checker.proofs.EachLaws.{get_set}
use Rattle.checker.proofs.FoundLaws.{get_front}

-- ---- walks

-- a walk goes on where names come
module _ (e f : Entries) (more : (d n : ℕ) (x : Name) → e d x ≡ Some n → f d x ≡ Some n) (n : ℕ) where
  pass : (x : Name) (p : Path) (d : ℕ) → ((o : Option ℕ) → fold (enter e) o p ≡ Some n → fold (enter f) o p ≡ Some n) → (o : Option ℕ) → e d x ≡ o
      → fold (enter e) (e d x) p ≡ Some n → fold (enter f) (f d x) p ≡ Some n
  pass x p d rest None at is = none_some (sym (nowhere e p) ∙ ap (λ q. fold (enter e) q p) (sym at) ∙ is)
  pass x p d rest (Some k) at is = ap (λ q. fold (enter f) q p) (more d k x at) ∙ rest (Some k) (ap (λ q. fold (enter e) q p) (sym at) ∙ is)

  goes : (p : Path) (o : Option ℕ) → fold (enter e) o p ≡ Some n → fold (enter f) o p ≡ Some n
  goes [] o is = is
  goes (x ∷ p) None is = none_some (sym (nowhere e p) ∙ is)
  goes (x ∷ p) (Some d) is = pass x p d (λ o. goes p o) (e d x) refl is

-- where a walk ends, there it began, or a name leads there
abbrev Ends : Entries → ℕ → ℕ → Type 0
Ends e n d = (d ≡ n) ⊎ ((k : ℕ) × (x : Name) × (e k x ≡ Some n))

end_of : (e : Entries) (n : ℕ) (x : Name) (p : Path) (d : ℕ) → ((k : ℕ) → fold (enter e) (Some k) p ≡ Some n → Ends e n k) → (o : Option ℕ) → e d x ≡ o → fold (enter e) (e d x) p ≡ Some n → Ends e n d
end_of e n x p d rest None at is = none_some (sym (nowhere e p) ∙ ap (λ q. fold (enter e) q p) (sym at) ∙ is)
end_of e n x p d rest (Some k) at is = elim (rest k (ap (λ q. fold (enter e) q p) (sym at) ∙ is)) [
  | inl same ↦ inr (d, x, at ∙ ap (λ (j : ℕ). Some j) same)
  | inr edge ↦ inr edge
]

ends : (e : Entries) (n : ℕ) (p : Path) (d : ℕ) → fold (enter e) (Some d) p ≡ Some n → Ends e n d
ends e n [] d is = inl (some_same is)
ends e n (x ∷ p) d is = end_of e n x p d (λ k. ends e n p k) (e d x) refl is

-- ---- what a name may lead to

no_object : (k : Kind) (inodes : ℕ) (c : Content) (o : Option Node) → (IsNamedKind k → ⊥) → StandsAs k inodes c o → o ≡ None
no_object kinds.Free inodes c o never is = is
no_object kinds.File inodes c o never is = absurd (never tt)
no_object kinds.Directory inodes c o never is = absurd (never tt)
no_object kinds.Link inodes c o never is = absurd (never tt)
no_object kinds.InodeFile inodes c o never is = is
no_object kinds.InodeMap inodes c o never is = is
no_object kinds.BlockMap inodes c o never is = is

no_file : (k : Kind) (inodes : ℕ) (c : Content) (o : Option Node) → k ≢ kinds.File → StandsAs k inodes c o → is_file_node o ≡ false
no_file kinds.Free inodes c o never is = ap is_file_node is
no_file kinds.File inodes c o never is = absurd (never refl)
no_file kinds.Directory inodes c o never is = ap is_file_node is.2
no_file kinds.Link inodes c o never is = ap is_file_node is
no_file kinds.InodeFile inodes c o never is = ap is_file_node is
no_file kinds.InodeMap inodes c o never is = ap is_file_node is
no_file kinds.BlockMap inodes c o never is = ap is_file_node is

-- what may have a name, and isn't a file, has one
one_if : (k : Kind) → IsNamedKind k → k ≢ kinds.File → HasOneName k
one_if kinds.File named other = absurd (other refl)
one_if kinds.Directory named other = tt
one_if kinds.Link named other = tt
one_if _ named other = absurd named

pub some_place : {A : Type 0} (P : A → Type 0) (count : ℕ) → count ≢ 0 → Counts P count → (a : A) × P a
some_place P zero some counts = absurd (some refl)
some_place P (suc count) some counts = (counts.0, counts.1)

-- the numbers that are found, with one more where it is a directory
pub record AddsFound (n : ℕ) (IsOne : Type 0) (found more : List ℕ) : Type 0 where
  pub keeps : (i m : ℕ) → slice_get found i ≡ Some m → slice_get more i ≡ Some m
  pub only : (i m : ℕ) → slice_get more i ≡ Some m → (slice_get found i ≡ Some m) ⊎ ((i ≡ length found) × (m ≡ n) × IsOne)
  pub there : IsOne → IsFirst more (length more) n

pub found_none : (n : ℕ) (IsOne : Type 0) (found : List ℕ) → (IsOne → ⊥) → AddsFound n IsOne found found
found_none n IsOne found never = record { keeps = λ i m is. is; only = λ i m is. inl is; there = λ one. absurd (never one) }

pub found_more : (n : ℕ) (IsOne : Type 0) (found : List ℕ) → IsOne → AddsFound n IsOne found (found ++ n ∷ [])
found_more n IsOne found one = record {
  keeps = λ i m is. get_front found (n ∷ []) i m is;
  only = λ i m is. elim (get_pushed found n i m is) [ inl old ↦ inl old | inr new ↦ inr (new.0, new.1, one) ];
  there = λ _. (length found, omega (arith, length-append found (n ∷ [])), get_last found n);
}

-- one of the directories that were found is one
pub first_directory : (s : Sizes) (t : HeldTree) (e : Entries) (count : ℕ) (found : List ℕ)
    (table : List NumberRow) (d : ℕ) → IsOnWay s t e count found table → IsFirst found count d
    → (t d).inode.kind ≡ kinds.Directory
first_directory s t e count found table d way among =
    let below = slice_get_within found among.0 d among.2 in
    (way.counted.reached d (among.0, below, among.2)).0

-- a name of a directory that leads to a number, which isn't counted yet
module _ (s : Sizes) (t : HeldTree) (e : Entries) (count : ℕ) (found : List ℕ) (table : List NumberRow) (d n : ℕ) (x : Name) (row : NumberRow)
    (way : IsOnWay s t e count found table) (among : IsFirst found count d) (free : e d x ≡ None) (entry : IsEntry s.inodes (record { number = n; name = x })) (there : slice_get table n ≡ Some row) where
  some : 1 ≤ n
  some = omega (arith, entry.ordinary)

  kind_is : row.kind ≡ (t n).inode.kind
  kind_is = (way.counted.rows.each n row some there).0

  pub unnamed_kind : (IsNamedKind row.kind → ⊥) → IsNamedKind (t n).inode.kind → ⊥
  unnamed_kind never named = never (subst IsNamedKind (sym kind_is) named)

  pub one_name : IsNamedKind row.kind → row.kind ≢ kinds.File → HasOneName (t n).inode.kind
  one_name named other = subst HasOneName kind_is (one_if row.kind named other)

  -- the two faults
  pub unused : (IsNamedKind row.kind → ⊥) → (g : HoldsNames s.inodes t) → entries g.volume d x ≡ Some n → ⊥
  unused never g leads =
      let none = no_object (t n).inode.kind s.inodes (content_of (t n)) (g.volume n) (λ named. never (subst IsNamedKind (sym kind_is) named)) (g.holds n) in
      false≢true (sym (ap is_some none) ∙ g.naming.used d n x leads)

  pub twice : row.kind ≢ kinds.File → row.names ≢ 0 → (g : HoldsNames s.inodes t) → entries g.volume d x ≡ Some n → ⊥
  twice never several g leads =
      let place = some_place (λ (p : ℕ × Name). e p.0 p.1 ≡ Some n) row.names several (way.counted.counts n row there) in
      let file = no_file (t n).inode.kind s.inodes (content_of (t n)) (g.volume n) (λ same. never (kind_is ∙ same)) (g.holds n) in
      let same = g.naming.once place.0.0 d n place.0.1 x (way.sound g place.0.0 n place.0.1 place.1) leads file in
      let again : e d x ≡ Some n = ap (λ (k : ℕ). e k x) (sym same.0) ∙ ap (e place.0.0) (sym same.1) ∙ place.1 in
      none_some (sym free ∙ again)

  module _ (new : NumberRow) (more : List ℕ) (kind : IsNamedKind row.kind) (kind_new : new.kind ≡ row.kind) (links_new : new.links ≡ row.links) (names_new : new.names ≡ row.names + 1)
      (few : (row.kind ≢ kinds.File) → row.names ≡ 0) (adds : AddsFound n ((t n).inode.kind ≡ kinds.Directory) found more) (leads : (g : HoldsNames s.inodes t) → entries g.volume d x ≡ Some n) where
    abbrev after : Entries
    after = with_edge d x (Some n) e

    abbrev later : List NumberRow
    later = set table n new

    low : n < length table
    low = slice_get_within table n row there

    -- a name leads where it did, or is the new one
    edge_of : (k m : ℕ) (y : Name) → after k y ≡ Some m → ((k ≡ d) × (y ≡ x) × (n ≡ m)) ⊎ (e k y ≡ Some m)
    edge_of k m y is = elim (edge_from d k x y (Some n) e (Some m) is) [ inl new ↦ inl (new.0, new.1, some_same new.2) | inr old ↦ inr old.1 ]

    edge_kept : (k m : ℕ) (y : Name) → e k y ≡ Some m → after k y ≡ Some m
    edge_kept k m y is = edge_other d k x y (Some n) e (λ same name. none_some (sym free ∙ ap (e d) (sym name) ∙ ap (λ (j : ℕ). e j y) (sym same) ∙ is)) ∙ is

    row_of : (m : ℕ) (r : NumberRow) → slice_get later m ≡ Some r → ((m ≡ n) × (new ≡ r)) ⊎ ((m ≢ n) × (slice_get table m ≡ Some r))
    row_of m r is = elim (cases_eq m n) [
      | inl same ↦ inl (same, some_same (sym (get_set table n new low) ∙ ap (slice_get later) (sym same) ∙ is))
      | inr other ↦ inr (other, sym (get_others table n m new other) ∙ is)
    ]

    first_kept : (i m : ℕ) → IsFirst found i m → IsFirst more i m
    first_kept i m is = (is.0, is.1, adds.keeps is.0 m is.2)

    all_kept : (m : ℕ) → IsFirst found (length found) m → IsFirst more (length more) m
    all_kept m is =
        let at = adds.keeps is.0 m is.2 in
        (is.0, slice_get_within more is.0 m at, at)

    -- a directory without a name isn't found yet
    fresh : (t n).inode.kind ≡ kinds.Directory → (i : ℕ) → slice_get found i ≡ Some n → ⊥
    fresh directory i at =
        let none : row.names ≡ 0 = few (λ file. let never : kinds.Directory ≡ kinds.File = sym directory ∙ sym kind_is ∙ file in absurd (cc)) in
        let path = (way.counted.reached n (i, slice_get_within found i n at, at)).1 in
        elim (ends e n path.0 ROOT_NUMBER path.1) [
          | inl root ↦ omega (arith, root, entry.ordinary)
          | inr edge ↦ subst (λ (k : ℕ). HasNames e n k) none (way.counted.counts n row there) (edge.0, edge.1) edge.2
        ]

    counts_new : (m : ℕ) (r : NumberRow) → slice_get later m ≡ Some r → HasNames after m r.names
    counts_new m r at = elim (row_of m r at) [
      | inl (same, is) ↦
          let names : suc row.names ≡ r.names = sym (add-one row.names) ∙ sym names_new ∙ ap (λ (q : NumberRow). q.names) is in
          subst (λ (k : ℕ). HasNames after k r.names) (sym same) (subst (HasNames after n) names
          (one_more (λ (p : ℕ × Name). e p.0 p.1 ≡ Some n) (λ (p : ℕ × Name). after p.0 p.1 ≡ Some n) (d, x) row.names (edge_here d x (Some n) e)
          (λ (k, y). (
            (λ old. (edge_kept k n y old, λ pair. none_some (sym free ∙ ap (λ (p : ℕ × Name). e p.0 p.1) (sym pair) ∙ old))),
            (λ now. elim (edge_of k n y now.0) [ inl (at_d, name, to) ↦ absurd (now.1 (pair_same k d y x at_d name)) | inr old ↦ old ]),
          )) (way.counted.counts n row there)))
      | inr (other, old) ↦ same_count (λ (p : ℕ × Name). e p.0 p.1 ≡ Some m) (λ (p : ℕ × Name). after p.0 p.1 ≡ Some m) r.names (λ (k, y). (
        (λ was. edge_kept k m y was),
        (λ now. elim (edge_of k m y now) [ inl (at_d, name, to) ↦ absurd (other (sym to)) | inr was ↦ was ]),
      )) (way.counted.counts m r old)
    ]

    reached_new : (m : ℕ) → IsFirst more (length more) m → ((t m).inode.kind ≡ kinds.Directory) × ((p : Path) × (number_at after p ≡ Some m))
    reached_new m (i, below, at) = elim (adds.only i m at) [
      | inl old ↦
          let was = way.counted.reached m (i, slice_get_within found i m old, old) in
          (was.0, (was.1.0, goes e after edge_kept m was.1.0 (Some ROOT_NUMBER) was.1.1))
      | inr (last, is, directory) ↦
          let was = (way.counted.reached d (among.0, slice_get_within found among.0 d among.2, among.2)).1 in
          let to_d = goes e after edge_kept d was.0 (Some ROOT_NUMBER) was.1 in
          subst (λ (k : ℕ). ((t k).inode.kind ≡ kinds.Directory) × ((p : Path) × (number_at after p ≡ Some k))) (sym is)
          (directory, (was.0 ++ x ∷ [], number_at-push after was.0 x ∙ ap (λ o. enter after o x) to_d ∙ edge_here d x (Some n) e))
    ]

    distinct_new : (i j m : ℕ) → slice_get more i ≡ Some m → slice_get more j ≡ Some m → i ≡ j
    distinct_new i j m at_i at_j = elim (adds.only i m at_i) [
      | inl old ↦ elim (adds.only j m at_j) [
        | inl too ↦ way.distinct i j m old too
        | inr (last, is, directory) ↦ absurd (fresh directory i (old ∙ ap (λ (k : ℕ). Some k) is))
      ]
      | inr (last, is, directory) ↦ elim (adds.only j m at_j) [
        | inl old ↦ absurd (fresh directory j (old ∙ ap (λ (k : ℕ). Some k) is))
        | inr too ↦ last ∙ sym too.0
      ]
    ]

    used_new : (k m : ℕ) (y : Name) → after k y ≡ Some m → IsUsed s t y m
    used_new k m y is = elim (edge_of k m y is) [
      | inl (at_d, name, to) ↦
          subst (λ (z : Name). IsUsed s t z m) (sym name) (subst (IsUsed s t x) to (record {
            name = entry.name;
            ordinary = entry.ordinary;
            below = entry.below;
            kind = subst IsNamedKind kind_is kind;
          }))
      | inr old ↦ way.counted.used k m y old
    ]

    pub on_way : IsOnWay s t after count more later
    on_way = record {
      counted = record {
        rows = record {
          length_is = length-set table n new ∙ way.counted.rows.length_is;
          each = λ m r least at. elim (row_of m r at) [
            | inl (same, is) ↦
                let was = way.counted.rows.each n row some there in
                subst (λ (k : ℕ). (r.kind ≡ (t k).inode.kind) × (r.links ≡ (t k).inode.links)) (sym same)
                (ap (λ (q : NumberRow). q.kind) (sym is) ∙ kind_new ∙ was.0, ap (λ (q : NumberRow). q.links) (sym is) ∙ links_new ∙ was.1)
            | inr (other, old) ↦ way.counted.rows.each m r least old
          ];
        };
        from = λ k m y is. elim (edge_of k m y is) [
          | inl (at_d, name, to) ↦ subst (IsFirst more count) (sym at_d) (first_kept count d among)
          | inr old ↦ first_kept count k (way.counted.from k m y old)
        ];
        used = used_new;
        counts = counts_new;
        once = λ m r at never. elim (row_of m r at) [
          | inl (same, is) ↦
              let names : r.names ≡ row.names + 1 = ap (λ (q : NumberRow). q.names) (sym is) ∙ names_new in
              let none : row.names ≡ 0 = few (λ file. never (ap (λ (q : NumberRow). q.kind) (sym is) ∙ kind_new ∙ file)) in
              omega (arith, names, none)
          | inr (other, old) ↦ way.counted.once m r old never
        ];
        finds = λ k m y is directory. elim (edge_of k m y is) [
          | inl (at_d, name, to) ↦ subst (IsFirst more (length more)) to (adds.there (subst (λ (j : ℕ). (t j).inode.kind ≡ kinds.Directory) (sym to) directory))
          | inr old ↦ all_kept m (way.counted.finds k m y old directory)
        ];
        root = all_kept ROOT_NUMBER way.counted.root;
        reached = reached_new;
      };
      distinct = distinct_new;
      sound = λ g k m y is. elim (edge_of k m y is) [
        | inl (at_d, name, to) ↦ ap (λ (j : ℕ). entries g.volume j y) at_d ∙ ap (entries g.volume d) name ∙ leads g ∙ ap (λ (j : ℕ). Some j) to
        | inr old ↦ way.sound g k m y old
      ];
    }
