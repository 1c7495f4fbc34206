-- The graph of a tree's names, from what is known when all its directories were looked into.
use Rattle.std.proofs.Common.{◌≡◌, ◌≢◌, ◌⊎◌, inl, inr, ℕ, zero, suc, ◌≤◌, ◌<◌, List, [], ◌∷◌, ◌++◌, length, fold, Option, Some, None, IsSome, IsTrue, IsFalse, slice_get, refl, ap, sym, subst, ◌∙◌, arith}
use Rattle.std.proofs.Math.Path.{fun_ext}
use Rattle.std.proofs.lemmas.Bool.{both_ways, cases_eq, cases_lt}
use Rattle.std.proofs.lemmas.Option.{slice_get_cases}
use Rattle.layout.specs.Limits.{Sizes}
use Rattle.layout.specs.Places.{Blocks}
use Rattle.layout.specs.declared.kind.Kind.{Kind}
use Rattle.layout.specs.declared.kind.Kind.TheVariants as kinds
use Rattle.layout.specs.declared.pointer.Pointer.{Pointer}
use Rattle.layout.specs.declared.pointer.Pointer.TheVariants.{Block, Hole}
use Rattle.layout.specs.declared.root.Root.{Root}
use Rattle.model.specs.declared.attributes.Attributes.{Attributes}
use Rattle.model.specs.Counting.{Counts}
use Rattle.model.specs.Paths.{IsName, Name, Path}
use Rattle.model.specs.Volumes.{CountsNames, Entries, HasNames, IsNaming, Node, Volume, directory_node, enter, entries, file_node, is_directory_node, is_file_node, names_in, number_at}
use Rattle.model.specs.declared.limits.TheConstants.{FIRST_NUMBER, ROOT_NUMBER}
use Rattle.model.proofs.KeptLemmas.{same_or_not}
use Rattle.model.proofs.OptionLaws.{absent, none_some, some_same}
use Rattle.model.proofs.WalkLemmas.{number_at-push}
use Rattle.model.proofs.VolumeLemmas.{enters_directory}
use Rattle.images.specs.Contents.{Content, HoldsVolume, StandsAs, content_bytes, content_of, tree_contents}
use Rattle.images.specs.Faults.{HoldsGraph, HoldsNames, IsTreeGrammar}
use Rattle.images.specs.Nodes.{Held, held}
use Rattle.images.specs.Roots.{HeldTree, frozen_at, frozen_inode_file, slot, whole}
use Rattle.images.specs.Soundness.{FitsNumber}
use Rattle.images.proofs.KindLaws.{directory_kind}
use Rattle.images.proofs.ReadingLaws.{read_past}
use Rattle.checker.specs.Findings.{HasOneName, IsNamedKind, IsTreeFinding, tree_in}
use Rattle.checker.specs.Links.{AreLinked, AreReached, IsRow, IsUnlinked, IsUnreached}
use Rattle.checker.specs.Names.{IsAllWalked, IsFirst}
use Rattle.checker.proofs.WalkLaws.{some_place}
use Rattle.checker.specs.declared.fault.Fault.{Fault}
use Rattle.checker.specs.declared.names.NumberRow.{NumberRow}

-- ---- the kinds of objects

no_file : {X : Type 0} (o node : Option Node) → o ≡ node → IsFalse (is_file_node node) → IsTrue (is_file_node o) → X
no_file o node same not is = absurd (both_ways (is_file_node node) not (sym (ap is_file_node same) ∙ is))

file_kind : (k : Kind) (inodes : ℕ) (c : Content) (o : Option Node) → StandsAs k inodes c o → IsTrue (is_file_node o) → k ≡ kinds.File
file_kind kinds.File inodes c o stands is = refl
file_kind kinds.Directory inodes c o stands is = no_file o _ stands.2 refl is
file_kind kinds.Free inodes c o stands is = no_file o _ stands refl is
file_kind kinds.Link inodes c o stands is = no_file o _ stands refl is
file_kind kinds.InodeFile inodes c o stands is = no_file o _ stands refl is
file_kind kinds.InodeMap inodes c o stands is = no_file o _ stands refl is
file_kind kinds.BlockMap inodes c o stands is = no_file o _ stands refl is

one_name : (k : Kind) (inodes : ℕ) (c : Content) (o : Option Node) → StandsAs k inodes c o → IsSome o → IsFalse (is_file_node o) → HasOneName k
one_name kinds.File inodes c o stands some not = no_file (Some (file_node c.attributes c.links (content_bytes c))) o (sym stands) not refl
one_name kinds.Directory inodes c o stands some not = tt
one_name kinds.Link inodes c o stands some not = tt
one_name kinds.Free inodes c o stands some not = absent o stands some
one_name kinds.InodeFile inodes c o stands some not = absent o stands some
one_name kinds.InodeMap inodes c o stands some not = absent o stands some
one_name kinds.BlockMap inodes c o stands some not = absent o stands some

-- what has one name is an object, and no file
one_object : (k : Kind) (inodes : ℕ) (c : Content) (o : Option Node) → StandsAs k inodes c o → HasOneName k → IsSome o × IsFalse (is_file_node o)
one_object kinds.Directory inodes c o stands one = (subst IsSome (sym stands.2) refl, ap is_file_node stands.2)
one_object kinds.Link inodes c o stands one = (subst IsSome (sym stands) refl, ap is_file_node stands)
one_object _ inodes c o stands one = absurd one

named_object : (k : Kind) (inodes : ℕ) (c : Content) (o : Option Node) → StandsAs k inodes c o → IsNamedKind k → IsSome o
named_object kinds.File inodes c o stands named = subst IsSome (sym stands) refl
named_object kinds.Directory inodes c o stands named = subst IsSome (sym stands.2) refl
named_object kinds.Link inodes c o stands named = subst IsSome (sym stands) refl
named_object _ inodes c o stands named = absurd named

-- only ordinary numbers and the root directory's have such a kind
named_high : (n : ℕ) (k : Kind) → FitsNumber n k → IsNamedKind k → 3 ≤ n
named_high zero k fits named = absurd (subst IsNamedKind fits named)
named_high (suc zero) k fits named = absurd (subst IsNamedKind fits named)
named_high (suc (suc zero)) k fits named = absurd (subst IsNamedKind fits named)
named_high (suc (suc (suc n))) k fits named = omega arith

one_named : (k : Kind) → HasOneName k → IsNamedKind k
one_named kinds.Directory one = tt
one_named kinds.Link one = tt
one_named _ one = absurd one

-- ---- counts

one_counted : (P : ℕ × Name → Type 0) (count : ℕ) → Counts P count → count ≤ 1 → (a b : ℕ × Name) → P a → P b → a ≡ b
one_counted P zero none few a b one other = absurd (none a one)
one_counted P (suc zero) (c, here, none) few a b one other = to_c a one ∙ sym (to_c b other)
  where
    to_c : (d : ℕ × Name) → P d → d ≡ c
    to_c d is = elim (same_or_not d c) [ inl same ↦ same | inr apart ↦ absurd (none d (is, apart)) ]
one_counted P (suc (suc count)) counts few a b one other = absurd (omega (arith, few))

-- ---- what was looked into

-- a tree in its grammar, which ends with its last number; and of what files hold that it is one volume at most
pub record IsKnown (s : Sizes) (t : HeldTree) : Type 0 where
  pub grammar : IsTreeGrammar s t
  pub ends : (n : ℕ) → s.inodes ≤ n → (t n).inode.kind ≡ kinds.Free
  pub once : (files : ℕ → Content) (v w : Volume) → HoldsVolume s.inodes files v → HoldsVolume s.inodes files w → v ≡ w

module _ (s : Sizes) (t : HeldTree) (known : IsKnown s t) (e : Entries) (found : List ℕ) (table : List NumberRow) (walked : IsAllWalked s t e found table) where
  abbrev IsFound : ℕ → Type 0
  IsFound n = IsFirst found (length found) n

  -- a number is the root's, or has a name
  abbrev Reaches : ℕ → Type 0
  Reaches n = (n ≡ ROOT_NUMBER) ⊎ ((d : ℕ) × (x : Name) × (e d x ≡ Some n))

  found_if : (n : ℕ) → Reaches n → (t n).inode.kind ≡ kinds.Directory → IsFound n
  found_if n (inl is) kind = subst IsFound (sym is) walked.counted.root
  found_if n (inr (d, x, is)) kind = walked.counted.finds d n x is kind

  record RowOf (n : ℕ) : Type 0 where
    row : NumberRow
    at : slice_get table n ≡ Some row
    kind : row.kind ≡ (t n).inode.kind
    links : row.links ≡ (t n).inode.links

  row_below : (n : ℕ) → 1 ≤ n → n < s.inodes → RowOf n
  row_below n some lt = elim (slice_get_cases table n).1 [
    | inl there ↦
        let has = walked.counted.rows.each n there.0 some there.2 in
        record { row = there.0; at = there.2; kind = has.0; links = has.1 }
    | inr past ↦ absurd (omega (arith, lt, past.0, walked.counted.rows.length_is))
  ]

  row_of : (n : ℕ) → IsNamedKind (t n).inode.kind → RowOf n
  row_of n named = elim (cases_lt n s.inodes) [
    | inl lt ↦ row_below n (omega (arith, named_high n (t n).inode.kind (known.grammar.kinds n) named)) lt
    | inr ge ↦ absurd (subst IsNamedKind (known.ends n ge) named)
  ]

  module _ (are : AreReached table) where
    one_reached : (n : ℕ) → HasOneName (t n).inode.kind → Reaches n
    one_reached n one = elim (cases_eq n ROOT_NUMBER) [
      | inl is ↦ inl is
      | inr other ↦
          let named = one_named (t n).inode.kind one in
          let high : 3 ≤ n = named_high n (t n).inode.kind (known.grammar.kinds n) named in
          let row = row_of n named in
          let there = some_place _ row.row.names (λ none. omega (arith, none, are n row.row (omega (arith, high, other), row.at) (subst HasOneName (sym row.kind) one))) (walked.counted.counts n row.row row.at) in
          inr (there.0.0, there.0.1, there.1)
    ]

    is_found : (d : ℕ) → (t d).inode.kind ≡ kinds.Directory → IsFound d
    is_found d kind = found_if d (one_reached d (subst HasOneName (sym kind) tt)) kind

    object : (n : ℕ) → (o : Option Node) × StandsAs (t n).inode.kind s.inodes (content_of (t n)) o
    object n = by (t n).inode.kind refl
      where
        by : (k : Kind) → (t n).inode.kind ≡ k → (o : Option Node) × StandsAs k s.inodes (content_of (t n)) o
        by kinds.Directory is = (_, (e n, (walked.names n (is_found n is)).1, refl))
        by kinds.File is = (_, refl)
        by kinds.Link is = (_, refl)
        by kinds.Free is = (_, refl)
        by kinds.InodeFile is = (_, refl)
        by kinds.InodeMap is = (_, refl)
        by kinds.BlockMap is = (_, refl)

  -- ---- a volume that the tree holds

  module _ (v : Volume) (holds : HoldsVolume s.inodes (tree_contents t) v) where
    -- a directory that was found has these names
    directory_at : (d : ℕ) → IsFound d → v d ≡ Some (directory_node (t d).inode.attributes (e d))
    directory_at d is =
        let c = content_of (t d) in
        ap (λ (w : Volume). w 0) (known.once (λ _. c) (λ _. v d) (λ _. Some (directory_node c.attributes (e d))) (λ _. holds d)
        (λ _. subst (λ (k : Kind). StandsAs k s.inodes c (Some (directory_node c.attributes (e d)))) (sym (walked.counted.reached d is).0) (e d, (walked.names d is).1, refl)))

    same_entry : (d : ℕ) (x : Name) → IsFound d → entries v d x ≡ e d x
    same_entry d x is = ap (λ (o : Option Node). names_in o x) (directory_at d is)

    kind_of : (d : ℕ) (x : Name) (n : ℕ) → entries v d x ≡ Some n → (t d).inode.kind ≡ kinds.Directory
    kind_of d x n is = directory_kind (t d).inode.kind s.inodes (content_of (t d)) (v d) (holds d) (enters_directory (v d) x n is)

    -- what a path leads to has a name
    path_reaches : (p : Path) (o : Option ℕ) (n : ℕ) → ((k : ℕ) → o ≡ Some k → Reaches k) → fold (enter (entries v)) o p ≡ Some n → Reaches n
    path_reaches [] o n so is = so n is
    path_reaches (x ∷ p) o n so is = path_reaches p (enter (entries v) o x) n (step o so) is
      where
        step : (o : Option ℕ) → ((k : ℕ) → o ≡ Some k → Reaches k) → (m : ℕ) → enter (entries v) o x ≡ Some m → Reaches m
        step None so m is = none_some is
        step (Some k) so m is = inr (k, x, sym (same_entry k x (found_if k (so k refl) (kind_of k x m is))) ∙ is)

    -- where a directory or a link has no name, its names aren't such
    unreached : (fault : Fault) → IsUnreached table fault → IsNaming v → ⊥
    unreached fault (n, row, is_row, one, none, is) naming =
        let kind = (walked.counted.rows.each n row (omega (arith, is_row.0)) is_row.1).0 in
        let thing = one_object (t n).inode.kind s.inodes (content_of (t n)) (v n) (holds n) (subst HasOneName kind one) in
        let path = naming.reached n thing.0 thing.1 in
        elim (path_reaches path.0 (Some ROOT_NUMBER) n (λ k is_root. inl (sym (some_same is_root))) path.1) [
          | inl root ↦ omega (arith, root, is_row.0)
          | inr there ↦ subst (HasNames e n) none (walked.counted.counts n row is_row.1) (there.0, there.1) there.2
        ]

    module _ (are : AreReached table) where
      entries_are : entries v ≡ e
      entries_are = fun_ext (λ d. fun_ext (λ x. by d x (entries v d x) (e d x) refl refl))
        where
          by : (d : ℕ) (x : Name) (o p : Option ℕ) → entries v d x ≡ o → e d x ≡ p → entries v d x ≡ e d x
          by d x (Some n) p one other = same_entry d x (is_found are d (kind_of d x n one))
          by d x None (Some n) one other = same_entry d x (walked.counted.from d n x other)
          by d x None None one other = one ∙ sym other

      named : (d : ℕ) (x : Name) (n : ℕ) → entries v d x ≡ Some n → e d x ≡ Some n
      named d x n is = sym (ap (λ (f : Entries). f d x) entries_are) ∙ is

      names_are : (n : ℕ) (row : NumberRow) → slice_get table n ≡ Some row → HasNames (entries v) n row.names
      names_are n row at = subst (λ (f : Entries). HasNames f n row.names) (sym entries_are) (walked.counted.counts n row at)

      -- a file stands with its links
      file_at : (n : ℕ) → (t n).inode.kind ≡ kinds.File → v n ≡ Some (file_node (t n).inode.attributes (t n).inode.links (content_bytes (content_of (t n))))
      file_at n kind = subst (λ (k : Kind). StandsAs k s.inodes (content_of (t n)) (v n)) kind (holds n)

      -- where a file's names are not as many as its links, they are these
      unlinked : (n : ℕ) (row : NumberRow) → IsRow table n row → row.kind ≡ kinds.File → row.names ≢ row.links
          → HasNames (entries v) n row.names × (row.names ≢ row.links) × (attributes : Attributes) × (bytes : List ℕ) × (v n ≡ Some (file_node attributes row.links bytes))
      unlinked n row is_row file differ =
          let has = walked.counted.rows.each n row (omega (arith, is_row.0)) is_row.1 in (
            names_are n row is_row.1,
            differ,
            (t n).inode.attributes,
            content_bytes (content_of (t n)),
            file_at n (sym has.0 ∙ file) ∙ ap (λ (links : ℕ). Some (file_node (t n).inode.attributes links (content_bytes (content_of (t n))))) (sym has.1),
          )

      entry_once : (d k n : ℕ) (x y : Name) → entries v d x ≡ Some n → entries v k y ≡ Some n → IsFalse (is_file_node (v n)) → (d ≡ k) × (x ≡ y)
      entry_once d k n x y one other not =
          let used = walked.counted.used d n x (named d x n one) in
          let row = row_below n (omega (arith, used.ordinary)) used.below in
          let few = walked.counted.once n row.row row.at (λ file. both_ways (is_file_node (v n)) not (ap is_file_node (file_at n (sym row.kind ∙ file)))) in
          let same = one_counted (λ (place : ℕ × Name). entries v place.0 place.1 ≡ Some n) row.row.names (names_are n row.row row.at) few (d, x) (k, y) one other in
          (ap (λ (place : ℕ × Name). place.0) same, ap (λ (place : ℕ × Name). place.1) same)

      is_name : (d : ℕ) (x : Name) (o : Option ℕ) → entries v d x ≡ o → IsSome o → IsName x
      is_name d x None is some = absent {X = ℕ} None (λ i. None) some
      is_name d x (Some n) is some = (walked.counted.used d n x (named d x n is)).name

      found_at : (n : ℕ) → IsSome (v n) → IsFalse (is_file_node (v n)) → (p : Path) × (number_at (entries v) p ≡ Some n)
      found_at n some not = elim (one_reached are n (one_name (t n).inode.kind s.inodes (content_of (t n)) (v n) (holds n) some not)) [
        | inl is ↦ ([], ap (λ (k : ℕ). Some k) (sym is))
        | inr (d, x, is) ↦
            let (p, there) = (walked.counted.reached d (walked.counted.from d n x is)).1 in (
              p ++ x ∷ [],
              subst (λ (f : Entries). number_at f (p ++ x ∷ []) ≡ Some n) (sym entries_are)
                  (number_at-push e p x ∙ ap (λ (o : Option ℕ). enter e o x) there ∙ is),
            )
      ]

      naming : IsNaming v
      naming = record {
        root = ap is_directory_node (directory_at ROOT_NUMBER walked.counted.root);
        not_root = λ d x is. omega (arith, (walked.counted.used d ROOT_NUMBER x (named d x ROOT_NUMBER is)).ordinary);
        used = λ d n x is. named_object (t n).inode.kind s.inodes (content_of (t n)) (v n) (holds n) (walked.counted.used d n x (named d x n is)).kind;
        once = entry_once;
        names = λ d x some. is_name d x (entries v d x) refl some;
        reached = found_at;
      }

      module _ (linked : AreLinked table) where
        counted : CountsNames v
        counted n attributes links bytes is =
            let c = content_of (t n) in
            let kind = file_kind c.kind s.inodes c (v n) (holds n) (ap is_file_node is) in
            let file = subst IsNamedKind (sym kind) tt in
            let high = named_high n c.kind (known.grammar.kinds n) file in
            let row = row_of n file in
            let ordinary : FIRST_NUMBER ≤ n = elim (cases_eq n ROOT_NUMBER) [
              | inl root ↦ absurd (no_root (sym kind ∙ ap (λ (k : ℕ). (t k).inode.kind) root ∙ known.grammar.root))
              | inr other ↦ omega (arith, high, other)
            ] in
            let same : row.row.names ≡ links = linked n row.row (ordinary, row.at) (row.kind ∙ kind) ∙ row.links ∙ links_same (sym (file_at n kind) ∙ is) in
            subst (HasNames (entries v) n) same (names_are n row.row row.at)
          where
            no_root : kinds.File ≡ kinds.Directory → ⊥
            no_root other = cc

            links_same : {a b : Attributes} {k l : ℕ} {x y : List ℕ} → Some (file_node a k x) ≡ Some (file_node b l y) → k ≡ l
            links_same same = cc

-- ---- what the rows tell

-- there are names and found directories by which all directories of a tree were looked into
abbrev pub HasWalked : Sizes → HeldTree → List NumberRow → Type 0
HasWalked s t table = (e : Entries) × (found : List ℕ) × IsAllWalked s t e found table

module _ (r : Root) (t : HeldTree) (known : IsKnown r.geometry t) (table : List NumberRow) (walked : HasWalked r.geometry t table) where
  pub unreached_finding : (fault : Fault) → IsUnreached table fault → IsTreeFinding r t fault
  unreached_finding fault none =
      let row = walked.2.counted.rows.each none.0 none.1 (omega (arith, none.2.0)) none.2.1 in
      subst (IsTreeFinding r t) (sym none.5) (
        λ (g : HoldsNames r.geometry.inodes t).
            unreached r.geometry t known walked.0 walked.1 table walked.2 g.volume g.holds fault
            none g.naming,
        subst HasOneName row.0 none.3,
      )

  module _ (are : AreReached table) where
    abbrev held_volume : Volume
    held_volume n = (object r.geometry t known walked.0 walked.1 table walked.2 are n).0

    held_is : HoldsVolume r.geometry.inodes (tree_contents t) held_volume
    held_is = λ n. (object r.geometry t known walked.0 walked.1 table walked.2 are n).1

    pub unlinked_finding : (fault : Fault) → IsUnlinked table fault → IsTreeFinding r t fault
    unlinked_finding fault (n, row, is_row, file, differ, is) =
        let told = unlinked r.geometry t known walked.0 walked.1 table walked.2 held_volume
        held_is are n row is_row file differ in
        subst (IsTreeFinding r t) (sym is)
        (held_volume, held_is, told.0, told.1, told.2, told.3, told.4)

    pub holds_graph : AreLinked table → HoldsGraph r.geometry.inodes t
    holds_graph linked =
        let v = held_volume in
        let holds = held_is in
        record {
          names = record {
            readable = λ n kind. (walked.2.names n (is_found r.geometry t known walked.0 walked.1 table walked.2 are n kind)).0;
            volume = v;
            holds = holds;
            naming = naming r.geometry t known walked.0 walked.1 table walked.2 v holds are;
          };
          counts = counted r.geometry t known walked.0 walked.1 table walked.2 v holds are linked;
        }

-- past the last number all is free
frozen_ends : (d : Blocks) (s : Sizes) (n : ℕ) (p : Pointer) → 1 ≤ s.inodes → s.inodes ≤ n → (frozen_at d s p n).inode.kind ≡ kinds.Free
unfolding held
frozen_ends d s n Hole some past = refl
frozen_ends d s n (Block b) some past =
    ap (λ (h : Held). h.inode.kind) (read_past d s.inodes (frozen_inode_file s.layout (d b)) n (omega (arith, some, past)) past)

pub tree_ends : (d : Blocks) (r : Root) (k n : ℕ) → 1 ≤ r.geometry.inodes → r.geometry.inodes ≤ n → (tree_in (whole d r) k n).inode.kind ≡ kinds.Free
unfolding held whole
tree_ends d r zero n some past = ap (λ (h : Held). h.inode.kind) (read_past d r.geometry.inodes r.inode_file n (omega (arith, some, past)) past)
tree_ends d r (suc k) n some past = frozen_ends d r.geometry n (slot r (suc k)) some past
