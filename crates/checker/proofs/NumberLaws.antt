-- A number of a tree that is looked at.
use Rattle.std.proofs.Common.{◌≡◌, ◌∙◌, ℕ, zero, suc, ◌+◌, ◌<◌, ◌≤◌, List, Bool, true, false, refl, ap, arith, sym, subst, inl, inr}
use Rattle.std.specs.Prelude.{◌⊎◌, ◌↔◌, IsTrue, Option, Some, None, slice_index, slice_index_or}
use Rattle.std.proofs.Math.Nat.{eq-or-lt_of_le}
use Rattle.std.proofs.lemmas.Bool.{cases_lt}
use Rattle.layout.specs.Inode.{IsInode, inode_bytes}
use Rattle.layout.specs.Limits.{AreSizes, Sizes}
use Rattle.layout.specs.Maps.{IsTaken}
use Rattle.layout.specs.Places.{Blocks}
use Rattle.layout.specs.Version.{greatest_under}
use Rattle.layout.specs.declared.inode.Inode.{Inode}
use Rattle.layout.specs.declared.kind.Kind.{Kind}
use Rattle.layout.specs.declared.kind.Kind.TheVariants.{Free}
use Rattle.layout.specs.declared.root.Root.{Root}
use Rattle.layout.specs.declared.trees.Layout.{Layout}
use Rattle.images.specs.BlockMap.{HasBit}
use Rattle.images.specs.Contents.{content_bytes, content_of}
use Rattle.images.specs.Faults.{IsTreeGrammar, MapsWithin}
use Rattle.images.specs.Soundness.{IsFileGrammar, IsWithin}
use Rattle.images.specs.Nodes.{Held, IsOnce, Names, file_block, held}
use Rattle.images.specs.Roots.{HeldTree, free_inode, inode_bytes_at, whole}
use Rattle.images.proofs.EmptyLaws.{free_bytes, free_fits, free_named, held_inode}
use Rattle.loading.specs.InodeBlocks.{HasKindOfPlace, IsInodeAt}
use Rattle.loading.specs.Laws.{EndTrees, SpellTrees}
use Rattle.inofile.proofs.ObjectLaws.{free_is}
use Rattle.model.proofs.OptionLaws.{some_same}
use Rattle.checker.specs.Findings.{IsTreeFinding, StandsIn, tree_in}
use Rattle.checker.specs.Nodes.{IsAny, KeepsShared, LooksUnder, MarksNodes, SharesNone}
use Rattle.checker.specs.Rows.{IsMappedAs}
use Rattle.checker.specs.Trees.{HasMarked, IsBefore, IsOut, IsSeenTo, IsTreeOf, SharesBlock}
use Rattle.checker.specs.declared.fault.Fault.{Fault}
use Rattle.checker.specs.declared.fault.Fault.TheVariants.{InodeMap}
use Rattle.checker.specs.declared.fault.FileNode.{FileNode}
use Rattle.checker.specs.declared.nodes.Shared.{Shared}
use Rattle.checker.specs.declared.tree.Tree.{Tree}
use Rattle.checker.proofs.HeldLaws.{kind_of_place, top_is, tree_is}
use Rattle.checker.proofs.OutLaws.{tree_again}
use Rattle.checker.proofs.NodeLaws.{some_or_none}

-- ---- the inode of a number

free_kind : (inodes n : ℕ) → 3 < inodes → (n ≡ 0) ⊎ (inodes ≤ n) → HasKindOfPlace inodes n Free
free_kind inodes n many (inl first) = record { number = λ some lt. absurd (omega (arith, first, some)); root = λ is. absurd (omega (arith, first, is)); none = λ is. refl; past = λ ge. refl }
free_kind inodes n many (inr past) = record { number = λ some lt. absurd (omega (arith, past, lt)); root = λ is. absurd (omega (arith, past, is, many)); none = λ is. refl; past = λ ge. refl }

-- bytes that an inode file in its grammar has at a number are an inode of that place
pub spelled_in : (version : ℕ) (s : Sizes) (t : HeldTree) (n : ℕ) (bytes : List ℕ) → 3 < s.inodes → IsTreeGrammar s t → IsWithin version t → bytes ≡ inode_bytes_at (file_block (t 0)) n
    → ((i : Inode) → IsInode s i → i.size ≤ greatest_under version → bytes ≡ inode_bytes i → HasKindOfPlace s.inodes n i.kind → ⊥) → ⊥
spelled_in version s t zero bytes many grammar within is none =
    none (free_inode s.layout) (free_fits s) (omega arith) (is ∙ grammar.inodes.first ∙ sym (free_bytes s.layout)) (free_kind s.inodes zero many (inl refl))
spelled_in version s t (suc n) bytes many grammar within is none = elim (cases_lt (suc n) s.inodes) [
  | inl lt ↦
      none (t (suc n)).inode (grammar.files (suc n)).inode (within (suc n)) (is ∙ grammar.inodes.each (suc n) (omega arith) lt)
      (kind_of_place s t (suc n) grammar (omega arith) lt)
  | inr past ↦
      none (free_inode s.layout) (free_fits s) (omega arith) (is ∙ grammar.inodes.past (suc n) past ∙ sym (free_bytes s.layout)) (free_kind s.inodes (suc n) many (inr past))
]

-- what hangs from an inode at a number: it is the number's own, or the number is 0 and nothing hangs from it
abbrev pub IsNumbers : Blocks → HeldTree → ℕ → Inode → Type 0
IsNumbers disk t n i = ((1 ≤ n) × (t n ≡ held disk i)) ⊎ ((n ≡ 0) × ((b : ℕ) → Names (held disk i) b → ⊥))

pub numbers_of : (spells : SpellTrees) (ends : EndTrees) (disk : Blocks) (r : Root) (t : Tree) (n : ℕ) (i : Inode) → AreSizes r.geometry → IsTreeOf disk r t
    → IsInode r.geometry i → HasKindOfPlace r.geometry.inodes n i.kind → inode_bytes_at (file_block (tree_in (whole disk r) t.plane 0)) n ≡ inode_bytes i
    → IsNumbers disk (tree_in (whole disk r) t.plane) n i
numbers_of spells ends disk r t zero i are is fits kind spelled =
    let free : i ≡ free_inode r.geometry.layout = free_is r.geometry i fits (kind.none refl) in
    inr (refl, λ b names. free_named r.geometry.layout disk b (subst (λ (f : Inode). Names (held disk f) b) free names))
numbers_of spells ends disk r t (suc n) i are is fits kind spelled = elim (cases_lt (suc n) r.geometry.inodes) [
  | inl lt ↦ inl (
    omega arith,
    ap (λ (h : HeldTree). h (suc n)) (tree_is disk r r.geometry t refl is)
        ∙ spells r.geometry disk t.top i (suc n) are is.fits.layout (omega arith) lt fits (sym (ap (λ (h : Held). inode_bytes_at (file_block h) (suc n)) (top_is disk r t is)) ∙ spelled),
  )
  | inr past ↦
      let free : i ≡ free_inode r.geometry.layout = free_is r.geometry i fits (kind.past past) in
      inl (
        omega arith,
        ap (λ (h : HeldTree). h (suc n)) (tree_is disk r r.geometry t refl is) ∙ ends disk r.geometry.inodes t.top (suc n) (omega arith) past
            ∙ ap (λ (l : Layout). held disk (free_inode l)) is.fits.layout ∙ ap (held disk) (sym free),
      )
]

-- what hangs from it is in its grammar, where the tree is
pub number_grammar : (disk : Blocks) (s : Sizes) (t : HeldTree) (n : ℕ) (i : Inode) → IsNumbers disk t n i → IsInode s i → IsTreeGrammar s t → IsFileGrammar s (held disk i)
number_grammar disk s t n i (inl own) fits grammar = subst (IsFileGrammar s) own.1 (grammar.files n)
number_grammar disk s t n i (inr none) fits grammar = record {
  inode = subst (IsInode s) (sym (held_inode disk i)) fits;
  indirect = λ m k b there. absurd (none.1 b (record { height = suc m; index = k; is = there }));
  bytes = tt;
}

kind_is : (disk : Blocks) (t : HeldTree) (n : ℕ) (i : Inode) → IsNumbers disk t n i → 1 ≤ n → (t n).inode.kind ≡ i.kind
kind_is disk t n i (inl own) some = ap (λ (h : Held). h.inode.kind) own.1 ∙ ap (λ (f : Inode). f.kind) (held_inode disk i)
kind_is disk t n i (inr none) some = absurd (omega (arith, none.0, some))

-- the inode map tells the kind of the number's inode
pub mapped_as : (disk : Blocks) (t : HeldTree) (n : ℕ) (i : Inode) (numbers : List ℕ) → IsNumbers disk t n i → IsMappedAs n i.kind numbers
    → IsTaken numbers n ↔ ((n < 4) ⊎ ((t n).inode.kind ≡ Free → ⊥))
mapped_as disk t n i numbers is mapped = (
  (λ taken. elim (mapped.0 taken) [
    | inl low ↦ inl low
    | inr used ↦ other used (cases_lt n 4)
  ]),
  (λ either. elim either [
    | inl low ↦ mapped.1 (inl low)
    | inr used ↦ back used (cases_lt n 4)
  ]),
)
  where
    other : (i.kind ≡ Free → ⊥) → (n < 4) ⊎ (4 ≤ n) → (n < 4) ⊎ ((t n).inode.kind ≡ Free → ⊥)
    other used (inl low) = inl low
    other used (inr high) = inr (λ free. used (sym (kind_is disk t n i is (omega (arith, high))) ∙ free))

    back : ((t n).inode.kind ≡ Free → ⊥) → (n < 4) ⊎ (4 ≤ n) → IsTaken numbers n
    back used (inl low) = mapped.1 (inl low)
    back used (inr high) = mapped.1 (inr (λ free. used (kind_is disk t n i is (omega (arith, high)) ∙ free)))

-- past the last number none is in use
pub mapped_past : (s : Sizes) (n : ℕ) (i : Inode) (numbers : List ℕ) → 3 < s.inodes → MapsWithin s.inodes numbers → HasKindOfPlace s.inodes n i.kind → s.inodes ≤ n
    → IsMappedAs n i.kind numbers
mapped_past s n i numbers many within kind past = (
  (λ taken. absurd (within.past n past taken)),
  (λ either. elim either [
    | inl low ↦ absurd (omega (arith, low, past, many))
    | inr used ↦ absurd (used (kind.past past))
  ]),
)

free_or_not : (k : Kind) → (k ≡ Free) ⊎ (k ≡ Free → ⊥)
free_or_not Free = inl refl
free_or_not k = inr (λ is. cc)

-- ---- a fault of the inode map

taken_or_not : (b : Bool) → (b ≡ true) ⊎ (b ≡ false)
taken_or_not true = inl refl
taken_or_not false = inr refl

-- the map tells another kind than the inode has
pub map_finding : (disk : Blocks) (r : Root) (t : HeldTree) (n : ℕ) (i : Inode) (numbers : List ℕ) (taken : Bool) → IsNumbers disk t n i → MapsWithin r.geometry.inodes numbers
    → (IsFileGrammar r.geometry (t 1) → numbers ≡ content_bytes (content_of (t 1))) → (1 < n → IsFileGrammar r.geometry (t 1))
    → (IsTrue taken ↔ IsTaken numbers n) → (IsMappedAs n i.kind numbers → ⊥) → IsTreeFinding r t (InodeMap n taken)
map_finding disk r t n i numbers taken is within bytes file told other = elim (cases_lt n 4) [
  | inl low ↦ absurd (other ((λ is_taken. inl low), (λ either. within.own n low)))
  | inr high ↦
      let same : numbers ≡ content_bytes (content_of (t 1)) = bytes (file (omega (arith, high))) in
      let kind : (t n).inode.kind ≡ i.kind = kind_is disk t n i is (omega (arith, high)) in (
        ((λ is_taken. told.1 (subst (λ (bs : List ℕ). IsTaken bs n) (sym same) is_taken)), (λ yes. subst (λ (bs : List ℕ). IsTaken bs n) same (told.0 yes))),
        (
          (λ yes. kind ∙ free_of yes (free_or_not i.kind)),
          (λ free. taken_of high (sym kind ∙ free) (taken_or_not taken)),
        ),
      )
]
  where
    free_of : IsTrue taken → (i.kind ≡ Free) ⊎ (i.kind ≡ Free → ⊥) → i.kind ≡ Free
    free_of told_so (inl free) = free
    free_of told_so (inr used) = absurd (other ((λ is_taken. inr used), (λ either. told.0 told_so)))

    taken_of : 4 ≤ n → i.kind ≡ Free → (taken ≡ true) ⊎ (taken ≡ false) → IsTrue taken
    taken_of high free (inl is_true) = is_true
    taken_of high free (inr is_false) = absurd (other (
      (λ is_taken. absurd (let yes = told.1 is_taken in cc)),
      (λ either. elim either [
        | inl low ↦ absurd (omega (arith, low, high))
        | inr used ↦ absurd (used free)
      ]),
    ))

-- ---- places that were looked at

split : (n m : ℕ) → IsBefore (n + 1) m → IsBefore n m ⊎ ((m ≡ n) × (1 ≤ n))
split n m (inl first) = inl (inl first)
split n m (inr lt) = elim (cases_lt m n) [
  | inl low ↦ inl (inr low)
  | inr high ↦ from (cases_lt m 1)
]
  where
    from : (m < 1) ⊎ (1 ≤ m) → IsBefore n m ⊎ ((m ≡ n) × (1 ≤ n))
    from (inl none) = inl (inl (omega (arith, none)))
    from (inr some) = elim (cases_lt m n) [
      | inl low ↦ inl (inr low)
      | inr high ↦ inr (omega (arith, lt, high), omega (arith, lt, some))
    ]

wider : (n m : ℕ) → IsBefore n m → IsBefore (n + 1) m
wider n m (inl first) = inl first
wider n m (inr lt) = inr (omega (arith, lt))

not_before : (n m : ℕ) → IsBefore n m → m ≡ n → 1 ≤ n → ⊥
not_before n m (inl first) is some = omega (arith, first, is, some)
not_before n m (inr lt) is some = omega (arith, lt, is)

own_is : (disk : Blocks) (t : HeldTree) (n : ℕ) (i : Inode) → IsNumbers disk t n i → 1 ≤ n → t n ≡ held disk i
own_is disk t n i (inl own) some = own.1
own_is disk t n i (inr none) some = absurd (omega (arith, none.0, some))

-- ---- marks

module _ (disk : Blocks) (t : HeldTree) (n k : ℕ) (i : Inode) (is : IsNumbers disk t n i) where
  at : (m : ℕ) → (m ≡ n) × (1 ≤ n) → t m ≡ held disk i
  at m here = ap t here.0 ∙ own_is disk t n i is here.1

  module _ (old new : List ℕ) (was : HasMarked t n k old) (more : MarksNodes (held disk i) IsAny k old new) where
    once : (m : ℕ) → IsBefore n m ⊎ ((m ≡ n) × (1 ≤ n)) → IsOnce (t m)
    once m (inl low) = was.each m low
    once m (inr here) = subst IsOnce (sym (at m here)) (λ a x c y b p q. more.once a x c y b tt tt p q)

    new_old : (m l b : ℕ) → (m ≡ n) × (1 ≤ n) → IsBefore n l → Names (t m) b → Names (t l) b → ⊥
    new_old m l b here low name other =
        let own = subst (λ (h : Held). Names h b) (at m here) name in
        more.apart own.height own.index b tt own.is ((was.marked b).1 (l, low, other))

    apart : (m l b : ℕ) → IsBefore n m ⊎ ((m ≡ n) × (1 ≤ n)) → IsBefore n l ⊎ ((l ≡ n) × (1 ≤ n)) → Names (t m) b → Names (t l) b → m ≡ l
    apart m l b (inl low) (inl small) name other = was.apart m l b low small name other
    apart m l b (inr here) (inl small) name other = absurd (new_old m l b here small name other)
    apart m l b (inl low) (inr there) name other = absurd (new_old l m b there low other name)
    apart m l b (inr here) (inr there) name other = here.0 ∙ sym there.0

    named : (b : ℕ) → Names (held disk i) b → (m : ℕ) × IsBefore (n + 1) m × Names (t m) b
    named b name = elim is [
      | inl own ↦ (n, inr (omega arith), subst (λ (h : Held). Names h b) (sym own.1) name)
      | inr none ↦ absurd (none.1 b name)
    ]

    marked_of : (b : ℕ) → HasBit k (slice_index new b) → (m : ℕ) × IsBefore (n + 1) m × Names (t m) b
    marked_of b bit = elim ((more.marks b).0 bit) [
      | inl before ↦ (let name = (was.marked b).0 before in (name.0, wider n name.0 name.1, name.2))
      | inr here ↦ named b (record { height = here.0; index = here.1; is = here.3 })
    ]

    bit_of : (b m : ℕ) → Names (t m) b → IsBefore n m ⊎ ((m ≡ n) × (1 ≤ n)) → HasBit k (slice_index new b)
    bit_of b m name (inl low) = (more.marks b).1 (inl ((was.marked b).1 (m, low, name)))
    bit_of b m name (inr here) =
        let own = subst (λ (h : Held). Names h b) (at m here) name in
        (more.marks b).1 (inr (own.height, own.index, tt, own.is))

    pub marked_more : HasMarked t (n + 1) k new
    marked_more = record {
      each = λ m before. once m (split n m before);
      apart = λ m l b before low name other. apart m l b (split n m before) (split n l low) name other;
      marked = λ b. (marked_of b, (λ name. bit_of b name.0 name.2 (split n name.0 name.1)));
    }

  -- a block that is named twice now, and wasn't before
  pub shares : (old new : List ℕ) (before after : List (Option Shared)) (s : Shared) → HasMarked t n k old → LooksUnder (held disk i) IsAny k n old new before after
      → SharesNone before k → slice_index_or after k None ≡ Some s → SharesBlock t s
  shares old new before after s was looks none there =
      let found = looks.shared none s there in
      elim is [
        | inr nothing ↦ absurd (nothing.1 s.block (record { height = s.second.height; index = s.second.index; is = found.2 }))
        | inl own ↦
            let second : StandsIn t s.second s.block =
            ap (λ (m : ℕ). (t m).place s.second.height s.second.index) found.0 ∙ ap (λ (h : Held). h.place s.second.height s.second.index) own.1 ∙ found.2 in
            elim found.3 [
              | inl bit ↦
                  let name = (was.marked s.block).0 bit in
                  record {
                    first = record { number = name.0; height = name.2.height; index = name.2.index };
                    there = name.2.is;
                    again = second;
                    other = λ same. not_before n name.0 name.1 (ap (λ (node : FileNode). node.number) same ∙ found.0) own.0;
                  }
              | inr another ↦ record {
                first = record { number = n; height = another.0; index = another.1 };
                there = ap (λ (h : Held). h.place another.0 another.1) own.1 ∙ another.3;
                again = second;
                other = λ same. another.4 (ap (λ (node : FileNode). node.height) same, ap (λ (node : FileNode). node.index) same);
              }
            ]
      ]

-- ---- what is known of a tree, at the next number

no_some : {s : Shared} → Some s ≡ None → ⊥
no_some is = cc

module _ (disk : Blocks) (r : Root) (i n : ℕ) (old new : List ℕ) (before after : List (Option Shared)) (t : Tree) (inode : Inode) (was : IsSeenTo disk r i n old before t) (inside : IsOut t.fault → ⊥) (is : IsNumbers disk (tree_in (whole disk r) t.plane) n inode) (looks : LooksUnder (held disk inode) IsAny t.plane n old new before after) (kept : KeepsShared before after) where
  none_before : SharesNone after t.plane → SharesNone before t.plane
  none_before none = elim (some_or_none (slice_index_or before t.plane None)) [
    | inl is_none ↦ is_none
    | inr one ↦ absurd (no_some (sym (kept t.plane one.0 one.1) ∙ none))
  ]

  pub seen_more : (f : Option Fault) → IsInodeAt r.version r.geometry n (inode_bytes_at (file_block (tree_in (whole disk r) t.plane 0)) n) → inode.size ≤ greatest_under r.version
      → IsFileGrammar r.geometry (held disk inode) → ((fault : Fault) → f ≡ Some fault → IsTreeFinding r (tree_in (whole disk r) t.plane) fault) → (f ≡ None → (t.fault ≡ None) × IsMappedAs n inode.kind t.numbers.items)
      → IsSeenTo disk r i (n + 1) new after (record t { fault = f })
  seen_more f spelled small grammar finds mapped =
      let inodes = was.inodes inside in
      record {
        tree = tree_again disk r t f was.tree;
        fault = finds;
        maps = λ _. was.maps inside;
        inodes = λ _. record {
          files = λ m low. elim (split n m low) [
            | inl less ↦ inodes.files m less
            | inr here ↦ subst (IsFileGrammar r.geometry) (sym (at disk (tree_in (whole disk r) t.plane) n t.plane inode is m here)) grammar
          ];
          within = λ m low. elim (split n m low) [
            | inl less ↦ inodes.within m less
            | inr here ↦ subst (λ (h : Held). h.inode.size ≤ greatest_under r.version) (sym (at disk (tree_in (whole disk r) t.plane) n t.plane inode is m here))
                (subst (λ (i : Inode). i.size ≤ greatest_under r.version) (sym (held_inode disk inode)) small)
          ];
          spelled = λ m lt. let most : m ≤ n = omega (arith, lt) in elim (eq-or-lt_of_le most) [
            | inl same ↦ subst (λ (l : ℕ). IsInodeAt r.version r.geometry l (inode_bytes_at (file_block (tree_in (whole disk r) t.plane 0)) l)) (sym same) spelled
            | inr less ↦ inodes.spelled m less
          ];
          behind = inodes.behind;
        };
        marked = λ _ none. marked_more disk (tree_in (whole disk r) t.plane) n t.plane inode is old new (was.marked inside (none_before none)) (looks.marked none);
        shared_is = λ _ s there. elim (some_or_none (slice_index_or before t.plane None)) [
          | inl none ↦ shares disk (tree_in (whole disk r) t.plane) n t.plane inode is old new before after s (was.marked inside none) looks none there
          | inr one ↦ subst (SharesBlock (tree_in (whole disk r) t.plane)) (some_same (sym (kept t.plane one.0 one.1) ∙ there)) (was.shared_is inside one.0 one.1)
        ];
        mapped = λ none m lt. let most : m ≤ n = omega (arith, lt) in elim (eq-or-lt_of_le most) [
          | inl same ↦
              subst (λ (l : ℕ). IsTaken t.numbers.items l ↔ ((l < 4) ⊎ ((tree_in (whole disk r) t.plane l).inode.kind ≡ Free → ⊥))) (sym same)
              (mapped_as disk (tree_in (whole disk r) t.plane) n inode t.numbers.items is (mapped none).1)
          | inr less ↦ was.mapped (mapped none).0 m less
        ];
      }
