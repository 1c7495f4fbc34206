-- A tree of which all numbers were looked at.
use Rattle.std.proofs.Common.{◌≡◌, ◌⊎◌, ◌∙◌, ◌-◌, ◌*◌, ◌/◌, ◌%◌, ◌<◌, ◌≤◌, ℕ, zero, suc, Bool, true, false, List, Option, Some, None, drop, refl, sym, ap, subst, inl, inr, arith}
use Rattle.std.specs.Prelude.{◌≢◌, ◌↔◌, if◌then◌else◌, nat_le, nat_lt, slice_index}
use Rattle.std.specs.Int.{div_ceil}
use Rattle.std.proofs.lemmas.Bool.{cases_lt, le-ltb}
use Rattle.layout.specs.Bytes.{zeros}
use Rattle.layout.specs.Inode.{FitsKind, IsInode, inode_bytes}
use Rattle.layout.specs.Limits.{AreSizes, Sizes}
use Rattle.layout.specs.Maps.{IsTaken}
use Rattle.layout.specs.Places.{Blocks, place, pointed}
use Rattle.layout.specs.Root.{IsRoot}
use Rattle.layout.specs.Trees.{level_of}
use Rattle.layout.specs.Version.{greatest_under}
use Rattle.layout.specs.declared.inode.Body.{Body}
use Rattle.layout.specs.declared.inode.Body.TheVariants.{Inline, Pointers}
use Rattle.layout.specs.declared.inode.Inode.{Inode}
use Rattle.layout.specs.declared.kind.Kind.{Kind}
use Rattle.layout.specs.declared.kind.Kind.TheVariants.{Free, InodeFile}
use Rattle.layout.specs.declared.pointer.Pointer.{Pointer}
use Rattle.layout.specs.declared.pointer.Pointer.TheVariants.{Block}
use Rattle.layout.specs.declared.root.Root.{Root}
use Rattle.layout.specs.declared.trees.Layout.{Layout}
use Rattle.images.specs.BlockMap.{HasBit, NamesOnce}
use Rattle.images.specs.Faults.{IsTreeGrammar, MapsWithin}
use Rattle.images.specs.Nodes.{Held, Names, file_block, held}
use Rattle.images.specs.Roots.{HeldTree, Reach, free_inode, frozen_at, frozen_inode_file, inode_bytes_at, inode_part, inode_under, tree, whole}
use Rattle.images.specs.Soundness.{Detail, FitsNumber, IsFileGrammar, IsHeldFile, IsWithin, MapsNumbers, by_sizes}
use Rattle.images.proofs.EmptyLaws.{behind_zeros, free_bytes, free_fits, free_named, part_zeros}
use Rattle.inofile.proofs.ObjectLaws.{free_is}
use Rattle.loading.specs.InodeBlocks.{IsInodeAt}
use Rattle.loading.specs.Laws.{EndTrees, SpellTrees}
use Rattle.checker.specs.Findings.{HasTree, fault_number, first_fault, tree_in}
use Rattle.checker.specs.Nodes.{SharesNone}
use Rattle.checker.specs.Trees.{AreMapped, HasFaultOrNone, HasInodes, HasMaps, HasMarked, IsApart, IsBefore, IsOut, IsSeen, IsSeenTo}
use Rattle.checker.specs.declared.fault.Fault.{Fault}
use Rattle.checker.specs.declared.fault.Fault.TheVariants as faults
use Rattle.checker.specs.declared.nodes.Shared.{Shared}
use Rattle.checker.specs.declared.tree.Tree.{Tree}

-- the tree of a number is one under the inode of an inode file
pub tree_under : (disk : Blocks) (r : Root) (k : ℕ) → HasTree r k → (top : Inode) × (tree_in (whole disk r) k ≡ tree disk r.geometry.inodes top)
unfolding whole
tree_under disk r zero has = (r.inode_file, refl)
tree_under disk r (suc k) has = (frozen_inode_file r.geometry.layout (disk has.0), ap (frozen_at disk r.geometry) has.1)

free_names : (layout : Layout) (disk : Blocks) (m i b : ℕ) → (held disk (free_inode layout)).place m i ≡ Block b → ⊥
free_names layout disk m i b is = free_named layout disk b (record { height = m; index = i; is = is })

free_kind : (n : ℕ) → 3 ≤ n → FitsNumber n Free
free_kind zero le = absurd (omega (arith, le))
free_kind (suc zero) le = absurd (omega (arith, le))
free_kind (suc (suc zero)) le = absurd (omega (arith, le))
free_kind (suc (suc (suc n))) le = tt

-- zeros behind the end of a file
zeros_with : (s : Sizes) (d : Blocks) (f : Inode) (body : Body) (i : ℕ) → f.body ≡ body
    → ((detail : Detail) (s : Sizes) (d : Blocks) (f : Inode) (pointers : List Pointer) (i : ℕ) → IsHeldFile detail s (held d f) → f.body ≡ Pointers pointers
    → file_block (held d f) i ≡ (if nat_lt i (div_ceil f.size 4096) then pointed d (place f.layout d pointers (level_of f.layout f.size - 1) i) else zeros 4096))
    → ((d : Blocks) (f : Inode) (bytes : List ℕ) (i : ℕ) → f.body ≡ Inline bytes → 1 ≤ i → file_block (held d f) i ≡ zeros 4096)
    → IsFileGrammar s (held d f) → 1 ≤ i → div_ceil f.size 4096 ≤ i → file_block (held d f) i ≡ zeros 4096
zeros_with s d f (Inline bytes) i here led inline grammar some past = inline d f bytes i here some
zeros_with s d f (Pointers pointers) i here led inline grammar some past =
    led by_sizes s d f pointers i grammar here
    ∙ ap (λ (b : Bool). if b then pointed d (place f.layout d pointers (level_of f.layout f.size - 1) i) else zeros 4096) (le-ltb i (div_ceil f.size 4096) past)

zeros_behind : (s : Sizes) (d : Blocks) (f : Inode) (i : ℕ)
    → ((detail : Detail) (s : Sizes) (d : Blocks) (f : Inode) (pointers : List Pointer) (i : ℕ) → IsHeldFile detail s (held d f) → f.body ≡ Pointers pointers
    → file_block (held d f) i ≡ (if nat_lt i (div_ceil f.size 4096) then pointed d (place f.layout d pointers (level_of f.layout f.size - 1) i) else zeros 4096))
    → ((d : Blocks) (f : Inode) (bytes : List ℕ) (i : ℕ) → f.body ≡ Inline bytes → 1 ≤ i → file_block (held d f) i ≡ zeros 4096)
    → IsFileGrammar s (held d f) → 1 ≤ i → div_ceil f.size 4096 ≤ i → file_block (held d f) i ≡ zeros 4096
zeros_behind s d f i led inline grammar some past = zeros_with s d f f.body i refl led inline grammar some past

module _ (disk : Blocks) (s : Sizes) (are : AreSizes s) (top : Inode) (t : HeldTree) (is : t ≡ tree disk s.inodes top) (spells : SpellTrees) (ends : EndTrees)
    (led : (detail : Detail) (s : Sizes) (d : Blocks) (f : Inode) (pointers : List Pointer) (i : ℕ) → IsHeldFile detail s (held d f) → f.body ≡ Pointers pointers
    → file_block (held d f) i ≡ (if nat_lt i (div_ceil f.size 4096) then pointed d (place f.layout d pointers (level_of f.layout f.size - 1) i) else zeros 4096))
    (inline : (d : Blocks) (f : Inode) (bytes : List ℕ) (i : ℕ) → f.body ≡ Inline bytes → 1 ≤ i → file_block (held d f) i ≡ zeros 4096)
    (fits : IsInode s top) (kind : top.kind ≡ InodeFile) where
  first : t 0 ≡ held disk top
  unfolding tree inode_under held
  first = ap (λ (x : HeldTree). x 0) is

  inode_is : (i : Inode) → (held disk i).inode ≡ i
  unfolding held
  inode_is i = refl

  past : (n : ℕ) → s.inodes ≤ n → t n ≡ held disk (free_inode s.layout)
  past n le =
      ap (λ (x : HeldTree). x n) is ∙ ends disk s.inodes top n (omega (arith, are.least_inodes)) le
      ∙ ap (λ (l : Layout). held disk (free_inode l)) fits.layout

  names_below : (n b : ℕ) → Names (t n) b → n < s.inodes
  names_below n b names = elim (cases_lt n s.inodes) [
    | inl low ↦ low
    | inr le ↦ absurd (free_named s.layout disk b (subst (λ (h : Held). Names h b) (past n le) names))
  ]

  before : (n places : ℕ) → s.inodes ≤ places → n < s.inodes → IsBefore places n
  before n places most low = inr (omega (arith, most, low))

  -- ---- what is marked

  module _ (places k : ℕ) (marks : List ℕ) (most : s.inodes ≤ places) (marked : HasMarked t places k marks) where
    pub once_all : NamesOnce t
    once_all = record {
      apart = λ n m b one other. marked.apart n m b (before n places most (names_below n b one)) (before m places most (names_below m b other)) one other;
      each = λ n. elim (cases_lt n s.inodes) [
        | inl low ↦ marked.each n (before n places most low)
        | inr le ↦ λ m i l j b one other. absurd (free_names s.layout disk m i b (ap (λ (h : Held). h.place m i) (sym (past n le)) ∙ one))
      ];
    }

    pub reach_all : (b : ℕ) → HasBit k (slice_index marks b) ↔ Reach t b
    reach_all b = (
      λ has. let told = (marked.marked b).0 has in record { file = told.0; names = told.2 },
      λ reach. (marked.marked b).1 (reach.file, before reach.file places most (names_below reach.file b reach.names), reach.names),
    )

  -- ---- the grammar

  free_grammar : IsFileGrammar s (held disk (free_inode s.layout))
  free_grammar = record {
    inode = subst (IsInode s) (sym (inode_is (free_inode s.layout))) (free_fits s);
    indirect = λ m i b here. absurd (free_names s.layout disk (suc m) i b here);
    bytes = tt;
  }

  module _ (version : ℕ) (numbers : List ℕ) (maps : HasMaps s t numbers) (inodes : HasInodes version s t (div_ceil s.inodes 21) (21 * div_ceil s.inodes 21)) where
    most : s.inodes ≤ 21 * div_ceil s.inodes 21
    most = omega arith

    files : (n : ℕ) → IsFileGrammar s (t n)
    files n = elim (cases_lt n s.inodes) [
      | inl low ↦ inodes.files n (before n (21 * div_ceil s.inodes 21) most low)
      | inr le ↦ subst (IsFileGrammar s) (sym (past n le)) free_grammar
    ]

    at : (n : ℕ) → n < s.inodes → IsInodeAt version s n (inode_bytes_at (file_block (t 0)) n)
    at n low = inodes.spelled n (omega (arith, most, low))

    own : (n : ℕ) (some : 1 ≤ n) (low : n < s.inodes) → (t n).inode ≡ (at n low).inode
    own n some low =
        let spelled = ap (λ (h : Held). inode_bytes_at (file_block h) n) (sym first) ∙ (at n low).spelled in
        ap (λ (h : Held). h.inode) (ap (λ (x : HeldTree). x n) is ∙ spells s disk top (at n low).inode n are fits.layout some low (at n low).is spelled) ∙ inode_is (at n low).inode

    kinds_all : (n : ℕ) → FitsNumber n (t n).inode.kind
    kinds_all n = elim (cases_lt n s.inodes) [
      | inr le ↦ subst (λ (i : Inode). FitsNumber n i.kind) (sym (ap (λ (h : Held). h.inode) (past n le) ∙ inode_is (free_inode s.layout))) (free_kind n (omega (arith, le, are.least_inodes)))
      | inl low ↦ elim (cases_lt 0 n) [
        | inl some ↦ subst (λ (i : Inode). FitsNumber n i.kind) (sym (own n some low)) ((at n low).kind.number some low)
        | inr none ↦
            let zero_is : n ≡ 0 = omega (arith, none) in
            subst (λ (m : ℕ). FitsNumber m (t m).inode.kind) (sym zero_is) (ap (λ (h : Held). h.inode.kind) first ∙ ap (λ (i : Inode). i.kind) (inode_is top) ∙ kind)
      ]
    ]

    free_at : (n : ℕ) (low : n < 21 * div_ceil s.inodes 21) → (inodes.spelled n low).inode.kind ≡ Free → inode_bytes_at (file_block (t 0)) n ≡ zeros 192
    free_at n low free = (inodes.spelled n low).spelled ∙ ap inode_bytes (free_is s (inodes.spelled n low).inode (inodes.spelled n low).is free) ∙ free_bytes s.layout

    -- behind the last block of the inode file there are zeros
    behind_all : (i : ℕ) → div_ceil s.inodes 21 ≤ i → file_block (t 0) i ≡ zeros 4096
    behind_all i le =
        let size : top.size ≡ 4096 * div_ceil s.inodes 21 = (subst (λ (k : Kind). FitsKind k s top.attributes top.links top.size) kind fits.kind).2 in
        let some : 1 ≤ i = omega (arith, le, are.least_inodes) in
        ap (λ (h : Held). file_block h i) first ∙ zeros_behind s disk top i led inline (subst (IsFileGrammar s) first (files 0)) some (omega (arith, size, le))

    pub grammar_all : IsTreeGrammar s t
    grammar_all = record {
      files = files;
      kinds = kinds_all;
      root = ap (λ (i : Inode). i.kind) (own 3 (omega arith) (omega (arith, are.least_inodes))) ∙ (at 3 (omega (arith, are.least_inodes))).kind.root refl;
      inodes = record {
        each = λ n some low. (at n low).spelled ∙ ap inode_bytes (sym (own n some low));
        first = free_at 0 (omega (arith, most, are.least_inodes)) ((inodes.spelled 0 (omega (arith, most, are.least_inodes))).kind.none refl);
        past = λ n le. elim (cases_lt n (21 * div_ceil s.inodes 21)) [
          | inl low ↦ free_at n low ((inodes.spelled n low).kind.past le)
          | inr over ↦ ap (λ (bytes : List ℕ). inode_part bytes (n % 21)) (behind_all (n / 21) (omega (arith, over))) ∙ part_zeros (n % 21) (omega arith)
        ];
        behind = λ i. elim (cases_lt i (div_ceil s.inodes 21)) [
          | inl low ↦ inodes.behind i low
          | inr over ↦ ap (drop 4032) (behind_all i over) ∙ behind_zeros
        ];
      };
      inode_map = maps.inode_map (files 1);
      block_map = maps.block_map (files 2);
      readable = maps.readable (files 1);
      numbers = subst (MapsWithin s.inodes) (maps.bytes_are (files 1)) maps.within;
    }

    pub within_all : IsWithin version t
    within_all n = elim (cases_lt n s.inodes) [
      | inl low ↦ inodes.within n (before n (21 * div_ceil s.inodes 21) most low)
      | inr le ↦ subst (λ (i : Inode). i.size ≤ greatest_under version) (sym (ap (λ (h : Held). h.inode) (past n le) ∙ inode_is (free_inode s.layout))) (omega arith)
    ]

    pub mapped_all : AreMapped t numbers (21 * div_ceil s.inodes 21) → MapsNumbers t
    mapped_all mapped n =
        let bytes = maps.bytes_are (files 1) in
        subst (λ (xs : List ℕ). IsTaken xs n ↔ ((n < 4) ⊎ ((t n).inode.kind ≢ Free))) bytes (elim (cases_lt n s.inodes) [
          | inl low ↦ mapped n (omega (arith, most, low))
          | inr le ↦
              let free : (t n).inode.kind ≡ Free = ap (λ (h : Held). h.inode.kind) (past n le) ∙ ap (λ (i : Inode). i.kind) (inode_is (free_inode s.layout)) in (
                λ taken. absurd (maps.within.past n le taken),
                λ either. elim either [ inl low ↦ absurd (omega (arith, low, le, are.least_inodes)) | inr used ↦ absurd (used free) ],
              )
        ])

-- ---- a tree that was looked at to its end

-- of two faults, where both are true
pub first_told : (P : Fault → Type 0) (known : Option Fault) (fault : Fault) → ((g : Fault) → known ≡ Some g → P g) → P fault → (g : Fault) → Some (first_fault known fault) ≡ Some g → P g
first_told P None fault before here g is = (let same : fault ≡ g = cc in subst P same here)
first_told P (Some known) fault before here g is =
    let same : (if nat_le (fault_number known) (fault_number fault) then known else fault) ≡ g = cc in
    subst P same (either_told P (nat_le (fault_number known) (fault_number fault)) known fault (before known refl) here)
  where
    either_told : (P : Fault → Type 0) (b : Bool) (x y : Fault) → P x → P y → P (if b then x else y)
    either_told P true x y one other = one
    either_told P false x y one other = other

pub out_number : (known : Option Fault) → IsOut known → IsApart known → ⊥
out_number (Some (faults.Tree found)) out lt = lt
out_number None out lt = out
out_number (Some (faults.Roots found)) out lt = out
out_number (Some (faults.Snapshot slot block found)) out lt = out
out_number (Some (faults.Shared block one other)) out lt = out
out_number (Some (faults.MapBit block is_entry should)) out lt = out
out_number (Some (faults.InodeMap number is_taken)) out lt = out
out_number (Some (faults.Directory found)) out lt = out
out_number (Some (faults.Links number names links)) out lt = out
out_number (Some (faults.Log found)) out lt = out

module _ (disk : Blocks) (r : Root) (is_root : IsRoot r) (spells : SpellTrees) (ends : EndTrees)
    (led : (detail : Detail) (s : Sizes) (d : Blocks) (f : Inode) (pointers : List Pointer) (i : ℕ) → IsHeldFile detail s (held d f) → f.body ≡ Pointers pointers
    → file_block (held d f) i ≡ (if nat_lt i (div_ceil f.size 4096) then pointed d (place f.layout d pointers (level_of f.layout f.size - 1) i) else zeros 4096))
    (inline : (d : Blocks) (f : Inode) (bytes : List ℕ) (i : ℕ) → f.body ≡ Inline bytes → 1 ≤ i → file_block (held d f) i ≡ zeros 4096)
    (marks : List ℕ) (shared : List (Option Shared)) (t : Tree)
    (seen : IsSeenTo disk r (div_ceil r.geometry.inodes 21) (21 * div_ceil r.geometry.inodes 21) marks shared t) where
  top_of : Inode
  top_of = (tree_under disk r t.plane seen.tree.has).0

  is_under : tree_in (whole disk r) t.plane ≡ tree disk r.geometry.inodes top_of
  unfolding top_of
  is_under = (tree_under disk r t.plane seen.tree.has).1

  top_is : t.top ≡ top_of
  unfolding tree inode_under held
  top_is = sym seen.tree.top ∙ ap (λ (x : HeldTree). (x 0).inode) is_under

  few : r.geometry.inodes ≤ 21 * div_ceil r.geometry.inodes 21
  few = omega arith

  pub grammar_seen : (IsOut t.fault → ⊥) → IsTreeGrammar r.geometry (tree_in (whole disk r) t.plane)
  grammar_seen whole_tree =
      grammar_all disk r.geometry is_root.head.sizes top_of (tree_in (whole disk r) t.plane) is_under spells ends led inline (subst (IsInode r.geometry) top_is seen.tree.fits)
      (ap (λ (i : Inode). i.kind) (sym top_is) ∙ seen.tree.kind) r.version t.numbers.items (seen.maps whole_tree) (seen.inodes whole_tree)

  pub within_seen : (IsOut t.fault → ⊥) → IsWithin r.version (tree_in (whole disk r) t.plane)
  within_seen whole_tree =
      within_all disk r.geometry is_root.head.sizes top_of (tree_in (whole disk r) t.plane) is_under spells ends led inline (subst (IsInode r.geometry) top_is seen.tree.fits)
      (ap (λ (i : Inode). i.kind) (sym top_is) ∙ seen.tree.kind) r.version t.numbers.items (seen.maps whole_tree) (seen.inodes whole_tree)

  -- it is seen, with this fault
  pub seen_with : (f : Option Fault) → HasFaultOrNone disk r (record t { fault = f }) → ((IsOut f → ⊥) → IsOut t.fault → ⊥) → (IsApart f → SharesNone shared t.plane) → (f ≡ None → t.fault ≡ None)
      → IsSeen disk r marks (record t { fault = f })
  seen_with f found out apart none =
      let marked = λ (is : IsApart f). seen.marked (out (λ is_out. out_number f is_out is)) (apart is) in
      let sizes = is_root.head.sizes in
      let under = tree_in (whole disk r) t.plane in
      let fits = subst (IsInode r.geometry) top_is seen.tree.fits in
      let kind = ap (λ (i : Inode). i.kind) (sym top_is) ∙ seen.tree.kind in
      record {
        tree = record { has = seen.tree.has; named = seen.tree.named; top = seen.tree.top; fits = seen.tree.fits; kind = seen.tree.kind; file = seen.tree.file };
        fault = found;
        grammar = λ is. grammar_seen (out is);
        within = λ is. within_seen (out is);
        once = λ is. once_all disk r.geometry sizes top_of under is_under spells ends led inline fits kind (21 * div_ceil r.geometry.inodes 21) t.plane marks few (marked is);
        marked = λ is. reach_all disk r.geometry sizes top_of under is_under spells ends led inline fits kind (21 * div_ceil r.geometry.inodes 21) t.plane marks few (marked is);
        mapped = λ is.
            let whole_tree = λ (is_out : IsOut t.fault). subst IsOut (none is) is_out in
            mapped_all disk r.geometry sizes top_of under is_under spells ends led inline fits kind r.version t.numbers.items (seen.maps whole_tree) (seen.inodes whole_tree) (seen.mapped (none is));
      }
