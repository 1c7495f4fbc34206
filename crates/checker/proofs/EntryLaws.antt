-- Entries of the block map, compared with what the trees name.
use Rattle.std.proofs.Common.{◌≡◌, ◌∙◌, ℕ, zero, suc, ◌+◌, ◌-◌, ◌*◌, ◌/◌, ◌%◌, ◌<◌, ◌≤◌, ◌==◌, if◌then◌else◌, List, length, slice_index, ap, sym, subst, arith, inl, inr}
use Rattle.std.specs.Prelude.{min}
use Rattle.std.proofs.Math.Dec.{eqb-suc-zero}
use Rattle.std.proofs.lemmas.Bool.{cases_lt}
use Rattle.std.proofs.lemmas.List.{get_or_past}
use Rattle.layout.specs.Inode.{IsInode, inode_bytes}
use Rattle.layout.specs.Limits.{Sizes}
use Rattle.layout.specs.Maps.{map_entry}
use Rattle.layout.specs.Places.{Blocks, pointed}
use Rattle.layout.specs.declared.pointer.Pointer.{Pointer}
use Rattle.layout.specs.declared.pointer.Pointer.TheVariants.{Block, Hole}
use Rattle.layout.specs.declared.inode.Inode.{Inode}
use Rattle.layout.specs.declared.root.Root.{Root}
use Rattle.layout.proofs.SizeLaws.{map_size}
use Rattle.layout.proofs.ZeroLaws.{word_zero}
use Rattle.buffers.specs.Disks.{IsWhole}
use Rattle.blocktree.specs.PlaceMaps.{place_at}
use Rattle.blocktree.specs.Trees.{AreSound}
use Rattle.blocktree.specs.declared.place_map.PlaceMap.{PlaceMap}
use Rattle.inode.specs.Files as memory
use Rattle.inode.specs.declared.file.File.{File}
use Rattle.inode.proofs.HeldLaws.{node_past, some_level}
use Rattle.images.specs.BlockMap.{IsExact, entry}
use Rattle.images.specs.Faults.{IsTreeGrammar}
use Rattle.images.specs.Soundness.{HasNoHole, IsFileGrammar, IsReadable, nodes_of_size}
use Rattle.images.specs.Nodes.{Held, file_block, held}
use Rattle.images.specs.Room.{free_at, free_under}
use Rattle.images.specs.Roots.{HeldTree, Whole, inode_bytes_at, whole}
use Rattle.images.specs.Sums.{sum_below}
use Rattle.images.proofs.SumLaws.{same_sum, sum_append, sum_of_none}
use Rattle.loading.specs.Images.{IsFileOfInode}
use Rattle.loading.specs.Laws.{ReadAsHeld, SpellTrees}
use Rattle.checker.specs.Findings.{IsFindingUnder, ShouldHave, tree_in}
use Rattle.checker.specs.Maps.{HasEntries, IsMapFault, entries_in}
use Rattle.checker.specs.Tables.{ArePlaces}
use Rattle.checker.specs.Trees.{IsTreeAt}
use Rattle.checker.specs.declared.fault.Fault.{Fault}
use Rattle.checker.specs.declared.fault.TreeName.TheVariants.{Image}
use Rattle.checker.specs.declared.tree.Tree.{Tree}
use Rattle.checker.proofs.HeldLaws.{blocks_over, grammar_at, own_is, sizes_over, top_grammar}
use Rattle.checker.proofs.OwnerLaws.{AreAllSound, file_sound}
use Rattle.checker.proofs.PlaceLaws.{places_are, stored_at, whole_at}

-- the first so many entries are those that they should be, and so many of them are free
pub record IsCompared (t : HeldTree) (marks : List ℕ) (n free : ℕ) : Type 0 where
  pub same : (b : ℕ) → b < n → entry t b ≡ slice_index marks b
  pub free_is : free ≡ free_under t n

pub compared_none : (t : HeldTree) (marks : List ℕ) → IsCompared t marks 0 0
compared_none t marks = record { same = λ b lt. absurd (omega (arith, lt)); free_is = sym (sum_of_none (free_at t)) }

-- how many are looked at before block j
abbrev pub before_block : ℕ → ℕ → ℕ
before_block blocks j = min blocks (1024 * j)

entry_in : (t : HeldTree) (bytes : List ℕ) (j i : ℕ) → bytes ≡ file_block (t 2) j → i < 1024 → entry t (1024 * j + i) ≡ map_entry bytes i
unfolding entry
entry_in t bytes j i is lt =
    let block : (1024 * j + i) / 1024 ≡ j = omega arith in
    let place : (1024 * j + i) % 1024 ≡ i = omega arith in
    ap (λ (k : ℕ). map_entry (file_block (t 2) k) ((1024 * j + i) % 1024)) block ∙ ap (map_entry (file_block (t 2) j)) place ∙ sym (ap (λ (xs : List ℕ). map_entry xs i) is)

module _ (t : HeldTree) (marks bytes : List ℕ) (blocks j : ℕ) (within : 1024 * j < blocks) (is : bytes ≡ file_block (t 2) j) where
  free_in : (i : ℕ) → i < entries_in blocks j → (if map_entry bytes i == 0 then 1 else 0) ≡ free_at t (1024 * j + i)
  free_in i lt = ap (λ (x : ℕ). if x == 0 then 1 else 0) (sym (entry_in t bytes j i is (omega (arith, lt))))

  -- a block more
  pub compared_more : (free more : ℕ) → IsCompared t marks (before_block blocks j) free → HasEntries bytes blocks j marks more → IsCompared t marks (before_block blocks (j + 1)) (free + more)
  compared_more free more before has =
      let first : before_block blocks j ≡ 1024 * j = omega (arith, within) in
      let all : 1024 * j + entries_in blocks j ≡ before_block blocks (j + 1) = omega (arith, within) in
      subst (λ (n : ℕ). IsCompared t marks n (free + more)) all (record {
        same = λ b lt. elim (cases_lt b (1024 * j)) [
          | inl low ↦ before.same b (omega (arith, low, within))
          | inr high ↦
              let at : 1024 * j + (b - 1024 * j) ≡ b = omega (arith, high) in
              let low : b - 1024 * j < entries_in blocks j = omega (arith, lt, high) in
              subst (λ (n : ℕ). entry t n ≡ slice_index marks n) at (entry_in t bytes j (b - 1024 * j) is (omega (arith, low)) ∙ has.0 (b - 1024 * j) low)
        ];
        free_is =
            let sums = same_sum (λ i. if map_entry bytes i == 0 then 1 else 0) (λ i. free_at t (1024 * j + i)) (entries_in blocks j) free_in in
            let parts = sum_append (free_at t) (1024 * j) (entries_in blocks j) in
            ap (λ (n : ℕ). n + more) (before.free_is ∙ ap (free_under t) first) ∙ ap (λ (n : ℕ). free_under t (1024 * j) + n) (has.1 ∙ sums) ∙ sym parts;
      })

  -- an entry that isn't what it should be
  pub entry_fault : (r : Root) (w : Whole) (nvram : List ℕ) (fault : Fault) → w.active ≡ t → ((b : ℕ) → ShouldHave r w b (slice_index marks b)) → IsMapFault bytes blocks j marks fault
      → IsFindingUnder r w nvram Image fault
  entry_fault r w nvram fault active should (i, lt, differ, told) = subst (IsFindingUnder r w nvram Image) (sym told)
      (ap (λ (x : HeldTree). entry x (1024 * j + i)) active ∙ entry_in t bytes j i is (omega (arith, lt)), differ, should (1024 * j + i))

one_most : (x : ℕ) → (if x == 0 then 1 else 0) ≤ 1
one_most zero = omega arith
one_most (suc x) = let no = eqb-suc-zero x in rw no (omega arith)

few_free : (f : ℕ → ℕ) (n : ℕ) → sum_below (λ i. if f i == 0 then 1 else 0) n ≤ n
unfolding sum_below
few_free f zero = omega arith
few_free f (suc n) = omega (arith, few_free f n, one_most (f n))

pub few_more : (bytes : List ℕ) (blocks j more : ℕ) (marks : List ℕ) → HasEntries bytes blocks j marks more → more ≤ 1024
few_more bytes blocks j more marks has = let few = few_free (map_entry bytes) (entries_in blocks j) in omega (arith, few, has.1)

-- ---- all

-- past the disk's end no entry is set
entry_past : (s : Sizes) (t : HeldTree) (b : ℕ) → IsTreeGrammar s t → s.blocks ≤ b → entry t b ≡ 0
unfolding entry
entry_past s t b grammar past =
    let i = (t 2).inode in
    let size : i.size ≡ 4 * s.blocks = map_size i.kind s i.attributes i.links i.size (grammar.kinds 2) (grammar.files 2).inode.kind in
    word_zero (file_block (t 2) (b / 1024)) (b % 1024) (λ q lt.
    let block : (4 * b + q) / 4096 ≡ b / 1024 = omega arith in
    let place : (4 * b + q) % 4096 ≡ 4 * (b % 1024) + q = omega arith in
    sym (ap (λ (k : ℕ). slice_index (file_block (t 2) k) ((4 * b + q) % 4096)) block ∙ ap (slice_index (file_block (t 2) (b / 1024))) place)
    ∙ grammar.block_map.ends (4 * b + q) (omega (arith, size, past)))

pub exact_of : (r : Root) (w : Whole) (marks : List ℕ) (free : ℕ) → IsTreeGrammar r.geometry w.active → length marks ≡ r.geometry.blocks
    → ((b : ℕ) → ShouldHave r w b (slice_index marks b)) → IsCompared w.active marks r.geometry.blocks free → IsExact r w
exact_of r w marks free grammar long should compared =
    let same : (b : ℕ) → slice_index marks b ≡ entry w.active b = λ b. elim (cases_lt b r.geometry.blocks) [
      | inl lt ↦ sym (compared.same b lt)
      | inr ge ↦ get_or_past marks b 0 (omega (arith, long, ge)) ∙ sym (entry_past r.geometry w.active b grammar ge)
    ] in
    let all : (b : ℕ) → ShouldHave r w b (entry w.active b) = λ b. subst (λ (n : ℕ). ShouldHave r w b n) (same b) (should b) in record {
      active = λ b. (all b).active;
      frozen = λ b k some low. (all b).frozen k some low;
      system = λ b. (all b).system;
    }

-- ---- the map's file as it is read

-- where the blocks of the map's file are, in a tree in its grammar
pub record IsMapRead (s : Sizes) (disk : Blocks) (r : Root) (i : Inode) (places : PlaceMap) : Type 0 where
  pub is : (whole disk r).active 2 ≡ held disk i
  pub grammar : IsFileGrammar s (held disk i)
  pub size : i.size ≡ 4 * s.blocks
  pub large : 128 < i.size
  pub stored : HasNoHole (held disk i)
  pub place : (j : ℕ) → place_at places j ≡ (held disk i).place 0 j

pub map_read : (reads : ReadAsHeld) (spells : SpellTrees) (all : AreAllSound) (s : Sizes) (disk : Blocks) (r : Root) (t : Tree) (i : Inode) (file : File) (places : PlaceMap) (blocks : ℕ)
    → IsTreeAt disk r s blocks t → t.plane ≡ 0 → IsInode s i → inode_bytes_at (memory.file_block disk t.file) 2 ≡ inode_bytes i → IsFileOfInode i file
    → (AreSound blocks disk file.tree → ArePlaces disk file.tree places) → IsMapRead s disk r i places
unfolding held
map_read reads spells all s disk r t i file places blocks at plane fits spelled of are =
    let sizes = sizes_over at.over in
    let grammar = grammar_at at in
    let own : tree_in (whole disk r) t.plane 2 ≡ held disk i =
    own_is reads spells s disk r t 2 i at.over.geometry sizes at.tree (top_grammar disk r s t at.tree grammar) (omega arith) (omega (arith, sizes.least_inodes)) fits spelled in
    let known : IsFileGrammar s (held disk i) = subst (IsFileGrammar s) own (grammar.files 2) in
    let size : i.size ≡ 4 * s.blocks = map_size i.kind s i.attributes i.links i.size (sym (ap (λ (h : Held). h.inode.kind) own) ∙ grammar.kinds 2) fits.kind in
    let large : 128 < i.size = omega (arith, size, sizes.least_blocks) in record {
      is = sym (ap (λ (k : ℕ). tree_in (whole disk r) k 2) plane) ∙ own;
      grammar = known;
      size = size;
      large = large;
      stored = subst HasNoHole own grammar.block_map.stored;
      place = λ j. places_are s disk i file.tree places j large known of.starts (are (file_sound all s disk i file blocks known of (blocks_over at.over)));
    }

module _ (s : Sizes) (disk : Blocks) (r : Root) (i : Inode) (places : PlaceMap) (map : IsMapRead s disk r i places) where
  -- block j of the map
  pub map_block : (j b : ℕ) (bytes : List ℕ) → place_at places j ≡ Block b → bytes ≡ disk b → bytes ≡ file_block ((whole disk r).active 2) j
  map_block j b bytes at read =
      read ∙ ap (pointed disk) (sym at ∙ map.place j) ∙ sym (stored_at s disk i j map.large map.grammar) ∙ sym (ap (λ (h : Held). file_block h j) map.is)

  -- one that can't be read
  pub map_damaged : (j b : ℕ) → place_at places j ≡ Block b → (IsWhole (disk b) → ⊥) → IsReadable ((whole disk r).active 2) → ⊥
  map_damaged j b at damaged readable = damaged (whole_at disk i j (Block b) (subst IsReadable map.is readable) (sym (map.place j) ∙ at))

  -- each is stored
  pub map_stored : (j : ℕ) → 1024 * j < s.blocks → place_at places j ≡ Hole → ⊥
  unfolding held nodes_of_size
  map_stored j low hole = map.stored j (omega (arith, some_level i.layout i.size map.large)) (omega (arith, map.size, low)) (sym (map.place j) ∙ hole)

  -- all of them can be read
  pub map_readable : (n : ℕ) → s.blocks ≤ 1024 * n → ((j : ℕ) → j < n → IsWhole (pointed disk (place_at places j))) → IsReadable ((whole disk r).active 2)
  unfolding held nodes_of_size
  map_readable n all good = subst IsReadable (sym map.is) (λ j b there. elim (cases_lt j n) [
    | inl low ↦ ap (λ (p : Pointer). length (pointed disk p)) (sym (map.place j)) ∙ good j low
    | inr high ↦ (let hole = node_past s disk i 0 j map.grammar (omega (arith, map.size, all, high)) in cc)
  ])
