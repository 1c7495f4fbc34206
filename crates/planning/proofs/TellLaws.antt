-- Blocks of the inode map that tell of their numbers what they told.
use Rattle.layout.specs.declared.trees.Layout.{Layout}
use Rattle.std.proofs.Common.{◌≡◌, ◌≢◌, ◌↔◌, ◌⊎◌, inl, inr, ℕ, zero, suc, ◌+◌, ◌*◌, ◌/◌, ◌%◌, ◌<◌, ◌≤◌, List, length, ap, sym, subst, ◌∙◌, arith}
use Rattle.std.proofs.lemmas.Bool.{cases_eq, cases_lt}
use Rattle.std.proofs.lemmas.Bool.Decides.{nat_tests}
use Rattle.std.proofs.lemmas.List.{get_or_default, get_or_past, same_lists}
use Rattle.std.proofs.lemmas.List.FromFn.{get_or-map-range_with_len, length-map-range_with_len}
use Rattle.std.proofs.lemmas.Nat.Bits.{bit_at-lt, same_from_bits_below}
use Rattle.std.specs.Int.{bit_at}
use Rattle.std.specs.Prelude.{IsSome, slice_index}
use Rattle.layout.specs.FileBytes.{EndsAt, byte_in, first_bytes}
use Rattle.layout.specs.Inode.{FitsBody}
use Rattle.layout.specs.Limits.{Sizes}
use Rattle.layout.specs.Trees.{level_of}
use Rattle.layout.specs.declared.inode.Body.{Body}
use Rattle.layout.specs.declared.inode.Body.TheVariants.{Inline, Pointers}
use Rattle.model.specs.Volumes.{Volume}
use Rattle.blocktree.specs.Places.{block_count}
use Rattle.blocktree.specs.Trees.{IsChanged}
use Rattle.conspoint.specs.Space.{block_stores, changed_blocks}
use Rattle.images.specs.Contents.{HoldsVolume, content_bytes, content_of, tree_contents}
use Rattle.images.specs.Nodes.{file_block}
use Rattle.images.specs.Roots.{HeldTree}
use Rattle.images.specs.Soundness.{IsSoundTree}
use Rattle.inode.specs.Bases.{StartsUnchanged}
use Rattle.inode.specs.Files.{file_block as blocks_of}
use Rattle.inode.specs.declared.file.File.{File}
use Rattle.inofile.specs.Volumes.{MapsVolume}
use Rattle.placement.specs.Space.{tops_stored, file_stores, height_stores, level_stores, more_over}
use Rattle.planning.specs.Space.{CountsBlocks, TellsSame}
use Rattle.planning.proofs.MapLaws.{stands_none, stands_some}
use Rattle.planning.proofs.TopLaws.{stored_most}
use Rattle.layout.proofs.SizeLaws.{level_none}
use Rattle.images.proofs.KindLaws.{ordinary_kind}
use Rattle.images.specs.Sums.{sum_below}
use Rattle.images.proofs.SumLaws.{one_more, sum_of_none}

-- ---- bits and bytes

same_bit : (a b i : ℕ) → (bit_at a i ≡ 1) ↔ (bit_at b i ≡ 1) → bit_at a i ≡ bit_at b i
same_bit a b i iff = elim (cases_eq (bit_at a i) 1) [
  | inl one ↦ one ∙ sym (iff.0 one)
  | inr none ↦ elim (cases_eq (bit_at b i) 1) [
    | inl one ↦ absurd (none (iff.1 one))
    | inr neither ↦ (let a_small = bit_at-lt a i in let b_small = bit_at-lt b i in omega (arith, a_small, b_small, none, neither))
  ]
]

-- bit j of byte k
bit_is : (xs : List ℕ) (k j : ℕ) → j < 8 → bit_at (slice_index xs ((8 * k + j) / 8)) ((8 * k + j) % 8) ≡ bit_at (slice_index xs k) j
bit_is xs k j small =
    let at : (8 * k + j) / 8 ≡ k = omega (arith, small) in
    let bit : (8 * k + j) % 8 ≡ j = omega (arith, small) in
    ap (λ (n : ℕ). bit_at (slice_index xs n) ((8 * k + j) % 8)) at ∙ ap (bit_at (slice_index xs k)) bit

-- A block that tells of its numbers what a map does is that part of the map.
pub tells_all : (bytes block part : List ℕ) (i : ℕ) → length block ≡ 4096 → length part ≡ 4096 → ((k : ℕ) → slice_index block k < 256) → ((k : ℕ) → slice_index part k < 256)
    → ((k : ℕ) → k < 4096 → slice_index part k ≡ slice_index bytes (4096 * i + k)) → TellsSame bytes block i → block ≡ part
tells_all bytes block part i block_long part_long block_small part_small is same =
    same_lists block part (block_long ∙ sym part_long) (λ k d lt.
    let low : k < 4096 = omega (arith, lt, block_long) in
    let byte : slice_index block k ≡ slice_index part k =
    same_from_bits_below 8 (slice_index block k) (slice_index part k) (block_small k) (part_small k) (λ j small.
    same_bit (slice_index block k) (slice_index part k) j (
    let here : 8 * k + j < 32768 = omega (arith, low, small) in
    let at : 32768 * i + (8 * k + j) ≡ 8 * (4096 * i + k) + j = omega arith in
    let there : bit_at (slice_index bytes ((32768 * i + (8 * k + j)) / 8)) ((32768 * i + (8 * k + j)) % 8) ≡ bit_at (slice_index part k) j =
    ap (λ (n : ℕ). bit_at (slice_index bytes (n / 8)) (n % 8)) at ∙ bit_is bytes (4096 * i + k) j small ∙ ap (λ (x : ℕ). bit_at x j) (sym (is k low)) in
    let tells = same (8 * k + j) here in
    (λ one. sym there ∙ tells.0 (bit_is block k j small ∙ one), λ one. sym (bit_is block k j small) ∙ tells.1 (there ∙ one)))) in
    get_or_default block k d 0 lt ∙ byte ∙ get_or_default part k 0 d (omega (arith, low, part_long)))

-- ---- parts of a file that are put one after the other

-- one part more is put: only blocks that tell other than they did are changed
pub only_more : (disk : ℕ → List ℕ) (first old new : File) (bytes : List ℕ) (i : ℕ) → blocks_of disk old i ≡ blocks_of disk first i
    → ((j : ℕ) → IsChanged old.tree j → (TellsSame bytes (blocks_of disk first j) j → ⊥) ⊎ IsChanged first.tree j)
    → ((j : ℕ) → IsChanged new.tree j → ((j ≡ i) × (TellsSame bytes (blocks_of disk old i) i → ⊥)) ⊎ IsChanged old.tree j)
    → (j : ℕ) → IsChanged new.tree j → (TellsSame bytes (blocks_of disk first j) j → ⊥) ⊎ IsChanged first.tree j
only_more disk first old new bytes i same before now j changed = elim (now j changed) [
  | inl here ↦ inl (subst (λ (k : ℕ). TellsSame bytes (blocks_of disk first k) k → ⊥) (sym here.0) (subst (λ (b : List ℕ). TellsSame bytes b i → ⊥) same here.1))
  | inr earlier ↦ before j earlier
]

pub parts_here : (disk : ℕ → List ℕ) (old new : File) (bytes : List ℕ) (i : ℕ) → ((j k : ℕ) → k < 4096 → j < i → slice_index (blocks_of disk old j) k ≡ slice_index bytes (4096 * j + k))
    → ((k : ℕ) → k < 4096 → slice_index (blocks_of disk new i) k ≡ slice_index bytes (4096 * i + k)) → ((j : ℕ) → j ≢ i → blocks_of disk new j ≡ blocks_of disk old j)
    → (j k : ℕ) → k < 4096 → j < i + 1 → slice_index (blocks_of disk new j) k ≡ slice_index bytes (4096 * j + k)
parts_here disk old new bytes i before now others j k small below = elim (cases_eq j i) [
  | inl is ↦ subst (λ (m : ℕ). slice_index (blocks_of disk new m) k ≡ slice_index bytes (4096 * m + k)) (sym is) (now k small)
  | inr other ↦ ap (λ (b : List ℕ). slice_index b k) (others j other) ∙ before j k small (omega (arith, below, other))
]

-- ---- how many blocks of the inode map are stored

changed_few : (w : ℕ → ℕ) (t : File) (n : ℕ) → ((i : ℕ) → IsChanged t.tree i → 1 ≤ w i) → changed_blocks t.tree 0 n ≤ sum_below w n
changed_few w t zero counts = omega (arith, sum_of_none (block_stores t.tree 0))
changed_few w t (suc n) counts =
    let next : suc n ≡ n + 1 = omega arith in
    subst (λ (m : ℕ). changed_blocks t.tree 0 m ≤ sum_below w m) (sym next) (
    let before = changed_few w t n counts in
    let these = one_more (block_stores t.tree 0) n in
    let those = one_more w n in
    omega (arith, before, these, those, stored_most t.tree 0 n (w n) (omega arith) (counts n))
    )

flat_stores : (layout : Layout) (level blocks changed more tops : ℕ) → level ≤ 1 → level_stores layout level blocks changed more tops ≤ changed
unfolding sum_below height_stores
flat_stores layout zero blocks changed more tops le = omega arith
flat_stores layout (suc zero) blocks changed more tops le = omega arith
flat_stores layout (suc (suc level)) blocks changed more tops le = absurd (omega (arith, le))

small_level : (layout : Layout) (size : ℕ) → size ≤ 8192 → level_of layout size ≤ 1
small_level layout size le = grind (arith, nat_tests)

-- of a file whose changed blocks these numbers count, where it was loaded without a change
pub few_stored : (layout : Layout) (w : ℕ → ℕ) (b : Body) (blocks size : ℕ) (first last : File) → FitsBody layout b blocks size → size ≤ 8192 → last.size ≡ size → StartsUnchanged b first.tree
    → ((i : ℕ) → IsChanged last.tree i → (1 ≤ w i) ⊎ IsChanged first.tree i) → file_stores last ≤ sum_below w (block_count size)
few_stored layout w (Inline bytes) blocks size first last fits small is unchanged counts =
    let stores = height_stores last.tree.layout (block_count last.size) (changed_blocks last.tree 0 (block_count last.size)) (more_over last) (tops_stored last.tree.layout last) in
    let none = ap (sum_below stores) (level_none last.tree.layout last.size (omega (arith, is, fits.0))) ∙ sum_of_none stores in
    omega (arith, none)
few_stored layout w (Pointers pointers) blocks size first last fits small is unchanged counts =
    let flat = flat_stores last.tree.layout (level_of last.tree.layout last.size) (block_count last.size) (changed_blocks last.tree 0 (block_count last.size)) (more_over last) (tops_stored last.tree.layout last) (small_level last.tree.layout last.size (omega (arith, is, small))) in
    let few = changed_few w last (block_count last.size) (λ i changed. elim (counts i changed) [
      | inl some ↦ some
      | inr before ↦ absurd (unchanged i before)
    ]) in
    subst (λ (n : ℕ). file_stores last ≤ sum_below w (block_count n)) is (omega (arith, flat, few))

-- a block that tells other than it did counts
pub counts_one : (w : ℕ → ℕ) (bytes : List ℕ) (settled : ℕ → List ℕ) (block : List ℕ) (i : ℕ) → CountsBlocks w bytes settled → block ≡ settled i → (TellsSame bytes block i → ⊥) → 1 ≤ w i
counts_one w bytes settled block i counts is other = elim (cases_eq (w i) 0) [
  | inl none ↦ absurd (other (subst (λ (b : List ℕ). TellsSame bytes b i) (sym is) (counts i none)))
  | inr some ↦ omega (arith, some)
]

-- ---- what is told of the numbers

-- a file's byte, in its list of bytes
byte_is : (blocks : ℕ → List ℕ) (size p : ℕ) → EndsAt size (byte_in blocks) → slice_index (first_bytes (byte_in blocks) size) p ≡ byte_in blocks p
byte_is blocks size p ends = elim (cases_lt p size) [
  | inl lt ↦ get_or-map-range_with_len (byte_in blocks) 0 size p p 0 lt (omega arith)
  | inr ge ↦ get_or_past (first_bytes (byte_in blocks) size) p 0 (let long = length-map-range_with_len (byte_in blocks) 0 size in omega (arith, long, ge)) ∙ sym (ends p ge)
]

-- what a block of a map's file tells is what its bytes tell
told_at : (blocks : ℕ → List ℕ) (size i k : ℕ) → EndsAt size (byte_in blocks) → k < 32768
    → bit_at (slice_index (first_bytes (byte_in blocks) size) ((32768 * i + k) / 8)) ((32768 * i + k) % 8) ≡ bit_at (slice_index (blocks i) (k / 8)) (k % 8)
told_at blocks size i k ends small =
    let bit : (32768 * i + k) % 8 ≡ k % 8 = omega arith in
    let block : (32768 * i + k) / 8 / 4096 ≡ i = omega (arith, small) in
    let byte : (32768 * i + k) / 8 % 4096 ≡ k / 8 = omega (arith, small) in
    ap (bit_at (slice_index (first_bytes (byte_in blocks) size) ((32768 * i + k) / 8))) bit
    ∙ ap (λ (x : ℕ). bit_at x (k % 8)) (byte_is blocks size ((32768 * i + k) / 8) ends ∙ ap (λ (j : ℕ). slice_index (blocks j) ((32768 * i + k) / 8 % 4096)) block ∙ ap (slice_index (blocks i)) byte)

-- Numbers that count the blocks in which an object came or went count those that tell other than the settled ones.
pub moves_told : (w : ℕ → ℕ) (s : Sizes) (t : HeldTree) (bytes : List ℕ) (first v : Volume) → IsSoundTree s t → HoldsVolume s.inodes (tree_contents t) first → MapsVolume bytes v → ((n : ℕ) → w (n / 32768) ≡ 0 → IsSome (first n) ↔ IsSome (v n))
    → CountsBlocks w bytes (file_block (t 1))
moves_told w s t bytes first v sound holds maps moves i none k small =
    let n : ℕ = 32768 * i + k in
    let at : n / 32768 ≡ i = omega (arith, small) in
    let unmoved : IsSome (first n) ↔ IsSome (v n) = moves n (ap w at ∙ none) in
    let told : bit_at (slice_index (content_bytes (content_of (t 1))) (n / 8)) (n % 8) ≡ bit_at (slice_index (file_block (t 1) i) (k / 8)) (k % 8) =
    told_at (file_block (t 1)) (t 1).inode.size i k (sound.files 1).bytes.ends small in (
      λ is. (maps n).1 (elim ((sound.numbers n).0 (told ∙ is)) [
        | inl own ↦ inl own
        | inr kind ↦ elim (cases_lt n 4) [
          | inl own ↦ inl own
          | inr high ↦ inr (unmoved.0 (stands_some (t n).inode.kind s.inodes (tree_contents t n) (first n) (ordinary_kind n (t n).inode.kind (omega (arith, high)) (sound.kinds n)) kind (holds n)))
        ]
      ]),
      λ is. sym told ∙ (sound.numbers n).1 (elim ((maps n).0 is) [
        | inl own ↦ inl own
        | inr some ↦ inr (λ free. stands_none (t n).inode.kind s.inodes (tree_contents t n) (first n) free (holds n) (unmoved.1 some))
      ]),
    )
