-- The last block of a file, and its bytes as one list.
use Rattle.std.proofs.Common.{◌≡◌, Bool, true, false, ℕ, ◌+◌, ◌-◌, ◌*◌, ◌/◌, ◌%◌, ◌<◌, ◌≤◌, List, length, map, drop, get_or, slice_index, replicate, refl, ap, sym, subst, ◌∙◌, arith, inl, inr, length-drop}
use Rattle.std.specs.List.{range_with_len}
use Rattle.std.specs.Int.{div_ceil}
use Rattle.std.proofs.Math.Path.{fun_ext}
use Rattle.std.proofs.lemmas.Bool.{cases_lt}
use Rattle.std.proofs.lemmas.List.{ext_get_or, get_or-drop, length-replicate}
use Rattle.std.proofs.lemmas.List.FromFn.{length-map-range_with_len, get_or-map-range_with_len}
use Rattle.layout.specs.Bytes.{zeros}
use Rattle.layout.specs.FileBytes.{byte_in, first_bytes, EndsAt}
use Rattle.layout.specs.Inode.{FitsKind}
use Rattle.layout.specs.Limits.{Sizes}
use Rattle.layout.specs.Maps.{IsInodeMap}
use Rattle.layout.specs.Places.{Blocks, place, pointed}
use Rattle.layout.specs.declared.kind.Kind.{Kind}
use Rattle.layout.specs.declared.kind.Kind.TheVariants as kinds
use Rattle.layout.specs.declared.trees.Layout.{Layout}
use Rattle.layout.specs.declared.inode.Body.{Body}
use Rattle.layout.specs.declared.inode.Body.TheVariants.{Inline, Pointers}
use Rattle.layout.specs.declared.inode.Inode.{Inode}
use Rattle.layout.specs.declared.pointer.Pointer.{Pointer}
use Rattle.model.specs.declared.attributes.Attributes.{Attributes}
use Rattle.buffers.specs.Positions.{IsPart}
use Rattle.blocktree.specs.Names.{AreNodes, nodes_at}
use Rattle.blocktree.specs.PlaceMaps.{place_at}
use Rattle.blocktree.specs.declared.place_map.PlaceMap.{PlaceMap}
use Rattle.blocktree.specs.Places.{block_count, depth_of, IsPath}
use Rattle.blocktree.specs.Trees.{AreSound, IsSoundAt}
use Rattle.blocktree.specs.declared.tree.BlockTree.{BlockTree}
use Rattle.inode.specs.Bases.{HasPointers, StartsFrom, StartsUnchanged}
use Rattle.inode.specs.Bodies.{body_block, inode_block}
use Rattle.inode.specs.Files.{file_block, byte_at, bytes_of_file}
use Rattle.inode.specs.declared.file.File.{File}
use Rattle.loading.specs.Readings.{HasAllPlaces, IsBodyPath, IsMapFile, IsStored, IsWholeAt, inode_byte, inode_bytes_of}
use Rattle.loading.proofs.MapLaws.{past_end}
use Rattle.layout.proofs.ZeroLaws.{zero_byte}

pub not_both : (b : Bool) → b ≡ true → b ≡ false → ⊥
not_both b is other = cc

-- ---- zeros behind a place

-- from one place on a block's bytes are 0
abbrev pub IsZeroFrom : List ℕ → ℕ → Type 0
IsZeroFrom bytes at = (i : ℕ) → at ≤ i → i < 4096 → slice_index bytes i ≡ 0

pub zeros_behind : (bytes : List ℕ) → length bytes ≡ 4096 → IsZeroFrom bytes 4032 → drop 4032 bytes ≡ zeros 64
unfolding zeros
zeros_behind bytes long all =
    let rest : length (drop 4032 bytes) ≡ 64 = length-drop 4032 bytes ∙ ap (λ n. n - 4032) long in
    ext_get_or 0 (drop 4032 bytes) (replicate 64 0) (rest ∙ sym (length-replicate {A = ℕ} 64 0))
    (λ i lt. get_or-drop 4032 bytes i 0 ∙ all (4032 + i) (omega arith) (omega (arith, lt, rest)) ∙ sym (zero_byte i 64))

pub behind_zero : (bytes : List ℕ) → drop 4032 bytes ≡ zeros 64 → IsZeroFrom bytes 4032
behind_zero bytes is i le lt =
    let at : i ≡ 4032 + (i - 4032) = omega arith in
    ap (λ n. get_or bytes n 0) at ∙ sym (get_or-drop 4032 bytes (i - 4032) 0) ∙ ap (λ ys. get_or ys (i - 4032) 0) is ∙ zero_byte (i - 4032) 64

-- the bytes of the block that a file ends in
pub ends_block : (block : ℕ → List ℕ) (bytes : List ℕ) (size m p : ℕ) → m ≡ size → bytes ≡ block (m / 4096)
    → IsZeroFrom bytes (m % 4096) → size ≤ p → p / 4096 ≡ size / 4096 → byte_in block p ≡ 0
ends_block block bytes size m p same is zero past here =
    let at : p / 4096 ≡ m / 4096 = here ∙ ap (λ n. n / 4096) (sym same) in
    ap (λ j. slice_index (block j) (p % 4096)) at ∙ ap (λ b. slice_index b (p % 4096)) (sym is)
    ∙ zero (p % 4096) (omega (arith, same, past, here)) (omega arith)

pub block_ends : (block : ℕ → List ℕ) (bytes : List ℕ) (size m : ℕ) → m ≡ size → bytes ≡ block (m / 4096) → EndsAt size (byte_in block)
    → IsZeroFrom bytes (m % 4096)
block_ends block bytes size m same is ends k le lt =
    let j : (4096 * (m / 4096) + k) / 4096 ≡ m / 4096 = omega arith in
    let r : (4096 * (m / 4096) + k) % 4096 ≡ k = omega arith in
    ap (λ b. slice_index b k) is ∙ ap (λ n. slice_index (block n) k) (sym j) ∙ ap (λ n. slice_index (block ((4096 * (m / 4096) + k) / 4096)) n) (sym r)
    ∙ ends (4096 * (m / 4096) + k) (omega (arith, same, le))

-- and all behind it, of the file of an inode
pub ends_all : (layout : Layout) (disk : Blocks) (body : Body) (size : ℕ) → ((p : ℕ) → size ≤ p → p / 4096 ≡ size / 4096 → byte_in (body_block layout disk body size) p ≡ 0)
    → EndsAt size (byte_in (body_block layout disk body size))
ends_all layout disk body size last p past = elim (cases_lt (size / 4096) (p / 4096)) [
  | inr le ↦ last p past (omega arith)
  | inl lt ↦ ap (λ b. slice_index b (p % 4096)) (past_end layout disk body size (p / 4096) (omega arith) (omega arith)) ∙ zero_byte (p % 4096) 4096
]

-- ---- bytes as a list

pub part_whole : (f : ℕ → ℕ) (size : ℕ) (out : List ℕ) → length out ≡ size → IsPart f 0 out → out ≡ first_bytes f size
part_whole f size out long part = ext_get_or 0 out (map f (range_with_len 0 size)) (long ∙ sym (length-map-range_with_len f 0 size))
    (λ i lt. part i lt ∙ sym (get_or-map-range_with_len f 0 size i (0 + i) 0 (omega (arith, lt, long)) refl))

-- ---- a loaded tree, and the inode that it starts from

path_like : (layout : Layout) (blocks : ℕ) (disk : Blocks) (pointers : List Pointer) (size i : ℕ) (t : BlockTree) → HasPointers layout pointers size t
    → IsPath layout blocks disk pointers (depth_of layout size) (block_count size) i → IsPath t.layout blocks disk t.pointers t.depth t.count i
path_like layout blocks disk pointers size i t has path =
    subst (λ l. IsPath l blocks disk t.pointers t.depth t.count i) (sym has.layout_is)
    (subst (λ ps. IsPath layout blocks disk ps t.depth t.count i) (sym has.pointers_are)
    (subst (λ d. IsPath layout blocks disk pointers d t.count i) (sym has.depth)
    (subst (λ n. IsPath layout blocks disk pointers (depth_of layout size) n i) (sym has.count) path)))

same_place : (layout : Layout) (disk : Blocks) (pointers : List Pointer) (size i : ℕ) (t : BlockTree) → HasPointers layout pointers size t
    → place t.layout disk t.pointers t.depth i ≡ place layout disk pointers (depth_of layout size) i
same_place layout disk pointers size i t has =
    ap (λ l. place l disk t.pointers t.depth i) has.layout_is ∙ ap (λ ps. place layout disk ps t.depth i) has.pointers_are ∙ ap (λ d. place layout disk pointers d i) has.depth

pub starts_sound_at : (layout : Layout) (blocks : ℕ) (disk : Blocks) (body : Body) (size i : ℕ) (t : BlockTree) → t.kept ≤ t.count → StartsFrom layout body size t
    → IsBodyPath layout blocks disk body size i → IsWholeAt layout disk body size i → IsSoundAt blocks disk t i
starts_sound_at layout blocks disk (Inline bytes) size i t within starts path whole = λ _ lt. absurd (omega (arith, starts.1, within, lt))
starts_sound_at layout blocks disk (Pointers pointers) size i t within starts path whole = λ _ lt.
    let low : i < block_count size = omega (arith, starts.1, starts.0.count, lt) in (
      path_like layout blocks disk pointers size i t starts.0 (path low),
      ap (λ p. length (pointed disk p)) (same_place layout disk pointers size i t starts.0) ∙ whole low,
    )

-- a block of it that was read
pub sound_whole : (layout : Layout) (blocks : ℕ) (disk : Blocks) (body : Body) (size i : ℕ) (t : BlockTree) → StartsFrom layout body size t → StartsUnchanged body t
    → (i < block_count size → IsSoundAt blocks disk t i) → IsWholeAt layout disk body size i
sound_whole layout blocks disk (Inline bytes) size i t starts clean sound = tt
sound_whole layout blocks disk (Pointers pointers) size i t starts clean sound = λ lt.
    ap (λ p. length (pointed disk p)) (sym (same_place layout disk pointers size i t starts.0)) ∙ (sound lt (clean i) (omega (arith, starts.1, starts.0.count, lt))).1

pub starts_sound : (layout : Layout) (blocks : ℕ) (disk : Blocks) (body : Body) (size : ℕ) (t : BlockTree) → StartsFrom layout body size t
    → ((i : ℕ) → IsBodyPath layout blocks disk body size i) → AreSound blocks disk t
starts_sound layout blocks disk (Inline bytes) size t starts paths = λ i lt. absurd (omega (arith, starts.1, lt))
starts_sound layout blocks disk (Pointers pointers) size t starts paths = λ i lt.
    path_like layout blocks disk pointers size i t starts.0 (paths i (omega (arith, starts.0.count, lt)))

pub stored_all : (layout : Layout) (disk : Blocks) (body : Body) (size : ℕ) (t : BlockTree) → StartsFrom layout body size t → HasAllPlaces disk t → IsStored layout disk body size
stored_all layout disk (Inline bytes) size t starts all = tt
stored_all layout disk (Pointers pointers) size t starts all = λ i lt hole.
    all i (omega (arith, starts.0.count, lt)) (same_place layout disk pointers size i t starts.0 ∙ hole)

pub all_stored : (layout : Layout) (disk : Blocks) (body : Body) (size : ℕ) (t : BlockTree) → StartsFrom layout body size t → IsStored layout disk body size → HasAllPlaces disk t
all_stored layout disk (Inline bytes) size t starts stored = λ i lt. absurd (omega (arith, starts.1, lt))
all_stored layout disk (Pointers pointers) size t starts stored = λ i lt hole.
    stored i (omega (arith, starts.0.count, lt)) (sym (same_place layout disk pointers size i t starts.0) ∙ hole)

-- ---- the places that were read

pub lowest_nodes : (disk : Blocks) (t : BlockTree) (nodes : PlaceMap) → AreNodes t.layout disk t.pointers (t.depth - 0) (nodes_at t.layout t.count 0) nodes → (i : ℕ) → i < t.count
    → place_at nodes i ≡ place t.layout disk t.pointers t.depth i
unfolding nodes_at
lowest_nodes disk t nodes are i lt = let none : t.depth - 0 ≡ t.depth = omega arith in are i lt ∙ ap (λ d. place t.layout disk t.pointers d i) none

-- ---- a map's file

pub map_file_is : (disk : Blocks) (inode : Inode) (file : File) → StartsFrom inode.layout inode.body inode.size file.tree → HasAllPlaces disk file.tree → IsWholeAt inode.layout disk inode.body inode.size (inode.size / 4096)
    → file.size ≡ inode.size → ((i : ℕ) → file_block disk file i ≡ inode_block disk inode i)
    → ((p : ℕ) → file.size ≤ p → p / 4096 ≡ file.size / 4096 → byte_at disk file p ≡ 0) → IsMapFile disk inode
map_file_is disk inode file starts all read size same last = record {
  stored = stored_all inode.layout disk inode.body inode.size file.tree starts all;
  last = read;
  ends = ends_all inode.layout disk inode.body inode.size (λ p past here.
      ap (λ b. slice_index b (p % 4096)) (sym (same (p / 4096))) ∙ last p (omega (arith, size, past)) (here ∙ ap (λ n. n / 4096) (sym size)));
}

pub file_ends : (disk : Blocks) (inode : Inode) (file : File) → file.size ≡ inode.size → ((i : ℕ) → file_block disk file i ≡ inode_block disk inode i)
    → EndsAt inode.size (inode_byte disk inode) → EndsAt file.size (byte_at disk file)
file_ends disk inode file size same ends p past = ap (λ b. slice_index b (p % 4096)) (same (p / 4096)) ∙ ends p (omega (arith, size, past))

-- ---- sizes of the maps

pub inode_map_size : (kind : Kind) (s : Sizes) (attributes : Attributes) (links size : ℕ) → kind ≡ kinds.InodeMap → FitsKind kind s attributes links size → size ≡ div_ceil s.inodes 8
inode_map_size kind s attributes links size is fits = (subst (λ k. FitsKind k s attributes links size) is fits).2

pub same_bytes : (disk : Blocks) (inode : Inode) (file : File) → file.size ≡ inode.size → ((i : ℕ) → file_block disk file i ≡ inode_block disk inode i)
    → bytes_of_file disk file ≡ inode_bytes_of disk inode
same_bytes disk inode file size same =
    ap (λ n. first_bytes (byte_at disk file) n) size
    ∙ ap (λ block. first_bytes (byte_in block) inode.size) (fun_ext {f = file_block disk file} {g = inode_block disk inode} same)

pub is_map_of : (n inodes : ℕ) (xs ys zs : List ℕ) → n ≡ inodes → xs ≡ ys → ys ≡ zs → IsInodeMap 0 inodes zs → IsInodeMap 0 n xs
is_map_of n inodes xs ys zs same is read map =
    subst (λ k. IsInodeMap 0 k xs) (sym same) (subst (IsInodeMap 0 inodes) (sym (is ∙ read)) map)
