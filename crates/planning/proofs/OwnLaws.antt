-- The file system's own files, as a point changes them.
use Rattle.std.proofs.Common.{◌≡◌, inl, inr, ℕ, ◌+◌, ◌-◌, ◌*◌, ◌/◌, ◌%◌, ◌<◌, ◌≤◌, min, List, length, take, drop, length-take, length-drop, refl, ap, sym, subst, ◌∙◌, zero-add, arith}
use Rattle.std.proofs.lemmas.Bool.{cases_lt, cond_below}
use Rattle.std.proofs.lemmas.Bool.Decides.{nat_tests}
use Rattle.std.proofs.lemmas.List.{get_or_past, get_or-take, get_or-drop}
use Rattle.std.proofs.lemmas.List.FromFn.{fill_by_all}
use Rattle.std.specs.Int.{div_ceil}
use Rattle.std.specs.Prelude.{slice_index}
use Rattle.model.specs.Attributes.{FitAttributes}
use Rattle.layout.specs.Bytes.{zeros}
use Rattle.layout.specs.FileBytes.{byte_in}
use Rattle.layout.specs.Inode.{FitsBody, FitsKind, IsInode}
use Rattle.layout.specs.Limits.{Sizes}
use Rattle.layout.specs.Places.{Blocks}
use Rattle.layout.specs.Trees.{has_attributes, level_of}
use Rattle.layout.specs.declared.inode.Body.{Body}
use Rattle.layout.specs.declared.inode.Body.TheVariants.{Inline, Pointers}
use Rattle.layout.specs.declared.inode.Inode.{Inode}
use Rattle.layout.specs.declared.kind.Kind.{Kind}
use Rattle.layout.specs.declared.kind.Kind.TheVariants as kinds
use Rattle.blocktree.specs.Places.{block_count}
use Rattle.blocktree.specs.Trees.{SameSettled}
use Rattle.blocktree.specs.declared.tree.BlockTree.{BlockTree}
use Rattle.blockmap.specs.Maps.{IsFree, settled_at}
use Rattle.buffers.specs.Positions.{IsPart, with_bytes_at}
use Rattle.conspoint.specs.declared.draft.Draft.{Draft}
use Rattle.images.specs.BlockMap.{NamesOnce}
use Rattle.images.specs.Contents.{Content, content_bytes, content_of}
use Rattle.images.specs.Nodes.{Names, held}
use Rattle.images.specs.Nodes as nodes
use Rattle.images.specs.Soundness.{HasNoHole, IsSoundFile}
use Rattle.inode.specs.Bases.{StartsFrom}
use Rattle.inode.specs.Files.{IsAsHeld, IsFile, byte_at, file_block}
use Rattle.inode.specs.declared.file.File.{File}
use Rattle.inode.specs.declared.object.Status.{Status}
use Rattle.inode.specs.declared.object.Object.{Object}
use Rattle.inofile.specs.Settled.{AreSettled}
use Rattle.placement.specs.Files.{IsBasedOn, IsChangeOf, IsWholeOver, object_block, object_content}
use Rattle.planning.specs.Plans.{IsInodeMapOn}
use Rattle.planning.specs.Progress.{Before, IsExactPlane}
use Rattle.planning.specs.Steps.{settled_tree}
use Rattle.planning.proofs.NumberLaws.{based_start, body_fits}
use Rattle.images.proofs.EmptyLaws.{no_bit, held_inode}
use Rattle.layout.proofs.SizeLaws.{level_none}
use Rattle.layout.proofs.ZeroLaws.{zero_byte}

-- no block of the settled tree is free
pub used_block : (d : Draft) (disk : Blocks) (settled_of : ℕ → Inode) (before : Before) → IsExactPlane (settled_tree disk settled_of) before → ((b : ℕ) → settled_at d.map.parts.items b ≡ before.entry b)
    → (n b : ℕ) → Names (held disk (settled_of n)) b → IsFree d.map.parts.items b → ⊥
used_block d disk settled_of before exact same n b names free = no_bit before.plane (before.entry b) (sym (same b) ∙ free) ((exact b).1 (record { file = n; names = names }))

pub inode_is : (s : Sizes) (disk : Blocks) (f : Inode) → IsSoundFile s (held disk f) → IsInode s f
inode_is s disk f sound = subst (IsInode s) (held_inode disk f) sound.inode

-- one of the file system's own files with blocks changed in memory, over its settled inode
pub own_change : {version : ℕ} (count : ℕ) (draft : Draft) (disk : Blocks) (s : Sizes) (top : File) (settled_of : ℕ → Inode) (before : Before) (n : ℕ) (f : Inode) (from : BlockTree) (o : Object)
    → AreSettled count disk version s top settled_of → NamesOnce (settled_tree disk settled_of) → IsExactPlane (settled_tree disk settled_of) before → ((b : ℕ) → settled_at draft.map.parts.items b ≡ before.entry b)
    → count ≡ draft.map.count → f ≡ settled_of n → StartsFrom f.layout f.body f.size from → SameSettled from o.file.tree
    → o.status ≡ record { kind = f.kind; attributes = f.attributes; links = f.links } → o.file.size ≡ f.size → IsFile disk o.file → IsChangeOf s draft disk (settled_of n) o
own_change count draft disk s top settled_of before n f from o are once exact same count_is is starts kept status size ends =
    let sound : IsSoundFile s (held disk f) = subst (λ (x : Inode). IsSoundFile s (held disk x)) (sym is) (are.sound n) in
    let inode : IsInode s f = inode_is s disk f sound in
    record {
      blocks = are.count ∙ count_is;
      based = subst (λ (x : Inode). IsBasedOn x o.file.tree) is (based_start s disk f from o.file.tree sound starts kept);
      sound = are.sound n;
      once = once.each n;
      used = λ b names free. used_block draft disk settled_of before exact same n b names free;
      ends = ends;
      attributes = subst (λ (a : Status). FitAttributes (has_attributes s.layout) a.attributes) (sym status) (subst (λ l. FitAttributes (has_attributes l) f.attributes) inode.layout inode.attributes);
      kind = subst (λ (z : ℕ). FitsKind o.status.kind s o.status.attributes o.status.links z) (sym size)
          (subst (λ (a : Status). FitsKind a.kind s a.attributes a.links f.size) (sym status) inode.kind);
    }

-- all settled blocks of a file that was loaded count
starts_kept : (s : Sizes) (f : Inode) (from : BlockTree) (body : Body) → f.body ≡ body → FitsBody f.layout f.body s.blocks f.size → StartsFrom f.layout body f.size from → 1 ≤ level_of f.layout f.size → from.kept ≡ block_count f.size
starts_kept s f from (Inline bytes) is fits starts level =
    let small : f.size ≤ 128 = (subst (λ b. FitsBody f.layout b s.blocks f.size) is fits).0 in absurd (omega (arith, level_none f.layout f.size small))
starts_kept s f from (Pointers pointers) is fits starts level = starts.1 ∙ starts.0.count

pub whole_over : (s : Sizes) (disk : Blocks) (f : Inode) (from : BlockTree) (o : Object) → IsSoundFile s (held disk f) → HasNoHole (held disk f) → StartsFrom f.layout f.body f.size from → o.file.size ≡ f.size
    → o.file.tree.kept ≡ from.kept → IsWholeOver disk f o
whole_over s disk f from o sound no_hole starts size kept = record {
  no_hole = no_hole;
  size = size;
  kept = λ level. kept ∙ starts_kept s f from f.body refl (body_fits s disk f sound) starts level;
}

-- ---- the bytes of the inode map

block_within : (p size : ℕ) → p < size → p / 4096 < block_count size
block_within p size lt = omega arith

pub object_bytes : (disk : Blocks) (o : Object) (bytes : List ℕ) → o.file.size ≡ length bytes → ((p : ℕ) → p < length bytes → byte_at disk o.file p ≡ slice_index bytes p)
    → content_bytes (object_content disk o) ≡ bytes
object_bytes disk o bytes size each = sym (fill_by_all (byte_in (object_block disk o)) bytes o.file.size 0 (sym size) (λ k lt.
    sym (ap (λ (b : List ℕ). slice_index b (k % 4096)) (sym (cond_below (k / 4096) (block_count o.file.size) (file_block disk o.file (k / 4096)) (zeros 4096) (block_within k o.file.size lt)))
    ∙ each k (omega (arith, size)))))

-- a settled file that has these bytes
pub held_bytes : (disk : Blocks) (f : Inode) (file : File) (bytes : List ℕ) → IsAsHeld disk f file → f.size ≡ length bytes → IsPart (byte_at disk file) 0 bytes → HasNoHole (held disk f)
    → IsInodeMapOn bytes (held disk f)
held_bytes disk f file bytes as_held size part no_hole = record {
  bytes_are = ap (λ z. content_bytes (record (content_of (held disk f)) { size = z })) (ap (λ (i : Inode). i.size) (held_inode disk f))
      ∙ sym (fill_by_all (byte_in (nodes.file_block (held disk f))) bytes f.size 0 (sym size) (λ k lt.
      part k (omega (arith, size)) ∙ ap (byte_at disk file) (zero-add k) ∙ ap (λ (b : List ℕ). slice_index b (k % 4096)) (as_held (k / 4096))));
  no_hole = no_hole;
}

-- the bytes of a file whose first blocks were changed to these
module _ (disk : Blocks) (old new : File) (bytes : List ℕ) (size : new.size ≡ length bytes)
    (here : (i k : ℕ) → k < 4096 → i < div_ceil (length bytes) 4096 → slice_index (file_block disk new i) k ≡ slice_index bytes (4096 * i + k))
    (others : (j : ℕ) → div_ceil (length bytes) 4096 ≤ j → file_block disk new j ≡ file_block disk old j) where
  byte_here : (p : ℕ) → p / 4096 < div_ceil (length bytes) 4096 → byte_at disk new p ≡ slice_index bytes p
  byte_here p lt = here (p / 4096) (p % 4096) (omega arith) lt ∙ ap (slice_index bytes) (let e : 4096 * (p / 4096) + p % 4096 ≡ p = omega arith in e)

  pub parts_bytes : (p : ℕ) → p < length bytes → byte_at disk new p ≡ slice_index bytes p
  parts_bytes p lt = byte_here p (block_within p (length bytes) lt)

  pub parts_end : IsFile disk old → old.size ≡ length bytes → IsFile disk new
  parts_end ends same p past = elim (cases_lt (p / 4096) (div_ceil (length bytes) 4096)) [
    | inl lt ↦ byte_here p lt ∙ get_or_past bytes p 0 (omega (arith, size))
    | inr ge ↦ ap (λ (b : List ℕ). slice_index b (p % 4096)) (others (p / 4096) ge) ∙ ends p (omega (arith, size, same))
  ]

-- a part of these bytes in a block of zeros
pub part_byte : (new block bytes : List ℕ) (k i start end : ℕ) → k < 4096 → slice_index new k ≡ with_bytes_at (slice_index block) 0 (take (end - start) (drop start bytes)) k → block ≡ zeros 4096
    → start ≡ min (4096 * i) (length bytes) → end ≡ min (start + 4096) (length bytes) → slice_index new k ≡ slice_index bytes (4096 * i + k)
part_byte new block bytes k i start end lt is zero from to =
    let xs = take (end - start) (drop start bytes) in
    let long : length xs ≡ end - start = simp (length-take, length-drop) (omega arith) in
    elim (cases_lt k (end - start)) [
      | inl within ↦
          is ∙ (let e : with_bytes_at (slice_index block) 0 xs k ≡ slice_index xs (k - 0) = grind (arith, nat_tests) in e)
          ∙ ap (slice_index xs) (let e : k - 0 ≡ k = omega arith in e)
          ∙ get_or-take (end - start) (drop start bytes) k 0 within ∙ get_or-drop start bytes k 0
          ∙ ap (slice_index bytes) (let e : start + k ≡ 4096 * i + k = omega arith in e)
      | inr past ↦
          is ∙ (let e : with_bytes_at (slice_index block) 0 xs k ≡ slice_index block k = grind (arith, nat_tests) in e)
          ∙ ap (λ (b : List ℕ). slice_index b k) zero ∙ zero_byte k 4096 ∙ sym (get_or_past bytes (4096 * i + k) 0 (omega arith))
    ]

-- how large the settled inode map is
pub map_size_is : {version : ℕ} (count : ℕ) (disk : Blocks) (s : Sizes) (top : File) (settled_of : ℕ → Inode) → AreSettled count disk version s top settled_of → (settled_of 1).size ≡ div_ceil s.inodes 8
map_size_is count disk s top settled_of are =
    (subst (λ (k : Kind). FitsKind k s (settled_of 1).attributes (settled_of 1).links (settled_of 1).size) (are.fits 1) (inode_is s disk (settled_of 1) (are.sound 1)).kind).2

-- a loaded file over its settled inode
pub loaded_based : (s : Sizes) (disk : Blocks) (f : Inode) (t : BlockTree) → IsSoundFile s (held disk f) → StartsFrom f.layout f.body f.size t → IsBasedOn f t
loaded_based s disk f t sound starts = based_start s disk f t t sound starts (record { layout = refl; pointers = refl; depth = refl; count = refl })

-- an inode map of these bytes in memory, over its settled inode
pub record IsMapOver (s : Sizes) (draft : Draft) (disk : Blocks) (base : Inode) (o : Object) (bytes : List ℕ) : Type 0 where
  pub change : IsChangeOf s draft disk base o
  pub whole : HasNoHole (held disk base) → IsWholeOver disk base o
  pub bytes_are : content_bytes (object_content disk o) ≡ bytes
  pub kind : o.status.kind ≡ kinds.InodeMap

-- the inode map's file with its first blocks changed to these bytes
module _ {version : ℕ} (count : ℕ) (draft : Draft) (disk : Blocks) (s : Sizes) (top : File) (settled_of : ℕ → Inode) (before : Before) (f : Inode) (old : File) (o : Object) (bytes : List ℕ)
    (are : AreSettled count disk version s top settled_of) (once : NamesOnce (settled_tree disk settled_of)) (exact : IsExactPlane (settled_tree disk settled_of) before)
    (same : (b : ℕ) → settled_at draft.map.parts.items b ≡ before.entry b) (count_is : count ≡ draft.map.count) (is : f ≡ settled_of 1) (old_size : old.size ≡ f.size) (old_ends : IsFile disk old)
    (starts : StartsFrom f.layout f.body f.size old.tree) (status : o.status ≡ record { kind = f.kind; attributes = f.attributes; links = f.links }) (stays : SameSettled old.tree o.file.tree)
    (kept : o.file.tree.kept ≡ old.tree.kept) (new_size : o.file.size ≡ old.size) (long : length bytes ≡ div_ceil s.inodes 8)
    (here : (i k : ℕ) → k < 4096 → i < div_ceil (length bytes) 4096 → slice_index (file_block disk o.file i) k ≡ slice_index bytes (4096 * i + k))
    (others : (j : ℕ) → div_ceil (length bytes) 4096 ≤ j → file_block disk o.file j ≡ file_block disk old j) where
  f_size : f.size ≡ length bytes
  f_size = ap (λ (i : Inode). i.size) is ∙ map_size_is count disk s top settled_of are ∙ sym long

  sound : IsSoundFile s (held disk f)
  sound = subst (λ (x : Inode). IsSoundFile s (held disk x)) (sym is) (are.sound 1)

  o_size : o.file.size ≡ length bytes
  o_size = new_size ∙ old_size ∙ f_size

  pub map_over : IsMapOver s draft disk (settled_of 1) o bytes
  map_over = record {
    change = own_change count draft disk s top settled_of before 1 f old.tree o are once exact same count_is is starts stays status (new_size ∙ old_size)
        (parts_end disk old o.file bytes o_size here others old_ends (old_size ∙ f_size));
    whole = λ no_hole. subst (λ (x : Inode). IsWholeOver disk x o) is
        (whole_over s disk f old.tree o sound (subst (λ (x : Inode). HasNoHole (held disk x)) (sym is) no_hole) starts (new_size ∙ old_size) kept);
    bytes_are = object_bytes disk o bytes o_size (parts_bytes disk old o.file bytes o_size here others);
    kind = ap (λ (a : Status). a.kind) status ∙ ap (λ (i : Inode). i.kind) is ∙ are.fits 1;
  }

-- the kind of an inode whose file is this
pub kind_of : (e : Blocks) (f : Inode) (c : Content) (k : Kind) → content_of (held e f) ≡ c → c.kind ≡ k → f.kind ≡ k
kind_of e f c k is kind = sym (ap (λ (i : Inode). i.kind) (held_inode e f)) ∙ ap (λ (x : Content). x.kind) is ∙ kind
