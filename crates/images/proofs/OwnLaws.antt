-- Blocks that are free, and the files that every point stores: where their nodes stand.
use Rattle.std.proofs.Common.{◌≡◌, ◌≢◌, inl, inr, ℕ, zero, suc, true, false, ◌+◌, ◌*◌, ◌/◌, ◌%◌, ◌<◌, ◌≤◌, Option, Some, None, refl, ap, sym, subst, ◌∙◌, arith}
use Rattle.std.specs.Prelude.{◌==◌}
use Rattle.std.specs.Int.{div_ceil}
use Rattle.std.proofs.lemmas.Bool.{cases_eq}
use Rattle.std.proofs.lemmas.Bool.Decides.{nat_tests}
use Rattle.std.proofs.lemmas.Nat.Bits.{bit_at_lowest, bit_at-suc}
use Rattle.model.specs.declared.attributes.Attributes.{Attributes}
use Rattle.layout.specs.Bytes.{zeros}
use Rattle.layout.specs.Inode.{FitsKind, inode_bytes}
use Rattle.layout.specs.InodeReading.{inode_in}
use Rattle.layout.specs.Limits.{Sizes, AreSizes}
use Rattle.layout.specs.Places.{Blocks, pointed}
use Rattle.layout.specs.Trees.{level_of}
use Rattle.layout.specs.declared.inode.Inode.{Inode}
use Rattle.layout.specs.declared.kind.Kind.{Kind}
use Rattle.layout.specs.declared.kind.Kind.TheVariants as kinds
use Rattle.layout.specs.declared.pointer.Pointer.TheVariants.{Hole, Block}
use Rattle.layout.specs.declared.root.Root.{Root}
use Rattle.layout.specs.declared.trees.Layout.{Layout}
use Rattle.layout.proofs.InodeLaws.{inode_read}
use Rattle.layout.proofs.PointerLaws.{block_same}
use Rattle.layout.proofs.SizeLaws.{map_size}
use Rattle.images.specs.Nodes.{Held, body_block, file_block, held, place_at_height}
use Rattle.images.specs.Roots.{HeldTree, Reach, free_inode, inode_bytes_at, inode_under, inode_part, tree, whole}
use Rattle.images.specs.BlockMap.{HasBit, NamesOnce, entry}
use Rattle.images.specs.Room.{free_at}
use Rattle.images.specs.Soundness.{HasNoHole, IsSoundFile, IsSoundTree, nodes_of_size}
use Rattle.images.proofs.EmptyLaws.{free_bytes, free_fits, part_zeros}
use Rattle.images.proofs.SpanLaws.{body_of, stands_whole, within_span}

-- ---- numbers without a bit

pub bits_zero : (n x : ℕ) → x ≤ n → ((k : ℕ) → HasBit k x → ⊥) → x ≡ 0
bits_zero zero x le none = omega arith
bits_zero (suc n) x le none = elim (cases_eq (x % 2) 1) [
  | inl odd ↦ absurd (none 0 (bit_at_lowest x ∙ odd))
  | inr even ↦ (let half = bits_zero n (x / 2) (omega arith) (λ k has. none (suc k) (bit_at-suc x k ∙ has)) in omega (arith, half, even))
]

-- ---- free blocks

pub free_one : (t : HeldTree) (b : ℕ) → free_at t b ≤ 1
free_one t b = elim (cases_eq (entry t b) 0) [
  | inl is ↦ (let yes : (entry t b == 0) ≡ true = grind (arith, nat_tests) in rw yes (omega arith))
  | inr other ↦ (let no : (entry t b == 0) ≡ false = grind (arith, nat_tests) in rw no (omega arith))
]

pub free_is : (t : HeldTree) (b : ℕ) → free_at t b ≡ 1 → entry t b ≡ 0
free_is t b one = elim (cases_eq (entry t b) 0) [
  | inl is ↦ is
  | inr other ↦
      let no : (entry t b == 0) ≡ false = grind (arith, nat_tests) in
      let none : free_at t b ≡ 0 = rw no refl in
      absurd (omega (arith, one, none))
]

pub is_free : (t : HeldTree) (b : ℕ) → entry t b ≡ 0 → free_at t b ≡ 1
is_free t b is = let yes : (entry t b == 0) ≡ true = grind (arith, nat_tests) in rw yes refl

-- ---- the inode file's first block is stored

abbrev kind_or_free : Option Inode → Kind
kind_or_free (Some i) = i.kind
kind_or_free None = kinds.Free

first_zeros : (d : Blocks) (s : Sizes) (f : Inode) → IsSoundFile s (held d f) → 1 ≤ level_of f.layout f.size → (held d f).place 0 0 ≡ Hole → file_block (held d f) 0 ≡ zeros 4096
unfolding held
first_zeros d s f sound level hole =
    ap (λ b. body_block b (pointed d (place_at_height d f 0 0)) 0) (body_of s d f sound level).1 ∙ ap (pointed d) hole

pub first_stored : (d : Blocks) (s : Sizes) (t : HeldTree) (f : Inode) → AreSizes s → t 0 ≡ held d f → IsSoundTree s t → 1 ≤ level_of f.layout f.size → (held d f).place 0 0 ≢ Hole
first_stored d s t f are top sound level hole =
    let bytes : inode_bytes (t 1).inode ≡ inode_bytes (free_inode s.layout) =
    sym (sound.inodes.each 1 (omega arith) (omega (arith, are.least_inodes)))
    ∙ ap (λ (h : Held). inode_bytes_at (file_block h) 1) top
    ∙ ap (λ b. inode_part b 1) (first_zeros d s f (subst (IsSoundFile s) top (sound.files 0)) level hole)
    ∙ part_zeros 1 (omega arith) ∙ sym (free_bytes s.layout) in
    let read : Some (t 1).inode ≡ Some (free_inode s.layout) =
    sym (inode_read s.layout (t 1).inode (record { sizes = s; are_sizes = are; fits = (sound.files 1).inode }) (sound.files 1).inode.layout)
    ∙ ap (inode_in s.layout) bytes
    ∙ inode_read s.layout (free_inode s.layout) (record { sizes = s; are_sizes = are; fits = free_fits s }) refl in
    let free : (t 1).inode.kind ≡ kinds.Free = ap kind_or_free read in
    absurd (let e = sym (sound.kinds 1) ∙ free in cc)

pub top_is : (d : Blocks) (r : Root) → (whole d r).active 0 ≡ held d r.inode_file
unfolding whole tree inode_under held
top_is d r = refl

-- ---- the file system's own files are as large as they were

pub top_size : (k : Kind) (s : Sizes) (attributes : Attributes) (links size : ℕ) → k ≡ kinds.InodeFile → FitsKind k s attributes links size → size ≡ 4096 * div_ceil s.inodes 21
top_size k s attributes links size is fits = (subst (λ x. FitsKind x s attributes links size) is fits).2

pub map_whole : (s : Sizes) (d e : Blocks) (f g : Inode) → IsSoundFile s (held d f) → IsSoundFile s (held e g) → f.kind ≡ kinds.BlockMap → g.kind ≡ kinds.BlockMap
    → HasNoHole (held d f) → (m i b : ℕ) → (held e g).place m i ≡ Block b → (o : ℕ) × ((held d f).place m i ≡ Block o)
unfolding held
map_whole s d e f g old new f_is g_is whole m i b is =
    let size : g.size ≡ f.size = map_size g.kind s g.attributes g.links g.size g_is new.inode.kind ∙ sym (map_size f.kind s f.attributes f.links f.size f_is old.inode.kind) in
    let layout : g.layout ≡ f.layout = new.inode.layout ∙ sym old.inode.layout in
    let span = subst (λ (l : Layout). (m < level_of l f.size) × (i < nodes_of_size l f.size m)) layout
    (subst (λ (n : ℕ). (m < level_of g.layout n) × (i < nodes_of_size g.layout n m)) size (within_span s e g new m i b is)) in
    stands_whole s d f old whole m i span.0 span.1

-- ---- what leads to a block that is free after

-- y is z and was free, or is the new block of a node of the map that stood at z, or is behind the end, for a node over the inode file's
-- first block that stood at z
pub data Leads (old now : HeldTree) (end y z : ℕ) : Type 0 where
  stays : (is : y ≡ z) → (free : entry old y ≡ 0) → Leads old now end y z
  node : (m i : ℕ) → (here : (now 2).place m i ≡ Block y) → (there : (old 2).place m i ≡ Block z) → Leads old now end y z
  over : (m : ℕ) → (is : y ≡ end + m) → (there : (old 0).place m 0 ≡ Block z) → Leads old now end y z

module _ (old now : HeldTree) (end : ℕ) (once : NamesOnce old) (used : (b : ℕ) → Reach old b → entry old b ≢ 0) where
  named : (n m i b : ℕ) → (old n).place m i ≡ Block b → Reach old b
  named n m i b is = record { file = n; names = record { height = m; index = i; is = is } }

  pub leads_alone : (x y z : ℕ) → Leads old now end x z → Leads old now end y z → x ≡ y
  leads_alone x y z (stays is free) (stays too more) = is ∙ sym too
  leads_alone x y z (stays is free) (node m i here there) = absurd (used z (named 2 m i z there) (subst (λ (b : ℕ). entry old b ≡ 0) is free))
  leads_alone x y z (stays is free) (over m at there) = absurd (used z (named 0 m 0 z there) (subst (λ (b : ℕ). entry old b ≡ 0) is free))
  leads_alone x y z (node m i here there) (stays is free) = absurd (used z (named 2 m i z there) (subst (λ (b : ℕ). entry old b ≡ 0) is free))
  leads_alone x y z (over m at there) (stays is free) = absurd (used z (named 0 m 0 z there) (subst (λ (b : ℕ). entry old b ≡ 0) is free))
  leads_alone x y z (node m i here there) (node k j new was) =
      let one = once.each 2 m i k j z there was in
      let same : (now 2).place m i ≡ (now 2).place k j = ap (λ h. (now 2).place h i) one.0 ∙ ap ((now 2).place k) one.1 in
      block_same x y (sym here ∙ same ∙ new)
  leads_alone x y z (node m i here there) (over k at was) =
      absurd (let e = once.apart 2 0 z (record { height = m; index = i; is = there }) (record { height = k; index = 0; is = was }) in omega (arith, e))
  leads_alone x y z (over k at was) (node m i here there) =
      absurd (let e = once.apart 2 0 z (record { height = m; index = i; is = there }) (record { height = k; index = 0; is = was }) in omega (arith, e))
  leads_alone x y z (over m at there) (over k to was) = let one = once.each 0 m 0 k 0 z there was in omega (arith, at, to, one.0)
