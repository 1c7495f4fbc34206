-- What is empty: files without bytes, the inodes that nothing uses, and entries of the map that are 0.
use Rattle.std.proofs.Common.{◌≡◌, inl, inr, ℕ, zero, suc, ◌-◌, ◌*◌, ◌/◌, ◌%◌, ◌<◌, List, take, drop, refl, ap, sym, subst, ◌∙◌, arith}
use Rattle.std.specs.Prelude.{nat_lt, if◌then◌else◌, slice_index}
use Rattle.std.specs.Int.{bit_at}
use Rattle.std.proofs.lemmas.Bool.{cases_lt, cond_above}
use Rattle.std.proofs.lemmas.List.{get_or_append_left, get_or-append_right, length-replicate, drop-replicate, take-replicate}
use Rattle.std.proofs.lemmas.Nat.Bits.{bit_at-zero}
use Rattle.layout.specs.Bytes.{little, zeros}
use Rattle.layout.specs.FileBytes.{byte_in}
use Rattle.layout.specs.Inode.{IsInode, inode_bytes}
use Rattle.layout.specs.Limits.{Sizes}
use Rattle.layout.specs.Places.{Blocks, place, pointed}
use Rattle.layout.specs.Trees.{has_attributes, level_of}
use Rattle.layout.specs.declared.inode.Body.TheVariants.{Inline}
use Rattle.layout.specs.declared.inode.Inode.{Inode}
use Rattle.layout.specs.declared.pointer.Pointer.TheVariants.{Hole, Block}
use Rattle.layout.specs.declared.trees.Layout.{Layout}
use Rattle.layout.proofs.PointerLaws.{no_block}
use Rattle.layout.proofs.ZeroLaws.{zero_byte}
use Rattle.images.specs.Nodes.{held, Names, body_block, file_block, place_at_height, pointers_of}
use Rattle.images.specs.Roots.{free_inode, inode_part}
use Rattle.images.specs.BlockMap.{HasBit}
use Rattle.images.specs.FirstRoots.{empty_directory}
use Rattle.model.proofs.AttributeLaws.{new_fit}
use Rattle.images.specs.Soundness.{IsSoundFile}

pub no_bit : (k x : ℕ) → x ≡ 0 → HasBit k x → ⊥
no_bit k x e has = let none : bit_at x k ≡ 0 = ap (λ x. bit_at x k) e ∙ bit_at-zero k in absurd (omega (arith, has))

-- a file without blocks names none
pub none_named : (d : Blocks) (f : Inode) → level_of f.layout f.size ≡ 0 → (b : ℕ) → Names (held d f) b → ⊥
unfolding held
none_named d f level b names =
    no_block (place_at_height d f names.height names.index) b
    (ap (λ n. if nat_lt names.height n then place f.layout d (pointers_of f.body) (n - suc names.height) names.index else Hole) level
    ∙ sym (cond_above names.height 0 (place f.layout d (pointers_of f.body) (0 - suc names.height) names.index) Hole Hole (omega arith) refl)) names.is

pub inline_zero : (stored : List ℕ) (i k : ℕ) → slice_index (body_block (Inline (zeros 128)) stored i) k ≡ 0
unfolding zeros
inline_zero stored zero k = elim (cases_lt k 128) [
  | inl lt ↦ get_or_append_left (zeros 128) (zeros 3968) 0 k (omega (arith, length-replicate {A = ℕ} 128 0)) ∙ zero_byte k 128
  | inr ge ↦ get_or-append_right (zeros 128) (zeros 3968) 128 k 0 (length-replicate {A = ℕ} 128 0) ge ∙ zero_byte (k - 128) 3968
]
inline_zero stored (suc i) k = zero_byte k 4096

pub held_inode : (d : Blocks) (f : Inode) → (held d f).inode ≡ f
unfolding held
held_inode d f = refl

-- the bytes of a node that stands in a block
pub node_bytes : (d : Blocks) (f : Inode) (m i b : ℕ) → (held d f).place m i ≡ Block b → (held d f).bytes m i ≡ d b
unfolding held
node_bytes d f m i b is = ap (pointed d) is

zero_ends : (d : Blocks) (f : Inode) → f.body ≡ Inline (zeros 128) → (p : ℕ) → byte_in (file_block (held d f)) p ≡ 0
unfolding held
zero_ends d f body p =
    ap (λ b. slice_index (body_block b ((held d f).bytes 0 (p / 4096)) (p / 4096)) (p % 4096)) body ∙ inline_zero ((held d f).bytes 0 (p / 4096)) (p / 4096) (p % 4096)

pub zero_sound : (s : Sizes) (d : Blocks) (f : Inode) → IsInode s f → f.body ≡ Inline (zeros 128) → level_of f.layout f.size ≡ 0 → IsSoundFile s (held d f)
zero_sound s d f fits body level = record {
  inode = subst (IsInode s) (sym (held_inode d f)) fits;
  indirect = λ m i b is. absurd (none_named d f level b (record { height = suc m; index = i; is = is }));
  bytes = record {
    readable = λ i b is. absurd (none_named d f level b (record { height = 0; index = i; is = is }));
    ends = λ p le. zero_ends d f body p;
  };
}

pub free_fits : (s : Sizes) → IsInode s (free_inode s.layout)
unfolding zeros
free_fits s = record { layout = refl; attributes = new_fit (has_attributes s.layout) 0 (omega arith); size = omega arith; kind = (refl, refl, refl); body = (omega arith, length-replicate {A = ℕ} 128 0, refl) }

pub directory_fits : (s : Sizes) → IsInode s (empty_directory s.layout)
unfolding zeros
directory_fits s = record { layout = refl; attributes = new_fit (has_attributes s.layout) 0o755 (omega arith); size = omega arith; kind = (refl, refl); body = (omega arith, length-replicate {A = ℕ} 128 0, refl) }

pub free_sound : (s : Sizes) (d : Blocks) → IsSoundFile s (held d (free_inode s.layout))
free_sound s d = zero_sound s d (free_inode s.layout) (free_fits s) refl refl

pub free_named : (layout : Layout) (d : Blocks) (b : ℕ) → Names (held d (free_inode layout)) b → ⊥
free_named layout d b names = none_named d (free_inode layout) refl b names

-- ---- inodes that nothing uses, as they are stored

pub free_bytes : (layout : Layout) → inode_bytes (free_inode layout) ≡ zeros 192
unfolding little zeros
free_bytes layout = refl

pub part_zeros : (k : ℕ) → k < 21 → inode_part (zeros 4096) k ≡ zeros 192
unfolding zeros
part_zeros k lt = ap (take 192) (drop-replicate (192 * k) 4096 0) ∙ take-replicate 192 (4096 - 192 * k) 0 (omega arith)

pub behind_zeros : drop (192 * 21) (zeros 4096) ≡ zeros (4096 - 192 * 21)
unfolding zeros
behind_zeros = drop-replicate (192 * 21) 4096 0
