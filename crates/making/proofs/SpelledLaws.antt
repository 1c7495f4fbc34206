-- The first block of the inode file spells the inodes of a new image.
use Rattle.std.proofs.Common.{◌≡◌, ◌≢◌, false, ℕ, zero, suc, ◌+◌, ◌*◌, ◌%◌, ◌≤◌, List, length, drop, refl, ap, sym, subst, ◌∙◌, arith, length-take, length-drop, length-append}
use Rattle.std.proofs.Math.Path.{fun_ext}
use Rattle.std.proofs.lemmas.Bool.{ne_eqb}
use Rattle.std.specs.Prelude.{Some, ◌==◌, if◌then◌else◌}
use Rattle.model.specs.Attributes.{no_attributes}
use Rattle.layout.specs.Bytes.{zeros}
use Rattle.layout.specs.Inode.{inode_bytes}
use Rattle.layout.specs.Places.{Blocks}
use Rattle.layout.specs.declared.inode.Inode.{Inode}
use Rattle.layout.specs.declared.trees.Layout.{Layout}
use Rattle.layout.specs.declared.kind.Kind.TheVariants as kinds
use Rattle.images.specs.FirstRoots.{empty_directory, first_inodes, first_tree}
use Rattle.images.specs.InodeFiles.{FitsPlace, spliced_at, with_inode}
use Rattle.images.specs.Nodes.{Held, held, file_block}
use Rattle.images.specs.Overlays.{Overlay, overlaid_block}
use Rattle.images.specs.Roots.{free_inode, inode_bytes_at}
use Rattle.images.specs.Soundness.{SpellsInodes}
use Rattle.making.specs.Starts.{inodes_block, nothing}
use Rattle.layout.proofs.ZeroLaws.{length-zeros}
use Rattle.images.proofs.EmptyLaws.{free_bytes, part_zeros, behind_zeros}

-- what images says of putting inodes
pub record PutsOneByOne : Type 0 where
  pub there : (h : Held) (c : Overlay) (n : ℕ) (bytes : List ℕ) → FitsPlace h c n bytes → inode_bytes_at (overlaid_block h (with_inode h c n bytes)) n ≡ bytes
  pub others : (h : Held) (c : Overlay) (n m : ℕ) (bytes : List ℕ) → FitsPlace h c n bytes → m ≢ n
      → inode_bytes_at (overlaid_block h (with_inode h c n bytes)) m ≡ inode_bytes_at (overlaid_block h c) m
  pub behind : (h : Held) (c : Overlay) (n i : ℕ) (bytes : List ℕ) → FitsPlace h c n bytes
      → drop (192 * 21) (overlaid_block h (with_inode h c n bytes) i) ≡ drop (192 * 21) (overlaid_block h c i)

length-put : (at : ℕ) (bytes block : List ℕ) → length block ≡ 4096 → length bytes ≡ 192 → at + 192 ≤ 4096 → length (spliced_at at bytes block) ≡ 4096
length-put at bytes block whole long fits = simp (length-take, length-drop, length-append) (omega (arith, whole, long))

module _ (puts : PutsOneByOne) (layout : Layout) (numbers map : Inode) (long_numbers : length (inode_bytes numbers) ≡ 192) (long_map : length (inode_bytes map) ≡ 192) (long_directory : length (inode_bytes (empty_directory layout)) ≡ 192) where
  abbrev base : Held
  base = held nothing (free_inode layout)

  abbrev c0 : Overlay
  c0 = record { kind = kinds.InodeFile; attributes = no_attributes; links = 0; size = 0; kept = 0; block = λ i. Some (zeros 4096) }

  abbrev c1 : Overlay
  c1 = with_inode base c0 1 (inode_bytes numbers)

  abbrev c2 : Overlay
  c2 = with_inode base c1 2 (inode_bytes map)

  abbrev c3 : Overlay
  c3 = with_inode base c2 3 (inode_bytes (empty_directory layout))

  fits1 : FitsPlace base c0 1 (inode_bytes numbers)
  fits1 = record { block = length-zeros 4096; inode = long_numbers }

  fits2 : FitsPlace base c1 2 (inode_bytes map)
  fits2 = record { block = length-put 192 (inode_bytes numbers) (zeros 4096) (length-zeros 4096) long_numbers (omega arith); inode = long_map }

  fits3 : FitsPlace base c2 3 (inode_bytes (empty_directory layout))
  fits3 = record { block = length-put 384 (inode_bytes map) (spliced_at 192 (inode_bytes numbers) (zeros 4096)) fits2.block long_map (omega arith); inode = long_directory }

  pub first_long : length (inodes_block layout numbers map) ≡ 4096
  first_long = length-put 576 (inode_bytes (empty_directory layout)) (overlaid_block base c2 0) fits3.block long_directory (omega arith)

  blocks_are : (i : ℕ) → overlaid_block base c3 i ≡ (if i == 0 then inodes_block layout numbers map else zeros 4096)
  blocks_are zero = refl
  blocks_are (suc i) = (let later : (suc i == 0) ≡ false = ne_eqb (suc i) 0 (λ is. absurd (omega (arith, is))) in rw later refl)

  other : (m : ℕ) → m ≢ 1 → m ≢ 2 → m ≢ 3 → inode_bytes_at (overlaid_block base c3) m ≡ zeros 192
  other m one two three =
      puts.others base c2 3 m (inode_bytes (empty_directory layout)) fits3 three ∙ puts.others base c1 2 m (inode_bytes map) fits2 two ∙ puts.others base c0 1 m (inode_bytes numbers) fits1 one
      ∙ part_zeros (m % 21) (omega arith)

  each : (top : Inode) (n : ℕ) → top.layout ≡ layout → 1 ≤ n → inode_bytes_at (overlaid_block base c3) n ≡ inode_bytes (first_inodes top numbers map n)
  each top zero same low = absurd (omega arith)
  each top (suc zero) same low =
      puts.others base c2 3 1 (inode_bytes (empty_directory layout)) fits3 (λ is. absurd (omega (arith, is))) ∙ puts.others base c1 2 1 (inode_bytes map) fits2 (λ is. absurd (omega (arith, is)))
      ∙ puts.there base c0 1 (inode_bytes numbers) fits1
  each top (suc (suc zero)) same low = puts.others base c2 3 2 (inode_bytes (empty_directory layout)) fits3 (λ is. absurd (omega (arith, is))) ∙ puts.there base c1 2 (inode_bytes map) fits2
  each top (suc (suc (suc zero))) same low = puts.there base c2 3 (inode_bytes (empty_directory layout)) fits3 ∙ ap (λ (l : Layout). inode_bytes (empty_directory l)) (sym same)
  each top (suc (suc (suc (suc n)))) same low = other (suc (suc (suc (suc n)))) (λ is. absurd (omega (arith, is))) (λ is. absurd (omega (arith, is))) (λ is. absurd (omega (arith, is))) ∙ sym (free_bytes top.layout)

  pub first_spelled : (e : Blocks) (inodes : ℕ) (top : Inode) → top.layout ≡ layout → 32 ≤ inodes → ((i : ℕ) → file_block (held e top) i ≡ (if i == 0 then inodes_block layout numbers map else zeros 4096))
      → SpellsInodes inodes (file_block (held e top)) (first_tree e top numbers map)
  unfolding held
  first_spelled e inodes top same some blocks = subst (λ (g : ℕ → List ℕ). SpellsInodes inodes g (first_tree e top numbers map)) (fun_ext (λ i. blocks_are i ∙ sym (blocks i))) (record {
    each = λ n low high. each top n same low;
    first = other 0 (λ is. absurd (omega (arith, is))) (λ is. absurd (omega (arith, is))) (λ is. absurd (omega (arith, is)));
    past = λ n past. other n (λ is. absurd (omega (arith, is, some))) (λ is. absurd (omega (arith, is, some))) (λ is. absurd (omega (arith, is, some)));
    behind = λ i. puts.behind base c2 3 i (inode_bytes (empty_directory layout)) fits3 ∙ puts.behind base c1 2 i (inode_bytes map) fits2 ∙ puts.behind base c0 1 i (inode_bytes numbers) fits1 ∙ behind_zeros;
  })
