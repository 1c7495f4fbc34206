-- What the size of a file tells: its level, and the pointers that it uses.
use Rattle.std.proofs.Common.{◌≡◌, ℕ, suc, ◌-◌, ◌*◌, ◌<◌, ◌≤◌, true, false, leb, refl, ap, subst, ◌∙◌, arith}
use Rattle.std.proofs.lemmas.Bool.{lt-leb, le-leb}
use Rattle.std.proofs.lemmas.Bool.Decides.{nat_tests}
use Rattle.model.specs.declared.attributes.Attributes.{Attributes}
use Rattle.layout.specs.Inode.{FitsKind, nodes_of_size, pointers_used}
use Rattle.layout.specs.Limits.{Sizes}
use Rattle.layout.specs.Trees.{level_of, single_bytes}
use Rattle.layout.specs.declared.trees.Layout.{Layout}
use Rattle.layout.specs.declared.kind.Kind.{Kind}
use Rattle.layout.specs.declared.kind.Kind.TheVariants as kinds

pub level_none : (layout : Layout) (size : ℕ) → size ≤ 128 → level_of layout size ≡ 0
level_none layout size low = let a : leb size 128 ≡ true = le-leb _ _ low in rw a refl

pub level_one : (layout : Layout) (size : ℕ) → 128 < size → size ≤ 65536 → level_of layout size ≡ 1
level_one layout size large low = let a : leb size 128 ≡ false = lt-leb _ _ large in let b : leb size 65536 ≡ true = le-leb _ _ low in rw (a, b) refl

pub level_two : (layout : Layout) (size : ℕ) → 65536 < size → size ≤ single_bytes layout → level_of layout size ≡ 2
level_two layout size large low =
    let a : leb size 128 ≡ false = lt-leb _ _ (omega arith) in
    let b : leb size 65536 ≡ false = lt-leb _ _ large in
    let c : leb size (single_bytes layout) ≡ true = le-leb _ _ low in
    rw (a, b, c) refl

pub level_some : (layout : Layout) (size : ℕ) → 128 < size → 1 ≤ level_of layout size
level_some layout size large = grind (arith, nat_tests, large)

-- the inode file has no third height
pub level_low : (layout : Layout) (size : ℕ) → size ≤ single_bytes layout → level_of layout size ≤ 2
level_low layout size low = grind (arith, nat_tests, low)

-- the inode's pointers lead to the highest nodes
pub used_is : (layout : Layout) (size top : ℕ) → level_of layout size ≡ suc top → pointers_used layout size ≡ nodes_of_size layout size top
used_is layout size top level =
    let one : suc top - 1 ≡ top = omega arith in
    ap (λ l. nodes_of_size layout size (l - 1)) level ∙ ap (nodes_of_size layout size) one

-- the block map has four bytes for each block
pub map_size : (k : Kind) (s : Sizes) (attributes : Attributes) (links size : ℕ) → k ≡ kinds.BlockMap → FitsKind k s attributes links size → size ≡ 4 * s.blocks
map_size k s attributes links size is fits = (subst (λ x. FitsKind x s attributes links size) is fits).2
