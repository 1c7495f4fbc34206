-- How many blocks are counted for what changed.
use Rattle.std.proofs.Common.{◌≡◌, ℕ, zero, suc, ◌+◌, ◌<◌, ◌≤◌, Option, Some, None, length, inl, inr, ap, sym, subst, ◌∙◌, arith}
use Rattle.std.proofs.lemmas.Bool.{cases_lt}
use Rattle.std.proofs.lemmas.List.Kept.{AllPairs-from_increasing}
use Rattle.std.specs.List.Sorted.{IsStrictlyIncreasing}
use Rattle.std.specs.Prelude.{List, slice_index}
use Rattle.inode.specs.declared.object.Object.{Object}
use Rattle.inofile.specs.Inodes.{IsChangedSlot, slot_object}
use Rattle.inofile.specs.declared.inode_file.ObjectSlot.{ObjectSlot}
use Rattle.inofile.specs.declared.inode_file.ObjectSlot.TheVariants.{AsSettled, Loaded, Changed}
use Rattle.inofile.specs.declared.inode_file.InodeFile.{InodeFile}
use Rattle.layout.specs.Trees.{level_of}
use Rattle.images.specs.Sums.{sum_below}
use Rattle.images.proofs.SumLaws.{sum_of_none}
use Rattle.blocktree.specs.Places.{block_count}
use Rattle.inode.specs.declared.file.File.{File}
use Rattle.conspoint.specs.Space.{changed_blocks}
use Rattle.placement.specs.Space.{tops_stored, file_stores, height_stores, more_over}
use Rattle.planning.specs.Space.{nodes_below, number_nodes, slot_nodes}

-- below a later number as many are counted, or more
pub counts_rise : (s : InodeFile) (a b : ℕ) → a ≤ b → nodes_below s a ≤ nodes_below s b
unfolding nodes_below
counts_rise s a zero le =
    let is : a ≡ 0 = omega arith in
    subst (λ (n : ℕ). nodes_below s n ≤ nodes_below s 0) (sym is) (omega arith)
counts_rise s a (suc b) le = elim (cases_lt a (suc b)) [
  | inl lt ↦ (let below = counts_rise s a b (omega arith) in omega (arith, below))
  | inr ge ↦ (let is : a ≡ suc b = omega arith in subst (λ (n : ℕ). nodes_below s n ≤ nodes_below s (suc b)) (sym is) (omega arith))
]

-- a number is counted below each later one
pub is_counted : (s : InodeFile) (n m : ℕ) → n < m → nodes_below s n + number_nodes s n ≤ nodes_below s m
unfolding nodes_below
is_counted s n m lt = counts_rise s (suc n) m (omega arith)

-- what is changed is counted as the object that it is
pub counts_object : (slot : Option ObjectSlot) (o : Object) → IsChangedSlot slot → slot_object slot ≡ Some o → slot_nodes slot ≡ file_stores o.file
counts_object None o changed is = absurd changed
counts_object (Some AsSettled) o changed is = absurd changed
counts_object (Some (Loaded object)) o changed is = absurd changed
counts_object (Some (Changed None)) o changed is = cc
counts_object (Some (Changed (Some p))) o changed is =
    let same : p ≡ o = cc in
    ap (λ (x : Object). file_stores x.file) same

-- a number of a list that rises is behind those before it
pub is_behind : (xs : List ℕ) (i n k : ℕ) → IsStrictlyIncreasing xs → i < length xs → n ≡ slice_index xs i → k < i → slice_index xs k < n
is_behind xs i n k rises within is lt =
    let below : slice_index xs k < slice_index xs i = AllPairs-from_increasing xs rises k i 0 lt within in
    omega (arith, below, is)

-- of an empty file nothing is stored
pub none_stored : (f : File) → f.size ≡ 0 → file_stores f ≤ 0
none_stored f empty =
    let stores = height_stores f.tree.layout (block_count f.size) (changed_blocks f.tree 0 (block_count f.size)) (more_over f) (tops_stored f.tree.layout f) in
    let none = ap (λ (n : ℕ). sum_below stores (level_of f.tree.layout n)) empty ∙ sum_of_none stores in
    omega (arith, none)
