-- Two disks that agree on what a tree names hold the same tree.
use Rattle.std.proofs.Common.{◌≡◌, inl, inr, ℕ, zero, suc, ◌-◌, ◌/◌, ◌%◌, ◌<◌, refl, ap, sym, ◌∙◌, arith}
use Rattle.std.proofs.Math.Path.{fun_ext}
use Rattle.std.proofs.lemmas.Bool.{cases_lt, cond_below, cond_above}
use Rattle.std.specs.Prelude.{nat_lt, if◌then◌else◌}
use Rattle.layout.specs.Limits.{Sizes}
use Rattle.layout.specs.Places.{Blocks, pointed, follow, place}
use Rattle.layout.specs.Trees.{fan_out, level_of}
use Rattle.layout.specs.declared.inode.Inode.{Inode}
use Rattle.layout.specs.declared.pointer.Pointer.{Pointer}
use Rattle.layout.specs.declared.pointer.Pointer.TheVariants.{Hole, Block}
use Rattle.layout.specs.declared.root.Root.{Root}
use Rattle.images.specs.Nodes.{held, Names, Agrees, pointers_of, place_at_height}
use Rattle.images.specs.Roots.{tree, Reach, inode_under, free_inode, slot, frozen_inode_file, frozen_at, whole, Needs, active, frozen, head}
use Rattle.layout.proofs.PointerLaws.{follow_same, pointed_same, hole_block}

below : {A : Type 0} (k n : ℕ) (x y z : A) → (k < n → x ≡ y) → (if nat_lt k n then x else z) ≡ (if nat_lt k n then y else z)
below k n x y z same = elim (cases_lt k n) [
  | inl lt ↦ sym (cond_below k n x z lt) ∙ same lt ∙ cond_below k n y z lt
  | inr ge ↦ sym (cond_above k n x z z ge refl) ∙ cond_above k n y z z ge refl
]

-- a node at a depth stands at the height below it
at_depth : (d : Blocks) (f : Inode) (k i : ℕ) → k < level_of f.layout f.size → place_at_height d f (level_of f.layout f.size - suc k) i ≡ place f.layout d (pointers_of f.body) k i
at_depth d f k i lt =
    let same : level_of f.layout f.size - suc (level_of f.layout f.size - suc k) ≡ k = omega arith in
    sym (cond_below (level_of f.layout f.size - suc k) (level_of f.layout f.size) (place f.layout d (pointers_of f.body) (level_of f.layout f.size - suc (level_of f.layout f.size - suc k)) i) Hole (omega arith))
    ∙ ap (λ n. place f.layout d (pointers_of f.body) n i) same

names_place : (d : Blocks) (f : Inode) (k i b : ℕ) → k < level_of f.layout f.size → place f.layout d (pointers_of f.body) k i ≡ Block b → Names (held d f) b
unfolding held
names_place d f k i b lt is = record { height = level_of f.layout f.size - suc k; index = i; is = at_depth d f k i lt ∙ is }

-- places at the depths of a file
place_same : (d e : Blocks) (f : Inode) → Agrees (Names (held d f)) d e → (k i : ℕ) → k < level_of f.layout f.size → place f.layout e (pointers_of f.body) k i ≡ place f.layout d (pointers_of f.body) k i
unfolding place
place_same d e f same zero i lt = refl
place_same d e f same (suc k) i lt =
    ap (λ p. follow e p (i % fan_out f.layout)) (place_same d e f same k (i / fan_out f.layout) (omega arith))
    ∙ follow_same d e _ (i % fan_out f.layout) (λ b is. same b (names_place d f k (i / fan_out f.layout) b (omega arith) is))

pub held_same : (d e : Blocks) (f : Inode) → Agrees (Names (held d f)) d e → held e f ≡ held d f
unfolding held
held_same d e f same =
    let place_is : (m i : ℕ) → place_at_height e f m i ≡ place_at_height d f m i = λ m i. below m (level_of f.layout f.size) _ _ Hole (λ lt. place_same d e f same (level_of f.layout f.size - suc m) i (omega arith)) in
    let bytes_is : (m i : ℕ) → pointed e (place_at_height e f m i) ≡ pointed d (place_at_height d f m i) = λ m i.
    ap (pointed e) (place_is m i) ∙ pointed_same d e _ (λ b is. same b (record { height = m; index = i; is = is })) in
    λ j. record { inode = f; place = λ m i. place_is m i j; bytes = λ m i. bytes_is m i j }

-- the whole tree
pub tree_same : (d e : Blocks) (inodes : ℕ) (top : Inode) → Agrees (Reach (tree d inodes top)) d e → tree e inodes top ≡ tree d inodes top
unfolding tree inode_under held
tree_same d e inodes top same =
    let root_is : held e top ≡ held d top = held_same d e top (λ b names. same b (record { file = 0; names = names })) in
    fun_ext (λ n.
    ap (λ h. held e (inode_under h inodes n)) root_is
    ∙ held_same d e (inode_under (held d top) inodes n) (λ b names. same b (record { file = n; names = names })))

-- ---- with its snapshots

pub frozen_same : (d e : Blocks) (s : Sizes) (p : Pointer) → ((b : ℕ) → p ≡ Block b → e b ≡ d b) → Agrees (Reach (frozen_at d s p)) d e → frozen_at e s p ≡ frozen_at d s p
unfolding held
frozen_same d e s Hole head_same names = fun_ext (λ n. held_same d e (free_inode s.layout) (λ b is. names b (record { file = n; names = is })))
frozen_same d e s (Block p) head_same names =
    ap (λ bytes. tree e s.inodes (frozen_inode_file s.layout bytes)) (head_same p refl)
    ∙ tree_same d e s.inodes (frozen_inode_file s.layout (d p)) names

-- a free slot holds nothing
pub frozen_none : (d : Blocks) (s : Sizes) (b : ℕ) → Reach (frozen_at d s Hole) b → ⊥
unfolding held
frozen_none d s b reach = hole_block (cond_above reach.names.height 0 _ Hole Hole (omega arith) refl ∙ reach.names.is)

pub whole_same : (d e : Blocks) (r : Root) → Agrees (Needs r (whole d r)) d e → whole e r ≡ whole d r
unfolding whole
whole_same d e r same =
    let inodes = r.geometry.inodes in
    let active_is : tree e inodes r.inode_file ≡ tree d inodes r.inode_file = tree_same d e inodes r.inode_file (λ b names. same b (active names)) in
    let head_is : (k : ℕ) → pointed e (slot r k) ≡ pointed d (slot r k) = λ k. pointed_same d e (slot r k) (λ b is. same b (head k is)) in
    let frozen_is : (k : ℕ) → frozen_at e r.geometry (slot r k) ≡ frozen_at d r.geometry (slot r k) = λ k.
    frozen_same d e r.geometry (slot r k) (λ b is. same b (head k is)) (λ b names. same b (frozen k names)) in
    λ j. record { active = active_is j; head = λ k. head_is k j; frozen = λ k. frozen_is k j }
