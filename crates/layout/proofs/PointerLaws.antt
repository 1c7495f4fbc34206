-- Pointers, and what stands at one.
use Rattle.std.proofs.Common.{◌≡◌, ◌≢◌, inl, inr, ℕ, ◌+◌, ◌*◌, ◌<◌, List, ◌++◌, length, get_or, refl, ap, sym, subst, ◌∙◌, arith}
use Rattle.std.specs.Prelude.{All}
use Rattle.std.proofs.lemmas.Bool.{cases_lt}
use Rattle.std.proofs.lemmas.List.{get_or_past}
use Rattle.layout.specs.Maps.{indirect_pointer}
use Rattle.layout.specs.Places.{Blocks, blocks_of, follow, pointed}
use Rattle.layout.specs.Pointer.{PointsBelow}
use Rattle.layout.specs.declared.pointer.Pointer.{Pointer}
use Rattle.layout.specs.declared.pointer.Pointer.TheVariants.{Hole, Block}

-- a hole is no block
pub no_block : (p : Pointer) (b : ℕ) → p ≡ Hole → p ≡ Block b → ⊥
no_block p b hole block = absurd (let e = sym hole ∙ block in cc)

pub hole_block : {X : Type 0} {b : ℕ} → Hole ≡ Block b → X
hole_block e = cc

pub block_same : (a b : ℕ) → Block a ≡ Block b → a ≡ b
block_same a b e = cc

-- no hole is a block
pub some_block : (p : Pointer) → p ≢ Hole → (b : ℕ) × (p ≡ Block b)
some_block Hole some = absurd (some refl)
some_block (Block b) some = (b, refl)

-- of pointers that stay on the disk, one at any place does
pub points_below : (blocks : ℕ) (pointers : List Pointer) (i : ℕ) → All (PointsBelow blocks) pointers → PointsBelow blocks (get_or pointers i Hole)
points_below blocks pointers i all = elim (cases_lt i (length pointers)) [
  | inl lt ↦ all i Hole lt
  | inr ge ↦ subst (PointsBelow blocks) (sym (get_or_past pointers i Hole ge)) tt
]

-- on disks that agree on a pointer's block
pub follow_same : (d e : Blocks) (p : Pointer) (i : ℕ) → ((b : ℕ) → p ≡ Block b → e b ≡ d b) → follow e p i ≡ follow d p i
follow_same d e Hole i same = refl
follow_same d e (Block b) i same = ap (λ bytes. indirect_pointer bytes i) (same b refl)

pub pointed_same : (d e : Blocks) (p : Pointer) → ((b : ℕ) → p ≡ Block b → e b ≡ d b) → pointed e p ≡ pointed d p
pointed_same d e Hole same = refl
pointed_same d e (Block b) same = same b refl

-- a block whose eight sectors are the same
pub same_block : (d e : ℕ → List ℕ) (b : ℕ) → ((i : ℕ) → i < 8 → e (8 * b + i) ≡ d (8 * b + i)) → blocks_of e b ≡ blocks_of d b
unfolding blocks_of
same_block d e b same =
    let first : e (8 * b) ≡ d (8 * b) = subst (λ n. e n ≡ d n) (omega arith) (same 0 (omega arith)) in
    λ j. first j ++ (same 1 (omega arith) j ++ (same 2 (omega arith) j ++ (same 3 (omega arith) j
    ++ (same 4 (omega arith) j ++ (same 5 (omega arith) j ++ (same 6 (omega arith) j ++ same 7 (omega arith) j))))))
