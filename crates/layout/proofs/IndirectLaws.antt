-- Indirect blocks with zeros behind the pointers in use.
use Rattle.std.proofs.Common.{◌≡◌, ◌∙◌, ℕ, ◌+◌, ◌*◌, ◌<◌, ◌≤◌, Bool, false, not, List, length, drop, get_or, eqb, eqb-true, ap, arith, inl, inr, min, refl, sym, subst}
use Rattle.std.proofs.lemmas.Bool.{cases_lt, not-false}
use Rattle.std.proofs.lemmas.List.{get_or-drop}
use Rattle.layout.specs.Bytes.{number}
use Rattle.layout.specs.Maps.{IsPointerBlock, indirect_pointer}
use Rattle.layout.specs.Pointer.{PointsBelow, pointer_of}
use Rattle.layout.specs.declared.pointer.Pointer.TheVariants.{Hole}

abbrev pub differs : ℕ → ℕ → Bool
differs a b = not (eqb a b)

pub is_zero : (n : ℕ) → differs n 0 ≡ false → n ≡ 0
is_zero n same = eqb-true n 0 (not-false (eqb n 0) same)

number_zero : (xs : List ℕ) → ((j : ℕ) → j < 4 → get_or xs j 0 ≡ 0) → number 4 xs ≡ 0
unfolding number
number_zero xs zero = rw (zero 0 (omega arith), zero 1 (omega arith), zero 2 (omega arith), zero 3 (omega arith)) refl

-- of the pointers in use those that the block has room for are looked at
module _ (used count : ℕ) (few : count ≡ min used 1024) (bytes : List ℕ) (zero : (k : ℕ) → 4 * count ≤ k → k < 4096 → get_or bytes k 0 ≡ 0) where
  hole_behind : (i : ℕ) → i < 1024 → used ≤ i → indirect_pointer bytes i ≡ Hole
  hole_behind i low le = ap pointer_of (number_zero (drop (4 * i) bytes) (λ j small. get_or-drop (4 * i) bytes j 0 ∙ zero (4 * i + j) (omega (arith, few, le)) (omega (arith, low, small))))

  pub filled : (blocks : ℕ) → length bytes ≡ 4096 → (indirect_pointer bytes 0 ≡ Hole → ⊥) → ((i : ℕ) → i < count → PointsBelow blocks (indirect_pointer bytes i)) → IsPointerBlock blocks used bytes
  filled blocks long some fit = record {
    size = long;
    within = λ i low. (
      elim (cases_lt i used) [
        | inl less ↦ fit i (omega (arith, few, less, low))
        | inr more ↦ subst (PointsBelow blocks) (sym (hole_behind i low more)) tt
      ],
      hole_behind i low,
    );
    some = (0, omega arith, some);
  }
