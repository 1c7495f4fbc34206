-- Counts of free blocks.
use Rattle.std.proofs.Common.{zero, suc, ◌≡◌, ℕ, ◌+◌, ◌-◌, ◌<◌, ◌≤◌, List, false, inl, inr, refl, ap, sym, subst, ◌∙◌, arith}
use Rattle.std.specs.Prelude.{if◌then◌else◌, ◌==◌}
use Rattle.std.proofs.lemmas.Bool.{cases_lt}
use Rattle.std.proofs.lemmas.Bool.Decides.{nat_tests}
use Rattle.blockmap.specs.Parts.{Part}
use Rattle.blockmap.specs.Maps.{free_below, settled_at, IsFree}
use Rattle.blockmap.specs.Space.{left}
use Rattle.blockmap.specs.declared.map.BlockMap.{BlockMap}
use Rattle.blockmap.proofs.MapLemmas.{free_here}

-- below a later block there are as many or more
rising : (parts : List Part) (a b : ℕ) → a ≤ b → free_below parts a ≤ free_below parts b
unfolding free_below
rising parts a zero le =
    let is : a ≡ 0 = omega arith in
    subst (λ (n : ℕ). free_below parts n ≤ free_below parts 0) (sym is) (omega arith)
rising parts a (suc b) le = elim (cases_lt a (suc b)) [
  | inl lt ↦ (let below = rising parts a b (omega arith) in omega (arith, below))
  | inr ge ↦ (let is : a ≡ suc b = omega arith in subst (λ (n : ℕ). free_below parts n ≤ free_below parts (suc b)) (sym is) (omega arith))
]

-- where none is free between two blocks, not more are below the later one
none_between : (parts : List Part) (a b : ℕ) → ((k : ℕ) → a ≤ k → k < b → IsFree parts k → ⊥) → free_below parts b ≤ free_below parts a
unfolding free_below
none_between parts a zero none = omega arith
none_between parts a (suc b) none = elim (cases_lt b a) [
  | inl lt ↦ rising parts (suc b) a (omega arith)
  | inr ge ↦
      let taken = none b ge (omega arith) in
      let no : (settled_at parts b == 0) ≡ false = grind (arith, nat_tests, taken) in
      let below = none_between parts a b (λ k low high. none k low (omega arith)) in
      rw no (omega (arith, below))
]

one_fewer : (parts : List Part) (count next b : ℕ) → next ≤ b → b < count → IsFree parts b → ((k : ℕ) → next ≤ k → k < b → IsFree parts k → ⊥)
    → free_below parts count - free_below parts next ≡ (free_below parts count - free_below parts (b + 1)) + 1
one_fewer parts count next b low high free least =
    let up = rising parts next b low in
    let down = none_between parts next b least in
    let here = free_here parts b (free_below parts b) refl free in
    let within = rising parts (b + 1) count (omega arith) in
    omega (arith, up, down, here, within)

-- the least free block is given out
pub left_fewer : (old new : BlockMap) (b : ℕ) → new.parts.items ≡ old.parts.items → new.count ≡ old.count → new.next ≡ b + 1 → old.next ≤ b → b < old.count → IsFree old.parts.items b
    → ((k : ℕ) → old.next ≤ k → k < b → IsFree old.parts.items k → ⊥) → left old ≡ left new + 1
unfolding left
left_fewer old new b parts count next low high free least =
    rw (parts, count, next) (one_fewer old.parts.items old.count old.next b low high free least)

-- none is free
pub left_none : (m : BlockMap) → ((k : ℕ) → m.next ≤ k → k < m.count → IsFree m.parts.items k → ⊥) → left m ≡ 0
unfolding left
left_none m none = let down = none_between m.parts.items m.next m.count none in omega (arith, down)

same_free : (old new : List Part) (n : ℕ) → ((b : ℕ) → settled_at new b ≡ settled_at old b) → free_below new n ≡ free_below old n
unfolding free_below
same_free old new zero same = refl
same_free old new (suc n) same =
    let below = same_free old new n same in
    ap (λ (x : ℕ). x + (if settled_at new n == 0 then 1 else 0)) below ∙ ap (λ (x : ℕ). free_below old n + (if x == 0 then 1 else 0)) (same n)

-- as many are left where the settled entries are the same, and no block is given out
pub left_same : (old new : BlockMap) → ((b : ℕ) → settled_at new.parts.items b ≡ settled_at old.parts.items b) → new.count ≡ old.count → new.next ≡ old.next → left new ≡ left old
unfolding left
left_same old new same count next =
    rw (count, next) (ap (λ (x : ℕ). x - free_below new.parts.items old.next) (same_free old.parts.items new.parts.items old.count same)
    ∙ ap (λ (x : ℕ). free_below old.parts.items old.count - x) (same_free old.parts.items new.parts.items old.next same))
