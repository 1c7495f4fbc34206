-- How many of the free blocks lie before those that the block map takes.
use Rattle.std.proofs.Common.{◌≡◌, ◌≢◌, inl, inr, ℕ, zero, suc, ◌+◌, ◌≤◌, List, false, refl, ap, sym, subst, ◌∙◌, arith}
use Rattle.std.specs.Prelude.{◌==◌, if◌then◌else◌, min}
use Rattle.std.proofs.lemmas.Bool.{cases_lt}
use Rattle.std.proofs.lemmas.Bool.Decides.{nat_tests}
use Rattle.blockmap.specs.Maps.{free_below, settled_at}
use Rattle.blockmap.specs.Parts.{Part}
use Rattle.blockmap.specs.Space.{left}
use Rattle.conspoint.specs.Space.{TakesAtMost}
use Rattle.conspoint.specs.declared.draft.Draft.{Draft}
use Rattle.layout.specs.declared.root.Root.{Root}
use Rattle.images.specs.BlockMap.{IsExact, entry, roots}
use Rattle.images.specs.Roots.{HeldTree, Whole}
use Rattle.images.specs.Room.{free_at, free_under}
use Rattle.images.proofs.EmptyLaws.{no_bit}
use Rattle.images.specs.Sums.{sum_below}
use Rattle.images.proofs.SumLaws.{sums_rise}

-- the map counts as its entries say
pub free_same : (t : HeldTree) (parts : List Part) → ((b : ℕ) → settled_at parts b ≡ entry t b) → (n : ℕ) → free_below parts n ≡ free_under t n
unfolding free_below sum_below
free_same t parts has zero = refl
free_same t parts has (suc b) = λ i. free_same t parts has b i + (if has b i == 0 then 1 else 0)

not_free : (t : HeldTree) (b : ℕ) → entry t b ≢ 0 → free_at t b ≡ 0
not_free t b used = let no : (entry t b == 0) ≡ false = grind (arith, nat_tests, used) in rw no refl

-- the two blocks that hold the roots aren't free
pub none_first : (r : Root) (w : Whole) → IsExact r w → free_under w.active 2 ≡ 0
unfolding sum_below
none_first r w exact =
    let zeroth = not_free w.active 0 (λ is. no_bit 31 _ is ((exact.system 0).1 (roots (omega arith)))) in
    let next = not_free w.active 1 (λ is. no_bit 31 _ is ((exact.system 1).1 (roots (omega arith)))) in
    omega (arith, zeroth, next)

-- so many of the free blocks at the most were given out until then
pub spent_most : (r : Root) (w : Whole) (old mid : Draft) (n count : ℕ) → IsExact r w → old.map.next ≡ 2 → old.map.count ≡ count → mid.map.count ≡ count
    → ((b : ℕ) → settled_at old.map.parts.items b ≡ entry w.active b) → ((b : ℕ) → settled_at mid.map.parts.items b ≡ entry w.active b)
    → TakesAtMost n old mid → free_under w.active (min mid.map.next count) ≤ n
unfolding left
spent_most r w old mid n count exact next old_count mid_count old_has mid_has takes =
    let all = free_same w.active old.map.parts.items old_has old.map.count ∙ ap (free_under w.active) old_count in
    let none = free_same w.active old.map.parts.items old_has old.map.next ∙ ap (free_under w.active) next ∙ none_first r w exact in
    let all_then = free_same w.active mid.map.parts.items mid_has mid.map.count ∙ ap (free_under w.active) mid_count in
    let given = free_same w.active mid.map.parts.items mid_has mid.map.next in
    elim (cases_lt count mid.map.next) [
      | inl past ↦
          let at : min mid.map.next count ≡ count = omega (arith, past) in
          let rise = sums_rise (free_at w.active) count mid.map.next (omega (arith, past)) in
          subst (λ (k : ℕ). free_under w.active k ≤ n) (sym at) (omega (arith, takes, all, none, all_then, given, rise))
      | inr within ↦
          let at : min mid.map.next count ≡ mid.map.next = omega (arith, within) in
          let rise = sums_rise (free_at w.active) mid.map.next count within in
          subst (λ (k : ℕ). free_under w.active k ≤ n) (sym at) (omega (arith, takes, all, none, all_then, given, rise))
    ]
