-- Blocks that are left while a plan is made.
use Rattle.std.proofs.Common.{◌≡◌, ℕ, ◌+◌, ◌<◌, ◌≤◌, List, length, ap, arith}
use Rattle.std.specs.Prelude.{slice_set}
use Rattle.std.specs.List.{sum_by}
use Rattle.std.proofs.lemmas.List.Sums.{get_or-le-sum_by, sum_by-le, sum_by-set}
use Rattle.layout.specs.declared.pointer.Pointer.{Pointer}
use Rattle.layout.specs.declared.pointer.Pointer.TheVariants.{Hole, Block}
use Rattle.blockmap.specs.Space.{left}
use Rattle.blockmap.proofs.SpaceLemmas.{left_same}
use Rattle.conspoint.specs.declared.draft.Draft.{Draft}
use Rattle.conspoint.specs.Drafts.{Grows}
use Rattle.conspoint.specs.Groups.{pointer_at}

-- as many are left where none is given out
pub same_left : (old new : Draft) → Grows old new → new.map.next ≡ old.map.next → left new.map ≡ left old.map
same_left old new grows next = left_same old.map new.map grows.settled.settled grows.count next

-- ---- the holes among pointers

abbrev hole : Pointer → ℕ
hole Hole = 1
hole (Block b) = 0

one_at_most : (p : Pointer) → hole p ≤ 1
one_at_most Hole = omega arith
one_at_most (Block b) = omega arith

abbrev pub holes : List Pointer → ℕ
holes = sum_by hole

pub holes_most : (places : List Pointer) → holes places ≤ length places
holes_most places = omega (arith, sum_by-le hole 1 places (λ k d lt. one_at_most _))

-- a hole is filled
pub hole_filled : (places : List Pointer) (k b : ℕ) → k < length places → pointer_at places k ≡ Hole → holes (slice_set places k (Block b)) + 1 ≡ holes places
hole_filled places k b lt is =
    let one : hole (pointer_at places k) ≡ 1 = ap hole is in
    omega (arith, one, sum_by-set hole places k (Block b) Hole lt)

-- there is one
pub some_hole : (places : List Pointer) (k : ℕ) → k < length places → pointer_at places k ≡ Hole → 1 ≤ holes places
some_hole places k lt is =
    let one : hole (pointer_at places k) ≡ 1 = ap hole is in
    omega (arith, one, get_or-le-sum_by hole places k Hole lt)
