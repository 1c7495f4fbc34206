use Rattle.std.proofs.Common.{rules, ◌≡◌, ◌+◌, ◌*◌, ◌≤◌, ◌==◌, if◌then◌else◌, ℕ, inl, inr, slice_index, sym, subst, arith}
use Rattle.std.proofs.Math.Nat.{eq-or-lt_of_le}
use Rattle.layout.specs.Maps.{map_entry}
use Rattle.images.proofs.SumLaws.{sum_of_none}
use Rattle.checker.proofs.CountLaws.{count_more}
use Rattle.checker.proofs.map.compare_block.Goals as goal
use Rattle.checker.proofs.map.compare_block.Goals.{then-entry-eq0, else-entry-eq0}

pub loop-r-init : goal.loop-r-init
loop-r-init c = (omega arith, (λ i low. absurd (omega (arith, low))), sym (sum_of_none _))

pub loop-r-preserved : goal.loop-r-preserved
loop-r-preserved c =
    let r = c.loop-r.r in
    let before = c.loop-r.invariant in
    let here : map_entry c.args.bytes.now r ≡ slice_index c.args.marks.now (1024 * c.args.j + r) = search rules in
    let more : c.if-entry-eq0.free ≡ c.loop-r.free + (if map_entry c.args.bytes.now r == 0 then 1 else 0) = elim c.if-entry-eq0.branch [
      | then-entry-eq0 w ↦ search rules
      | else-entry-eq0 w ↦ search rules
    ] in
    let few : c.if-entry-eq0.free ≤ r + 1 = elim c.if-entry-eq0.branch [
      | then-entry-eq0 w ↦ omega (arith, w.free-is, before.0)
      | else-entry-eq0 w ↦ omega (arith, w.free-is, before.0)
    ] in (
      few,
      (λ i low. let most : i ≤ r = omega (arith, low) in elim (eq-or-lt_of_le most) [
        | inl same ↦ subst (λ (n : ℕ). map_entry c.args.bytes.now n ≡ slice_index c.args.marks.now (1024 * c.args.j + n)) (sym same) here
        | inr lt ↦ before.1 i lt
      ]),
      count_more (map_entry c.args.bytes.now) r c.loop-r.free c.if-entry-eq0.free before.2 more,
    )
