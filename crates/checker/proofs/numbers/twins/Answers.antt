use Rattle.std.proofs.Common.{◌≡◌, ◌∙◌, ℕ, ◌+◌, ◌<◌, length, arith, bit_or, sym, subst}
use Rattle.std.specs.Prelude.{Some, slice_get}
use Rattle.checker.specs.Rows.{rows_of}
use Rattle.checker.specs.Trees.{IsOut}
use Rattle.checker.specs.declared.tree.Tree.{Tree}
use Rattle.model.proofs.OptionLaws.{some_same}
use Rattle.checker.proofs.EachLaws.{get_at}
use Rattle.checker.proofs.TwinLaws.{AreTwinsTo, one_more, twins_end, twins_more, twins_skip, twins_start}
use Rattle.checker.proofs.numbers.twins.Goals as goal
use Rattle.checker.proofs.numbers.twins.Goals.{then-not-is_out+then-are_twins, else-not-is_out, else-not-is_out-via-then-not-is_out+else-are_twins, else-not-is_out-via-else-not-is_out}

pub loop-l-init : goal.loop-l-init
loop-l-init c =
    twins_start c.args.trees.now.items (rows_of c.args.rows.now) c.args.k c.args.place c.bit-bits.result c.index.result.now
    (get_at c.args.trees.now.items c.args.k c.index.result.now (omega (arith, c.requires.tree)) c.index.ensures) c.bit-bits.ensures

pub loop-l-preserved : goal.loop-l-preserved
loop-l-preserved c =
    let lt : c.loop-l.l < length c.args.trees.now.items = omega (arith, c.loop-l-test.true, c.len-l-end.ensures) in
    let after : c.args.k < c.loop-l.l = omega (arith, c.loop-l.auto.l) in
    let at : slice_get c.args.trees.now.items c.loop-l.l ≡ Some c.index-in-loop-l.result.now = get_at c.args.trees.now.items c.loop-l.l c.index-in-loop-l.result.now lt c.index-in-loop-l.ensures in
    elim c.if-not-is_out.branch [
      | then-not-is_out+then-are_twins w ↦
          let here : slice_get c.args.trees.now.items c.loop-l.l ≡ Some w.index-then-are_twins.result.now = get_at c.args.trees.now.items c.loop-l.l w.index-then-are_twins.result.now lt w.index-then-are_twins.ensures in
          subst (λ (n : ℕ). AreTwinsTo c.args.trees.now.items (rows_of c.args.rows.now) c.args.k c.args.place n (c.loop-l.l + 1)) (sym w.bits-is)
          (twins_more c.args.trees.now.items (rows_of c.args.rows.now) c.args.k c.args.place c.loop-l.bits (bit_or c.loop-l.bits w.bit-bits-then-are_twins.result) c.loop-l.l w.index-then-are_twins.result.now c.loop-l.invariant after here
          (subst (λ (t : Tree). IsOut t.fault → ⊥) (some_same (sym at ∙ here)) (λ out. let yes = (c.is_out.ensures).1 out in let is_not = w.if-not-is_out.true in cc))
          ((w.are_twins.ensures).0 w.if-are_twins.true)
          (one_more c.loop-l.bits w.bit-bits-then-are_twins.result w.index-then-are_twins.result.now.plane w.bit-bits-then-are_twins.ensures))
      | else-not-is_out w ↦
          subst (λ (n : ℕ). AreTwinsTo c.args.trees.now.items (rows_of c.args.rows.now) c.args.k c.args.place n (c.loop-l.l + 1)) (sym w.bits-is)
          (twins_skip c.args.trees.now.items (rows_of c.args.rows.now) c.args.k c.args.place c.loop-l.bits c.loop-l.l c.index-in-loop-l.result.now c.loop-l.invariant at
          (λ inside same. elim w.else-not-is_out.branch [
            | else-not-is_out-via-then-not-is_out+else-are_twins v ↦
                let yes = (v.are_twins.ensures).1 same in
                let is_not = v.if-are_twins.false in
                cc
            | else-not-is_out-via-else-not-is_out v ↦ inside ((c.is_out.ensures).0 v.if-not-is_out.false)
          ]))
    ]

pub returns : goal.returns
returns c =
    twins_end c.args.trees.now.items (rows_of c.args.rows.now) c.args.k c.args.place c.loop-l.bits c.loop-l.l c.loop-l.invariant
    (omega (arith, c.loop-l-test.false, c.len-l-end.ensures))
