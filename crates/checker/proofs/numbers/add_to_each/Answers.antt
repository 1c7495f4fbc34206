use Rattle.std.proofs.Common.{◌≡◌, ◌∙◌, ◌+◌, ◌<◌, Vec, Global, length, arith, sym, subst}
use Rattle.std.specs.Prelude.{Some, slice_get}
use Rattle.images.specs.BlockMap.{HasBit}
use Rattle.checker.specs.declared.tree.Tree.{Tree}
use Rattle.model.proofs.OptionLaws.{some_same}
use Rattle.checker.proofs.EachLaws.{Each, each_all, each_same, each_set, get_at}
use Rattle.checker.proofs.RowLaws.{Adds, adds_in, adds_not, keeps}
use Rattle.checker.proofs.numbers.add_to_each.Goals as goal
use Rattle.checker.proofs.numbers.add_to_each.Goals.{then-is_among, else-is_among}

pub loop-k-preserved : goal.loop-k-preserved
loop-k-preserved c =
    let k = c.loop-k.k in
    let lt : c.loop-k.k < length c.loop-k.trees.items = omega (arith, c.loop-k-test.true, c.len-k-end.ensures, c.loop-k.invariant.length_is) in
    let at : slice_get c.loop-k.trees.items c.loop-k.k ≡ Some c.index.result.now = get_at c.loop-k.trees.items c.loop-k.k c.index.result.now lt c.index.ensures in
    elim c.if-is_among.branch [
      | then-is_among w ↦
          let here : slice_get c.loop-k.trees.items c.loop-k.k ≡ Some w.index_mut.result.now = get_at c.loop-k.trees.items c.loop-k.k w.index_mut.result.now lt w.index_mut.ensures.value in
          let bit : HasBit w.index_mut.result.now.plane c.args.bits = subst (λ (t : Tree). HasBit t.plane c.args.bits) (some_same (sym at ∙ here)) ((c.is_among.ensures).0 w.if-is_among.true) in
          subst (λ (v : Vec Tree Global). Each (Adds c.args.bits c.args.fault) (c.loop-k.k + 1) c.args.trees.now.items v.items) (sym w.trees-is)
          (each_set (Adds c.args.bits c.args.fault) c.loop-k.k c.args.trees.now.items c.loop-k.trees.items w.index_mut.result.now w.add.new.self c.loop-k.invariant lt here
          (adds_in c.args.bits c.args.fault c.loop-k.k w.index_mut.result.now w.add.new.self bit w.add.ensures))
      | else-is_among w ↦
          subst (λ (v : Vec Tree Global). Each (Adds c.args.bits c.args.fault) (c.loop-k.k + 1) c.args.trees.now.items v.items) (sym w.trees-is)
          (each_same (Adds c.args.bits c.args.fault) c.loop-k.k c.args.trees.now.items c.loop-k.trees.items c.index.result.now c.loop-k.invariant at
          (adds_not c.args.bits c.args.fault c.loop-k.k c.index.result.now (λ bit. let yes = (c.is_among.ensures).1 bit in let is_not = w.if-is_among.false in cc)))
    ]

pub returns-clause-trees : goal.returns-clause-trees
returns-clause-trees c =
    keeps (Adds c.args.bits c.args.fault) c.loop-k.k c.args.trees.now.items c.loop-k.trees.items (λ i t q adds. adds.0) c.loop-k.invariant
    (omega (arith, c.len-k-end.ensures, c.loop-k-test.false))

pub returns-clause-added : goal.returns-clause-added
returns-clause-added c = λ i t q was is.
    let all = each_all (Adds c.args.bits c.args.fault) c.loop-k.k c.args.trees.now.items c.loop-k.trees.items c.loop-k.invariant
    (omega (arith, c.len-k-end.ensures, c.loop-k-test.false)) i t q was is in
    (all.1, all.2)
