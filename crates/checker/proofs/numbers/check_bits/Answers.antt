use Rattle.std.proofs.Common.{◌≡◌, ◌∙◌, ◌+◌, ◌<◌, Vec, Global, length, arith, true, sym, subst}
use Rattle.std.specs.Prelude.{◌⊎◌, Some, slice_get}
use Rattle.layout.specs.Maps.{IsTaken}
use Rattle.layout.specs.declared.kind.Kind.TheVariants.{Free}
use Rattle.images.specs.BlockMap.{HasBit}
use Rattle.checker.specs.Rows.{IsMappedAs}
use Rattle.checker.specs.Trees.{IsOut}
use Rattle.checker.specs.declared.tree.Tree.{Tree}
use Rattle.model.proofs.OptionLaws.{some_same}
use Rattle.checker.proofs.EachLaws.{Each, each_all, each_same, each_set, get_at}
use Rattle.checker.proofs.RowLaws.{Compares, compares_in, compares_not, keeps, tests_agree, tests_differ}
use Rattle.checker.proofs.numbers.check_bits.Goals as goal
use Rattle.checker.proofs.numbers.check_bits.Goals.{then-is_among+then-not-is_out+then-is_taken-used, then-is_among+then-not-is_out+else-is_taken-used, else-is_among, else-is_among-via-then-is_among+else-not-is_out, else-is_among-via-else-is_among}

pub loop-k-preserved : goal.loop-k-preserved
loop-k-preserved c =
    let lt : c.loop-k.k < length c.loop-k.trees.items = omega (arith, c.loop-k-test.true, c.len-k-end.ensures, c.loop-k.invariant.length_is) in
    let at : slice_get c.loop-k.trees.items c.loop-k.k ≡ Some c.index.result.now = get_at c.loop-k.trees.items c.loop-k.k c.index.result.now lt c.index.ensures in
    elim c.if-is_among.branch [
      | then-is_among+then-not-is_out+then-is_taken-used w ↦
          let here : slice_get c.loop-k.trees.items c.loop-k.k ≡ Some w.index_mut.result.now = get_at c.loop-k.trees.items c.loop-k.k w.index_mut.result.now lt w.index_mut.ensures.value in
          let read : slice_get c.loop-k.trees.items c.loop-k.k ≡ Some w.index-then-not-is_out.result.now = get_at c.loop-k.trees.items c.loop-k.k w.index-then-not-is_out.result.now lt w.index-then-not-is_out.ensures in
          let bit : HasBit w.index_mut.result.now.plane c.args.bits = subst (λ (t : Tree). HasBit t.plane c.args.bits) (some_same (sym at ∙ here)) ((c.is_among.ensures).0 w.if-is_among.true) in
          subst (λ (v : Vec Tree Global). Each (Compares c.args.number c.args.inode.now.kind c.args.bits) (c.loop-k.k + 1) c.args.trees.now.items v.items) (sym w.trees-is)
          (each_set (Compares c.args.number c.args.inode.now.kind c.args.bits) c.loop-k.k c.args.trees.now.items c.loop-k.trees.items w.index_mut.result.now w.add.new.self c.loop-k.invariant lt here
          (compares_in c.args.number c.args.inode.now.kind c.args.bits c.loop-k.k w.index_mut.result.now w.add.new.self w.has_bit-is_taken.result bit
          (subst (λ (t : Tree). IsMappedAs c.args.number c.args.inode.now.kind t.numbers.items → ⊥) (some_same (sym read ∙ here))
          (tests_differ w.has_bit-is_taken.result c.is_used-used.result (IsTaken w.index-then-not-is_out.result.now.numbers.items c.args.number) ((c.args.number < 4) ⊎ (c.args.inode.now.kind ≡ Free → ⊥))
          w.if-is_taken-used.true w.has_bit-is_taken.ensures c.is_used-used.ensures))
          (subst (λ (t : Tree). (w.has_bit-is_taken.result ≡ true → IsTaken t.numbers.items c.args.number) × (IsTaken t.numbers.items c.args.number → w.has_bit-is_taken.result ≡ true)) (some_same (sym read ∙ here)) w.has_bit-is_taken.ensures)
          w.add.ensures))
      | then-is_among+then-not-is_out+else-is_taken-used w ↦
          let read : slice_get c.loop-k.trees.items c.loop-k.k ≡ Some w.index-then-not-is_out.result.now = get_at c.loop-k.trees.items c.loop-k.k w.index-then-not-is_out.result.now lt w.index-then-not-is_out.ensures in
          subst (λ (v : Vec Tree Global). Each (Compares c.args.number c.args.inode.now.kind c.args.bits) (c.loop-k.k + 1) c.args.trees.now.items v.items) (sym w.trees-is)
          (each_same (Compares c.args.number c.args.inode.now.kind c.args.bits) c.loop-k.k c.args.trees.now.items c.loop-k.trees.items w.index-then-not-is_out.result.now c.loop-k.invariant read
          (compares_not c.args.number c.args.inode.now.kind c.args.bits c.loop-k.k w.index-then-not-is_out.result.now (λ bit inside.
          tests_agree w.has_bit-is_taken.result c.is_used-used.result (IsTaken w.index-then-not-is_out.result.now.numbers.items c.args.number) ((c.args.number < 4) ⊎ (c.args.inode.now.kind ≡ Free → ⊥))
          w.if-is_taken-used.false w.has_bit-is_taken.ensures c.is_used-used.ensures)))
      | else-is_among w ↦
          subst (λ (v : Vec Tree Global). Each (Compares c.args.number c.args.inode.now.kind c.args.bits) (c.loop-k.k + 1) c.args.trees.now.items v.items) (sym w.trees-is)
          (each_same (Compares c.args.number c.args.inode.now.kind c.args.bits) c.loop-k.k c.args.trees.now.items c.loop-k.trees.items c.index.result.now c.loop-k.invariant at
          (compares_not c.args.number c.args.inode.now.kind c.args.bits c.loop-k.k c.index.result.now (λ bit inside. elim w.else-is_among.branch [
            | else-is_among-via-then-is_among+else-not-is_out v ↦
                let read : slice_get c.loop-k.trees.items c.loop-k.k ≡ Some v.index-then-is_among.result.now = get_at c.loop-k.trees.items c.loop-k.k v.index-then-is_among.result.now lt v.index-then-is_among.ensures in
                absurd (inside (subst (λ (t : Tree). IsOut t.fault) (some_same (sym read ∙ at)) ((v.is_out.ensures).0 v.if-not-is_out.false)))
            | else-is_among-via-else-is_among v ↦ absurd (let yes = (c.is_among.ensures).1 bit in let is_not = v.if-is_among.false in cc)
          ])))
    ]

pub returns-clause-trees : goal.returns-clause-trees
returns-clause-trees c =
    keeps (Compares c.args.number c.args.inode.now.kind c.args.bits) c.loop-k.k c.args.trees.now.items c.loop-k.trees.items (λ i t q so. so.0) c.loop-k.invariant
    (omega (arith, c.len-k-end.ensures, c.loop-k-test.false))

pub returns-clause-compared : goal.returns-clause-compared
returns-clause-compared c = λ i t q was is.
    (each_all (Compares c.args.number c.args.inode.now.kind c.args.bits) c.loop-k.k c.args.trees.now.items c.loop-k.trees.items c.loop-k.invariant
    (omega (arith, c.len-k-end.ensures, c.loop-k-test.false)) i t q was is).1
