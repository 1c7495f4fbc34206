use Rattle.std.proofs.Common.{◌≡◌, ◌∙◌, ◌+◌, ◌<◌, ◌≤◌, [], Vec, Global, length, drop, arith, ap, sym, subst}
use Rattle.std.specs.Prelude.{Some, slice_get, slice_index_or}
use Rattle.checker.specs.Rows.{rows_of}
use Rattle.checker.specs.declared.tree.Tree.{Tree}
use Rattle.checker.proofs.EachLaws.{Each, each_all, each_same, each_set, get_at, some_at}
use Rattle.checker.proofs.RowLaws.{Ends, ends_in, ends_not, ends_seen, keeps}
use Rattle.checker.proofs.numbers.check_ends.Goals as goal
use Rattle.checker.proofs.numbers.check_ends.Goals.{then-not-is_ended, else-not-is_ended}

pub loop-k-preserved : goal.loop-k-preserved
loop-k-preserved c =
    let lt : c.loop-k.k < length c.loop-k.trees.items = omega (arith, c.loop-k-test.true, c.len-k-end.ensures, c.loop-k.invariant.length_is) in
    let row : slice_index_or (rows_of c.args.rows.now) c.loop-k.k [] ≡ c.bytes.result.now = sym c.bytes.ensures in
    elim c.if-not-is_ended.branch [
      | then-not-is_ended w ↦
          let here : slice_get c.loop-k.trees.items c.loop-k.k ≡ Some w.index_mut.result.now = get_at c.loop-k.trees.items c.loop-k.k w.index_mut.result.now lt w.index_mut.ensures.value in
          subst (λ (v : Vec Tree Global). Each (Ends c.args.i (rows_of c.args.rows.now)) (c.loop-k.k + 1) c.args.trees.now.items v.items) (sym w.trees-is)
          (each_set (Ends c.args.i (rows_of c.args.rows.now)) c.loop-k.k c.args.trees.now.items c.loop-k.trees.items w.index_mut.result.now w.add.new.self c.loop-k.invariant lt here
          (ends_in c.args.i (rows_of c.args.rows.now) c.loop-k.k w.index_mut.result.now w.add.new.self
          (λ zero. let yes = (c.is_ended.ensures).1 (ap (drop 4032) (sym row) ∙ zero) in let is_not = w.if-not-is_ended.true in cc) w.add.ensures))
      | else-not-is_ended w ↦
          let some : (t : Tree) × (slice_get c.loop-k.trees.items c.loop-k.k ≡ Some t) = some_at c.loop-k.trees.items c.loop-k.k lt in
          subst (λ (v : Vec Tree Global). Each (Ends c.args.i (rows_of c.args.rows.now)) (c.loop-k.k + 1) c.args.trees.now.items v.items) (sym w.trees-is)
          (each_same (Ends c.args.i (rows_of c.args.rows.now)) c.loop-k.k c.args.trees.now.items c.loop-k.trees.items some.0 c.loop-k.invariant some.1
          (ends_not c.args.i (rows_of c.args.rows.now) c.loop-k.k some.0 (ap (drop 4032) row ∙ (c.is_ended.ensures).0 w.if-not-is_ended.false)))
    ]

pub returns-clause-trees : goal.returns-clause-trees
returns-clause-trees c =
    keeps (Ends c.args.i (rows_of c.args.rows.now)) c.loop-k.k c.args.trees.now.items c.loop-k.trees.items (λ i t q so. so.0) c.loop-k.invariant
    (omega (arith, c.len-k-end.ensures, c.loop-k-test.false))

pub returns-clause-seen : goal.returns-clause-seen
returns-clause-seen c = λ disk r marks shared are seen.
    let all : length c.args.trees.now.items ≤ c.loop-k.k = omega (arith, c.len-k-end.ensures, c.loop-k-test.false) in
    ends_seen disk r c.args.i marks shared c.args.trees.now.items c.loop-k.trees.items (rows_of c.args.rows.now)
    (keeps (Ends c.args.i (rows_of c.args.rows.now)) c.loop-k.k c.args.trees.now.items c.loop-k.trees.items (λ i t q so. so.0) c.loop-k.invariant all)
    (each_all (Ends c.args.i (rows_of c.args.rows.now)) c.loop-k.k c.args.trees.now.items c.loop-k.trees.items c.loop-k.invariant all) are seen
