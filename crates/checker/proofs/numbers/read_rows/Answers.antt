use Rattle.std.proofs.Common.{◌≡◌, ◌∙◌, ℕ, ◌+◌, ◌*◌, ◌<◌, length, ap, arith, subst, sym}
use Rattle.std.specs.Prelude.{Some, slice_get}
use Rattle.std.proofs.lemmas.List.{length_push}
use Rattle.layout.specs.Pointer.{PointsBelow}
use Rattle.checker.specs.Rows.{row_added, rows_of}
use Rattle.checker.proofs.EachLaws.{each_set, get_at}
use Rattle.checker.proofs.ReadLaws.{looked, looked_more}
use Rattle.checker.proofs.RowLaws.{IsSame, keeps_part}
use Rattle.checker.proofs.RowReads.{leads_to_row, rows_done, rows_more}
use Rattle.checker.proofs.numbers.read_rows.Goals as goal

pub returns-in_err-read_row-clause-trees : goal.returns-in_err-read_row-clause-trees
returns-in_err-read_row-clause-trees g c =
    let lt : c.loop-k.k < length c.loop-k.trees.items = omega (arith, c.loop-k-test.true, c.len-k-end.ensures, c.loop-k.invariant.each.length_is) in
    keeps_part (c.loop-k.k + 1) c.args.trees.now.items _
    (each_set (λ j t q. IsSame t q) c.loop-k.k c.args.trees.now.items c.loop-k.trees.items c.index_mut.result.now c.read_row.new.tree c.loop-k.invariant.each lt
    (get_at c.loop-k.trees.items c.loop-k.k c.index_mut.result.now lt c.index_mut.ensures.value) c.read_row.ensures.same)

pub loop-k-preserved : goal.loop-k-preserved
loop-k-preserved g c =
    let lt : c.loop-k.k < length c.loop-k.trees.items = omega (arith, c.loop-k-test.true, c.len-k-end.ensures, c.loop-k.invariant.each.length_is) in
    let here : slice_get c.loop-k.trees.items c.loop-k.k ≡ Some c.index_mut.result.now = get_at c.loop-k.trees.items c.loop-k.k c.index_mut.result.now lt c.index_mut.ensures.value in
    record {
      looked = looked_more c.loop-k.invariant.looked (looked c.read_row.ensures.reads);
      each = each_set (λ j t q. IsSame t q) c.loop-k.k c.args.trees.now.items c.loop-k.trees.items c.index_mut.result.now c.read_row.new.tree c.loop-k.invariant.each lt here c.read_row.ensures.same;
      rows_length = ap length c.in_ok-read_row.ensures.added ∙ length_push (rows_of c.loop-k.rows) (row_added c.loop-k.rows c.read_row.new.rows) ∙ ap (λ (n : ℕ). n + 1) c.loop-k.invariant.rows_length;
      read = λ disk shows. c.in_ok-read_row.ensures.read disk (c.loop-k.invariant.looked.same disk shows) (c.loop-k.invariant.read disk shows);
      rows_are = λ disk r marks shared shows root same are.
          rows_more disk r c.args.i marks shared c.loop-k.k c.args.trees.now.items c.loop-k.trees.items c.index_mut.result.now c.read_row.new.tree (rows_of c.loop-k.rows) (rows_of c.read_row.new.rows) (row_added c.loop-k.rows c.read_row.new.rows)
          c.loop-k.invariant.each lt here c.loop-k.invariant.rows_length c.in_ok-read_row.ensures.added (c.loop-k.invariant.rows_are disk r marks shared shows root same are)
          (λ known.
          let start : slice_get c.args.trees.now.items c.loop-k.k ≡ Some c.index_mut.result.now = sym (c.loop-k.invariant.each.rest c.loop-k.k (omega arith)) ∙ here in
          c.in_ok-read_row.ensures.row disk r c.args.i (21 * c.args.i) marks shared (c.loop-k.invariant.looked.same disk shows) root (c.loop-k.invariant.read disk shows)
          (leads_to_row disk r c.args.i c.index_mut.result.now known.tree c.based_trees_are_sound.ensures.all (g.B.Blocks.count c.args.blocks.now)
          c.index.result.now c.at-place.result same (omega (arith, root.head.sizes.least_inodes)) c.at-place.ensures (are c.loop-k.k c.index_mut.result.now c.index.result.now start
          (get_at c.args.places.now.items c.loop-k.k c.index.result.now (omega (arith, c.loop-k-test.true, c.len-k-end.ensures, c.requires.places)) c.index.ensures)))
          known);
    }

pub returns-clause-trees : goal.returns-clause-trees
returns-clause-trees g c = keeps_part c.loop-k.k c.args.trees.now.items c.loop-k.trees.items c.loop-k.invariant.each

pub returns-clause-rows : goal.returns-clause-rows
returns-clause-rows g c = λ disk r marks shared shows root same are seen.
    rows_done disk r c.args.i marks shared c.loop-k.k c.args.trees.now.items c.loop-k.trees.items (rows_of c.loop-k.rows)
    (keeps_part c.loop-k.k c.args.trees.now.items c.loop-k.trees.items c.loop-k.invariant.each) c.loop-k.invariant.rows_length
    (omega (arith, c.loop-k-test.false, c.loop-k.auto.k-end, c.len-k-end.ensures)) (c.loop-k.invariant.rows_are disk r marks shared shows root same are) seen

pub read_row-requires : goal.read_row-requires
read_row-requires g c =
    subst (λ (n : ℕ). PointsBelow n c.at-place.result) (sym c.loop-k.invariant.looked.count) (subst (PointsBelow _) (sym c.at-place.ensures) (c.requires.below c.loop-k.k c.index.result.now
    (get_at c.args.places.now.items c.loop-k.k c.index.result.now (omega (arith, c.loop-k-test.true, c.len-k-end.ensures, c.requires.places)) c.index.ensures) c.args.i))
