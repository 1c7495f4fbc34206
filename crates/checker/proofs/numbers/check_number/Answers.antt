use Rattle.std.proofs.Common.{◌≡◌, ℕ, ◌+◌, ◌*◌, ◌<◌, ◌≤◌, length, bit_or, arith, sym, subst, inl, inr}
use Rattle.std.specs.Prelude.{Some, slice_get}
use Rattle.checker.specs.Rows.{rows_of}
use Rattle.checker.specs.Trees.{AreTrees, IsSeenTo}
use Rattle.checker.proofs.BetweenLaws.{between_end, between_more, between_skip, between_start}
use Rattle.checker.proofs.EachLaws.{get_at}
use Rattle.checker.proofs.MarkLaws.{bits_or}
use Rattle.checker.proofs.ReadLaws.{looked, looked_more, looked_none}
use Rattle.checker.proofs.RowLaws.{marked_inode, marked_more, marked_none}
use Rattle.checker.proofs.numbers.check_number.Goals as goal

pub loop-k-init : goal.loop-k-init
loop-k-init g c = record {
  looked = looked_none c.args.blocks.now;
  marked = marked_none c.args.trees.now.items c.args.marks.now c.args.shared.now.of;
  between = λ disk i shows is are seen.
      between_start disk c.args.root.now i c.args.number c.args.place c.args.marks.now c.args.shared.now.of (rows_of c.args.rows.now) c.args.trees.now.items are
      (subst (λ (n : ℕ). AreTrees c.args.root.now c.args.trees.now.items (IsSeenTo disk c.args.root.now i n c.args.marks.now c.args.shared.now.of)) (sym is) seen);
}

pub loop-k-preserved-then-is_done : goal.loop-k-preserved-then-is_done
loop-k-preserved-then-is_done g c =
    let lt : c.loop-k.k < length c.loop-k.trees.items = omega (arith, c.loop-k-test.true, c.len-k-end.ensures, c.loop-k.invariant.marked.trees.length_is) in
    record {
      looked = c.loop-k.invariant.looked;
      marked = c.loop-k.invariant.marked;
      between = λ disk i shows is are seen.
          between_skip disk c.args.root.now i c.args.number c.args.place c.loop-k.marks c.loop-k.shared.of (rows_of c.args.rows.now) c.loop-k.trees.items c.loop-k.done c.loop-k.k c.index.result.now
          (c.loop-k.invariant.between disk i shows is are seen) (get_at c.loop-k.trees.items c.loop-k.k c.index.result.now lt c.index.ensures) ((c.is_done.ensures).0 c.if-is_done.true);
    }

pub returns-in_err-check_inode-clause-marked : goal.returns-in_err-check_inode-clause-marked
returns-in_err-check_inode-clause-marked g c =
    marked_more c.loop-k.invariant.marked (marked_inode (rows_of c.args.rows.now) c.loop-k.k c.args.place c.check_inode.ensures.keeps c.check_inode.ensures.trees c.twins-bits.ensures)

pub loop-k-preserved : goal.loop-k-preserved
loop-k-preserved g c =
    let lt : c.loop-k.k < length c.loop-k.trees.items = omega (arith, c.loop-k-test.true, c.len-k-end.ensures, c.loop-k.invariant.marked.trees.length_is) in
    let at : slice_get c.loop-k.trees.items c.loop-k.k ≡ Some c.index.result.now = get_at c.loop-k.trees.items c.loop-k.k c.index.result.now lt c.index.ensures in
    record {
      looked = looked_more c.loop-k.invariant.looked (looked c.check_inode.ensures.reads);
      marked = marked_more c.loop-k.invariant.marked (marked_inode (rows_of c.args.rows.now) c.loop-k.k c.args.place c.check_inode.ensures.keeps c.check_inode.ensures.trees c.twins-bits.ensures);
      between = λ disk i shows is are seen.
          between_more disk c.args.root.now i c.args.number c.args.place c.loop-k.marks c.loop-k.shared.of (rows_of c.args.rows.now) c.loop-k.trees.items c.loop-k.done c.loop-k.k c.twins-bits.result
          (bit_or c.loop-k.done c.twins-bits.result) c.part_of-bytes.result.now c.check_inode.new.marks c.check_inode.new.shared.of c.check_inode.new.trees.items c.index.result.now
          (c.loop-k.invariant.between disk i shows is are seen) at
          (λ out. let yes = (c.is_done.ensures).1 (inl out) in let is_not = c.if-is_done.false in cc)
          (λ bit. let yes = (c.is_done.ensures).1 (inr bit) in let is_not = c.if-is_done.false in cc)
          c.twins-bits.ensures (λ p. bits_or p c.loop-k.done c.twins-bits.result) c.check_inode.ensures.keeps c.check_inode.ensures.trees c.check_inode.ensures.others c.part_of-bytes.ensures
          (omega (arith, is, c.requires.place)) (omega (arith, is, c.requires.place))
          (c.in_ok-check_inode.ensures.seen disk i (c.loop-k.invariant.looked.same disk shows));
    }

pub returns-clause-seen : goal.returns-clause-seen
returns-clause-seen g c = λ disk i shows is are seen.
    let r = c.args.root.now in
    let so = c.loop-k.invariant.between disk i shows is are seen in
    let next : c.args.number + 1 ≡ 21 * i + (c.args.place + 1) = omega (arith, is) in
    let all : length c.loop-k.trees.items ≤ c.loop-k.k = omega (arith, c.loop-k-test.false, c.len-k-end.ensures, c.loop-k.invariant.marked.trees.length_is) in (
      so.rows_are,
      subst (λ (n : ℕ). AreTrees r c.loop-k.trees.items (IsSeenTo disk r i n c.loop-k.marks c.loop-k.shared.of)) next
          (between_end disk r i c.args.number c.args.place c.loop-k.marks c.loop-k.shared.of (rows_of c.args.rows.now) c.loop-k.trees.items c.loop-k.done c.loop-k.k so all),
    )
