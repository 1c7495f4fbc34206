use Rattle.std.proofs.Common.{◌≡◌, ℕ, ◌+◌, ◌*◌, refl, arith, subst}
use Rattle.checker.specs.Rows.{AreSeenInBlock}
use Rattle.checker.specs.Trees.{AreTrees, IsSeenTo}
use Rattle.checker.proofs.ReadLaws.{looked, looked_more}
use Rattle.checker.proofs.RowLaws.{marked_more, marked_same}
use Rattle.checker.proofs.numbers.check_block.Goals as goal

pub loop-place-init : goal.loop-place-init
loop-place-init g c = record {
  looked = looked c.read_rows.ensures.reads;
  marked = marked_same c.args.marks.now c.args.shared.now.of c.read_rows.ensures.trees;
  rows_length = c.in_ok-rows.ensures.length;
  seen = λ disk shows places seen.
      let r = c.args.root.now in
      let told = c.in_ok-rows.ensures.rows disk r c.args.marks.now c.args.shared.now.of shows c.requires.root c.requires.size places seen in
      let none : 21 * c.args.i ≡ 21 * c.args.i + 0 = omega arith in (
        told.0,
        subst (λ (n : ℕ). AreTrees r c.read_rows.new.trees.items (IsSeenTo disk r c.args.i n c.args.marks.now c.args.shared.now.of)) none told.1,
      );
}

pub returns-in_err-check_number-clause-marked : goal.returns-in_err-check_number-clause-marked
returns-in_err-check_number-clause-marked g c = marked_more c.loop-place.invariant.marked c.check_number.ensures.marked

pub loop-place-preserved : goal.loop-place-preserved
loop-place-preserved g c = record {
  looked = looked_more c.loop-place.invariant.looked (looked c.check_number.ensures.reads);
  marked = marked_more c.loop-place.invariant.marked c.check_number.ensures.marked;
  rows_length = omega (arith, c.loop-place.invariant.rows_length, c.check_number.ensures.marked.trees.length_is, c.loop-place.trees.ok.0, c.check_number.new.trees.ok.0);
  seen = λ disk shows places seen.
      let so = c.loop-place.invariant.seen disk shows places seen in
      c.in_ok-check_number.ensures.seen disk c.args.i (c.loop-place.invariant.looked.same disk shows) refl so.0 so.1;
}

pub returns-in_err-rows-clause-marked : goal.returns-in_err-rows-clause-marked
returns-in_err-rows-clause-marked g c = marked_same c.args.marks.now c.args.shared.now.of c.read_rows.ensures.trees

pub returns-clause-marked : goal.returns-clause-marked
returns-clause-marked g c = marked_more c.loop-place.invariant.marked (marked_same c.loop-place.marks c.loop-place.shared.of c.check_ends.ensures.trees)

pub returns-clause-seen : goal.returns-clause-seen
returns-clause-seen g c = λ disk shows places seen.
    let r = c.args.root.now in
    let so = c.loop-place.invariant.seen disk shows places seen in
    let last : c.loop-place.place ≡ 21 = omega (arith, c.loop-place-test.false, c.loop-place.auto.place-end) in
    c.check_ends.ensures.seen disk r c.loop-place.marks c.loop-place.shared.of so.0
    (subst (λ (p : ℕ). AreSeenInBlock disk r c.args.i p c.loop-place.marks c.loop-place.shared.of c.loop-place.trees.items) last so.1)
