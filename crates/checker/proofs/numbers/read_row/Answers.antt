use Rattle.std.proofs.Common.{arith, inl, refl, subst, sym}
use Rattle.images.specs.Roots.{whole}
use Rattle.checker.specs.Findings.{tree_in}
use Rattle.checker.specs.Rows.{row_added}
use Rattle.checker.specs.Trees.{IsOut, IsSeenTo}
use Rattle.checker.specs.declared.fault.TreeFault.TheVariants.{InodeBlock}
use Rattle.checker.specs.declared.tree.Tree.{Tree}
use Rattle.checker.proofs.OutLaws.{added_out, seen_added}
use Rattle.checker.proofs.RowReads.{row_damaged, row_read}
use Rattle.checker.proofs.numbers.read_row.Goals as goal

pub returns-then-branch-clause-row : goal.returns-then-branch-clause-row
returns-then-branch-clause-row g c = λ disk r count places marks shared shows root are leads known. (
  known,
  (λ inside. row_read disk r c.args.i c.args.tree.now known.tree (row_added c.args.rows.now c.read.new.self) c.args.place (omega (arith, root.head.sizes.least_inodes))
      (c.in_ok-read.ensures.whole disk shows are c.if-branch.true) leads ((known.inodes inside).files 0 (inl refl))),
)

pub returns-clause-row : goal.returns-clause-row
returns-clause-row g c = λ disk r count places marks shared shows root are leads known.
    let v = c.args.tree.now in
    let broken = row_damaged disk r c.args.i v known.tree c.args.place (c.in_ok-read.ensures.damaged disk shows c.if-branch.false) leads in (
      subst (IsSeenTo disk r count places marks shared) (sym c.add.ensures) (seen_added disk r count places count places marks marks shared shared v known (InodeBlock c.args.i) (λ grammar within. broken grammar)),
      (λ inside. absurd (inside (subst (λ (q : Tree). IsOut q.fault) (sym c.add.ensures) (added_out r (tree_in (whole disk r) v.plane) v.fault (InodeBlock c.args.i) known.fault)))),
    )
