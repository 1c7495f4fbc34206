use Rattle.std.proofs.Common.{◌∙◌, ◌<◌, ap, inl, inr, min, refl, subst, ℕ, ltb, if◌then◌else◌}
use Rattle.layout.specs.Bytes.{zeros}
use Rattle.blocktree.specs.Places.{block_count}
use Rattle.blocktree.specs.Trees.{tree_block}
use Rattle.inode.proofs.BaseLaws.{same_base}
use Rattle.inode.proofs.ComposingLaws.{committed_blocks}
use Rattle.inode.proofs.file.File.commit.Goals as goal

pub returns : goal.returns
returns c = record {
  size = refl;
  blocks = λ disk. committed_blocks (tree_block disk c.args.self.now.tree) (tree_block disk c.trim.new.self) (tree_block disk c.install.new.self) (block_count c.args.change.size) c.args.change.first c.args.change.pieces.items
      c.args.change.fits.1
      (λ j. c.trim.ensures.blocks disk j ∙ ap (λ (n : ℕ). if ltb j n then tree_block disk c.args.self.now.tree j else zeros 4096) c.block_count-count.ensures)
      (c.install.ensures.blocks disk);
  base = λ settled was. same_base _ _ c.install.ensures.settled settled (same_base _ _ c.trim.ensures.settled settled was);
  sound = λ blocks disk i was. c.install.ensures.sound blocks disk i (c.trim.ensures.sound blocks disk i was);
  settled = record {
    layout = c.install.ensures.settled.layout ∙ c.trim.ensures.settled.layout;
    pointers = c.install.ensures.settled.pointers ∙ c.trim.ensures.settled.pointers;
    depth = c.install.ensures.settled.depth ∙ c.trim.ensures.settled.depth;
    count = c.install.ensures.settled.count ∙ c.trim.ensures.settled.count;
  };
  kept = c.install.ensures.kept ∙ c.trim.ensures.kept ∙ ap (min c.args.self.now.tree.kept) c.block_count-count.ensures;
  only = λ j is. elim (c.install.ensures.only j is) [
    | inl piece ↦ inl piece
    | inr before ↦ inr (c.trim.ensures.changed j before, subst (λ (n : ℕ). j < n) c.block_count-count.ensures (c.trim.ensures.truncate j before))
  ];
}
