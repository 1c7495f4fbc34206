use Rattle.std.proofs.Common.{arith, sym, ◌∙◌, refl}
use Rattle.std.proofs.lemmas.Bool.{cond_above}
use Rattle.layout.specs.Bytes.{zeros}
use Rattle.images.specs.Roots.{free_inode}
use Rattle.making.specs.Starts.{numbers_block}
use Rattle.making.proofs.StartLaws.{zeros_or}
use Rattle.making.proofs.inode_map.inode_map.Goals as goal

pub loop-i-init : goal.loop-i-init
loop-i-init c = record {
  size = c.set_size.ensures.size;
  base = c.set_size.ensures.base (free_inode c.args.geometry.layout) (c.empty-file.ensures.base (free_inode c.args.geometry.layout) (sym c.layout.ensures));
  changed = λ j lt. absurd (omega (arith, lt));
  blocks = λ disk j. c.set_size.ensures.blocks disk j ∙ zeros_or j _ _ (c.empty-file.ensures.blocks disk j) ∙ cond_above j 0 (numbers_block j) (zeros 4096) (zeros 4096) (omega arith) refl;
}
