use Rattle.std.proofs.Common.{ap, sym, subst, arith}
use Rattle.blocktree.specs.declared.tree.BlockTree.{BlockTree}
use Rattle.placement.specs.Nodes.{AreChanged}
use Rattle.placement.proofs.HeldLaws.{nodes_fall}
use Rattle.placement.proofs.file.placed_file.Goals as goal

pub moved-requires : goal.moved-requires
moved-requires c =
    let over : AreChanged c.args.object.now.file.tree c.args.laid.kept c.in_ok-changed.changed.items = subst (λ t. AreChanged t c.args.laid.kept c.in_ok-changed.changed.items) c.tree-tree.ensures c.in_ok-changed.ensures in
    let changed : AreChanged c.args.object.now.file.tree c.args.laid.kept c.deref.result.now = subst (AreChanged c.args.object.now.file.tree c.args.laid.kept) (sym c.deref.ensures.value) over in
    record {
      short = λ m i past. c.requires.laid m i (omega (arith, past, c.block_count-count.ensures));
      among = changed.within;
      kept = λ i some lt not. sym (c.requires.kept i some lt (changed.all i some lt not));
    }

pub moved-requires-2 : goal.moved-requires-2
moved-requires-2 c =
    let over : AreChanged c.args.object.now.file.tree c.args.laid.kept c.in_ok-changed.changed.items = subst (λ t. AreChanged t c.args.laid.kept c.in_ok-changed.changed.items) c.tree-tree.ensures c.in_ok-changed.ensures in
    let changed : AreChanged c.args.object.now.file.tree c.args.laid.kept c.deref-2.result.now = subst (AreChanged c.args.object.now.file.tree c.args.laid.kept) (sym c.deref-2.ensures.value) over in
    record {
      short = λ m i past.
          let count = ap (λ (t : BlockTree). t.count) c.tree-tree.ensures in
          c.requires.counted.end m i (omega (arith, nodes_fall c.args.object.now.file.tree.layout c.args.object.now.file.tree.count m, past, c.count.ensures.value, count));
      among = changed.within;
      kept = λ i some lt not. c.requires.kept i some lt (changed.all i some lt not);
    }
