use Rattle.std.proofs.Common.{rules, ◌≡◌, ◌∙◌, ◌+◌, ◌≤◌, ◌<◌, ℕ, sym, subst, arith}
use Rattle.layout.specs.declared.pointer.Pointer.TheVariants.{Block}
use Rattle.blocktree.specs.PlaceMaps.{place_at}
use Rattle.blocktree.specs.Trees.{AreSound}
use Rattle.blocktree.specs.declared.tree.BlockTree.{BlockTree}
use Rattle.inode.specs.Bases.{StartsFrom}
use Rattle.images.specs.Nodes.{held}
use Rattle.checker.specs.Trees.{IsNode}
use Rattle.checker.proofs.HaltLaws.{looks_failed}
use Rattle.checker.proofs.OwnerLaws.{all_heights, file_sound, height_alone, one_height_more, owner_at}
use Rattle.checker.proofs.ReadLaws.{looked_more, looked_of, looks_ok}
use Rattle.checker.proofs.owners.node_in.Goals as goal

pub returns-in-Err-NoMemory-clause-reads : goal.returns-in-Err-NoMemory-clause-reads
returns-in-Err-NoMemory-clause-reads g c =
    looks_failed (looked_more c.loop-height.invariant.read (looked_of g.met.B.Blocks.reads_nothing g.met.B.UncachedReads.grows c.in-Err-NoMemory.ensures.reads)) (λ is. cc)

pub returns-in-Err-Damaged-clause-reads : goal.returns-in-Err-Damaged-clause-reads
returns-in-Err-Damaged-clause-reads g c = looks_ok (looked_more c.loop-height.invariant.read (looked_of g.met.B.Blocks.reads_nothing g.met.B.UncachedReads.grows c.in-Err-Damaged.ensures.reads))

pub returns-in-Err-Damaged-clause-alone : goal.returns-in-Err-Damaged-clause-alone
returns-in-Err-Damaged-clause-alone g c = λ disk s inode shows count grammar file.
    absurd (c.settled_nodes.ensures.damaged disk (c.loop-height.invariant.read.same disk shows) (search rules)
    (subst (λ (t : BlockTree). AreSound (g.B.Blocks.count c.loop-height.blocks) disk t) (sym c.tree-tree.ensures)
    (file_sound c.based_trees_are_sound.ensures.all s disk inode c.args.file.now (g.B.Blocks.count c.loop-height.blocks) grammar file (c.loop-height.invariant.read.count ∙ sym count))))

pub returns-in-Some-clause-stands : goal.returns-in-Some-clause-stands
returns-in-Some-clause-stands g c = λ disk s inode shows fits file.
    let t = c.tree-tree.result.now in
    let starts : StartsFrom inode.layout inode.body inode.size t = subst (StartsFrom inode.layout inode.body inode.size) (sym c.tree-tree.ensures) file.starts in
    let le : c.loop-height.height ≤ t.depth = omega (arith, c.loop-height-test.true, c.depth-height-end.ensures) in
    let found = c.in-Some.ensures.found in
    owner_at c.nodes_are_where_pointers_lead.ensures.places s disk inode t c.in-Ok.nodes c.args.shared.now c.args.number c.loop-height.height c.in-Some.node fits starts le
    (c.in-Ok.ensures.nodes disk (c.loop-height.invariant.read.same disk shows)) c.in-Ok.ensures.end
    (found.0, found.1, omega (arith, found.2, c.count.ensures.value), found.3, found.4)

pub loop-height-preserved : goal.loop-height-preserved
loop-height-preserved g c = record {
  read = looked_more c.loop-height.invariant.read (looked_of g.met.B.Blocks.reads_nothing g.met.B.UncachedReads.grows c.in-Ok.ensures.reads);
  alone = λ disk s inode shows count grammar file.
      let t = c.tree-tree.result.now in
      let starts : StartsFrom inode.layout inode.body inode.size t = subst (StartsFrom inode.layout inode.body inode.size) (sym c.tree-tree.ensures) file.starts in
      let le : c.loop-height.height ≤ t.depth = omega (arith, c.loop-height-test.true, c.depth-height-end.ensures) in
      let none : (i : ℕ) → i < t.count → place_at c.in-Ok.nodes i ≡ Block c.args.shared.now.block → IsNode c.args.shared.now.second c.args.number c.loop-height.height i =
      λ i lt there. c.in_default.ensures.none i (omega (arith, lt, c.count.ensures.value)) there in
      one_height_more c.args.shared.now c.args.number c.loop-height.height (held disk inode) (c.loop-height.invariant.alone disk s inode shows count grammar file)
      (height_alone c.nodes_are_where_pointers_lead.ensures.places c.nodes_are_where_pointers_lead.ensures.past c.nodes_are_where_pointers_lead.ensures.above s disk inode t c.in-Ok.nodes
      c.args.shared.now c.args.number c.loop-height.height grammar starts le (c.in-Ok.ensures.nodes disk (c.loop-height.invariant.read.same disk shows)) none);
}

pub returns-in_default-clause-alone : goal.returns-in_default-clause-alone
returns-in_default-clause-alone g c = λ disk s inode shows count grammar file.
    let t = c.tree-tree.result.now in
    let starts : StartsFrom inode.layout inode.body inode.size t = subst (StartsFrom inode.layout inode.body inode.size) (sym c.tree-tree.ensures) file.starts in
    let le : c.loop-height.height ≤ t.depth = omega (arith, c.loop-height-test.true, c.depth-height-end.ensures) in
    let deep : t.depth < c.loop-height.height + 1 = omega (arith, c.depth-height-end.ensures) in
    let none : (i : ℕ) → i < t.count → place_at c.in-Ok.nodes i ≡ Block c.args.shared.now.block → IsNode c.args.shared.now.second c.args.number c.loop-height.height i =
    λ i lt there. c.in_default.ensures.none i (omega (arith, lt, c.count.ensures.value)) there in
    all_heights c.nodes_are_where_pointers_lead.ensures.above s disk inode t c.args.shared.now c.args.number (c.loop-height.height + 1) grammar starts deep
    (one_height_more c.args.shared.now c.args.number c.loop-height.height (held disk inode) (c.loop-height.invariant.alone disk s inode shows count grammar file)
    (height_alone c.nodes_are_where_pointers_lead.ensures.places c.nodes_are_where_pointers_lead.ensures.past c.nodes_are_where_pointers_lead.ensures.above s disk inode t c.in-Ok.nodes
    c.args.shared.now c.args.number c.loop-height.height grammar starts le (c.in-Ok.ensures.nodes disk (c.loop-height.invariant.read.same disk shows)) none))

pub returns-clause-alone : goal.returns-clause-alone
returns-clause-alone g c = λ disk s inode shows count grammar file.
    let t = c.tree-tree.result.now in
    let starts : StartsFrom inode.layout inode.body inode.size t = subst (StartsFrom inode.layout inode.body inode.size) (sym c.tree-tree.ensures) file.starts in
    let deep : t.depth < c.loop-height.height = omega (arith, c.loop-height-test.false, c.depth-height-end.ensures) in
    all_heights c.nodes_are_where_pointers_lead.ensures.above s disk inode t c.args.shared.now c.args.number c.loop-height.height grammar starts deep
    (c.loop-height.invariant.alone disk s inode shows count grammar file)
