use Rattle.std.proofs.Common.{rules, ◌≡◌, ◌∙◌, ◌+◌, ◌<◌, ℕ, true, length, refl, sym, subst, arith}
use Rattle.std.specs.Prelude.{slice_index_or}
use Rattle.std.proofs.lemmas.List.{get_or_default}
use Rattle.layout.specs.Pointer.{PointsBelow}
use Rattle.layout.specs.declared.pointer.Pointer.TheVariants.{Block, Hole}
use Rattle.checker.specs.Findings.{HasTree}
use Rattle.checker.specs.Nodes.{StaysFor}
use Rattle.checker.specs.Trees.{IsSeenTo}
use Rattle.checker.proofs.HaltLaws.{if_some, looks_failed, looks_residual}
use Rattle.checker.proofs.PlaneLaws.{active_top, no_tree, snapshot_tree, told_of, tree_at, tree_named, trees_end, trees_push, trees_skip, trees_start}
use Rattle.checker.proofs.ReadLaws.{looked, looked_more}
use Rattle.checker.proofs.SeenLaws.{seen_stays, stays_more}
use Rattle.checker.proofs.trees.open_trees.Goals as goal

pub snapshot_at-requires : goal.snapshot_at-requires
snapshot_at-requires g c =
    let count : g.B.Blocks.count c.loop-k.blocks ≡ c.args.root.now.geometry.blocks = c.loop-k.invariant.read.count ∙ c.requires.size in
    let within : c.loop-k.k < length c.args.root.now.snapshots = omega (arith, c.requires.root.slots, c.loop-k-test.true) in
    subst (λ (n : ℕ). PointsBelow n (slice_index_or c.args.root.now.snapshots c.loop-k.k c.index-root-k.result)) (sym count)
    (c.requires.root.snapshots c.loop-k.k c.index-root-k.result within)

pub loop-k-init : goal.loop-k-init
loop-k-init g c = record {
  read = looked c.in_ok-newest.ensures.reads;
  some = omega (arith, c.in_ok-push.ensures.len);
  size = c.in_ok-newest.ensures.length;
  stays = λ p other. c.in_ok-newest.ensures.others p (λ zero. other (omega (arith, zero), subst (HasTree c.args.root.now) (sym zero) tt));
  trees = λ disk shows are unmarked none.
      trees_start c.args.root.now (IsSeenTo disk c.args.root.now 0 0 c.open_tree.new.marks c.open_tree.new.shared.of) c.push.new.self.items c.in_ok-newest.newest (search rules) c.in_ok-newest.ensures.plane
      (c.in_ok-newest.ensures.tree disk c.args.root.now shows c.requires.root refl tt refl (active_top disk c.args.root.now) c.requires.root.kind (λ b bit. unmarked 0 b bit) (none 0));
}

pub loop-k-preserved : goal.loop-k-preserved
loop-k-preserved g c =
    let r = c.args.root.now in
    let k = c.loop-k.k in
    let within : c.loop-k.k < length c.args.root.now.snapshots = omega (arith, c.requires.root.slots, c.loop-k-test.true) in
    let p = slice_index_or c.args.root.now.snapshots c.loop-k.k c.index-root-k.result in
    let there : slice_index_or r.snapshots k Hole ≡ p = get_or_default r.snapshots k Hole c.index-root-k.result within in
    let block = if_some (λ _. (b : ℕ) × (p ≡ Block b)) c.in_ok-name.field-0 _ c.in-Some.is c.in_ok-name.ensures.there in
    let has : HasTree r (k + 1) = tree_at r k block.0 p there block.1 in record {
      read = looked_more c.loop-k.invariant.read (looked_more (looked c.in_ok-name.ensures.reads) (looked c.in_ok-tree.ensures.reads));
      some = omega (arith, c.in_ok-push-2.ensures.len);
      size = c.in_ok-tree.ensures.length ∙ c.loop-k.invariant.size;
      stays = λ q other. stays_more q c.args.marks.now c.loop-k.marks c.open_tree-in-loop-k.new.marks c.args.shared.now.of c.loop-k.shared.of c.open_tree-in-loop-k.new.shared.of
          (c.loop-k.invariant.stays q (λ both. other (omega (arith, both.0), both.1)))
          (c.in_ok-tree.ensures.others q (λ same. other (omega (arith, same), subst (HasTree r) (sym same) has)));
      trees = λ disk shows are unmarked none.
          let shows1 = c.loop-k.invariant.read.same disk shows in
          let told = told_of r.geometry.layout disk p c.in_ok-name.field-0 _ c.in-Some.is (c.in_ok-name.ensures.tells disk shows1) in
          let top = snapshot_tree disk r are k p (c.in-Some.name, c.in-Some.inode_file) there told in
          let before : StaysFor (k + 1) c.args.marks.now c.loop-k.marks c.args.shared.now.of c.loop-k.shared.of = c.loop-k.invariant.stays (k + 1) (λ both. omega (arith, both.0)) in
          trees_push r k c.loop-k.trees.items (IsSeenTo disk r 0 0 c.loop-k.marks c.loop-k.shared.of) (c.loop-k.invariant.trees disk shows are unmarked none)
          (IsSeenTo disk r 0 0 c.open_tree-in-loop-k.new.marks c.open_tree-in-loop-k.new.shared.of) c.push-in-loop-k.new.self.items c.in_ok-tree.tree c.in_ok-push-2.ensures.items c.in_ok-tree.ensures.plane
          (c.in_ok-tree.ensures.tree disk r (c.in_ok-name.ensures.reads.same disk shows1) c.requires.root refl has (tree_named disk r are (k + 1) (c.in-Some.name, c.in-Some.inode_file) top) top.top top.kind
          (λ b bit. unmarked (k + 1) b ((before.marks b).0 bit)) (before.shared ∙ none (k + 1)))
          (λ q below known. seen_stays disk r 0 0 c.loop-k.marks c.open_tree-in-loop-k.new.marks c.loop-k.shared.of c.open_tree-in-loop-k.new.shared.of q
          (c.in_ok-tree.ensures.others q.plane (λ same. omega (arith, below, same))) known);
    }

pub loop-k-preserved-in_default : goal.loop-k-preserved-in_default
loop-k-preserved-in_default g c =
    let r = c.args.root.now in
    let within : c.loop-k.k < length c.args.root.now.snapshots = omega (arith, c.requires.root.slots, c.loop-k-test.true) in
    let p = slice_index_or c.args.root.now.snapshots c.loop-k.k c.index-root-k.result in
    let there : slice_index_or r.snapshots c.loop-k.k Hole ≡ p = get_or_default r.snapshots c.loop-k.k Hole c.index-root-k.result within in record {
      read = looked_more c.loop-k.invariant.read (looked c.in_ok-name.ensures.reads);
      some = c.loop-k.invariant.some;
      size = c.loop-k.invariant.size;
      stays = λ q other. c.loop-k.invariant.stays q (λ both. other (omega (arith, both.0), both.1));
      trees = λ disk shows are unmarked none.
          trees_skip r c.loop-k.k c.loop-k.trees.items (IsSeenTo disk r 0 0 c.loop-k.marks c.loop-k.shared.of) (c.loop-k.invariant.trees disk shows are unmarked none)
          (no_tree disk r are c.loop-k.k p there
          (told_of r.geometry.layout disk p c.in_ok-name.field-0 _ c.in_default.is (c.in_ok-name.ensures.tells disk (c.loop-k.invariant.read.same disk shows))));
    }

pub loop-k-preserved-then-not-fits : goal.loop-k-preserved-then-not-fits
loop-k-preserved-then-not-fits g c =
    let r = c.args.root.now in
    let within : c.loop-k.k < length c.args.root.now.snapshots = omega (arith, c.requires.root.slots, c.loop-k-test.true) in
    let p = slice_index_or c.args.root.now.snapshots c.loop-k.k c.index-root-k.result in
    let there : slice_index_or r.snapshots c.loop-k.k Hole ≡ p = get_or_default r.snapshots c.loop-k.k Hole c.index-root-k.result within in record {
      read = looked_more c.loop-k.invariant.read (looked c.in_ok-name.ensures.reads);
      some = c.loop-k.invariant.some;
      size = c.loop-k.invariant.size;
      stays = λ q other. c.loop-k.invariant.stays q (λ both. other (omega (arith, both.0), both.1));
      trees = λ disk shows are unmarked none.
          let told = told_of r.geometry.layout disk p c.in_ok-name.field-0 _ c.in-Some.is (c.in_ok-name.ensures.tells disk (c.loop-k.invariant.read.same disk shows)) in
          let top = snapshot_tree disk r are c.loop-k.k p (c.in-Some.name, c.in-Some.inode_file) there told in
          let yes : c.fits.result ≡ true = c.fits.ensures.1 top.fits in
          let unfit = c.if-not-fits.true in
          trees_skip r c.loop-k.k c.loop-k.trees.items (IsSeenTo disk r 0 0 c.loop-k.marks c.loop-k.shared.of) (c.loop-k.invariant.trees disk shows are unmarked none) (λ _. first_of (cc, search rules));
    }

pub returns-clause-trees : goal.returns-clause-trees
returns-clause-trees g c = λ disk shows are unmarked none.
    trees_end c.args.root.now c.loop-k.trees.items (IsSeenTo disk c.args.root.now 0 0 c.loop-k.marks c.loop-k.shared.of) c.loop-k.k (omega (arith, c.requires.root.slots, c.loop-k-test.false))
    (c.loop-k.invariant.trees disk shows are unmarked none)

pub returns-clause-clean : goal.returns-clause-clean
returns-clause-clean g c = λ unmarked k b other bit. unmarked k b (((c.loop-k.invariant.stays k (λ both. other both.1)).marks b).0 bit)

pub returns-in_err-push-2-clause-reads : goal.returns-in_err-push-2-clause-reads
returns-in_err-push-2-clause-reads g c =
    looks_residual {T = Unit {0}} c.from_residual-in_err-push-2.result c.from_residual-in_err-push-2.ensures.1
    (looks_failed (looked_more c.loop-k.invariant.read (looked_more (looked c.in_ok-name.ensures.reads) (looked c.in_ok-tree.ensures.reads))) (λ is. cc))
