use Rattle.std.proofs.Common.{◌≡◌, ◌∙◌, ◌≤◌, ℕ, List, ap, inl, inr, sym, subst, arith}
use Rattle.std.proofs.lemmas.Bool.{cases_lt}
use Rattle.layout.specs.Inode.{IsInode}
use Rattle.layout.specs.Limits.{Sizes}
use Rattle.layout.specs.declared.root.Root.{Root}
use Rattle.images.specs.Soundness.{IsFileGrammar}
use Rattle.images.specs.Nodes.{Held, held}
use Rattle.images.specs.Roots.{HeldTree, free_inode, whole}
use Rattle.loading.specs.Images.{IsFileOfInode}
use Rattle.checker.specs.Findings.{tree_in}
use Rattle.checker.specs.Trees.{IsAloneAt, IsOwner, IsTreeAt}
use Rattle.model.proofs.OptionLaws.{none_some}
use Rattle.checker.proofs.HaltLaws.{if_none, if_some}
use Rattle.checker.proofs.HeldLaws.{blocks_over, grammar_at, number_is, sizes_over, top_grammar, top_is, tree_is, tree_later}
use Rattle.checker.proofs.OwnerLaws.{free_alone, one_found, owner_stands}
use Rattle.checker.proofs.ReadLaws.{forgotten, looked, looked_more}
use Rattle.checker.proofs.RowReads.{leads_at, leads_to_rows}
use Rattle.checker.proofs.owners.first_owner.Given.{Over}
use Rattle.checker.proofs.owners.first_owner.Goals as goal
use Rattle.checker.proofs.owners.first_owner.Goals.{In-Some-2}

-- ---- what is known of a number's inode that was read

here : (g : Over) (c : In-Some-2 g) (disk : ℕ → List ℕ) (r : Root) → g.B.Blocks.Shows c.args.blocks.now disk → IsTreeAt disk r c.args.geometry (g.B.Blocks.count c.args.blocks.now) c.args.tree.now
    → ((tree_in (whole disk r) c.args.tree.now.plane c.loop-number.number).inode ≡ c.in-Some-2.inode) × (tree_in (whole disk r) c.args.tree.now.plane c.loop-number.number ≡ held disk c.in-Some-2.inode)
here g c disk r shows at =
    let so_far = c.loop-number.invariant.read in
    let found = c.in_ok-inode.ensures.is disk r c.args.tree.now (so_far.same disk shows) (tree_later so_far.count at) (leads_at disk r c.args.tree.now c.in_ok-places.places c.loop-number.number c.at-place.result c.at-place.ensures
    (leads_to_rows disk r c.args.tree.now c.based_trees_are_sound.ensures.all c.in_ok-places.places (tree_later c.in_ok-node.ensures.reads.count at) (c.in_ok-places.ensures.places disk (c.in_ok-node.ensures.reads.same disk shows)))) in
    let own : (tree_in (whole disk r) c.args.tree.now.plane c.loop-number.number).inode ≡ c.in-Some-2.inode = (let some = c.in-Some-2.is in cc) in
    (own, number_is disk r c.args.tree.now c.loop-number.number at.tree ∙ ap (held disk) own)

pub returns-in-Some-clause-stands : goal.returns-in-Some-clause-stands
returns-in-Some-clause-stands g c = λ disk r shows at shares.
    let top = c.args.tree.now.top in
    let fits : IsInode c.args.geometry top = subst (λ (s : Sizes). IsInode s top) at.over.geometry at.tree.fits in
    owner_stands disk (tree_in (whole disk r) c.args.tree.now.plane) top c.args.shared.now 0 c.in-Some.node (top_is disk r c.args.tree.now at.tree)
    (if_some (IsOwner c.args.shared.now 0 (held disk top)) c.in_ok-node.field-0 c.in-Some.node c.in-Some.is (c.in_ok-node.ensures.stands disk c.args.geometry top shows fits at.tree.file))

pub loop-number-init : goal.loop-number-init
loop-number-init g c = record {
  read = looked_more (looked c.in_ok-node.ensures.reads) (looked c.in_ok-places.ensures.reads);
  alone = λ disk r shows at n m lt.
      let t = tree_in (whole disk r) c.args.tree.now.plane in
      let top = c.args.tree.now.top in
      let first : 0 ≡ n = omega (arith, lt) in
      let none = if_none ((m : ℕ) → IsAloneAt c.args.shared.now 0 (held disk top) m) c.in_ok-node.field-0 c.in_default.not-Some
      (c.in_ok-node.ensures.alone disk c.args.geometry top shows (sym (blocks_over at.over)) (top_grammar disk r c.args.geometry c.args.tree.now at.tree (grammar_at at)) at.tree.file) in
      subst (λ (k : ℕ). IsAloneAt c.args.shared.now k (t k) m) first (subst (λ (h : Held). IsAloneAt c.args.shared.now 0 h m) (sym (top_is disk r c.args.tree.now at.tree)) (none m));
}

pub loop-number-preserved-in_default-2 : goal.loop-number-preserved-in_default-2
loop-number-preserved-in_default-2 g c = record {
  read = looked_more c.loop-number.invariant.read (looked c.in_ok-inode.ensures.reads);
  alone = λ disk r shows at n m lt. elim (cases_lt n c.loop-number.number) [
    | inl low ↦ c.loop-number.invariant.alone disk r shows at n m low
    | inr high ↦
        let so_far = c.loop-number.invariant.read in
        let told = c.in_ok-inode.ensures.is disk r c.args.tree.now (so_far.same disk shows) (tree_later so_far.count at) (leads_at disk r c.args.tree.now c.in_ok-places.places c.loop-number.number c.at-place.result c.at-place.ensures
        (leads_to_rows disk r c.args.tree.now c.based_trees_are_sound.ensures.all c.in_ok-places.places (tree_later c.in_ok-node.ensures.reads.count at) (c.in_ok-places.ensures.places disk (c.in_ok-node.ensures.reads.same disk shows)))) in
        none_some (sym c.in_default-2.is ∙ told)
  ];
}

pub loop-number-preserved : goal.loop-number-preserved
loop-number-preserved g c = record {
  read = looked_more c.loop-number.invariant.read (looked_more (looked c.in_ok-inode.ensures.reads) (looked_more (looked c.in_ok-node-2.ensures.reads)
      (forgotten c.forget.ensures.count c.forget.ensures.counted c.forget.ensures.reads c.forget.ensures.same)));
  alone = λ disk r shows at n m lt. elim (cases_lt n c.loop-number.number) [
    | inl low ↦ c.loop-number.invariant.alone disk r shows at n m low
    | inr high ↦
        let t = tree_in (whole disk r) c.args.tree.now.plane in
        let inode = c.in-Some-2.inode in
        let same : c.loop-number.number ≡ n = omega (arith, lt, high) in
        let so_far = c.loop-number.invariant.read in
        let is = here g (goal.at.loop-number-preserved g c).In-Some-2 disk r shows at in
        let known : IsFileGrammar c.args.geometry (held disk inode) = subst (IsFileGrammar c.args.geometry) is.1 ((grammar_at at).files c.loop-number.number) in
        let file : IsFileOfInode inode c.in_ok-file.file = record { blocks = c.in_ok-file.ensures.blocks; starts = c.in_ok-file.ensures.settled } in
        let none = if_none ((x : ℕ) → IsAloneAt c.args.shared.now c.loop-number.number (held disk inode) x) c.in_ok-node-2.field-0 c.in_default-3.not-Some
        (c.in_ok-node-2.ensures.alone disk c.args.geometry inode (c.in_ok-inode.ensures.reads.same disk (so_far.same disk shows)) (sym (c.in_ok-inode.ensures.reads.count ∙ so_far.count ∙ blocks_over at.over)) known file) in
        subst (λ (j : ℕ). IsAloneAt c.args.shared.now j (t j) m) same (subst (λ (h : Held). IsAloneAt c.args.shared.now c.loop-number.number h m) (sym is.1) (none m))
  ];
}

pub returns-in-Some-3-clause-stands : goal.returns-in-Some-3-clause-stands
returns-in-Some-3-clause-stands g c = λ disk r shows at shares.
    let inode = c.in-Some-2.inode in
    let is = here g (goal.at.returns-in-Some-3-clause-stands g c).In-Some-2 disk r shows at in
    let fits : IsInode c.args.geometry inode = subst (IsInode c.args.geometry) is.0 ((grammar_at at).files c.loop-number.number).inode in
    let file : IsFileOfInode inode c.in_ok-file.file = record { blocks = c.in_ok-file.ensures.blocks; starts = c.in_ok-file.ensures.settled } in
    owner_stands disk (tree_in (whole disk r) c.args.tree.now.plane) inode c.args.shared.now c.loop-number.number c.in-Some-3.node is.1
    (if_some (IsOwner c.args.shared.now c.loop-number.number (held disk inode)) c.in_ok-node-2.field-0 c.in-Some-3.node c.in-Some-3.is
    (c.in_ok-node-2.ensures.stands disk c.args.geometry inode (c.in_ok-inode.ensures.reads.same disk (c.loop-number.invariant.read.same disk shows)) fits file))

pub returns-clause-stands : goal.returns-clause-stands
returns-clause-stands g c = λ disk r shows at shares.
    let t = tree_in (whole disk r) c.args.tree.now.plane in
    absurd (one_found t c.args.shared.now shares (λ n m. elim (cases_lt n c.loop-number.number) [
      | inl low ↦ c.loop-number.invariant.alone disk r shows at n m low
      | inr high ↦
          let past : c.args.geometry.inodes ≤ n = omega (arith, high, c.loop-number-test.false, c.inodes-number-end.ensures.value) in
          let free : t n ≡ held disk (free_inode c.args.tree.now.top.layout) = ap (λ (h : HeldTree). h n) (tree_is disk r c.args.geometry c.args.tree.now at.over.geometry at.tree)
          ∙ c.inodes_are_what_their_bytes_spell.ensures.past disk c.args.geometry.inodes c.args.tree.now.top n (omega (arith, past, (sizes_over at.over).least_inodes)) past in
          subst (λ (h : Held). IsAloneAt c.args.shared.now n h m) (sym free) (free_alone c.nodes_are_where_pointers_lead.ensures.above c.args.tree.now.top.layout disk c.args.shared.now n m)
    ]))
