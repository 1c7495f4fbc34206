use Rattle.std.proofs.Common.{rules, ◌≡◌, ℕ, ◌-◌, ◌≤◌, ap, ◌∙◌, arith}
use Rattle.layout.specs.Places.{pointed}
use Rattle.layout.specs.Trees.{level_of}
use Rattle.layout.specs.declared.trees.Layout.{Layout}
use Rattle.blocktree.specs.Names.{nodes_at}
use Rattle.blocktree.specs.Places.{block_count}
use Rattle.conspoint.proofs.StepLemmas.{places_err, places_ok}
use Rattle.placement.specs.Files.{file_level}
use Rattle.placement.specs.Layouts.{AreRaised}
use Rattle.placement.specs.Nodes.{node}
use Rattle.placement.proofs.HeldLaws.{nodes_same, top_few, top_of}
use Rattle.placement.proofs.PlacedLaws.{all_within}
use Rattle.placement.proofs.RaiseLaws.{heights_as}
use Rattle.placement.proofs.StandLaws.{laid_stands}
use Rattle.placement.proofs.file.lay_over.Goals as goal

pub body_of-requires : goal.body_of-requires
body_of-requires c = λ i le.
    let size = c.args.object.now.file.size in
    let l = c.args.object.now.file.tree.layout in
    let settled = c.args.settled.now.layout in
    let top = top_few l size (level_of l size - 1) c.args.object.now.file.within (top_of l size c.requires.level) in
    let few : nodes_at l (block_count size) (level_of l size - 1) ≤ i = omega (arith, le, top) in
    let level : c.from-level.result ≡ level_of l size = search rules in
    let count : nodes_at settled c.block_count.result (c.from-level.result - 1) ≡ nodes_at l (block_count size) (level_of l size - 1) =
    ap (λ (n : ℕ). nodes_at settled n (c.from-level.result - 1)) c.block_count.ensures ∙ ap (λ (n : ℕ). nodes_at settled (block_count size) (n - 1)) level ∙ ap (λ (k : Layout). nodes_at k (block_count size) (level_of l size - 1)) c.requires.layout in
    c.height-highest.ensures.nodes i ∙ c.in_ok-nodes.ensures.raised.end (c.from-level.result - 1) i (omega (arith, few, count))

pub returns-clause-raised : goal.returns-clause-raised
returns-clause-raised c =
    let level : c.from-level.result ≡ file_level c.args.object.now.file = search rules in
    rw (level, c.block_count.ensures) at c.in_ok-nodes.ensures.raised

pub returns-clause-stands : goal.returns-clause-stands
returns-clause-stands c = λ s disk base blocks sound known e has same block leads.
    let o = c.args.object.now in
    let size = o.file.size in
    let n = c.in_ok-nodes.nodes in
    let level : c.from-level.result ≡ file_level c.args.object.now.file = search rules in
    let l = o.file.tree.layout in
    let raised : AreRaised (block_count size) (file_level o.file) c.args.settled.now c.args.blocks c.args.draft.now c.raise_all.new.draft n = rw (level, c.block_count.ensures) at c.in_ok-nodes.ensures.raised in
    let top = top_of l size c.requires.level in
    laid_stands s disk e base o c.args.settled.now sound known same block c.body_of.result n (file_level o.file - 1) (raised.layout ∙ c.requires.layout) top (raised.heights ∙ top)
    (all_within s.blocks (file_level o.file) c.args.draft.now c.raise_all.new.draft c.args.settled.now n c.args.blocks blocks raised.heights c.requires.blocks raised.lowest_are raised.placed)
    (λ m i past. raised.end m i (omega (arith, past, nodes_same l size m, ap (λ (k : Layout). nodes_at k (block_count size) m) c.requires.layout)))
    c.body_of.ensures.count
    (λ i. c.body_of.ensures.each i ∙ c.height-highest.ensures.nodes i ∙ ap (λ (k : ℕ). node n (k - 1) i) level)
    (c.in_ok-nodes.ensures.over e has)
    (λ i. ap (pointed e) (raised.lowest_are i) ∙ leads i)

pub returns-in_err-nodes-clause-step : goal.returns-in_err-nodes-clause-step
returns-in_err-nodes-clause-step c = λ w counts.
    let size = c.args.object.now.file.size in
    let level : c.from-level.result ≡ file_level c.args.object.now.file = search rules in
    places_err c.from_residual.result c.from_residual.ensures.1
    (heights_as (block_count size) c.block_count.result (file_level c.args.object.now.file) c.from-level.result c.args.settled.now c.args.blocks c.block_count.ensures level c.in_err-nodes.ensures.step w counts)

pub returns-clause-step : goal.returns-clause-step
returns-clause-step c = λ w counts.
    let size = c.args.object.now.file.size in
    let level : c.from-level.result ≡ file_level c.args.object.now.file = search rules in
    places_ok (heights_as (block_count size) c.block_count.result (file_level c.args.object.now.file) c.from-level.result c.args.settled.now c.args.blocks c.block_count.ensures level c.in_ok-nodes.ensures.step w counts)
