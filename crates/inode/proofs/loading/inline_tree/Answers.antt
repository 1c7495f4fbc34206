use Rattle.std.proofs.Common.{◌∙◌, ap, ℕ, List, ◌≡◌, ◌==◌, if◌then◌else◌, take, slice_index, inl, inr}
use Rattle.layout.specs.Bytes.{zeros}
use Rattle.blocktree.specs.Trees.{tree_block}
use Rattle.buffers.specs.Positions.{with_bytes_at}
use Rattle.inode.specs.Edges.{filled}
use Rattle.inode.proofs.EdgeLaws.{inline_block, inline_none}
use Rattle.inode.proofs.loading.inline_tree.Goals as goal

pub returns-then-size-eq0-clause-blocks : goal.returns-then-size-eq0-clause-blocks
returns-then-size-eq0-clause-blocks c = λ disk i. c.empty.ensures.blocks disk i ∙ inline_none c.args.bytes.now c.args.size i c.if-size-eq0.true

pub returns-clause-blocks : goal.returns-clause-blocks
returns-clause-blocks c =
    let bytes : c.put.new.self ≡ filled 4096 (take c.args.size c.args.bytes.now) =
    inline_block c.put.new.self c.args.bytes.now c.args.size c.min-length.result c.put.ensures.length c.told-bytes c.min-length.ensures
    (λ k. c.put.ensures.bytes k ∙ ap (λ (b : List ℕ). with_bytes_at (slice_index b) 0 (take c.min-length.result c.args.bytes.now) k) c.in_ok-block.ensures) in
    let laid : (disk : ℕ → List ℕ) (i : ℕ) → tree_block disk c.set.new.self i ≡ (if i == 0 then c.put.new.self else zeros 4096) = λ disk i.
    c.set.ensures.blocks disk i ∙ ap (λ (b : List ℕ). if i == 0 then b else tree_block disk c.make_room.new.self i) c.in_ok-shared.ensures
    ∙ ap (λ (b : List ℕ). if i == 0 then c.put.new.self else b) (c.make_room.ensures.same disk i ∙ c.empty-tree.ensures.blocks disk i) in
    rw (← bytes) laid

pub returns-then-size-eq0-clause-first : goal.returns-then-size-eq0-clause-first
returns-then-size-eq0-clause-first c = λ i changed. absurd (c.empty.ensures.unchanged i changed)

pub returns-clause-first : goal.returns-clause-first
returns-clause-first c = λ i changed. elim (c.set.ensures.only i changed) [
  | inl is ↦ is
  | inr old ↦ absurd (c.empty-tree.ensures.unchanged i (c.make_room.ensures.only i old))
]
