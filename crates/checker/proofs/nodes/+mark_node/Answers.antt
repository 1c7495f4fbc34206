use Rattle.std.proofs.Common.{◌≡◌, ◌∙◌, ◌+◌, ◌-◌, ◌<◌, ◌≤◌, ℕ, refl, rules, subst, sym, arith}
use Rattle.layout.specs.Maps.{IsIndirectBlock, indirect_pointer}
use Rattle.layout.specs.Trees.{fan_out}
use Rattle.layout.specs.declared.pointer.Pointer.TheVariants.{Hole}
use Rattle.checker.specs.Errors.{halt}
use Rattle.checker.specs.Nodes.{IsAmong, IsUnder, MarksFor}
use Rattle.checker.specs.declared.fault.TreeFault.TheVariants.{Indirect}
use Rattle.checker.proofs.NodeLaws.{keeps_more}
use Rattle.checker.proofs.NodeSteps.{again_marked, among_more, child_place, child_under, err_marked, first_exact, first_fits, hole_marked, leaf_marked, own_bad, pointer_below, under_marked}
use Rattle.checker.proofs.ReadLaws.{looked, looked_more, looked_none, looks_passed}
use Rattle.checker.proofs.StepLaws.{device_halt}
use Rattle.checker.proofs.nodes.+mark_node.Goals as goal

pub returns-in_default-clause-marked : goal.returns-in_default-clause-marked
returns-in_default-clause-marked g t c disk h shows at nodes =
    let hole : c.args.pointer ≡ Hole = c.in_default.is in
    hole_marked c.args.shape.layout (g.B.Blocks.count c.args.blocks.now) disk h c.args.node c.args.shape.count c.args.bits c.args.marks.now c.args.shared.now.of nodes (at ∙ hole)

pub returns-then-node-eq0-clause-marked : goal.returns-then-node-eq0-clause-marked
returns-then-node-eq0-clause-marked g t c disk h shows at nodes =
    leaf_marked c.args.shape.layout (g.B.Blocks.count c.args.blocks.now) disk h c.args.node c.args.shape.count c.args.bits c.args.marks.now c.mark_block-before.new.marks c.args.shared.now.of c.mark_block-before.new.of
    c.if-node-eq0.true (c.mark_block-before.ensures.marked h (at ∙ c.in-Block.is))

pub returns-in_err-read_indirect-clause-reads : goal.returns-in_err-read_indirect-clause-reads
returns-in_err-read_indirect-clause-reads g t c =
    looks_passed c.from_residual.result halt device_halt c.from_residual.ensures.1 (looked_none c.args.blocks.now) (looked c.in_err-read_indirect.ensures.reads) c.in_err-read_indirect.ensures.reads.device

pub returns-then-not-branch-clause-marked : goal.returns-then-not-branch-clause-marked
returns-then-not-branch-clause-marked g t c disk h shows at nodes = (
  own_bad c.args.shape.layout (g.B.Blocks.count c.args.blocks.now) disk h c.args.node (c.args.node.height - 1) c.used_below-used.result c.in-Block.place c.args.shape.count c.if-node-eq0.false refl (at ∙ c.in-Block.is) nodes c.used_below-used.ensures.used
      (c.in_ok-read_indirect.ensures.bad disk shows (search rules)),
  Indirect c.args.node.number c.get.result,
  refl,
)

pub returns-then-before-bits-clause-marked : goal.returns-then-before-bits-clause-marked
returns-then-before-bits-clause-marked g t c disk h shows at nodes =
    again_marked c.args.shape.layout (g.B.Blocks.count c.args.blocks.now) disk h c.args.node (c.args.node.height - 1) c.used_below-used.result c.in-Block.place c.args.shape.count c.if-node-eq0.false refl (at ∙ c.in-Block.is) nodes c.used_below-used.ensures.used
    c.args.bits c.args.marks.now c.mark_block-before.new.marks c.args.shared.now.of c.mark_block-before.new.of c.if-height-eq0.true
    (subst (IsIndirectBlock _ _ _) (c.in_ok-read_indirect.ensures.block disk shows (search rules)) (c.in_ok-read_indirect.ensures.good (search rules)))
    (c.mark_block-before.ensures.again c.if-before-bits.true) (c.mark_block-before.ensures.marked h (at ∙ c.in-Block.is))

pub mark_leaves-requires : goal.mark_leaves-requires
mark_leaves-requires g t c =
    let good = c.in_ok-read_indirect.ensures.good (search rules) in
    let first = first_exact c.args.shape.layout (g.B.Blocks.count c.args.blocks.now) c.used_below-used.result c.first_below-first.result c.args.node.index c.read_indirect.new.block good c.first_below-first.ensures c.used_below-used.ensures.low in
    record {
      end = omega (arith, c.min-end.ensures, c.fan_out.ensures.most);
      fits = first_fits c.args.shape.layout c.used_below-used.result c.first_below-first.result c.args.node.index c.min-end.result first c.used_below-used.ensures.low (omega (arith, c.min-end.ensures, c.fan_out.ensures.value)) c.first_below-first.ensures;
      pointers = λ r low.
          pointer_below c.args.shape.layout (g.B.Blocks.count c.args.blocks.now) _ c.used_below-used.result r c.bytes-bytes.result.now _ (subst (IsIndirectBlock _ _ _) (sym c.bytes-bytes.ensures) good)
          (omega (arith, low, c.min-end.ensures, c.fan_out.ensures.value, c.fan_out.ensures.most)) (sym (c.mark_block-before.ensures.keeps.length_is ∙ c.requires.table)) refl;
      planes = c.requires.planes;
    }

pub returns-then-height-eq0-2-clause-keeps : goal.returns-then-height-eq0-2-clause-keeps
returns-then-height-eq0-2-clause-keeps g t c = keeps_more c.mark_block-before.ensures.keeps c.mark_leaves.ensures.keeps

pub returns-then-height-eq0-2-clause-marked : goal.returns-then-height-eq0-2-clause-marked
returns-then-height-eq0-2-clause-marked g t c disk h shows at nodes =
    let blocks = g.B.Blocks.count c.args.blocks.now in
    let used = c.used_below-used.result in
    let start = c.first_below-first.result in
    let end = c.min-end.result in
    let read = c.in_ok-read_indirect.ensures.block disk shows (search rules) in
    let good = c.in_ok-read_indirect.ensures.good (search rules) in
    let first = first_exact c.args.shape.layout blocks used start c.args.node.index c.read_indirect.new.block good c.first_below-first.ensures c.used_below-used.ensures.low in
    under_marked c.args.shape.layout blocks disk h c.args.node (c.args.node.height - 1) used c.in-Block.place c.args.shape.count c.if-node-eq0.false refl (at ∙ c.in-Block.is) nodes c.used_below-used.ensures.used
    (subst (IsIndirectBlock c.args.shape.layout blocks used) read good) end (omega (arith, c.min-end.ensures, c.fan_out.ensures.value)) (λ few. omega (arith, few, c.min-end.ensures, c.fan_out.ensures.value))
    blocks start c.args.node.number c.args.bits c.args.marks.now c.mark_block-before.new.marks c.mark_leaves.new.marks c.args.shared.now.of c.mark_block-before.new.of c.mark_leaves.new.of
    refl first c.mark_leaves.ensures.keeps.kept (c.mark_block-before.ensures.marked h (at ∙ c.in-Block.is)) (
      subst (λ (m : ℕ). MarksFor h (IsAmong c.args.shape.layout m start (start + end)) c.args.node.number c.args.bits c.mark_block-before.new.marks c.mark_leaves.new.marks c.mark_block-before.new.of c.mark_leaves.new.of) (sym c.if-height-eq0-2.true)
          (c.mark_leaves.ensures.marked c.args.shape.layout h (λ r low.
          subst (λ (m : ℕ). h.place m (start + r) ≡ indirect_pointer c.bytes-bytes.result.now r) c.if-height-eq0-2.true
          (child_place c.args.shape.layout blocks disk h c.args.node (c.args.node.height - 1) used c.in-Block.place c.args.shape.count c.if-node-eq0.false refl (at ∙ c.in-Block.is) nodes c.used_below-used.ensures.used
          start r (start + r) c.bytes-bytes.result.now _ first (omega (arith, low, c.min-end.ensures, c.fan_out.ensures.value, c.fan_out.ensures.most)) refl refl (c.bytes-bytes.ensures ∙ read)))),
      λ m i b among there. absurd (omega (arith, among.0, c.if-height-eq0-2.true)),
    )

pub overflow_add-node : goal.overflow_add-node
overflow_add-node g t c =
    let first = first_exact c.args.shape.layout (g.B.Blocks.count c.args.blocks.now) c.used_below-used.result c.first_below-first.result c.args.node.index c.read_indirect.new.block (c.in_ok-read_indirect.ensures.good (search rules)) c.first_below-first.ensures c.used_below-used.ensures.low in
    omega (arith, first, c.used_below-used.ensures.low (omega (arith, c.loop-r-test.true, c.min-end.ensures)), c.loop-r-test.true, c.min-end.ensures)

pub mark_node-requires : goal.mark_node-requires
mark_node-requires g t c κs within =
    let low : c.loop-r.r < 1024 = omega (arith, c.loop-r-test.true, c.min-end.ensures, c.fan_out.ensures.most) in (
      omega (arith, c.if-node-eq0.false),
      (
        within,
        (
          pointer_below c.args.shape.layout (g.B.Blocks.count c.args.blocks.now) (g.B.Blocks.count c.loop-r.blocks) c.used_below-used.result c.loop-r.r c.bytes.result.now c.indirect_pointer-below.result
              (subst (IsIndirectBlock _ _ _) (sym c.bytes.ensures) (c.in_ok-read_indirect.ensures.good (search rules))) low (sym (c.loop-r.invariant.looked.count ∙ c.read_indirect.ensures.reads.count)) c.indirect_pointer-below.ensures,
          (
            c.loop-r.invariant.keeps.length_is ∙ (c.mark_block-before.ensures.keeps.length_is ∙ (c.requires.table ∙ sym (c.loop-r.invariant.looked.count ∙ c.read_indirect.ensures.reads.count))),
            c.requires.planes,
          ),
        ),
      ),
    )

pub returns-in_err-mark_node-clause-keeps : goal.returns-in_err-mark_node-clause-keeps
returns-in_err-mark_node-clause-keeps g t c = keeps_more c.mark_block-before.ensures.keeps (keeps_more c.loop-r.invariant.keeps c.in_err-mark_node.ensures.keeps)

pub returns-in_err-mark_node-clause-marked : goal.returns-in_err-mark_node-clause-marked
returns-in_err-mark_node-clause-marked g t c disk h shows at nodes =
    let r : c.loop-r.r < fan_out c.args.shape.layout = omega (arith, c.loop-r-test.true, c.min-end.ensures, c.fan_out.ensures.value) in
    let blocks = g.B.Blocks.count c.args.blocks.now in
    let start = c.first_below-first.result in
    let index = start + c.loop-r.r in
    let first = first_exact c.args.shape.layout blocks c.used_below-used.result start c.args.node.index c.read_indirect.new.block (c.in_ok-read_indirect.ensures.good (search rules)) c.first_below-first.ensures c.used_below-used.ensures.low in
    err_marked c.args.shape.layout blocks (g.B.Blocks.count c.loop-r.blocks) disk h (IsUnder c.args.shape.layout (c.args.node.height - 1) index) (IsUnder c.args.shape.layout c.args.node.height c.args.node.index) c.args.node.number c.args.shape.count c.args.bits
    c.loop-r.marks c.mark_node.new.marks c.args.marks.now c.mark_node.new.marks c.loop-r.shared.of c.mark_node.new.shared.of c.args.shared.now.of c.mark_node.new.shared.of
    c.from_residual-in_err-mark_node.result c.in_err-mark_node.field-0.0 (c.loop-r.invariant.looked.count ∙ c.read_indirect.ensures.reads.count) c.from_residual-in_err-mark_node.ensures.1
    (child_under c.args.shape.layout blocks disk h c.args.node (c.args.node.height - 1) c.used_below-used.result c.in-Block.place c.args.shape.count c.if-node-eq0.false refl (at ∙ c.in-Block.is) nodes c.used_below-used.ensures.used
    start c.loop-r.r index first r refl)
    (c.in_err-mark_node.ensures.marked disk h (c.loop-r.invariant.looked.same disk (c.read_indirect.ensures.reads.same disk shows))
    (child_place c.args.shape.layout blocks disk h c.args.node (c.args.node.height - 1) c.used_below-used.result c.in-Block.place c.args.shape.count c.if-node-eq0.false refl (at ∙ c.in-Block.is) nodes c.used_below-used.ensures.used
    start c.loop-r.r index c.bytes.result.now c.indirect_pointer-below.result first r refl c.indirect_pointer-below.ensures (c.bytes.ensures ∙ c.in_ok-read_indirect.ensures.block disk shows (search rules)))
    (λ m i lt. nodes m i (omega (arith, lt))))

pub loop-r-preserved : goal.loop-r-preserved
loop-r-preserved g t c =
    let r : c.loop-r.r < fan_out c.args.shape.layout = omega (arith, c.loop-r-test.true, c.min-end.ensures, c.fan_out.ensures.value) in
    let blocks = g.B.Blocks.count c.args.blocks.now in
    let start = c.first_below-first.result in
    let index = start + c.loop-r.r in
    let first = first_exact c.args.shape.layout blocks c.used_below-used.result start c.args.node.index c.read_indirect.new.block (c.in_ok-read_indirect.ensures.good (search rules)) c.first_below-first.ensures c.used_below-used.ensures.low in
    let before = c.loop-r.invariant in
    record {
      looked = looked_more before.looked (looked c.in_ok-mark_node.ensures.reads);
      keeps = keeps_more before.keeps c.in_ok-mark_node.ensures.keeps;
      marked = λ disk h shows at nodes.
          among_more c.args.shape.layout (g.B.Blocks.count c.read_indirect.new.blocks) (g.B.Blocks.count c.loop-r.blocks) c.args.node.number c.args.shape.count c.args.bits disk h (c.args.node.height - 1) start
          index index (start + (c.loop-r.r + 1)) c.mark_block-before.new.marks c.loop-r.marks c.mark_node.new.marks c.mark_block-before.new.of c.loop-r.shared.of c.mark_node.new.shared.of before.looked.count (omega arith) refl (omega arith) c.in_ok-mark_node.ensures.keeps.kept
          (before.marked disk h shows at nodes)
          (c.in_ok-mark_node.ensures.marked disk h (before.looked.same disk (c.read_indirect.ensures.reads.same disk shows))
          (child_place c.args.shape.layout blocks disk h c.args.node (c.args.node.height - 1) c.used_below-used.result c.in-Block.place c.args.shape.count c.if-node-eq0.false refl (at ∙ c.in-Block.is) nodes c.used_below-used.ensures.used
          start c.loop-r.r index c.bytes.result.now c.indirect_pointer-below.result first r refl c.indirect_pointer-below.ensures (c.bytes.ensures ∙ c.in_ok-read_indirect.ensures.block disk shows (search rules)))
          (λ m i lt. nodes m i (omega (arith, lt))));
    }

pub returns-clause-keeps : goal.returns-clause-keeps
returns-clause-keeps g t c = keeps_more c.mark_block-before.ensures.keeps c.loop-r.invariant.keeps

pub returns-clause-marked : goal.returns-clause-marked
returns-clause-marked g t c disk h shows at nodes =
    let good = c.in_ok-read_indirect.ensures.good (search rules) in
    let first = first_exact c.args.shape.layout (g.B.Blocks.count c.args.blocks.now) c.used_below-used.result c.first_below-first.result c.args.node.index c.read_indirect.new.block good c.first_below-first.ensures c.used_below-used.ensures.low in
    let most : c.loop-r.r ≤ fan_out c.args.shape.layout = omega (arith, c.loop-r.auto.r-end, c.min-end.ensures, c.fan_out.ensures.value) in
    under_marked c.args.shape.layout (g.B.Blocks.count c.args.blocks.now) disk h c.args.node (c.args.node.height - 1) c.used_below-used.result c.in-Block.place c.args.shape.count c.if-node-eq0.false refl (at ∙ c.in-Block.is) nodes c.used_below-used.ensures.used
    (subst (IsIndirectBlock _ _ _) (c.in_ok-read_indirect.ensures.block disk shows (search rules)) good) c.loop-r.r most (λ few. omega (arith, few, c.loop-r-test.false, c.min-end.ensures, c.fan_out.ensures.value))
    (g.B.Blocks.count c.read_indirect.new.blocks) c.first_below-first.result c.args.node.number c.args.bits c.args.marks.now c.mark_block-before.new.marks c.loop-r.marks c.args.shared.now.of c.mark_block-before.new.of c.loop-r.shared.of
    c.read_indirect.ensures.reads.count first c.loop-r.invariant.keeps.kept (c.mark_block-before.ensures.marked h (at ∙ c.in-Block.is)) (c.loop-r.invariant.marked disk h shows at nodes)
