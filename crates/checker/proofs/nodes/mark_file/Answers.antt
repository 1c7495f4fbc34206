use Rattle.std.proofs.Common.{◌≡◌, ◌∙◌, ◌+◌, ◌<◌, ℕ, length, refl, subst, arith}
use Rattle.std.specs.Int.{div_ceil}
use Rattle.std.proofs.lemmas.List.{get_or_default}
use Rattle.layout.specs.declared.inode.Body.TheVariants.{Pointers}
use Rattle.layout.specs.declared.pointer.Pointer.TheVariants.{Hole}
use Rattle.images.specs.Nodes.{held}
use Rattle.checker.specs.Nodes.{AreIndirect, IsAmong, IsUnder, MarksFor}
use Rattle.checker.proofs.NodeFiles.{all_marked, file_passed, grammar_of, held_nodes, held_top, inline_level, none_marked, top_level, with_pointers}
use Rattle.checker.proofs.NodeLaws.{keeps_more}
use Rattle.checker.proofs.NodeSteps.{among_more}
use Rattle.checker.proofs.ReadLaws.{looked, looked_more}
use Rattle.checker.proofs.nodes.mark_file.Goals as goal

pub returns-in_default-clause-marked : goal.returns-in_default-clause-marked
returns-in_default-clause-marked g c disk s shows same fits =
    let f = c.args.inode.now in
    let all = none_marked disk f s (g.B.Blocks.count c.args.blocks.now) (div_ceil f.size 4096) same refl (inline_level s f _ fits c.in_default.is) c.args.number c.args.bits c.args.marks.now c.args.shared.now.of in
    (all.0, grammar_of disk f s (g.B.Blocks.count c.args.blocks.now) (div_ceil f.size 4096) same refl fits all.1)

pub returns-in_err-mark_top-clause-keeps : goal.returns-in_err-mark_top-clause-keeps
returns-in_err-mark_top-clause-keeps g c = keeps_more c.loop-i.invariant.keeps c.in_err-mark_top.ensures.keeps

pub returns-in_err-mark_top-clause-marked : goal.returns-in_err-mark_top-clause-marked
returns-in_err-mark_top-clause-marked g c disk s shows same fits =
    let f = c.args.inode.now in
    let p = c.in-Pointers.pointers in
    let i = c.loop-i.i in
    let height = c.top_height-height.result in
    let count = c.block_count-count.result in
    let blocks = g.B.Blocks.count c.args.blocks.now in
    let body : f.body ≡ Pointers p = c.in-Pointers.is in
    let parts = with_pointers s f p fits body in
    let level = top_level f.layout f.size height parts.0 c.top_height-height.ensures in
    let within : i < length p = omega (arith, parts.1, c.loop-i-test.true) in
    file_passed disk f s blocks count same c.block_count-count.ensures (IsUnder f.layout height i) (g.B.Blocks.count c.loop-i.blocks) c.args.number c.args.bits
    c.loop-i.marks c.mark_top.new.marks c.args.marks.now c.mark_top.new.marks c.loop-i.shared.of c.mark_top.new.shared.of c.args.shared.now.of c.mark_top.new.shared.of
    c.from_residual.result c.in_err-mark_top.field-0.0 c.loop-i.invariant.looked.count c.from_residual.ensures.1
    (c.in_err-mark_top.ensures.marked disk (held disk f) (c.loop-i.invariant.looked.same disk shows)
    (held_top disk f s blocks count same c.block_count-count.ensures height p level body i ∙ get_or_default p i Hole c.index-pointers-i.result within)
    (held_nodes disk f s blocks count same c.block_count-count.ensures height p level body))

pub loop-i-preserved : goal.loop-i-preserved
loop-i-preserved g c =
    let f = c.args.inode.now in
    let p = c.in-Pointers.pointers in
    let i = c.loop-i.i in
    let height = c.top_height-height.result in
    let count = c.block_count-count.result in
    let blocks = g.B.Blocks.count c.args.blocks.now in
    let before = c.loop-i.invariant in
    let body : f.body ≡ Pointers p = c.in-Pointers.is in
    record {
      looked = looked_more before.looked (looked c.in_ok-mark_top.ensures.reads);
      keeps = keeps_more before.keeps c.in_ok-mark_top.ensures.keeps;
      marked = λ disk s shows same fits.
          let parts = with_pointers s f p fits body in
          let level = top_level f.layout f.size height parts.0 c.top_height-height.ensures in
          let within : i < length p = omega (arith, parts.1, c.loop-i-test.true) in
          among_more f.layout blocks (g.B.Blocks.count c.loop-i.blocks) c.args.number count c.args.bits disk (held disk f) height 0 i i (i + 1)
          c.args.marks.now c.loop-i.marks c.mark_top.new.marks c.args.shared.now.of c.loop-i.shared.of c.mark_top.new.shared.of
          before.looked.count (omega arith) refl refl c.in_ok-mark_top.ensures.keeps.kept (before.marked disk s shows same fits)
          (c.in_ok-mark_top.ensures.marked disk (held disk f) (before.looked.same disk shows)
          (held_top disk f s blocks count same c.block_count-count.ensures height p level body i ∙ get_or_default p i Hole c.index-pointers-i.result within)
          (held_nodes disk f s blocks count same c.block_count-count.ensures height p level body));
    }

pub returns-clause-marked : goal.returns-clause-marked
returns-clause-marked g c disk s shows same fits =
    let f = c.args.inode.now in
    let p = c.in-Pointers.pointers in
    let height = c.top_height-height.result in
    let count = c.block_count-count.result in
    let blocks = g.B.Blocks.count c.args.blocks.now in
    let body : f.body ≡ Pointers p = c.in-Pointers.is in
    let parts = with_pointers s f p fits body in
    let level = top_level f.layout f.size height parts.0 c.top_height-height.ensures in
    let end : c.loop-i.i ≡ length p = omega (arith, parts.1, c.loop-i-test.false, c.loop-i.auto.i-end) in
    let P : ℕ → Type 0 = λ n.
    MarksFor (held disk f) (IsAmong f.layout height 0 n) c.args.number c.args.bits c.args.marks.now c.loop-i.marks c.args.shared.now.of c.loop-i.shared.of
    × AreIndirect f.layout blocks disk (held disk f) count (IsAmong f.layout height 0 n) in
    let all = all_marked disk f s blocks count same c.block_count-count.ensures height p level body c.args.number c.args.bits c.args.marks.now c.loop-i.marks c.args.shared.now.of c.loop-i.shared.of
    (subst P end (c.loop-i.invariant.marked disk s shows same fits)) in
    (all.0, grammar_of disk f s blocks count same c.block_count-count.ensures fits all.1)
