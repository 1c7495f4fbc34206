use Rattle.std.proofs.Common.{◌≡◌, ◌∙◌, ◌+◌, ℕ, [], refl, rules, subst, sym, arith}
use Rattle.layout.specs.declared.pointer.Pointer.TheVariants.{Hole}
use Rattle.checker.specs.Nodes.{IsAmong, MarksFor}
use Rattle.checker.specs.declared.fault.FileNode.{FileNode}
use Rattle.checker.proofs.NodeLaws.{keeps_more, looks_none}
use Rattle.checker.proofs.NodeSteps.{hole_marked, leaf_marked, leaf_more}
use Rattle.checker.proofs.nodes.mark_leaves.Goals as goal

pub loop-r-init : goal.loop-r-init
loop-r-init c = record {
  keeps = search rules;
  marked = λ l h are k bit. looks_none h (IsAmong l 0 c.args.first (c.args.first + 0)) k c.args.number c.args.marks.now c.args.of.now (λ m i b among there. absurd (omega (arith, among.1, among.2)));
}

pub loop-r-preserved-in_default : goal.loop-r-preserved-in_default
loop-r-preserved-in_default c = record {
  keeps = c.loop-r.invariant.keeps;
  marked = λ l h are.
      let hole : c.indirect_pointer.result ≡ Hole = c.in_default.is in
      let node : FileNode = record { number = c.args.number; height = 0; index = c.args.first + c.loop-r.r } in
      let here = hole_marked l 0 (λ _. []) h node 0 c.args.bits c.loop-r.marks c.loop-r.of (λ m i lt. absurd (omega (arith, lt))) (are c.loop-r.r c.loop-r-test.true ∙ sym c.indirect_pointer.ensures ∙ hole) in
      leaf_more l c.args.number c.args.bits c.args.first (c.args.first + c.loop-r.r) (c.args.first + (c.loop-r.r + 1)) h c.args.marks.now c.loop-r.marks c.loop-r.marks c.args.of.now c.loop-r.of c.loop-r.of
      (omega arith) (omega arith) (λ k s is. is) (c.loop-r.invariant.marked l h are) here.0;
}

pub loop-r-preserved : goal.loop-r-preserved
loop-r-preserved c = record {
  keeps = keeps_more c.loop-r.invariant.keeps c.mark_block.ensures.keeps;
  marked = λ l h are.
      let node : FileNode = record { number = c.args.number; height = 0; index = c.args.first + c.loop-r.r } in
      let here = leaf_marked l 0 (λ _. []) h node 0 c.args.bits c.loop-r.marks c.mark_block.new.marks c.loop-r.of c.mark_block.new.of refl
      (c.mark_block.ensures.marked h (are c.loop-r.r c.loop-r-test.true ∙ sym c.indirect_pointer.ensures ∙ c.in-Block.is)) in
      leaf_more l c.args.number c.args.bits c.args.first (c.args.first + c.loop-r.r) (c.args.first + (c.loop-r.r + 1)) h c.args.marks.now c.loop-r.marks c.mark_block.new.marks c.args.of.now c.loop-r.of c.mark_block.new.of
      (omega arith) (omega arith) c.mark_block.ensures.keeps.kept (c.loop-r.invariant.marked l h are) here.0;
}

pub returns-clause-marked : goal.returns-clause-marked
returns-clause-marked c = λ l h are.
    let all : c.loop-r.r ≡ c.args.end = omega (arith, c.loop-r-test.false, c.loop-r.auto.r-end) in
    subst (λ (n : ℕ). MarksFor h (IsAmong l 0 c.args.first (c.args.first + n)) c.args.number c.args.bits c.args.marks.now c.loop-r.marks c.args.of.now c.loop-r.of) all (c.loop-r.invariant.marked l h are)
