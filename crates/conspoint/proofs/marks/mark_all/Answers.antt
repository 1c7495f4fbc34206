use Rattle.std.proofs.Common.{◌∙◌}
use Rattle.std.proofs.lemmas.List.{get_or_default}
use Rattle.conspoint.proofs.MarkLemmas.{marks_more}
use Rattle.conspoint.proofs.StepLemmas.{keeps_then, marks_err, marks_keep, marks_ok}
use Rattle.conspoint.proofs.marks.mark_all.Goals as goal

pub loop-i-preserved : goal.loop-i-preserved
loop-i-preserved c =
    let so_far = c.loop-i.invariant in
    let parts = c.loop-i.draft.map.parts.items in
    record {
      keeps = keeps_then so_far.keeps (marks_keep c.mark.ensures.step);
      marked = marks_more c.args.blocks.now c.loop-i.i c.index-blocks-i.result c.args.is_in c.args.draft.now.map.parts.items parts c.mark.new.self.map.parts.items
          (c.index-blocks-i.is ∙ get_or_default c.args.blocks.now c.loop-i.i c.index-blocks-i.result 0 c.loop-i-test.true) so_far.marked c.in_ok-mark.ensures.bit c.in_ok-mark.ensures.stay;
    }

pub returns-in_err-mark-clause-step : goal.returns-in_err-mark-clause-step
returns-in_err-mark-clause-step c = marks_err c.from_residual.result c.from_residual.ensures.1 c.loop-i.invariant.keeps c.in_err-mark.ensures.step

pub returns-clause-step : goal.returns-clause-step
returns-clause-step c = marks_ok c.loop-i.invariant.keeps
