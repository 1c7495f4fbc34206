use Rattle.std.proofs.Common.{rules, arith, subst, sym, ◌+◌}
use Rattle.blocktree.specs.Trees.{IsSoundAt}
use Rattle.dirs.specs.Edits.{edited_block}
use Rattle.dirs.specs.Surveys.{IsBounded}
use Rattle.dirs.proofs.SurveyLaws.{bounded_more, finds_more}
use Rattle.buffers.proofs.ReadLaws.{only_more, only_ok, only_then, reads_err}
use Rattle.dirs.proofs.survey.survey_of.Goals as goal

pub returns-in_err-look-clause-damaged : goal.returns-in_err-look-clause-damaged
returns-in_err-look-clause-damaged g c = λ disk shows is reached sound.
    let i = c.loop-i.i in
    let so_far = c.loop-i.invariant in
    let here = subst (λ n. IsSoundAt n disk c.args.file.now.tree i) (sym so_far.read.count) (reached i c.loop-i-test.true) in
    let held = sound i c.loop-i-test.true in
    c.in_err-look.ensures.damaged disk (so_far.read.same disk shows) (search rules) here held.0 held.1

pub loop-i-preserved : goal.loop-i-preserved
loop-i-preserved g c =
    let so_far = c.loop-i.invariant in
    let look = c.in_ok-look.ensures in
    let more = c.with_block-survey.ensures in
    record {
      read = only_then so_far.read look.reads;
      most = omega (arith, so_far.most, more.names, look.likely.names);
      bounded = subst (IsBounded (c.loop-i.i + 1) c.with_block-survey.result) (sym more.room) (bounded_more c.loop-i.i c.args.bytes c.loop-i.survey c.with_block-survey.result c.in_ok-look.look c.requires look.likely more.names c.loop-i.survey.room so_far.bounded);
      knows = λ disk shows knows. look.knows disk (so_far.read.same disk shows) (so_far.knows disk shows knows);
      finds = λ disk shows knows. finds_more c.args.inodes (edited_block disk c.args.file.now c.args.edit.now) c.loop-i.i c.args.bytes _ c.loop-i.survey c.with_block-survey.result c.in_ok-look.look (so_far.finds disk shows knows) (look.tells disk (so_far.read.same disk shows) (so_far.knows disk shows knows)) more.place more.names more.room;
    }

pub returns-in_err-look-clause-reads : goal.returns-in_err-look-clause-reads
returns-in_err-look-clause-reads g c = reads_err c.from_residual.result c.from_residual.ensures.1 (only_more _ c.loop-i.invariant.read c.in_err-look.ensures.reads)

pub returns-clause-reads : goal.returns-clause-reads
returns-clause-reads g c = only_ok c.loop-i.invariant.read

pub returns-in_err-look-clause-knows : goal.returns-in_err-look-clause-knows
returns-in_err-look-clause-knows g c = λ disk shows knows. c.in_err-look.ensures.knows disk (c.loop-i.invariant.read.same disk shows) (c.loop-i.invariant.knows disk shows knows)
