use Rattle.std.proofs.Common.{Bool, true, false, refl, subst}
use Rattle.std.proofs.lemmas.Fn.{says_at}
use Rattle.std.specs.Fn.{FnReturnsAt}
use Rattle.session.proofs.AnswerLemmas.{cut_ends, reply_ends}
use Rattle.session.proofs.answering.answer.Goals as goal

pub returns-then-was_cut-clause-shows : goal.returns-then-was_cut-clause-shows
returns-then-was_cut-clause-shows g c =
    let told = c.apply-reply.ensures in
    let cut = λ (b : Bool). FnReturnsAt g.C.Fn c.args.was_cut.now c.apply-reply.new.self.system.blocks.buffers.station b in (
      c.apply-reply.result,
      record { answers = told.answers; at_once = told.at_once; quiet = told.quiet; failed = told.failed; lasts = told.answers.epoch.lasts; goes_on = told.goes_on },
      cut_ends c.apply-reply.result cut _ _ c.show_cut.result
          (subst (λ s. FnReturnsAt g.C.Fn c.args.was_cut.now s true) c.station.ensures (says_at g.C.Fn c.was_cut.ensures c.if-was_cut.true)) c.show_cut.ensures.shows,
    )

pub returns-in-Err-clause-shows : goal.returns-in-Err-clause-shows
returns-in-Err-clause-shows g c =
    let told = c.apply-reply.ensures in
    let cut = λ (b : Bool). FnReturnsAt g.C.Fn c.args.was_cut.now c.apply-reply.new.self.system.blocks.buffers.station b in (
      c.apply-reply.result,
      record { answers = told.answers; at_once = told.at_once; quiet = told.quiet; failed = told.failed; lasts = told.answers.epoch.lasts; goes_on = told.goes_on },
      reply_ends c.apply-reply.result cut _ _ c.in-Err.status c.in-Err.ensures.shows,
    )

pub returns-in-Ok-clause-shows : goal.returns-in-Ok-clause-shows
returns-in-Ok-clause-shows g c =
    let told = c.apply-reply.ensures in (
      c.apply-reply.result,
      record { answers = told.answers; at_once = told.at_once; quiet = told.quiet; failed = told.failed; lasts = told.answers.epoch.lasts; goes_on = told.goes_on },
      (refl, subst (λ s. FnReturnsAt g.C.Fn c.args.was_cut.now s false) c.station.ensures (says_at g.C.Fn c.was_cut.ensures c.if-was_cut.false), c.in-Ok.ensures.shows),
    )
