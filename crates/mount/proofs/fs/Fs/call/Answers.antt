use Rattle.std.proofs.Common.{arith}
use Rattle.oplog.specs.LogEnd.{all_bodies}
use Rattle.mount.proofs.AnswerLemmas.{ages_within, attempted, behind_that, not_attempted, waiting_keeps}
use Rattle.mount.proofs.fs.Fs.call.Goals as goal

pub returns-in-Ok-clause-answers : goal.returns-in-Ok-clause-answers
returns-in-Ok-clause-answers g c = attempted 2 _ _ _ c.args.call.now c.in-Ok.reply (ages_within 2 1 _ _ (omega arith) c.in-Ok.ensures.epoch) c.in-Ok.ensures

pub returns-in-NoRoom-clause-answers : goal.returns-in-NoRoom-clause-answers
returns-in-NoRoom-clause-answers g c =
    let made = c.in-Err.ensures in
    behind_that 2 1 1 _ _ c.args.self.now c.attempt.new.self _ c.args.call.now c.call_after_checkpoint.result (omega arith) c.requires.going
    (waiting_keeps _ _ c.args.call.now c.in-Err.error c.in-NoRoom.is made) c.call_after_checkpoint.ensures.answers
    (λ s serves _ accepted served.
    let waits = made.waits s serves c.in-NoRoom.is in
    c.call_after_checkpoint.ensures.logs s waits.0.serves waits.1 accepted (all_bodies served.lasts.bodies))
    (λ s serves _. (made.waits s serves c.in-NoRoom.is).1) (λ s serves _ sure. made.sure s serves sure)

pub returns-in_default-clause-answers : goal.returns-in_default-clause-answers
returns-in_default-clause-answers g c =
    not_attempted 2 _ _ _ c.args.call.now c.in-Err.error _ c.errno_of_call.ensures (ages_within 2 1 _ _ (omega arith) c.in-Err.ensures.epoch) c.in-Err.ensures (λ s serves _. c.in-Err.ensures.applied s serves c.in_default.not-NoRoom c.in_default.not-LogFull)

pub returns-in-NoRoom-clause-at_once : goal.returns-in-NoRoom-clause-at_once
returns-in-NoRoom-clause-at_once g c once = absurd (c.in-Err.ensures.at_once once)

pub returns-in_default-clause-at_once : goal.returns-in_default-clause-at_once
returns-in_default-clause-at_once g c once = absurd (c.in-Err.ensures.at_once once)
