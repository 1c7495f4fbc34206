use Rattle.std.proofs.Common.{arith, inl, inr, refl}
use Rattle.system.specs.Systems.{IsCovered}
use Rattle.mount.proofs.AnswerLemmas.{ages_same, attempted, behind_that, no_room, no_room_left, not_attempted, checkpoint_applied, short_by}
use Rattle.mount.proofs.AttemptLemmas.{still_going}
use Rattle.mount.proofs.LogLemmas.{logs_anew, logs_checkpoint}
use Rattle.mount.proofs.fs.Fs.call_after_checkpoint.Goals as goal

pub returns-then-is_covered-clause-answers : goal.returns-then-is_covered-clause-answers
returns-then-is_covered-clause-answers g c =
    let fs = c.args.self.now in
    no_room_left {G = g.S.Station} 1 _ fs c.args.call.now c.requires.going (λ t here. c.served_states_open.ensures t.tree.descriptors t here) (λ s serves needs. needs.not_sure)
    (λ s serves needs. c.is_covered.ensures.covers s.tree.descriptors s (serves.kept (still_going fs s serves c.requires.going)) c.if-is_covered.true)
    (λ s serves needs. elim needs.waits [
      | inl lacks ↦ short_by {G = g.S.Station} fs.system s c.args.call.now lacks
      | inr full ↦ absurd (full (c.is_covered.ensures.told.0 c.if-is_covered.true).log)
    ])

pub returns-in-Err-clause-answers : goal.returns-in-Err-clause-answers
returns-in-Err-clause-answers g c = no_room 1 _ _ _ c.args.call.now c.in-Err.errno (omega arith) c.in-Err.ensures (λ s needs. needs.not_sure)

pub returns-in-Ok-clause-answers : goal.returns-in-Ok-clause-answers
returns-in-Ok-clause-answers g c =
    behind_that 1 1 0 _ (λ s. Unit {0}) c.args.self.now c.checkpoint.new.self _ c.args.call.now c.in-Ok.reply (omega arith) c.requires.going c.in_default.ensures.made.keeps
    (attempted 0 _ _ _ c.args.call.now c.in-Ok.reply (ages_same 0 _ _ (c.in-Ok.ensures.calm c.in_default.ensures.made.empty)) c.in-Ok.ensures)
    (logs_checkpoint 0 _ (λ s. Unit {0}) c.args.self.now c.checkpoint.new.self _ c.args.call.now c.in-Ok.reply
    (attempted 0 _ _ _ c.args.call.now c.in-Ok.reply (ages_same 0 _ _ (c.in-Ok.ensures.calm c.in_default.ensures.made.empty)) c.in-Ok.ensures) (λ s serves needs. tt) c.in_default.ensures.made) (λ s serves needs. tt) (λ s serves needs. needs.not_sure)

pub returns-in-Err-attempt-clause-answers : goal.returns-in-Err-attempt-clause-answers
returns-in-Err-attempt-clause-answers g c =
    let made = c.in_default.ensures.made in
    behind_that 1 1 0 _ (λ s. IsCovered c.checkpoint.new.self.system s.tree.descriptors s) c.args.self.now c.checkpoint.new.self _ c.args.call.now _ (omega arith) c.requires.going made.keeps
    (not_attempted 0 _ _ _ c.args.call.now c.in-Err-attempt.error _ c.errno_of_call.ensures (ages_same 0 _ _ (c.in-Err-attempt.ensures.calm made.empty)) c.in-Err-attempt.ensures
    (λ s serves covered. checkpoint_applied {G = g.S.Station} _ _ c.args.call.now c.in-Err-attempt.error c.in-Err-attempt.ensures made.keeps.going made.empty s serves covered))
    (λ s serves needs accepted served. absurd (accepted _ refl)) (λ s serves needs. made.covered s serves) (λ s serves needs. needs.not_sure)

-- ---- a refusal logs nothing

pub returns-then-is_covered-clause-logs : goal.returns-then-is_covered-clause-logs
returns-then-is_covered-clause-logs g c s serves waits accepted before = absurd (accepted _ refl)

pub returns-in-Err-clause-logs : goal.returns-in-Err-clause-logs
returns-in-Err-clause-logs g c s serves waits accepted before = absurd (accepted _ refl)

pub returns-in-Err-attempt-clause-logs : goal.returns-in-Err-attempt-clause-logs
returns-in-Err-attempt-clause-logs g c s serves waits accepted before = absurd (accepted _ refl)

pub returns-in-Ok-clause-logs : goal.returns-in-Ok-clause-logs
returns-in-Ok-clause-logs g c =
    logs_anew 0 _ (λ s. Unit {0}) c.args.self.now c.checkpoint.new.self _ c.args.call.now c.in-Ok.reply
    (attempted 0 _ _ _ c.args.call.now c.in-Ok.reply (ages_same 0 _ _ (c.in-Ok.ensures.calm c.in_default.ensures.made.empty)) c.in-Ok.ensures) (λ s serves needs. tt) c.in_default.ensures.made
