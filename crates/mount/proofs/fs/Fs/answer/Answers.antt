use Rattle.std.proofs.Common.{◌≡◌, refl}
use Rattle.model.specs.declared.command.Command.TheVariants.{Df, Statfs}
use Rattle.model.specs.declared.errno.Errno.TheVariants.{EIO, ENOMEM, FAILED}
use Rattle.model.specs.declared.reply.Reply.TheVariants.{Refused}
use Rattle.mount.proofs.AnswerLemmas.{answers_so, at_once}
use Rattle.mount.proofs.ApplyLemmas.{failed_applied}
use Rattle.mount.proofs.LogLemmas.{refused_logs}
use Rattle.mount.proofs.fs.Fs.answer.Goals as goal

pub returns-then-self-clause-answers : goal.returns-then-self-clause-answers
returns-then-self-clause-answers g c =
    let fs = c.args.self.now in
    at_once 2 _ fs c.args.command.now (Refused FAILED) tt (λ is. cc) (λ is. c.if-self.true) (refused_logs _ fs fs c.args.command.now FAILED)
    (λ s serves young _. (s, failed_applied fs s c.args.command.now serves c.if-self.true))

pub returns-in-Df-clause-answers : goal.returns-in-Df-clause-answers
returns-in-Df-clause-answers g c =
    let fs = c.args.self.now in
    let is : c.args.command.now ≡ Df = cc in
    answers_so 2 _ fs fs Df c.args.command.now c.space.result is
    (at_once 2 _ fs Df c.space.result c.space.ensures.kind (c.space.ensures.answers EIO) (λ is. absurd (c.space.ensures.answers FAILED is)) (λ s serves _ accepted served. c.space.ensures.logs s served) (λ s serves young _. c.space.ensures.applied s serves c.if-self.false))

pub returns-in-Statfs-clause-answers : goal.returns-in-Statfs-clause-answers
returns-in-Statfs-clause-answers g c =
    let fs = c.args.self.now in
    let is : c.args.command.now ≡ Statfs = cc in
    answers_so 2 _ fs fs Statfs c.args.command.now c.usage.result is
    (at_once 2 _ fs Statfs c.usage.result c.usage.ensures.kind (c.usage.ensures.answers EIO) (λ is. absurd (c.usage.ensures.answers FAILED is)) (λ s serves _ accepted served. c.usage.ensures.logs s served) (λ s serves young _. c.usage.ensures.applied s serves c.if-self.false))

pub returns-then-self-clause-at_once : goal.returns-then-self-clause-at_once
returns-then-self-clause-at_once g c once = (refl, λ is. cc)

pub returns-in-Df-clause-at_once : goal.returns-in-Df-clause-at_once
returns-in-Df-clause-at_once g c once = (refl, c.space.ensures.answers ENOMEM)

pub returns-in-Statfs-clause-at_once : goal.returns-in-Statfs-clause-at_once
returns-in-Statfs-clause-at_once g c once = (refl, c.usage.ensures.answers ENOMEM)
