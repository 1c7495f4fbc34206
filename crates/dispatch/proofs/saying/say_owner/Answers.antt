use Rattle.std.proofs.Common.{◌∙◌, true, false, inl, refl, sym, ap}
use Rattle.model.specs.Sessions.{as_owner}
use Rattle.model.specs.declared.command.Command.TheVariants as command
use Rattle.model.specs.declared.errno.Errno.TheVariants.{ENOTSUP}
use Rattle.model.specs.declared.reply.Reply.TheVariants.{Done, Refused}
use Rattle.model.specs.declared.limits.Limits.{Limits}
use Rattle.dispatch.proofs.SayingLaws.{as_done, has_shown, is_said, no_owners, not_told, saying_refused}
use Rattle.dispatch.proofs.ServingLaws.{answered, reads_nothing}
use Rattle.dispatch.proofs.ShowingLaws.{views_same}
use Rattle.dispatch.proofs.saying.say_owner.Goals as goal

pub returns-then-not-limits : goal.returns-then-not-limits
returns-then-not-limits g c =
    let f = c.args.system.now in
    let call = command.As c.args.owner c.args.group in
    answered {G = g.S.Station} f _ call refl (views_same {G = g.S.Station} f refl) (Refused ENOTSUP)
    (λ s shown. inl (record { sure = tt; still = refl }), λ is. (refl, λ want. cc)) reads_nothing tt (λ is. cc, λ is. cc)
    (λ s shown. saying_refused {G = g.S.Station} f _ shown call (Refused ENOTSUP) refl refl refl
    (λ room. no_owners s c.args.owner c.args.group room (has_shown {G = g.S.Station} f shown false (ap (λ (l : Limits). l.has_attributes) (sym c.limits.ensures) ∙ not_told c.limits.result.has_attributes true c.if-not-limits.true))))

pub returns : goal.returns
returns g c =
    let f = c.args.system.now in
    let call = command.As c.args.owner c.args.group in
    answered {G = g.S.Station} f _ call refl (views_same {G = g.S.Station} f refl) Done
    (λ s shown. inl (record { sure = tt; still = refl }), λ is. (refl, λ want. cc)) reads_nothing tt (λ is. cc, λ is. cc)
    (λ s shown. is_said {G = g.S.Station} f _ shown call (as_owner c.args.owner c.args.group) refl refl refl
    (λ room. as_done s c.args.owner c.args.group room (has_shown {G = g.S.Station} f shown true (ap (λ (l : Limits). l.has_attributes) (sym c.limits.ensures) ∙ not_told c.limits.result.has_attributes false c.if-not-limits.false))))
