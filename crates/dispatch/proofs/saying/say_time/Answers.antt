use Rattle.std.proofs.Common.{◌∙◌, ℕ, ℤ, true, false, inl, refl, sym, ap, w64}
use Rattle.std.proofs.lemmas.Int.{to_z-of_z}
use Rattle.model.specs.declared.command.Command.TheVariants as command
use Rattle.model.specs.declared.errno.Errno.TheVariants.{EINVAL, ENOTSUP}
use Rattle.model.specs.declared.reply.Reply.TheVariants.{Done, Refused}
use Rattle.model.specs.Sessions.{at_time}
use Rattle.model.specs.declared.limits.Limits.{Limits}
use Rattle.model.specs.declared.session.Session.{Session}
use Rattle.dispatch.proofs.SayingLaws.{at_done, few_told, has_shown, is_said, many_told, no_times, not_told, saying_refused, too_late}
use Rattle.dispatch.proofs.ServingLaws.{answered, reads_nothing}
use Rattle.dispatch.proofs.ShowingLaws.{views_same}
use Rattle.dispatch.proofs.saying.say_time.Goals as goal

pub returns-then-not-limits : goal.returns-then-not-limits
returns-then-not-limits g c =
    let f = c.args.system.now in
    answered {G = g.S.Station} f _ (command.At c.args.seconds c.args.nanoseconds) refl (views_same {G = g.S.Station} f refl) (Refused ENOTSUP)
    (λ s shown. inl (record { sure = tt; still = refl }), λ is. (refl, λ want. cc)) reads_nothing tt (λ is. cc, λ is. cc)
    (λ s shown. saying_refused {G = g.S.Station} f _ shown (command.At c.args.seconds c.args.nanoseconds) (Refused ENOTSUP) refl refl refl
    (λ room. no_times s c.args.seconds c.args.nanoseconds room (has_shown {G = g.S.Station} f shown false (ap (λ (l : Limits). l.has_attributes) (sym c.limits.ensures) ∙ not_told c.limits.result.has_attributes true c.if-not-limits.true))))

pub returns-in-None : goal.returns-in-None
returns-in-None g c =
    let f = c.args.system.now in
    answered {G = g.S.Station} f _ (command.At c.args.seconds c.args.nanoseconds) refl (views_same {G = g.S.Station} f refl) (Refused EINVAL)
    (λ s shown. inl (record { sure = tt; still = refl }), λ is. (refl, λ want. cc)) reads_nothing tt (λ is. cc, λ is. cc)
    (λ s shown. saying_refused {G = g.S.Station} f _ shown (command.At c.args.seconds c.args.nanoseconds) (Refused EINVAL) refl refl refl
    (λ room. too_late s c.args.seconds c.args.nanoseconds room (has_shown {G = g.S.Station} f shown true (ap (λ (l : Limits). l.has_attributes) (sym c.limits.ensures) ∙ not_told c.limits.result.has_attributes false c.if-not-limits.false))
    (many_told c.args.nanoseconds (λ few. let some = c.in-None.ensures.fits.1 few in cc))))

pub returns-in-Some : goal.returns-in-Some
returns-in-Some g c =
    let f = c.args.system.now in
    answered {G = g.S.Station} f _ (command.At c.args.seconds c.args.nanoseconds) refl (views_same {G = g.S.Station} f refl) Done
    (λ s shown. inl (record { sure = tt; still = refl }), λ is. (refl, λ want. cc)) reads_nothing tt (λ is. cc, λ is. cc)
    (λ s shown. is_said {G = g.S.Station} f _ shown (command.At c.args.seconds c.args.nanoseconds) (at_time (record { seconds = c.args.seconds; nanoseconds = c.args.nanoseconds }))
    (ap (λ (z : ℤ). let said : Session = record f.session { time = record { seconds = z; nanoseconds = c.in-Some.nanoseconds } } in said) (to_z-of_z w64 c.args.seconds c.ranges.seconds)
    ∙ ap (λ (n : ℕ). let said : Session = record f.session { time = record { seconds = c.args.seconds; nanoseconds = n } } in said) c.in-Some.ensures.value) refl refl
    (λ room. at_done s c.args.seconds c.args.nanoseconds room (has_shown {G = g.S.Station} f shown true (ap (λ (l : Limits). l.has_attributes) (sym c.limits.ensures) ∙ not_told c.limits.result.has_attributes false c.if-not-limits.false)) (few_told c.args.nanoseconds (c.in-Some.ensures.fits.0 refl))))
