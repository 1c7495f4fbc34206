use Rattle.std.proofs.Common.{refl, sym, ◌∙◌}
use Rattle.served.proofs.ServingLaws.{sent_none, sent_so, unsent_so}
use Rattle.served.proofs.kept.send_reply.Goals as goal

pub returns-then-is_empty-clause-sends : goal.returns-then-is_empty-clause-sends
returns-then-is_empty-clause-sends g c =
    sent_none g.K.Channel c.args.channel.now c.args.reply.now (sym c.is_empty.ensures ∙ c.if-is_empty.true)

pub returns-then-is_empty-clause-coming : goal.returns-then-is_empty-clause-coming
returns-then-is_empty-clause-coming g c = refl

pub returns-in-Ok-clause-sends : goal.returns-in-Ok-clause-sends
returns-in-Ok-clause-sends g c =
    sent_so g.K.Channel c.args.channel.now c.send.new.self c.args.reply.now c.in-Ok.field-0 (sym c.is_empty.ensures ∙ c.if-is_empty.false) c.in-Ok.ensures.sends c.in-Ok.ensures.goes

pub returns-in-Ok-clause-coming : goal.returns-in-Ok-clause-coming
returns-in-Ok-clause-coming g c = c.send.ensures.coming

pub returns-in-Err-clause-sends : goal.returns-in-Err-clause-sends
returns-in-Err-clause-sends g c =
    unsent_so g.K.Channel c.args.channel.now c.send.new.self c.args.reply.now c.in-Err.ended (sym c.is_empty.ensures ∙ c.if-is_empty.false) c.in-Err.ensures.sends c.in-Err.ensures.goes

pub returns-in-Err-clause-coming : goal.returns-in-Err-clause-coming
returns-in-Err-clause-coming g c = c.send.ensures.coming
