use Rattle.std.proofs.Common.{None, refl, rules, ap, arith, length, subst, sym, ◌∙◌}
use Rattle.served.specs.Known.{known_of}
use Rattle.served.specs.Serving.{HasStopped, stage}
use Rattle.served.specs.UnderWay.{IsUnderWay}
use Rattle.served.proofs.GoingLaws.{stops_ended, stops_whole}
use Rattle.served.proofs.ServingLaws.{come_none, room_kept, stops_full, under_way}
use Rattle.served.proofs.serving.answer_until.Goals as goal

pub returns-in_default : goal.returns-in_default
returns-in_default g c =
    let old = stage c.args.files.now (known_of c.args.memory.now) c.args.channel.now None in
    (None, stops_full g.F.FileSystem g.K.Channel c.args.durability old old (come_none g.F.FileSystem g.K.Channel c.args.durability old))

pub returns-in_default-new : goal.returns-in_default-new
returns-in_default-new g c =
    let old = stage c.args.files.now (known_of c.args.memory.now) c.args.channel.now None in
    (None, stops_full g.F.FileSystem g.K.Channel c.args.durability old old (come_none g.F.FileSystem g.K.Channel c.args.durability old))

pub loop-init : goal.loop-init
loop-init g c =
    let old = stage c.args.files.now (known_of c.args.memory.now) c.args.channel.now None in (
      search rules,
      subst (λ since. IsUnderWay g.F.FileSystem g.K.Channel c.args.durability old (stage c.args.files.now (known_of c.args.memory.now) c.args.channel.now since) c.in-Ok-new.batch.kept) (sym c.in-Ok-new.ensures.since)
          (under_way g.F.FileSystem g.K.Channel c.args.durability old old c.in-Ok-new.batch.kept c.in-Ok-new.ensures.kept (come_none g.F.FileSystem g.K.Channel c.args.durability old)),
    )

pub exchange-requires : goal.exchange-requires
exchange-requires g c = ap length c.deref_mut.ensures.value ∙ c.loop.invariant.0

pub returns-in-Err : goal.returns-in-Err
returns-in-Err g c =
    (c.exchange.new.batch.since, c.in-Err.ensures.ended (stage c.args.files.now (known_of c.args.memory.now) c.args.channel.now None) c.loop.invariant.1)

pub loop-preserved : goal.loop-preserved
loop-preserved g c = (
  room_kept c.loop.room.len c.exchange.new.room c.loop.room.items (omega (arith, c.loop.room.ok.0)) (c.exchange.auto.room ∙ ap length c.deref_mut.ensures.value) ∙ c.loop.invariant.0,
  c.in-Ok-exchange.ensures.goes_on (stage c.args.files.now (known_of c.args.memory.now) c.args.channel.now None) c.loop.invariant.1,
)

pub returns-in-Ok-commit : goal.returns-in-Ok-commit
returns-in-Ok-commit g c =
    let sends = c.in-Ok-commit.ensures.sends in (
      c.commit.new.self.since,
      stops_whole g.F.FileSystem g.K.Channel c.args.durability (stage c.args.files.now (known_of c.args.memory.now) c.args.channel.now None) (stage c.loop.files (known_of c.loop.memory) c.loop.channel c.loop.batch.since)
          (stage c.commit.new.files (known_of c.loop.memory) c.commit.new.channel c.commit.new.self.since) c.loop.batch.kept c.loop.invariant.1 sends.0 (record { commits = sends.1; since = c.commit.ensures.since }) refl c.commit.ensures.coming
          (sends.2, sends.3, sends.4),
    )

pub returns : goal.returns
returns g c =
    let sends = c.in-Err-commit.ensures.sends in
    let old = stage c.args.files.now (known_of c.args.memory.now) c.args.channel.now None in
    let new = stage c.commit.new.files (known_of c.loop.memory) c.commit.new.channel c.commit.new.self.since in (
      c.commit.new.self.since,
      subst (HasStopped g.F.FileSystem g.K.Channel c.args.durability old new) (sym c.ending_of.ensures)
          (stops_ended g.F.FileSystem g.K.Channel c.args.durability old (stage c.loop.files (known_of c.loop.memory) c.loop.channel c.loop.batch.since) new c.loop.batch.kept c.loop.invariant.1 sends.0
          (record { commits = sends.1; since = c.commit.ensures.since }) refl c.commit.ensures.coming c.in-Err-commit.ended (sends.2, sends.3, sends.4)),
    )
