use Rattle.std.proofs.Common.{Ok, Err, length, ◌∙◌}
use Rattle.served.specs.Kept.{owed_at, owed_behind}
use Rattle.served.proofs.KeptLaws.{first_all, first_ended, first_more, kept_so, sent_kept, within_at, within_so}
use Rattle.served.proofs.kept.Kept.send.Goals as goal

pub send_one-requires-clause-order : goal.send_one-requires-clause-order
send_one-requires-clause-order g c =
    (within_at (length c.as_slice-bytes.result.now) c.as_slice-places.result.now c.loop-place.place-index _ c.loop-place-test.true
    (within_so _ c.as_slice-bytes.result.now _ c.as_slice-places.result.now c.as_slice-bytes.ensures.value c.as_slice-places.ensures.value c.self.invariant)).0

pub send_one-requires-clause-within : goal.send_one-requires-clause-within
send_one-requires-clause-within g c =
    (within_at (length c.as_slice-bytes.result.now) c.as_slice-places.result.now c.loop-place.place-index _ c.loop-place-test.true
    (within_so _ c.as_slice-bytes.result.now _ c.as_slice-places.result.now c.as_slice-bytes.ensures.value c.as_slice-places.ensures.value c.self.invariant)).1

pub returns-in-Err-clause-sends : goal.returns-in-Err-clause-sends
returns-in-Err-clause-sends g c =
    let bytes = c.as_slice-bytes.result.now in
    let places = c.as_slice-places.result.now in
    sent_kept g.K.Channel c.args.done bytes places c.args.self.now c.args.channel.now c.send_one.new.channel (Err c.in-Err.ended)
    (kept_so _ bytes _ places c.args.self.now c.as_slice-bytes.ensures.value c.as_slice-places.ensures.value c.self.view_is)
    (first_ended g.K.Channel (λ p. owed_behind c.args.done (owed_at bytes p)) places c.loop-place.place-index _ c.args.channel.now c.loop-place.channel c.send_one.new.channel c.loop-place-test.true c.in-Err.ended
    c.loop-place.invariant.0 c.in-Err.ensures.sends)

pub loop-place-preserved : goal.loop-place-preserved
loop-place-preserved g c =
    let bytes = c.as_slice-bytes.result.now in
    let places = c.as_slice-places.result.now in (
      first_more g.K.Channel (λ p. owed_behind c.args.done (owed_at bytes p)) places c.loop-place.place-index _ c.args.channel.now c.loop-place.channel c.send_one.new.channel c.loop-place-test.true
          c.loop-place.invariant.0 c.in-Ok.ensures.sends,
      c.send_one.ensures.coming ∙ c.loop-place.invariant.1,
    )

pub returns-clause-sends : goal.returns-clause-sends
returns-clause-sends g c =
    let bytes = c.as_slice-bytes.result.now in
    let places = c.as_slice-places.result.now in
    sent_kept g.K.Channel c.args.done bytes places c.args.self.now c.args.channel.now c.loop-place.channel (Ok tt)
    (kept_so _ bytes _ places c.args.self.now c.as_slice-bytes.ensures.value c.as_slice-places.ensures.value c.self.view_is)
    (first_all g.K.Channel (λ p. owed_behind c.args.done (owed_at bytes p)) places c.loop-place.place-index c.args.channel.now c.loop-place.channel c.loop-place-test.false c.loop-place.invariant.0)
