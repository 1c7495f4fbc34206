use Rattle.std.proofs.Common.{◌+◌, refl}
use Rattle.script.proofs.SplitLemmas.{last_pushed, no_longer, part_pushed}
use Rattle.script.proofs.splitting.split_at_byte.Goals as goal

pub loop-end-preserved : goal.loop-end-preserved
loop-end-preserved c = record {
  within = no_longer _ (c.in-Some.end + 1) c.loop-end.rest.now c.args.bytes.now c.loop-end.invariant.within;
  parts = part_pushed (λ part. part.now) c.args.separator c.in-Some.end _ c.loop-end.parts.items c.push.new.self.items _ c.loop-end.rest.now c.args.bytes.now c.in-Some.ensures refl c.in_ok-push.ensures.items refl c.loop-end.invariant.parts;
}

pub returns : goal.returns
returns c = last_pushed (λ part. part.now) c.args.separator c.loop-end.parts.items c.push-2.new.self.items c.loop-end.rest c.loop-end.rest.now c.args.bytes.now c.in_default.ensures c.in_ok-push-2.ensures.items refl c.loop-end.invariant.parts
