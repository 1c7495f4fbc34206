use Rattle.std.proofs.Common.{◌≡◌}
use Rattle.served.specs.Kept.{owed_at, owed_behind}
use Rattle.served.proofs.KeptLaws.{SentFirst}
use Rattle.served.proofs.kept.Kept.send.Given as goal

-- what lies at the first places was sent
abbrev pub invariant-loop-place : goal.invariant-loop-place
invariant-loop-place g l =
    SentFirst g.K.Channel (λ p. owed_behind l.done (owed_at l.bytes p)) l.places l.place-index l.fn.channel l.channel
    × (g.K.Channel.coming l.channel ≡ g.K.Channel.coming l.fn.channel)
