use Rattle.std.proofs.Common.{◌≡◌, None, length}
use Rattle.served.specs.Known.{known_of}
use Rattle.served.specs.Serving.{stage}
use Rattle.served.specs.UnderWay.{IsUnderWay}
use Rattle.served.specs.declared.numbers.TheConstants.{REQUEST_BYTES}
use Rattle.served.proofs.serving.answer_until.Given as goal

abbrev pub invariant-loop : goal.invariant-loop
invariant-loop g l =
    (length l.room.items ≡ REQUEST_BYTES) × IsUnderWay g.F.FileSystem g.K.Channel l.fn.durability
    (stage l.fn.files (known_of l.fn.memory) l.fn.channel None)
    (stage l.files (known_of l.memory) l.channel l.batch.since) l.batch.kept
