-- Answers of calls on descriptors, as they are replied.
use Rattle.std.specs.Prelude.{ℕ, Result, Ok, Err}
use Rattle.model.specs.declared.errno.Errno.{Errno}
use Rattle.model.specs.declared.reply.Reply.{Reply}
use Rattle.model.specs.declared.reply.Reply.TheVariants as reply

-- that it is done
abbrev pub done_reply : {T : Type 0} → Result T Errno → Reply
done_reply (Ok done) = reply.Done
done_reply (Err errno) = reply.Refused errno

-- an offset
abbrev pub place_reply : Result ℕ Errno → Reply
place_reply (Ok place) = reply.At place
place_reply (Err errno) = reply.Refused errno
