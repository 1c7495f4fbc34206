-- What reading a file over a path comes to.
use Rattle.std.specs.Prelude.{ℕ, ℤ, ◌||◌, Result, Ok, Err, List, [], ◌∷◌}
use Rattle.model.specs.Paths.{Tests}
use Rattle.model.specs.Reading.{is_negative, is_too_many}
use Rattle.model.specs.declared.errno.Errno.{Errno}
use Rattle.model.specs.declared.errno.Errno.TheVariants.{EINVAL}
use Rattle.model.specs.declared.reply.Reply.{Reply}
use Rattle.model.specs.declared.reply.Reply.TheVariants.{Data, Refused}

-- the tests of an offset and of how many bytes are asked
abbrev pub range_tests : ℤ → ℕ → Tests
range_tests offset count = (is_negative offset || is_too_many count, EINVAL) ∷ []

-- bytes, or a refusal, as they are answered
abbrev pub data_reply : Result (List ℕ) Errno → Reply
data_reply (Ok bytes) = Data bytes
data_reply (Err errno) = Refused errno
