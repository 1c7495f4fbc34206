-- What reading a symbolic link comes to.
use Rattle.std.specs.Prelude.{ℕ, List, Result, Ok, Err}
use Rattle.model.specs.declared.errno.Errno.{Errno}
use Rattle.model.specs.declared.reply.Reply.{Reply}
use Rattle.model.specs.declared.reply.Reply.TheVariants.{Text, Refused}

-- a text, or a refusal, as they are answered
abbrev pub text_reply : Result (List ℕ) Errno → Reply
text_reply (Ok text) = Text text
text_reply (Err errno) = Refused errno
