-- What listing a directory over a path comes to.
use Rattle.std.specs.Prelude.{Result, Ok, Err, List}
use Rattle.model.specs.Paths.{Name}
use Rattle.model.specs.declared.errno.Errno.{Errno}
use Rattle.model.specs.declared.reply.Reply.{Reply}
use Rattle.model.specs.declared.reply.Reply.TheVariants.{Names, Refused}

-- names, or a refusal, as they are answered
abbrev pub names_reply : Result (List Name) Errno → Reply
names_reply (Ok names) = Names names
names_reply (Err errno) = Refused errno
