-- What telling of an object comes to.
use Rattle.std.specs.Prelude.{ℕ, ◌≡◌, length, Option, Some, Result, Ok, Err}
use Rattle.model.specs.Volumes.{Node, directory_node, file_node, link_node, Volume}
use Rattle.model.specs.declared.errno.Errno.{Errno}
use Rattle.model.specs.declared.limits.TheConstants.{LINK_MODE}
use Rattle.model.specs.declared.reply.FileType.TheVariants.{File, Dir, Link}
use Rattle.model.specs.declared.reply.Reply.{Reply}
use Rattle.model.specs.declared.reply.Reply.TheVariants as replies
use Rattle.model.specs.declared.reply.Stat.{Stat}

-- what is told of an object with a number: a directory shows 1 link and no size, a link the mode of
-- links, 1 link and its text's length
abbrev pub stat_in : ℕ → Node → Stat
stat_in n (directory_node attributes names) = record { number = n; kind = Dir; mode = attributes.mode; links = 1; size = 0 }
stat_in n (file_node attributes links bytes) =
    record { number = n; kind = File; mode = attributes.mode; links = links; size = length bytes }
stat_in n (link_node attributes text) =
    record { number = n; kind = Link; mode = LINK_MODE; links = 1; size = length text }

-- it is told of this object
abbrev pub IsStatOf : ℕ → Option Node → Stat → Type 0
IsStatOf n found stat = (o : Node) × (found ≡ Some o) × (stat ≡ stat_in n o)

-- it is told of the object with a number, where there is one
abbrev pub TellsStat : Volume → ℕ → Result Stat Errno → Type 0
TellsStat v n (Ok stat) = IsStatOf n (v n) stat
TellsStat v n (Err errno) = (o : Node) → v n ≡ Some o → ⊥

-- what is told of an object, or a refusal, as they are answered
abbrev pub stat_reply : Result Stat Errno → Reply
stat_reply (Ok stat) = replies.Stat stat
stat_reply (Err errno) = replies.Refused errno
