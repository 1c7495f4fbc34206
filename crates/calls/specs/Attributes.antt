-- What calls tell and change of an object's attributes.
use Rattle.std.specs.Prelude.{ℕ, ◌≡◌, ◌||◌, IsSome, IsTrue, Option, Some, Result, Ok, Err, unwrap_or}
use Rattle.model.specs.Attributes.{no_attributes, set_mode, set_modified, set_owners}
use Rattle.model.specs.Volumes.{Node, Volume, attributes_of, is_directory_node, is_file_node}
use Rattle.model.specs.declared.attributes.Attributes.{Attributes}
use Rattle.model.specs.declared.errno.Errno.{Errno}
use Rattle.model.specs.declared.reply.Reply.{Reply}
use Rattle.model.specs.declared.reply.Reply.TheVariants as replies
use Rattle.model.specs.declared.reply.Stat.{Stat}
use Rattle.model.specs.declared.time.Time.{Time}
use Rattle.calls.specs.Stat.{IsStatOf}
use Rattle.calls.specs.declared.preparing.attributes.NewAttributes.{NewAttributes}
use Rattle.calls.specs.declared.preparing.attributes.NewAttributes.TheVariants as new

-- attributes with this changed
abbrev pub attributes_by : NewAttributes → Attributes → Attributes
attributes_by (new.Mode mode) = set_mode mode
attributes_by (new.Owners owner group) = set_owners owner group
attributes_by (new.Modified time) = set_modified time

-- calls at this time may change it: a mode at any, the rest where attributes are kept
abbrev pub MayChange : Option Time → NewAttributes → Type 0
MayChange now (new.Mode mode) = Unit {0}
MayChange now other = IsSome now

-- an object may have it changed: a file or directory the mode, and any object the rest
abbrev pub MayGet : Option Node → NewAttributes → Type 0
MayGet o (new.Mode mode) = IsTrue (is_file_node o || is_directory_node o)
MayGet o other = IsSome o

-- what is told of the object with a number, where there is one: what `stat` tells, and its attributes
abbrev pub TellsAttributes : Volume → ℕ → Result (Stat × Attributes) Errno → Type 0
TellsAttributes v n (Ok told) = IsStatOf n (v n) told.0 × (told.1 ≡ unwrap_or (attributes_of (v n)) no_attributes)
TellsAttributes v n (Err errno) = (o : Node) → v n ≡ Some o → ⊥

-- that, or a refusal, as they are answered
abbrev pub attributes_reply : Result (Stat × Attributes) Errno → Reply
attributes_reply (Ok told) = replies.Attributes told.0 told.1
attributes_reply (Err errno) = replies.Refused errno
