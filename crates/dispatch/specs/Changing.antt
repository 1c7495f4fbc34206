-- What calls by a path that change something come to.
use Rattle.std.specs.Prelude.{Bool, true, false, Option}
use Rattle.model.specs.Steps.{calls}
use Rattle.model.specs.Volumes.{tree_of}
use Rattle.model.specs.declared.command.PathCall.{PathCall}
use Rattle.model.specs.declared.command.PathCall.TheVariants as call
use Rattle.model.specs.declared.session.Session.{Session}
use Rattle.calls.specs.Changing.{ComesOrStays, ComesSwept}
use Rattle.calls.specs.Preparing.{Answer}
use Rattle.calls.specs.declared.changed.Changing.{Changing}

-- what a call by a path comes to in a session on a volume within limits
abbrev pub CallComes : Session → PathCall → Answer (Option Changing)
CallComes said c limits v table r = ComesOrStays (calls limits said (tree_of v table) c) limits v table r

-- the same of one that has a record where it isn't refused
abbrev pub RecordComes : Session → PathCall → Answer Changing
RecordComes said c limits v table r = ComesSwept (calls limits said (tree_of v table) c) limits v table r

-- the call writes bytes: it is `store`
abbrev pub is_writing_call : PathCall → Bool
is_writing_call (call.Store path offset given) = true
is_writing_call _ = false

-- the call may find nothing to change: it is `rename`, `renamenew`, `chown`, `utimens`, `truncate` or `set`
abbrev pub may_stay : PathCall → Bool
may_stay (call.Rename old path) = true
may_stay (call.RenameNew old path) = true
may_stay (call.Chown path follow owner group) = true
may_stay (call.Utimens path follow time) = true
may_stay (call.Truncate path size) = true
may_stay (call.Set path settings) = true
may_stay _ = false
