use Rattle.std.proofs.Common.{sym}
use Rattle.fuse.proofs.NameLaws.{ended_none, ended_some, rest_is}
use Rattle.fuse.proofs.name.ended_at.Goals as goal

pub returns-in_default : goal.returns-in_default
returns-in_default c = sym (ended_none c.args.bytes.now c.in_default.ensures)

pub returns : goal.returns
returns c =
    rw (rest_is c.args.bytes.now c.in-Some.end) (sym (ended_some c.args.bytes.now c.in-Some.end c.in-Some.ensures))
