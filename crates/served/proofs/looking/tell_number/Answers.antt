use Rattle.std.proofs.Common.{[]}
use Rattle.served.specs.Known.{known_of}
use Rattle.served.proofs.LookingLaws.{tell_number-nowhere, tell_number-told}
use Rattle.served.proofs.TurnLaws.{leads_from}
use Rattle.served.proofs.looking.tell_number.Goals as goal

pub returns-in-Ok : goal.returns-in-Ok
returns-in-Ok g c =
    tell_number-told g.F.FileSystem c.args.files.now c.tell_entry.new.files (known_of c.args.memory.now) c.args.stat.now c.deref.result.now c.tell_entry.result
    (leads_from c.args.stat.now.number [] c.in-Ok.path.items c.deref.result.now c.deref.ensures.value c.in-Ok.ensures.starts c.in-Ok.ensures.goes_on c.in-Ok.ensures.one_name) c.tell_entry.ensures

pub returns-in-Err : goal.returns-in-Err
returns-in-Err g c = tell_number-nowhere g.F.FileSystem c.args.files.now (known_of c.args.memory.now) c.args.stat.now
