use Rattle.served.specs.Known.{known_of}
use Rattle.served.proofs.LookingLaws.{look_up-nowhere, look_up-told, look_up-refused}
use Rattle.served.proofs.TurnLaws.{leads_from}
use Rattle.served.proofs.looking.look_up.Goals as goal

pub returns-in_default : goal.returns-in_default
returns-in_default g c = look_up-nowhere g.F.FileSystem c.args.files.now (known_of c.args.memory.now) c.args.parent c.args.name.now

pub returns-in-Ok-ask_stat : goal.returns-in-Ok-ask_stat
returns-in-Ok-ask_stat g c =
    look_up-told g.F.FileSystem c.args.files.now c.ask_stat.new.files c.tell_number.new.files (known_of c.args.memory.now) c.args.parent c.args.name.now c.deref.result.now c.lstat.result
    c.in-Ok-ask_stat.stat c.tell_number.result
    (leads_from c.args.parent c.args.name.now c.in-Ok.path.items c.deref.result.now c.deref.ensures.value c.in-Ok.ensures.starts c.in-Ok.ensures.goes_on c.in-Ok.ensures.one_name)
    c.lstat.ensures c.in-Ok-ask_stat.ensures c.tell_number.ensures

pub returns : goal.returns
returns g c =
    look_up-refused g.F.FileSystem c.args.files.now c.ask_stat.new.files (known_of c.args.memory.now) c.args.parent c.args.name.now c.deref.result.now c.lstat.result
    c.in-Err.errno c.missing.result
    (leads_from c.args.parent c.args.name.now c.in-Ok.path.items c.deref.result.now c.deref.ensures.value c.in-Ok.ensures.starts c.in-Ok.ensures.goes_on c.in-Ok.ensures.one_name)
    c.lstat.ensures c.in-Err.ensures c.missing.ensures
