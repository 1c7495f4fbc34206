use Rattle.std.proofs.Common.{[], sym, ◌∙◌}
use Rattle.served.specs.Known.{known_of}
use Rattle.served.proofs.LookingLaws.{read_link-nowhere, read_link-told, read_link-stale, read_link-refused}
use Rattle.served.proofs.TurnLaws.{leads_from}
use Rattle.served.proofs.looking.read_link.Goals as goal

pub returns-in_default : goal.returns-in_default
returns-in_default g c = read_link-nowhere g.F.FileSystem (known_of c.args.memory.now) c.args.node c.args.number c.args.files.now

pub returns-in-Ok-ask_text : goal.returns-in-Ok-ask_text
returns-in-Ok-ask_text g c =
    read_link-told g.F.FileSystem (known_of c.args.memory.now) c.args.node c.args.number c.args.files.now c.ask_text.new.files c.deref.result.now c.readlink.result c.in-Ok-ask_text.text
    (leads_from c.args.number [] c.in-Ok.path.items c.deref.result.now c.deref.ensures.value c.in-Ok.ensures.starts c.in-Ok.ensures.goes_on c.in-Ok.ensures.one_name) c.readlink.ensures c.in-Ok-ask_text.ensures

pub returns-in-Err : goal.returns-in-Err
returns-in-Err g c =
    read_link-stale g.F.FileSystem (known_of c.args.memory.now) c.args.node c.args.number c.args.files.now c.ask_text.new.files c.deref.result.now c.readlink.result c.in-Err.errno c.read_removed.result
    (leads_from c.args.number [] c.in-Ok.path.items c.deref.result.now c.deref.ensures.value c.in-Ok.ensures.starts c.in-Ok.ensures.goes_on c.in-Ok.ensures.one_name) c.readlink.ensures c.in-Err.ensures (sym c.is_stale.ensures ∙ c.if-is_stale.true) c.read_removed.ensures

pub returns : goal.returns
returns g c =
    read_link-refused g.F.FileSystem (known_of c.args.memory.now) c.args.node c.args.number c.args.files.now c.ask_text.new.files c.deref.result.now c.readlink.result c.in-Err.errno
    (leads_from c.args.number [] c.in-Ok.path.items c.deref.result.now c.deref.ensures.value c.in-Ok.ensures.starts c.in-Ok.ensures.goes_on c.in-Ok.ensures.one_name) c.readlink.ensures c.in-Err.ensures (sym c.is_stale.ensures ∙ c.if-is_stale.false)
