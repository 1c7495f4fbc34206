use Rattle.std.proofs.Common.{[], refl, sym, subst, ◌∙◌}
use Rattle.served.specs.Known.{known_of}
use Rattle.served.specs.Looking.{stored_parts}
use Rattle.served.specs.Turns.{Came}
use Rattle.served.proofs.LookingLaws.{tell_attributes-nowhere, tell_attributes-told, tell_attributes-stale, tell_attributes-refused}
use Rattle.served.proofs.TurnLaws.{leads_from}
use Rattle.served.proofs.looking.tell_attributes.Goals as goal

pub returns-in_default : goal.returns-in_default
returns-in_default g c = tell_attributes-nowhere g.F.FileSystem c.args.files.now (known_of c.args.memory.now) c.args.node c.args.handle

pub returns-in-Ok-ask_stat : goal.returns-in-Ok-ask_stat
returns-in-Ok-ask_stat g c =
    tell_attributes-told g.F.FileSystem c.args.files.now c.ask_stat.new.files c.stored_parts-parts.new.files (known_of c.args.memory.now) c.args.node c.args.handle c.deref.result.now c.lstat.result
    c.in-Ok-ask_stat.stat c.stored_parts-parts.result _
    (leads_from c.args.handle.number [] c.in-Ok.path.items c.deref.result.now c.deref.ensures.value c.in-Ok.ensures.starts c.in-Ok.ensures.goes_on c.in-Ok.ensures.one_name)
    c.lstat.ensures c.in-Ok-ask_stat.ensures
    (subst (λ path. Came g.F.FileSystem c.ask_stat.new.files c.stored_parts-parts.new.files (stored_parts path c.in-Ok-ask_stat.stat) c.stored_parts-parts.result)
    (c.deref-in-Ok-ask_stat.ensures.value ∙ sym c.deref.ensures.value) c.stored_parts-parts.ensures)
    (rw (c.attributes_of.ensures, c.from-inode.ensures, c.marks_of.ensures) refl)

pub returns-in-Err : goal.returns-in-Err
returns-in-Err g c =
    tell_attributes-stale g.F.FileSystem c.args.files.now c.ask_stat.new.files c.tell_removed.new.files (known_of c.args.memory.now) c.args.node c.args.handle c.deref.result.now c.lstat.result
    c.in-Err.errno c.tell_removed.result
    (leads_from c.args.handle.number [] c.in-Ok.path.items c.deref.result.now c.deref.ensures.value c.in-Ok.ensures.starts c.in-Ok.ensures.goes_on c.in-Ok.ensures.one_name)
    c.lstat.ensures c.in-Err.ensures (sym c.is_stale.ensures ∙ c.if-is_stale.true) c.tell_removed.ensures

pub returns : goal.returns
returns g c =
    tell_attributes-refused g.F.FileSystem c.args.files.now c.ask_stat.new.files (known_of c.args.memory.now) c.args.node c.args.handle c.deref.result.now c.lstat.result
    c.in-Err.errno
    (leads_from c.args.handle.number [] c.in-Ok.path.items c.deref.result.now c.deref.ensures.value c.in-Ok.ensures.starts c.in-Ok.ensures.goes_on c.in-Ok.ensures.one_name)
    c.lstat.ensures c.in-Err.ensures (sym c.is_stale.ensures ∙ c.if-is_stale.false)
