use Rattle.std.proofs.Common.{[], to_z-of_z, ap, sym, ◌∙◌}
use Rattle.model.specs.declared.command.Command.TheVariants as command
use Rattle.served.specs.Known.{known_of}
use Rattle.served.proofs.LookingLaws.{near, far, seek-far, seek-nowhere, seek-told, seek-stale, seek-refused}
use Rattle.served.proofs.TurnLaws.{leads_from}
use Rattle.served.proofs.looking.seek.Goals as goal

pub returns-in_default : goal.returns-in_default
returns-in_default g c = seek-far g.F.FileSystem (known_of c.args.memory.now) c.args.node c.args.number c.args.offset c.args.whence c.args.files.now (far c.args.offset c.in_default.ensures)

pub returns-in_default-path_from : goal.returns-in_default-path_from
returns-in_default-path_from g c = seek-nowhere g.F.FileSystem (known_of c.args.memory.now) c.args.node c.args.number c.args.offset c.args.whence c.args.files.now (near c.args.offset c.in-Ok.ensures.0)

pub returns-in-Ok-ask_extent : goal.returns-in-Ok-ask_extent
returns-in-Ok-ask_extent g c =
    seek-told g.F.FileSystem (known_of c.args.memory.now) c.args.node c.args.number c.args.offset c.args.whence c.args.files.now c.ask_extent.new.files c.deref.result.now c.extent.result c.in-Ok-ask_extent.extent c.found.result
    (near c.args.offset c.in-Ok.ensures.0) (leads_from c.args.number [] c.in-Ok-path_from.path.items c.deref.result.now c.deref.ensures.value c.in-Ok-path_from.ensures.starts c.in-Ok-path_from.ensures.goes_on c.in-Ok-path_from.ensures.one_name) (rw c.in-Ok.ensures.1 at c.extent.ensures ∙ ap (command.Extent c.deref.result.now) (to_z-of_z c.in-Ok.ensures.0)) c.in-Ok-ask_extent.ensures c.found.ensures

pub returns-in-Err : goal.returns-in-Err
returns-in-Err g c =
    seek-stale g.F.FileSystem (known_of c.args.memory.now) c.args.node c.args.number c.args.offset c.args.whence c.args.files.now c.ask_extent.new.files c.seek_removed.new.files c.deref.result.now c.extent.result c.in-Err.errno
    c.seek_removed.result (near c.args.offset c.in-Ok.ensures.0) (leads_from c.args.number [] c.in-Ok-path_from.path.items c.deref.result.now c.deref.ensures.value c.in-Ok-path_from.ensures.starts c.in-Ok-path_from.ensures.goes_on c.in-Ok-path_from.ensures.one_name) (rw c.in-Ok.ensures.1 at c.extent.ensures ∙ ap (command.Extent c.deref.result.now) (to_z-of_z c.in-Ok.ensures.0)) c.in-Err.ensures (sym c.is_stale.ensures ∙ c.if-is_stale.true) c.seek_removed.ensures

pub returns : goal.returns
returns g c =
    seek-refused g.F.FileSystem (known_of c.args.memory.now) c.args.node c.args.number c.args.offset c.args.whence c.args.files.now c.ask_extent.new.files c.deref.result.now c.extent.result c.in-Err.errno
    (near c.args.offset c.in-Ok.ensures.0) (leads_from c.args.number [] c.in-Ok-path_from.path.items c.deref.result.now c.deref.ensures.value c.in-Ok-path_from.ensures.starts c.in-Ok-path_from.ensures.goes_on c.in-Ok-path_from.ensures.one_name) (rw c.in-Ok.ensures.1 at c.extent.ensures ∙ ap (command.Extent c.deref.result.now) (to_z-of_z c.in-Ok.ensures.0)) c.in-Err.ensures (sym c.is_stale.ensures ∙ c.if-is_stale.false)
