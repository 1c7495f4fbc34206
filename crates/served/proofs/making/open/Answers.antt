use Rattle.std.proofs.Common.{Ok, Err, false, sym, ◌∙◌}
use Rattle.std.proofs.Math.Path.{ap₂}
use Rattle.model.specs.declared.command.Command.TheVariants as command
use Rattle.model.specs.declared.limits.TheConstants.{OPEN_FILES}
use Rattle.model.specs.declared.reply.Reply.TheVariants as reply
use Rattle.served.specs.Commands.{opening}
use Rattle.served.specs.Known.{known_of}
use Rattle.served.proofs.TurnLaws.{came_by}
use Rattle.served.proofs.MakingLaws.{came_opened, came_open_stale, came_unopened, came_open_nowhere}
use Rattle.served.proofs.making.«open».Goals as goal

pub returns-in_default : goal.returns-in_default
returns-in_default g c = came_open_nowhere g.F.FileSystem (known_of c.args.memory.now) c.args.node c.args.number c.args.files.now

pub returns-in-Ok-ask_descriptor : goal.returns-in-Ok-ask_descriptor
returns-in-Ok-ask_descriptor g c =
    let asked = came_by g.F.FileSystem c.args.files.now c.ask_descriptor.new.files reply.Fd (command.Open c.in-Ok.path.items (opening false false) 0 OPEN_FILES) c.open.result (Ok c.in-Ok-ask_descriptor.fd)
    (c.open.ensures ∙ ap₂ (λ p m. command.Open p (opening false false) m OPEN_FILES) c.deref.ensures.value c.mode_of.ensures) c.in-Ok-ask_descriptor.ensures in
    came_opened g.F.FileSystem (known_of c.args.memory.now) c.args.node c.args.number c.args.files.now c.ask_descriptor.new.files c.in-Ok.path.items c.in-Ok-ask_descriptor.fd c.opened.result
    (record { starts = c.in-Ok.ensures.starts; goes_on = c.in-Ok.ensures.goes_on; one_name = c.in-Ok.ensures.one_name }) asked c.opened.ensures

pub returns-in-Err : goal.returns-in-Err
returns-in-Err g c =
    let asked = came_by g.F.FileSystem c.args.files.now c.ask_descriptor.new.files reply.Fd (command.Open c.in-Ok.path.items (opening false false) 0 OPEN_FILES) c.open.result (Err c.in-Err.errno)
    (c.open.ensures ∙ ap₂ (λ p m. command.Open p (opening false false) m OPEN_FILES) c.deref.ensures.value c.mode_of.ensures) c.in-Err.ensures in
    came_open_stale g.F.FileSystem (known_of c.args.memory.now) c.args.node c.args.number c.args.files.now c.ask_descriptor.new.files c.in-Ok.path.items c.in-Err.errno (c.open_removed.result, known_of c.open_removed.new.memory)
    (record { starts = c.in-Ok.ensures.starts; goes_on = c.in-Ok.ensures.goes_on; one_name = c.in-Ok.ensures.one_name }) asked (sym c.is_stale.ensures ∙ c.if-is_stale.true) c.open_removed.ensures

pub returns : goal.returns
returns g c =
    let asked = came_by g.F.FileSystem c.args.files.now c.ask_descriptor.new.files reply.Fd (command.Open c.in-Ok.path.items (opening false false) 0 OPEN_FILES) c.open.result (Err c.in-Err.errno)
    (c.open.ensures ∙ ap₂ (λ p m. command.Open p (opening false false) m OPEN_FILES) c.deref.ensures.value c.mode_of.ensures) c.in-Err.ensures in
    came_unopened g.F.FileSystem (known_of c.args.memory.now) c.args.node c.args.number c.args.files.now c.ask_descriptor.new.files c.in-Ok.path.items c.in-Err.errno
    (record { starts = c.in-Ok.ensures.starts; goes_on = c.in-Ok.ensures.goes_on; one_name = c.in-Ok.ensures.one_name }) asked (sym c.is_stale.ensures ∙ c.if-is_stale.false)
