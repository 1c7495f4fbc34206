use Rattle.std.proofs.Common.{Ok, Err, ap, ◌∙◌}
use Rattle.model.specs.declared.reply.Reply.TheVariants as reply
use Rattle.served.specs.Commands.{lstat}
use Rattle.served.specs.Known.{known_of}
use Rattle.served.specs.Making as spec
use Rattle.served.specs.Making.{Place}
use Rattle.served.proofs.TurnLaws.{came_by}
use Rattle.served.proofs.MakingLaws.{came_prepared, came_unseen, came_no_directory}
use Rattle.served.proofs.making.prepare_at.Goals as goal

pub returns-in_default : goal.returns-in_default
returns-in_default g c =
    came_no_directory g.F.FileSystem c.args.files.now (known_of c.args.memory.now) c.args.asker c.args.parent c.args.path.items

pub returns-in-Ok-ask_stat : goal.returns-in-Ok-ask_stat
returns-in-Ok-ask_stat g c =
    let asked = came_by g.F.FileSystem c.args.files.now c.ask_stat.new.files reply.Stat (lstat c.in-Ok.directory.items) c.lstat.result (Ok c.in-Ok-ask_stat.stat) (c.lstat.ensures ∙ ap (λ p. lstat p) c.deref.ensures.value) c.in-Ok-ask_stat.ensures in
    came_prepared g.F.FileSystem c.args.files.now c.ask_stat.new.files (known_of c.args.memory.now) c.args.asker c.args.parent c.args.path.items c.in-Ok.directory.items c.in-Ok-ask_stat.stat c.handle_of-parent.result (Ok (spec.place_of c.place_in.result))
    (record { starts = c.in-Ok.ensures.starts; goes_on = c.in-Ok.ensures.goes_on; one_name = c.in-Ok.ensures.one_name }) asked c.handle_of-parent.ensures (ap (λ (p : Place). (Ok p)) c.place_in.ensures)

pub returns-in-Err : goal.returns-in-Err
returns-in-Err g c =
    let asked = came_by g.F.FileSystem c.args.files.now c.ask_stat.new.files reply.Stat (lstat c.in-Ok.directory.items) c.lstat.result (Err c.in-Err.errno) (c.lstat.ensures ∙ ap (λ p. lstat p) c.deref.ensures.value) c.in-Err.ensures in
    came_unseen g.F.FileSystem c.args.files.now c.ask_stat.new.files (known_of c.args.memory.now) c.args.asker c.args.parent c.args.path.items c.in-Ok.directory.items c.in-Err.errno
    (record { starts = c.in-Ok.ensures.starts; goes_on = c.in-Ok.ensures.goes_on; one_name = c.in-Ok.ensures.one_name }) asked
