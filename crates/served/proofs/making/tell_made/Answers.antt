use Rattle.std.proofs.Common.{Ok, Err, ap, ◌∙◌}
use Rattle.model.specs.declared.reply.Reply.TheVariants as reply
use Rattle.served.specs.Commands.{lstat}
use Rattle.served.specs.Known.{known_of}
use Rattle.served.specs.Making as spec
use Rattle.served.proofs.TurnLaws.{came_by}
use Rattle.served.proofs.MakingLaws.{came_tell_made, came_made_unseen}
use Rattle.served.proofs.making.tell_made.Goals as goal

pub returns-in-Ok : goal.returns-in-Ok
returns-in-Ok g c =
    let asked = came_by g.F.FileSystem c.args.files.now c.ask_stat.new.files reply.Stat (lstat c.args.new.now.path.items) c.lstat.result (Ok c.in-Ok.stat) (c.lstat.ensures ∙ ap (λ p. lstat p) c.deref.ensures.value) c.in-Ok.ensures in
    came_tell_made g.F.FileSystem c.args.files.now c.ask_stat.new.files (known_of c.args.memory.now) c.args.asker (spec.place_of c.args.new.now) c.in-Ok.stat c.made.result (known_of c.made.new.memory) asked c.made.ensures

pub returns-in-Err : goal.returns-in-Err
returns-in-Err g c =
    let asked = came_by g.F.FileSystem c.args.files.now c.ask_stat.new.files reply.Stat (lstat c.args.new.now.path.items) c.lstat.result (Err c.in-Err.errno) (c.lstat.ensures ∙ ap (λ p. lstat p) c.deref.ensures.value) c.in-Err.ensures in
    came_made_unseen g.F.FileSystem c.args.files.now c.ask_stat.new.files (known_of c.args.memory.now) c.args.asker (spec.place_of c.args.new.now) c.in-Err.errno asked
