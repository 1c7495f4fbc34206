use Rattle.std.proofs.Common.{Ok, Err}
use Rattle.model.specs.declared.reply.Reply.TheVariants as reply
use Rattle.served.specs.Commands.{lstat}
use Rattle.served.specs.Known.{known_of}
use Rattle.served.proofs.TurnLaws.{came_by}
use Rattle.served.proofs.MakingLaws.{came_tell_linked, came_linked_unseen}
use Rattle.served.proofs.making.tell_linked.Goals as goal

pub returns-in-Ok : goal.returns-in-Ok
returns-in-Ok g c =
    let asked = came_by g.F.FileSystem c.args.files.now c.ask_stat.new.files reply.Stat (lstat c.args.old.now) c.lstat.result (Ok c.in-Ok.stat) c.lstat.ensures c.in-Ok.ensures in
    came_tell_linked g.F.FileSystem c.args.files.now c.ask_stat.new.files c.tell_entry.new.files (known_of c.args.memory.now) (known_of c.mark_changed.new.memory) (known_of c.touch_directory.new.memory) c.args.asker c.args.file c.args.parent c.handle_of-directory.result c.args.old.now c.in-Ok.stat c.tell_entry.result
    c.handle_of-directory.ensures c.mark_changed.ensures c.touch_directory.ensures asked c.tell_entry.ensures

pub returns-in-Err : goal.returns-in-Err
returns-in-Err g c =
    let asked = came_by g.F.FileSystem c.args.files.now c.ask_stat.new.files reply.Stat (lstat c.args.old.now) c.lstat.result (Err c.in-Err.errno) c.lstat.ensures c.in-Err.ensures in
    came_linked_unseen g.F.FileSystem c.args.files.now c.ask_stat.new.files (known_of c.args.memory.now) (known_of c.mark_changed.new.memory) (known_of c.touch_directory.new.memory) c.args.asker c.args.file c.args.parent c.handle_of-directory.result c.args.old.now c.in-Err.errno
    c.handle_of-directory.ensures c.mark_changed.ensures c.touch_directory.ensures asked
