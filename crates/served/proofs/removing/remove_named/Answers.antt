use Rattle.std.proofs.Common.{ℕ, List, Result, Ok, Err}
use Rattle.model.specs.declared.errno.Errno.{Errno}
use Rattle.model.specs.declared.reply.Reply.TheVariants as reply
use Rattle.model.specs.declared.reply.Stat.{Stat}
use Rattle.served.specs.Commands.{lstat}
use Rattle.served.specs.Known.{known_of}
use Rattle.served.specs.Removing as spec
use Rattle.served.specs.Setting.{Told}
use Rattle.served.specs.Turns.{asks}
use Rattle.served.proofs.TurnLaws.{came_path}
use Rattle.served.proofs.RemovingLaws.{came_remove, came_remove_unseen, came_remove_nowhere}
use Rattle.served.proofs.removing.remove_named.Goals as goal

pub returns-in_default : goal.returns-in_default
returns-in_default g c =
    came_remove_nowhere g.F.FileSystem c.args.files.now (known_of c.args.memory.now) c.args.asker c.args.parent c.args.name.now c.args.is_directory

pub returns-in-Ok-look_at : goal.returns-in-Ok-look_at
returns-in-Ok-look_at g c =
    let looked = came_path g.F.FileSystem c.args.files.now c.look_at.new.files {R = Result Stat Errno} (λ (p : List ℕ). asks reply.Stat (lstat p)) c.deref.result.now c.in-Ok.path.items (Ok c.in-Ok-look_at.stat) c.deref.ensures.value c.in-Ok-look_at.ensures in
    let told : Told = (c.remove_seen.result, known_of c.remove_seen.new.memory) in
    came_remove g.F.FileSystem c.args.files.now c.look_at.new.files c.remove_seen.new.files (known_of c.args.memory.now) c.args.asker c.args.parent c.args.name.now c.in-Ok.path.items c.args.is_directory c.in-Ok-look_at.stat told (record { starts = c.in-Ok.ensures.starts; goes_on = c.in-Ok.ensures.goes_on; one_name = c.in-Ok.ensures.one_name }) looked
    (came_path g.F.FileSystem c.look_at.new.files c.remove_seen.new.files {R = Told} (λ (p : List ℕ). spec.remove_seen (known_of c.args.memory.now) c.args.asker c.args.parent p c.args.is_directory c.in-Ok-look_at.stat) c.deref-in-Ok-look_at.result.now c.in-Ok.path.items told c.deref-in-Ok-look_at.ensures.value c.remove_seen.ensures)

pub returns : goal.returns
returns g c =
    let looked = came_path g.F.FileSystem c.args.files.now c.look_at.new.files {R = Result Stat Errno} (λ (p : List ℕ). asks reply.Stat (lstat p)) c.deref.result.now c.in-Ok.path.items (Err c.in-Err.errno) c.deref.ensures.value c.in-Err.ensures in
    came_remove_unseen g.F.FileSystem c.args.files.now c.look_at.new.files (known_of c.args.memory.now) c.args.asker c.args.parent c.args.name.now c.in-Ok.path.items c.args.is_directory c.in-Err.errno (record { starts = c.in-Ok.ensures.starts; goes_on = c.in-Ok.ensures.goes_on; one_name = c.in-Ok.ensures.one_name }) looked
