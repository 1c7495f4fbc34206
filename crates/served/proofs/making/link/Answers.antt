use Rattle.std.proofs.Common.{sym, ◌∙◌}
use Rattle.model.specs.declared.errno.Errno.TheVariants as errno
use Rattle.served.specs.Known.{known_of}
use Rattle.served.specs.Looking.{is_snapshots}
use Rattle.served.specs.Making as spec
use Rattle.served.specs.Setting.{Told, refused}
use Rattle.served.specs.declared.answer.Answer.TheVariants as answer
use Rattle.served.proofs.TurnLaws.{came_gives, came_then_if}
use Rattle.served.proofs.making.link.Goals as goal

pub returns-then-is_snapshots : goal.returns-then-is_snapshots
returns-then-is_snapshots g c =
    let a = c.args in
    let k = known_of a.memory.now in
    let told : Told = (answer.Refused errno.EEXIST, k) in
    came_then_if g.F.FileSystem a.files.now a.files.now {R = Told} (is_snapshots a.parent a.name.now) (refused k errno.EEXIST) (spec.link_named k a.asker a.file a.parent a.name.now) told
    (sym c.is_snapshots.ensures ∙ c.if-is_snapshots.true) (came_gives g.F.FileSystem a.files.now {R = Told} told)
