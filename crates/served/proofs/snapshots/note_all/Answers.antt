use Rattle.std.proofs.Common.{ap, ◌∙◌, refl}
use Rattle.served.specs.Known.{known_of, with_snapshot}
use Rattle.served.proofs.SnapshotLaws.{all_noted, noted_more, some_noted}
use Rattle.served.proofs.snapshots.note_all.Goals as goal

pub loop-name-init : goal.loop-name-init
loop-name-init c = refl

pub returns-in-Err : goal.returns-in-Err
returns-in-Err c =
    some_noted (λ name. name.items) c.args.names.now (known_of c.args.memory.now) c.loop-name.name-index (known_of c.loop-name.memory) (known_of c.note.new.memory) c.loop-name.invariant c.in-Err.ensures.err

pub loop-name-preserved : goal.loop-name-preserved
loop-name-preserved c =
    noted_more (λ name. name.items) c.args.names.now (known_of c.args.memory.now) c.loop-name.name-index c.name-item.result (known_of c.loop-name.memory) (known_of c.note.new.memory) c.loop-name-test.true c.name-item.is
    c.loop-name.invariant (c.in-Ok.ensures.ok ∙ ap (λ name. with_snapshot name (known_of c.loop-name.memory)) c.deref.ensures.value)

pub returns : goal.returns
returns c =
    all_noted (λ name. name.items) c.args.names.now (known_of c.args.memory.now) c.loop-name.name-index (known_of c.loop-name.memory) c.loop-name-test.false c.loop-name.invariant
