use Rattle.std.proofs.Common.{ℕ, false, sym, subst, ◌∙◌, ◌<◌, ◌≤◌, arith}
use Rattle.model.specs.Volumes.{Volume, swept_node, with_node}
use Rattle.inofile.specs.Room.{memory_room}
use Rattle.inofile.specs.Volumes.{IsVolumeOf}
use Rattle.records.specs.Steps.{IsAtHand}
use Rattle.descriptors.specs.Files.{figures_of}
use Rattle.descriptors.specs.Tables.{table_of}
use Rattle.files.proofs.CloseLaws.{drops, named_stays, open_stays}
use Rattle.files.proofs.closing.drop_unused.Goals.{else-file-eq0-via-then-file-eq0+else-not-is_open, else-file-eq0-via-else-file-eq0}
use Rattle.files.proofs.closing.drop_unused.Goals as goal

pub drop_orphan-requires : goal.drop_orphan-requires
drop_orphan-requires c = subst (λ (n : ℕ). IsAtHand c.args.inodes.now n) (sym c.new.ensures) (c.requires c.if-file-eq0.true)

pub returns-then-not-is_open-clause-volume : goal.returns-then-not-is_open-clause-volume
returns-then-not-is_open-clause-volume c = λ count disk settled v stands is.
    let closed = sym c.is_open.ensures ∙ c.if-not-is_open.true in
    subst (λ (w : Volume). IsVolumeOf count disk settled c.drop_orphan.new.inodes w) (drops (table_of c.args.table.now) c.args.file.now.number v closed)
    (subst (λ (n : ℕ). IsVolumeOf count disk settled c.drop_orphan.new.inodes (with_node n (swept_node false (v n)) v)) c.new.ensures (c.drop_orphan.ensures.volume _ count disk settled v stands))

pub returns-then-not-is_open-clause-room : goal.returns-then-not-is_open-clause-room
returns-then-not-is_open-clause-room c = λ base count disk settled v stands is.
    let closed = sym c.is_open.ensures ∙ c.if-not-is_open.true in
    subst (λ (w : Volume). memory_room base c.drop_orphan.new.inodes w ≤ memory_room base c.args.inodes.now v) (drops (table_of c.args.table.now) c.args.file.now.number v closed)
    (subst (λ (n : ℕ). memory_room base c.drop_orphan.new.inodes (with_node n (swept_node false (v n)) v) ≤ memory_room base c.args.inodes.now v) c.new.ensures
    (c.drop_orphan.ensures.room _ base count disk settled v stands))

pub returns-else-file-eq0-clause-volume : goal.returns-else-file-eq0-clause-volume
returns-else-file-eq0-clause-volume c = λ count disk settled v stands is.
    subst (λ (w : Volume). IsVolumeOf count disk settled c.args.inodes.now w)
    (elim c.else-file-eq0.branch [
      | else-file-eq0-via-then-file-eq0+else-not-is_open w ↦ open_stays (table_of c.args.table.now) c.args.file.now.number v (sym w.is_open.ensures ∙ w.if-not-is_open.false)
      | else-file-eq0-via-else-file-eq0 w ↦
          let some : 0 < c.args.file.now.links = omega arith in
          named_stays (table_of c.args.table.now) c.args.file.now.number v (figures_of c.args.file.now) is some
    ])
    stands

pub returns-else-file-eq0-clause-room : goal.returns-else-file-eq0-clause-room
returns-else-file-eq0-clause-room c = λ base count disk settled v stands is.
    subst (λ (w : Volume). memory_room base c.args.inodes.now w ≤ memory_room base c.args.inodes.now v)
    (elim c.else-file-eq0.branch [
      | else-file-eq0-via-then-file-eq0+else-not-is_open w ↦ open_stays (table_of c.args.table.now) c.args.file.now.number v (sym w.is_open.ensures ∙ w.if-not-is_open.false)
      | else-file-eq0-via-else-file-eq0 w ↦
          let some : 0 < c.args.file.now.links = omega arith in
          named_stays (table_of c.args.table.now) c.args.file.now.number v (figures_of c.args.file.now) is some
    ])
    (omega arith)
