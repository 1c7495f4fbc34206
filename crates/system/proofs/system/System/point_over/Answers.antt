use Rattle.std.proofs.Common.{refl, subst, sym}
use Rattle.inofile.specs.Room.{memory_room}
use Rattle.inofile.specs.declared.inode_file.InodeFile.{InodeFile}
use Rattle.system.specs.Points.{HasRoomToPlan, MayCheckpoint, TurnsTo}
use Rattle.system.specs.Systems.{HasStateBy}
use Rattle.system.proofs.PendingLaws.{made, not_made}
use Rattle.system.proofs.system.System.point_over.Goals as goal

pub returns-in-Ok : goal.returns-in-Ok
returns-in-Ok g c = λ base v.
    let f = c.args.self.now in
    let new = c.finish.new.self in
    let change = c.args.change.now in
    let leads = TurnsTo {G = g.S.Station} change c.args.memory base v f in
    let roomy = HasRoomToPlan {G = g.S.Station} change f (memory_room base c.args.memory v) in
    made c.cuts_open.ensures c.new_roots_hold.ensures c.points_go_on.ensures {G = g.S.Station} _ c.begin_point.new.self new change c.requires.rests c.in-Ok.ensures f.inodes
    (g.met.S.Station.seen_may_be_left f.blocks.buffers.station) (g.met.S.Station.seen_may_be_left new.blocks.buffers.station) (g.met.S.Station.sized new.blocks.buffers.station)
    leads roomy
    (λ table s serves t turns. record {
      step = turns.0;
      base = base;
      volume = v;
      is = record { is = turns.1.is; can = turns.1.can };
      may = subst (λ (i : InodeFile). MayCheckpoint {G = g.S.Station} change f i table base v) (sym c.replace-known.ensures.after) turns.2;
      room = subst (λ (i : InodeFile). HasRoomToPlan {G = g.S.Station} change f (memory_room base i v)) (sym c.replace-known.ensures.after);
      state = turns.3;
    })
    c.finish.result c.finish.ensures

pub returns-in-Err : goal.returns-in-Err
returns-in-Err g c = λ base v.
    let f = c.args.self.now in
    let change = c.args.change.now in
    let leads = TurnsTo {G = g.S.Station} change c.args.memory base v f in
    let roomy = HasRoomToPlan {G = g.S.Station} change f (memory_room base c.args.memory v) in
    not_made c.cuts_open.ensures {G = g.S.Station} _ c.begin_point.new.self change c.in-Err.error c.in-Err.ensures f.inodes leads roomy
    (λ table s serves t turns. record {
      step = turns.0;
      base = base;
      volume = v;
      is = record { is = turns.1.is; can = turns.1.can };
      may = subst (λ (i : InodeFile). MayCheckpoint {G = g.S.Station} change f i table base v) (sym c.replace-known.ensures.after) turns.2;
      room = subst (λ (i : InodeFile). HasRoomToPlan {G = g.S.Station} change f (memory_room base i v)) (sym c.replace-known.ensures.after);
      state = turns.3;
    })
    _ refl refl refl (λ table s serves. subst (λ (i : InodeFile). HasStateBy {G = g.S.Station} i c.begin_point.new.self table s) (sym c.replace-known.ensures.value) serves)
