use Rattle.std.proofs.Common.{Some, arith}
use Rattle.model.specs.Records.{edited}
use Rattle.records.proofs.RoomLaws.{room_behind}
use Rattle.records.proofs.StandLaws.{some_stays_at_hand, stays_at_hand}
use Rattle.records.proofs.StepLaws.{steps_behind, takes_behind}
use Rattle.records.proofs.plans.commit_plan.Goals as goal

pub commit_some-requires : goal.commit_some-requires
commit_some-requires c = takes_behind (Some c.args.plan.first) c.args.plan.next c.commit_update.ensures c.requires.next_apart c.requires.next

pub commit_some-requires-2 : goal.commit_some-requires-2
commit_some-requires-2 c =
    let p = c.args.plan in
    takes_behind p.next p.last c.commit_some.ensures c.requires.apart (takes_behind (Some p.first) p.last c.commit_update.ensures c.requires.last_apart c.requires.last)

pub returns-clause-volume : goal.returns-clause-volume
returns-clause-volume c = λ detail count disk settled v edit volume does.
    let first = c.commit_update.ensures in
    let next = c.commit_some.ensures in
    let p = c.args.plan in
    let w = edited edit v in
    c.commit_some-2.ensures.volume count disk settled does.second w
    (next.volume count disk settled does.between does.second (first.volume count disk settled v does.between volume does.first)
    (steps_behind detail disk settled does.between does.second (Some p.first) p.next first does.next_beside does.next))
    (steps_behind detail disk settled does.second w p.next p.last next does.beside (steps_behind detail disk settled does.second w (Some p.first) p.last first does.last_beside does.last))

pub returns-clause-at_hand : goal.returns-clause-at_hand
returns-clause-at_hand c =
    let p = c.args.plan in
    let t = c.commit_update.new.inodes in
    let u = c.commit_some.new.inodes in
    let new = c.commit_some-2.new.inodes in
    let next = c.commit_some.ensures in
    let last = c.commit_some-2.ensures in
    record {
      first = stays_at_hand u new last.geometry last.keeps last.stays p.first.number (stays_at_hand t u next.geometry next.keeps next.stays p.first.number c.commit_update.ensures.at_hand);
      next = some_stays_at_hand u new last.geometry last.keeps last.stays p.next next.at_hand;
      last = last.at_hand;
    }

pub returns-clause-room : goal.returns-clause-room
returns-clause-room c = λ detail base count disk settled v edit volume does.
    let first = c.commit_update.ensures in
    let next = c.commit_some.ensures in
    let p = c.args.plan in
    let w = edited edit v in
    let then = first.volume count disk settled v does.between volume does.first in
    let on = steps_behind detail disk settled does.between does.second (Some p.first) p.next first does.next_beside does.next in
    let one = first.room base count disk settled v does.between does.firsts volume does.first does.first_room in
    let two = next.room base count disk settled does.between does.second does.nexts then on (room_behind (Some p.first) p.next does.nexts first does.next_beside does.next_room) in
    let three = c.commit_some-2.ensures.room base count disk settled does.second w does.lasts (next.volume count disk settled does.between does.second then on)
    (steps_behind detail disk settled does.second w p.next p.last next does.beside (steps_behind detail disk settled does.second w (Some p.first) p.last first does.last_beside does.last))
    (room_behind p.next p.last does.lasts next does.beside (room_behind (Some p.first) p.last does.lasts first does.last_beside does.last_room)) in
    omega (arith, one, two, three, does.within)

pub returns-clause-stays : goal.returns-clause-stays
returns-clause-stays c n is = c.commit_some-2.ensures.stays n (c.commit_some.ensures.stays n (c.commit_update.ensures.stays n is))

pub returns-clause-keeps : goal.returns-clause-keeps
returns-clause-keeps c n is = c.commit_some-2.ensures.keeps n (c.commit_some.ensures.keeps n (c.commit_update.ensures.keeps n is))
