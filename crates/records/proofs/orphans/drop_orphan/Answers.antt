use Rattle.std.proofs.Common.{◌≡◌, ◌≤◌, ℕ, None, true, ap, subst, ◌∙◌, sym, refl, arith}
use Rattle.std.specs.Ordering.{nat_cmp}
use Rattle.std.specs.BTreeMap.{get}
use Rattle.model.specs.Volumes.{Volume, is_orphan, with_node}
use Rattle.inofile.specs.Room.{memory_room}
use Rattle.inofile.specs.Volumes.{IsVolumeIn}
use Rattle.inofile.proofs.RoomLaws.{dropped_room}
use Rattle.records.proofs.RoomLaws.{orphan_is}
use Rattle.records.proofs.SweepLaws.{dropped, kept}
use Rattle.records.proofs.orphans.drop_orphan.Goals as goal

pub returns-then-is_orphan-clause-volume : goal.returns-then-is_orphan-clause-volume
returns-then-is_orphan-clause-volume c = λ detail count disk settled v stands.
    let is = sym (c.is_orphan.ensures _ count disk settled v stands) ∙ c.if-is_orphan.true in
    subst (λ (x : Volume). IsVolumeIn detail count disk settled c.commit_set.new.self x) (ap (λ (k : ℕ). with_node k None v) c.get.ensures ∙ dropped c.args.number v is)
    (c.commit_set.ensures.volume count disk settled v _ stands refl)

pub returns-else-is_orphan-clause-volume : goal.returns-else-is_orphan-clause-volume
returns-else-is_orphan-clause-volume c = λ detail count disk settled v stands.
    let is = sym (c.is_orphan.ensures _ count disk settled v stands) ∙ c.if-is_orphan.false in
    subst (λ (x : Volume). IsVolumeIn detail count disk settled c.args.inodes.now x) (kept c.args.number v is) stands

pub returns-then-is_orphan-clause-room : goal.returns-then-is_orphan-clause-room
returns-then-is_orphan-clause-room c = λ detail base count disk settled v stands.
    let s = c.args.inodes.now in
    let n = c.get.result in
    let is = sym (c.is_orphan.ensures _ count disk settled v stands) ∙ c.if-is_orphan.true in
    let four = orphan_is (v n) (subst (λ (k : ℕ). is_orphan (v k) ≡ true) (sym c.get.ensures) is) in
    let sums = c.commit_set.ensures.room s base v None refl (λ k ne. refl) in
    subst (λ (x : Volume). memory_room base c.commit_set.new.self x ≤ memory_room base s v) (ap (λ (k : ℕ). with_node k None v) c.get.ensures ∙ dropped c.args.number v is)
    (omega (arith, sums, dropped_room (get nat_cmp s.slots n) (base n) (v n) four))

pub returns-else-is_orphan-clause-room : goal.returns-else-is_orphan-clause-room
returns-else-is_orphan-clause-room c = λ detail base count disk settled v stands.
    let s = c.args.inodes.now in
    let is = sym (c.is_orphan.ensures _ count disk settled v stands) ∙ c.if-is_orphan.false in
    subst (λ (x : Volume). memory_room base s x ≤ memory_room base s v) (kept c.args.number v is) (omega arith)
