use Rattle.std.proofs.Common.{rules, ℕ, ◌≡◌, ◌≤◌, ◌∙◌, false, sym, subst, arith}
use Rattle.model.specs.Volumes.{Volume, is_orphan, swept_node, with_node}
use Rattle.inofile.specs.Room.{memory_room}
use Rattle.inofile.specs.Volumes.{IsVolumeIn}
use Rattle.inofile.proofs.RoomLaws.{needs_room}
use Rattle.records.proofs.SweepLaws.{kept}
use Rattle.replay.proofs.Errors.{passed, undamaged}
use Rattle.replay.proofs.orphans.drop_if_orphan.Goals as goal

pub returns-in_err-is_one-clause-drops : goal.returns-in_err-is_one-clause-drops
returns-in_err-is_one-clause-drops g c detail disk settled v shows stands =
    passed _ c.from_residual.result c.in_err-is_one.field-0.0 (search rules) (c.in_err-is_one.ensures.tells detail disk settled v shows stands)

pub returns-then-not-is_one-clause-drops : goal.returns-then-not-is_one-clause-drops
returns-then-not-is_one-clause-drops g c detail disk settled v shows stands =
    let is : is_orphan (v c.args.number) ≡ false = sym (c.in_ok-is_one.ensures.tells detail disk settled v shows stands) ∙ c.if-not-is_one.true in
    subst (λ (w : Volume). IsVolumeIn detail (g.B.Blocks.count c.args.blocks.now) disk settled c.args.inodes.now w) (kept c.args.number v is) stands

pub returns-then-not-is_one-clause-room : goal.returns-then-not-is_one-clause-room
returns-then-not-is_one-clause-room g c detail base disk settled v shows stands =
    let s = c.args.inodes.now in
    let is : is_orphan (v c.args.number) ≡ false = sym (c.in_ok-is_one.ensures.tells detail disk settled v shows stands) ∙ c.if-not-is_one.true in
    subst (λ (w : Volume). memory_room base s w ≤ memory_room base s v) (kept c.args.number v is) (omega arith)

pub returns-in_err-load-clause-drops : goal.returns-in_err-load-clause-drops
returns-in_err-load-clause-drops g c detail disk settled v shows stands =
    let read = c.in_ok-is_one.ensures.reads in
    undamaged _ c.from_residual-in_err-load.result (search rules) (λ is. c.in_err-load.ensures.damaged detail disk settled (read.same disk shows) (search rules)
    (subst (λ (n : ℕ). IsVolumeIn detail n disk settled c.args.inodes.now v) (sym read.count) stands).inodes)

pub drop_orphan-requires : goal.drop_orphan-requires
drop_orphan-requires g c = record { low = search rules; high = search rules; room = search rules; known = search rules }

pub returns-clause-drops : goal.returns-clause-drops
returns-clause-drops g c detail disk settled v shows stands =
    let read = c.in_ok-is_one.ensures.reads in
    let count = g.B.Blocks.count c.has_orphan.new.blocks in
    let loaded = c.in_ok-load.ensures.volume detail disk settled v (read.same disk shows) (subst (λ (n : ℕ). IsVolumeIn detail n disk settled c.args.inodes.now v) (sym read.count) stands) in
    subst (λ (n : ℕ). IsVolumeIn detail n disk settled c.drop_orphan.new.inodes (with_node c.args.number (swept_node false (v c.args.number)) v)) read.count
    (subst (λ (k : ℕ). IsVolumeIn detail count disk settled c.drop_orphan.new.inodes (with_node k (swept_node false (v k)) v)) c.new.ensures
    (c.drop_orphan.ensures.volume detail count disk settled v (c.in_ok-prepare_set.ensures.volume detail count disk settled v loaded)))

pub returns-clause-room : goal.returns-clause-room
returns-clause-room g c detail base disk settled v shows stands =
    let read = c.in_ok-is_one.ensures.reads in
    let count = g.B.Blocks.count c.has_orphan.new.blocks in
    let s = c.args.inodes.now in
    let t = c.prepare_set.new.self in
    let loaded = c.in_ok-load.ensures.volume detail disk settled v (read.same disk shows) (subst (λ (n : ℕ). IsVolumeIn detail n disk settled s v) (sym read.count) stands) in
    let first = needs_room base v s c.load.new.self c.load.ensures.geometry c.load.ensures.needs in
    let then = needs_room base v c.load.new.self t c.prepare_set.ensures.geometry c.prepare_set.ensures.needs in
    let last = subst (λ (k : ℕ). memory_room base c.drop_orphan.new.inodes (with_node k (swept_node false (v k)) v) ≤ memory_room base t v) c.new.ensures
    (c.drop_orphan.ensures.room detail base count disk settled v (c.in_ok-prepare_set.ensures.volume detail count disk settled v loaded)) in
    omega (arith, first, then, last)
