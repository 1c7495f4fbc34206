use Rattle.std.proofs.Common.{◌≢◌, List, subst, map}
use Rattle.std.specs.List.{Contains}
use Rattle.served.specs.Known.{Seen, seen_of}
use Rattle.served.specs.declared.memory.Snapshot.{Snapshot}
use Rattle.served.proofs.MemoryLaws.{Contains-mapped, none_left, one_more}
use Rattle.served.proofs.memory.Memory.snapshot_by_id.Goals as goal

pub returns-then-snapshot-id : goal.returns-then-snapshot-id
returns-then-snapshot-id c = (
  subst (λ (xs : List Snapshot). Contains (map seen_of xs) (seen_of c.snapshot-item.result)) c.deref-snapshot-items.ensures.value
      (Contains-mapped seen_of c.deref-snapshot-items.result.now c.loop-snapshot.snapshot-index c.snapshot-item.result c.loop-snapshot-test.true c.snapshot-item.is),
  c.if-snapshot-id.true,
)

pub loop-snapshot-preserved : goal.loop-snapshot-preserved
loop-snapshot-preserved c =
    one_more seen_of (λ (s : Seen). s.id ≢ c.args.id) c.deref-snapshot-items.result.now c.loop-snapshot.snapshot-index c.snapshot-item.result c.loop-snapshot-test.true c.snapshot-item.is
    c.if-snapshot-id.false c.loop-snapshot.invariant

pub returns : goal.returns
returns c =
    none_left seen_of (λ (s : Seen). s.id ≢ c.args.id) c.deref-snapshot-items.result.now c.args.self.now.snapshots.items c.loop-snapshot.snapshot-index c.deref-snapshot-items.ensures.value
    c.loop-snapshot-test.false c.loop-snapshot.invariant
