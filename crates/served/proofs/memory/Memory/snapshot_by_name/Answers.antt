use Rattle.std.proofs.Common.{◌≢◌, List, subst, sym, ◌∙◌, map}
use Rattle.std.specs.List.{Contains}
use Rattle.std.proofs.lemmas.Bool.{false≢true}
use Rattle.std.specs.Cmp.Lexicographic.{bytes_decides}
use Rattle.served.specs.Known.{Seen, seen_of}
use Rattle.served.specs.declared.memory.Snapshot.{Snapshot}
use Rattle.served.proofs.MemoryLaws.{Contains-mapped, none_left, one_more}
use Rattle.served.proofs.memory.Memory.snapshot_by_name.Goals as goal

pub returns-then-eq : goal.returns-then-eq
returns-then-eq c = (
  subst (λ (xs : List Snapshot). Contains (map seen_of xs) (seen_of c.snapshot-item.result)) c.deref-snapshot-items.ensures.value
      (Contains-mapped seen_of c.deref-snapshot-items.result.now c.loop-snapshot.snapshot-index c.snapshot-item.result c.loop-snapshot-test.true c.snapshot-item.is),
  sym c.as_slice.ensures.value ∙ (bytes_decides c.as_slice.result.now c.args.name.now).0 (sym c.eq.ensures ∙ c.if-eq.true),
)

pub loop-snapshot-preserved : goal.loop-snapshot-preserved
loop-snapshot-preserved c =
    one_more seen_of (λ (s : Seen). s.name ≢ c.args.name.now) c.deref-snapshot-items.result.now c.loop-snapshot.snapshot-index c.snapshot-item.result c.loop-snapshot-test.true c.snapshot-item.is
    (λ is. false≢true (sym c.if-eq.false ∙ (c.eq.ensures ∙ (bytes_decides c.as_slice.result.now c.args.name.now).1 (c.as_slice.ensures.value ∙ is)))) c.loop-snapshot.invariant

pub returns : goal.returns
returns c =
    none_left seen_of (λ (s : Seen). s.name ≢ c.args.name.now) c.deref-snapshot-items.result.now c.args.self.now.snapshots.items c.loop-snapshot.snapshot-index c.deref-snapshot-items.ensures.value
    c.loop-snapshot-test.false c.loop-snapshot.invariant
