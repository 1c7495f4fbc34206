use Rattle.std.proofs.Common.{◌≡◌, ◌∙◌, ◌<◌, suc, length, refl, rules, arith, sym}
use Rattle.std.specs.Prelude.{slice_index_or}
use Rattle.std.proofs.lemmas.List.{get_or_read}
use Rattle.layout.specs.declared.pointer.Pointer.TheVariants.{Hole}
use Rattle.images.specs.Roots.{slot}
use Rattle.loading.proofs.SnapshotLaws.{apart, are_snapshots, at_slot, snapshot_whole}
use Rattle.buffers.proofs.ReadLaws.{only_more, only_ok, reads_err, reads_more}
use Rattle.loading.proofs.snapshots.check_snapshots.Goals as goal

pub returns-in_err-check_snapshot-clause-damaged : goal.returns-in_err-check_snapshot-clause-damaged
returns-in_err-check_snapshot-clause-damaged g c disk shows damaged are =
    let r = c.args.root.now in
    let within : c.loop-k.k < length r.snapshots = omega (arith, c.requires.root.slots, c.loop-k-test.true) in
    let there : slot r (suc c.loop-k.k) ≡ c.index-root-k.result = sym (get_or_read r.snapshots c.loop-k.k c.index-root-k.result within c.index-root-k.is Hole) in
    c.in_err-check_snapshot.ensures.damaged disk (c.loop-k.invariant.read.same disk shows) (search rules) (at_slot disk r c.loop-k.k (slice_index_or r.snapshots c.loop-k.k c.index-root-k.result) are (there ∙ c.index-root-k.is))

pub returns-in_err-check_apart-clause-damaged : goal.returns-in_err-check_apart-clause-damaged
returns-in_err-check_apart-clause-damaged g c disk shows damaged are =
    let r = c.args.root.now in
    c.in_err-check_apart.ensures.damaged disk (c.in_ok-check_snapshot.ensures.reads.same disk (c.loop-k.invariant.read.same disk shows)) (search rules)
    (λ l lt. snapshot_whole r.geometry r.generation disk (slice_index_or r.snapshots l Hole) (at_slot disk r l (slice_index_or r.snapshots l Hole) are refl))
    (λ l lt. apart disk r are c.snapshots_are_what_their_bytes_spell.ensures l c.loop-k.k (slice_index_or r.snapshots l Hole) (slice_index_or r.snapshots c.loop-k.k Hole) lt refl refl)

pub returns-in_err-check_snapshot-clause-reads : goal.returns-in_err-check_snapshot-clause-reads
returns-in_err-check_snapshot-clause-reads g c = reads_err c.from_residual.result c.from_residual.ensures.1 (only_more _ c.loop-k.invariant.read c.in_err-check_snapshot.ensures.reads)

pub returns-in_err-check_apart-clause-reads : goal.returns-in_err-check_apart-clause-reads
returns-in_err-check_apart-clause-reads g c = reads_err c.from_residual-in_err-check_apart.result c.from_residual-in_err-check_apart.ensures.1 (only_more _ c.loop-k.invariant.read (reads_more _ c.in_ok-check_snapshot.ensures.reads c.in_err-check_apart.ensures.reads))

pub returns-clause-reads : goal.returns-clause-reads
returns-clause-reads g c = only_ok c.loop-k.invariant.read

pub returns-clause-snapshots : goal.returns-clause-snapshots
returns-clause-snapshots g c disk shows =
    are_snapshots disk c.args.root.now c.requires.root.slots c.snapshots_are_what_their_bytes_spell.ensures
    (λ j low. (
      c.loop-k.invariant.are disk shows j (omega (arith, low, c.loop-k-test.false)),
      λ l lt. c.loop-k.invariant.apart disk shows j l (omega (arith, low, c.loop-k-test.false)) lt,
    ))
