use Rattle.std.proofs.Common.{rules, ◌≡◌, ◌∙◌, ◌<◌, suc, length, sym, arith}
use Rattle.std.specs.Prelude.{slice_index_or}
use Rattle.std.proofs.lemmas.List.{get_or_read}
use Rattle.layout.specs.declared.pointer.Pointer.TheVariants.{Hole}
use Rattle.images.specs.Roots.{slot}
use Rattle.loading.proofs.SnapshotLaws.{at_slot}
use Rattle.snapshots.proofs.taking.newest.Goals as goal

pub returns-in_err-next-clause-damaged : goal.returns-in_err-next-clause-damaged
returns-in_err-next-clause-damaged g c disk shows v pairs holds damaged =
    let r = c.args.root.now in
    let within : c.loop-k.k < length r.snapshots = omega (arith, c.requires.root.slots, c.loop-k-test.true) in
    let there : slot r (suc c.loop-k.k) ≡ c.index-root-k.result = sym (get_or_read r.snapshots c.loop-k.k c.index-root-k.result within c.index-root-k.is Hole) in
    c.in_err-next.ensures.damaged disk r.generation (c.loop-k.invariant.read.same disk shows) (search rules)
    (at_slot disk r c.loop-k.k (slice_index_or r.snapshots c.loop-k.k c.index-root-k.result) holds.sound.snapshots (there ∙ c.index-root-k.is))
