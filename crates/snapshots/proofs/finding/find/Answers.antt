use Rattle.std.proofs.Common.{rules, ◌≡◌, ◌∙◌, ◌<◌, suc, length, sym, arith}
use Rattle.std.specs.Prelude.{slice_index_or}
use Rattle.std.proofs.lemmas.List.{get_or_read}
use Rattle.layout.specs.declared.pointer.Pointer.TheVariants.{Hole}
use Rattle.images.specs.Roots.{slot}
use Rattle.snapshots.proofs.NamedLaws.{finds, none_named}
use Rattle.loading.proofs.SnapshotLaws.{at_slot}
use Rattle.snapshots.proofs.SlotLaws.{none_has}
use Rattle.snapshots.proofs.finding.find.Goals as goal

pub returns-in_err-found-clause-damaged : goal.returns-in_err-found-clause-damaged
returns-in_err-found-clause-damaged g c disk shows v pairs holds damaged =
    let r = c.args.root.now in
    let within : c.loop-k.k < length r.snapshots = omega (arith, c.requires.root.slots, c.loop-k-test.true) in
    let there : slot r (suc c.loop-k.k) ≡ c.index-root-k.result = sym (get_or_read r.snapshots c.loop-k.k c.index-root-k.result within c.index-root-k.is Hole) in
    c.in_err-found.ensures.damaged disk r.generation (c.loop-k.invariant.read.same disk shows) (search rules)
    (at_slot disk r c.loop-k.k (slice_index_or r.snapshots c.loop-k.k c.index-root-k.result) holds.sound.snapshots (there ∙ c.index-root-k.is))

pub returns-then-is_some-clause-finds : goal.returns-then-is_some-clause-finds
returns-then-is_some-clause-finds g c disk shows v pairs holds =
    let r = c.args.root.now in
    let within : c.loop-k.k < length r.snapshots = omega (arith, c.requires.root.slots, c.loop-k-test.true) in
    let there : slot r (suc c.loop-k.k) ≡ c.index-root-k.result = sym (get_or_read r.snapshots c.loop-k.k c.index-root-k.result within c.index-root-k.is Hole) in
    finds disk r c.args.name.now v pairs holds c.loop-k.k (slice_index_or r.snapshots c.loop-k.k c.index-root-k.result) c.in_ok-found.found (there ∙ c.index-root-k.is) (search rules) (search rules)
    (c.in_ok-found.ensures.found disk (c.loop-k.invariant.read.same disk shows))

pub returns-clause-finds : goal.returns-clause-finds
returns-clause-finds g c disk shows v pairs holds =
    none_named disk c.args.root.now c.args.name.now v pairs holds (λ k s has.
    none_has disk c.args.root.now c.args.name.now c.loop-k.k k s (omega (arith, c.requires.root.slots, c.loop-k-test.false)) (c.loop-k.invariant.others disk shows) has)
