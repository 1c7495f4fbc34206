use Rattle.std.proofs.Common.{◌≡◌, ◌∙◌, length, take, None, Some, ap, refl, rules, sym, subst}
use Rattle.std.proofs.lemmas.List.{take_all}
use Rattle.layout.specs.SnapRoot.{snapshot_in, snapshot_of}
use Rattle.layout.specs.declared.pointer.Pointer.{Pointer}
use Rattle.loading.proofs.SnapshotLaws.{length-snapshot}
use Rattle.checker.specs.Trees.{TellsSnapshot}
use Rattle.checker.proofs.ReadLaws.{looked, looks_ok}
use Rattle.checker.proofs.snapshots.snapshot_at.Goals as goal

pub returns-then-not-branch-clause-reads : goal.returns-then-not-branch-clause-reads
returns-then-not-branch-clause-reads g c = looks_ok (looked c.read_block.ensures.reads)

pub returns-then-not-branch-clause-tells : goal.returns-then-not-branch-clause-tells
returns-then-not-branch-clause-tells g c disk shows =
    subst (λ (p : Pointer). TellsSnapshot c.args.geometry.layout disk p None) (sym c.in-Block.is)
    (λ s is. c.in_ok-read_block.ensures.whole disk shows (search rules) (ap length is.spelled ∙ length-snapshot s is.is))

pub returns-in-Some-clause-tells : goal.returns-in-Some-clause-tells
returns-in-Some-clause-tells g c disk shows =
    let at = c.bytes.ensures disk (c.read_block.ensures.reads.same disk shows) in
    let v = snapshot_of c.in-Some.snapshot in
    let found = c.in-Some.ensures.found in
    let name : take 63 v.name ≡ v.name = take_all 63 v.name found.0.short in
    subst (λ (p : Pointer). TellsSnapshot c.args.geometry.layout disk p (Some (c.new.result, c.in-Some.snapshot.inode_file)))
    (sym c.in-Block.is) (
      v,
      ap (snapshot_in c.args.geometry.layout) (sym at ∙ found.2)
          ∙ (c.snapshots_are_what_their_bytes_spell.ensures c.args.geometry.layout v found.0 (found.1 ∙ c.layout.ensures)).0,
      sym (c.new.ensures ∙ name),
      refl,
    )

pub bytes-requires : goal.bytes-requires
bytes-requires g c = c.in_ok-read_block.ensures.resident (search rules)
