use Rattle.std.proofs.Common.{◌≡◌, ◌<◌, ◌∙◌, ℕ, length, refl, arith, rules, sym, subst, inl, inr}
use Rattle.std.proofs.lemmas.Bool.{cases_lt}
use Rattle.std.specs.Prelude.{slice_index_or}
use Rattle.std.proofs.lemmas.List.{get_or_default}
use Rattle.layout.specs.declared.pointer.Pointer.{Pointer}
use Rattle.layout.specs.declared.pointer.Pointer.TheVariants.{Block, Hole}
use Rattle.loading.specs.Snapshots.{AreApartAt}
use Rattle.images.specs.Roots.{whole}
use Rattle.checker.specs.Findings.{IsFindingUnder}
use Rattle.checker.specs.declared.fault.TreeName.TheVariants.{Image}
use Rattle.checker.proofs.ReadLaws.{looked, looked_more, looked_none, looked_of, looks_err, looks_ok, looks_passed}
use Rattle.checker.proofs.RootLaws.{no_snapshot, same_as}
use Rattle.checker.proofs.snapshots.fault_in_slot.Goals as goal

pub returns-in-Err-Damaged-clause-reads : goal.returns-in-Err-Damaged-clause-reads
returns-in-Err-Damaged-clause-reads g c = looks_ok (looked_of g.met.B.Blocks.reads_nothing g.met.B.UncachedReads.grows c.check_snapshot.ensures.reads)

pub returns-in-Err-NoMemory-clause-reads : goal.returns-in-Err-NoMemory-clause-reads
returns-in-Err-NoMemory-clause-reads g c = looks_err (looked_none c.args.blocks.now) (looked_of g.met.B.Blocks.reads_nothing g.met.B.UncachedReads.grows c.check_snapshot.ensures.reads) (λ is. absurd (cc))

pub returns-in-Err-Damaged-clause-tells : goal.returns-in-Err-Damaged-clause-tells
returns-in-Err-Damaged-clause-tells g c disk shows nvram =
    let r = c.args.root.now in
    let within : c.args.k < length r.snapshots = omega (arith, c.requires.root.slots, c.requires.slot) in
    let there = sym c.in-Block.is ∙ get_or_default r.snapshots c.args.k c.index-root-k.result Hole within in
    subst (IsFindingUnder r (whole disk r) nvram Image) (sym c.slot_fault.ensures)
    (no_snapshot disk r c.args.k c.in-Block.block (Block c.in-Block.block) there refl (c.in-Err-Damaged.ensures.damaged disk shows (search rules)))

pub returns-then-not-branch-clause-tells : goal.returns-then-not-branch-clause-tells
returns-then-not-branch-clause-tells g c disk shows nvram =
    let r = c.args.root.now in
    let within : c.args.k < length r.snapshots = omega (arith, c.requires.root.slots, c.requires.slot) in
    let before : c.loop-l.l < length r.snapshots = omega (arith, within, c.loop-l-test.true) in
    let p = slice_index_or r.snapshots c.loop-l.l c.index-root-l.result in
    let q = slice_index_or r.snapshots c.args.k c.index-root-k-in-loop-l.result in
    let first = get_or_default r.snapshots c.loop-l.l c.index-root-l.result Hole before in
    let second = get_or_default r.snapshots c.args.k c.index-root-k-in-loop-l.result Hole within in
    let block = get_or_default r.snapshots c.args.k c.index-root-k-in-loop-l.result c.index-root-k.result within ∙ c.in-Block.is in
    let now = c.loop-l.invariant.look.same disk shows in
    subst (IsFindingUnder r (whole disk r) nvram Image) (sym c.slot_fault-then-not-branch.ensures)
    (same_as disk r c.loop-l.l c.args.k c.in-Block.block p q c.snapshots_are_what_their_bytes_spell.ensures c.loop-l-test.true first second block
    (λ apart. let yes = (c.in_ok-differ.ensures.apart disk now).1 apart in cc))

pub returns-in_err-differ-clause-reads : goal.returns-in_err-differ-clause-reads
returns-in_err-differ-clause-reads g c =
    looks_passed c.from_residual.result (λ e. e) (λ x is. is) c.from_residual.ensures.1 c.loop-l.invariant.look (looked c.in_err-differ.ensures.reads) c.in_err-differ.ensures.reads.device

pub returns-then-not-branch-clause-reads : goal.returns-then-not-branch-clause-reads
returns-then-not-branch-clause-reads g c = looks_ok (looked_more c.loop-l.invariant.look (looked c.in_ok-differ.ensures.reads))

pub loop-l-preserved : goal.loop-l-preserved
loop-l-preserved g c = record {
  look = looked_more c.loop-l.invariant.look (looked c.in_ok-differ.ensures.reads);
  apart = λ disk shows j low. elim (cases_lt j c.loop-l.l) [
    | inl before ↦ c.loop-l.invariant.apart disk shows j before
    | inr last ↦
        let r = c.args.root.now in
        let within : c.args.k < length r.snapshots = omega (arith, c.requires.root.slots, c.requires.slot) in
        let same : c.loop-l.l ≡ j = omega (arith, low, last) in
        let before : c.loop-l.l < length r.snapshots = omega (arith, within, c.loop-l-test.true) in
        let told = (c.in_ok-differ.ensures.apart disk (c.loop-l.invariant.look.same disk shows)).0 (search rules) in
        subst (λ (i : ℕ). AreApartAt r.geometry.layout disk (slice_index_or r.snapshots i Hole) (slice_index_or r.snapshots c.args.k Hole)) same
        (subst (λ (p : Pointer). AreApartAt r.geometry.layout disk p (slice_index_or r.snapshots c.args.k Hole)) (get_or_default r.snapshots c.loop-l.l c.index-root-l.result Hole before)
        (subst (AreApartAt r.geometry.layout disk (slice_index_or r.snapshots c.loop-l.l c.index-root-l.result)) (get_or_default r.snapshots c.args.k c.index-root-k-in-loop-l.result Hole within) told))
  ];
}
