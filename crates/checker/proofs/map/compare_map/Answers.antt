use Rattle.std.proofs.Common.{rules, ◌≡◌, ◌∙◌, ◌*◌, ◌<◌, ℕ, List, ap, inl, inr, refl, sym, subst, arith}
use Rattle.std.proofs.lemmas.Bool.{cases_lt}
use Rattle.layout.specs.Inode.{IsInode, inode_bytes}
use Rattle.layout.specs.Limits.{Sizes}
use Rattle.layout.specs.Places.{pointed}
use Rattle.layout.specs.Pointer.{PointsBelow}
use Rattle.layout.specs.declared.inode.Inode.{Inode}
use Rattle.layout.specs.declared.kind.Kind.TheVariants.{BlockMap}
use Rattle.layout.specs.declared.pointer.Pointer.{Pointer}
use Rattle.layout.specs.declared.pointer.Pointer.TheVariants.{Block}
use Rattle.layout.specs.declared.root.Root.{Root}
use Rattle.buffers.specs.Disks.{IsWhole}
use Rattle.blocktree.specs.PlaceMaps.{place_at}
use Rattle.inode.specs.Files.{file_block}
use Rattle.images.specs.Faults.{IsTreeGrammar}
use Rattle.images.specs.Roots.{inode_bytes_at, whole}
use Rattle.checker.specs.Errors.{halt}
use Rattle.checker.specs.Findings.{IsFindingUnder, tree_in}
use Rattle.checker.specs.Maps.{HasEntries, IsMapFault}
use Rattle.checker.specs.Trees.{IsTreeAt}
use Rattle.checker.specs.declared.fault.Fault.TheVariants as faults
use Rattle.checker.specs.declared.fault.TreeFault.TheVariants as tree_faults
use Rattle.checker.specs.declared.fault.TreeName.TheVariants.{Image}
use Rattle.checker.proofs.EntryLaws.{IsCompared, IsMapRead, before_block, compared_more, compared_none, entry_fault, exact_of, few_more, map_block, map_damaged, map_read, map_readable, map_stored}
use Rattle.checker.proofs.HaltLaws.{if_ok, looks_failed, looks_of, looks_or_fault, looks_residual, not_device, passes_err, passes_found, passes_or_fault, passes_residual}
use Rattle.checker.proofs.HeldLaws.{blocks_over, grammar_at, own_there, sizes_over, tree_later}
use Rattle.checker.proofs.ReadLaws.{HasLooked, looked, looked_more, looked_of, looks_passed}
use Rattle.checker.proofs.StepLaws.{device_halt, passes_halt}
use Rattle.checker.proofs.map.compare_map.Given.{Over}
use Rattle.checker.proofs.map.compare_map.Goals as goal
use Rattle.checker.proofs.map.compare_map.Goals.{In_ok-places}

-- ---- what was read before the loop

own : (g : Over) (c : In_ok-places g) → HasLooked g.B.Blocks c.args.blocks.now c.own_inode.new.blocks
own g c = looked_of g.met.B.Blocks.reads_nothing g.met.B.UncachedReads.grows c.own_inode.ensures.reads

mapped : (g : Over) (c : In_ok-places g) (disk : ℕ → List ℕ) (r : Root) → g.B.Blocks.Shows c.args.blocks.now disk → IsTreeAt disk r c.args.geometry (g.B.Blocks.count c.args.blocks.now) c.args.tree.now
    → c.args.tree.now.plane ≡ 0 → IsMapRead c.args.geometry disk r c.in_ok-inode.inode c.in_ok-places.places
mapped g c disk r shows at plane =
    let fault = faults.Tree tree_faults.BlockMap in
    map_read c.sound_files_read_as_held.ensures c.inodes_are_what_their_bytes_spell.ensures.spelled c.based_trees_are_sound.ensures.all
    c.args.geometry disk r c.args.tree.now c.in_ok-inode.inode c.in_ok-file.file c.in_ok-places.places (g.B.Blocks.count c.own_inode.new.blocks) (tree_later (own g c).count at) plane
    (if_ok (IsInode c.args.geometry) fault c.own_inode.result c.in_ok-inode.inode c.in_ok-inode.ensures c.own_inode.ensures.is)
    (if_ok (λ (x : Inode). inode_bytes_at (file_block disk c.args.tree.now.file) 2 ≡ inode_bytes x) fault c.own_inode.result c.in_ok-inode.inode c.in_ok-inode.ensures (c.own_inode.ensures.spelled disk shows))
    (record { blocks = c.in_ok-file.ensures.blocks; starts = c.in_ok-file.ensures.settled }) (c.in_ok-places.ensures.places disk ((own g c).same disk shows))

pub returns-in_err-inode-clause-reads : goal.returns-in_err-inode-clause-reads
returns-in_err-inode-clause-reads g c =
    looks_residual c.from_residual.result c.from_residual.ensures.1
    (looks_or_fault (faults.Tree tree_faults.BlockMap) c.own_inode.result _ c.in_err-inode.ensures (looks_of g.met.B.Blocks.reads_nothing g.met.B.UncachedReads.grows c.own_inode.ensures.reads))

pub returns-in_err-inode-clause-passes : goal.returns-in_err-inode-clause-passes
returns-in_err-inode-clause-passes g c = λ disk r nvram shows at plane should.
    let known = grammar_at at in
    passes_residual (λ (_ : Inode). Unit {0}) _ (IsFindingUnder r (whole disk r) nvram Image) c.from_residual.result _ c.from_residual.ensures.1
    (passes_or_fault (λ (_ : Inode). Unit {0}) (IsFindingUnder r (whole disk r) nvram Image) (faults.Tree tree_faults.BlockMap) c.own_inode.result _ c.in_err-inode.ensures (λ damaged.
    absurd (own_there c.sound_files_read_as_held.ensures c.based_trees_are_sound.ensures.at c.args.geometry disk r c.args.tree.now 2 (g.B.Blocks.count c.args.blocks.now) BlockMap at.tree known
    (blocks_over at.over) (omega arith) (omega (arith, (sizes_over at.over).least_inodes)) (known.kinds 2) (c.own_inode.ensures.damaged disk shows damaged))))

pub returns-in_err-places-clause-reads : goal.returns-in_err-places-clause-reads
returns-in_err-places-clause-reads g c =
    looks_passed c.from_residual-in_err-places.result halt device_halt c.from_residual-in_err-places.ensures.1 (looked_of g.met.B.Blocks.reads_nothing g.met.B.UncachedReads.grows c.own_inode.ensures.reads)
    (looked c.in_err-places.ensures.reads) c.in_err-places.ensures.reads.device

pub returns-in_err-places-clause-passes : goal.returns-in_err-places-clause-passes
returns-in_err-places-clause-passes g c = λ disk r nvram shows at plane should. passes_halt _ _ c.from_residual-in_err-places.result _ c.from_residual-in_err-places.ensures.1

-- ---- the loop

pub loop-j-init : goal.loop-j-init
loop-j-init g c = record {
  read = looked_more (own g (goal.at.loop-j-init g c).In_ok-places) (looked c.in_ok-places.ensures.reads);
  few = omega arith;
  good = λ disk shows i low. absurd (omega (arith, low));
  compared = λ disk r shows at plane.
      let none : 0 ≡ before_block r.geometry.blocks 0 = omega arith in
      subst (λ (n : ℕ). IsCompared (whole disk r).active c.args.marks.now n 0) none (compared_none (whole disk r).active c.args.marks.now);
}

pub returns-in_default-clause-reads : goal.returns-in_default-clause-reads
returns-in_default-clause-reads g c = looks_failed c.loop-j.invariant.read (λ is. cc)

pub returns-in_default-clause-passes : goal.returns-in_default-clause-passes
returns-in_default-clause-passes g c = λ disk r nvram shows at plane should readable.
    map_stored c.args.geometry disk r c.in_ok-inode.inode c.in_ok-places.places (mapped g (goal.at.returns-in_default-clause-passes g c).In_ok-places disk r shows at plane) c.loop-j.j
    (omega (arith, c.loop-j-test.true, c.div_ceil-j-end.ensures, c.blocks-2.ensures.value)) (sym c.at.ensures ∙ c.in_default.is)

pub read_into-requires : goal.read_into-requires
read_into-requires g c =
    subst (λ (n : ℕ). PointsBelow n (Block c.in-Block.place)) (sym (c.loop-j.invariant.read.count ∙ sym (own g (goal.at.read_into-requires g c).In_ok-places).count))
    (subst (PointsBelow _) (sym c.at.ensures ∙ c.in-Block.is) (c.in_ok-places.ensures.below c.loop-j.j))

pub returns-in_err-read_into-clause-reads : goal.returns-in_err-read_into-clause-reads
returns-in_err-read_into-clause-reads g c =
    looks_passed c.from_residual-in_err-read_into.result halt device_halt c.from_residual-in_err-read_into.ensures.1 c.loop-j.invariant.read (looked c.in_err-read_into.ensures.reads) c.in_err-read_into.ensures.reads.device

pub returns-in_err-read_into-clause-passes : goal.returns-in_err-read_into-clause-passes
returns-in_err-read_into-clause-passes g c = λ disk r nvram shows at plane should. passes_halt _ _ c.from_residual-in_err-read_into.result _ c.from_residual-in_err-read_into.ensures.1

pub returns-then-not-branch-clause-reads : goal.returns-then-not-branch-clause-reads
returns-then-not-branch-clause-reads g c = looks_failed (looked_more c.loop-j.invariant.read (looked c.in_ok-read_into.ensures.reads)) (λ is. cc)

pub returns-then-not-branch-clause-passes : goal.returns-then-not-branch-clause-passes
returns-then-not-branch-clause-passes g c = λ disk r nvram shows at plane should readable.
    map_damaged c.args.geometry disk r c.in_ok-inode.inode c.in_ok-places.places (mapped g (goal.at.returns-then-not-branch-clause-passes g c).In_ok-places disk r shows at plane)
    c.loop-j.j c.in-Block.place (sym c.at.ensures ∙ c.in-Block.is)
    (c.in_ok-read_into.ensures.whole disk (c.loop-j.invariant.read.same disk shows) (search rules)) readable

pub returns-in_err-free-clause-reads : goal.returns-in_err-free-clause-reads
returns-in_err-free-clause-reads g c =
    looks_residual {T = ℕ} c.from_residual-in_err-free.result c.from_residual-in_err-free.ensures.1
    (looks_failed (looked_more c.loop-j.invariant.read (looked c.in_ok-read_into.ensures.reads)) (λ fault. absurd (not_device _ c.in_err-free.ensures.found fault)))

pub returns-in_err-free-clause-passes : goal.returns-in_err-free-clause-passes
returns-in_err-free-clause-passes g c = λ disk r nvram shows at plane should.
    let map = mapped g (goal.at.returns-in_err-free-clause-passes g c).In_ok-places disk r shows at plane in
    let block = map_block c.args.geometry disk r c.in_ok-inode.inode c.in_ok-places.places map c.loop-j.j c.in-Block.place c.bytes.result.now (sym c.at.ensures ∙ c.in-Block.is)
    (c.bytes.ensures ∙ c.in_ok-read_into.ensures.block disk (c.loop-j.invariant.read.same disk shows) (search rules)) in
    let within : 1024 * c.loop-j.j < c.blocks-in-loop-j.result = omega (arith, c.loop-j-test.true, c.div_ceil-j-end.ensures, c.blocks-2.ensures.value, c.blocks-in-loop-j.ensures.value) in
    passes_residual (λ (_ : ℕ). Unit {0}) _ (IsFindingUnder r (whole disk r) nvram Image) c.from_residual-in_err-free.result c.in_err-free.field-0.0 c.from_residual-in_err-free.ensures.1
    (passes_found (λ (_ : ℕ). Unit {0}) (IsMapFault c.bytes.result.now c.blocks-in-loop-j.result c.loop-j.j c.args.marks.now) (IsFindingUnder r (whole disk r) nvram Image) c.in_err-free.field-0.0
    (passes_err (HasEntries c.bytes.result.now c.blocks-in-loop-j.result c.loop-j.j c.args.marks.now) (λ (_ : ℕ). Unit {0})
    (IsMapFault c.bytes.result.now c.blocks-in-loop-j.result c.loop-j.j c.args.marks.now) c.in_err-free.field-0.0 c.in_err-free.ensures.passes)
    (λ fault found. entry_fault (whole disk r).active c.args.marks.now c.bytes.result.now c.blocks-in-loop-j.result c.loop-j.j within block r (whole disk r) nvram fault refl should found))

pub overflow_add-free : goal.overflow_add-free
overflow_add-free g c =
    let more = few_more c.bytes.result.now c.blocks-in-loop-j.result c.loop-j.j c.in_ok-free.field-0 c.args.marks.now c.in_ok-free.ensures.passes in
    omega (arith, more, c.loop-j.invariant.few, c.loop-j-test.true, c.div_ceil-j-end.ensures, c.blocks-2.ensures.value, c.blocks-2.ensures.within.most_blocks)

pub loop-j-preserved : goal.loop-j-preserved
loop-j-preserved g c =
    let more = few_more c.bytes.result.now c.blocks-in-loop-j.result c.loop-j.j c.in_ok-free.field-0 c.args.marks.now c.in_ok-free.ensures.passes in
    let there : place_at c.in_ok-places.places c.loop-j.j ≡ Block c.in-Block.place = sym c.at.ensures ∙ c.in-Block.is in record {
      read = looked_more c.loop-j.invariant.read (looked c.in_ok-read_into.ensures.reads);
      few = omega (arith, more, c.loop-j.invariant.few);
      good = λ disk shows i low. elim (cases_lt i c.loop-j.j) [
        | inl before ↦ c.loop-j.invariant.good disk shows i before
        | inr last ↦
            let same : c.loop-j.j ≡ i = omega (arith, low, last) in
            subst (λ (k : ℕ). IsWhole (pointed disk (place_at c.in_ok-places.places k))) same
            (subst (λ (p : Pointer). IsWhole (pointed disk p)) (sym there)
            (subst IsWhole (c.bytes.ensures ∙ c.in_ok-read_into.ensures.block disk (c.loop-j.invariant.read.same disk shows) (search rules)) c.in_ok-free.ensures.whole))
      ];
      compared = λ disk r shows at plane.
          let map = mapped g (goal.at.loop-j-preserved g c).In_ok-places disk r shows at plane in
          let block = map_block c.args.geometry disk r c.in_ok-inode.inode c.in_ok-places.places map c.loop-j.j c.in-Block.place c.bytes.result.now there
          (c.bytes.ensures ∙ c.in_ok-read_into.ensures.block disk (c.loop-j.invariant.read.same disk shows) (search rules)) in
          let blocks : c.blocks-in-loop-j.result ≡ r.geometry.blocks = c.blocks-in-loop-j.ensures.value ∙ sym (ap (λ (x : Sizes). x.blocks) at.over.geometry) in
          let within : 1024 * c.loop-j.j < r.geometry.blocks = omega (arith, c.loop-j-test.true, c.div_ceil-j-end.ensures, c.blocks-2.ensures.value, c.blocks-in-loop-j.ensures.value, blocks) in
          compared_more (whole disk r).active c.args.marks.now c.bytes.result.now r.geometry.blocks c.loop-j.j within block
          c.loop-j.free c.in_ok-free.field-0 (c.loop-j.invariant.compared disk r shows at plane)
          (subst (λ (n : ℕ). HasEntries c.bytes.result.now n c.loop-j.j c.args.marks.now c.in_ok-free.field-0) blocks c.in_ok-free.ensures.passes);
    }

pub returns-clause-passes : goal.returns-clause-passes
returns-clause-passes g c = λ disk r nvram shows at plane should.
    let blocks : c.args.geometry.blocks ≡ r.geometry.blocks = sym (ap (λ (x : Sizes). x.blocks) at.over.geometry) in
    let all : before_block r.geometry.blocks c.loop-j.j ≡ r.geometry.blocks = omega (arith, c.loop-j-test.false, c.div_ceil-j-end.ensures, c.blocks-2.ensures.value, blocks) in
    let compared : IsCompared (whole disk r).active c.args.marks.now r.geometry.blocks c.loop-j.free =
    subst (λ (n : ℕ). IsCompared (whole disk r).active c.args.marks.now n c.loop-j.free) all (c.loop-j.invariant.compared disk r shows at plane) in
    let map = mapped g (goal.at.returns-clause-passes g c).In_ok-places disk r shows at plane in
    let readable = map_readable c.args.geometry disk r c.in_ok-inode.inode c.in_ok-places.places map c.loop-j.j (omega (arith, c.loop-j-test.false, c.div_ceil-j-end.ensures, c.blocks-2.ensures.value)) (c.loop-j.invariant.good disk shows) in
    let grammar = subst (λ (k : ℕ). IsTreeGrammar r.geometry (tree_in (whole disk r) k)) plane at.grammar in
    (readable, exact_of r (whole disk r) c.args.marks.now c.loop-j.free grammar (c.requires ∙ blocks) should compared, compared.free_is)
