use Rattle.std.proofs.Common.{◌≡◌, ◌∙◌, ◌<◌, ℕ, List, [], Err, None, Some, length, refl, rules, sym, subst}
use Rattle.std.specs.Prelude.{slice_get, slice_index}
use Rattle.std.specs.declared.alloc.AllocError.{AllocError}
use Rattle.std.proofs.lemmas.Bool.{false≢true}
use Rattle.images.specs.BlockMap.{IsExact}
use Rattle.images.specs.Faults.{IsFaultless}
use Rattle.images.specs.Room.{free_under}
use Rattle.images.specs.Roots.{whole}
use Rattle.images.specs.Snapshots.{AreSnapshots}
use Rattle.images.specs.Soundness.{IsReadable, IsWithin}
use Rattle.checker.specs.Checks.{AreFindings, Passes}
use Rattle.checker.specs.Findings.{IsFindingUnder, ShouldHave}
use Rattle.checker.specs.Trees.{AreTrees, HasEnded, IsApart, IsRootOf, IsTreeAt}
use Rattle.checker.specs.declared.error.CheckError.TheVariants.{NoMemory}
use Rattle.checker.specs.declared.error.CheckEnd.{CheckEnd}
use Rattle.checker.specs.declared.fault.TreeName.TheVariants.{Image}
use Rattle.checker.specs.declared.tree.Tree.{Tree}
use Rattle.checker.proofs.AllTreesLaws.{all_faultless, newest_at, newest_faultless, should, stays_clean}
use Rattle.checker.proofs.EachLaws.{get_at}
use Rattle.checker.proofs.FindingLaws.{more_found}
use Rattle.checker.proofs.ReadLaws.{HasLooked, looked, looked_more, looked_none, looks_err, looks_ok, looks_passed}
use Rattle.checker.proofs.HaltLaws.{looks_again, looks_residual}
use Rattle.checker.proofs.checking.check_trees.Given.{Over}
use Rattle.checker.proofs.checking.check_trees.Goals as goal
use Rattle.checker.proofs.checking.check_trees.Goals.{After-index}

-- ---- what is known when each tree was looked at

numbered : (g : Over) (c : After-index g) → HasLooked g.B.Blocks c.args.blocks.now c.check_numbers.new.blocks
numbered g c = looked_more (looked c.open_trees.ensures.reads) (looked c.check_numbers.ensures.reads)

ended : (g : Over) (c : After-index g) → HasLooked g.B.Blocks c.args.blocks.now c.check_each.new.blocks
ended g c = looked_more (numbered g c) (looked c.check_each.ensures.reads)

over : (g : Over) (c : After-index g) → IsRootOf c.args.root.now c.args.root.now.geometry (g.B.Blocks.count c.check_numbers.new.blocks)
over g c = record { root = c.requires.root; geometry = refl; count = (numbered g c).count ∙ c.requires.size }

first : (g : Over) (c : After-index g) → slice_get c.check_each.new.trees.items 0 ≡ Some c.index.result.now
first g c =
    let some : 0 < length c.check_each.new.trees.items = search rules in
    get_at c.check_each.new.trees.items 0 c.index.result.now some c.index.ensures

clear : (g : Over) (c : After-index g) → c.check_each.new.findings.first ≡ None → c.index.result.now.fault ≡ None
clear g c none = c.in_ok-are_apart.ensures.told.told none 0 c.index.result.now (first g c)

module _ (g : Over) (c : After-index g) (disk : ℕ → List ℕ) (shows : g.B.Blocks.Shows c.args.blocks.now disk) (snapshots : AreSnapshots c.args.root.now (whole disk c.args.root.now)) where
  trees : AreTrees c.args.root.now c.check_each.new.trees.items (HasEnded disk c.args.root.now c.check_numbers.new.marks)
  trees =
      let opened = c.in_ok-trees.ensures.trees disk shows snapshots c.in_ok-marks.ensures.none c.in_ok-shared.ensures in
      let seen = c.in_ok-check_numbers.ensures.seen disk ((looked c.open_trees.ensures.reads).same disk shows) opened in
      c.in_ok-are_apart.ensures.seen disk c.args.root.now c.check_numbers.new.marks ((numbered g c).same disk shows) (over g c) seen

  found : (nvram : List ℕ) → AreFindings c.args.root.now (whole disk c.args.root.now) nvram c.args.findings.now.first
      → AreFindings c.args.root.now (whole disk c.args.root.now) nvram c.check_each.new.findings.first
  found nvram are =
      let opened = c.in_ok-trees.ensures.trees disk shows snapshots c.in_ok-marks.ensures.none c.in_ok-shared.ensures in
      let seen = c.in_ok-check_numbers.ensures.seen disk ((looked c.open_trees.ensures.reads).same disk shows) opened in
      c.in_ok-are_apart.ensures.found disk c.args.root.now c.check_numbers.new.marks nvram ((numbered g c).same disk shows) (over g c) seen are

  newest : c.index.result.now.fault ≡ None → IsFaultless c.args.root.now.geometry (whole disk c.args.root.now).active × IsWithin c.args.root.now.version (whole disk c.args.root.now).active
  newest none = newest_faultless disk c.args.root.now c.check_numbers.new.marks c.check_each.new.trees.items trees c.index.result.now (first g c) none

  -- where all are apart, the map's tree is in its grammar, and what is marked is what its entries should be
  module _ (apart : (i : ℕ) (t : Tree) → slice_get c.check_each.new.trees.items i ≡ Some t → IsApart t.fault) where
    at : (q : Tree) → slice_get c.check_each.new.trees.items 0 ≡ Some q → IsTreeAt disk c.args.root.now c.args.root.now.geometry (g.B.Blocks.count c.check_each.new.blocks) q × (q.plane ≡ 0)
    at q is = newest_at disk c.args.root.now c.check_numbers.new.marks c.check_each.new.trees.items trees apart q is c.args.root.now.geometry (g.B.Blocks.count c.check_each.new.blocks)
        (record { root = c.requires.root; geometry = refl; count = (ended g c).count ∙ c.requires.size })

    exact : (b : ℕ) → ShouldHave c.args.root.now (whole disk c.args.root.now) b (slice_index c.mark_system.new.marks b)
    exact =
        let r = c.args.root.now in
        let opened = c.in_ok-trees.ensures.trees disk shows snapshots c.in_ok-marks.ensures.none c.in_ok-shared.ensures in
        let clean = stays_clean r c.in_ok-trees.trees.items _ c.open_trees.new.marks c.check_numbers.new.marks opened (λ t known. known.tree.has)
        (λ k none b. (c.in_ok-check_numbers.ensures.marked.others k none).marks b) (λ k b none. c.in_ok-trees.ensures.clean c.in_ok-marks.ensures.none k b none) in
        should disk r c.check_numbers.new.marks c.check_each.new.trees.items trees c.mark_system.new.marks apart c.requires.root.slots clean c.mark_system.ensures.system c.mark_system.ensures.others

-- ---- reads

pub returns-in_err-marks-clause-reads : goal.returns-in_err-marks-clause-reads
returns-in_err-marks-clause-reads g c =
    looks_passed {G = g.B.Blocks} {e = c.in_err-marks.field-0.0} c.from_residual.result (λ (x : AllocError). NoMemory) (λ x is. is) c.from_residual.ensures.1 (looked_none c.args.blocks.now) (looked_none c.args.blocks.now) (λ is. absurd (cc))

pub returns-in_err-shared-clause-reads : goal.returns-in_err-shared-clause-reads
returns-in_err-shared-clause-reads g c =
    looks_passed {G = g.B.Blocks} {e = c.in_err-shared.field-0.0} c.from_residual-in_err-shared.result (λ (x : AllocError). NoMemory) (λ x is. is) c.from_residual-in_err-shared.ensures.1 (looked_none c.args.blocks.now) (looked_none c.args.blocks.now) (λ is. absurd (cc))

pub returns-in_err-trees-clause-reads : goal.returns-in_err-trees-clause-reads
returns-in_err-trees-clause-reads g c = looks_residual c.from_residual-in_err-trees.result c.from_residual-in_err-trees.ensures.1 c.in_err-trees.ensures.reads

pub returns-in_err-check_numbers-clause-reads : goal.returns-in_err-check_numbers-clause-reads
returns-in_err-check_numbers-clause-reads g c =
    looks_again c.from_residual-in_err-check_numbers.result c.from_residual-in_err-check_numbers.ensures.1 (looked c.open_trees.ensures.reads) c.in_err-check_numbers.ensures.reads

pub returns-in_err-are_apart-clause-reads : goal.returns-in_err-are_apart-clause-reads
returns-in_err-are_apart-clause-reads g c =
    looks_again c.from_residual-in_err-are_apart.result c.from_residual-in_err-are_apart.ensures.1 (looked_more (looked c.open_trees.ensures.reads) (looked c.check_numbers.ensures.reads)) c.in_err-are_apart.ensures.reads

pub returns-then-not-are_apart-clause-reads : goal.returns-then-not-are_apart-clause-reads
returns-then-not-are_apart-clause-reads g c = looks_ok (ended g (goal.at.returns-then-not-are_apart-clause-reads g c).After-index)

pub returns-in-Ok-clause-reads : goal.returns-in-Ok-clause-reads
returns-in-Ok-clause-reads g c = looks_ok (looked_more (ended g (goal.at.returns-in-Ok-clause-reads g c).After-index) (looked c.compare_map.ensures.reads))

pub returns-in-Err-Fault-clause-reads : goal.returns-in-Err-Fault-clause-reads
returns-in-Err-Fault-clause-reads g c = looks_ok (looked_more (ended g (goal.at.returns-in-Err-Fault-clause-reads g c).After-index) (looked c.compare_map.ensures.reads))

pub returns-in-Err-NoMemory-clause-reads : goal.returns-in-Err-NoMemory-clause-reads
returns-in-Err-NoMemory-clause-reads g c =
    looks_err (ended g (goal.at.returns-in-Err-NoMemory-clause-reads g c).After-index) (looked c.compare_map.ensures.reads) (λ is. absurd (cc))

-- ---- not all trees are apart

pub returns-then-not-are_apart-clause-found : goal.returns-then-not-are_apart-clause-found
returns-then-not-are_apart-clause-found g c disk nvram shows snapshots are = found g (goal.at.returns-then-not-are_apart-clause-found g c).After-index disk shows snapshots nvram are

pub returns-then-not-are_apart-clause-newest : goal.returns-then-not-are_apart-clause-newest
returns-then-not-are_apart-clause-newest g c disk shows snapshots sure = newest g (goal.at.returns-then-not-are_apart-clause-newest g c).After-index disk shows snapshots (search rules)

pub returns-then-not-are_apart-clause-told : goal.returns-then-not-are_apart-clause-told
returns-then-not-are_apart-clause-told g c none =
    let nothing : c.index.result.now.fault ≡ None = clear g (goal.at.returns-then-not-are_apart-clause-told g c).After-index none in
    search rules

pub returns-then-not-are_apart-clause-faultless : goal.returns-then-not-are_apart-clause-faultless
returns-then-not-are_apart-clause-faultless g c disk shows snapshots none =
    absurd (false≢true (sym c.if-not-are_apart.true ∙ c.in_ok-are_apart.ensures.told.all none))

-- ---- the map is compared

pub returns-in-Ok-clause-found : goal.returns-in-Ok-clause-found
returns-in-Ok-clause-found g c disk nvram shows snapshots are = found g (goal.at.returns-in-Ok-clause-found g c).After-index disk shows snapshots nvram are

pub returns-in-Ok-clause-newest : goal.returns-in-Ok-clause-newest
returns-in-Ok-clause-newest g c disk shows snapshots sure = newest g (goal.at.returns-in-Ok-clause-newest g c).After-index disk shows snapshots (search rules)

pub returns-in-Ok-clause-told : goal.returns-in-Ok-clause-told
returns-in-Ok-clause-told g c none =
    let nothing : c.index.result.now.fault ≡ None = clear g (goal.at.returns-in-Ok-clause-told g c).After-index none in
    search rules

pub returns-in-Ok-clause-faultless : goal.returns-in-Ok-clause-faultless
returns-in-Ok-clause-faultless g c disk shows snapshots none =
    let done = (goal.at.returns-in-Ok-clause-faultless g c).After-index in
    let r = c.args.root.now in
    let apart = c.in_ok-are_apart.ensures.told.apart (search rules) in
    let some : 0 < length c.check_each.new.trees.items = search rules in
    let known = at g done disk shows snapshots apart c.index-2.result.now (get_at c.check_each.new.trees.items 0 c.index-2.result.now some c.index-2.ensures) in
    let passes = c.in-Ok.ensures.passes disk r [] ((ended g done).same disk shows) known.0 known.1 (exact g done disk shows snapshots apart) in
    let all = all_faultless disk r c.check_numbers.new.marks c.check_each.new.trees.items (trees g done disk shows snapshots) (c.in_ok-are_apart.ensures.told.told none) in
    record { trees = λ k has. (all k has).0; within = λ k has. (all k has).1; readable = passes.0; exact = passes.1; free_is = passes.2 }

pub returns-in-Err-Fault-clause-found : goal.returns-in-Err-Fault-clause-found
returns-in-Err-Fault-clause-found g c disk nvram shows snapshots are =
    let done = (goal.at.returns-in-Err-Fault-clause-found g c).After-index in
    let r = c.args.root.now in
    let w = whole disk r in
    let apart = c.in_ok-are_apart.ensures.told.apart (search rules) in
    let some : 0 < length c.check_each.new.trees.items = search rules in
    let known = at g done disk shows snapshots apart c.index-2.result.now (get_at c.check_each.new.trees.items 0 c.index-2.result.now some c.index-2.ensures) in
    more_found r w nvram c.check_each.new.findings.first c.find.new.self.first (record { tree = Image; fault = c.in-Err-Fault.fault }) c.find.ensures.first
    (found g done disk shows snapshots nvram are)
    (subst (λ (h : CheckEnd). Passes (λ free. IsReadable (w.active 2) × IsExact r w × (free ≡ free_under w.active r.geometry.blocks)) (IsFindingUnder r w nvram Image) (Err h)) c.in-Err-Fault.field-0-is
    (c.in-Err-Fault.ensures.passes disk r nvram ((ended g done).same disk shows) known.0 known.1 (exact g done disk shows snapshots apart)))

pub returns-in-Err-Fault-clause-newest : goal.returns-in-Err-Fault-clause-newest
returns-in-Err-Fault-clause-newest g c disk shows snapshots sure = newest g (goal.at.returns-in-Err-Fault-clause-newest g c).After-index disk shows snapshots (search rules)

pub returns-in-Err-Fault-clause-told : goal.returns-in-Err-Fault-clause-told
returns-in-Err-Fault-clause-told g c none = absurd (cc (c.find.ensures.first, none))

pub returns-in-Err-Fault-clause-faultless : goal.returns-in-Err-Fault-clause-faultless
returns-in-Err-Fault-clause-faultless g c disk shows snapshots none = absurd (cc (c.find.ensures.first, none))
