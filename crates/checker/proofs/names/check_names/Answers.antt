use Rattle.std.proofs.Common.{◌≡◌, ◌∙◌, ℕ, ◌≤◌, ◌^◌, List, Result, Ok, Err, None, subst, sym, arith}
use Rattle.layout.specs.Places.{Blocks}
use Rattle.layout.specs.Root.{IsRoot}
use Rattle.layout.specs.declared.root.Root.{Root}
use Rattle.model.specs.Volumes.{Volume}
use Rattle.images.specs.Contents.{Content, HoldsVolume}
use Rattle.images.specs.Faults.{HoldsGraph}
use Rattle.images.specs.Roots.{whole}
use Rattle.checker.specs.Checks.{Passes}
use Rattle.checker.specs.Findings.{IsTreeFinding, tree_in}
use Rattle.checker.specs.Links.{AreLinked, AreReached, IsUnlinked, IsUnreached}
use Rattle.checker.specs.Names.{IsTable, IsUnnamed}
use Rattle.checker.specs.Tables as Tables
use Rattle.checker.specs.Trees.{IsOut, IsRootOf, IsSeen, IsTreeAt}
use Rattle.checker.specs.declared.error.CheckEnd.{CheckEnd}
use Rattle.checker.specs.declared.error.CheckEnd.TheVariants as halts
use Rattle.checker.specs.declared.fault.Fault.{Fault}
use Rattle.checker.specs.declared.names.NumberRow.{NumberRow}
use Rattle.checker.specs.declared.tree.Tree.{Tree}
use Rattle.checker.proofs.GraphLaws.{IsKnown, holds_graph, tree_ends, unlinked_finding, unreached_finding}
use Rattle.checker.proofs.HaltLaws.{passes_residual}
use Rattle.checker.proofs.HeldLaws.{tree_later}
use Rattle.checker.proofs.StepLaws.{passes_halt}
use Rattle.checker.proofs.names.check_names.Given.{Over}
use Rattle.checker.proofs.names.check_names.Goals as goal
use Rattle.checker.proofs.names.check_names.Goals.{In_ok-table}

-- a part passes, or finds a fault, by what it tells
passes_by : {T : Type 0} (Is Other : T → Type 0) (Found Told : Fault → Type 0) (q : Result T CheckEnd) → ((x : T) → Is x → Other x) → ((fault : Fault) → Found fault → Told fault) → Passes Is Found q → Passes Other Told q
passes_by Is Other Found Told (Ok x) good bad passes = good x passes
passes_by Is Other Found Told (Err halts.NoMemory) good bad passes = tt
passes_by Is Other Found Told (Err halts.Device) good bad passes = tt
passes_by Is Other Found Told (Err (halts.Fault fault)) good bad passes = bad fault passes

known : (disk : Blocks) (r : Root) (marks : List ℕ) (t : Tree) → IsRoot r → IsSeen disk r marks t → t.fault ≡ None
    → ((inodes : ℕ) (files : ℕ → Content) (v w : Volume) → inodes ≤ 2 ^ 32 → HoldsVolume inodes files v → HoldsVolume inodes files w → v ≡ w)
    → IsKnown r.geometry (tree_in (whole disk r) t.plane)
known disk r marks t root seen none volumes =
    let sizes = root.head.sizes in record {
      once = λ files v w. volumes r.geometry.inodes files v w (omega (arith, sizes.most_inodes));
      grammar = seen.grammar (λ out. subst IsOut none out);
      ends = λ n past. tree_ends disk r t.plane n (omega (arith, sizes.least_inodes)) past;
    }

-- what is told of rows is told of a copy of them
copied : (P : List NumberRow → Type 0) {old new : List NumberRow} → new ≡ old → P old → P new
copied P same told = subst P (sym same) told

-- ---- the tree, its table, and what a walk through it comes to

tree : (g : Over) (c : In_ok-table g) (disk : ℕ → List ℕ) (r : Root) (marks : List ℕ) → IsRootOf r c.args.geometry (g.B.Blocks.count c.args.blocks.now) → IsSeen disk r marks c.args.tree.now → c.args.tree.now.fault ≡ None
    → IsTreeAt disk r c.args.geometry (g.B.Blocks.count c.args.blocks.now) c.args.tree.now
tree g c disk r marks over seen none = record { over = over; tree = seen.tree; grammar = seen.grammar (λ out. subst IsOut none out) }

table : (g : Over) (c : In_ok-table g) (disk : ℕ → List ℕ) (r : Root) → g.B.Blocks.Shows c.args.blocks.now disk → Tables.IsKnown disk c.args.known.now → IsTreeAt disk r c.args.geometry (g.B.Blocks.count c.args.blocks.now) c.args.tree.now
    → IsTable r.geometry (tree_in (whole disk r) c.args.tree.now.plane) c.in_ok-table.table.items × IsUnnamed c.in_ok-table.table.items
table g c disk r shows knows at =
    copied (λ rows. IsTable r.geometry (tree_in (whole disk r) c.args.tree.now.plane) rows × IsUnnamed rows) (c.in_ok-table.ensures.items ∙ c.deref.ensures.value) (c.in_ok-now.ensures.table disk r shows knows at)

pub returns-in_err-now-clause-passes : goal.returns-in_err-now-clause-passes
returns-in_err-now-clause-passes g c = λ disk r marks shows knows over seen none. passes_halt _ _ c.from_residual.result _ c.from_residual.ensures.1

pub returns-in_err-walk-clause-passes : goal.returns-in_err-walk-clause-passes
returns-in_err-walk-clause-passes g c = λ disk r marks shows knows over seen none.
    let done = (goal.at.returns-in_err-walk-clause-passes g c).In_ok-table in
    let t = tree_in (whole disk r) c.args.tree.now.plane in
    let at = tree g done disk r marks over seen none in
    let read = table g done disk r shows knows at in
    passes_residual (λ (_ : Unit {0}). Unit {0}) (λ (_ : Unit {0}). HoldsGraph r.geometry.inodes t) (IsTreeFinding r t) c.from_residual-in_err-walk.result _ c.from_residual-in_err-walk.ensures.1
    (c.in_err-walk.ensures.walked disk r (c.in_ok-now.ensures.reads.same disk shows) (tree_later c.in_ok-now.ensures.reads.count at) (c.in_ok-now.ensures.places disk r shows at) read.0 read.1)

pub returns-in_err-check_reached-clause-passes : goal.returns-in_err-check_reached-clause-passes
returns-in_err-check_reached-clause-passes g c = λ disk r marks shows knows over seen none.
    let done = (goal.at.returns-in_err-check_reached-clause-passes g c).In_ok-table in
    let t = tree_in (whole disk r) c.args.tree.now.plane in
    let is = known disk r marks c.args.tree.now over.root seen none c.files_hold_one_volume.ensures in
    let at = tree g done disk r marks over seen none in
    let read = table g done disk r shows knows at in
    let walked = c.in_ok-walk.ensures.walked disk r (c.in_ok-now.ensures.reads.same disk shows) (tree_later c.in_ok-now.ensures.reads.count at) (c.in_ok-now.ensures.places disk r shows at) read.0 read.1 in
    passes_residual (λ (_ : Unit {0}). AreReached c.walk.new.table.items) (λ (_ : Unit {0}). HoldsGraph r.geometry.inodes t) (IsTreeFinding r t) c.from_residual-in_err-check_reached.result _ c.from_residual-in_err-check_reached.ensures.1
    (passes_by (λ (_ : Unit {0}). AreReached c.walk.new.table.items) (λ (_ : Unit {0}). AreReached c.walk.new.table.items) (IsUnreached c.walk.new.table.items) (IsTreeFinding r t) (Err _) (λ x so. so) (unreached_finding r t is c.walk.new.table.items walked) c.in_err-check_reached.ensures.rows)

pub returns-in_err-check_links-clause-passes : goal.returns-in_err-check_links-clause-passes
returns-in_err-check_links-clause-passes g c = λ disk r marks shows knows over seen none.
    let done = (goal.at.returns-in_err-check_links-clause-passes g c).In_ok-table in
    let t = tree_in (whole disk r) c.args.tree.now.plane in
    let is = known disk r marks c.args.tree.now over.root seen none c.files_hold_one_volume.ensures in
    let at = tree g done disk r marks over seen none in
    let read = table g done disk r shows knows at in
    let walked = c.in_ok-walk.ensures.walked disk r (c.in_ok-now.ensures.reads.same disk shows) (tree_later c.in_ok-now.ensures.reads.count at) (c.in_ok-now.ensures.places disk r shows at) read.0 read.1 in
    passes_residual (λ (_ : Unit {0}). AreLinked c.walk.new.table.items) (λ (_ : Unit {0}). HoldsGraph r.geometry.inodes t) (IsTreeFinding r t) c.from_residual-in_err-check_links.result _ c.from_residual-in_err-check_links.ensures.1
    (passes_by (λ (_ : Unit {0}). AreLinked c.walk.new.table.items) (λ (_ : Unit {0}). AreLinked c.walk.new.table.items) (IsUnlinked c.walk.new.table.items) (IsTreeFinding r t) (Err _) (λ x so. so) (unlinked_finding r t is c.walk.new.table.items walked c.in_ok-check_reached.ensures.rows) c.in_err-check_links.ensures.rows)

pub returns-clause-passes : goal.returns-clause-passes
returns-clause-passes g c = λ disk r marks shows knows over seen none.
    let done = (goal.at.returns-clause-passes g c).In_ok-table in
    let t = tree_in (whole disk r) c.args.tree.now.plane in
    let is = known disk r marks c.args.tree.now over.root seen none c.files_hold_one_volume.ensures in
    let at = tree g done disk r marks over seen none in
    let read = table g done disk r shows knows at in
    let walked = c.in_ok-walk.ensures.walked disk r (c.in_ok-now.ensures.reads.same disk shows) (tree_later c.in_ok-now.ensures.reads.count at) (c.in_ok-now.ensures.places disk r shows at) read.0 read.1 in
    holds_graph r t is c.walk.new.table.items walked c.in_ok-check_reached.ensures.rows c.in_ok-check_links.ensures.rows

pub returns-clause-known : goal.returns-clause-known
returns-clause-known g c = λ disk shows knows. c.in_ok-now.ensures.known disk shows knows
