-- Trees that are looked at to their end, one after the other.
use Rattle.std.proofs.Common.{◌≡◌, ◌*◌, ℕ, List, Option, Some}
use Rattle.std.specs.Int.{div_ceil}
use Rattle.layout.specs.Limits.{Sizes}
use Rattle.layout.specs.declared.root.Root.{Root}
use Rattle.images.specs.Roots.{Whole, whole}
use Rattle.checker.specs.Findings.{IsFindingUnder, IsNamedTree, IsTreeFinding, tree_in}
use Rattle.checker.specs.Trees.{HasEnded, IsRootOf, IsSeen, IsSeenTo}
use Rattle.checker.specs.declared.fault.Fault.{Fault}
use Rattle.checker.specs.declared.fault.Fault.TheVariants as faults
use Rattle.checker.specs.declared.fault.TreeName.{TreeName}
use Rattle.checker.specs.declared.fault.TreeName.TheVariants as trees
use Rattle.checker.specs.declared.nodes.Shared.{Shared}
use Rattle.checker.specs.declared.tree.Tree.{Tree}

-- a tree was looked at to its end
pub record IsEnded {B : Type 0} (Shows : B → (ℕ → List ℕ) → Type 0) (blocks : B) (count : ℕ) (s : Sizes) (shared : List (Option Shared)) (i : ℕ) (t q : Tree) : Type 0 where
  pub same : record t { fault = q.fault } ≡ q
  pub seen : (disk : ℕ → List ℕ) (r : Root) (marks : List ℕ) → Shows blocks disk → IsRootOf r s count
      → IsSeenTo disk r (div_ceil s.inodes 21) (21 * div_ceil s.inodes 21) marks shared t
      → HasEnded disk r marks q

-- a tree's fault, with its name
pub tree_finding : (r : Root) (w : Whole) (nvram : List ℕ) (tree : TreeName) (k : ℕ) (fault : Fault) → IsNamedTree r w tree k → IsTreeFinding r (tree_in w k) fault → IsFindingUnder r w nvram tree fault
tree_finding r w nvram tree k (faults.Roots found) named told = absurd told
tree_finding r w nvram tree k (faults.Snapshot slot block found) named told = absurd told
tree_finding r w nvram trees.Image k (faults.Tree found) named told = absurd named
tree_finding r w nvram trees.Newest k (faults.Tree found) named told = (k, named, told)
tree_finding r w nvram (trees.Snapshot slot name) k (faults.Tree found) named told = (k, named, told)
tree_finding r w nvram tree k (faults.Shared block first second) named told = (k, named, told)
tree_finding r w nvram tree k (faults.MapBit block is should) named told = absurd told
tree_finding r w nvram tree k (faults.InodeMap number is_taken) named told = (k, named, told)
tree_finding r w nvram tree k (faults.Directory found) named told = (k, named, told)
tree_finding r w nvram tree k (faults.Links number names links) named told = (k, named, told)
tree_finding r w nvram tree k (faults.Log found) named told = absurd told

pub seen_finding : (disk : ℕ → List ℕ) (r : Root) (marks nvram : List ℕ) (t : Tree) (fault : Fault) → IsSeen disk r marks t → t.fault ≡ Some fault → IsFindingUnder r (whole disk r) nvram t.name fault
seen_finding disk r marks nvram t fault seen is = tree_finding r (whole disk r) nvram t.name t.plane fault seen.tree.named (seen.fault fault is)
