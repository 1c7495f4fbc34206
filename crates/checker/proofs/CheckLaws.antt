-- What a check comes to.
use Rattle.std.proofs.Common.{◌≡◌, ◌∙◌, ◌+◌, ◌≤◌, ℕ, zero, suc, arith, List, Option, Some, None, length, refl, sym, subst}
use Rattle.std.specs.Prelude.{◌↔◌, IfSome, IsSome, IsTrue, count_by}
use Rattle.station.specs.Moments.{IsSameStation, Meaning}
use Rattle.layout.specs.Opens.{IsNewest}
use Rattle.layout.specs.Places.{blocks_of}
use Rattle.layout.specs.declared.TheConstants.{SLOT_A, SLOT_B}
use Rattle.layout.specs.declared.pointer.Pointer.TheVariants.{Block, Hole}
use Rattle.layout.specs.declared.root.Root.{Root}
use Rattle.layout.specs.StateLimits.{fixed_of}
use Rattle.images.specs.Faults.{HasRoots, IsFaultless}
use Rattle.images.specs.Roots.{Whole, slot, whole}
use Rattle.images.specs.Snapshots.{AreSnapshots}
use Rattle.images.specs.Soundness.{IsWithin}
use Rattle.loading.specs.Slots.{FitsStation}
use Rattle.checker.specs.Checks.{AreFaultless, IsFaultlessBy, Reports, is_block, report_of}
use Rattle.checker.specs.Findings.{IsFaultIn, IsFinding, IsFindingUnder}
use Rattle.checker.specs.Logs.{IsLogged}
use Rattle.checker.specs.declared.log.Logged.{Logged}
use Rattle.checker.specs.declared.fault.Fault.{Fault}
use Rattle.checker.specs.declared.fault.Fault.TheVariants as faults
use Rattle.checker.specs.declared.fault.Finding.{Finding}
use Rattle.checker.specs.declared.fault.TreeName.{TreeName}
use Rattle.checker.specs.declared.report.Summary.{Summary}

-- ---- under a root

-- nothing was found
pub faultless_by : (r : Root) (w : Whole) (nvram : List ℕ) (s : Summary) (free : ℕ)
    (logged : Logged) → AreSnapshots r w → AreFaultless r w free → IsLogged r w nvram logged
    → s.generation ≡ r.generation → s.snapshots ≡ count_by is_block r.snapshots
    → s.records ≡ logged.records → s.free ≡ free
    → IsTrue s.has_reserve ↔ (logged.pledged + fixed_of r.geometry.blocks ≤ free)
    → IsFaultlessBy r w nvram s
faultless_by r w nvram s free logged snapshots trees told generation slots records left room = record {
  changes = told.changes;
  under = record {
    snapshots = snapshots;
    active = trees.trees 0 tt;
    frozen = frozen;
    within = trees.within 0 tt;
    frozen_within = frozen_within;
    readable = trees.readable;
    exact = trees.exact;
    log = told.log;
  };
  figures = record {
    generation_is = generation;
    snapshots_are = slots;
    records_are = records ∙ told.records_are;
    free_is = left ∙ trees.free_is;
    reserve_is = (
      λ yes. omega (arith, room.0 yes, told.pledged_is, trees.free_is),
      λ has. room.1 (omega (arith, has, told.pledged_is, trees.free_is)),
    );
  };
}
  where
    frozen : (k block : ℕ) → slot r k ≡ Block block → IsFaultless r.geometry (w.frozen k)
    frozen zero block there = let none : Hole ≡ Block block = there in absurd (cc)
    frozen (suc k) block there = trees.trees (suc k) (block, there)

    frozen_within : (k block : ℕ) → slot r k ≡ Block block → IsWithin r.version (w.frozen k)
    frozen_within zero block there = let none : Hole ≡ Block block = there in absurd (cc)
    frozen_within (suc k) block there = trees.within (suc k) (block, there)

-- ---- in images

none_some : IsSome {T = Finding} None → ⊥
none_some is = cc

no_summary : IsSome {T = Summary} None → ⊥
no_summary is = cc

pub has_roots : (m n : Meaning) (r : Root) → IsSameStation m n → length m.seen.nvram ≡ m.nvram_bytes → IsNewest r (m.seen.disk SLOT_A) (m.seen.disk SLOT_B) → FitsStation r n → HasRoots r m.sectors m.seen.disk m.seen.nvram
has_roots m n r same size newest fits =
    record { newest = newest; sizes = record { disk = sym same.sectors ∙ fits.sectors; nvram = size ∙ sym same.nvram_bytes ∙ fits.nvram } }

finding_in : (sectors : ℕ) (disk : ℕ → List ℕ) (nvram : List ℕ) (r : Root) (tree : TreeName) (fault : Fault) → HasRoots r sectors disk nvram → IsFindingUnder r (whole (blocks_of disk) r) nvram tree fault
    → IsFaultIn sectors disk nvram tree fault
finding_in sectors disk nvram r tree (faults.Roots found) has is = absurd is
finding_in sectors disk nvram r tree (faults.Snapshot k block found) has is = (r, has, is)
finding_in sectors disk nvram r tree (faults.Tree found) has is = (r, has, is)
finding_in sectors disk nvram r tree (faults.Shared block first second) has is = (r, has, is)
finding_in sectors disk nvram r tree (faults.MapBit block is_entry should) has is = (r, has, is)
finding_in sectors disk nvram r tree (faults.InodeMap number is_taken) has is = (r, has, is)
finding_in sectors disk nvram r tree (faults.Directory found) has is = (r, has, is)
finding_in sectors disk nvram r tree (faults.Links number names links) has is = (r, has, is)
finding_in sectors disk nvram r tree (faults.Log found) has is = (r, has, is)

-- what was found under the newest root
pub finding_of : (sectors : ℕ) (disk : ℕ → List ℕ) (nvram : List ℕ) (r : Root) (finding : Finding) → HasRoots r sectors disk nvram
    → IsFindingUnder r (whole (blocks_of disk) r) nvram finding.tree finding.fault → IsFinding sectors disk nvram finding
finding_of sectors disk nvram r finding has is = finding_in sectors disk nvram r finding.tree finding.fault has is

-- the roots have a fault
pub reports_roots : (sectors : ℕ) (disk : ℕ → List ℕ) (nvram : List ℕ) (first : Option Finding) → IsSome first → IfSome first (IsFinding sectors disk nvram) → Reports sectors disk nvram (report_of first None)
reports_roots sectors disk nvram None some is = absurd (none_some some)
reports_roots sectors disk nvram (Some finding) some is = is

-- what was found under the newest root, or nothing
pub reports_under : (sectors : ℕ) (disk d : ℕ → List ℕ) (nvram n : List ℕ) (r : Root) (first : Option Finding) (summary : Option Summary) → d ≡ disk → n ≡ nvram → HasRoots r sectors disk nvram
    → IfSome first (λ f. IsFindingUnder r (whole (blocks_of d) r) n f.tree f.fault) → (first ≡ None → IfSome summary (IsFaultlessBy r (whole (blocks_of d) r) n)) → (first ≡ None → IsSome summary)
    → Reports sectors disk nvram (report_of first summary)
reports_under sectors disk d nvram n r (Some finding) summary same_disk same has found faultless some =
    finding_of sectors disk nvram r finding has
    (subst (λ (x : List ℕ). IsFindingUnder r (whole (blocks_of disk) r) x finding.tree finding.fault) same
    (subst (λ (x : ℕ → List ℕ). IsFindingUnder r (whole (blocks_of x) r) n finding.tree finding.fault) same_disk found))
reports_under sectors disk d nvram n r None None same_disk same has found faultless some = absurd (no_summary (some refl))
reports_under sectors disk d nvram n r None (Some summary) same_disk same has found faultless some =
    let by = subst (λ (x : List ℕ). IsFaultlessBy r (whole (blocks_of disk) r) x summary) same (subst (λ (x : ℕ → List ℕ). IsFaultlessBy r (whole (blocks_of x) r) n summary) same_disk (faultless refl)) in
    record { root = r; changes = by.changes; roots = has; under = by.under; figures = by.figures }
