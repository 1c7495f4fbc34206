use Rattle.std.proofs.Common.{◌≡◌, ◌∙◌, ℕ, List, None, rules, sym, subst}
use Rattle.std.specs.Prelude.{IsTrue}
use Rattle.station.specs.Images.{Images}
use Rattle.buffers.specs.Disks.{ReadsOn, ShowsDisk}
use Rattle.buffers.specs.Readings.{reads_none, reads_twice}
use Rattle.images.specs.Faults.{IsFaultless}
use Rattle.images.specs.Roots.{whole}
use Rattle.images.specs.Snapshots.{AreSnapshots}
use Rattle.images.specs.Soundness.{IsWithin}
use Rattle.checker.specs.Checks.{AreFindings}
use Rattle.checker.specs.Findings.{IsFindingUnder}
use Rattle.checker.specs.Logs.{IsLogged}
use Rattle.checker.specs.declared.fault.TreeName.TheVariants.{Image}
use Rattle.checker.proofs.CheckLaws.{faultless_by}
use Rattle.checker.proofs.FindingLaws.{if_found, more_found}
use Rattle.checker.proofs.checking.check_image.Given.{Over}
use Rattle.checker.proofs.checking.check_image.Goals as goal
use Rattle.checker.proofs.checking.check_image.Goals.{In_ok-is_faultless}

-- ---- what is known when the trees were looked at

reads : (g : Over) (c : In_ok-is_faultless g) → ReadsOn (g.S.Station.meaning c.args.blocks.now.station) (g.S.Station.meaning c.check_trees.new.blocks.station)
reads g c = c.check_trees.ensures.reads.reads c.args.blocks.now (c.check_snapshots.ensures.reads.reads c.args.blocks.now (reads_none _))

module _ (g : Over) (c : In_ok-is_faultless g) (disk : ℕ → List ℕ) (shows : ShowsDisk (g.S.Station.meaning c.args.blocks.now.station) c.args.blocks.now.kept disk) where
  snapshots : AreSnapshots c.args.root.now (whole disk c.args.root.now)
  snapshots =
      let nothing : c.check_snapshots.new.findings.first ≡ None = search rules in
      c.in_ok-check_snapshots.ensures.none disk shows nothing

  found : AreFindings c.args.root.now (whole disk c.args.root.now) (g.S.Station.meaning c.args.blocks.now.station).seen.nvram c.check_trees.new.findings.first
  found =
      let nvram = (g.S.Station.meaning c.args.blocks.now.station).seen.nvram in
      let none : AreFindings c.args.root.now (whole disk c.args.root.now) nvram c.args.findings.now.first = subst (AreFindings c.args.root.now (whole disk c.args.root.now) nvram) (sym c.requires.none) tt in
      c.in_ok-is_faultless.ensures.found disk nvram (c.check_snapshots.ensures.reads.same disk shows) snapshots (c.in_ok-check_snapshots.ensures.found disk nvram shows none)

  newest : IsTrue c.in_ok-is_faultless.is_faultless → IsFaultless c.args.root.now.geometry (whole disk c.args.root.now).active × IsWithin c.args.root.now.version (whole disk c.args.root.now).active
  newest = c.in_ok-is_faultless.ensures.newest disk (c.check_snapshots.ensures.reads.same disk shows) snapshots

-- ---- reads

pub returns-in_err-check_snapshots-clause-reads : goal.returns-in_err-check_snapshots-clause-reads
returns-in_err-check_snapshots-clause-reads g c = c.check_snapshots.ensures.reads.reads c.args.blocks.now (reads_none _)

pub returns-then-is_some-clause-reads : goal.returns-then-is_some-clause-reads
returns-then-is_some-clause-reads g c = c.check_snapshots.ensures.reads.reads c.args.blocks.now (reads_none _)

pub returns-in_err-is_faultless-clause-reads : goal.returns-in_err-is_faultless-clause-reads
returns-in_err-is_faultless-clause-reads g c = c.check_trees.ensures.reads.reads c.args.blocks.now (c.check_snapshots.ensures.reads.reads c.args.blocks.now (reads_none _))

pub returns-then-not-is_faultless-clause-reads : goal.returns-then-not-is_faultless-clause-reads
returns-then-not-is_faultless-clause-reads g c = reads g (goal.at.returns-then-not-is_faultless-clause-reads g c).In_ok-is_faultless

pub check_log-requires-clause-fits : goal.check_log-requires-clause-fits
check_log-requires-clause-fits g c =
    let same = (reads g (goal.at.check_log-requires-clause-fits g c).In_ok-is_faultless).same in
    record { sectors = same.sectors ∙ c.requires.fits.sectors; nvram = same.nvram_bytes ∙ c.requires.fits.nvram }

pub returns-in-Ok-clause-reads : goal.returns-in-Ok-clause-reads
returns-in-Ok-clause-reads g c = reads_twice _ _ _ (reads g (goal.at.returns-in-Ok-clause-reads g c).In_ok-is_faultless) c.check_log.ensures.reads

pub returns-in-Ok-2-clause-reads : goal.returns-in-Ok-2-clause-reads
returns-in-Ok-2-clause-reads g c = reads_twice _ _ _ (reads g (goal.at.returns-in-Ok-2-clause-reads g c).In_ok-is_faultless) c.check_log.ensures.reads

pub returns-in-Err-Fault-clause-reads : goal.returns-in-Err-Fault-clause-reads
returns-in-Err-Fault-clause-reads g c = reads_twice _ _ _ (reads g (goal.at.returns-in-Err-Fault-clause-reads g c).In_ok-is_faultless) c.check_log.ensures.reads

pub returns-in-Err-NoMemory-clause-reads : goal.returns-in-Err-NoMemory-clause-reads
returns-in-Err-NoMemory-clause-reads g c = reads_twice _ _ _ (reads g (goal.at.returns-in-Err-NoMemory-clause-reads g c).In_ok-is_faultless) c.check_log.ensures.reads

pub returns-in-Err-Device-clause-reads : goal.returns-in-Err-Device-clause-reads
returns-in-Err-Device-clause-reads g c = reads_twice _ _ _ (reads g (goal.at.returns-in-Err-Device-clause-reads g c).In_ok-is_faultless) c.check_log.ensures.reads

-- ---- what is found

pub returns-then-is_some-clause-found : goal.returns-then-is_some-clause-found
returns-then-is_some-clause-found g c disk shows =
    let r = c.args.root.now in
    let w = whole disk r in
    let nvram = (g.S.Station.meaning c.args.blocks.now.station).seen.nvram in
    let none : AreFindings r w nvram c.args.findings.now.first = subst (AreFindings r w nvram) (sym c.requires.none) tt in
    if_found r w nvram c.check_snapshots.new.findings.first (c.in_ok-check_snapshots.ensures.found disk nvram shows none)

pub returns-then-not-is_faultless-clause-found : goal.returns-then-not-is_faultless-clause-found
returns-then-not-is_faultless-clause-found g c disk shows = if_found _ _ _ c.check_trees.new.findings.first (found g (goal.at.returns-then-not-is_faultless-clause-found g c).In_ok-is_faultless disk shows)

pub returns-in-Ok-2-clause-found : goal.returns-in-Ok-2-clause-found
returns-in-Ok-2-clause-found g c disk shows = if_found _ _ _ c.check_trees.new.findings.first (found g (goal.at.returns-in-Ok-2-clause-found g c).In_ok-is_faultless disk shows)

pub returns-in-Ok-clause-faultless : goal.returns-in-Ok-clause-faultless
returns-in-Ok-clause-faultless g c disk shows clear =
    let done = (goal.at.returns-in-Ok-clause-faultless g c).In_ok-is_faultless in
    let r = c.args.root.now in
    let w = whole disk r in
    let nvram = (g.S.Station.meaning c.args.blocks.now.station).seen.nvram in
    let shows1 = c.check_snapshots.ensures.reads.same disk shows in
    let are = snapshots g done disk shows in
    let active = newest g done disk shows (search rules) in
    let told = c.in-Ok.ensures.passes disk (c.check_trees.ensures.reads.same disk shows1) active.0 active.1 in
    faultless_by r w nvram _ c.in_ok-is_faultless.free c.in-Ok.logged are
    (c.in_ok-is_faultless.ensures.faultless disk shows1 are clear)
    (subst (λ (i : Images). IsLogged r w i.nvram c.in-Ok.logged) ((reads g done).goes shows.honest).seen told) (search rules)
    c.count_snapshots.ensures (search rules) (search rules)
    c.has_reserve.ensures

pub returns-in-Err-Fault-clause-found : goal.returns-in-Err-Fault-clause-found
returns-in-Err-Fault-clause-found g c disk shows =
    let done = (goal.at.returns-in-Err-Fault-clause-found g c).In_ok-is_faultless in
    let r = c.args.root.now in
    let w = whole disk r in
    let nvram = (g.S.Station.meaning c.args.blocks.now.station).seen.nvram in
    let active = newest g done disk shows (search rules) in
    let shows2 = c.check_trees.ensures.reads.same disk (c.check_snapshots.ensures.reads.same disk shows) in
    let told = rw c.in-Err-Fault.field-0-is at (c.in-Err-Fault.ensures.passes disk shows2 active.0 active.1) in
    if_found r w nvram c.find.new.self.first
    (more_found r w nvram c.check_trees.new.findings.first c.find.new.self.first (record { tree = Image; fault = c.in-Err-Fault.fault }) c.find.ensures.first (found g done disk shows)
    (subst (λ (i : Images). IsFindingUnder r w i.nvram Image c.in-Err-Fault.fault) ((reads g done).goes shows.honest).seen told))
