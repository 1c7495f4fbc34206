use Rattle.std.proofs.Common.{◌≡◌, ◌∙◌, ℕ, Bool, true, false, Err, None, ap, refl, subst, sym}
use Rattle.std.specs.Prelude.{IsFalse, MatchResult}
use Rattle.std.specs.Option.{option_map}
use Rattle.layout.specs.Places.{Blocks, blocks_of}
use Rattle.model.specs.States.{State}
use Rattle.model.specs.Steps.{has_open_below}
use Rattle.model.specs.Trees.{Tree}
use Rattle.model.specs.declared.limits.TheConstants.{OPEN_FILES}
use Rattle.descriptors.specs.Files.{description_of}
use Rattle.descriptors.specs.Tables.{open_at, table_of}
use Rattle.descriptors.specs.declared.table.Descriptors.{Descriptors}
use Rattle.snapshots.specs.Prepared.{IsPreparedOn, Refuses, TellsOpen, command_of}
use Rattle.system.specs.Systems.{disk_of}
use Rattle.system.proofs.LookedLaws.{reads_nothing}
use Rattle.system.proofs.CheckpointLaws.{glanced, not_glanced}
use Rattle.system.proofs.ViewLaws.{snapshots_of, stays_read}
use Rattle.system.proofs.system.System.prepare_snapshot.Goals as goal

-- what the table tells of a state
tells_open : (files : Descriptors) (s : State) → s.tree.descriptors ≡ table_of files → (has_open : Bool) → ((t : Tree) → t.descriptors ≡ table_of files → has_open ≡ has_open_below t OPEN_FILES)
    → (IsFalse has_open → (fd : ℕ) → open_at files fd ≡ None) → TellsOpen has_open s
tells_open files s opened true tells closed = sym (tells s.tree opened)
tells_open files s opened false tells closed = opened ∙ (λ i fd. option_map description_of (closed refl fd i))

pub returns-in-Ok-clause-glances : goal.returns-in-Ok-clause-glances
returns-in-Ok-clause-glances g c =
    let fs = c.args.self.now in
    let told = c.in-Ok.ensures in
    let reads = told.reads.reads fs.blocks (reads_nothing g.S.Station fs.blocks) in
    glanced fs _ reads.below refl (λ s served. (stays_read {G = g.S.Station} fs c.prepare_snapshot.new.blocks s reads told.reads.same served, refl)) _ told.reads.counted

pub returns-in-Ok-clause-tests : goal.returns-in-Ok-clause-tests
returns-in-Ok-clause-tests g c = λ s served.
    let fs = c.args.self.now in
    let d = blocks_of (disk_of {G = g.S.Station} fs) in
    let told = c.in-Ok.ensures in
    subst (λ (disk : Blocks). MatchResult c.in-Ok.tested (IsPreparedOn fs.root disk s) (Refuses s (command_of c.args.request.now))) (told.reads.same d served.shows).is
    (told.tests d served.shows served.first served.snapshots served.under.holds s (ap (λ (u : State). u.limits) served.state) (snapshots_of {G = g.S.Station} fs s served)
    (tells_open fs.files s served.opened c.has_open-has_open.result c.has_open-has_open.ensures.tells c.has_open-has_open.ensures.closed))

pub returns-in-Err-clause-glances : goal.returns-in-Err-clause-glances
returns-in-Err-clause-glances g c =
    let fs = c.args.self.now in
    let d = blocks_of (disk_of {G = g.S.Station} fs) in
    let told = c.in-Err.ensures in
    let reads = told.reads.reads fs.blocks (reads_nothing g.S.Station fs.blocks) in
    not_glanced fs _ reads.below refl (λ s served. (stays_read {G = g.S.Station} fs c.prepare_snapshot.new.blocks s reads told.reads.same served, refl)) c.in-Err.error _ c.call_error.ensures told.reads.device
    (λ s served is. told.damaged d served.shows served.first served.snapshots served.under.holds (ap (λ e. Err e) is))

pub invariant_of-self : goal.invariant_of-self
invariant_of-self g c =
    let f = c.args.self.now in
    let reads = c.prepare_snapshot.ensures.reads.reads f.blocks (reads_nothing g.S.Station f.blocks) in
    record {
      sectors = reads.below.same.sectors ∙ f.sectors;
      nvram = reads.below.same.nvram_bytes ∙ f.nvram;
      half = f.half;
      sizes = f.sizes;
      count = f.count;
      counted = f.counted;
      few = f.few;
      numbers = f.numbers;
      is_root = f.is_root;
    }
