use Rattle.std.proofs.Common.{◌≡◌, ◌∙◌, ◌+◌, ◌*◌, ℕ, arith, refl, sym, subst}
use Rattle.layout.specs.Limits.{Sizes}
use Rattle.layout.specs.StateLimits.{limits_of}
use Rattle.model.specs.Records.{cost_of_all, count_orphans}
use Rattle.images.specs.Roots.{whole}
use Rattle.images.specs.Soundness.{by_sizes}
use Rattle.loading.specs.Images.{AreInodesIn, inodes_of}
use Rattle.replay.specs.Volumes.{HasVolumeIn}
use Rattle.checker.specs.declared.fault.Fault.TheVariants as faults
use Rattle.checker.specs.declared.fault.TreeFault.TheVariants.{InodeMap}
use Rattle.checker.proofs.LogLaws.{failed, has_volume, is_logged, lead_over, load_device, loaded, log_leads, not_loaded, refuted}
use Rattle.checker.proofs.ReadLaws.{looked, looked_more, looked_none, looked_of, looks_ok, looks_passed}
use Rattle.checker.proofs.log.replay_saved.Goals as goal

pub returns-in_err-inodes-clause-reads : goal.returns-in_err-inodes-clause-reads
returns-in_err-inodes-clause-reads g c =
    looks_passed {G = g.B.Blocks} c.from_residual.result (λ h. h) (λ x is. is) c.from_residual.ensures.1 (looked_none c.args.blocks.now)
    (looked_of g.met.B.Blocks.reads_nothing g.met.B.UncachedReads.grows c.load_inodes-loaded.ensures.reads)
    (load_device (faults.Tree InodeMap) c.load_inodes-loaded.result c.in_err-inodes.field-0.0 c.in_err-inodes.ensures c.load_inodes-loaded.ensures.reads.device)

pub returns-in_err-inodes-clause-passes : goal.returns-in_err-inodes-clause-passes
returns-in_err-inodes-clause-passes g c disk nvram shows tells faultless within =
    not_loaded _ _ _ (faults.Tree InodeMap) c.load_inodes-loaded.result c.in_err-inodes.field-0.0 c.from_residual.result c.from_residual.ensures.1 c.in_err-inodes.ensures
    (c.load_inodes-loaded.ensures.loads by_sizes disk shows c.args.root.now refl refl refl (record { sound = (faultless.grammar, faultless.numbers); within = within; root = faultless.grammar.root }))

pub returns-in_err-first-clause-passes : goal.returns-in_err-first-clause-passes
returns-in_err-first-clause-passes g c disk nvram shows tells faultless within =
    let r = c.args.root.now in
    let w = whole disk r in
    let saved = c.args.saved.now in
    let told = c.load_inodes-loaded.ensures.loads by_sizes disk shows r refl refl refl (record { sound = (faultless.grammar, faultless.numbers); within = within; root = faultless.grammar.root }) in
    let are = loaded (AreInodesIn by_sizes disk r.version r.geometry w.active) _ (faults.Tree InodeMap) c.load_inodes-loaded.result c.in_ok-inodes.inodes c.in_ok-inodes.ensures told in
    let graphs = c.faultless_trees_hold_graphs.ensures in
    let read = c.load_inodes-loaded.ensures.reads in
    let more = c.count_orphans-counted.ensures.reads in
    let shows1 = more.same disk (read.same disk shows) in
    let size = more.count ∙ (read.count ∙ c.requires.size) in
    failed r w nvram c.from_residual-in_err-first.result c.in_err-first.field-0.0 faultless c.from_residual-in_err-first.ensures.1 c.in_err-first.ensures.faults (λ changes log.
    let v = log.first in
    let has = has_volume disk r (g.B.Blocks.count c.count_orphans-counted.new.blocks) c.in_ok-inodes.inodes v size are log.holds
    (graphs.graph disk r v c.requires.root faultless log.holds) (graphs.numbers disk r v c.requires.root faultless log.holds) in
    let both = log_leads r w nvram saved c.requires.half c.requires.generation tells changes log in
    refuted (λ _. HasVolumeIn by_sizes (g.B.Blocks.count c.count_orphans-counted.new.blocks) disk (inodes_of w.active) c.replay_half.new.inodes both.mid) c.in_err-first.field-0.0
    (c.in_err-first.ensures.replays disk (inodes_of w.active) v both.mid both.one shows1 has
    (lead_over c.in_ok-inodes.inodes.geometry r.geometry c.first_records.result.now saved.first.records both.one v both.mid are.geometry c.first_records.ensures.records both.leads)))

pub returns-in_err-second-clause-passes : goal.returns-in_err-second-clause-passes
returns-in_err-second-clause-passes g c disk nvram shows tells faultless within =
    let r = c.args.root.now in
    let w = whole disk r in
    let saved = c.args.saved.now in
    let told = c.load_inodes-loaded.ensures.loads by_sizes disk shows r refl refl refl (record { sound = (faultless.grammar, faultless.numbers); within = within; root = faultless.grammar.root }) in
    let are = loaded (AreInodesIn by_sizes disk r.version r.geometry w.active) _ (faults.Tree InodeMap) c.load_inodes-loaded.result c.in_ok-inodes.inodes c.in_ok-inodes.ensures told in
    let graphs = c.faultless_trees_hold_graphs.ensures in
    let read = c.load_inodes-loaded.ensures.reads in
    let more = c.count_orphans-counted.ensures.reads in
    let shows1 = more.same disk (read.same disk shows) in
    let size = more.count ∙ (read.count ∙ c.requires.size) in
    let one = c.in_ok-first.ensures in
    failed r w nvram c.from_residual-in_err-second.result c.in_err-second.field-0.0 faultless c.from_residual-in_err-second.ensures.1 c.in_err-second.ensures.faults (λ changes log.
    let v = log.first in
    let has = has_volume disk r (g.B.Blocks.count c.count_orphans-counted.new.blocks) c.in_ok-inodes.inodes v size are log.holds
    (graphs.graph disk r v c.requires.root faultless log.holds) (graphs.numbers disk r v c.requires.root faultless log.holds) in
    let both = log_leads r w nvram saved c.requires.half c.requires.generation tells changes log in
    let mid = one.replays disk (inodes_of w.active) v both.mid both.one shows1 has
    (lead_over c.in_ok-inodes.inodes.geometry r.geometry c.first_records.result.now saved.first.records both.one v both.mid are.geometry c.first_records.ensures.records both.leads) in
    refuted (λ _. HasVolumeIn by_sizes (g.B.Blocks.count c.replay_half.new.blocks) disk (inodes_of w.active) c.replay_half-2.new.inodes log.last) c.in_err-second.field-0.0
    (c.in_err-second.ensures.replays disk (inodes_of w.active) both.mid log.last both.two (one.reads.same disk shows1)
    (subst (λ (n : ℕ). HasVolumeIn by_sizes n disk (inodes_of w.active) c.replay_half.new.inodes both.mid) (sym one.reads.count) mid)
    (lead_over c.replay_half.new.inodes.geometry r.geometry c.second_records.result.now saved.second.records both.two both.mid log.last (one.geometry ∙ are.geometry) c.second_records.ensures.records both.leads_on)))

pub returns-clause-passes : goal.returns-clause-passes
returns-clause-passes g c disk nvram shows tells faultless within =
    let r = c.args.root.now in
    let w = whole disk r in
    let saved = c.args.saved.now in
    let sized = c.faultless_trees_hold_graphs.ensures.holds disk r faultless in
    let v = sized.0 in
    let holds = sized.1 in
    let told = c.load_inodes-loaded.ensures.loads by_sizes disk shows r refl refl refl (record { sound = (faultless.grammar, faultless.numbers); within = within; root = faultless.grammar.root }) in
    let are = loaded (AreInodesIn by_sizes disk r.version r.geometry w.active) _ (faults.Tree InodeMap) c.load_inodes-loaded.result c.in_ok-inodes.inodes c.in_ok-inodes.ensures told in
    let graphs = c.faultless_trees_hold_graphs.ensures in
    let read = c.load_inodes-loaded.ensures.reads in
    let more = c.count_orphans-counted.ensures.reads in
    let shows1 = more.same disk (read.same disk shows) in
    let size = more.count ∙ (read.count ∙ c.requires.size) in
    let has = has_volume disk r (g.B.Blocks.count c.count_orphans-counted.new.blocks) c.in_ok-inodes.inodes v size are holds
    (graphs.graph disk r v c.requires.root faultless holds) (graphs.numbers disk r v c.requires.root faultless holds) in
    let one = c.in_ok-first.ensures in
    let first = one.applies disk (inodes_of w.active) v shows1 has in
    let second = c.in_ok-second.ensures.applies disk (inodes_of w.active) first.1 (one.reads.same disk shows1)
    (subst (λ (n : ℕ). HasVolumeIn by_sizes n disk (inodes_of w.active) c.replay_half.new.inodes first.1) (sym one.reads.count) first.4) in
    let names = loaded (λ k. k ≡ count_orphans c.in_ok-inodes.inodes.geometry.inodes v) _
    (faults.Tree InodeMap) c.count_orphans-counted.result c.in_ok-orphans.orphans
    c.in_ok-orphans.ensures (c.count_orphans-counted.ensures.counts by_sizes disk
    (inodes_of w.active) v (read.same disk shows) (has_volume disk r
    (g.B.Blocks.count c.load_inodes-loaded.new.blocks) c.in_ok-inodes.inodes v
    (read.count ∙ c.requires.size) are holds
    (graphs.graph disk r v c.requires.root faultless holds)
    (graphs.numbers disk r v c.requires.root faultless holds))) in
    let pledged : c.cost_of_orphans.result + c.in_ok-first.first.pledged + c.in_ok-second.second.pledged
    ≡ 4 * c.in_ok-orphans.orphans + c.in_ok-first.first.pledged + c.in_ok-second.second.pledged =
    omega (arith, c.cost_of_orphans.ensures) in
    is_logged r w nvram saved c.requires.half c.requires.generation tells v holds first.0 second.0
    first.1 second.1 c.in_ok-orphans.orphans _ c.in_ok-first.first c.in_ok-second.second
    (lead_over r.geometry c.in_ok-inodes.inodes.geometry saved.first.records c.first_records.result.now first.0 v first.1 (sym are.geometry) (sym c.first_records.ensures.records) first.2)
    (lead_over r.geometry c.replay_half.new.inodes.geometry saved.second.records c.second_records.result.now second.0 first.1 second.1 (sym (one.geometry ∙ are.geometry)) (sym c.second_records.ensures.records) second.2)
    (subst (λ (x : Sizes). c.in_ok-orphans.orphans ≡ count_orphans x.inodes v) are.geometry names)
    first.3 second.3
    (subst (λ (x : Sizes). c.in_ok-first.first.pledged ≡ cost_of_all (limits_of x).costs v first.0) are.geometry first.5)
    (subst (λ (x : Sizes). c.in_ok-second.second.pledged ≡ cost_of_all (limits_of x).costs first.1 second.0) (one.geometry ∙ are.geometry) second.5)
    refl pledged

pub returns-in_err-orphans-clause-reads : goal.returns-in_err-orphans-clause-reads
returns-in_err-orphans-clause-reads g c =
    looks_passed {G = g.B.Blocks} c.from_residual-in_err-orphans.result (λ h. h) (λ x is. is) c.from_residual-in_err-orphans.ensures.1
    (looked_of g.met.B.Blocks.reads_nothing g.met.B.UncachedReads.grows c.load_inodes-loaded.ensures.reads)
    (looked_of g.met.B.Blocks.reads_nothing g.met.B.UncachedReads.grows c.count_orphans-counted.ensures.reads)
    (load_device (faults.Tree InodeMap) c.count_orphans-counted.result c.in_err-orphans.field-0.0 c.in_err-orphans.ensures c.count_orphans-counted.ensures.reads.device)

pub returns-in_err-orphans-clause-passes : goal.returns-in_err-orphans-clause-passes
returns-in_err-orphans-clause-passes g c disk nvram shows tells faultless within =
    let r = c.args.root.now in
    let w = whole disk r in
    let sized = c.faultless_trees_hold_graphs.ensures.holds disk r faultless in
    let v = sized.0 in
    let holds = sized.1 in
    let told = c.load_inodes-loaded.ensures.loads by_sizes disk shows r refl refl refl (record { sound = (faultless.grammar, faultless.numbers); within = within; root = faultless.grammar.root }) in
    let are = loaded (AreInodesIn by_sizes disk r.version r.geometry w.active) _ (faults.Tree InodeMap) c.load_inodes-loaded.result c.in_ok-inodes.inodes c.in_ok-inodes.ensures told in
    let graphs = c.faultless_trees_hold_graphs.ensures in
    let read = c.load_inodes-loaded.ensures.reads in
    not_loaded _ _ _ (faults.Tree InodeMap) c.count_orphans-counted.result c.in_err-orphans.field-0.0 c.from_residual-in_err-orphans.result c.from_residual-in_err-orphans.ensures.1 c.in_err-orphans.ensures
    (c.count_orphans-counted.ensures.counts by_sizes disk (inodes_of w.active) v
    (read.same disk shows) (has_volume disk r (g.B.Blocks.count c.load_inodes-loaded.new.blocks)
    c.in_ok-inodes.inodes v (read.count ∙ c.requires.size) are holds
    (graphs.graph disk r v c.requires.root faultless holds)
    (graphs.numbers disk r v c.requires.root faultless holds)))

pub returns-in_err-first-clause-reads : goal.returns-in_err-first-clause-reads
returns-in_err-first-clause-reads g c =
    looks_passed {G = g.B.Blocks} c.from_residual-in_err-first.result (λ h. h) (λ x is. is) c.from_residual-in_err-first.ensures.1
    (looked_more (looked_of g.met.B.Blocks.reads_nothing g.met.B.UncachedReads.grows c.load_inodes-loaded.ensures.reads) (looked_of g.met.B.Blocks.reads_nothing g.met.B.UncachedReads.grows c.count_orphans-counted.ensures.reads)) (looked c.in_err-first.ensures.reads) c.in_err-first.ensures.reads.device

pub returns-in_err-second-clause-reads : goal.returns-in_err-second-clause-reads
returns-in_err-second-clause-reads g c =
    looks_passed {G = g.B.Blocks} c.from_residual-in_err-second.result (λ h. h) (λ x is. is) c.from_residual-in_err-second.ensures.1
    (looked_more (looked_more (looked_of g.met.B.Blocks.reads_nothing g.met.B.UncachedReads.grows c.load_inodes-loaded.ensures.reads) (looked_of g.met.B.Blocks.reads_nothing g.met.B.UncachedReads.grows c.count_orphans-counted.ensures.reads)) (looked c.in_ok-first.ensures.reads)) (looked c.in_err-second.ensures.reads) c.in_err-second.ensures.reads.device

pub returns-clause-reads : goal.returns-clause-reads
returns-clause-reads g c =
    looks_ok (looked_more (looked_more (looked_of g.met.B.Blocks.reads_nothing g.met.B.UncachedReads.grows c.load_inodes-loaded.ensures.reads) (looked_of g.met.B.Blocks.reads_nothing g.met.B.UncachedReads.grows c.count_orphans-counted.ensures.reads)) (looked_more (looked c.in_ok-first.ensures.reads) (looked c.in_ok-second.ensures.reads)))
