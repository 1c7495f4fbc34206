use Rattle.std.proofs.Common.{◌∙◌, ℕ, subst}
use Rattle.images.specs.Roots.{whole}
use Rattle.images.specs.Soundness.{by_sizes}
use Rattle.loading.specs.Images.{inodes_of}
use Rattle.records.specs.Preparing.{HasGraph}
use Rattle.system.specs.Opening.{HoldsSome}
use Rattle.system.proofs.OpenLaws.{all_replayed, faultless_tree, has_image, has_volume, not_damaged, read_refused, saves, saves_within, stands_by_sizes, tree_read}
use Rattle.system.proofs.opening.read_image.Goals as goal

pub returns-in_err-check_snapshots-clause-has : goal.returns-in_err-check_snapshots-clause-has
returns-in_err-check_snapshots-clause-has g c disk nvram first last snapshots changes shows tells holds =
    not_damaged _ c.from_residual.result c.in_err-check_snapshots.field-0.0 c.from_residual.ensures.1
    (λ damaged. c.in_err-check_snapshots.ensures.damaged disk shows damaged holds.holds.sound.snapshots)

pub returns-in_err-map-clause-has : goal.returns-in_err-map-clause-has
returns-in_err-map-clause-has g c disk nvram first last snapshots changes shows tells holds =
    read_refused _ c.from_residual-in_err-map.result c.in_err-map.field-0.0 c.from_residual-in_err-map.ensures.1
    (c.in_err-map.ensures.loads disk (c.in_ok-check_snapshots.ensures.reads.same disk shows)
    (c.volumes_are_readable.ensures disk c.args.root.now first snapshots holds.holds) (holds.holds.sound.active.files 2).bytes.readable)

pub returns-in_err-log-clause-has : goal.returns-in_err-log-clause-has
returns-in_err-log-clause-has g c disk nvram first last snapshots changes shows tells holds =
    let r = c.args.root.now in
    let inodes = c.in_ok-map.field-0.inodes in
    let geometry = c.in_ok-map.ensures.geometry in
    let tested = c.in_ok-check_snapshots.ensures.reads in
    let count = c.in_ok-map.ensures.reads.count ∙ tested.count ∙ c.requires.size in
    let loaded = c.in_ok-map.ensures.loads disk (tested.same disk shows) (c.volumes_are_readable.ensures disk r first snapshots holds.holds)
    (holds.holds.sound.active.files 2).bytes.readable in
    read_refused _ c.from_residual-in_err-log.result c.in_err-log.field-0.0 c.from_residual-in_err-log.ensures.1
    (c.in_err-log.ensures.replays _ disk (inodes_of (whole disk r).active) first last changes nvram (c.in_ok-map.ensures.reads.same disk (tested.same disk shows))
    (has_volume disk r nvram first last snapshots changes c.args.saved c.requires.over holds inodes c.in_ok-map.field-0.map (g.B.Blocks.count c.load.new.blocks) geometry count loaded)
    tells (saves disk r nvram first last snapshots changes c.args.saved c.requires.over holds inodes geometry))

pub returns-clause-has : goal.returns-clause-has
returns-clause-has g c disk nvram first last snapshots changes shows tells holds =
    let r = c.args.root.now in
    let inodes = c.in_ok-map.field-0.inodes in
    let geometry = c.in_ok-map.ensures.geometry in
    let tested = c.in_ok-check_snapshots.ensures.reads in
    let count = c.in_ok-map.ensures.reads.count ∙ tested.count ∙ c.requires.size in
    let loaded = c.in_ok-map.ensures.loads disk (tested.same disk shows) (c.volumes_are_readable.ensures disk r first snapshots holds.holds)
    (holds.holds.sound.active.files 2).bytes.readable in
    let shown = c.in_ok-map.ensures.reads.same disk (tested.same disk shows) in
    let has = has_volume disk r nvram first last snapshots changes c.args.saved c.requires.over holds inodes c.in_ok-map.field-0.map (g.B.Blocks.count c.load.new.blocks) geometry count loaded in
    let saved = saves disk r nvram first last snapshots changes c.args.saved c.requires.over holds inodes geometry in
    let under = inodes_of (whole disk r).active in
    let did = c.in_ok-log.ensures.replays _ disk under first last changes nvram shown has tells saved in
    has_image disk r nvram first last snapshots changes c.args.saved c.requires.over holds inodes
    (record { inodes = c.replay.new.inodes; map = c.in_ok-map.field-0.map; log = c.in_ok-log.field-0.log; pledged = c.in_ok-log.field-0.pledged })
    (g.B.Blocks.count c.load.new.blocks) (c.in_ok-log.ensures.geometry ∙ geometry) count loaded did.0 did.1 did.2
    (c.in_ok-log.ensures.room _ disk under first last changes nvram shown has tells saved c.in_ok-map.ensures.clean) geometry

-- ---- without a fault

pub returns-in_err-check_snapshots-clause-faultless : goal.returns-in_err-check_snapshots-clause-faultless
returns-in_err-check_snapshots-clause-faultless g c disk nvram changes shows tells under =
    not_damaged _ c.from_residual.result c.in_err-check_snapshots.field-0.0 c.from_residual.ensures.1
    (λ damaged. c.in_err-check_snapshots.ensures.damaged disk shows damaged under.snapshots)

pub returns-in_err-map-clause-faultless : goal.returns-in_err-map-clause-faultless
returns-in_err-map-clause-faultless g c disk nvram changes shows tells under =
    let r = c.args.root.now in
    read_refused _ c.from_residual-in_err-map.result c.in_err-map.field-0.0 c.from_residual-in_err-map.ensures.1
    (c.in_err-map.ensures.loads disk (c.in_ok-check_snapshots.ensures.reads.same disk shows)
    (tree_read disk r nvram c.args.saved c.requires.over (faultless_tree r (whole disk r) nvram changes under)) under.readable)

pub returns-in_err-log-clause-faultless : goal.returns-in_err-log-clause-faultless
returns-in_err-log-clause-faultless g c disk nvram changes shows tells under =
    let r = c.args.root.now in
    let over = c.requires.over in
    let inodes = c.in_ok-map.field-0.inodes in
    let geometry = c.in_ok-map.ensures.geometry in
    let tested = c.in_ok-check_snapshots.ensures.reads in
    let count = c.in_ok-map.ensures.reads.count ∙ tested.count ∙ c.requires.size in
    let loaded = c.in_ok-map.ensures.loads disk (tested.same disk shows) (tree_read disk r nvram c.args.saved over (faultless_tree r (whole disk r) nvram changes under)) under.readable in
    let graph : HasGraph r.geometry.inodes under.log.first = record {
      graph = c.faultless_trees_hold_graphs.ensures.graph disk r under.log.first over.root under.active under.log.holds;
      numbers = c.faultless_trees_hold_graphs.ensures.numbers disk r under.log.first over.root under.active under.log.holds;
    } in
    read_refused _ c.from_residual-in_err-log.result c.in_err-log.field-0.0 c.from_residual-in_err-log.ensures.1
    (c.in_err-log.ensures.replays by_sizes disk (inodes_of (whole disk r).active) under.log.first under.log.last changes nvram (c.in_ok-map.ensures.reads.same disk (tested.same disk shows))
    (stands_by_sizes disk r nvram c.args.saved over inodes c.in_ok-map.field-0.map (g.B.Blocks.count c.load.new.blocks) geometry count loaded under.log.first under.log.holds graph)
    tells (saves_within disk r nvram c.args.saved over inodes geometry changes under.log))

-- ---- whatever else the image holds

pub returns-clause-found : goal.returns-clause-found
returns-clause-found g c disk nvram shows tells =
    let r = c.args.root.now in
    let over = c.requires.over in
    let tested = c.in_ok-check_snapshots.ensures in
    record {
      held = subst (λ (n : ℕ). HoldsSome c.in_ok-log.field-0.log n nvram) over.generation (c.in_ok-log.ensures.holds nvram tells);
      snapshots = tested.snapshots disk shows;
      replayed = λ tree.
          let inodes = c.in_ok-map.field-0.inodes in
          let geometry = c.in_ok-map.ensures.geometry in
          let count = c.in_ok-map.ensures.reads.count ∙ tested.reads.count ∙ c.requires.size in
          let loaded = c.in_ok-map.ensures.loads disk (tested.reads.same disk shows) (tree_read disk r nvram c.args.saved over tree) tree.readable in
          let first = c.faultless_trees_hold_graphs.ensures.holds disk r tree.active in
          let graph : HasGraph r.geometry.inodes first.0 = record {
            graph = c.faultless_trees_hold_graphs.ensures.graph disk r first.0 over.root tree.active first.1;
            numbers = c.faultless_trees_hold_graphs.ensures.numbers disk r first.0 over.root tree.active first.1;
          } in
          let settled = inodes_of (whole disk r).active in
          let shown = c.in_ok-map.ensures.reads.same disk (tested.reads.same disk shows) in
          let stands = stands_by_sizes disk r nvram c.args.saved over inodes c.in_ok-map.field-0.map (g.B.Blocks.count c.load.new.blocks) geometry count loaded first.0 first.1 graph in
          let some = c.in_ok-log.ensures.applies by_sizes disk settled first.0 nvram shown stands tells in
          let did = c.in_ok-log.ensures.replays by_sizes disk settled first.0 some.1 some.0 nvram shown stands tells some.2 in
          all_replayed disk r nvram c.args.saved over inodes c.replay.new.inodes (g.B.Blocks.count c.load.new.blocks) c.in_ok-log.field-0.log geometry count some.0 first.0 some.1 first.1 some.2 did.0 did.1;
    }
