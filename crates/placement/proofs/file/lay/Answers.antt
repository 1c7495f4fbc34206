use Rattle.std.proofs.Common.{rules, ℕ, ◌<◌, ◌≤◌, List, length, ap, subst, arith}
use Rattle.blocktree.specs.Places.{IsPath}
use Rattle.blocktree.specs.declared.place_map.PlaceMap.{PlaceMap}
use Rattle.placement.specs.Nodes.{height_of}
use Rattle.placement.proofs.PlacedLaws.{node_over, none_laid}
use Rattle.placement.proofs.SettledLaws.{NodeLaws, blocks_whole, paths_sound}
use Rattle.placement.proofs.StepLaws.{both_err, both_ok, place_ended, read_ended, reads_nothing}
use Rattle.placement.proofs.file.lay.Goals as goal

pub returns-then-file_level-eq0-clause-stands : goal.returns-then-file_level-eq0-clause-stands
returns-then-file_level-eq0-clause-stands g c = λ s disk base shows change known e has same. c.in_ok-small.ensures.stands s disk e shows change.ends

pub returns-then-file_level-eq0-clause-laid : goal.returns-then-file_level-eq0-clause-laid
returns-then-file_level-eq0-clause-laid g c =
    let nodes = c.in_ok-small.small.nodes in
    let none : height_of nodes ≤ 0 = omega (arith, ap (λ (xs : List PlaceMap). length xs) c.in_ok-small.ensures.none) in
    record {
      placed = none_laid c.args.draft.now c.args.settled.now nodes none;
      short = λ m i past. node_over nodes m i (omega (arith, none));
      kept = λ i some lt not. absurd (omega (arith, lt, c.in_ok-small.ensures.kept));
    }

pub returns-in_err-small-clause-damaged : goal.returns-in_err-small-clause-damaged
returns-in_err-small-clause-damaged g c = λ s disk base shows change blocks bad.
    let law = c.nodes_are_where_pointers_lead.ensures in
    let laws : NodeLaws = record { places = law.places; paths = law.paths _; past = law.past _; above = law.above } in
    let t = c.args.object.now.file.tree in
    c.in_err-small.ensures.damaged disk shows (search rules)
    (λ not kept. let low : 0 < t.count = omega (arith, kept, t.fits.1) in
    (subst (λ (n : ℕ). IsPath t.layout n disk t.pointers t.depth t.count 0) blocks (paths_sound laws s disk base t change.based change.sound 0 low), blocks_whole disk base t change.based change.sound.bytes.readable 0 low))

pub returns-clause-stands : goal.returns-clause-stands
returns-clause-stands g c = λ s disk base shows change known. c.in_ok-laid.ensures.stands s disk base change known

pub returns-in_err-small-clause-step : goal.returns-in_err-small-clause-step
returns-in_err-small-clause-step g c = both_err c.from_residual.result c.from_residual.ensures.1 (read_ended c.in_err-small.ensures.reads c.in_err-small.ensures.why)

pub returns-then-file_level-eq0-clause-step : goal.returns-then-file_level-eq0-clause-step
returns-then-file_level-eq0-clause-step g c = both_ok (read_ended c.in_ok-small.ensures.reads c.in_ok-small.ensures.why)

pub returns-in_err-laid-clause-step : goal.returns-in_err-laid-clause-step
returns-in_err-laid-clause-step g c = both_err c.from_residual-in_err-laid.result c.from_residual-in_err-laid.ensures.1 (place_ended reads_nothing c.in_err-laid.ensures.step)

pub returns-clause-step : goal.returns-clause-step
returns-clause-step g c = both_ok (place_ended reads_nothing c.in_ok-laid.ensures.step)
