use Rattle.std.proofs.Common.{◌∙◌, ap, rules, arith}
use Rattle.std.specs.Int.{div_ceil}
use Rattle.blockmap.specs.Space.{left}
use Rattle.conspoint.specs.Cuts.{disk_with_blocks}
use Rattle.making.specs.Starts.{nothing}
use Rattle.conspoint.proofs.DraftLemmas.{grows_twice}
use Rattle.making.proofs.RoomLaws.{empty_left, map_few}
use Rattle.making.proofs.TreeLaws.{all_planned}
use Rattle.conspoint.specs.Drafts.{Grows}
use Rattle.making.proofs.first.plan_files.Goals as goal
use Rattle.making.proofs.first.plan_files.Goals.{After-place_map}

maps_grow : (c : After-place_map) → Grows c.args.draft.now c.place_map.new.draft
maps_grow c =
    grows_twice c.args.draft.now c.place_numbers.new.draft c.place_map.new.draft c.place_numbers.ensures.step.grows
    (grows_twice c.place_numbers.new.draft c.place_top.new.draft c.place_map.new.draft c.place_top.ensures.step.grows c.place_map.ensures.step.grows)

pub returns-in_err-first_block-clause-grows : goal.returns-in_err-first_block-clause-grows
returns-in_err-first_block-clause-grows c = maps_grow (goal.at.returns-in_err-first_block-clause-grows c).After-place_map

pub returns-in_err-map-clause-grows : goal.returns-in_err-map-clause-grows
returns-in_err-map-clause-grows c = maps_grow (goal.at.returns-in_err-map-clause-grows c).After-place_map

pub returns-in_err-put-clause-grows : goal.returns-in_err-put-clause-grows
returns-in_err-put-clause-grows c = grows_twice c.args.draft.now c.place_map.new.draft c.put.new.self (maps_grow (goal.at.returns-in_err-put-clause-grows c).After-place_map) c.put.ensures.step.grows

pub returns-clause-grows : goal.returns-clause-grows
returns-clause-grows c = grows_twice c.args.draft.now c.place_map.new.draft c.put.new.self (maps_grow (goal.at.returns-clause-grows c).After-place_map) c.put.ensures.step.grows

pub returns-clause-tree : goal.returns-clause-tree
returns-clause-tree c =
    let said = c.inodes_are_put_one_by_one.ensures in
    let first = c.in_ok-top.top.1 in
    let d4 = c.put.new.self in
    all_planned (record { there = said.there; others = said.others; behind = said.behind }) c.args.geometry c.blocks-2.ensures.within c.args.draft.now c.place_numbers.new.draft c.place_top.new.draft c.place_map.new.draft d4
    c.in_ok-numbers.numbers c.in_ok-top.top.0 c.in_ok-map.map first c.in_ok-numbers.ensures.file c.in_ok-numbers.ensures.numbers c.in_ok-top.ensures.file c.in_ok-top.ensures.top
    c.in_ok-map.ensures.file c.in_ok-map.ensures.map c.place_numbers.ensures.step.grows c.place_top.ensures.step.grows c.place_map.ensures.step.grows c.put.ensures.step.grows c.requires.map
    (λ e has. c.in_ok-put.ensures.stored e has ∙ c.in_ok-first_block.ensures.bytes)
    c.in_ok-first_block.ensures.numbers c.in_ok-first_block.ensures.map c.in_ok-first_block.ensures.directory
    (disk_with_blocks d4.blocks.items nothing) (c.written_disks_have_the_blocks.ensures.has d4.blocks.items nothing d4.drafted.planned.apart)

pub returns-in_err-numbers-clause-room : goal.returns-in_err-numbers-clause-room
returns-in_err-numbers-clause-room c = λ bad.
    let all = empty_left c.args.geometry.blocks c.args.draft.now.map c.requires.map in
    let lacks = c.in_err-numbers.ensures.step.lacks (search rules) in
    omega (arith, all, lacks, c.blocks-2.ensures.within.least_blocks)

pub returns-in_err-top-clause-room : goal.returns-in_err-top-clause-room
returns-in_err-top-clause-room c = λ bad.
    let all = empty_left c.args.geometry.blocks c.args.draft.now.map c.requires.map in
    let lacks = c.in_err-top.ensures.step.lacks (search rules) in
    omega (arith, all, c.in_ok-numbers.ensures.step.takes, lacks, c.blocks-2.ensures.within.least_blocks)

pub returns-in_err-map-clause-room : goal.returns-in_err-map-clause-room
returns-in_err-map-clause-room c = λ bad.
    let blocks = c.args.geometry.blocks in
    let all = empty_left blocks c.args.draft.now.map c.requires.map in
    let lacks = c.in_err-map.ensures.step.lacks (search rules) in
    omega (arith, all, c.in_ok-numbers.ensures.step.takes, c.in_ok-top.ensures.step.takes, lacks, map_few (div_ceil blocks 1024), c.blocks-2.ensures.within.least_blocks)

pub returns-clause-takes : goal.returns-clause-takes
returns-clause-takes c = omega (arith, c.in_ok-numbers.ensures.step.takes, c.in_ok-top.ensures.step.takes, c.in_ok-map.ensures.step.takes, ap left c.put.ensures.step.map)
