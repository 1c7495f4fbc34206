use Rattle.std.proofs.Common.{◌≡◌, List, length, subst, ◌∙◌, ap}
use Rattle.std.specs.Int.{div_ceil}
use Rattle.layout.specs.declared.pointer.Pointer.{Pointer}
use Rattle.conspoint.specs.Cuts.{disk_with_blocks}
use Rattle.conspoint.specs.MapFiles.{PlansMap}
use Rattle.conspoint.specs.MapFiles.{map_nodes}
use Rattle.making.specs.Starts.{nothing}
use Rattle.making.proofs.EmptyMapLaws.{map_file, map_on}
use Rattle.conspoint.proofs.StepLemmas.{places_none, takes_err, takes_of, takes_ok, takes_out}
use Rattle.making.proofs.first.place_map.Goals as goal
use Rattle.making.proofs.first.place_map.Goals.{After-store_own_map}

pub returns-clause-file : goal.returns-clause-file
returns-clause-file c =
    let old = c.args.draft.now in
    let new = c.store_own_map.new.draft in
    map_file c.args.geometry old new c.in_ok-none.none.items c.in_ok-map.map c.blocks-2.ensures.within c.requires.layout c.requires.start c.in_ok-none.ensures.none
    (subst (λ (ns : List Pointer). PlansMap old new ns c.in_ok-map.map) c.deref.ensures.value c.in_ok-map.ensures.planned)
    (disk_with_blocks new.blocks.items nothing) (c.written_disks_have_the_blocks.ensures.has new.blocks.items nothing new.drafted.planned.apart)

pub returns-clause-map : goal.returns-clause-map
returns-clause-map c = λ e has.
    let old = c.args.draft.now in
    let new = c.store_own_map.new.draft in
    map_on c.args.geometry old new c.in_ok-none.none.items c.in_ok-map.map c.blocks-2.ensures.within c.requires.layout c.requires.start c.in_ok-none.ensures.none
    (subst (λ (ns : List Pointer). PlansMap old new ns c.in_ok-map.map) c.deref.ensures.value c.in_ok-map.ensures.planned)
    (disk_with_blocks new.blocks.items nothing) (c.written_disks_have_the_blocks.ensures.has new.blocks.items nothing new.drafted.planned.apart) e has

-- as many are stored as the map has
few_stored : (c : After-store_own_map) → length c.deref.result.now ≡ map_nodes (div_ceil c.args.geometry.blocks 1024)
few_stored c = ap (λ (ns : List Pointer). length ns) c.deref.ensures.value ∙ c.in_ok-none.ensures.count ∙ ap map_nodes (c.map_blocks.ensures ∙ c.requires.start.parts)

pub returns-in_err-none-clause-step : goal.returns-in_err-none-clause-step
returns-in_err-none-clause-step c = takes_out c.from_residual.result c.from_residual.ensures.1 (takes_of (places_none {n = 0} {y = tt {0}} c.args.draft.now))

pub returns-in_err-map-clause-step : goal.returns-in_err-map-clause-step
returns-in_err-map-clause-step c =
    takes_err c.from_residual-in_err-map.result c.from_residual-in_err-map.ensures.1 (let few = few_stored (goal.at.returns-in_err-map-clause-step c).After-store_own_map in rw few at c.in_err-map.ensures.step)

pub returns-clause-step : goal.returns-clause-step
returns-clause-step c = takes_ok (let few = few_stored (goal.at.returns-clause-step c).After-store_own_map in rw few at c.in_ok-map.ensures.step)
