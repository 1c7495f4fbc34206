use Rattle.std.proofs.Common.{rules, arith, ℕ, ◌-◌, ◌*◌, ◌/◌, ◌%◌, ◌<◌, refl, subst, sym, ◌∙◌}
use Rattle.layout.specs.Pointer.{PointsBelow}
use Rattle.layout.specs.Trees.{fan_out}
use Rattle.layout.proofs.FanLaws.{up_within}
use Rattle.blocktree.proofs.FanLemmas.{wide_is}
use Rattle.blocktree.proofs.NameLaws.{paths_above, wide_above}
use Rattle.blocktree.proofs.PlaceLaws.{place_first, place_next, path_of_first, first_of_path, path_of_node}
use Rattle.blocktree.proofs.WalkLaws.{own_count, node_over}
use Rattle.blocktree.proofs.nodes.+read_places.Goals as goal

pub own_places-requires : goal.own_places-requires
own_places-requires g t c = own_count c.args.layout c.args.depth c.args.count c.if-depth-eq0.true c.requires

pub read_places-requires : goal.read_places-requires
read_places-requires g t c κs within = (omega arith, (within, wide_above c.args.layout c.args.depth c.args.count c.div_ceil-wide.result (omega (arith, c.if-depth-eq0.false)) (wide_is c.args.count c.div_ceil-wide.result c.fan_out.result (fan_out c.args.layout) c.div_ceil-wide.ensures c.fan_out.ensures.value) c.requires))

pub returns-in_err-own-clause-damaged : goal.returns-in_err-own-clause-damaged
returns-in_err-own-clause-damaged g t c = λ disk shows bad paths.
    c.in_err-own.ensures.damaged (search rules) (λ i lt.
    first_of_path c.args.layout (g.B.Blocks.count c.args.blocks.now) c.count.result disk c.args.pointers.now c.args.depth c.args.count i c.count.ensures c.if-depth-eq0.true (paths i lt))

pub returns-then-depth-eq0-clause-nodes : goal.returns-then-depth-eq0-clause-nodes
returns-then-depth-eq0-clause-nodes g t c = λ disk shows i lt. c.in_ok-own.ensures.nodes i lt ∙ sym (place_first c.args.layout disk c.args.pointers.now c.args.depth i c.if-depth-eq0.true)

pub returns-then-depth-eq0-clause-sound : goal.returns-then-depth-eq0-clause-sound
returns-then-depth-eq0-clause-sound g t c = λ disk shows i lt.
    path_of_first c.args.layout (g.B.Blocks.count c.args.blocks.now) c.count.result disk c.args.pointers.now c.args.depth c.args.count i c.count.ensures c.if-depth-eq0.true
    (subst (PointsBelow c.count.result) (c.in_ok-own.ensures.nodes i lt) (c.in_ok-own.ensures.within i))

pub returns-in_err-above-clause-damaged : goal.returns-in_err-above-clause-damaged
returns-in_err-above-clause-damaged g t c = λ disk shows bad paths.
    c.in_err-above.ensures.damaged disk shows (search rules)
    (paths_above c.args.layout (g.B.Blocks.count c.args.blocks.now) (g.B.Blocks.count c.args.blocks.now) c.div_ceil-wide.result disk c.args.pointers.now c.args.depth c.args.count (search rules) (wide_is c.args.count c.div_ceil-wide.result c.fan_out.result (fan_out c.args.layout) c.div_ceil-wide.ensures c.fan_out.ensures.value) (omega (arith, c.if-depth-eq0.false)) paths)

pub returns-in_err-places-clause-damaged : goal.returns-in_err-places-clause-damaged
returns-in_err-places-clause-damaged g t c = λ disk shows bad paths.
    c.in_err-places.ensures.damaged disk (c.in_ok-above.ensures.reads.same disk shows) (search rules) (λ j lt.
    let wide : j < c.div_ceil-wide.result = subst (λ (n : ℕ). j < n) (sym (wide_is c.args.count c.div_ceil-wide.result c.fan_out.result (fan_out c.args.layout) c.div_ceil-wide.ensures c.fan_out.ensures.value)) lt in
    node_over c.args.layout (g.B.Blocks.count c.args.blocks.now) (g.B.Blocks.count c.read_places.new.blocks) disk c.args.pointers.now c.args.depth c.args.count j c.in_ok-above.above c.in_ok-above.ensures.reads.count c.if-depth-eq0.false lt
    (c.in_ok-above.ensures.nodes disk shows j wide) paths)

pub returns-clause-nodes : goal.returns-clause-nodes
returns-clause-nodes g t c = λ disk shows i lt.
    let few = up_within c.args.layout i c.args.count lt in
    let up : i / fan_out c.args.layout < c.div_ceil-wide.result = subst (λ (n : ℕ). i / fan_out c.args.layout < n) (sym (wide_is c.args.count c.div_ceil-wide.result c.fan_out.result (fan_out c.args.layout) c.div_ceil-wide.ensures c.fan_out.ensures.value)) few in
    c.in_ok-places.ensures.nodes disk (c.in_ok-above.ensures.reads.same disk shows) i lt
    ∙ sym (place_next c.args.layout disk c.args.pointers.now c.args.depth i (i / fan_out c.args.layout) (i % fan_out c.args.layout) _ refl refl c.if-depth-eq0.false (c.in_ok-above.ensures.nodes disk shows (i / fan_out c.args.layout) up))

pub returns-clause-sound : goal.returns-clause-sound
returns-clause-sound g t c = λ disk shows i lt.
    let few = up_within c.args.layout i c.args.count lt in
    let up : i / fan_out c.args.layout < c.div_ceil-wide.result = subst (λ (n : ℕ). i / fan_out c.args.layout < n) (sym (wide_is c.args.count c.div_ceil-wide.result c.fan_out.result (fan_out c.args.layout) c.div_ceil-wide.ensures c.fan_out.ensures.value)) few in
    path_of_node c.args.layout (g.B.Blocks.count c.args.blocks.now) (g.B.Blocks.count c.read_places.new.blocks) c.div_ceil-wide.result (c.args.count - fan_out c.args.layout * (i / fan_out c.args.layout)) (i / fan_out c.args.layout) disk c.args.pointers.now c.args.depth c.args.count i _
    c.in_ok-above.ensures.reads.count (wide_is c.args.count c.div_ceil-wide.result c.fan_out.result (fan_out c.args.layout) c.div_ceil-wide.ensures c.fan_out.ensures.value) refl refl c.if-depth-eq0.false (c.in_ok-above.ensures.nodes disk shows (i / fan_out c.args.layout) up)
    (c.in_ok-above.ensures.sound disk shows (i / fan_out c.args.layout) up) (c.in_ok-places.ensures.sound disk (c.in_ok-above.ensures.reads.same disk shows) (i / fan_out c.args.layout) few)
