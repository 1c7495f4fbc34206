use Rattle.std.proofs.Common.{rules, arith, ℕ, ◌*◌, ◌/◌, ◌%◌, ◌^◌, ◌-◌, ◌<◌, ◌∙◌, ap, sym, subst}
use Rattle.std.specs.Int.{div_ceil}
use Rattle.layout.specs.Trees.{fan_out}
use Rattle.blocktree.proofs.PlaceLaws.{place_first, place_next, path_of_first, first_of_path, path_of_node, path_above, node_of_path, place_above}
use Rattle.blocktree.proofs.place.+find_place.Goals as goal

pub returns-in_err-own-clause-damaged : goal.returns-in_err-own-clause-damaged
returns-in_err-own-clause-damaged g t c = λ disk shows bad path.
    c.in_err-own.ensures.damaged (first_of_path c.args.layout (g.B.Blocks.count c.args.blocks.now) c.count.result disk c.args.pointers.now c.args.depth c.args.count c.args.i c.count.ensures c.if-depth-eq0.true path)

pub returns-then-depth-eq0-clause-place : goal.returns-then-depth-eq0-clause-place
returns-then-depth-eq0-clause-place g t c = λ disk shows. c.in_ok-own.ensures.pointer ∙ sym (place_first c.args.layout disk c.args.pointers.now c.args.depth c.args.i c.if-depth-eq0.true)

pub returns-then-depth-eq0-clause-sound : goal.returns-then-depth-eq0-clause-sound
returns-then-depth-eq0-clause-sound g t c = λ disk shows.
    path_of_first c.args.layout (g.B.Blocks.count c.args.blocks.now) c.count.result disk c.args.pointers.now c.args.depth c.args.count c.args.i c.count.ensures c.if-depth-eq0.true c.in_ok-own.ensures.within

pub find_place-requires : goal.find_place-requires
find_place-requires g t c κs within = (
  omega arith,
  (within, subst (λ (f : ℕ). c.args.i / f < 16 * fan_out c.args.layout ^ (c.args.depth - 1)) (sym c.fan_out-fan.ensures.value) (place_above c.args.layout c.args.depth c.args.i c.if-depth-eq0.false c.requires)),
)

pub returns-in_err-above-clause-damaged : goal.returns-in_err-above-clause-damaged
returns-in_err-above-clause-damaged g t c = λ disk shows bad path.
    let value = c.fan_out-fan.ensures.value in
    let wide = c.div_ceil-wide.ensures ∙ ap (λ (f : ℕ). div_ceil c.args.count f) value in
    c.in_err-above.ensures.damaged disk shows (search rules)
    (path_above c.args.layout (g.B.Blocks.count c.args.blocks.now) c.div_ceil-wide.result (c.args.i / c.fan_out-fan.result) disk c.args.pointers.now c.args.depth c.args.count c.args.i
    wide (ap (λ (f : ℕ). c.args.i / f) value) c.if-depth-eq0.false path)

pub returns-in_err-next-clause-damaged : goal.returns-in_err-next-clause-damaged
returns-in_err-next-clause-damaged g t c = λ disk shows bad path.
    let value = c.fan_out-fan.ensures.value in
    let used = c.saturating_sub-used.ensures ∙ ap (λ (f : ℕ). c.args.count - f * (c.args.i / f)) value in
    c.in_err-next.ensures.damaged disk (c.in_ok-above.ensures.reads.same disk shows) (search rules)
    (node_of_path c.args.layout (g.B.Blocks.count c.args.blocks.now) (g.B.Blocks.count c.find_place.new.blocks) c.saturating_sub-used.result (c.args.i / c.fan_out-fan.result) disk c.args.pointers.now c.args.depth c.args.count c.args.i c.in_ok-above.above
    c.in_ok-above.ensures.reads.count used (ap (λ (f : ℕ). c.args.i / f) value) c.if-depth-eq0.false (c.in_ok-above.ensures.place disk shows) path)

pub returns-clause-place : goal.returns-clause-place
returns-clause-place g t c = λ disk shows.
    let value = c.fan_out-fan.ensures.value in
    c.in_ok-next.ensures.pointer disk (c.in_ok-above.ensures.reads.same disk shows)
    ∙ sym (place_next c.args.layout disk c.args.pointers.now c.args.depth c.args.i (c.args.i / c.fan_out-fan.result) (c.args.i % c.fan_out-fan.result) c.in_ok-above.above
    (ap (λ (f : ℕ). c.args.i / f) value) (ap (λ (f : ℕ). c.args.i % f) value) c.if-depth-eq0.false (c.in_ok-above.ensures.place disk shows))

pub returns-clause-sound : goal.returns-clause-sound
returns-clause-sound g t c = λ disk shows.
    let value = c.fan_out-fan.ensures.value in
    let wide = c.div_ceil-wide.ensures ∙ ap (λ (f : ℕ). div_ceil c.args.count f) value in
    let used = c.saturating_sub-used.ensures ∙ ap (λ (f : ℕ). c.args.count - f * (c.args.i / f)) value in
    path_of_node c.args.layout (g.B.Blocks.count c.args.blocks.now) (g.B.Blocks.count c.find_place.new.blocks) c.div_ceil-wide.result c.saturating_sub-used.result (c.args.i / c.fan_out-fan.result) disk c.args.pointers.now c.args.depth c.args.count c.args.i c.in_ok-above.above
    c.in_ok-above.ensures.reads.count wide used (ap (λ (f : ℕ). c.args.i / f) value) c.if-depth-eq0.false (c.in_ok-above.ensures.place disk shows)
    (c.in_ok-above.ensures.sound disk shows) (c.in_ok-next.ensures.sound disk (c.in_ok-above.ensures.reads.same disk shows))
