use Rattle.std.proofs.Common.{◌≡◌, ◌≤◌, ◌-◌, ◌∙◌, ℕ, false, true, refl, ap, sym, arith}
use Rattle.std.proofs.lemmas.Bool.{false≢true}
use Rattle.layout.specs.StateLimits.{limits_of}
use Rattle.layout.specs.Limits.{Sizes}
use Rattle.model.specs.Room.{reserved_of}
use Rattle.model.specs.declared.costs.Costs.{Costs}
use Rattle.model.specs.States.{State}
use Rattle.model.specs.declared.reply.Reply.TheVariants.{Usage}
use Rattle.system.specs.Room.{costs_on}
use Rattle.system.proofs.SystemLaws.{sizes}
use Rattle.system.proofs.UsageLaws.{pledged_free, usage_is, used_counted}
use Rattle.system.proofs.system.System.usage.Goals as goal

pub returns : goal.returns
returns g c = λ table s serves room blocks free told.
    let f = c.args.self.now in
    let said = c.space-blocks.result in
    let space = c.space-blocks.ensures in
    let same : said.blocks ≡ room.blocks = space.blocks ∙ sym blocks in
    let pledged : said.pledged ≡ room.pledged = (space.told table s serves (λ name. 0) false (λ n k. true) (λ e. absurd (false≢true e))).pledged ∙ sym told.pledged in
    let few : said.pledged ≤ said.free = omega (arith, pledged_free {G = g.S.Station} f table s serves room.pledged told.pledged, pledged, space.free table s serves) in
    let costs : costs_on {G = g.S.Station} f ≡ room.costs = ap (λ (z : Sizes). (limits_of z).costs) (sym (sizes serves)) ∙ sym told.costs in
    let point = ap (λ (x : Costs). x.point) costs in
    let headroom = ap (λ (x : Costs). x.headroom) (c.costs.ensures ∙ costs) in
    let reserved : c.saturating_add.result ≡ reserved_of room = omega (arith, c.saturating_add.ensures, c.cost_of_point.ensures.is, c.from.ensures, point, headroom, pledged, few) in
    let inodes : c.inodes.result - 3 ≡ s.limits.inodes - 3 =
    ap (λ (k : ℕ). k - 3)
    (c.inodes.ensures.value ∙ ap (λ (sizes : Sizes). sizes.inodes) (c.geometry.ensures ∙ f.sizes) ∙ sym (ap (λ (u : State). u.limits.inodes) serves.state)) in (
      c.count_taken.result,
      used_counted {G = g.S.Station} f table s serves c.volumes_tell_used_numbers.ensures c.count_taken.result (λ is volume. c.count_taken.ensures _ _ _ _ serves.running is volume),
      (ap (λ u. Usage u) (usage_is room s _ same (space.free table s serves ∙ sym free) reserved inodes), refl, refl),
    )
