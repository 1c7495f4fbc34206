use Rattle.std.proofs.Common.{◌≡◌, ℕ, ◌*◌, [], ◌∷◌, length, ap, sym, ◌∙◌, subst, arith}
use Rattle.station.specs.Images.{Images, nvram_with}
use Rattle.making.specs.Images.{HasClosedHalves}
use Rattle.making.proofs.SlotLemmas.{both_closed}
use Rattle.making.proofs.clearing.close_halves.Goals as goal

pub returns-clause-closed : goal.returns-clause-closed
returns-clause-closed g c honest =
    let m = g.S.Station.meaning c.args.station.now in
    let half = c.args.geometry.half in
    let size : length m.seen.nvram ≡ 2 * half =
    (g.met.S.Station.sized c.args.station.now honest m.seen (g.met.S.Station.seen_may_be_left c.args.station.now honest)).nvram ∙ c.requires.suits.nvram in
    let first = c.in_ok-nv_write.ensures.written honest in
    let second = c.in_ok-nv_write-2.ensures.written (c.nv_write.ensures.call.same.honest.0 honest) in
    let written = ap (λ (i : Images). i.nvram) second ∙ ap (λ (i : Images). nvram_with c.half.result (0 ∷ []) i.nvram) first ∙ ap (λ (h : ℕ). nvram_with h (0 ∷ []) (nvram_with 0 (0 ∷ []) m.seen.nvram)) c.half.ensures.value in
    subst (HasClosedHalves half) (sym written) (both_closed half m.seen.nvram (omega (arith, c.requires.suits.sizes.least_half)) size)
