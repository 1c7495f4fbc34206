use Rattle.std.proofs.Common.{◌≡◌, ◌+◌, ◌*◌, ◌∙◌, ℕ, List, length, ap, rules, subst, sym}
use Rattle.station.specs.Images.{Images}
use Rattle.layout.specs.Log.{half_of}
use Rattle.oplog.specs.Internal.{TellsEpoch}
use Rattle.oplog.proofs.Reading.{tells_log, first_unheld, second_unheld}
use Rattle.oplog.proofs.saved.SavedLog.load.Goals as goal

pub returns-in_err-first-clause-damaged : goal.returns-in_err-first-clause-damaged
returns-in_err-first-clause-damaged g c damaged honest =
    first_unheld c.args.geometry.half c.args.generation _ _ (g.S.Station.meaning c.args.station.now).seen.nvram c.half-half.ensures.value c.epoch_after.ensures (c.in_err-first.ensures.damaged (search rules) honest)

pub returns-in_err-second-clause-damaged : goal.returns-in_err-second-clause-damaged
returns-in_err-second-clause-damaged g c damaged honest =
    let went = c.read_half.ensures.reads.goes honest in
    second_unheld c.args.geometry.half c.args.generation _ _ _ (g.S.Station.meaning c.args.station.now).seen.nvram c.half-half.ensures.value c.epoch_after-2.ensures (ap (λ (i : Images). i.nvram) went.seen)
    (c.in_err-second.ensures.damaged (search rules) went.honest)

pub returns-clause-tells : goal.returns-clause-tells
returns-clause-tells g c honest =
    let m0 = g.S.Station.meaning c.args.station.now in
    let nvram = m0.seen.nvram in
    let half = c.half-half.result in
    let generation = c.args.generation in
    let size : length nvram ≡ 2 * half = (g.met.S.Station.sized c.args.station.now honest m0.seen (g.met.S.Station.seen_may_be_left c.args.station.now honest)).nvram ∙ c.requires.size ∙ ap (λ (h : ℕ). 2 * h) (sym c.half-half.ensures.value) in
    let went = c.read_half.ensures.reads.goes honest in
    let first = c.in_ok-first.first in
    let second = c.in_ok-second.second in
    let one = subst (λ (e : ℕ). TellsEpoch e (half_of half e nvram) first.is_open first.records.items) c.epoch_after.ensures (c.in_ok-first.ensures.tells honest) in
    let two = subst (λ (l : List ℕ). TellsEpoch (generation + 2) (half_of half (generation + 2) l) second.is_open second.records.items) (ap (λ (i : Images). i.nvram) went.seen)
    (subst (λ (e : ℕ). TellsEpoch e (half_of half e (g.S.Station.meaning c.read_half.new.station).seen.nvram) second.is_open second.records.items) c.epoch_after-2.ensures (c.in_ok-second.ensures.tells went.honest)) in
    tells_log half generation nvram size first.records.items second.records.items first.is_open second.is_open one two
