use Rattle.std.proofs.Common.{◌≡◌, ◌*◌, arith, sym, ap, ◌∙◌, take, drop}
use Rattle.file_station.proofs.AtHandLemmas.{sector_read, when_ok}
use Rattle.file_station.proofs.file_station.FileStation.fetch.Goals as goal

pub invariant_of-self-clause-at_hand : goal.invariant_of-self-clause-at_hand
invariant_of-self-clause-at_hand g c = λ block is honest k low within.
    let same : c.args.block ≡ block = cc in
    let files = c.read_first-done.ensures.same in
    let old = files.honest.1 honest in
    sector_read (g.M.ImageFiles.meaning c.read_first-done.new.files).disk.seen _ (4096 * c.args.block) c.min-count.result block k (ap (λ n. 4096 * n) same)
    (when_ok c.read_first-done.result _ (sym c.is_ok.ensures.value ∙ c.if-is_ok.true) c.read_first-done.ensures.bytes old
    ∙ ap (λ f. take c.min-count.result (drop (4096 * c.args.block) f)) (sym (c.read_first-done.ensures.goes old).disk.seen))
    (omega (arith, low, within, files.disk, same, c.min-count.ensures))
