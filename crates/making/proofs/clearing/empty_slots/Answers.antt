use Rattle.std.proofs.Common.{refl, ap, ◌∙◌}
use Rattle.std.specs.Prelude.{replicate}
use Rattle.station.specs.Images.{Images}
use Rattle.making.proofs.SlotLemmas.{slots_emptied}
use Rattle.making.proofs.clearing.empty_slots.Goals as goal

pub returns-clause-emptied : goal.returns-clause-emptied
returns-clause-emptied g c honest =
    let honest1 = c.write_sector.ensures.call.same.honest.0 honest in
    let honest2 = c.write_sector-2.ensures.call.same.honest.0 honest1 in
    let slots = slots_emptied _ _ _ (replicate 512 0) refl (c.in_ok-write_sector.ensures.written honest) (c.in_ok-write_sector-2.ensures.written honest1) in
    let same = (c.sync.ensures.call.goes honest2).seen in
    record {
      slots = record {
        first = ap (λ (i : Images). i.disk 0) same ∙ slots.0;
        second = ap (λ (i : Images). i.disk 8) same ∙ slots.1;
      };
      nvram = ap (λ (i : Images). i.nvram) same ∙ slots.2;
    }
