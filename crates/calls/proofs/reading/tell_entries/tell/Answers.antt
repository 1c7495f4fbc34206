use Rattle.std.proofs.Common.{refl}
use Rattle.records.proofs.StandLaws.{no_look}
use Rattle.calls.proofs.EntriesSteps.{tells_failed}
use Rattle.calls.proofs.SeeSteps.{tells_all}
use Rattle.calls.proofs.StatLaws.{nothing_there}
use Rattle.calls.proofs.reading.tell_entries.tell.Goals as goal

pub returns-in_err-stat : goal.returns-in_err-stat
returns-in_err-stat g c =
    tells_failed _ c.from_residual.result c.from_residual.ensures.1 no_look c.in_err-stat.ensures.told
    (λ errno disk settled v stands none there. nothing_there (v c.args.name.numbered.number) there none)

pub returns : goal.returns
returns g c = rw c.note_told.ensures (tells_all c.in_ok-stat.ensures.told.looks (λ disk settled v stands. record {
  named = c.new.ensures;
  marked = refl;
  told = c.in_ok-stat.ensures.told.tells disk settled v stands;
}))
