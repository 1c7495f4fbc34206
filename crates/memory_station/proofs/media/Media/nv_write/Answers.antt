use Rattle.std.proofs.Common.{◌∙◌, ap, arith}
use Rattle.std.proofs.lemmas.Grind.{common_steps}
use Rattle.station.specs.Images.{nvram_with}
use Rattle.memory_station.proofs.TiedLemmas.{tied_with-nv_write}
use Rattle.memory_station.proofs.MediaLemmas.{listed-nv_write}
use Rattle.memory_station.proofs.media.Media.nv_write.Goals as goal

pub invariant_of-self-2-clause-tied : goal.invariant_of-self-2-clause-tied
invariant_of-self-2-clause-tied c = tied_with-nv_write _ _ _ _ _ _ _ _ _ c.args.self.now.tied c.args.at c.in_ok-copy.copy c.args.kept c.args.bytes.now _
    c.in_ok-push.ensures.items c.in_ok-copy.ensures.items
    (c.put.ensures.after ∙ ap (λ b. nvram_with c.args.at b c.args.self.now.nvram.items) (grind (arith, common_steps)))

pub invariant_of-self-2-clause-listed : goal.invariant_of-self-2-clause-listed
invariant_of-self-2-clause-listed c = listed-nv_write _ _ _ c.args.self.now.listed c.args.at c.in_ok-copy.copy c.args.kept c.in_ok-push.ensures.items
