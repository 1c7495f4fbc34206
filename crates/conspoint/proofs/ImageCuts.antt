-- What a cut leaves, in the words of what images mean.
use Rattle.std.proofs.Common.{ℕ, ◌<◌, List, length, get_or, ap, sym, subst, ◌∙◌, arith}
use Rattle.std.proofs.lemmas.List.{get_or-map, length-map}
use Rattle.station.specs.Images.{Images}
use Rattle.images.specs.Cuts as cuts
use Rattle.conspoint.specs.declared.plan.PlannedBlock.{PlannedBlock}
use Rattle.conspoint.specs.Plans.{Planned}
use Rattle.conspoint.specs.Cuts.{IsOutside, StaysOutside, HasNewRoot, LosesSlot}
use Rattle.conspoint.specs.Writes.{write_of, writes_of}

-- a sector of none of the blocks
outside : (blocks : List PlannedBlock) (n : ℕ) → cuts.IsOutsideWrites (writes_of blocks) n → IsOutside blocks n
outside blocks n not k d lt at =
    not k (write_of d) (omega (arith, length-map blocks write_of, lt))
    (ap (λ (w : cuts.Write). w.place) (get_or-map write_of blocks k d (write_of d) lt) ∙ at)

pub unfinished : (blocks : List PlannedBlock) (old new : Images) → StaysOutside blocks old new → cuts.StaysOutsideWrites (writes_of blocks) old.disk new.disk
unfinished blocks old new stays n not = stays.disk n (outside blocks n not)

pub finished : (p : Planned) (old new : Images) → HasNewRoot p old new → cuts.HasRootWritten (writes_of p.blocks) p.slot p.root old.disk new.disk
finished p old new has = record {
  others = λ n not differ. has.disk n (outside p.blocks n not) differ;
  holds = λ k w lt. holds k w (omega (arith, length-map p.blocks write_of, lt));
  root_is = has.root;
}
  where
    holds : (k : ℕ) (w : cuts.Write) → k < length p.blocks → cuts.HoldsWrite new.disk (get_or (writes_of p.blocks) k w)
    holds k w lt =
        let d : PlannedBlock = record { place = w.place; bytes = w.bytes } in
        subst (cuts.HoldsWrite new.disk) (sym (get_or-map write_of p.blocks k d w lt)) (sym (has.blocks k d lt))

pub lost : (p : Planned) (old new : Images) → LosesSlot p old new → cuts.LosesSlot (writes_of p.blocks) p.slot old.disk new.disk
lost p old new loses = record { others = λ n not differ. loses.disk n (outside p.blocks n not) differ; lost = loses.lost }
