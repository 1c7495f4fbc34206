use Rattle.std.proofs.Common.{inl, inr, map, ap, ◌∙◌, arith}
use Rattle.std.specs.Prelude.{slice_index}
use Rattle.std.proofs.lemmas.Bool.{cases_eq}
use Rattle.std.proofs.lemmas.List.{get_or-map}
use Rattle.calls.proofs.reading.part.end_of_part.Goals as goal

pub loop-end-preserved : goal.loop-end-preserved
loop-end-preserved c =
    let so_far = c.loop-end.invariant in
    let cookies = map (λ t. t.cookie) c.args.told.now in
    record {
      past = omega arith;
      within = omega arith;
      last = so_far.last;
      same = λ k low high. elim (cases_eq k c.loop-end.end) [
        | inl here ↦
            ap (slice_index cookies) here ∙ get_or-map (λ t. t.cookie) c.args.told.now c.loop-end.end c.index-told-end.result 0 (omega arith)
            ∙ c.if-told-end.true ∙ so_far.last
        | inr else ↦ so_far.same k low (omega (arith, high, else))
      ];
    }
