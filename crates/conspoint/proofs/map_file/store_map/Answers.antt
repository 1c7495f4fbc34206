use Rattle.std.proofs.Common.{◌≡◌, inl, inr, ℕ, ◌<◌, length, ap, sym, subst, ◌∙◌, arith}
use Rattle.std.proofs.lemmas.Bool.{cases_eq}
use Rattle.std.proofs.lemmas.List.{get_or_default}
use Rattle.layout.specs.declared.pointer.Pointer.TheVariants.{Hole, Block}
use Rattle.blockmap.specs.declared.map.BlockMap.{BlockMap}
use Rattle.conspoint.specs.Groups.{pointer_at}
use Rattle.conspoint.specs.MapFiles.{StoresPart}
use Rattle.conspoint.proofs.StepLemmas.{puts_err, puts_then}
use Rattle.conspoint.proofs.map_file.store_map.Goals as goal

pub store_part-requires-clause-reserved : goal.store_part-requires-clause-reserved
store_part-requires-clause-reserved c b is =
    let k = c.loop-k.k in
    let places = c.args.places.now in
    let lt : k < length places = omega (arith, c.loop-k-test.true, c.map_blocks-k-end.ensures, c.requires.all) in
    let here = sym (c.index-places-k.is ∙ get_or_default places k c.index-places-k.result Hole lt) ∙ is in
    c.loop-k.invariant.others b (c.requires.reserved k b here) (λ j below at. let same : j ≡ k = c.requires.apart j k b at here in absurd (omega arith))

pub returns-in_err-store_part-clause-step : goal.returns-in_err-store_part-clause-step
returns-in_err-store_part-clause-step c = puts_err c.from_residual.result c.from_residual.ensures.1 (puts_then c.loop-k.invariant.step c.in_err-store_part.ensures.step)

pub loop-k-preserved : goal.loop-k-preserved
loop-k-preserved c =
    let so_far = c.loop-k.invariant in
    let k = c.loop-k.k in
    let places = c.args.places.now in
    let lt : k < length places = omega (arith, c.loop-k-test.true, c.map_blocks-k-end.ensures, c.requires.all) in
    let here : c.index-places-k.result ≡ pointer_at places k = c.index-places-k.is ∙ get_or_default places k c.index-places-k.result Hole lt in
    let now = c.store_part.ensures.step.grows in
    record {
      step = puts_then so_far.step c.in_ok-store_part.ensures.step;
      stored = λ e has j b below at. elim (cases_eq j k) [
        | inl same ↦
            let pointer : c.index-places-k.result ≡ Block b = here ∙ ap (pointer_at places) (sym same) ∙ at in
            let holds = subst (λ (m : BlockMap). StoresPart m.parts.items k (e b)) so_far.step.map (c.in_ok-store_part.ensures.stored e has b pointer) in
            subst (λ (n : ℕ). StoresPart c.args.draft.now.map.parts.items n (e b)) (sym same) holds
        | inr other ↦ so_far.stored e (now.has e has) j b (omega (arith, below)) at
      ];
      others = λ p is none. c.store_part.ensures.others p (λ at. none k (omega arith) (sym here ∙ at)) (so_far.others p is (λ j below. none j (omega (arith, below))));
    }
