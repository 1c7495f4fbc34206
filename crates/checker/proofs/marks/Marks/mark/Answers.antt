use Rattle.std.proofs.Common.{rules, ◌≡◌, ◌⊎◌, ◌<◌, ◌∙◌, ℕ, List, length, slice_index, slice_set, bit_and, bit_or, ap, sym, subst}
use Rattle.std.proofs.lemmas.List.{get_or_default}
use Rattle.std.specs.Prelude.{◌↔◌}
use Rattle.images.specs.BlockMap.{HasBit}
use Rattle.checker.proofs.MarkLaws.{bits_and, bits_or}
use Rattle.checker.proofs.marks.Marks.mark.Goals as goal

pub returns-clause-before : goal.returns-clause-before
returns-clause-before c =
    let items = c.self.inside.entries.items in
    let within : c.get-place.result < length items = search rules in
    let read : c.index-old.result.now ≡ slice_index items c.get-place.result =
    c.index-old.ensures ∙ get_or_default items c.get-place.result c.index-old.result.now 0 within in
    let old : c.index-old.result.now ≡ slice_index c.args.self.now c.args.block =
    read ∙ ap (slice_index items) c.get-place.ensures ∙ ap (λ (xs : List ℕ). slice_index xs c.args.block) c.self.view_is in
    λ k. subst (λ (n : ℕ). HasBit k (bit_and c.index-old.result.now c.args.bits) ↔ (HasBit k n × HasBit k c.args.bits)) old (bits_and k c.index-old.result.now c.args.bits)

pub returns-clause-here : goal.returns-clause-here
returns-clause-here c =
    let items = c.self.inside.entries.items in
    let within : c.get-place.result < length items = search rules in
    let read : c.index-old.result.now ≡ slice_index items c.get-place.result =
    c.index-old.ensures ∙ get_or_default items c.get-place.result c.index-old.result.now 0 within in
    let old : c.index-old.result.now ≡ slice_index c.args.self.now c.args.block =
    read ∙ ap (slice_index items) c.get-place.ensures ∙ ap (λ (xs : List ℕ). slice_index xs c.args.block) c.self.view_is in
    let new : slice_index (slice_set c.self.inside.entries.items c.get-place.result (bit_or c.index-old.result.now c.args.bits)) c.args.block ≡ bit_or c.index-old.result.now c.args.bits = search rules in
    λ k. subst (λ (m : ℕ). HasBit k m ↔ (HasBit k (slice_index c.args.self.now c.args.block) ⊎ HasBit k c.args.bits)) (sym new)
    (subst (λ (n : ℕ). HasBit k (bit_or c.index-old.result.now c.args.bits) ↔ (HasBit k n ⊎ HasBit k c.args.bits)) old (bits_or k c.index-old.result.now c.args.bits))
