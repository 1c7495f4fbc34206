use Rattle.std.proofs.Common.{◌≡◌, ◌∙◌, ◌<◌, length, ap, arith, sym}
use Rattle.std.proofs.lemmas.Bool.{eqb-true}
use Rattle.std.proofs.lemmas.List.{get_or_default}
use Rattle.checker.specs.Rows.{block_in}
use Rattle.checker.proofs.RowsLaws.{picked_at, picked_length}
use Rattle.checker.proofs.rows.Rows.is_shared.Goals as goal

pub index-first-requires : goal.index-first-requires
index-first-requires c = omega (arith, c.requires.first, picked_length c.args.self.now.blocks.items c.args.self.now.which.items, c.args.self.now.which.ok.0)

pub index-second-requires : goal.index-second-requires
index-second-requires c = omega (arith, c.requires.second, picked_length c.args.self.now.blocks.items c.args.self.now.which.items, c.args.self.now.which.ok.0)

pub returns : goal.returns
returns c = λ yes.
    let rows = c.args.self.now in
    let long = picked_length rows.blocks.items rows.which.items in
    let k : c.args.k < length rows.which.items = omega (arith, c.requires.first, long) in
    let l : c.args.l < length rows.which.items = omega (arith, c.requires.second, long) in
    let same : c.index-first.result.now ≡ c.index-second.result.now = eqb-true c.index-first.result.now c.index-second.result.now yes in
    picked_at rows.blocks.items rows.which.items c.args.k k ∙ ap (block_in rows.blocks.items)
    (get_or_default rows.which.items c.args.k 0 c.index-first.result.now k ∙ sym c.index-first.ensures ∙ same ∙ c.index-second.ensures ∙ get_or_default rows.which.items c.args.l c.index-second.result.now 0 l)
    ∙ sym (picked_at rows.blocks.items rows.which.items c.args.l l)
