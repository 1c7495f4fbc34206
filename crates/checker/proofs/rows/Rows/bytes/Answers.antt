use Rattle.std.proofs.Common.{◌∙◌, ◌<◌, length, ap, arith, sym}
use Rattle.std.proofs.lemmas.List.{get_or_default}
use Rattle.checker.specs.Rows.{block_in}
use Rattle.checker.proofs.EachLaws.{get_at}
use Rattle.checker.proofs.RowsLaws.{block_at, picked_at, picked_length}
use Rattle.checker.proofs.rows.Rows.bytes.Goals as goal

pub index-w-requires : goal.index-w-requires
index-w-requires c = omega (arith, c.requires, picked_length c.args.self.now.blocks.items c.args.self.now.which.items, c.args.self.now.which.ok.0)

pub index-row-requires : goal.index-row-requires
index-row-requires c =
    let rows = c.args.self.now in
    let low : c.args.k < length rows.which.items = omega (arith, c.requires, picked_length rows.blocks.items rows.which.items) in
    omega (arith, rows.within c.args.k c.index-w.result.now low, c.index-w.ensures, rows.blocks.ok.0)

pub returns : goal.returns
returns c =
    let rows = c.args.self.now in
    let low : c.args.k < length rows.which.items = omega (arith, c.requires, picked_length rows.blocks.items rows.which.items) in
    let within = rows.within c.args.k c.index-w.result.now low in
    c.bytes.ensures ∙ sym (picked_at rows.blocks.items rows.which.items c.args.k low ∙ ap (block_in rows.blocks.items) (get_or_default rows.which.items c.args.k 0 c.index-w.result.now low ∙ sym c.index-w.ensures)
    ∙ block_at rows.blocks.items c.index-w.result.now c.index-row.result.now (get_at rows.blocks.items c.index-w.result.now c.index-row.result.now
    (omega (arith, within, c.index-w.ensures)) c.index-row.ensures))
