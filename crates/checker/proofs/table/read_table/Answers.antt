use Rattle.std.proofs.Common.{◌≡◌, ◌∙◌, length, ap, sym, arith}
use Rattle.std.proofs.lemmas.Option.{slice_get_within}
use Rattle.layout.specs.Limits.{Sizes}
use Rattle.checker.proofs.HaltLaws.{looks_more, looks_residual}
use Rattle.checker.proofs.HeldLaws.{top_grammar}
use Rattle.checker.proofs.OwnerLaws.{file_sound}
use Rattle.checker.proofs.ReadLaws.{looked, looked_more, looks_ok}
use Rattle.checker.proofs.RowReads.{leads_to_rows}
use Rattle.checker.proofs.TableLaws.{row_is}
use Rattle.checker.proofs.table.read_table.Goals as goal

pub returns-in_err-places-clause-reads : goal.returns-in_err-places-clause-reads
returns-in_err-places-clause-reads g c = looks_residual c.from_residual.result c.from_residual.ensures.1 c.in_err-places.ensures.reads

pub returns-in_err-rows-clause-reads : goal.returns-in_err-rows-clause-reads
returns-in_err-rows-clause-reads g c =
    looks_more _ (looked c.in_ok-places.ensures.reads) (looks_residual c.from_residual-in_err-rows.result c.from_residual-in_err-rows.ensures.1 c.in_err-rows.ensures.reads)

pub returns-clause-reads : goal.returns-clause-reads
returns-clause-reads g c = looks_ok (looked_more (looked c.in_ok-places.ensures.reads) (looked c.in_ok-rows.ensures.reads))

pub returns-clause-known : goal.returns-clause-known
returns-clause-known g c = λ disk shows is. c.in_ok-rows.ensures.rows disk (c.in_ok-places.ensures.reads.same disk shows) is

pub returns-clause-places : goal.returns-clause-places
returns-clause-places g c = λ disk r shows at.
    leads_to_rows disk r c.args.tree.now c.based_trees_are_sound.ensures.all c.in_ok-places.places at (c.in_ok-places.ensures.places disk shows)

pub returns-clause-table : goal.returns-clause-table
returns-clause-table g c = λ disk r shows is at.
    let tree = c.args.tree.now in
    let sound = file_sound c.based_trees_are_sound.ensures.all r.geometry disk tree.top tree.file (g.B.Blocks.count c.args.blocks.now) (top_grammar disk r r.geometry tree at.tree at.grammar) at.tree.file at.over.count in
    let found = c.in_ok-places.ensures.places disk shows sound in
    let rows = c.in_ok-rows.ensures.rows disk (c.in_ok-places.ensures.reads.same disk shows) is in
    let long : length c.in_ok-rows.rows.items ≡ c.args.geometry.inodes = omega (arith, c.in_ok-rows.ensures.length, c.in_ok-rows.rows.ok.0) in
    let size : length c.in_ok-rows.rows.items ≡ r.geometry.inodes = long ∙ sym (ap (λ (s : Sizes). s.inodes) at.over.geometry) in (
      record {
        length_is = size;
        each = λ n row some got.
            row_is disk r tree c.in_ok-places.places n row at.tree at.grammar found some
            (omega (arith, slice_get_within c.in_ok-rows.rows.items n row got, size)) (rows n row got);
      },
      λ n row got. (rows n row got).unnamed,
    )
