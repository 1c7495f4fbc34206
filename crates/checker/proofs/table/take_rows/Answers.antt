use Rattle.std.proofs.Common.{◌∙◌, ◌-◌, ◌*◌, List, ◌++◌, take, drop, ap, sym, subst, arith}
use Rattle.checker.specs.Tables.{IsKnown}
use Rattle.checker.specs.declared.names.NumberRow.{NumberRow}
use Rattle.checker.proofs.TableLaws.{rows_taken}
use Rattle.checker.proofs.table.take_rows.Goals as goal

pub returns-clause-rows : goal.returns-clause-rows
returns-clause-rows c = λ disk is so_far taken.
    rows_taken disk c.args.places.now c.in-Some.known.places c.args.rows.now.items c.in-Some.known.rows.items c.extend_from_slice.new.self.items c.args.i (21 * c.args.i) c.min-to.result (omega arith) (omega (arith, c.requires.length)) (omega (arith, c.min-to.ensures))
    (c.in_ok-extend_from_slice.ensures.items ∙ ap (λ (rows : List NumberRow). c.args.rows.now.items ++ take (c.min-to.result - 21 * c.args.i) (drop (21 * c.args.i) rows)) c.deref.ensures.value) (sym c.at-there.ensures ∙ c.is_same.ensures c.if-not-is_same.false ∙ c.at-here.ensures) (subst (IsKnown disk) c.in-Some.is is) so_far
