use Rattle.std.proofs.Common.{◌≡◌, ℕ, Vec, Global, length, rules, sym, subst, ap, arith}
use Rattle.blocktree.specs.PlaceMaps.{AreBelow}
use Rattle.checker.specs.Tables.{AreRowsAt}
use Rattle.checker.specs.declared.names.NumberRow.{NumberRow}
use Rattle.checker.proofs.HaltLaws.{looks_failed, looks_more, looks_residual}
use Rattle.checker.proofs.ReadLaws.{looked, looked_more, looked_none, looks_ok}
use Rattle.checker.proofs.StepLaws.{only_looked}
use Rattle.checker.proofs.TableLaws.{rows_none}
use Rattle.checker.proofs.table.rows_at.Goals as goal

pub loop-i-init : goal.loop-i-init
loop-i-init g c = record {
  looked = looked_none c.args.blocks.now;
  few = omega arith;
  length_is = (let none : length c.new-rows.result.items ≡ 0 = ap length c.new-rows.ensures.items in omega (arith, none));
  rows = λ disk shows is. rows_none disk c.args.places.now _ c.new-rows.ensures.items;
}

pub loop-i-preserved-then-branch : goal.loop-i-preserved-then-branch
loop-i-preserved-then-branch g c =
    let so_far = c.loop-i.invariant in
    record {
      looked = so_far.looked;
      few = so_far.few;
      length_is = omega (arith, c.in_ok-take_rows.ensures.length (search rules));
      rows = λ disk shows is. c.in_ok-take_rows.ensures.rows disk is (so_far.rows disk shows is) (search rules);
    }

pub loop-i-preserved : goal.loop-i-preserved
loop-i-preserved g c =
    let so_far = c.loop-i.invariant in
    record {
      looked = looked_more so_far.looked (looked_more (looked c.read_rows.ensures.reads) (only_looked c.forget_over-kept.ensures.reads));
      few = c.forget_over-kept.ensures.few;
      length_is = omega (arith, c.in_ok-read_rows.ensures.length);
      rows = λ disk shows is.
          c.in_ok-read_rows.ensures.rows disk (so_far.looked.same disk shows)
          (subst (λ (v : Vec NumberRow Global). AreRowsAt disk c.args.places.now v.items) (sym (c.in_ok-take_rows.ensures.none (search rules))) (so_far.rows disk shows is));
    }

pub returns-in_err-take_rows-clause-reads : goal.returns-in_err-take_rows-clause-reads
returns-in_err-take_rows-clause-reads g c = looks_residual {T = Unit {0}} c.from_residual.result c.from_residual.ensures.1 (looks_failed c.loop-i.invariant.looked (λ is. cc))

pub returns-in_err-read_rows-clause-reads : goal.returns-in_err-read_rows-clause-reads
returns-in_err-read_rows-clause-reads g c =
    looks_more _ c.loop-i.invariant.looked (looks_residual c.from_residual-in_err-read_rows.result c.from_residual-in_err-read_rows.ensures.1 c.in_err-read_rows.ensures.reads)

pub returns-clause-reads : goal.returns-clause-reads
returns-clause-reads g c = looks_ok c.loop-i.invariant.looked

pub returns-clause-length : goal.returns-clause-length
returns-clause-length g c = omega (arith, c.loop-i-test.false, c.loop-i.auto.i-end, c.loop-i.invariant.length_is)

pub returns-clause-rows : goal.returns-clause-rows
returns-clause-rows g c = λ disk shows is. c.loop-i.invariant.rows disk shows is

pub read_rows-requires-clause-below : goal.read_rows-requires-clause-below
read_rows-requires-clause-below g c = subst (λ (n : ℕ). AreBelow n c.args.places.now) (sym c.loop-i.invariant.looked.count) c.requires
