use Rattle.std.proofs.Common.{◌≡◌, ◌∙◌, ℕ, ◌+◌, ◌-◌, ◌*◌, length, take, drop, ap, arith}
use Rattle.std.proofs.lemmas.List.{length_push}
use Rattle.checker.proofs.TableLaws.{part_at, rows_more}
use Rattle.checker.proofs.table.add_rows.Goals as goal

pub loop-place-init : goal.loop-place-init
loop-place-init c = record { length_is = omega (arith, c.requires.length, c.args.rows.now.ok.0); rows = λ disk places is before. before }

pub loop-place-preserved : goal.loop-place-preserved
loop-place-preserved c =
    let so_far = c.loop-place.invariant in
    let old = c.loop-place.rows.items in
    let row = c.row_of-row.result in
    let place = c.loop-place.place in
    record {
      length_is = ap length c.in_ok-push.ensures.items ∙ length_push old row ∙ omega (arith, so_far.length_is);
      rows = λ disk places is before.
          rows_more disk places old c.push.new.self.items row c.in_ok-push.ensures.items (so_far.rows disk places is before) (record {
            unnamed = c.row_of-row.ensures.unnamed;
            inode = λ s i fits whole bytes.
                let part : 192 * place + 192 - 192 * place ≡ 192 = omega arith in
                c.row_of-row.ensures.inode s i fits
                (ap (λ (k : ℕ). take k (drop (192 * place) c.args.bytes.now)) part
                ∙ part_at disk places c.args.i place (length old) c.args.bytes.now is (omega (arith, c.loop-place-test.true, c.loop-place.auto.place-end)) so_far.length_is whole ∙ bytes);
          });
    }

pub returns-clause-length : goal.returns-clause-length
returns-clause-length c = omega (arith, c.loop-place-test.false, c.loop-place.auto.place-end, c.loop-place.invariant.length_is, c.requires.block, c.loop-place.rows.ok.0)

pub returns-clause-rows : goal.returns-clause-rows
returns-clause-rows c = c.loop-place.invariant.rows
