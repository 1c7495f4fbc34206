use Rattle.std.proofs.Common.{rules, sym, subst, ap, arith, ℕ, ◌≡◌, ◌≤◌, ◌∙◌}
use Rattle.layout.specs.StateLimits.{limits_of}
use Rattle.layout.specs.Limits.{Sizes}
use Rattle.model.specs.Records.{count_orphans}
use Rattle.replay.proofs.GraphLaws.{known_graph}
use Rattle.inofile.specs.Volumes.{IsVolumeIn}
use Rattle.replay.proofs.Errors.{passed}
use Rattle.replay.proofs.SweepLaws.{none_counted, one_at_most, one_counted}
use Rattle.replay.proofs.orphans.count_orphans.Goals as goal

pub overflow_add-count : goal.overflow_add-count
overflow_add-count g c = omega (arith, c.loop-number.invariant.few, c.from-count.ensures, one_at_most c.in_ok-is_one.is_one)

pub loop-number-init : goal.loop-number-init
loop-number-init g c = record {
  read = search rules;
  few = omega arith;
  counts = λ detail disk settled v shows has. none_counted c.args.inodes.now.geometry.inodes v (known_graph detail (limits_of c.args.inodes.now.geometry) v has.volume) has.memory.own;
}

pub loop-number-preserved : goal.loop-number-preserved
loop-number-preserved g c = record {
  read = search rules;
  few = omega (arith, c.loop-number.invariant.few, c.from-count.ensures, one_at_most c.in_ok-is_one.is_one);
  counts = λ detail disk settled v shows has.
      let read = c.loop-number.invariant.read in
      let told = c.in_ok-is_one.ensures.tells detail disk settled v (read.same disk shows)
      (subst (λ (n : ℕ). IsVolumeIn detail n disk settled c.args.inodes.now v) (sym read.count) has.memory) in
      one_counted c.loop-number.number c.loop-number.count c.from-count.result v c.in_ok-is_one.is_one (c.loop-number.invariant.counts detail disk settled v shows has) told c.from-count.ensures;
}

pub returns-in_err-is_one-clause-counts : goal.returns-in_err-is_one-clause-counts
returns-in_err-is_one-clause-counts g c detail disk settled v shows has =
    let read = c.loop-number.invariant.read in
    let why = c.in_err-is_one.ensures.tells detail disk settled v (read.same disk shows)
    (subst (λ (n : ℕ). IsVolumeIn detail n disk settled c.args.inodes.now v) (sym read.count) has.memory) in
    passed _ c.from_residual.result c.in_err-is_one.field-0.0 (search rules) why

pub returns-clause-few : goal.returns-clause-few
returns-clause-few g c = omega (arith, c.loop-number.invariant.few, c.inodes-number-end.ensures.within.most_inodes, c.inodes-number-end.ensures.value)

pub returns-clause-counts : goal.returns-clause-counts
returns-clause-counts g c detail disk settled v shows has =
    let inodes = c.args.inodes.now.geometry.inodes in
    let last : c.inodes-number-end.result ≡ inodes = c.inodes-number-end.ensures.value ∙ ap (λ (s : Sizes). s.inodes) c.geometry.ensures in
    let many : 4 ≤ inodes = omega (arith, last, c.inodes-number-end.ensures.value, c.inodes-number-end.ensures.within.least_inodes) in
    let at : c.loop-number.number ≡ inodes = omega (arith, last, many) in
    c.loop-number.invariant.counts detail disk settled v shows has ∙ ap (λ (n : ℕ). count_orphans n v) at
