use Rattle.std.proofs.Common.{rules, sym, ◌≡◌, inl, inr, ◌-◌, ◌<◌, ℕ, arith, subst, []}
use Rattle.std.proofs.lemmas.Bool.{cases_lt}
use Rattle.std.proofs.lemmas.List.{nil_from_length}
use Rattle.blocktree.specs.Trees.{IsSoundAt}
use Rattle.buffers.proofs.ReadLaws.{only_more, only_ok, only_then, reads_err, reads_ok}
use Rattle.dirs.proofs.edit.Edit.trimmed.Goals as goal

pub returns-in_err-look-clause-damaged : goal.returns-in_err-look-clause-damaged
returns-in_err-look-clause-damaged g c = λ disk shows is reached sound.
    let i = c.loop-i.i - 1 in
    let below : i < c.args.end = omega arith in
    let so_far = c.loop-i.invariant in
    let here = subst (λ n. IsSoundAt n disk c.args.file.now.tree i) (sym so_far.read.count) (reached i below) in
    let held = sound i below in
    c.in_err-look.ensures.damaged disk (so_far.read.same disk shows) (search rules) here held.0 held.1

pub returns-then-look-gt0-clause-empty : goal.returns-then-look-gt0-clause-empty
returns-then-look-gt0-clause-empty g c = λ disk entries shows knows holds i from below.
    c.loop-i.invariant.empty disk entries shows knows holds i (omega (arith, from)) below

pub loop-i-preserved : goal.loop-i-preserved
loop-i-preserved g c =
    let so_far = c.loop-i.invariant in
    let look = c.in_ok-look.ensures in
    record {
      read = only_then so_far.read look.reads;
      knows = λ disk shows knows. look.knows disk (so_far.read.same disk shows) (so_far.knows disk shows knows);
      empty = λ disk entries shows knows holds j from below. elim (cases_lt j c.loop-i.i) [
        | inl here ↦
            let is : c.loop-i.i - 1 ≡ j = omega (arith, from, here) in
            let within : c.loop-i.i - 1 < c.args.end = omega (arith, is, below) in
            let names = (look.tells disk (so_far.read.same disk shows) (so_far.knows disk shows knows)).names (entries (c.loop-i.i - 1)) (holds (c.loop-i.i - 1) within) in
            subst (λ (k : ℕ). entries k ≡ []) is (nil_from_length (entries (c.loop-i.i - 1)) (omega (arith, names)))
        | inr behind ↦ so_far.empty disk entries shows knows holds j behind below
      ];
    }

pub returns-clause-empty : goal.returns-clause-empty
returns-clause-empty g c = λ disk entries shows knows holds i from below.
    c.loop-i.invariant.empty disk entries shows knows holds i (omega arith) below

pub returns-in_err-look-clause-reads : goal.returns-in_err-look-clause-reads
returns-in_err-look-clause-reads g c = reads_err c.from_residual.result c.from_residual.ensures.1 (only_more _ c.loop-i.invariant.read c.in_err-look.ensures.reads)

pub returns-then-look-gt0-clause-reads : goal.returns-then-look-gt0-clause-reads
returns-then-look-gt0-clause-reads g c = reads_ok (only_more _ c.loop-i.invariant.read c.in_ok-look.ensures.reads)

pub returns-clause-reads : goal.returns-clause-reads
returns-clause-reads g c = only_ok c.loop-i.invariant.read

pub returns-in_err-look-clause-knows : goal.returns-in_err-look-clause-knows
returns-in_err-look-clause-knows g c = λ disk shows knows. c.in_err-look.ensures.knows disk (c.loop-i.invariant.read.same disk shows) (c.loop-i.invariant.knows disk shows knows)

pub returns-then-look-gt0-clause-knows : goal.returns-then-look-gt0-clause-knows
returns-then-look-gt0-clause-knows g c = λ disk shows knows. c.in_ok-look.ensures.knows disk (c.loop-i.invariant.read.same disk shows) (c.loop-i.invariant.knows disk shows knows)
