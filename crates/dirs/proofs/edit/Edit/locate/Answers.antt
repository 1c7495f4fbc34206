use Rattle.std.proofs.Common.{rules, ◌∙◌, inl, inr, sym, subst, arith}
use Rattle.std.proofs.lemmas.Bool.{cases_eq}
use Rattle.layout.specs.Directory.{HoldsEntries}
use Rattle.blocktree.specs.Trees.{IsSoundAt}
use Rattle.dirs.specs.Edits.{edited_block, HasNumber}
use Rattle.dirs.proofs.LookLaws.{number_told, none_more}
use Rattle.buffers.proofs.ReadLaws.{only_more, only_ok, only_then, reads_err, reads_ok}
use Rattle.dirs.proofs.edit.Edit.locate.Goals as goal

pub returns-in_err-look-clause-damaged : goal.returns-in_err-look-clause-damaged
returns-in_err-look-clause-damaged g c = λ disk shows is reached sound.
    let i = c.loop-i.i in
    let so_far = c.loop-i.invariant in
    let here = subst (λ n. IsSoundAt n disk c.args.file.now.tree i) (sym so_far.read.count) (reached i c.loop-i-test.true) in
    let held = sound i c.loop-i-test.true in
    c.in_err-look.ensures.damaged disk (so_far.read.same disk shows) (search rules) here held.0 held.1

pub returns-in-Some-clause-first : goal.returns-in-Some-clause-first
returns-in-Some-clause-first g c = λ disk shows knows.
    let block = edited_block disk c.args.file.now c.args.self.now in
    let told = number_told c.args.inodes (block c.loop-i.i) c.args.name.now c.in_ok-look.look (c.in_ok-look.ensures.tells disk (c.loop-i.invariant.read.same disk shows) (c.loop-i.invariant.knows disk shows knows)) in
    (c.loop-i.i, c.loop-i-test.true, c.loop-i.invariant.first disk shows knows, subst (HasNumber c.args.inodes (block c.loop-i.i) c.args.name.now) c.in-Some.is told)

pub loop-i-preserved : goal.loop-i-preserved
loop-i-preserved g c =
    let so_far = c.loop-i.invariant in
    let look = c.in_ok-look.ensures in
    let i = c.loop-i.i in
    record {
      read = only_then so_far.read look.reads;
      knows = λ disk shows knows. look.knows disk (so_far.read.same disk shows) (so_far.knows disk shows knows);
      passed = λ disk shows knows j below entries holds. elim (cases_eq j i) [
        | inl same ↦ sym ((look.tells disk (so_far.read.same disk shows) (so_far.knows disk shows knows)).number entries (subst (λ k. HoldsEntries c.args.inodes (edited_block disk c.args.file.now c.args.self.now k) entries) same holds)) ∙ c.in_default.is
        | inr else ↦ so_far.passed disk shows knows j (omega (arith, below, else)) entries holds
      ];
      first = λ disk shows knows.
          let block = edited_block disk c.args.file.now c.args.self.now in
          let told = number_told c.args.inodes (block i) c.args.name.now c.in_ok-look.look (look.tells disk (so_far.read.same disk shows) (so_far.knows disk shows knows)) in
          none_more c.args.inodes block i c.args.name.now (so_far.first disk shows knows) (subst (HasNumber c.args.inodes (block i) c.args.name.now) c.in_default.is told);
    }

pub returns-clause-first : goal.returns-clause-first
returns-clause-first g c = λ disk shows knows j below. c.loop-i.invariant.first disk shows knows j (omega (arith, below, c.loop-i-test.false))

pub returns-in_err-look-clause-reads : goal.returns-in_err-look-clause-reads
returns-in_err-look-clause-reads g c = reads_err c.from_residual.result c.from_residual.ensures.1 (only_more _ c.loop-i.invariant.read c.in_err-look.ensures.reads)

pub returns-in-Some-clause-reads : goal.returns-in-Some-clause-reads
returns-in-Some-clause-reads g c = reads_ok (only_more _ c.loop-i.invariant.read c.in_ok-look.ensures.reads)

pub returns-clause-reads : goal.returns-clause-reads
returns-clause-reads g c = only_ok c.loop-i.invariant.read

pub returns-in_err-look-clause-knows : goal.returns-in_err-look-clause-knows
returns-in_err-look-clause-knows g c = λ disk shows knows. c.in_err-look.ensures.knows disk (c.loop-i.invariant.read.same disk shows) (c.loop-i.invariant.knows disk shows knows)

pub returns-in-Some-clause-knows : goal.returns-in-Some-clause-knows
returns-in-Some-clause-knows g c = λ disk shows knows. c.in_ok-look.ensures.knows disk (c.loop-i.invariant.read.same disk shows) (c.loop-i.invariant.knows disk shows knows)

pub returns-in-Some-clause-placed : goal.returns-in-Some-clause-placed
returns-in-Some-clause-placed g c = λ disk entries shows knows holds.
    let tells = c.in_ok-look.ensures.tells disk (c.loop-i.invariant.read.same disk shows) (c.loop-i.invariant.knows disk shows knows) in
    (c.loop-i-test.true, sym (tells.number (entries c.loop-i.i) (holds c.loop-i.i c.loop-i-test.true)) ∙ c.in-Some.is)
