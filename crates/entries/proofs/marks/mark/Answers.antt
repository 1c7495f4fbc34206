use Rattle.std.proofs.Common.{◌%◌, ◌/◌, ℕ, subst}
use Rattle.entries.specs.Marks.{IsMarkedAt, hash_of}
use Rattle.entries.specs.declared.TheConstants.{MARKS}
use Rattle.entries.proofs.marks.mark.Goals as goal

pub returns-clause-keeps : goal.returns-clause-keeps
returns-clause-keeps c = λ i print some is. c.mark_at-2.ensures.keeps i print some (c.mark_at.ensures.keeps i print some is)

pub returns-clause-marked : goal.returns-clause-marked
returns-clause-marked c =
    let marks = c.mark_at-2.new.marks in
    let print = c.print_of-print.result in
    let hash = c.hash_of-hash.ensures.value in
    let is = c.print_of-print.ensures.value c.args.name.now hash in
    let first = c.mark_at-2.ensures.keeps (c.hash_of-hash.result % MARKS) print c.print_of-print.ensures.some c.mark_at.ensures.marked in (
      subst (IsMarkedAt marks (hash_of c.args.name.now % MARKS)) is (subst (λ (h : ℕ). IsMarkedAt marks (h % MARKS) print) hash first),
      subst (IsMarkedAt marks (hash_of c.args.name.now / MARKS)) is (subst (λ (h : ℕ). IsMarkedAt marks (h / MARKS) print) hash c.mark_at-2.ensures.marked),
    )
