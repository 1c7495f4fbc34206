use Rattle.std.proofs.Common.{◌≡◌, ◌+◌, ◌∙◌, ℕ, sym, subst, arith}
use Rattle.std.proofs.lemmas.Bool.{false≢true}
use Rattle.model.specs.Counting.{Counts}
use Rattle.inofile.proofs.CountLaws.{TakenBelow, none_taken, one_taken}
use Rattle.inofile.proofs.numbers.Numbers.count_taken.Goals as goal
use Rattle.inofile.proofs.numbers.Numbers.count_taken.Goals.{then-is_taken, else-is_taken}

pub loop-number-preserved : goal.loop-number-preserved
loop-number-preserved c =
    let bytes = c.args.self.now.bytes.items in
    let k = c.loop-number.number in
    let so_far = c.loop-number.invariant in
    record {
      counts = elim c.if-is_taken.branch [
        | then-is_taken w ↦
            subst (Counts (TakenBelow bytes (k + 1))) (sym w.count-is) (one_taken bytes k c.loop-number.count c.loop-number.auto.number (c.is_taken.ensures.0 w.if-is_taken.true) so_far.counts)
        | else-is_taken w ↦
            subst (Counts (TakenBelow bytes (k + 1))) (sym w.count-is)
            (none_taken bytes k c.loop-number.count (λ taken. false≢true (sym w.if-is_taken.false ∙ c.is_taken.ensures.1 taken)) so_far.counts)
      ];
      few = elim c.if-is_taken.branch [ then-is_taken w ↦ omega arith | else-is_taken w ↦ omega arith ];
    }

pub returns-clause-counts : goal.returns-clause-counts
returns-clause-counts c =
    let numbers = c.args.self.now in
    let low = numbers.low in
    let high = numbers.high in
    let end : c.loop-number.number ≡ numbers.inodes = omega arith in
    subst (λ (to : ℕ). Counts (TakenBelow numbers.bytes.items to) c.loop-number.count) end c.loop-number.invariant.counts
