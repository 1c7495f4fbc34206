use Rattle.std.proofs.Common.{ℕ, ◌<◌, ◌∙◌, List, length, take, get_or, inl, inr, sym, subst, arith}
use Rattle.std.proofs.lemmas.List.{take_all, take_more}
use Rattle.std.proofs.lemmas.List.Elements.{Contains-get_or, Contains-push_cases}
use Rattle.std.specs.List.{Contains}
use Rattle.paths.specs.Numbers.{IsInodeNumber}
use Rattle.records.specs.Below.{IsMarkedNumber}
use Rattle.records.proofs.BelowLaws.{marks_more}
use Rattle.records.proofs.below.mark_all.Goals as goal

pub returns-in_err-mark-clause-marks : goal.returns-in_err-mark-clause-marks
returns-in_err-mark-clause-marks c = marks_more _ _ _ _ _ _ c.loop-number.invariant.marking c.mark.ensures.marks

pub returns-in_err-mark-clause-only : goal.returns-in_err-mark-clause-only
returns-in_err-mark-clause-only c = λ n is.
    let numbers = c.args.numbers.now in
    let at = c.loop-number.number-index in
    let here : at < length numbers = omega arith in
    elim (c.mark.ensures.only n is) [
      | inl before ↦ c.loop-number.invariant.only n before
      | inr same ↦ inr (subst (Contains numbers) (sym (same ∙ c.number-item.is)) (Contains-get_or numbers at c.number-item.result here))
    ]

pub returns-in_err-mark-clause-within : goal.returns-in_err-mark-clause-within
returns-in_err-mark-clause-within c = λ count all old.
    let at = c.loop-number.number-index in
    let here : at < length c.args.numbers.now = omega arith in
    c.mark.ensures.within count (subst (IsInodeNumber count) (sym c.number-item.is) (all at c.number-item.result here)) (c.loop-number.invariant.within count all old)

pub loop-number-preserved : goal.loop-number-preserved
loop-number-preserved c =
    let numbers = c.args.numbers.now in
    let at = c.loop-number.number-index in
    let here : at < length numbers = omega arith in
    let so_far = c.loop-number.invariant in
    let item = c.number-item.result in
    record {
      marking = marks_more _ _ _ _ _ _ so_far.marking c.mark.ensures.marks;
      all = λ n is. elim (Contains-push_cases (take at numbers) (get_or numbers at item) n (subst (λ (xs : List ℕ). Contains xs n) (take_more numbers at item here) is)) [
        | inl before ↦ c.mark.ensures.marks.kept n (so_far.all n before)
        | inr same ↦ subst (IsMarkedNumber c.mark.new.marks.items) (c.number-item.is ∙ same) c.in_ok-mark.ensures.marked
      ];
      only = λ n is. elim (c.mark.ensures.only n is) [
        | inl before ↦ so_far.only n before
        | inr same ↦ inr (subst (Contains numbers) (sym (same ∙ c.number-item.is)) (Contains-get_or numbers at c.number-item.result here))
      ];
      within = λ count all old. c.mark.ensures.within count (subst (IsInodeNumber count) (sym c.number-item.is) (all at item here)) (so_far.within count all old);
    }

pub returns-clause-all : goal.returns-clause-all
returns-clause-all c = λ n is.
    let numbers = c.args.numbers.now in
    c.loop-number.invariant.all n (subst (λ (xs : List ℕ). Contains xs n) (sym (take_all c.loop-number.number-index numbers (omega arith))) is)
