use Rattle.std.proofs.Common.{◌≡◌, ℕ, MatchOption, None, refl, subst}
use Rattle.calls.specs.Stat.{IsStatOf}
use Rattle.calls.proofs.SeeSteps.{tells_all, tells_none, tells_refusal}
use Rattle.calls.proofs.StatLaws.{none_there}
use Rattle.calls.proofs.reading.stat.stat_number.Goals as goal

pub returns-in_err-load-clause-told : goal.returns-in_err-load-clause-told
returns-in_err-load-clause-told g c = tells_none c.from_residual.result c.from_residual.ensures.1 c.in_err-load.ensures.looks c.in_err-load.ensures.damaged

pub returns-in_default-clause-told : goal.returns-in_default-clause-told
returns-in_default-clause-told g c = tells_refusal c.in_ok-load.ensures.looks refl (λ disk settled v stands.
    let now = c.load.ensures.looks.kept disk settled v stands in
    none_there (v c.args.number) (subst (λ (n : ℕ). v n ≡ None) c.get-at.ensures (c.in_default.ensures.stands_for_none _ _ disk settled v now.volume)))

pub returns-clause-told : goal.returns-clause-told
returns-clause-told g c = tells_all c.in_ok-load.ensures.looks (λ disk settled v stands.
    let now = c.load.ensures.looks.kept disk settled v stands in
    let n = c.get-at.result in
    subst (λ (k : ℕ). IsStatOf k (v k) c.in-Some-stat_of.stat) c.get-at.ensures (subst (λ s. MatchOption s ⊥ (IsStatOf n (v n))) c.in-Some-stat_of.is
    (c.stat_of.ensures.told disk c.load.new.inodes.geometry.inodes (settled n) (v n) (c.in-Some.ensures.stands _ _ disk settled v now.volume))))

pub returns-in_default-stat_of-clause-told : goal.returns-in_default-stat_of-clause-told
returns-in_default-stat_of-clause-told g c = tells_refusal c.in_ok-load.ensures.looks refl (λ disk settled v stands.
    let now = c.load.ensures.looks.kept disk settled v stands in
    let n = c.get-at.result in
    absurd (subst (λ s. MatchOption s ⊥ (IsStatOf n (v n))) c.in_default-stat_of.is
    (c.stat_of.ensures.told disk c.load.new.inodes.geometry.inodes (settled n) (v n) (c.in-Some.ensures.stands _ _ disk settled v now.volume))))
