use Rattle.std.proofs.Common.{sym, subst}
use Rattle.std.proofs.lemmas.Result.{IfOk-weaker}
use Rattle.checker.specs.Seen.{KnowsBy}
use Rattle.checker.proofs.SeenNames.{rising_more}
use Rattle.checker.proofs.seen.Seen.add.Goals as goal

pub returns-in-Some-clause-new : goal.returns-in-Some-clause-new
returns-in-Some-clause-new c = IfOk-weaker c.insert.result _ _ (λ is_new told yes names more knows adds.
    told yes names more (subst (λ o. KnowsBy c.args.self.now.rising o names) c.in-Some.is knows) adds) c.insert.ensures.new

pub returns-then-precedes-clause-new : goal.returns-then-precedes-clause-new
returns-then-precedes-clause-new c = λ yes names more knows adds.
    let none = c.in_default.is in
    let old = subst (λ o. KnowsBy c.args.self.now.rising o names) none knows in
    let told = rising_more c.args.self.now.rising c.push.new.self c.args.name.now names more (c.precedes.ensures c.if-precedes.true) c.in_ok-push.ensures adds old in
    (told.0, subst (λ o. KnowsBy c.push.new.self o more) (sym none) told.1)

pub returns-clause-new : goal.returns-clause-new
returns-clause-new c = λ yes names more knows adds.
    c.in_ok-is_new.ensures.new yes names more (c.in_ok-set.ensures names (subst (λ o. KnowsBy c.args.self.now.rising o names) c.in_default.is knows)) adds
