use Rattle.std.proofs.Common.{◌≡◌, OnOk, Option, None, Some, sym, subst, ◌∙◌}
use Rattle.inode.specs.declared.object.Object.{Object}
use Rattle.inofile.specs.Objects.{IsObjectOrNone, StaysKnown}
use Rattle.records.specs.Contents.{IsWholeIn}
use Rattle.model.proofs.OptionLaws.{none_some}
use Rattle.records.proofs.contents.plan_object.Goals as goal

pub returns-clause-told : goal.returns-clause-told
returns-clause-told g c = λ detail disk inodes settled found stands.
    let was : c.args.object.now ≡ Some c.in-Some.taken = sym c.take.ensures.value ∙ c.in-Some.is in
    c.plan_taken-planned.ensures.told detail disk inodes settled found (subst (λ (x : Option Object). IsObjectOrNone detail disk inodes settled x found) was stands)

pub returns-clause-stores : goal.returns-clause-stores
returns-clause-stores g c = c.plan_taken-planned.ensures.stores

pub returns-clause-rewrites : goal.returns-clause-rewrites
returns-clause-rewrites g c = λ detail disk inodes settled found shows stands.
    let was : c.args.object.now ≡ Some c.in-Some.taken = sym c.take.ensures.value ∙ c.in-Some.is in
    let o = subst (λ (x : Option Object). IsObjectOrNone detail disk inodes settled x found) was stands in
    c.plan_taken-planned.ensures.rewrites detail disk shows o.ends

pub returns-in_default-clause-whole : goal.returns-in_default-clause-whole
returns-in_default-clause-whole g c = λ disk o shows some.
    let none : c.args.object.now ≡ None = sym c.take.ensures.value ∙ c.in_default.is in
    none_some (sym none ∙ some)

pub returns-clause-whole : goal.returns-clause-whole
returns-clause-whole g c = λ disk o shows some.
    let was : c.args.object.now ≡ Some c.in-Some.taken = sym c.take.ensures.value ∙ c.in-Some.is in
    let same : c.in-Some.taken ≡ o = cc in
    subst (λ (x : Object). OnOk c.plan_taken-planned.result (IsWholeIn disk c.args.rewrite.now x)) same (c.plan_taken-planned.ensures.whole disk shows)

pub returns-clause-damaged : goal.returns-clause-damaged
returns-clause-damaged g c = λ disk shows is sound.
    c.plan_taken-planned.ensures.damaged disk shows is (sound c.in-Some.taken (sym c.take.ensures.value ∙ c.in-Some.is))

pub returns-clause-knows : goal.returns-clause-knows
returns-clause-knows g c = λ inodes disk.
    let was : c.args.object.now ≡ Some c.in-Some.taken = sym c.take.ensures.value ∙ c.in-Some.is in
    subst (λ (x : Option Object). StaysKnown inodes disk x (Some c.plan_taken-planned.new.object)) (sym was) (c.plan_taken-planned.ensures.knows inodes disk)
