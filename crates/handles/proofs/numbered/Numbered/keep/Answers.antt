use Rattle.std.proofs.Common.{rules, ◌≡◌, ◌<◌, ◌∙◌, inl, inr, length, None, ap, sym, subst, arith}
use Rattle.std.specs.Prelude.{IsFalse, IsTrue, MatchOption, Option, ℕ}
use Rattle.std.proofs.lemmas.Bool.{false≢true}
use Rattle.model.specs.Outcomes.{HasNoFresh, IsFresh}
use Rattle.model.specs.States.{going}
use Rattle.model.specs.Trees.{IsUsed}
use Rattle.mount.specs.Systems.{mark_of}
use Rattle.handles.specs.Given.{may_make, has_restored}
use Rattle.handles.specs.Handles.{generation_in}
use Rattle.handles.proofs.KeepLemmas.{kept_by_full, kept_by_next, kept_by_unused}
use Rattle.handles.proofs.numbered.Numbered.keep.Goals as goal

pub returns-then-has_failed-clause-goes : goal.returns-then-has_failed-clause-goes
returns-then-has_failed-clause-goes g c = λ s t kept would wide gives shows. absurd (false≢true (sym shows.goes ∙ sym c.has_failed.ensures ∙ c.if-has_failed.true))

pub returns-then-has_restored-clause-goes : goal.returns-then-has_restored-clause-goes
returns-then-has_restored-clause-goes g c = λ s t kept would wide gives shows. inr c.give_all.ensures.next

pub returns-in_default-clause-goes : goal.returns-in_default-clause-goes
returns-in_default-clause-goes g c = λ s t kept would wide gives shows.
    let asked = c.args.command.now in
    let plain : IsFalse (has_restored asked c.args.reply.now) = sym c.has_restored.ensures ∙ c.if-has_restored.false in
    let none : c.args.number ≡ None = search rules in
    inl (kept_by_full s t asked c.args.reply.now gives plain (generation_in c.args.self.now.generations)
    (subst (λ (o : Option ℕ). MatchOption o (IsTrue (may_make asked) → HasNoFresh s.limits s.tree) (IsFresh s.limits s.tree)) none would))

pub returns-then-is_used-clause-goes : goal.returns-then-is_used-clause-goes
returns-then-is_used-clause-goes g c = λ s t kept would wide gives shows.
    let asked = c.args.command.now in
    let plain : IsFalse (has_restored asked c.args.reply.now) = sym c.has_restored.ensures ∙ c.if-has_restored.false in
    let fresh : IsFresh s.limits s.tree c.in-Some.number =
    subst (λ (o : Option ℕ). MatchOption o (IsTrue (may_make asked) → HasNoFresh s.limits s.tree) (IsFresh s.limits s.tree)) c.in-Some.is would in
    let used : IsUsed t.tree c.in-Some.number = (c.is_used.ensures t kept shows).0 c.if-is_used.true in
    let below : c.in-Some.number < length c.args.self.now.generations.given.items = omega (arith, fresh.high, wide) in
    inl (kept_by_next s t asked c.args.reply.now gives plain c.in-Some.number fresh (generation_in c.args.self.now.generations) (generation_in c.give.new.self)
    used (c.give.ensures.next below) c.give.ensures.others)

pub returns-else-is_used-clause-goes : goal.returns-else-is_used-clause-goes
returns-else-is_used-clause-goes g c = λ s t kept would wide gives shows.
    let asked = c.args.command.now in
    let plain : IsFalse (has_restored asked c.args.reply.now) = sym c.has_restored.ensures ∙ c.if-has_restored.false in
    let fresh : IsFresh s.limits s.tree c.in-Some.number =
    subst (λ (o : Option ℕ). MatchOption o (IsTrue (may_make asked) → HasNoFresh s.limits s.tree) (IsFresh s.limits s.tree)) c.in-Some.is would in
    inl (kept_by_unused s t asked c.args.reply.now gives plain c.in-Some.number fresh (generation_in c.args.self.now.generations)
    (λ used. false≢true (sym c.if-is_used.false ∙ (c.is_used.ensures t kept shows).1 used)))
