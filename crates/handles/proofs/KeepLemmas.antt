-- What is kept of the generations, by what is known of the number that a command would give.
use Rattle.std.proofs.Common.{◌≡◌, ◌≢◌, inl, inr, ℕ, None, Option, Some, refl, sym, subst, arith}
use Rattle.std.specs.Prelude.{IsFalse, IsTrue, MatchOption}
use Rattle.std.proofs.lemmas.Bool.{cases_lt}
use Rattle.model.specs.declared.command.Command.{Command}
use Rattle.model.specs.declared.reply.Reply.{Reply}
use Rattle.model.specs.Generations.{GivesNumbers, next_generation}
use Rattle.model.specs.Outcomes.{HasNoFresh, IsFresh}
use Rattle.model.specs.States.{State}
use Rattle.model.specs.Trees.{IsUsed}
use Rattle.handles.specs.Given.{may_make, has_restored, GivesFresh}

-- what holds where no number is free holds under a premise too
pub full_where : (A B : Type 0) (P : ℕ → Type 0) (number : Option ℕ) → MatchOption number A P → MatchOption number (B → A) P
full_where A B P None full = λ premise. full
full_where A B P (Some n) fresh = fresh

module _ (s t : State) (asked : Command) (answer : Reply) (gives : GivesFresh s t asked answer) (plain : IsFalse (has_restored asked answer)) where
  one_fresh : (k n : ℕ) → IsFresh s.limits s.tree k → IsFresh s.limits s.tree n → n ≡ k
  one_fresh k n one other =
      elim (cases_lt n k) [
        | inl below ↦ absurd (other.free (one.least n other.low below))
        | inr up ↦ elim (cases_lt k n) [
          | inl above ↦ absurd (one.free (other.least k one.low above))
          | inr down ↦ omega (arith, up, down)
        ]
      ]

  -- where it may give none
  pub kept_by_full : (g : ℕ → ℕ) → (IsTrue (may_make asked) → HasNoFresh s.limits s.tree) → GivesNumbers s.tree t.tree g g
  kept_by_full g full = record {
    given = λ n unused used. elim (gives.used plain n used) [ inl was ↦ absurd (unused was) | inr fresh ↦ absurd (unused (full fresh.0 n fresh.1.low fresh.1.high)) ];
    kept = λ n known. refl;
  }

  module _ (k : ℕ) (fresh : IsFresh s.limits s.tree k) where
    -- what isn't in use before and is behind is this number
    only : (n : ℕ) → ¬ IsUsed s.tree n → IsUsed t.tree n → n ≡ k
    only n unused used = elim (gives.used plain n used) [ inl was ↦ absurd (unused was) | inr new ↦ one_fresh k n fresh new.1 ]

    -- where it gave none
    pub kept_by_unused : (g : ℕ → ℕ) → ¬ IsUsed t.tree k → GivesNumbers s.tree t.tree g g
    kept_by_unused g free = record {
      given = λ n unused used. absurd (free (subst (λ m. IsUsed t.tree m) (only n unused used) used));
      kept = λ n known. refl;
    }

    -- where it gave this one
    pub kept_by_next : (old new : ℕ → ℕ) → IsUsed t.tree k → new k ≡ next_generation (old k) → ((n : ℕ) → n ≢ k → new n ≡ old n) → GivesNumbers s.tree t.tree old new
    kept_by_next old new taken next others = record {
      given = λ n unused used. subst (λ m. new m ≡ next_generation (old m)) (sym (only n unused used)) next;
      kept = λ n known. others n (λ same. elim known [
        | inl was ↦ fresh.free (subst (λ m. IsUsed s.tree m) same was)
        | inr unused ↦ unused (subst (λ m. IsUsed t.tree m) (sym same) taken)
      ]);
    }
