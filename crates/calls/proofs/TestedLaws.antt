-- Tests that refuse a call, and tests that it passes.
use Rattle.std.proofs.Common.{◌≡◌, Option, Some, None, refl, sym, subst}
use Rattle.model.specs.Outcomes.{Outcome, refuses, tested}
use Rattle.model.specs.Paths.{Tests, first_refusal}
use Rattle.model.specs.Room.{Need, nothing}
use Rattle.model.specs.Trees.{Tree}
use Rattle.model.specs.declared.errno.Errno.{Errno}
use Rattle.model.specs.declared.reply.Reply.{Reply}
use Rattle.model.specs.declared.reply.Reply.TheVariants.{Refused}

module _ (t : Tree) where
  pub tested_some : (tests : Tests) (rest : Outcome) (errno : Errno) → first_refusal tests ≡ Some errno → tested t tests rest (Refused errno) t nothing
  tested_some tests rest errno is =
      subst (λ (o : Option Errno). (elim o as (λ _. Outcome) [ Some e ↦ refuses t e | None ↦ rest ]) (Refused errno) t nothing) (sym is) (refl, refl, refl)

  pub tested_none : (tests : Tests) (rest : Outcome) (reply : Reply) (new : Tree) (need : Need) → first_refusal tests ≡ None → rest reply new need → tested t tests rest reply new need
  tested_none tests rest reply new need is done =
      subst (λ (o : Option Errno). (elim o as (λ _. Outcome) [ Some e ↦ refuses t e | None ↦ rest ]) reply new need) (sym is) done
