use Rattle.std.proofs.Common.{◌≡◌, ℕ, List, [], ◌∷◌, length, nat_eq, IsSome, is_some, refl, sym, ap, ◌∙◌}
use Rattle.std.proofs.lemmas.Bool.{cond-true, eq-eqb, false≢true}
use Rattle.std.specs.Map.{lookup}
use Rattle.descriptors.specs.declared.shared.SharedFile.{SharedFile}
use Rattle.descriptors.proofs.shared.SharedFiles.is_empty.Goals as goal

some_key : (es : List (ℕ × SharedFile)) → (length es ≡ 0 → ⊥) → (n : ℕ) × IsSome (lookup (nat_eq n) es)
some_key [] none = absurd (none refl)
some_key (e ∷ es) none = (e.0, ap is_some (cond-true (nat_eq e.0 e.0) _ _ (eq-eqb e.0 e.0 refl)))

pub returns-clause-some : goal.returns-clause-some
returns-clause-some c some = some_key c.args.self.now.files.entries (λ none. false≢true (sym some ∙ c.is_empty.ensures.1 none))
