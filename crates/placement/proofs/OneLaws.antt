-- Whether a block is one of a list, as a test and by its place there.
use Rattle.std.proofs.Common.{◌≡◌, ℕ, true, List, length, sym, ◌∙◌}
use Rattle.std.proofs.lemmas.Bool.{eq-eqb, eqb-true}
use Rattle.std.proofs.lemmas.List.{get_or_default}
use Rattle.std.proofs.lemmas.List.Folds.{list_any_at}
use Rattle.std.proofs.lemmas.Map.Views.{Contains-from_any}
use Rattle.std.specs.Prelude.{◌==◌, slice_index}
use Rattle.conspoint.specs.Marks.{IsAmong}
use Rattle.placement.specs.Files.{is_one}

pub among : (xs : List ℕ) (b : ℕ) → is_one xs b ≡ true → IsAmong xs (length xs) b
among xs b is = (let at = Contains-from_any (λ x y e. eqb-true x y e) b xs is in (at.0, at.1, get_or_default xs at.0 0 b at.1 ∙ at.2))

pub one_of : (xs : List ℕ) (b : ℕ) → IsAmong xs (length xs) b → is_one xs b ≡ true
one_of xs b at = list_any_at (λ x. b == x) xs at.0 0 at.1 (eq-eqb b (slice_index xs at.0) (sym at.2))
