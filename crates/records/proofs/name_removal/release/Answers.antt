use Rattle.std.proofs.lemmas.Bool.{both_ways}
use Rattle.records.proofs.Looking.{behind, besides, brought, fails, tells}
use Rattle.records.proofs.name_removal.release.Goals as goal

pub returns-in_err-empty-clause-released : goal.returns-in_err-empty-clause-released
returns-in_err-empty-clause-released g c = fails c.from_residual.result c.from_residual.ensures.1 c.in_err-empty.ensures

pub returns-then-not-empty-clause-released : goal.returns-then-not-empty-clause-released
returns-then-not-empty-clause-released g c = tells c.in_ok-empty.ensures (λ detail disk settled v now is none. both_ways c.in_ok-empty.empty c.if-not-empty.true (is.1 none))

pub returns-in_err-load_to_change-clause-released : goal.returns-in_err-load_to_change-clause-released
returns-in_err-load_to_change-clause-released g c =
    fails c.from_residual-in_err-load_to_change.result c.from_residual-in_err-load_to_change.ensures.1 (behind c.in_ok-empty.ensures (brought c.in_err-load_to_change.ensures))

pub returns-clause-released : goal.returns-clause-released
returns-clause-released g c =
    tells (besides c.in_ok-empty.ensures (brought c.in_ok-load_to_change.ensures))
    (λ detail disk settled v now is. (c.released.ensures.updates _ _ disk settled v now.volume, is.0.0 c.if-not-empty.false))
