use Rattle.std.proofs.Common.{◌≡◌, ap, refl, sym, ◌∙◌}
use Rattle.images.specs.SnapshotSteps.SnapshotStep.{unchanged}
use Rattle.model.specs.Trees.{Description}
use Rattle.std.proofs.Common.{ℕ, Option}
use Rattle.model.specs.States.{State, with_snapshots}
use Rattle.planning.specs.declared.change.SnapshotChange.TheVariants as changes
use Rattle.system.specs.Points.{StepsTo}
use Rattle.system.specs.Systems.{HasState}
use Rattle.system.proofs.system.System.point.Goals as goal

-- a state has the snapshots that it has
same_state : (s t : State) → s ≡ t → with_snapshots t.snapshots s ≡ s
same_state s t is = ap (λ (x : State). with_snapshots x.snapshots s) (sym is)

pub returns-clause-slots : goal.returns-clause-slots
returns-clause-slots g c = λ s served. c.point_with.ensures.slots s served refl

pub returns-clause-makes : goal.returns-clause-makes
returns-clause-makes g c =
    let made = c.point_with.ensures.makes in
    let f = c.args.self.now in
    let leads : (table : ℕ → Option Description) (s : State) (serves : HasState {G = g.S.Station} f table s) (t : State) → t ≡ s → StepsTo {G = g.S.Station} changes.Unchanged f table s serves t =
    λ table s serves t is. (unchanged, record { is = refl; can = tt }, tt, is ∙ sym (same_state s _ serves.state)) in
    record {
      counted = made.counted;
      any_moment = λ table s serves t is roomy. made.any_moment table s serves t (leads table s serves t is) tt;
      covered = λ table s serves t is roomy. made.covered table s serves t (leads table s serves t is) tt;
      refused = made.refused;
      kept = made.kept;
      unlogged = made.unlogged;
      generation = made.generation;
      log = made.log;
      rests = made.rests;
      unchanged = made.unchanged;
      roomy = λ table s serves t is roomy. made.roomy table s serves t (leads table s serves t is) tt;
      damaged = λ table s serves t is. made.damaged table s serves t (leads table s serves t is);
      last = made.last;
      past = made.past;
    }
