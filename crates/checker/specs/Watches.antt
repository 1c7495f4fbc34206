-- What a watch is told.
use Rattle.std.specs.Prelude.{◌≡◌}
use Rattle.checker.specs.Findings.{IsFirstTold}
use Rattle.checker.specs.declared.findings.Findings.{Findings}
use Rattle.checker.specs.declared.findings.Watch.{Ghosts}

-- The same watch is told what is found: if the first that it was told was the first finding, it
-- still is.
pub record KeepsTelling {W : Type 0} (G : Ghosts W) (old new : Findings W) : Type 0 where
  pub watch : new.watch.ghost_name ≡ old.watch.ghost_name
  pub first : IsFirstTold (G.told old.watch.now) old.first → IsFirstTold (G.told new.watch.now) new.first
