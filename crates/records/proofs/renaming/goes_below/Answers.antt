use Rattle.std.proofs.Common.{ℕ, ◌≡◌, Some, subst}
use Rattle.std.proofs.lemmas.Bool.{false≢true}
use Rattle.layout.specs.StateLimits.{limits_of}
use Rattle.model.specs.Volumes.{entries}
use Rattle.paths.proofs.Looks.{looks_ok}
use Rattle.records.proofs.BelowLaws.{never_around}
use Rattle.records.proofs.DetailLaws.{graph_of}
use Rattle.records.proofs.StandLaws.{no_look}
use Rattle.records.proofs.renaming.goes_below.Goals as goal

pub returns-then-is_same-clause-looks : goal.returns-then-is_same-clause-looks
returns-then-is_same-clause-looks g c = looks_ok no_look

pub returns-then-is_same-clause-below : goal.returns-then-is_same-clause-below
returns-then-is_same-clause-below g c = λ detail name disk settled v stands known there. (
  λ is. absurd (false≢true is),
  λ below. absurd (never_around v (graph_of detail (limits_of c.args.inodes.now.geometry) v known) c.args.number c.args.new_parent name
      (subst (λ (k : ℕ). entries v k name ≡ Some c.args.number) (c.is_same.ensures.yes c.if-is_same.true) there) below),
)

pub returns-clause-below : goal.returns-clause-below
returns-clause-below g c = λ detail name disk settled v stands known there. c.is_below.ensures.below detail disk settled v stands known
