use Rattle.std.proofs.Common.{◌≡◌, ℕ, ap, ◌∙◌, rules}
use Rattle.layout.specs.Bytes.{zeros}
use Rattle.layout.specs.declared.kind.Kind.TheVariants as kinds
use Rattle.inode.specs.Files.{file_block}
use Rattle.inode.specs.declared.object.Object.{Object}
use Rattle.inode.specs.declared.object.Status.{Status}
use Rattle.model.specs.Attributes.{no_attributes}
use Rattle.placement.specs.Files.{IsChangeOf}
use Rattle.planning.proofs.SpaceLaws.{none_stored}
use Rattle.planning.proofs.NumberLaws.{cleared_change, is_cleared, cut_off}
use Rattle.layout.specs.Limits.{Sizes}
use Rattle.layout.specs.Places.{Blocks}
use Rattle.planning.specs.Numbers.{IsSettledFile}
use Rattle.planning.proofs.placing.clear.Given.{Over}
use Rattle.planning.proofs.placing.clear.Goals as goal
use Rattle.planning.proofs.placing.clear.Goals.{After-free}
use Rattle.placement.proofs.StepLaws.{both_err, both_rise}
use Rattle.planning.proofs.PromiseLaws.{both_none}

-- the object that is placed has nothing
module _ (g : Over) (c : After-free g) (s : Sizes) (disk : Blocks) (settled : IsSettledFile s c.args.draft.now disk c.args.settled) where
  abbrev o : Object
  o = record { status = c.free.result; file = c.set_size.new.self; known = c.new-known.result }

  none : (i : ℕ) → file_block disk o.file i ≡ zeros 4096
  none i = c.set_size.ensures.blocks disk i ∙ cut_off i (file_block disk c.in_ok-file.file i)

  kind : o.status.kind ≡ kinds.Free
  kind = ap (λ (s : Status). s.kind) c.free.ensures

  attributes : o.status.attributes ≡ no_attributes
  attributes = ap (λ (s : Status). s.attributes) c.free.ensures

  links : o.status.links ≡ 0
  links = ap (λ (s : Status). s.links) c.free.ensures

  change : IsChangeOf s c.args.draft.now disk c.args.settled o
  change = cleared_change s c.args.draft.now disk c.args.settled o settled c.in_ok-file.file.tree c.in_ok-file.ensures.settled c.set_size.ensures.settled kind attributes links c.set_size.ensures.size none

pub returns-clause-cleared : goal.returns-clause-cleared
returns-clause-cleared g c = λ s disk shows file e has same.
    let at = (goal.at.returns-clause-cleared g c).After-free in
    let placed = c.in_ok-placed.ensures.placed s disk c.args.settled shows (change g at s disk file) in
    is_cleared s c.args.draft.now disk c.args.settled (o g at s disk file) file c.in_ok-file.file.tree c.in_ok-file.ensures.settled c.set_size.ensures.settled (kind g at s disk file) (attributes g at s disk file)
    (links g at s disk file) c.set_size.ensures.size (none g at s disk file) e _ _ _ (placed.placed e has same) (placed.content e has same)

pub returns-in_err-placed-clause-damaged : goal.returns-in_err-placed-clause-damaged
returns-in_err-placed-clause-damaged g c = λ s disk shows file bad.
    c.in_err-placed.ensures.damaged s disk c.args.settled shows (change g (goal.at.returns-in_err-placed-clause-damaged g c).After-free s disk file) (search rules)

pub returns-in_err-file-clause-step : goal.returns-in_err-file-clause-step
returns-in_err-file-clause-step g c = both_none c.from_residual.result c.from_residual.ensures.1

pub returns-in_err-placed-clause-step : goal.returns-in_err-placed-clause-step
returns-in_err-placed-clause-step g c = both_err c.from_residual-in_err-placed.result c.from_residual-in_err-placed.ensures.1 (both_rise c.in_err-placed.ensures.step (none_stored c.set_size.new.self c.set_size.ensures.size))

pub returns-clause-step : goal.returns-clause-step
returns-clause-step g c = both_rise c.in_ok-placed.ensures.step (none_stored c.set_size.new.self c.set_size.ensures.size)
