use Rattle.std.proofs.Common.{Bool, inl, refl}
use Rattle.std.specs.Fn.{FnReturnsAt}
use Rattle.session.proofs.TalkLemmas.{settled_goes_on}
use Rattle.session.proofs.in_batches.settle_deferred.Goals as goal

pub returns-in-Ok-Ok-clause-goes_on : goal.returns-in-Ok-Ok-clause-goes_on
returns-in-Ok-Ok-clause-goes_on g c d first o dialog promised under_way =
    let cut = λ (b : Bool). FnReturnsAt g.C.Fn c.args.was_cut.now c.settle.new.files.fs.system.blocks.buffers.station b in
    settled_goes_on d first o c.settle.new.files _ c.settle.new.kept cut dialog c.in-Ok-Ok.field-0 (c.in-Ok-Ok.ensures.settles d first c.args.files.now o dialog promised under_way (inl refl))

pub returns-in-Ok-Err-clause-goes_on : goal.returns-in-Ok-Err-clause-goes_on
returns-in-Ok-Err-clause-goes_on g c d first o dialog promised under_way =
    let cut = λ (b : Bool). FnReturnsAt g.C.Fn c.args.was_cut.now c.settle.new.files.fs.system.blocks.buffers.station b in
    settled_goes_on d first o c.settle.new.files _ c.settle.new.kept cut dialog c.in-Ok-Err.field-0 (c.in-Ok-Err.ensures.settles d first c.args.files.now o dialog promised under_way (inl refl))

pub returns-in-Err-clause-goes_on : goal.returns-in-Err-clause-goes_on
returns-in-Err-clause-goes_on g c d first o dialog promised under_way = c.in-Err.ensures.settles d first c.args.files.now o dialog promised under_way (inl refl)
