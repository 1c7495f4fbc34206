use Rattle.std.proofs.Common.{Bool, inl, refl}
use Rattle.std.specs.Fn.{FnReturnsAt}
use Rattle.session.specs.declared.durability.Durability.TheVariants.{Together}
use Rattle.session.proofs.TalkLemmas.{settled_goes_on, together_open}
use Rattle.session.proofs.in_batches.go_on_together.Goals as goal

pub returns-then-waiting-lt-MOST_WAITING-clause-goes_on : goal.returns-then-waiting-lt-MOST_WAITING-clause-goes_on
returns-then-waiting-lt-MOST_WAITING-clause-goes_on g c first o dialog promised under_way = together_open first c.args.files.now o (g.O.Write.contents c.args.out.now.inner) (g.O.Write.contents c.args.out.now.inner) c.args.kept.now c.args.kept.now dialog promised under_way

pub returns-in-Ok-clause-goes_on : goal.returns-in-Ok-clause-goes_on
returns-in-Ok-clause-goes_on g c first o dialog promised under_way =
    let cut = λ (b : Bool). FnReturnsAt g.C.Fn c.args.was_cut.now c.settle.new.files.fs.system.blocks.buffers.station b in
    settled_goes_on Together first o c.settle.new.files _ c.settle.new.kept cut dialog c.in-Ok.field-0 (c.in-Ok.ensures.settles Together first c.args.files.now o dialog promised under_way (inl refl))

pub returns-in-Err-clause-goes_on : goal.returns-in-Err-clause-goes_on
returns-in-Err-clause-goes_on g c first o dialog promised under_way = c.in-Err.ensures.settles Together first c.args.files.now o dialog promised under_way (inl refl)
