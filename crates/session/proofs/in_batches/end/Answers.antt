use Rattle.std.proofs.Common.{Bool, inl, inr, refl}
use Rattle.session.proofs.in_batches.end.Goals as goal

pub returns-in-Ok-clause-settles : goal.returns-in-Ok-clause-settles
returns-in-Ok-clause-settles g c d first o dialog promised under_way =
    inl (refl, (c.settle-settled.new.kept, (c.in-Ok.field-0, c.in-Ok.ensures.settles d first c.args.files.now o dialog promised under_way (inl refl))))

pub returns-in-Err-clause-settles : goal.returns-in-Err-clause-settles
returns-in-Err-clause-settles g c d first o dialog promised under_way = inr (c.in-Err.ensures.settles d first c.args.files.now o dialog promised under_way (inl refl))
