use Rattle.handles.proofs.GivenLaws.{fresh_are_given}
use Rattle.handles.proofs.given.fresh_numbers_are_given.Goals as goal

pub returns : goal.returns
returns c = fresh_are_given
