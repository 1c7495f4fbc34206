use Rattle.std.proofs.Common.{◌∙◌, subst, IsTrue, Option}
use Rattle.std.proofs.lemmas.Bool.{false≢true}
use Rattle.model.specs.Volumes.{Node, is_file_node}
use Rattle.inofile.specs.Settled.{content_of_object}
use Rattle.records.proofs.Looking.{brought, fails, tells}
use Rattle.records.proofs.RewriteLaws.{file_size}
use Rattle.records.proofs.rewriting.size_at.Goals as goal

pub returns-in_err-load : goal.returns-in_err-load
returns-in_err-load g c = fails c.from_residual.result c.from_residual.ensures.1 (brought c.in_err-load.ensures)

pub returns-in-Some : goal.returns-in-Some
returns-in-Some g c = tells (brought c.in_ok-load.ensures) (λ detail disk settled v now any is.
    let object = c.in-Some.object.now in
    let o = c.in-Some.ensures.stands _ _ disk settled v now.volume in
    c.size.ensures.value ∙ file_size detail object.status.kind c.load.new.inodes.geometry.inodes (content_of_object disk object) (v c.args.number) o.stands is)

pub returns-in-None : goal.returns-in-None
returns-in-None g c = tells (brought c.in_ok-load.ensures) (λ detail disk settled v now any is.
    absurd (false≢true (subst (λ (node : Option Node). IsTrue (is_file_node node)) (c.in-None.ensures.stands_for_none _ _ disk settled v now.volume) is)))
