use Rattle.dispatch.proofs.FulfilLaws.{answered_fulfils}
use Rattle.dispatch.proofs.serving.call.Goals as goal

pub returns-then-looks_only : goal.returns-then-looks_only
returns-then-looks_only g c =
    rw c.called.ensures
    (answered_fulfils {G = g.S.Station} c.args.system.now c.look.new.system c.args.call.now (λ s served. c.served_states_open.ensures s.tree.descriptors s served) c.look.result c.look.ensures)
