use Rattle.std.proofs.Common.{refl}
use Rattle.mount.proofs.WaitLemmas.{waits_answered, waits_refused_so}
use Rattle.mount.proofs.waiting.Waiting.wait_anew.Goals as goal

pub returns-in-Ok : goal.returns-in-Ok
returns-in-Ok g c =
    waits_answered {G = g.S.Station} c.args.self.now _ c.let_go.new.self c.args.command.now c.requires.going refl c.requires.is_call c.let_go.ensures.station c.let_go.ensures.files c.let_go.ensures.glances.log
    (λ table s kept ahead. c.let_go.ensures.ahead c.args.self.now.records table s kept ahead)
    (λ s kept shows. c.kept_states_open.ensures.opens c.args.self.now.records s.tree.descriptors s kept shows.ahead) c.in-Ok.reply c.in-Ok.ensures

pub returns-in-Err : goal.returns-in-Err
returns-in-Err g c =
    waits_refused_so {G = g.S.Station} c.args.self.now _ c.let_go.new.self c.args.command.now c.requires.going refl c.requires.is_call c.let_go.ensures.station c.let_go.ensures.files c.let_go.ensures.glances.log
    (λ table s kept ahead. c.let_go.ensures.ahead c.args.self.now.records table s kept ahead)
    (λ s kept shows. c.kept_states_open.ensures.opens c.args.self.now.records s.tree.descriptors s kept shows.ahead) c.in-Err.error _ c.refusal_of_wait.ensures c.in-Err.ensures
