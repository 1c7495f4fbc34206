use Rattle.mount.proofs.AnswerLemmas.{attempts, attempts_not}
use Rattle.mount.proofs.fs.Fs.attempt.Goals as goal

pub returns-in-Ok : goal.returns-in-Ok
returns-in-Ok g c =
    attempts {G = g.S.Station} c.args.self.now _ c.args.call.now c.requires.going c.in-Ok.reply c.requires.is_call c.in-Ok.ensures c.requires.going
    (λ t here. c.served_states_open-in-Ok.ensures t.tree.descriptors t here)

pub returns-in-Err : goal.returns-in-Err
returns-in-Err g c =
    attempts_not {G = g.S.Station} c.args.self.now _ c.args.call.now c.requires.going c.in-Err.error c.in-Err.ensures (c.args.self.now.runs c.requires.going) c.fails_call-self.ensures
