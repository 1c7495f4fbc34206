use Rattle.mount.proofs.CommandLemmas.{applies_alone, applies_lost, applies_waiting}
use Rattle.mount.proofs.waiting.Waiting.apply.Goals as goal

pub returns-in-Some : goal.returns-in-Some
returns-in-Some g c = applies_waiting {G = g.S.Station} c.args.self.now _ c.args.command.now c.in-Some.reply c.in-Some.ensures

pub returns-in-Ok : goal.returns-in-Ok
returns-in-Ok g c =
    applies_alone {G = g.S.Station} c.args.self.now c.wait.new.self c.commit.new.self _ c.args.command.now c.in_default.ensures _ c.in-Ok.ensures c.apply_alone.result c.apply_alone.ensures

pub returns-in-Err : goal.returns-in-Err
returns-in-Err g c = applies_lost {G = g.S.Station} c.args.self.now c.wait.new.self c.commit.new.self c.args.command.now c.in_default.ensures c.in-Err.errno c.in-Err.ensures
