use Rattle.std.proofs.Common.{None, Ok, Err, refl}
use Rattle.served.specs.Known.{known_of}
use Rattle.served.specs.Serving.{stage}
use Rattle.served.specs.declared.serving.Ending.TheVariants.{Lost}
use Rattle.served.proofs.ServingLaws.{ended_so}
use Rattle.served.proofs.serving.answer_all.Goals as goal

pub returns-in-Ok : goal.returns-in-Ok
returns-in-Ok g c =
    let a = c.args in
    let until = c.answer_until-why in
    ended_so g.F.FileSystem g.K.Channel a.durability (stage a.files.now (known_of a.memory.now) a.channel.now None)
    (stage until.new.files (known_of until.new.memory) until.new.channel until.ensures.0) c.commit.new.self until.result (Ok tt) until.result until.ensures.1 c.in-Ok.ensures refl

pub returns-in-Err : goal.returns-in-Err
returns-in-Err g c =
    let a = c.args in
    let until = c.answer_until-why in
    ended_so g.F.FileSystem g.K.Channel a.durability (stage a.files.now (known_of a.memory.now) a.channel.now None)
    (stage until.new.files (known_of until.new.memory) until.new.channel until.ensures.0) c.commit.new.self until.result (Err c.in-Err.field-0) Lost until.ensures.1 c.in-Err.ensures refl
