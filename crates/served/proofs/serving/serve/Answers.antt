use Rattle.std.proofs.Common.{◌≡◌, ◌∙◌, ap}
use Rattle.served.specs.Known.{known_of, nothing_known}
use Rattle.served.specs.Serving.{known_at_mount}
use Rattle.served.specs.declared.marks.Marks.{Marks}
use Rattle.served.proofs.ServingLaws.{serves_none, serves_on, serves_unlearnt}
use Rattle.served.proofs.serving.serve.Goals as goal

pub returns-in-Err : goal.returns-in-Err
returns-in-Err g c =
    let a = c.args in
    serves_none g.F.FileSystem g.K.Channel a.durability a.numbers a.owner c.now.result a.files.now a.channel.now

pub returns-in-Ok-learn_snapshots : goal.returns-in-Ok-learn_snapshots
returns-in-Ok-learn_snapshots g c =
    let a = c.args in
    let begun : known_of c.in-Ok.memory ≡ known_at_mount a.numbers a.owner c.now.result = c.in-Ok.ensures ∙ ap (λ (m : Marks). nothing_known a.numbers m) c.made-first.ensures in
    serves_on g.F.FileSystem g.K.Channel a.durability a.numbers a.owner c.now.result a.files.now a.channel.now (known_of c.in-Ok.memory) begun c.learn_snapshots.new.files (known_of c.learn_snapshots.new.memory)
    c.answer_all.new.files (known_of c.answer_all.new.memory) c.answer_all.new.channel c.answer_all.result c.in-Ok-learn_snapshots.ensures c.answer_all.ensures

pub returns : goal.returns
returns g c =
    let a = c.args in
    let begun : known_of c.in-Ok.memory ≡ known_at_mount a.numbers a.owner c.now.result = c.in-Ok.ensures ∙ ap (λ (m : Marks). nothing_known a.numbers m) c.made-first.ensures in
    serves_unlearnt g.F.FileSystem g.K.Channel a.durability a.numbers a.owner c.now.result a.files.now a.channel.now (known_of c.in-Ok.memory) begun c.learn_snapshots.new.files (known_of c.learn_snapshots.new.memory)
    c.in-Err-learn_snapshots.errno c.unlearnt.result c.in-Err-learn_snapshots.ensures c.unlearnt.ensures
