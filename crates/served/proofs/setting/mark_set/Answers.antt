use Rattle.std.proofs.Common.{ap, ◌∙◌}
use Rattle.served.specs.Known.{known_of, with_marks}
use Rattle.served.specs.Marks.{marks_set}
use Rattle.served.specs.declared.marks.Marks.{Marks}
use Rattle.served.proofs.SettingLaws.{mark_set-set}
use Rattle.served.proofs.setting.mark_set.Goals as goal

pub returns : goal.returns
returns g c = mark_set-set g.F.FileSystem c.args.files.now c.tell_attributes.new.files (known_of c.args.memory.now) (known_of c.mark.new.self) c.args.asker c.args.node c.args.handle c.args.changes.now c.tell_attributes.result (c.mark.ensures ∙ ap (λ (m : Marks). with_marks c.args.handle m (known_of c.args.memory.now)) (c.set-marks.ensures ∙ ap (marks_set c.args.changes.now c.args.asker.now) c.marks_of.ensures)) c.tell_attributes.ensures
