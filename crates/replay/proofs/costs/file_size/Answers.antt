use Rattle.std.proofs.Common.{[], length, Option, ap, sym, ◌∙◌}
use Rattle.std.specs.Prelude.{unwrap_or}
use Rattle.model.specs.Volumes.{Node, bytes_of_node}
use Rattle.records.proofs.SizeLaws.{file_bytes, other_bytes}
use Rattle.replay.proofs.costs.file_size.Goals as goal

pub returns-in-File : goal.returns-in-File
returns-in-File c detail count disk settled v stands known =
    c.size.ensures.value ∙ file_bytes detail disk c.args.inodes.now.geometry.inodes (settled c.args.number) (v c.args.number) c.in-Some.object.now (c.in-Some.ensures.stands detail count disk settled v stands) c.in-File.is

pub returns-in-None : goal.returns-in-None
returns-in-None c detail count disk settled v stands known = sym (ap (λ (o : Option Node). length (unwrap_or (bytes_of_node o) [])) (c.in-None.ensures.stands_for_none detail count disk settled v stands))

pub returns-in_default : goal.returns-in_default
returns-in_default c detail count disk settled v stands known =
    other_bytes detail disk c.args.inodes.now.geometry.inodes (settled c.args.number) (v c.args.number) c.in-Some.object.now (c.in-Some.ensures.stands detail count disk settled v stands) c.in_default.not-File
