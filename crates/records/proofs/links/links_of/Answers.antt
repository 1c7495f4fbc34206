use Rattle.std.proofs.Common.{ap}
use Rattle.model.specs.Volumes.{is_file_node}
use Rattle.inofile.specs.Settled.{content_of_object}
use Rattle.records.proofs.KindLaws.{not_file, sized_file}
use Rattle.records.proofs.links.links_of.Goals as goal

pub returns-in_default-clause-other : goal.returns-in_default-clause-other
returns-in_default-clause-other c = λ detail count disk settled v volume. ap is_file_node (c.in_default.ensures.stands_for_none _ count disk settled v volume)

pub returns-in-File-clause-file : goal.returns-in-File-clause-file
returns-in-File-clause-file c = λ detail count disk settled v volume.
    let o = c.in-Some.ensures.stands _ count disk settled v volume in
    let content = content_of_object disk c.in-Some.object.now in
    let held = sized_file detail c.in-Some.object.now.status.kind c.args.inodes.now.geometry.inodes content (v c.args.number) o.stands c.in-File.is in
    (content.attributes, held.0, held.2)

pub returns-in_default-kind-clause-other : goal.returns-in_default-kind-clause-other
returns-in_default-kind-clause-other c = λ detail count disk settled v volume.
    let o = c.in-Some.ensures.stands _ count disk settled v volume in
    not_file detail c.in-Some.object.now.status.kind c.args.inodes.now.geometry.inodes (content_of_object disk c.in-Some.object.now) (v c.args.number) o.stands c.in_default-kind.not-File
