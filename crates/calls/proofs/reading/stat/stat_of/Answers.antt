use Rattle.calls.proofs.StatLaws.{stat_directory, stat_file, stat_link, stat_none}
use Rattle.calls.proofs.reading.stat.stat_of.Goals as goal

pub returns-in-Directory-clause-told : goal.returns-in-Directory-clause-told
returns-in-Directory-clause-told c = λ disk inodes settled found o. stat_directory disk inodes settled c.args.object.now found o c.args.number c.in-Directory.is

pub returns-in-File-clause-told : goal.returns-in-File-clause-told
returns-in-File-clause-told c = λ disk inodes settled found o. stat_file disk inodes settled c.args.object.now found o c.args.number c.size.result c.size.ensures.value c.in-File.is

pub returns-in-Link-clause-told : goal.returns-in-Link-clause-told
returns-in-Link-clause-told c = λ disk inodes settled found o. stat_link disk inodes settled c.args.object.now found o c.args.number c.size-in-Link.result c.size-in-Link.ensures.value c.in-Link.is

pub returns-in_default-clause-told : goal.returns-in_default-clause-told
returns-in_default-clause-told c = λ disk inodes settled found o.
    stat_none disk inodes settled c.args.object.now found o c.args.number c.args.object.now.status.kind o.kind c.in_default.not-Directory c.in_default.not-File c.in_default.not-Link
