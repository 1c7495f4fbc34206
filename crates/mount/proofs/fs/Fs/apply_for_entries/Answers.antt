use Rattle.mount.proofs.ReplyLemmas.{only_entries}
use Rattle.mount.proofs.fs.Fs.apply_for_entries.Goals as goal

pub unreachable-requires : goal.unreachable-requires
unreachable-requires g c = only_entries c.args.command c.apply_owned.result c.requires c.apply_owned.ensures.answers.kind c.in_default.not-Entries c.in_default.not-Refused

pub returns-in-Entries : goal.returns-in-Entries
returns-in-Entries g c = c.in-Entries.ensures

pub returns-in-Refused : goal.returns-in-Refused
returns-in-Refused g c = c.in-Refused.ensures
