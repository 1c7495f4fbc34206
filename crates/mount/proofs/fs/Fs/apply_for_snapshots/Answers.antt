use Rattle.mount.proofs.ReplyLemmas.{only_snapshots}
use Rattle.mount.proofs.fs.Fs.apply_for_snapshots.Goals as goal

pub unreachable-requires : goal.unreachable-requires
unreachable-requires g c = only_snapshots c.args.command c.apply_owned.result c.requires c.apply_owned.ensures.answers.kind c.in_default.not-Snaps c.in_default.not-Refused

pub returns-in-Snaps : goal.returns-in-Snaps
returns-in-Snaps g c = c.in-Snaps.ensures

pub returns-in-Refused : goal.returns-in-Refused
returns-in-Refused g c = c.in-Refused.ensures
