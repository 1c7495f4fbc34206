use Rattle.mount.proofs.ReplyLemmas.{only_extent}
use Rattle.mount.proofs.fs.Fs.apply_for_extent.Goals as goal

pub unreachable-requires : goal.unreachable-requires
unreachable-requires g c = only_extent c.args.command c.apply_owned.result c.requires c.apply_owned.ensures.answers.kind c.in_default.not-Extent c.in_default.not-Refused

pub returns-in-Extent : goal.returns-in-Extent
returns-in-Extent g c = c.in-Extent.ensures

pub returns-in-Refused : goal.returns-in-Refused
returns-in-Refused g c = c.in-Refused.ensures
