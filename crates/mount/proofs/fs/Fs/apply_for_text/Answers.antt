use Rattle.mount.proofs.ReplyLemmas.{only_text}
use Rattle.mount.proofs.fs.Fs.apply_for_text.Goals as goal

pub unreachable-requires : goal.unreachable-requires
unreachable-requires g c = only_text c.args.command c.apply_owned.result c.requires c.apply_owned.ensures.answers.kind c.in_default.not-Text c.in_default.not-Refused

pub returns-in-Text : goal.returns-in-Text
returns-in-Text g c = c.in-Text.ensures

pub returns-in-Refused : goal.returns-in-Refused
returns-in-Refused g c = c.in-Refused.ensures
