use Rattle.entries.proofs.KnownLaws.{first_known}
use Rattle.entries.proofs.known.Known.forget_from.Goals as goal

pub returns : goal.returns
returns c = record {
  knows = λ inodes block next knows same. first_known inodes c.args.self.now.summaries.items c.truncate.new.self.items c.args.count block next c.truncate.ensures.items knows same;
}
