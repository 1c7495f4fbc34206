use Rattle.session.proofs.ReadingLemmas.{end_told}
use Rattle.session.proofs.reading.line_end.Goals as goal

pub returns : goal.returns
returns c = let told = end_told c.args.bytes.now c.memchr.result c.memchr.ensures in record { found = told.0; none = told.1 }
