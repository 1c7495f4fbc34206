use Rattle.script.proofs.CommandLemmas.{refused_first}
use Rattle.script.proofs.commands.read_words.Goals as goal

pub returns-in_default-named : goal.returns-in_default-named
returns-in_default-named c = record { spelled = tt; good = tt; refused = λ _. refused_first (λ word. word.now) c.args.words.now _ c.in-len1-up.len_at_least c.in_default-named.ensures.none }
