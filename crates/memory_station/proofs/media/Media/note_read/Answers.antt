use Rattle.memory_station.proofs.TiedLemmas.{tied_with-read}
use Rattle.memory_station.proofs.MediaLemmas.{listed-read}
use Rattle.memory_station.proofs.media.Media.note_read.Goals as goal

pub invariant_of-self-clause-tied : goal.invariant_of-self-clause-tied
invariant_of-self-clause-tied c = tied_with-read _ _ _ _ _ _ _ _ _ c.args.self.now.tied _ c.push.ensures.items

pub invariant_of-self-clause-listed : goal.invariant_of-self-clause-listed
invariant_of-self-clause-listed c = listed-read _ _ _ c.args.self.now.listed _ c.push.ensures.items
