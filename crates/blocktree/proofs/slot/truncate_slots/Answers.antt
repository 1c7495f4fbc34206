use Rattle.std.proofs.Common.{rules, nat_lt}
use Rattle.std.proofs.lemmas.Map.Made.{filter_same_pairs}
use Rattle.blocktree.proofs.SlotLaws.{trimmed_slot}
use Rattle.blocktree.proofs.slot.truncate_slots.Goals as goal

pub returns-then-reaches : goal.returns-then-reaches
returns-then-reaches c = λ j. trimmed_slot c.args.slots.now c.retain.new.self c.args.count (filter_same_pairs _ (λ e. nat_lt e.0 c.args.count) _ (λ k v b w f t. search rules) _ _ c.retain.ensures.filtered) j
