use Rattle.conspoint.proofs.DraftLemmas.{drafted_later, changed_same}
use Rattle.conspoint.proofs.draft.Draft.reserve.Goals as goal

pub invariant_of-self : goal.invariant_of-self
invariant_of-self c = record {
  drafted = drafted_later c.args.self.now.map.count c.args.self.now.map.next c.allocate.new.self.count c.allocate.new.self.next c.args.self.now.map.parts.items c.allocate.new.self.parts.items c.args.self.now.blocks.items
      c.allocate.ensures.parts c.allocate.ensures.count c.allocate.ensures.next c.args.self.now.drafted;
  changed = changed_same c.args.self.now.map.count c.allocate.new.self.count c.args.self.now.map.parts.items c.allocate.new.self.parts.items c.allocate.ensures.parts c.allocate.ensures.count c.args.self.now.changed;
}
