use Rattle.std.proofs.Common.{◌≡◌, None, sym, ◌∙◌, rules}
use Rattle.std.specs.BTreeMap as tree
use Rattle.std.specs.Ordering.{nat_cmp}
use Rattle.layout.proofs.FanLaws.{up_back}
use Rattle.blocktree.proofs.PlaceMapLaws.{in_none, no_node}
use Rattle.blocktree.proofs.place_map.PlaceMap.group.Goals as goal

pub returns-in-None-clause-nodes : goal.returns-in-None-clause-nodes
returns-in-None-clause-nodes c = λ r lt.
    let none : tree.get nat_cmp c.args.self.now.groups c.args.j ≡ None = search rules in
    no_node 1024 r ∙ sym (in_none c.args.self.now _ c.args.j none (up_back c.args.self.now.layout c.args.j r lt))

pub returns-in-None-clause-behind : goal.returns-in-None-clause-behind
returns-in-None-clause-behind c = λ r le. no_node 1024 r
