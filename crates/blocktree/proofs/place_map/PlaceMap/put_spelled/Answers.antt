use Rattle.std.proofs.Common.{◌∙◌}
use Rattle.blocktree.proofs.PlaceMapLaws.{group_others, group_there}
use Rattle.blocktree.proofs.place_map.PlaceMap.put_spelled.Goals as goal

pub returns-clause-group : goal.returns-clause-group
returns-clause-group c = λ r lt. group_there c.args.self.now c.put.new.self c.args.j c.in_ok-group.group c.in_ok-put.ensures.layout c.in_ok-put.ensures.updates r lt ∙ c.in_ok-group.ensures r lt

pub returns-clause-others : goal.returns-clause-others
returns-clause-others c = group_others c.args.self.now c.put.new.self c.args.j c.in_ok-group.group c.in_ok-put.ensures.layout c.in_ok-put.ensures.updates
