use Rattle.std.proofs.Common.{Contains}
use Rattle.blocktree.proofs.NameLaws.{level_named}
use Rattle.blocktree.proofs.names.name_level.Goals as goal

pub returns-clause-named : goal.returns-clause-named
returns-clause-named g c = λ disk shows p.
    level_named c.args.layout disk c.args.pointers.now c.args.depth c.args.count p c.in_ok-places.places (Contains c.args.names.now.items p) (Contains c.add_places.new.names.items p)
    (c.in_ok-places.ensures.nodes disk shows) (c.in_ok-add_places.ensures p)
