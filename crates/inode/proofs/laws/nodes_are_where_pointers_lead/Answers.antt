use Rattle.inode.proofs.HeldLaws.{node_place, path_is, node_past, node_above}
use Rattle.inode.proofs.laws.nodes_are_where_pointers_lead.Goals as goal

pub returns-clause-places : goal.returns-clause-places
returns-clause-places c = node_place

pub returns-clause-paths : goal.returns-clause-paths
returns-clause-paths c = λ detail s disk f pointers depth height i sound body level. path_is s disk f pointers sound body depth height i level

pub returns-clause-past : goal.returns-clause-past
returns-clause-past c = λ detail. node_past

pub returns-clause-above : goal.returns-clause-above
returns-clause-above c = node_above
