use Rattle.std.proofs.Common.{rules, tests, Some}
use Rattle.std.proofs.lemmas.Iterator.{YieldsList-from_map, items_from_collect}
use Rattle.std.proofs.lemmas.Iterator.Consumers.{YieldsList-at, YieldsList-from_filter, YieldsList-from_rest}
use Rattle.inofile.specs.Inodes.{is_changed_slot}
use Rattle.inofile.proofs.inode_file.InodeFile.changed_keys.Goals as goal

pub returns-clause-keys : goal.returns-clause-keys
returns-clause-keys c =
    items_from_collect c.collect.result c.collect.ensures.ran (YieldsList-from_map _ (λ e. e.0)
    (YieldsList-at c.map.ensures.source (YieldsList-from_filter _ (λ e. is_changed_slot (Some e.1))
    (YieldsList-at c.filter.ensures.source (YieldsList-from_rest c.args.self.now.slots.entries c.iter.ensures.rest)) c.filter.ensures.closure (λ x b q k. search (rules, tests))))
    c.map.ensures.closure (λ x r q k. search rules))
