use Rattle.std.proofs.Common.{ap, subst, sym, Err}
use Rattle.blocktree.specs.declared.tree.BlockTree.{BlockTree}
use Rattle.blocktree.specs.Trees.{AreSound}
use Rattle.checker.specs.Tables.{ArePlaces}
use Rattle.checker.proofs.HaltLaws.{looks_failed}
use Rattle.checker.proofs.PlaceLaws.{all_places, none_below}
use Rattle.checker.proofs.ReadLaws.{looked_of, looks_ok}
use Rattle.checker.proofs.table.find_places.Goals as goal

pub returns-in-Ok-clause-reads : goal.returns-in-Ok-clause-reads
returns-in-Ok-clause-reads g c = looks_ok (looked_of g.met.B.Blocks.reads_nothing g.met.B.UncachedReads.grows c.settled_nodes.ensures.reads)

pub returns-in-Ok-clause-places : goal.returns-in-Ok-clause-places
returns-in-Ok-clause-places g c = λ disk shows sound.
    subst (λ (t : BlockTree). ArePlaces disk t c.in-Ok.places) c.tree.ensures (all_places disk c.tree.result.now c.in-Ok.places (c.in-Ok.ensures.nodes disk shows) c.in-Ok.ensures.end)

pub returns-in-Err-NoMemory-clause-reads : goal.returns-in-Err-NoMemory-clause-reads
returns-in-Err-NoMemory-clause-reads g c = looks_failed (looked_of g.met.B.Blocks.reads_nothing g.met.B.UncachedReads.grows c.settled_nodes.ensures.reads) (λ is. cc)

pub returns-in-Err-Damaged-clause-reads : goal.returns-in-Err-Damaged-clause-reads
returns-in-Err-Damaged-clause-reads g c = looks_ok (looked_of g.met.B.Blocks.reads_nothing g.met.B.UncachedReads.grows c.settled_nodes.ensures.reads)

pub returns-in-Err-Damaged-clause-below : goal.returns-in-Err-Damaged-clause-below
returns-in-Err-Damaged-clause-below g c = λ i. none_below _ _ (c.new.ensures.holes i)

pub returns-in-Err-Damaged-clause-places : goal.returns-in-Err-Damaged-clause-places
returns-in-Err-Damaged-clause-places g c = λ disk shows sound.
    absurd (c.in-Err-Damaged.ensures.damaged disk shows (ap Err c.in-Err-Damaged.field-0-is) (subst (λ (t : BlockTree). AreSound (g.B.Blocks.count c.args.blocks.now) disk t) (sym c.tree.ensures) sound))
