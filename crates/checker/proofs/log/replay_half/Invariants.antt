use Rattle.std.proofs.Common.{◌≡◌, ◌+◌, ◌*◌, ◌≤◌, ℕ, List, length}
use Rattle.layout.specs.StateLimits.{limits_of}
use Rattle.layout.specs.Record.{Change}
use Rattle.layout.specs.declared.inode.Inode.{Inode}
use Rattle.model.specs.Records.{cost_of_all}
use Rattle.model.specs.Volumes.{Volume}
use Rattle.images.specs.Soundness.{by_sizes}
use Rattle.replay.specs.Volumes.{HasVolumeIn, LeadTo}
use Rattle.replay.specs.declared.costs.TheConstants.{MOST_COST}
use Rattle.checker.proofs.ReadLaws.{HasLooked}
use Rattle.checker.proofs.log.replay_half.Given as goal

abbrev pub invariant-loop-body : goal.invariant-loop-body
invariant-loop-body g l = record {
  look : HasLooked g.B.Blocks l.fn.blocks l.blocks;
  geometry : l.inodes.geometry ≡ l.fn.inodes.geometry;
  few : l.count + length l.rest ≤ length l.records;
  cheap : l.cost ≤ MOST_COST * l.count;
  leads : (disk : ℕ → List ℕ) (settled : ℕ → Inode) (v w : Volume) (changes : List Change) → g.B.Blocks.Shows l.fn.blocks disk
      → HasVolumeIn by_sizes (g.B.Blocks.count l.fn.blocks) disk settled l.fn.inodes v → LeadTo by_sizes (limits_of l.fn.inodes.geometry) l.records changes v w
      → (more : List Change) × (now : Volume) × HasVolumeIn by_sizes (g.B.Blocks.count l.fn.blocks) disk settled l.inodes now
      × LeadTo by_sizes (limits_of l.fn.inodes.geometry) l.rest more now w;
  led : (disk : ℕ → List ℕ) (settled : ℕ → Inode) (v : Volume) → g.B.Blocks.Shows l.fn.blocks disk
      → HasVolumeIn by_sizes (g.B.Blocks.count l.fn.blocks) disk settled l.fn.inodes v
      → (now : Volume) × HasVolumeIn by_sizes (g.B.Blocks.count l.fn.blocks) disk settled l.inodes now
      × ((more : List Change) (w : Volume) → LeadTo by_sizes (limits_of l.fn.inodes.geometry) l.rest more now w
      → (all : List Change) × LeadTo by_sizes (limits_of l.fn.inodes.geometry) l.records all v w × (length all ≡ l.count + length more)
      × (cost_of_all (limits_of l.fn.inodes.geometry).costs v all ≡ l.cost + cost_of_all (limits_of l.fn.inodes.geometry).costs now more));
}

abbrev pub decreases-loop-body : goal.decreases-loop-body
decreases-loop-body g l = length l.rest
