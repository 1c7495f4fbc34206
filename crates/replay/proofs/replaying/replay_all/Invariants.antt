use Rattle.std.proofs.Common.{◌≡◌, ◌+◌, ◌*◌, ◌≤◌, ℕ, List, length}
use Rattle.layout.specs.StateLimits.{limits_of}
use Rattle.layout.specs.Record.{Change}
use Rattle.layout.specs.declared.inode.Inode.{Inode}
use Rattle.model.specs.Records.{cost_of_all}
use Rattle.model.specs.Volumes.{Volume}
use Rattle.buffers.specs.Reads.{HasOnlyRead}
use Rattle.images.specs.Soundness.{Detail}
use Rattle.oplog.specs.SavedLog.{HoldsLeaving}
use Rattle.replay.specs.Volumes.{HasVolumeIn, LeadSomewhere, LeadTo, RaisesRoom}
use Rattle.replay.specs.declared.costs.TheConstants.{MOST_COST}
use Rattle.replay.proofs.RecordLaws.{IsLeft}
use Rattle.replay.proofs.replaying.replay_all.Given as goal

abbrev pub invariant-loop-body : goal.invariant-loop-body
invariant-loop-body g l = record {
  read : HasOnlyRead g.B.Blocks l.fn.blocks l.blocks;
  geometry : l.inodes.geometry ≡ l.fn.inodes.geometry;
  shorter : length l.rest ≤ length l.records;
  few : l.cost + MOST_COST * length l.rest ≤ MOST_COST * length l.records;
  leads : (detail : Detail) (disk : ℕ → List ℕ) (settled : ℕ → Inode) (v w : Volume) (changes : List Change) → g.B.Blocks.Shows l.fn.blocks disk
      → HasVolumeIn detail (g.B.Blocks.count l.fn.blocks) disk settled l.fn.inodes v → LeadTo detail (limits_of l.fn.inodes.geometry) l.records changes v w
      → (now : Volume) × HasVolumeIn detail (g.B.Blocks.count l.fn.blocks) disk settled l.inodes now
      × (left : IsLeft detail (limits_of l.fn.inodes.geometry) l.records l.rest changes now w)
      × (l.cost + cost_of_all (limits_of l.fn.inodes.geometry).costs now left.more ≡ cost_of_all (limits_of l.fn.inodes.geometry).costs v changes)
      × RaisesRoom l.fn.inodes v l.inodes now l.cost;
  so_far : (detail : Detail) (disk : ℕ → List ℕ) (settled : ℕ → Inode) (v : Volume) → g.B.Blocks.Shows l.fn.blocks disk
      → HasVolumeIn detail (g.B.Blocks.count l.fn.blocks) disk settled l.fn.inodes v
      → (now : Volume) × HasVolumeIn detail (g.B.Blocks.count l.fn.blocks) disk settled l.inodes now
      × ((more : List Change) (w : Volume) → LeadTo detail (limits_of l.fn.inodes.geometry) l.rest more now w
      → LeadSomewhere detail (limits_of l.fn.inodes.geometry) l.records v);
  held : (bodies : List (List ℕ)) (left : ℕ) → HoldsLeaving l.rest bodies left → (all : List (List ℕ)) × HoldsLeaving l.records all left;
}

abbrev pub decreases-loop-body : goal.decreases-loop-body
decreases-loop-body g l = length l.rest
