use Rattle.std.proofs.Common.{◌≡◌, ◌<◌, ℕ, List, None}
use Rattle.buffers.specs.Reads.{HasOnlyRead}
use Rattle.layout.specs.Directory.{Named, HoldsEntries}
use Rattle.entries.specs.Known.{Knows}
use Rattle.dirs.specs.Edits.{edited_block, HasNumber}
use Rattle.layout.specs.DirectoryNames.{number_of}
use Rattle.dirs.proofs.edit.Edit.locate.Given as goal

abbrev pub invariant-loop-i : goal.invariant-loop-i
invariant-loop-i g l = record {
  read : HasOnlyRead g.B.Blocks l.initial.blocks l.blocks;
  knows : (disk : ℕ → List ℕ) → g.B.Blocks.Shows l.initial.blocks disk → Knows l.inodes (edited_block disk l.file l.self) l.initial.known
      → Knows l.inodes (edited_block disk l.file l.self) l.known;
  passed : (disk : ℕ → List ℕ) → g.B.Blocks.Shows l.initial.blocks disk → Knows l.inodes (edited_block disk l.file l.self) l.initial.known → (j : ℕ) → j < l.i → (entries : List Named)
      → HoldsEntries l.inodes (edited_block disk l.file l.self j) entries → number_of l.name entries ≡ None;
  first : (disk : ℕ → List ℕ) → g.B.Blocks.Shows l.initial.blocks disk → Knows l.inodes (edited_block disk l.file l.self) l.initial.known → (j : ℕ) → j < l.i → HasNumber l.inodes (edited_block disk l.file l.self j) l.name None;
}
