use Rattle.std.proofs.Common.{◌≡◌, ◌<◌, ◌≤◌, ℕ, List, []}
use Rattle.buffers.specs.Reads.{HasOnlyRead}
use Rattle.layout.specs.Directory.{Named}
use Rattle.layout.specs.DirectoryNames.{AllHold}
use Rattle.entries.specs.Known.{Knows}
use Rattle.dirs.specs.Edits.{edited_block}
use Rattle.dirs.proofs.edit.Edit.trimmed.Given as goal

abbrev pub invariant-loop-i : goal.invariant-loop-i
invariant-loop-i g l = record {
  read : HasOnlyRead g.B.Blocks l.initial.blocks l.blocks;
  knows : (disk : ℕ → List ℕ) → g.B.Blocks.Shows l.initial.blocks disk → Knows l.inodes (edited_block disk l.file l.self) l.initial.known
      → Knows l.inodes (edited_block disk l.file l.self) l.known;
  empty : (disk : ℕ → List ℕ) (entries : ℕ → List Named) → g.B.Blocks.Shows l.initial.blocks disk → Knows l.inodes (edited_block disk l.file l.self) l.initial.known
      → AllHold l.inodes l.end (edited_block disk l.file l.self) entries → (j : ℕ) → l.i ≤ j → j < l.end → entries j ≡ [];
}
