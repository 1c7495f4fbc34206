use Rattle.std.proofs.Common.{◌/◌, ◌<◌, [], ℕ, List}
use Rattle.layout.specs.Directory.{Named, HoldsEntries}
use Rattle.buffers.specs.Reads.{HasOnlyRead}
use Rattle.inode.specs.Files.{file_block}
use Rattle.layout.specs.DirectoryNames.{AllHold}
use Rattle.dirs.specs.Directory.{first_entries}
use Rattle.dirs.specs.Listings.{AddsNames, HasObjectNumbers}
use Rattle.dirs.proofs.directory.list_numbered.Given as goal

abbrev pub invariant-loop-i : goal.invariant-loop-i
invariant-loop-i g l = record {
  read : HasOnlyRead g.B.Blocks l.initial.blocks l.blocks;
  sound : (disk : ℕ → List ℕ) → g.B.Blocks.Shows l.initial.blocks disk → (j : ℕ) → j < l.i → (entries : List Named) × HoldsEntries l.inodes (file_block disk l.file j) entries;
  ordinary : HasObjectNumbers l.inodes l.names.entries;
  adds : (disk : ℕ → List ℕ) (entries : ℕ → List Named) → g.B.Blocks.Shows l.initial.blocks disk
      → AllHold l.inodes (l.file.size / 4096) (file_block disk l.file) entries → AddsNames (first_entries entries l.i) [] l.names.entries;
}
