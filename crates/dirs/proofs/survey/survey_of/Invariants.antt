use Rattle.std.proofs.Common.{◌≤◌, ◌*◌, ℕ, List}
use Rattle.buffers.specs.Reads.{HasOnlyRead}
use Rattle.entries.specs.Known.{Knows}
use Rattle.dirs.specs.Edits.{edited_block}
use Rattle.dirs.specs.Surveys.{SurveysBlocks, IsBounded}
use Rattle.dirs.proofs.survey.survey_of.Given as goal

abbrev pub invariant-loop-i : goal.invariant-loop-i
invariant-loop-i g l = record {
  read : HasOnlyRead g.B.Blocks l.initial.blocks l.blocks;
  most : l.survey.names ≤ 4096 * l.i;
  bounded : IsBounded l.i l.survey l.survey.room;
  knows : (disk : ℕ → List ℕ) → g.B.Blocks.Shows l.initial.blocks disk → Knows l.inodes (edited_block disk l.file l.edit) l.initial.known
      → Knows l.inodes (edited_block disk l.file l.edit) l.known;
  finds : (disk : ℕ → List ℕ) → g.B.Blocks.Shows l.initial.blocks disk → Knows l.inodes (edited_block disk l.file l.edit) l.initial.known → SurveysBlocks l.inodes (edited_block disk l.file l.edit) l.i l.name l.bytes l.survey;
}
