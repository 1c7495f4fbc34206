-- What telling the stored blocks of a file over a path comes to.
use Rattle.std.specs.Prelude.{ℕ, ℤ, Bool, Result, Ok, Err, List, [], ◌∷◌}
use Rattle.model.specs.declared.limits.Limits.{Limits}
use Rattle.buffers.specs.declared.blocks.Blocks.{Ghosts}
use Rattle.inofile.specs.declared.inode_file.InodeFile.{InodeFile}
use Rattle.model.specs.Outcomes.{Outcome}
use Rattle.model.specs.Paths.{Tests}
use Rattle.model.specs.Reading.{is_negative, tells_extent}
use Rattle.model.specs.Trees.{Tree}
use Rattle.model.specs.declared.errno.Errno.{Errno}
use Rattle.model.specs.declared.errno.Errno.TheVariants.{EINVAL}
use Rattle.model.specs.declared.reply.Extent as replies
use Rattle.model.specs.declared.reply.Reply.{Reply}
use Rattle.model.specs.declared.reply.Reply.TheVariants as reply
use Rattle.records.specs.Reading.{TellsStored}

-- the test of an offset
abbrev pub offset_tests : ℤ → Tests
offset_tests offset = (is_negative offset, EINVAL) ∷ []

-- what of a file is stored, or a refusal, as it is answered
abbrev pub extent_reply : Result replies.Extent Errno → Reply
extent_reply (Ok extent) = reply.Extent extent
extent_reply (Err errno) = reply.Refused errno

-- what the call comes to on a tree, by whatever tells right of the files in memory which blocks are
-- stored
abbrev pub shows_extent : {B : Type 0} → Ghosts B → B → InodeFile → List ℕ → ℤ → Limits → Tree → Outcome
shows_extent G blocks s path offset limits t answer new need =
    (disk : ℕ → List ℕ) (stored : ℕ → ℕ → Bool) → G.Shows blocks disk → TellsStored disk s stored
    → tells_extent limits t stored path offset answer new need
