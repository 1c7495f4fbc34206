use Rattle.inode.proofs.HeldLaws.{ReadingLaws, as_held}
use Rattle.inode.proofs.laws.settled_files_are_as_held.Goals as goal

pub returns : goal.returns
returns c = λ detail s disk i n sound.
    let laws : ReadingLaws = record {
      pointers = c.blocks_are_where_pointers_lead.ensures _;
      first = c.inline_bytes_are_the_first_block.ensures.first;
      others = c.inline_bytes_are_the_first_block.ensures.others;
    } in
    as_held laws s disk i sound n
