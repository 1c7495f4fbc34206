-- The notification that asks the kernel for what it has of a node.
use Rattle.std.specs.Prelude.{ℕ, List, ◌++◌}
use Rattle.layout.specs.Bytes.{little}
use Rattle.fuse.specs.Replies.{head_text}
use Rattle.fuse.specs.declared.retrieving.TheConstants.{NOTIFY_RETRIEVE, RETRIEVAL_BYTES}

-- a head of no request, which tells what it is in the place of an error; the number that what is
-- sent has, node, offset, size, and four bytes of padding
unfoldable pub retrieval_text : ℕ → List ℕ
retrieval_text node =
    head_text RETRIEVAL_BYTES NOTIFY_RETRIEVE 0
    ++ little 8 0 ++ little 8 node ++ little 8 0 ++ little 4 0 ++ little 4 0
