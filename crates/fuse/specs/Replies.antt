-- Replies: a head, and what stands behind it, in the order of their fields.
use Rattle.std.specs.Prelude.{ℕ, ◌+◌, ◌-◌, ◌^◌, List, ◌++◌, length}
use Rattle.layout.specs.Bytes.{little, zeros}
use Rattle.fuse.specs.Attributes.{attributes_text, entry_text}
use Rattle.fuse.specs.declared.attributes.Attributes.{Attributes}
use Rattle.fuse.specs.declared.attributes.Entry.{Entry}
use Rattle.fuse.specs.declared.init_reply.InitReply.{InitReply}
use Rattle.fuse.specs.declared.init_reply.TheConstants.{MAJOR_VERSION, MINOR_VERSION}
use Rattle.fuse.specs.declared.open_reply.OpenReply.{OpenReply}
use Rattle.fuse.specs.declared.reply.TheConstants.{REPLY_HEAD_BYTES}
use Rattle.fuse.specs.declared.statfs_reply.StatfsReply.{StatfsReply}
use Rattle.fuse.specs.declared.time.Timeout.{Timeout}

-- bytes of the reply, error, and the number of the request that it answers
unfoldable pub head_text : ℕ → ℕ → ℕ → List ℕ
head_text size error unique = little 4 size ++ little 4 error ++ little 8 unique

-- a request failed: the error is the negative number of its errno, in 32 bits
abbrev pub error_text : ℕ → ℕ → List ℕ
error_text unique errno = head_text REPLY_HEAD_BYTES (2 ^ 32 - errno) unique

-- a request is done, and this is told
unfoldable pub reply_text : ℕ → List ℕ → List ℕ
reply_text unique told = head_text (REPLY_HEAD_BYTES + length told) 0 unique ++ told

-- how many bytes were taken, and four bytes of padding
unfoldable pub count_text : ℕ → List ℕ
count_text count = little 4 count ++ little 4 0

abbrev pub offset_text : ℕ → List ℕ
offset_text offset = little 8 offset

-- how long the attributes stay, four bytes of padding, and the attributes
unfoldable pub attributes_reply_text : Timeout → Attributes → List ℕ
attributes_reply_text stay told =
    little 8 stay.seconds ++ little 4 stay.nanoseconds ++ little 4 0 ++ attributes_text told

-- an entry of node 0: nothing has the name, and that stays so long
unfoldable pub no_entry_text : Timeout → List ℕ
no_entry_text stays =
    little 8 0 ++ little 8 0 ++ little 8 stays.seconds ++ little 8 0
    ++ little 4 stays.nanoseconds ++ little 4 0 ++ zeros 88

-- handle, flags, and four bytes of padding
unfoldable pub open_text : OpenReply → List ℕ
open_text r = little 8 r.handle ++ little 4 r.flags ++ little 4 0

-- what was made, and its handle
unfoldable pub created_text : Entry → OpenReply → List ℕ
created_text entry opened = entry_text entry ++ open_text opened

-- the last 28 bytes pad
unfoldable pub statfs_text : StatfsReply → List ℕ
statfs_text r =
    little 8 r.blocks ++ little 8 r.free_blocks ++ little 8 r.available_blocks
    ++ little 8 r.files ++ little 8 r.free_files
    ++ little 4 r.block_size ++ little 4 r.name_bytes ++ little 4 r.fragment_size ++ zeros 28

-- the last 34 bytes are of later versions
unfoldable pub init_text : InitReply → List ℕ
init_text r =
    little 4 MAJOR_VERSION ++ little 4 MINOR_VERSION
    ++ little 4 r.max_readahead ++ little 4 r.flags
    ++ little 2 r.max_background ++ little 2 r.congestion_threshold
    ++ little 4 r.max_write ++ little 4 r.time_granularity ++ little 2 r.max_pages ++ zeros 34
