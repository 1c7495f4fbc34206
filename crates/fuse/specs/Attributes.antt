-- What a reply tells of an object, in the order of its fields.
use Rattle.std.specs.Prelude.{ℕ, List, ◌++◌}
use Rattle.layout.specs.Bytes.{little}
use Rattle.fuse.specs.declared.attributes.Attributes.{Attributes}
use Rattle.fuse.specs.declared.attributes.Entry.{Entry}

-- the last four bytes are flags, of which none is set
unfoldable pub attributes_text : Attributes → List ℕ
attributes_text a =
    little 8 a.inode ++ little 8 a.size ++ little 8 a.blocks
    ++ little 8 a.atime.seconds ++ little 8 a.mtime.seconds ++ little 8 a.ctime.seconds
    ++ little 4 a.atime.nanoseconds ++ little 4 a.mtime.nanoseconds ++ little 4 a.ctime.nanoseconds
    ++ little 4 a.mode ++ little 4 a.links ++ little 4 a.uid ++ little 4 a.gid
    ++ little 4 a.device ++ little 4 a.block_size ++ little 4 0

unfoldable pub entry_text : Entry → List ℕ
entry_text e =
    little 8 e.node ++ little 8 e.generation
    ++ little 8 e.name_stays.seconds ++ little 8 e.attributes_stay.seconds
    ++ little 4 e.name_stays.nanoseconds ++ little 4 e.attributes_stay.nanoseconds
    ++ attributes_text e.attributes
