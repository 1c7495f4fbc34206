-- What is told of objects.
use Rattle.std.specs.Prelude.{ℕ, ◌+◌, ◌*◌, Bool, true, false}
use Rattle.std.specs.Int.{div_ceil}
use Rattle.fuse.specs.declared.attributes.Attributes.{Attributes}
use Rattle.fuse.specs.declared.attributes.Entry.{Entry}
use Rattle.model.specs.declared.reply.FileType.{FileType}
use Rattle.model.specs.declared.reply.FileType.TheVariants.{File, Dir, Link}
use Rattle.model.specs.declared.reply.Stat.{Stat}
use Rattle.served.specs.declared.marks.Marks.{Marks}
use Rattle.served.specs.declared.numbers.TheConstants.{BLOCK_BYTES, FOREVER, PARTS_OF_BLOCK}

-- the bits of a kind in `st_mode`
abbrev pub kind_bits : FileType → ℕ
kind_bits File = 0o100000
kind_bits Dir = 0o040000
kind_bits Link = 0o120000

abbrev pub is_file : FileType → Bool
is_file File = true
is_file Dir = false
is_file Link = false

-- how much room the blocks have that hold so many bytes, in parts of 512
abbrev pub parts_of_size : ℕ → ℕ
parts_of_size size = div_ceil size BLOCK_BYTES * PARTS_OF_BLOCK

-- what is told of an object that programs see by this number
abbrev pub attributes_of : ℕ → Stat → ℕ → Marks → Attributes
attributes_of inode stat parts marks = record {
  inode = inode;
  size = stat.size;
  blocks = parts;
  atime = marks.atime;
  mtime = marks.mtime;
  ctime = marks.ctime;
  mode = kind_bits stat.kind + stat.mode;
  links = stat.links;
  uid = marks.uid;
  gid = marks.gid;
  device = 0;
  block_size = BLOCK_BYTES;
}

-- what a name leads to; the kernel may keep it
abbrev pub entry_of : ℕ → ℕ → Attributes → Entry
entry_of node generation attributes = record {
  node = node;
  generation = generation;
  name_stays = FOREVER;
  attributes_stay = FOREVER;
  attributes = attributes;
}
