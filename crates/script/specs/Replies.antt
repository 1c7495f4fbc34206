-- How a reply is spelled.
use Rattle.std.specs.Prelude.{ℕ, List, [], ◌∷◌, ◌++◌, codes, map}
use Rattle.std.specs.Fmt.{decimal, signed_decimal}
use Rattle.std.specs.List.{flat_map}
use Rattle.model.specs.Errnos.{errno_name}
use Rattle.model.specs.declared.attributes.Attributes.{Attributes}
use Rattle.model.specs.declared.time.Time.{Time}
use Rattle.model.specs.declared.reply.Reply.{Reply}
use Rattle.model.specs.declared.reply.Reply.TheVariants as reply
use Rattle.model.specs.declared.reply.Extent.{Extent}
use Rattle.model.specs.declared.reply.FileType.{FileType}
use Rattle.model.specs.declared.reply.FileType.TheVariants as kind
use Rattle.model.specs.declared.reply.Stat.{Stat}
use Rattle.model.specs.declared.reply.Usage.{Usage}
use Rattle.model.specs.declared.entries.Entry.{Entry}
use Rattle.script.specs.Lines.{line_of}
use Rattle.script.specs.Words.{data_word, given_word, mode_word, text_word}

-- a kind's word
abbrev pub kind_word : FileType → List ℕ
kind_word kind.File = codes "file"
kind_word kind.Dir = codes "dir"
kind_word kind.Link = codes "link"

-- the words that describe an object: what it is, and its mode, links and size
abbrev pub kind_words : Stat → List (List ℕ)
kind_words s = codes "number" ∷ decimal s.number ∷ codes "kind" ∷ kind_word s.kind ∷ []

abbrev pub size_words : Stat → List (List ℕ)
size_words s =
    codes "mode" ∷ mode_word s.mode ∷ codes "links" ∷ decimal s.links ∷ codes "size" ∷ decimal s.size ∷ []

abbrev pub stat_words : Stat → List (List ℕ)
stat_words s = kind_words s ++ size_words s

-- a time: its seconds and nanoseconds
abbrev pub time_words : Time → List (List ℕ)
time_words t = signed_decimal t.seconds ∷ decimal t.nanoseconds ∷ []

-- the words of the attributes beside the mode
abbrev pub owner_words : Attributes → List (List ℕ)
owner_words a = codes "owner" ∷ decimal a.owner ∷ codes "group" ∷ decimal a.group ∷ []

abbrev pub times_words : Attributes → List (List ℕ)
times_words a = codes "data" ∷ time_words a.modified ++ codes "status" ∷ time_words a.changed

abbrev pub attribute_words : Attributes → List (List ℕ)
attribute_words a = (owner_words a ++ times_words a) ++ codes "generation" ∷ decimal a.generation ∷ []

-- the same without a name for each of them
abbrev pub figure_words : Stat → List (List ℕ)
figure_words s = decimal s.number ∷ kind_word s.kind ∷ mode_word s.mode ∷ decimal s.links ∷ decimal s.size ∷ []

-- the words of a name in a directory: itself, its cookie, and what it names
abbrev pub entry_words : Entry → List (List ℕ)
entry_words e = text_word e.name ∷ decimal e.cookie ∷ figure_words e.stat

-- the words of what of a file is stored: its blocks, and its next data and its next hole, with '-'
-- where there is none
abbrev pub extent_words : Extent → List (List ℕ)
extent_words e =
    codes "blocks" ∷ decimal e.blocks ∷ codes "data" ∷ given_word decimal e.data
    ∷ codes "hole" ∷ given_word decimal e.hole ∷ []

-- the words of the room of the disk and for objects
abbrev pub usage_words : Usage → List (List ℕ)
usage_words u =
    codes "blocks" ∷ decimal u.blocks ∷ codes "free" ∷ decimal u.free ∷ codes "reserved" ∷ decimal u.reserved
    ∷ codes "inodes" ∷ decimal u.inodes ∷ codes "taken" ∷ decimal u.taken ∷ []

-- the words of a reply
abbrev pub reply_words : Reply → List (List ℕ)
reply_words reply.Done = codes "ok" ∷ []
reply_words (reply.Fd fd) = codes "fd" ∷ decimal fd ∷ []
reply_words (reply.Opened fd stat) = codes "opened" ∷ codes "fd" ∷ decimal fd ∷ stat_words stat
reply_words (reply.Data bytes) = codes "data" ∷ data_word bytes ∷ []
reply_words (reply.Wrote count) = codes "wrote" ∷ decimal count ∷ []
reply_words (reply.At offset) = codes "at" ∷ decimal offset ∷ []
reply_words (reply.Text text) = codes "text" ∷ text_word text ∷ []
reply_words (reply.Names names) = codes "names" ∷ map text_word names
reply_words (reply.Entries entries) = codes "entries" ∷ flat_map entry_words entries
reply_words (reply.Snaps names) = codes "snaps" ∷ map text_word names
reply_words (reply.Stat stat) = codes "stat" ∷ stat_words stat
reply_words (reply.Attributes stat attributes) = codes "attr" ∷ stat_words stat ++ attribute_words attributes
reply_words (reply.Extent extent) = codes "extent" ∷ extent_words extent
reply_words (reply.Space blocks free pledged) =
    codes "blocks" ∷ decimal blocks ∷ codes "free" ∷ decimal free ∷ codes "pledged" ∷ decimal pledged ∷ []
reply_words (reply.Usage usage) = codes "usage" ∷ usage_words usage
reply_words (reply.Refused errno) = codes "err" ∷ errno_name errno ∷ []

-- the line of a reply
abbrev pub reply_line : Reply → List ℕ
reply_line r = line_of (reply_words r)
