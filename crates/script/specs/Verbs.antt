-- The first words of commands, and the fields behind each.
use Rattle.std.specs.Prelude.{ℕ, Bool, true, false, List, codes}
use Rattle.script.specs.declared.verb.Verb.{Verb}
use Rattle.script.specs.declared.verb.Verb.TheVariants as verb
use Rattle.script.specs.Forms.{end, field, last_mode, last_time, none, Form}
use Rattle.script.specs.Forms as form

abbrev pub verb_name : Verb → List ℕ
verb_name verb.List = codes "list"
verb_name verb.Entries = codes "entries"
verb_name verb.Stat = codes "stat"
verb_name verb.Lstat = codes "lstat"
verb_name verb.Attr = codes "attr"
verb_name verb.Lattr = codes "lattr"
verb_name verb.Readlink = codes "readlink"
verb_name verb.Get = codes "get"
verb_name verb.Mkdir = codes "mkdir"
verb_name verb.Rmdir = codes "rmdir"
verb_name verb.Unlink = codes "unlink"
verb_name verb.Link = codes "link"
verb_name verb.Symlink = codes "symlink"
verb_name verb.Rename = codes "rename"
verb_name verb.RenameNew = codes "renamenew"
verb_name verb.Chmod = codes "chmod"
verb_name verb.Chown = codes "chown"
verb_name verb.Lchown = codes "lchown"
verb_name verb.Utimens = codes "utimens"
verb_name verb.Lutimens = codes "lutimens"
verb_name verb.Truncate = codes "truncate"
verb_name verb.Store = codes "store"
verb_name verb.Set = codes "set"
verb_name verb.Open = codes "open"
verb_name verb.OpenStat = codes "openstat"
verb_name verb.Close = codes "close"
verb_name verb.Read = codes "read"
verb_name verb.Write = codes "write"
verb_name verb.Pread = codes "pread"
verb_name verb.Pwrite = codes "pwrite"
verb_name verb.Lseek = codes "lseek"
verb_name verb.Ftruncate = codes "ftruncate"
verb_name verb.Fchmod = codes "fchmod"
verb_name verb.Fchown = codes "fchown"
verb_name verb.Futimens = codes "futimens"
verb_name verb.Fstat = codes "fstat"
verb_name verb.Fattr = codes "fattr"
verb_name verb.Fsync = codes "fsync"
verb_name verb.Extent = codes "extent"
verb_name verb.At = codes "at"
verb_name verb.As = codes "as"
verb_name verb.Sync = codes "sync"
verb_name verb.Df = codes "df"
verb_name verb.Statfs = codes "statfs"
verb_name verb.Snap = codes "snap"
verb_name verb.Take = codes "take"
verb_name verb.Delete = codes "delete"
verb_name verb.Restore = codes "restore"
verb_name verb.In = codes "in"

-- a call that names a path begins with it
abbrev pub is_call : Verb → Bool
is_call verb.List = true
is_call verb.Entries = true
is_call verb.Stat = true
is_call verb.Lstat = true
is_call verb.Attr = true
is_call verb.Lattr = true
is_call verb.Readlink = true
is_call verb.Get = true
is_call verb.Mkdir = true
is_call verb.Rmdir = true
is_call verb.Unlink = true
is_call verb.Link = true
is_call verb.Symlink = true
is_call verb.Rename = true
is_call verb.RenameNew = true
is_call verb.Chmod = true
is_call verb.Chown = true
is_call verb.Lchown = true
is_call verb.Utimens = true
is_call verb.Lutimens = true
is_call verb.Truncate = true
is_call verb.Store = true
is_call verb.Set = true
is_call v = false

-- an owner and a group, each where one is given
abbrev pub owners_form : Form
owners_form = field form.given_count (field form.given_count end)

-- the fields of a call that changes the tree; a new directory has mode 0755 unless another is
-- written
abbrev pub change_form : Verb → Form
change_form verb.Mkdir = field form.text (last_mode 0o755)
change_form verb.Rmdir = field form.text end
change_form verb.Unlink = field form.text end
change_form verb.Link = field form.text (field form.text end)
change_form verb.Symlink = field form.text (field form.text end)
change_form verb.Rename = field form.text (field form.text end)
change_form verb.RenameNew = field form.text (field form.text end)
change_form verb.Chmod = field form.text (field form.mode end)
change_form verb.Chown = field form.text owners_form
change_form verb.Lchown = field form.text owners_form
change_form verb.Utimens = field form.text last_time
change_form verb.Lutimens = field form.text last_time
change_form verb.Truncate = field form.text (field form.offset end)
change_form verb.Store = field form.text (field form.offset (field form.bytes end))
change_form verb.Set = field form.text (field form.given_mode (field form.given_offset end))
change_form v = none

-- the fields of a call that names a path
abbrev pub call_form : Verb → Form
call_form verb.List = field form.text end
call_form verb.Entries = field form.text (field form.offset (field form.count end))
call_form verb.Stat = field form.text end
call_form verb.Lstat = field form.text end
call_form verb.Attr = field form.text end
call_form verb.Lattr = field form.text end
call_form verb.Readlink = field form.text end
call_form verb.Get = field form.text (field form.offset (field form.count end))
call_form v = change_form v

-- the fields of a command that moves bytes of an open file, or its offset, or changes its size, its
-- mode, its owners or its time
abbrev pub file_form : Verb → Form
file_form verb.Read = field form.count (field form.count end)
file_form verb.Write = field form.count (field form.bytes end)
file_form verb.Pread = field form.count (field form.offset (field form.count end))
file_form verb.Pwrite = field form.count (field form.offset (field form.bytes end))
file_form verb.Lseek = field form.count (field form.whence (field form.offset end))
file_form verb.Ftruncate = field form.count (field form.offset end)
file_form verb.Fchmod = field form.count (field form.mode end)
file_form verb.Fchown = field form.count owners_form
file_form verb.Futimens = field form.count last_time
file_form v = none

-- the fields of other commands; a new file has mode 0644 unless another is written
abbrev pub command_form : Verb → Form
command_form verb.Open = field form.text (field form.flags (last_mode 0o644))
command_form verb.OpenStat = field form.text (field form.flags (last_mode 0o644))
command_form verb.Close = field form.count end
command_form verb.Fstat = field form.count end
command_form verb.Fattr = field form.count end
command_form verb.Fsync = field form.count end
command_form verb.Extent = field form.text (field form.offset end)
command_form verb.At = field form.offset (field form.count end)
command_form verb.As = field form.count (field form.count end)
command_form verb.Sync = end
command_form verb.Df = end
command_form verb.Statfs = end
command_form v = file_form v

-- the fields behind `snap` and a second word
abbrev pub snap_form : Verb → Form
snap_form verb.Take = field form.text end
snap_form verb.Delete = field form.text end
snap_form verb.Restore = field form.text end
snap_form verb.List = end
snap_form v = none
