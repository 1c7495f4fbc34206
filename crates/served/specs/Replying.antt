-- How an answer is spelled.
use Rattle.std.specs.Prelude.{ℕ, nat_lt, List, [], length, if◌then◌else◌}
use Rattle.fuse.specs.Attributes.{entry_text}
use Rattle.fuse.specs.Replies.{attributes_reply_text, count_text, created_text, error_text, init_text, no_entry_text, offset_text, open_text, reply_text, statfs_text}
use Rattle.model.specs.declared.errno.Errno.{Errno}
use Rattle.model.specs.declared.errno.Errno.TheVariants as errno
use Rattle.served.specs.declared.answer.Answer.{Answer}
use Rattle.served.specs.declared.answer.Answer.TheVariants as answer
use Rattle.served.specs.declared.errno.TheConstants.{ENOSYS, ENXIO, EPROTO}
use Rattle.served.specs.declared.numbers.TheConstants.{FOREVER}
use Rattle.served.specs.declared.replying.TheConstants.{MOST_REPLY}

-- the number that Linux has for a refusal; those of its own kinds are told as the nearest that it has
abbrev pub linux_number : Errno → ℕ
linux_number errno.EPERM = 1
linux_number errno.ENOENT = 2
linux_number errno.NOSNAP = 2
linux_number errno.EIO = 5
linux_number errno.FAILED = 5
linux_number errno.EBADF = 9
linux_number errno.ENOMEM = 12
linux_number errno.EBUSY = 16
linux_number errno.EEXIST = 17
linux_number errno.SNAPEXISTS = 17
linux_number errno.ENOTDIR = 20
linux_number errno.EISDIR = 21
linux_number errno.EINVAL = 22
linux_number errno.BADNAME = 22
linux_number errno.EMFILE = 24
linux_number errno.EFBIG = 27
linux_number errno.ENOSPC = 28
linux_number errno.DIRFULL = 28
linux_number errno.NONUMBER = 28
linux_number errno.SNAPFULL = 28
linux_number errno.EROFS = 30
linux_number errno.EMLINK = 31
linux_number errno.ENAMETOOLONG = 36
linux_number errno.ENOTEMPTY = 39
linux_number errno.ELOOP = 40
linux_number errno.EOVERFLOW = 75
linux_number errno.ENOTSUP = 95
linux_number errno.ESTALE = 116
linux_number errno.DAMAGED = 117

-- bytes, if they fit a reply
abbrev pub bytes_spelled : ℕ → List ℕ → List ℕ
bytes_spelled unique bytes =
    if nat_lt (length bytes) MOST_REPLY then reply_text unique bytes else error_text unique (linux_number errno.EIO)

-- the reply to the request of this number; no bytes where it has none
abbrev pub spelled : ℕ → Answer → List ℕ
spelled unique answer.Silent = []
spelled unique answer.Done = reply_text unique []
spelled unique (answer.Refused e) = error_text unique (linux_number e)
spelled unique answer.NotServed = error_text unique ENOSYS
spelled unique answer.NothingBehind = error_text unique ENXIO
spelled unique answer.OtherVersion = error_text unique EPROTO
spelled unique answer.NoEntry = reply_text unique (no_entry_text FOREVER)
spelled unique (answer.Entry entry) = reply_text unique (entry_text entry)
spelled unique (answer.Attributes told) = reply_text unique (attributes_reply_text FOREVER told)
spelled unique (answer.Bytes bytes) = bytes_spelled unique bytes
spelled unique (answer.Wrote count) = reply_text unique (count_text count)
spelled unique (answer.Opened opened) = reply_text unique (open_text opened)
spelled unique (answer.Created entry opened) = reply_text unique (created_text entry opened)
spelled unique (answer.Space told) = reply_text unique (statfs_text told)
spelled unique (answer.Offset offset) = reply_text unique (offset_text offset)
spelled unique (answer.Agreed reply) = reply_text unique (init_text reply)
