-- Worked rows of commands with their replies, on trees.
use Rattle.std.proofs.Common.{◌≡◌, ℕ, List, [], ◌∷◌, ◌++◌, true, false, refl, replicate, Some, None, lit≤}
use Rattle.std.specs.Prelude.{codes, pos, negsuc, nat_lt, if◌then◌else◌}
use Rattle.model.specs.declared.errno.Errno.TheVariants.{ENOENT, ENOTDIR, EISDIR, EEXIST, EINVAL, ENAMETOOLONG, EPERM, EBUSY, EBADF, ENOTSUP, EFBIG, EMFILE, EOVERFLOW}
use Rattle.model.specs.declared.reply.Reply.TheVariants as reply
use Rattle.model.specs.declared.reply.FileType.TheVariants as kind
use Rattle.model.specs.declared.command.Whence.TheVariants as whence
use Rattle.model.specs.declared.command.Access.TheVariants as access
use Rattle.model.specs.declared.command.Flags.{Flags}
use Rattle.model.specs.declared.command.NewTime.TheVariants as times
use Rattle.model.specs.declared.command.PathCall.TheVariants as call
use Rattle.model.specs.declared.attributes.Attributes.{Attributes}
use Rattle.model.specs.declared.attributes.Permissions.{Permissions}
use Rattle.model.specs.declared.attributes.Touch.TheVariants.{Data, Status}
use Rattle.model.specs.declared.session.Session.{Session}
use Rattle.model.specs.declared.time.Time.{Time}
use Rattle.model.specs.declared.limits.TheConstants.{LINK_MODE}
use Rattle.model.specs.Attributes.{mode_alone, new_attributes, set_owners}
use Rattle.model.specs.Touches.{touches_move, touches_object}
use Rattle.model.specs.Paths.{Path}
use Rattle.model.specs.Trees.{Tree, Description, directory, symlink, file, root_alone}
use Rattle.model.specs.Edits.{changing_attributes, with_object, without_object, with_directory, with_file, with_bytes, with_descriptor, marked, moved}
use Rattle.model.specs.Resolution.{resolve, named, missing, refused}
use Rattle.model.specs.Room.{nothing, logs, adds_name, removes_name, puts_bytes, changes_size, changes_bits, cost, headroom}
use Rattle.model.specs.Reading.{attributes, stats, reads_link, gets}
use Rattle.model.specs.Changing.{changes_owners, changes_times, entered, makes_directory, makes_symlink, removes_directory, unlinks, links, renames}
use Rattle.model.specs.Descriptors.{opens, closes, reads, reads_from, writes, writes_to, seeks, truncates_open}
use Rattle.model.specs.Steps.{calls}
use Rattle.model.proofs.ToldLemmas.{Told, told_root, told_directory, told_moved, told_touched, moved_paths, listing_told, fresh_told, used_alone}
use Rattle.model.proofs.ExampleLimits.{costs, limits, timed_limits}

abbrev fresh : Tree
fresh = root_alone 0o755

abbrev reading : Flags
reading = record { access = access.Reading; creates = false; exclusive = false; truncates = false; appends = false }

-- refusals of texts, on a new image

an_empty_path : stats limits fresh true [] (reply.Refused ENOENT) fresh nothing
an_empty_path = (refl, refl, refl)

no_slash_first : stats limits fresh true (codes "a") (reply.Refused EINVAL) fresh nothing
no_slash_first = (refl, refl, refl)

a_slash_last : stats limits fresh true (codes "/a/") (reply.Refused EINVAL) fresh nothing
a_slash_last = (refl, refl, refl)

two_slashes_alone : stats limits fresh true (codes "//") (reply.Refused EINVAL) fresh nothing
two_slashes_alone = (refl, refl, refl)

a_dot_last : makes_directory limits None fresh (codes "/a/.") (mode_alone 0o755) (reply.Refused EINVAL) fresh nothing
a_dot_last = (refl, refl, refl)

the_root_is_there : makes_directory limits None fresh (codes "/") (mode_alone 0o755) (reply.Refused EEXIST) fresh nothing
the_root_is_there = (refl, refl, refl)

the_root_stays : removes_directory limits None fresh (codes "/") (reply.Refused EBUSY) fresh nothing
the_root_stays = (refl, refl, refl)

a_name_of_256_bytes : makes_directory limits None fresh (codes "/" ++ replicate 256 97) (mode_alone 0o755) (reply.Refused ENAMETOOLONG) fresh nothing
a_name_of_256_bytes = (refl, refl, refl)

a_path_of_1024_bytes : stats limits fresh true (replicate 1024 47) (reply.Refused ENAMETOOLONG) fresh nothing
a_path_of_1024_bytes = (refl, refl, refl)

opens_the_root : opens false 32 limits None fresh (codes "/") reading (mode_alone 0o644) (reply.Refused EISDIR) fresh nothing
opens_the_root = (refl, refl, refl)

closes_nothing : closes fresh 0 (reply.Refused EBADF) fresh nothing
closes_nothing = (refl, refl, refl)

-- `mkdir /a`, `mkdir /a/b`, `mkdir /c`, `rename /a /c`: an empty directory is replaced, and `/c/b` stands

abbrev three : Tree
three = with_directory (codes "c" ∷ []) 6 (mode_alone 0o755) (with_directory (codes "a" ∷ codes "b" ∷ []) 5 (mode_alone 0o755) (with_directory (codes "a" ∷ []) 4 (mode_alone 0o755) fresh))

what_is_moved : ((moved (codes "a" ∷ []) (codes "c" ∷ []) three).objects (codes "c" ∷ []) ≡ Some (directory 4)) × ((moved (codes "a" ∷ []) (codes "c" ∷ []) three).objects (codes "c" ∷ codes "b" ∷ []) ≡ Some (directory 5)) × ((moved (codes "a" ∷ []) (codes "c" ∷ []) three).objects (codes "a" ∷ []) ≡ None)
what_is_moved = (refl, refl, refl)

up_and_down : resolve three true (codes "/a/./b/../../c") ≡ named (codes "c" ∷ [])
up_and_down = refl

above_the_root : resolve three true (codes "/../../c") ≡ named (codes "c" ∷ [])
above_the_root = refl

missing_last : resolve three true (codes "/a/x") ≡ missing (codes "a" ∷ []) (codes "x")
missing_last = refl

missing_before_a_dot : resolve three true (codes "/x/.") ≡ refused ENOENT
missing_before_a_dot = refl

-- links: relative and absolute, dangling, in the midst and last

abbrev linked : Tree
linked = with_object (codes "d" ∷ []) (symlink 9 (codes "x/y")) (with_object (codes "a" ∷ codes "up" ∷ []) (symlink 8 (codes "../c")) (with_object (codes "l" ∷ []) (symlink 7 (codes "/a/b")) three))

through_a_link : resolve linked false (codes "/l/..") ≡ named (codes "a" ∷ [])
through_a_link = refl

the_link_itself : resolve linked false (codes "/l") ≡ named (codes "l" ∷ [])
the_link_itself = refl

a_relative_link : resolve linked true (codes "/a/up") ≡ named (codes "c" ∷ [])
a_relative_link = refl

a_dangling_link : resolve linked true (codes "/d") ≡ refused ENOENT
a_dangling_link = refl

a_link_before_a_dot : resolve linked false (codes "/l/.") ≡ named (codes "a" ∷ codes "b" ∷ [])
a_link_before_a_dot = refl

stat_of_a_link : stats limits linked false (codes "/l") (reply.Stat (record { number = 7; kind = kind.Link; mode = 0o777; links = 1; size = 4 })) linked nothing
stat_of_a_link = (1, refl, (refl, refl, refl))

stat_of_what_it_names : stats limits linked true (codes "/l") (reply.Stat (record { number = 5; kind = kind.Dir; mode = 0o755; links = 1; size = 0 })) linked nothing
stat_of_what_it_names = (1, refl, (refl, refl, refl))

text_before_path : makes_symlink limits None linked [] [] (mode_alone LINK_MODE) (reply.Refused ENOENT) linked nothing
text_before_path = (refl, refl, refl)

links_a_link : links limits None linked (codes "/l") (codes "/m") (reply.Refused EPERM) linked nothing
links_a_link = (refl, refl, refl)

-- `open /f rwc`, `lseek 0 set 10`, `read 0 5`, `lseek 0 cur -11`, `write 0 2a`, `pread 0 8 9`

abbrev at_offset : ℕ → Description
at_offset offset = record { number = 4; offset = offset; reads = true; writes = true; appends = false }

abbrev file_of : List ℕ → ℕ → Tree
file_of bytes offset = with_descriptor 0 (Some (at_offset offset)) (with_bytes 4 bytes (with_file (codes "f" ∷ []) 4 (mode_alone 0o644) fresh))

seeks_past_the_end : seeks (file_of [] 0) 0 whence.Set (pos 10) (reply.At 10) (with_descriptor 0 (Some (at_offset 10)) (file_of [] 0)) nothing
seeks_past_the_end = (refl, refl, refl)

reads_past_the_end : reads (file_of [] 10) 0 5 (reply.Data []) (with_descriptor 0 (Some (at_offset 10)) (file_of [] 10)) nothing
reads_past_the_end = (refl, refl, refl)

seeks_below_zero : seeks (file_of [] 10) 0 whence.Cur (negsuc 10) (reply.Refused EINVAL) (file_of [] 10) nothing
seeks_below_zero = (refl, refl, refl)

writes_past_the_end : writes limits None (file_of [] 10) 0 (42 ∷ []) (reply.Wrote 1) (with_descriptor 0 (Some (at_offset 11)) (with_bytes 4 (replicate 10 0 ++ 42 ∷ []) (file_of [] 10))) (logs (puts_bytes 0 10 1))
writes_past_the_end = (refl, refl, refl)

reads_the_gap : reads_from (file_of (replicate 10 0 ++ 42 ∷ []) 11) 0 (pos 8) 9 (reply.Data (0 ∷ 0 ∷ 42 ∷ [])) (file_of (replicate 10 0 ++ 42 ∷ []) 11) nothing
reads_the_gap = (refl, refl, refl)

-- 128 bytes, one more, truncated again: the first 128 stay

truncated_back : truncates_open limits None (file_of (replicate 128 97 ++ 98 ∷ []) 129) 0 (pos 128) reply.Done (with_bytes 4 (replicate 128 97) (file_of (replicate 128 97 ++ 98 ∷ []) 129)) (logs (changes_size 129 128))
truncated_back = (refl, refl, refl)

reads_the_last : reads_from (file_of (replicate 128 97) 129) 0 (pos 127) 5 (reply.Data (97 ∷ [])) (file_of (replicate 128 97) 129) nothing
reads_the_last = (refl, refl, refl)

too_large : truncates_open limits None (file_of [] 0) 0 (pos 68719476737) (reply.Refused EFBIG) (file_of [] 0) nothing
too_large = (refl, refl, refl)

too_many_at_once : gets limits (file_of [] 0) (codes "/f") (pos 0) 65537 (reply.Refused EINVAL) (file_of [] 0) nothing
too_many_at_once = (refl, refl, refl)

-- the blocks that records cost, and that stay free behind them

costs_of_a_name : (cost costs adds_name ≡ 24) × (headroom costs adds_name ≡ 16) × (cost costs removes_name ≡ 24) × (headroom costs removes_name ≡ 0)
costs_of_a_name = (refl, refl, refl, refl)

costs_of_65536_bytes : cost costs (puts_bytes 0 0 65536) ≡ 38
costs_of_65536_bytes = refl

costs_of_65463_bytes_behind_them : cost costs (puts_bytes 65536 65536 65463) ≡ 38
costs_of_65463_bytes_behind_them = refl

costs_of_two_bytes_over_an_end : cost costs (puts_bytes 0 4095 2) ≡ 10
costs_of_two_bytes_over_an_end = refl

-- a third height over the blocks: the write ends past 67,108,864 bytes, or the file is past them before
costs_of_a_third_height : (cost costs (puts_bytes 0 67108864 1) ≡ 10) × (cost costs (puts_bytes 67108865 0 1) ≡ 10) × (cost costs (puts_bytes 0 67108863 1) ≡ 8) × (cost costs (puts_bytes 67108864 0 1) ≡ 8)
costs_of_a_third_height = (refl, refl, refl, refl)

-- the most that a record costs
costs_of_17_blocks : cost costs (puts_bytes 68719476736 4095 65536) ≡ 42
costs_of_17_blocks = refl

costs_of_sizes : (cost costs (changes_size 5 9) ≡ 6) × (headroom costs (changes_size 5 9) ≡ 16) × (headroom costs (changes_size 9 5) ≡ 0) × (cost costs changes_bits ≡ 2)
costs_of_sizes = (refl, refl, refl, refl)

-- `rename /a /c`, `mkdir /e`, `symlink c/../c/b /l`, and what is refused then

abbrev renamed : Tree
renamed =
    with_object (codes "l" ∷ []) (symlink 7 (codes "c/../c/b")) (with_directory (codes "e" ∷ []) 6 (mode_alone 0o755)
    (with_directory (codes "c" ∷ codes "b" ∷ []) 5 (mode_alone 0o755) (with_directory (codes "c" ∷ []) 4 (mode_alone 0o755) fresh)))

stat_through_the_link : stats limits renamed true (codes "/l") (reply.Stat (record { number = 5; kind = kind.Dir; mode = 0o755; links = 1; size = 0 })) renamed nothing
stat_through_the_link = (1, refl, (refl, refl, refl))

lstat_of_the_link : stats limits renamed false (codes "/l") (reply.Stat (record { number = 7; kind = kind.Link; mode = 0o777; links = 1; size = 8 })) renamed nothing
lstat_of_the_link = (1, refl, (refl, refl, refl))

link_onto_directory : renames limits None renamed false (codes "/l") (codes "/c") (reply.Refused EISDIR) renamed nothing
link_onto_directory = (refl, refl, refl)

directory_onto_link : renames limits None renamed false (codes "/c") (codes "/l") (reply.Refused ENOTDIR) renamed nothing
directory_onto_link = (refl, refl, refl)

unlink_of_a_directory : unlinks limits None renamed (codes "/c") (reply.Refused EPERM) renamed nothing
unlink_of_a_directory = (refl, refl, refl)

text_of_the_link : reads_link limits renamed (codes "/l") (reply.Text (codes "c/../c/b")) renamed nothing
text_of_the_link = (refl, refl, refl)

-- `rmdir /c/b`, and the link dangles
link_to_what_is_gone : stats limits (without_object (codes "c" ∷ codes "b" ∷ []) renamed) true (codes "/l") (reply.Refused ENOENT) (without_object (codes "c" ∷ codes "b" ∷ []) renamed) nothing
link_to_what_is_gone = (refl, refl, refl)

-- two names of one file: `rename` of one to the other changes nothing

abbrev two_names : Tree
two_names = with_object (codes "y" ∷ []) (file 5) (with_file (codes "x" ∷ []) 5 (mode_alone 0o644) (with_directory (codes "d" ∷ []) 4 (mode_alone 0o755) fresh))

onto_the_same_file : renames limits None two_names false (codes "/x") (codes "/y") reply.Done two_names nothing
onto_the_same_file = (refl, refl, refl)

below_itself : renames limits None two_names false (codes "/d") (codes "/d/e") (reply.Refused EINVAL) two_names nothing
below_itself = (refl, refl, refl)

-- `open /f rwca`, `write 0 6162`, `pwrite 0 0 63`, `pread 0 0 5`, `lseek 0 set 0`, `write 0 64`, `read 0 5`

abbrev appending : ℕ → Description
appending offset = record { number = 4; offset = offset; reads = true; writes = true; appends = true }

abbrev log_of : List ℕ → ℕ → Tree
log_of bytes offset = with_descriptor 0 (Some (appending offset)) (with_bytes 4 bytes (with_file (codes "f" ∷ []) 4 (mode_alone 0o644) fresh))

appends_two : writes limits None (log_of [] 0) 0 (0x61 ∷ 0x62 ∷ []) (reply.Wrote 2) (with_descriptor 0 (Some (appending 2)) (with_bytes 4 (0x61 ∷ 0x62 ∷ []) (log_of [] 0))) (logs (puts_bytes 0 0 2))
appends_two = (refl, refl, refl)

writes_to_the_start : writes_to limits None (log_of (0x61 ∷ 0x62 ∷ []) 2) 0 (pos 0) (0x63 ∷ []) (reply.Wrote 1) (with_bytes 4 (0x63 ∷ 0x62 ∷ []) (log_of (0x61 ∷ 0x62 ∷ []) 2)) (logs (puts_bytes 2 0 1))
writes_to_the_start = (refl, refl, refl)

reads_both : reads_from (log_of (0x63 ∷ 0x62 ∷ []) 2) 0 (pos 0) 5 (reply.Data (0x63 ∷ 0x62 ∷ [])) (log_of (0x63 ∷ 0x62 ∷ []) 2) nothing
reads_both = (refl, refl, refl)

appends_from_the_start : writes limits None (log_of (0x63 ∷ 0x62 ∷ []) 0) 0 (0x64 ∷ []) (reply.Wrote 1) (with_descriptor 0 (Some (appending 3)) (with_bytes 4 (0x63 ∷ 0x62 ∷ 0x64 ∷ []) (log_of (0x63 ∷ 0x62 ∷ []) 0))) (logs (puts_bytes 2 2 1))
appends_from_the_start = (refl, refl, refl)

reads_behind_the_end : reads (log_of (0x63 ∷ 0x62 ∷ 0x64 ∷ []) 3) 0 5 (reply.Data []) (with_descriptor 0 (Some (appending 3)) (log_of (0x63 ∷ 0x62 ∷ 0x64 ∷ []) 3)) nothing
reads_behind_the_end = (refl, refl, refl)

creates_what_is_there : opens false 32 limits None (log_of [] 0) (codes "/f") (record reading { creates = true; exclusive = true }) (mode_alone 0o644) (reply.Refused EEXIST) (log_of [] 0) nothing
creates_what_is_there = (refl, refl, refl)

grown_by_zeros : truncates_open limits None (file_of [] 0) 0 (pos 3) reply.Done (with_bytes 4 (0 ∷ 0 ∷ 0 ∷ []) (file_of [] 0)) (logs (changes_size 0 3))
grown_by_zeros = (refl, refl, refl)

gets_zeros : gets limits (file_of (0 ∷ 0 ∷ 0 ∷ []) 0) (codes "/f") (pos 0) 9 (reply.Data (0 ∷ 0 ∷ 0 ∷ [])) (file_of (0 ∷ 0 ∷ 0 ∷ []) 0) nothing
gets_zeros = (refl, refl, refl)

-- at the greatest offset

abbrev far : Tree
far = file_of [] 9223372036854775807

seeks_farthest : seeks (file_of [] 0) 0 whence.Set (pos 9223372036854775807) (reply.At 9223372036854775807) (with_descriptor 0 (Some (at_offset 9223372036854775807)) (file_of [] 0)) nothing
seeks_farthest = (refl, refl, refl)

seeks_farther : seeks far 0 whence.Cur (pos 1) (reply.Refused EOVERFLOW) far nothing
seeks_farther = (refl, refl, refl)

writes_too_far : writes limits None far 0 (0 ∷ []) (reply.Refused EFBIG) far nothing
writes_too_far = (refl, refl, refl)

-- 32 descriptors are open

abbrev crowded : Tree
crowded = record (file_of [] 0) { descriptors = λ d. if nat_lt d 32 then Some (at_offset 0) else None }

one_file_too_many : opens false 32 limits None crowded (codes "/f") reading (mode_alone 0o644) (reply.Refused EMFILE) crowded nothing
one_file_too_many = (refl, refl, refl)

-- where times are kept: `mkdir /a/b` at one of them, and `rename /a/b /c` at another

abbrev dawn : Time
dawn = record { seconds = pos 21600; nanoseconds = 999999999 }

abbrev noon : Time
noon = record { seconds = pos 43200; nanoseconds = 0 }

abbrev at_times : ℕ → Time → Time → Attributes
at_times mode modified changed = record (new_attributes (mode_alone mode)) { modified = modified; changed = changed }

abbrev at_a : Path
at_a = codes "a" ∷ []

abbrev at_b : Path
at_b = codes "a" ∷ codes "b" ∷ []

abbrev at_c : Path
at_c = codes "c" ∷ []

abbrev with_a : Tree
with_a = with_directory at_a 4 (mode_alone 0o755) fresh

with_a_is : Told with_a (at_a ∷ [] ∷ []) [] (4 ∷ 3 ∷ [])
with_a_is = told_directory (told_root 0o755) at_a 4 (mode_alone 0o755)

abbrev made_at_dawn : Tree
made_at_dawn = entered (Some dawn) Data 5 at_a with_a (with_directory at_b 5 (mode_alone 0o700) with_a)

makes_b_at_dawn : makes_directory timed_limits (Some dawn) with_a (codes "/a/b") (mode_alone 0o700) reply.Done made_at_dawn (logs adds_name)
makes_b_at_dawn = ([], listing_told with_a_is at_a [] refl, (Some 5, fresh_told with_a_is timed_limits 1 (lit≤ tt) refl refl, (refl, refl, refl)))

-- the new directory and its parent have the time, and the root hasn't
times_of_making : (made_at_dawn.attributes 5 ≡ Some (at_times 0o700 dawn dawn)) × (made_at_dawn.attributes 4 ≡ Some (at_times 0o755 dawn dawn)) × (made_at_dawn.attributes 3 ≡ Some (new_attributes (mode_alone 0o755)))
times_of_making = (refl, refl, refl)

made_is : Told made_at_dawn (at_b ∷ at_a ∷ [] ∷ []) [] (5 ∷ 4 ∷ 3 ∷ [])
made_is = told_touched (told_touched (told_directory with_a_is at_b 5 (mode_alone 0o700)) dawn Data 5) dawn Data 4

abbrev moved_at_noon : Tree
moved_at_noon = marked (Some noon) (touches_move (Some 5) None (Some 4) (Some 3)) (moved at_b at_c made_at_dawn)

moved_is : Told moved_at_noon (moved_paths at_b at_c (at_b ∷ at_a ∷ [] ∷ [])) [] (5 ∷ 4 ∷ 3 ∷ [])
moved_is = told_touched (told_touched (told_touched (told_moved made_is at_b at_c) noon Status 5) noon Data 4) noon Data 3

moves_b_at_noon : renames timed_limits (Some noon) made_at_dawn false (codes "/a/b") (codes "/c") reply.Done moved_at_noon (logs adds_name)
moves_b_at_noon = (codes "a" ∷ [], listing_told made_is [] (codes "a" ∷ []) refl, (refl, used_alone moved_is refl, refl))

-- what moved keeps the time of its data, and both directories have the new one
times_of_moving : (moved_at_noon.attributes 5 ≡ Some (at_times 0o700 dawn noon)) × (moved_at_noon.attributes 4 ≡ Some (at_times 0o755 noon noon)) × (moved_at_noon.attributes 3 ≡ Some (at_times 0o755 noon noon))
times_of_moving = (refl, refl, refl)

-- a size that a file has already changes its times
truncated_to_same : truncates_open timed_limits (Some noon) (file_of (97 ∷ []) 0) 0 (pos 1) reply.Done (marked (Some noon) (touches_object Data 4) (with_bytes 4 (97 ∷ []) (file_of (97 ∷ []) 0))) (logs (changes_size 1 1))
truncated_to_same = (refl, refl, refl)

-- where no attributes are kept, `chown` is refused, whatever its path is
keeps_no_owners : changes_owners limits None fresh true [] (Some 5) None (reply.Refused ENOTSUP) fresh nothing
keeps_no_owners = (refl, refl, refl)

-- `as 5 7`, and then `mkdir /a`

abbrev said : Session
said = record { time = dawn; owner = 5; group = 7 }

abbrev of_said : Permissions
of_said = record { mode = 0o755; owner = 5; group = 7 }

abbrev with_owned : Tree
with_owned = entered (Some dawn) Data 4 [] fresh (with_directory at_a 4 of_said fresh)

makes_owned : calls timed_limits said fresh (call.Mkdir (codes "/a") 0o755) reply.Done with_owned (logs adds_name)
makes_owned = ([], listing_told (told_root 0o755) [] [] refl, (Some 4, fresh_told (told_root 0o755) timed_limits 0 (lit≤ tt) refl refl, (refl, refl, refl)))

owners_of_making : with_owned.attributes 4 ≡ Some (record (at_times 0o755 dawn dawn) { owner = 5; group = 7 })
owners_of_making = refl

-- `chown /a 9 -` keeps the group, and the time of its data
abbrev given_away : Tree
given_away = marked (Some noon) (touches_object Status 4) (changing_attributes 4 (set_owners (Some 9) None) with_owned)

gives_away : changes_owners timed_limits (Some noon) with_owned true (codes "/a") (Some 9) None reply.Done given_away (logs changes_bits)
gives_away = (refl, refl, refl)

owners_of_giving : given_away.attributes 4 ≡ Some (record (at_times 0o755 dawn noon) { owner = 9; group = 7 })
owners_of_giving = refl

-- `attr /a` tells what `stat` tells, and the rest
tells_owned : attributes timed_limits given_away true (codes "/a")
    (reply.Attributes (record { number = 4; kind = kind.Dir; mode = 0o755; links = 1; size = 0 }) (record (at_times 0o755 dawn noon) { owner = 9; group = 7 })) given_away nothing
tells_owned = (1, refl, (refl, refl, refl))

-- `utimens /a omit` changes nothing, and a whole second of nanoseconds is too many
omits_the_time : changes_times timed_limits (Some noon) with_owned true (codes "/a") times.Omit reply.Done with_owned nothing
omits_the_time = (refl, refl, refl)

a_second_of_nanoseconds : changes_times timed_limits (Some noon) with_owned true (codes "/a") (times.At (pos 0) 1000000000) (reply.Refused EINVAL) with_owned nothing
a_second_of_nanoseconds = (refl, refl, refl)
