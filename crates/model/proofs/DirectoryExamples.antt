-- Worked rows of calls that look into directories, take numbers and drop what is gone.
use Rattle.std.proofs.Common.{ℕ, zero, suc, ◌+◌, List, [], ◌∷◌, ◌++◌, true, false, refl, replicate, Some, None, lit≤}
use Rattle.std.specs.Prelude.{codes, ◌/◌, ◌%◌}
use Rattle.model.specs.declared.errno.Errno.TheVariants.{ENOENT, EEXIST, ENOTEMPTY, NONUMBER}
use Rattle.model.specs.declared.reply.Reply.TheVariants as reply
use Rattle.model.specs.declared.reply.FileType.TheVariants as kind
use Rattle.model.specs.declared.command.Access.TheVariants as access
use Rattle.model.specs.declared.command.Flags.{Flags}
use Rattle.model.specs.Paths.{Name, Path}
use Rattle.model.specs.Trees.{Tree, Description, file, root_alone}
use Rattle.model.specs.declared.limits.TheConstants.{LINK_MODE}
use Rattle.model.specs.Attributes.{mode_alone}
use Rattle.model.specs.Edits.{with_object, without_object, with_directory, with_file, with_symlink, with_descriptor, moved}
use Rattle.model.specs.Room.{nothing, logs, adds_name, removes_name}
use Rattle.model.specs.Reading.{stats, lists}
use Rattle.model.specs.Changing.{makes_directory, makes_symlink, removes_directory, links, renames}
use Rattle.model.specs.Descriptors.{opens, closes, stats_open}
use Rattle.model.proofs.ToldLemmas.{Told, told_root, told_object, told_descriptor, told_directory, told_file, told_symlink, told_moved, moved_paths, told_dropped, dropped, listing_told, fresh_told, swept_told, links_told, used_below}
use Rattle.model.proofs.ExampleLimits.{limits}

abbrev pub fresh : Tree
fresh = root_alone 0o755

fresh_is : Told fresh ([] ∷ []) [] (3 ∷ [])
fresh_is = told_root 0o755

abbrev pub at_a : Path
at_a = codes "a" ∷ []

abbrev at_c : Path
at_c = codes "c" ∷ []

abbrev at_d : Path
at_d = codes "d" ∷ []

abbrev at_e : Path
at_e = codes "e" ∷ []

abbrev at_f : Path
at_f = codes "f" ∷ []

abbrev at_g : Path
at_g = codes "g" ∷ []

abbrev at_x : Path
at_x = codes "x" ∷ []

abbrev at_y : Path
at_y = codes "y" ∷ []

abbrev at_l : Path
at_l = codes "l" ∷ []

abbrev at_a_b : Path
at_a_b = codes "a" ∷ codes "b" ∷ []

abbrev at_c_b : Path
at_c_b = codes "c" ∷ codes "b" ∷ []

-- `mkdir /a`, `list /`, `mkdir /a` again

abbrev pub with_a : Tree
with_a = with_directory at_a 4 (mode_alone 0o755) fresh

pub with_a_is : Told with_a (at_a ∷ [] ∷ []) [] (4 ∷ 3 ∷ [])
with_a_is = told_directory fresh_is at_a 4 (mode_alone 0o755)

makes_a : makes_directory limits None fresh (codes "/a") (mode_alone 0o755) reply.Done with_a (logs adds_name)
makes_a = ([], listing_told fresh_is [] [] refl, (Some 4, fresh_told fresh_is limits 0 (lit≤ tt) refl refl, (refl, refl, refl)))

lists_a : lists limits with_a (codes "/") (reply.Names (codes "a" ∷ [])) with_a nothing
lists_a = (codes "a" ∷ [], listing_told with_a_is [] (codes "a" ∷ []) refl, (refl, refl, refl))

makes_a_again : makes_directory limits None with_a (codes "/a") (mode_alone 0o755) (reply.Refused EEXIST) with_a nothing
makes_a_again = (refl, refl, refl)

a_name_of_255_bytes : makes_directory limits None fresh (codes "/" ++ replicate 255 97) (mode_alone 0o755) reply.Done (with_directory (replicate 255 97 ∷ []) 4 (mode_alone 0o755) fresh) (logs adds_name)
a_name_of_255_bytes = ([], listing_told fresh_is [] [] refl, (Some 4, fresh_told fresh_is limits 0 (lit≤ tt) refl refl, (refl, refl, refl)))

-- `mkdir /d04` to `/d31`: the last takes the last number, and the next finds none

abbrev numbered : ℕ → Name
numbered n = codes "d" ++ (48 + n / 10) ∷ (48 + n % 10) ∷ []

abbrev many : ℕ → Tree
many zero = fresh
many (suc k) = with_directory (numbered (4 + k) ∷ []) (4 + k) (mode_alone 0o755) (many k)

abbrev many_paths : ℕ → List Path
many_paths zero = [] ∷ []
many_paths (suc k) = (numbered (4 + k) ∷ []) ∷ many_paths k

abbrev many_numbers : ℕ → List ℕ
many_numbers zero = 3 ∷ []
many_numbers (suc k) = (4 + k) ∷ many_numbers k

many_are : (k : ℕ) → Told (many k) (many_paths k) [] (many_numbers k)
many_are zero = fresh_is
many_are (suc k) = told_directory (many_are k) (numbered (4 + k) ∷ []) (4 + k) (mode_alone 0o755)

abbrev names_from : ℕ → ℕ → List Name
names_from n zero = []
names_from n (suc k) = numbered n ∷ names_from (n + 1) k

the_last_number : makes_directory limits None (many 27) (codes "/d31") (mode_alone 0o755) reply.Done (many 28) (logs adds_name)
the_last_number = (names_from 4 27, listing_told (many_are 27) [] (names_from 4 27) refl, (Some 31, fresh_told (many_are 27) limits 27 (lit≤ tt) refl refl, (refl, refl, refl)))

no_number_is_left : makes_directory limits None (many 28) (codes "/d32") (mode_alone 0o755) (reply.Refused NONUMBER) (many 28) nothing
no_number_is_left = (names_from 4 28, listing_told (many_are 28) [] (names_from 4 28) refl, (None, used_below (many 28) (many_paths 28) [] 28 refl, (refl, refl, refl)))

-- `mkdir /a`, `mkdir /a/b`, `mkdir /c`, `rename /a /c`: `/a` replaces the empty directory, whose number is free again

abbrev three : Tree
three = with_directory at_c 6 (mode_alone 0o755) (with_directory at_a_b 5 (mode_alone 0o755) with_a)

three_are : Told three (at_c ∷ at_a_b ∷ at_a ∷ [] ∷ []) [] (6 ∷ 5 ∷ 4 ∷ 3 ∷ [])
three_are = told_directory (told_directory with_a_is at_a_b 5 (mode_alone 0o755)) at_c 6 (mode_alone 0o755)

abbrev replaced : Tree
replaced = dropped 6 (moved at_a at_c three)

replaces : renames limits None three false (codes "/a") (codes "/c") reply.Done replaced (logs adds_name)
replaces = ([], listing_told three_are at_c [] refl, (refl, swept_told (told_moved three_are at_a at_c) 6 refl refl, refl))

abbrev replaced_paths : List Path
replaced_paths = moved_paths at_a at_c (at_c ∷ at_a_b ∷ at_a ∷ [] ∷ [])

replaced_is : Told replaced replaced_paths [] (6 ∷ 5 ∷ 4 ∷ 3 ∷ [])
replaced_is = told_dropped (told_moved three_are at_a at_c) 6

lists_the_root : lists limits replaced (codes "/") (reply.Names (codes "c" ∷ [])) replaced nothing
lists_the_root = (codes "c" ∷ [], listing_told replaced_is [] (codes "c" ∷ []) refl, (refl, refl, refl))

lists_what_moved : lists limits replaced (codes "/c") (reply.Names (codes "b" ∷ [])) replaced nothing
lists_what_moved = (codes "b" ∷ [], listing_told replaced_is at_c (codes "b" ∷ []) refl, (refl, refl, refl))

abbrev with_e : Tree
with_e = with_directory at_e 6 (mode_alone 0o755) replaced

number_again : makes_directory limits None replaced (codes "/e") (mode_alone 0o755) reply.Done with_e (logs adds_name)
number_again = (codes "c" ∷ [], listing_told replaced_is [] (codes "c" ∷ []) refl, (Some 6, fresh_told replaced_is limits 2 (lit≤ tt) refl refl, (refl, refl, refl)))

with_e_is : Told with_e (at_e ∷ replaced_paths) [] (6 ∷ 6 ∷ 5 ∷ 4 ∷ 3 ∷ [])
with_e_is = told_directory replaced_is at_e 6 (mode_alone 0o755)

onto_what_isn't_empty : renames limits None with_e false (codes "/e") (codes "/c") (reply.Refused ENOTEMPTY) with_e nothing
onto_what_isn't_empty = (codes "b" ∷ [], listing_told with_e_is at_c (codes "b" ∷ []) refl, (refl, refl, refl))

abbrev with_l : Tree
with_l = with_symlink at_l 7 (mode_alone LINK_MODE) (codes "c/../c/b") with_e

makes_l : makes_symlink limits None with_e (codes "c/../c/b") (codes "/l") (mode_alone LINK_MODE) reply.Done with_l (logs adds_name)
makes_l = (codes "c" ∷ codes "e" ∷ [], listing_told with_e_is [] (codes "c" ∷ codes "e" ∷ []) refl, (Some 7, fresh_told with_e_is limits 3 (lit≤ tt) refl refl, (refl, refl, refl)))

with_l_is : Told with_l (at_l ∷ at_e ∷ replaced_paths) [] (7 ∷ 6 ∷ 6 ∷ 5 ∷ 4 ∷ 3 ∷ [])
with_l_is = told_symlink with_e_is at_l 7 (mode_alone LINK_MODE) (codes "c/../c/b")

abbrev without_b : Tree
without_b = dropped 5 (without_object at_c_b with_l)

removes_b : removes_directory limits None with_l (codes "/c/b") reply.Done without_b (logs removes_name)
removes_b = ([], listing_told with_l_is at_c_b [] refl, (refl, swept_told (told_object with_l_is at_c_b None) 5 refl refl, refl))

the_link_dangles : stats limits without_b true (codes "/l") (reply.Refused ENOENT) without_b nothing
the_link_dangles = (refl, refl, refl)

-- `mkdir /d`, `open /x wc`, `link /x /y`, `list /`, `fstat 0`

abbrev writing : Flags
writing = record { access = access.Writing; creates = true; exclusive = false; truncates = false; appends = false }

abbrev written_by : ℕ → Description
written_by n = record { number = n; offset = 0; reads = false; writes = true; appends = false }

abbrev with_d : Tree
with_d = with_directory at_d 4 (mode_alone 0o755) fresh

abbrev with_x : Tree
with_x = with_descriptor 0 (Some (written_by 5)) (with_file at_x 5 (mode_alone 0o644) with_d)

with_d_is : Told with_d (at_d ∷ [] ∷ []) [] (4 ∷ 3 ∷ [])
with_d_is = told_directory fresh_is at_d 4 (mode_alone 0o755)

opens_x : opens false 32 limits None with_d (codes "/x") writing (mode_alone 0o644) (reply.Fd 0) with_x (logs adds_name)
opens_x = (codes "d" ∷ [], listing_told with_d_is [] (codes "d" ∷ []) refl, (Some 5, fresh_told with_d_is limits 1 (lit≤ tt) refl refl, (refl, refl, refl)))

with_x_is : Told with_x (at_x ∷ at_d ∷ [] ∷ []) (0 ∷ []) (5 ∷ 5 ∷ 4 ∷ 3 ∷ [])
with_x_is = told_descriptor (told_file with_d_is at_x 5 (mode_alone 0o644)) 0 (Some (written_by 5))

abbrev with_y : Tree
with_y = with_object at_y (file 5) with_x

links_y : links limits None with_x (codes "/x") (codes "/y") reply.Done with_y (logs adds_name)
links_y = (1, links_told with_x_is 5 (at_x ∷ []) refl refl refl, (codes "d" ∷ codes "x" ∷ [], listing_told with_x_is [] (codes "d" ∷ codes "x" ∷ []) refl, (refl, refl, refl)))

with_y_is : Told with_y (at_y ∷ at_x ∷ at_d ∷ [] ∷ []) (0 ∷ []) (5 ∷ 5 ∷ 4 ∷ 3 ∷ [])
with_y_is = told_object with_x_is at_y (Some (file 5))

lists_both : lists limits with_y (codes "/") (reply.Names (codes "d" ∷ codes "x" ∷ codes "y" ∷ [])) with_y nothing
lists_both = (codes "d" ∷ codes "x" ∷ codes "y" ∷ [], listing_told with_y_is [] (codes "d" ∷ codes "x" ∷ codes "y" ∷ []) refl, (refl, refl, refl))

two_links : stats_open with_y 0 (reply.Stat (record { number = 5; kind = kind.File; mode = 0o644; links = 2; size = 0 })) with_y nothing
two_links = (2, links_told with_y_is 5 (at_x ∷ at_y ∷ []) refl refl refl, (refl, refl, refl))

-- `open /f rwc`, `unlink /f`, `open /g rwc`, `fstat 1`, `fstat 0`, `close 0`: the number of what is open isn't given again

abbrev both_ways_new : Flags
both_ways_new = record writing { access = access.Both }

abbrev used_by : ℕ → Description
used_by n = record { number = n; offset = 0; reads = true; writes = true; appends = false }

abbrev with_f : Tree
with_f = with_descriptor 0 (Some (used_by 4)) (with_file at_f 4 (mode_alone 0o644) fresh)

opens_f : opens false 32 limits None fresh (codes "/f") both_ways_new (mode_alone 0o644) (reply.Fd 0) with_f (logs adds_name)
opens_f = ([], listing_told fresh_is [] [] refl, (Some 4, fresh_told fresh_is limits 0 (lit≤ tt) refl refl, (refl, refl, refl)))

abbrev without_f : Tree
without_f = without_object at_f with_f

without_f_is : Told without_f (at_f ∷ at_f ∷ [] ∷ []) (0 ∷ []) (4 ∷ 4 ∷ 3 ∷ [])
without_f_is = told_object (told_descriptor (told_file fresh_is at_f 4 (mode_alone 0o644)) 0 (Some (used_by 4))) at_f None

abbrev with_g : Tree
with_g = with_descriptor 1 (Some (used_by 5)) (with_file at_g 5 (mode_alone 0o644) without_f)

opens_g : opens false 32 limits None without_f (codes "/g") both_ways_new (mode_alone 0o644) (reply.Fd 1) with_g (logs adds_name)
opens_g = ([], listing_told without_f_is [] [] refl, (Some 5, fresh_told without_f_is limits 1 (lit≤ tt) refl refl, (refl, refl, refl)))

with_g_is : Told with_g (at_g ∷ at_f ∷ at_f ∷ [] ∷ []) (1 ∷ 0 ∷ []) (5 ∷ 5 ∷ 4 ∷ 4 ∷ 3 ∷ [])
with_g_is = told_descriptor (told_file without_f_is at_g 5 (mode_alone 0o644)) 1 (Some (used_by 5))

stat_of_g : stats_open with_g 1 (reply.Stat (record { number = 5; kind = kind.File; mode = 0o644; links = 1; size = 0 })) with_g nothing
stat_of_g = (1, links_told with_g_is 5 (at_g ∷ []) refl refl refl, (refl, refl, refl))

stat_of_f : stats_open with_g 0 (reply.Stat (record { number = 4; kind = kind.File; mode = 0o644; links = 0; size = 0 })) with_g nothing
stat_of_f = (0, links_told with_g_is 4 [] refl refl refl, (refl, refl, refl))

closes_f : closes with_g 0 reply.Done (dropped 4 (with_descriptor 0 None with_g)) nothing
closes_f = (refl, swept_told (told_descriptor with_g_is 0 None) 4 refl refl, refl)
