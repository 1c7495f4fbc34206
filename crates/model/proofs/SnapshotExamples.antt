-- Worked rows of snapshots.
use Rattle.std.proofs.Common.{ℕ, zero, suc, ◌+◌, List, [], ◌∷◌, ◌++◌, true, false, refl, replicate, None}
use Rattle.std.specs.Prelude.{codes, pos, ◌/◌, ◌%◌, nat_lt, if◌then◌else◌}
use Rattle.model.specs.declared.errno.Errno.TheVariants.{EROFS, NOSNAP, SNAPEXISTS, SNAPFULL}
use Rattle.model.specs.declared.reply.Reply.TheVariants as reply
use Rattle.model.specs.declared.reply.FileType.TheVariants as kind
use Rattle.model.specs.declared.command.Command.TheVariants as command
use Rattle.model.specs.declared.command.PathCall.TheVariants as call
use Rattle.model.specs.Paths.{Name, Path}
use Rattle.model.specs.Trees.{Tree, root_alone}
use Rattle.model.specs.Attributes.{mode_alone}
use Rattle.model.specs.Edits.{without_object, with_bytes, with_file}
use Rattle.model.specs.Room.{Room, nothing, logs, a_snapshot, removes_name}
use Rattle.model.specs.States.{State, empty, with_tree, with_snapshots}
use Rattle.model.specs.Steps.{WouldStep}
use Rattle.model.proofs.DirectoryExamples.{at_a, with_a, with_a_is}
use Rattle.model.proofs.ToldLemmas.{Told, told_root, told_object, told_bytes, told_file, told_dropped, dropped, listing_told, swept_told, links_told, forgets_told}
use Rattle.model.proofs.ExampleLimits.{costs, limits}

abbrev room : Room
room = record { costs = costs; blocks = 64; free = 60; pledged = 0; is_covered = true; orphans_of = λ name. 0; stored = λ n k. false }

-- `mkdir /a`, `snap take s1`, `rmdir /a`: the snapshot has `/a`, and the tree hasn't

abbrev before : State
before = with_tree with_a (empty limits)

abbrev taken : State
taken = with_snapshots ((codes "s1", with_a) ∷ []) before

takes_s1 : WouldStep room before (command.SnapTake (codes "s1")) reply.Done taken a_snapshot
takes_s1 = (refl, (with_a, forgets_told with_a_is refl, refl), refl)

abbrev after : State
after = with_tree (dropped 4 (without_object at_a with_a)) taken

after_is : Told after.tree (at_a ∷ at_a ∷ [] ∷ []) [] (4 ∷ 3 ∷ [])
after_is = told_dropped (told_object with_a_is at_a None) 4

removes_a : WouldStep room taken (command.Path (call.Rmdir (codes "/a"))) reply.Done after (logs removes_name)
removes_a = (([], listing_told with_a_is at_a [] refl, (refl, swept_told (told_object with_a_is at_a None) 4 refl refl, refl)), refl)

lists_the_snapshot : WouldStep room after (command.Within (codes "s1") (call.List (codes "/"))) (reply.Names (codes "a" ∷ [])) after nothing
lists_the_snapshot = ((codes "a" ∷ [], listing_told with_a_is [] (codes "a" ∷ []) refl, (refl, refl, refl)), refl)

lists_the_tree : WouldStep room after (command.Path (call.List (codes "/"))) (reply.Names []) after nothing
lists_the_tree = (([], listing_told after_is [] [] refl, (refl, refl, refl)), refl)

changes_no_snapshot : WouldStep room after (command.Within (codes "s1") (call.Mkdir (codes "/x") 0o755)) (reply.Refused EROFS) after nothing
changes_no_snapshot = (refl, refl, refl)

one_is_listed : WouldStep room after command.SnapList (reply.Snaps (codes "s1" ∷ [])) after nothing
one_is_listed = (refl, refl, refl)

deletes_s1 : WouldStep room after (command.SnapDelete (codes "s1")) reply.Done (with_snapshots [] after) nothing
deletes_s1 = (refl, refl, refl)

-- `snap take n1` to `n30`, `n31`, `n1`; `snap delete n3`, `snap take n31`, `snap list`

abbrev numbered : ℕ → Name
numbered n = codes "n" ++ (if nat_lt n 10 then (48 + n) ∷ [] else (48 + n / 10) ∷ (48 + n % 10) ∷ [])

-- so many snapshots of a new image, from the nth on
abbrev kept_from : ℕ → ℕ → List (Name × Tree)
kept_from n zero = []
kept_from n (suc k) = (numbered n, root_alone 0o755) ∷ kept_from (n + 1) k

abbrev names_from : ℕ → ℕ → List Name
names_from n zero = []
names_from n (suc k) = numbered n ∷ names_from (n + 1) k

abbrev thirty : State
thirty = with_snapshots (kept_from 1 30) (empty limits)

one_too_many : WouldStep room thirty (command.SnapTake (codes "n31")) (reply.Refused SNAPFULL) thirty nothing
one_too_many = (refl, refl, refl)

there_already : WouldStep room thirty (command.SnapTake (codes "n1")) (reply.Refused SNAPEXISTS) thirty nothing
there_already = (refl, refl, refl)

abbrev twenty_nine : State
twenty_nine = with_snapshots (kept_from 1 2 ++ kept_from 4 27) (empty limits)

deletes_the_third : WouldStep room thirty (command.SnapDelete (codes "n3")) reply.Done twenty_nine nothing
deletes_the_third = (refl, refl, refl)

abbrev thirty_again : State
thirty_again = with_snapshots (kept_from 1 2 ++ kept_from 4 28) (empty limits)

takes_one_more : WouldStep room twenty_nine (command.SnapTake (codes "n31")) reply.Done thirty_again a_snapshot
takes_one_more = (refl, (root_alone 0o755, forgets_told (told_root 0o755) refl, refl), refl)

lists_all : WouldStep room thirty_again command.SnapList (reply.Snaps (names_from 1 2 ++ names_from 4 28)) thirty_again nothing
lists_all = (refl, refl, refl)

-- a file of 65,536 bytes in a snapshot, which the tree doesn't have any more

abbrev at_f : Path
at_f = codes "f" ∷ []

abbrev full : Tree
full = with_bytes 4 (replicate 65536 0x61) (with_file at_f 4 (mode_alone 0o644) (root_alone 0o755))

full_is : Told full (at_f ∷ [] ∷ []) [] (4 ∷ 4 ∷ 4 ∷ 3 ∷ [])
full_is = told_bytes (told_file (told_root 0o755) at_f 4 (mode_alone 0o644)) 4 (replicate 65536 0x61)

abbrev kept : State
kept = with_snapshots ((codes "s", full) ∷ []) (empty limits)

gets_the_last : WouldStep room kept (command.Within (codes "s") (call.Get (codes "/f") (pos 65535) 9)) (reply.Data (0x61 ∷ [])) kept nothing
gets_the_last = ((refl, refl, refl), refl)

stat_of_kept : WouldStep room kept (command.Within (codes "s") (call.Stat (codes "/f"))) (reply.Stat (record { number = 4; kind = kind.File; mode = 0o644; links = 1; size = 65536 })) kept nothing
stat_of_kept = ((1, links_told full_is 4 (at_f ∷ []) refl refl refl, (refl, refl, refl)), refl)

no_such_snapshot : WouldStep room kept (command.Within (codes "t") (call.List (codes "/"))) (reply.Refused NOSNAP) kept nothing
no_such_snapshot = (refl, refl, refl)
