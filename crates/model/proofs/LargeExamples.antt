-- Worked rows of files of 65,536 bytes and more, and of the room that they ask for.
use Rattle.std.proofs.Common.{◌≡◌, ℕ, ◌+◌, List, [], ◌∷◌, ◌++◌, length, true, false, refl, replicate, Some, None, arith, lit≤}
use Rattle.std.specs.Prelude.{codes, pos}
use Rattle.model.specs.declared.errno.Errno.TheVariants.{EFBIG}
use Rattle.model.specs.declared.reply.Reply.TheVariants as reply
use Rattle.model.specs.declared.reply.FileType.TheVariants as kind
use Rattle.model.specs.declared.command.Command.TheVariants as command
use Rattle.model.specs.declared.command.PathCall.TheVariants as call
use Rattle.model.specs.Paths.{Path}
use Rattle.model.specs.Trees.{Tree, Description, root_alone}
use Rattle.model.specs.Attributes.{mode_alone}
use Rattle.model.specs.Edits.{written, with_bytes, with_directory, with_file, with_descriptor}
use Rattle.model.specs.Room.{Room, nothing, logs, a_snapshot, adds_name, removes_name, puts_bytes, changes_bits, IsShort}
use Rattle.model.specs.Reading.{stats, gets}
use Rattle.model.specs.Descriptors.{writes, writes_to, reads_from, stats_open}
use Rattle.model.specs.States.{State, empty, with_tree}
use Rattle.model.specs.Circumstances.{IsShortFor}
use Rattle.model.proofs.ToldLemmas.{Told, told_root, told_bytes, told_descriptor, told_file, listing_told, fresh_told, links_told}
use Rattle.model.proofs.EditLaws.{length-written}
use Rattle.model.proofs.ExampleLimits.{costs, limits}

abbrev at_f : Path
at_f = codes "f" ∷ []

abbrev at_offset : ℕ → Description
at_offset offset = record { number = 4; offset = offset; reads = true; writes = true; appends = false }

-- the file `/f` of these bytes, open at this offset
abbrev file_of : List ℕ → ℕ → Tree
file_of bytes offset = with_descriptor 0 (Some (at_offset offset)) (with_bytes 4 bytes (with_file at_f 4 (mode_alone 0o644) (root_alone 0o755)))

file_of_is : (bytes : List ℕ) (offset : ℕ) → Told (file_of bytes offset) (at_f ∷ [] ∷ []) (0 ∷ []) (4 ∷ 4 ∷ 4 ∷ 3 ∷ [])
file_of_is bytes offset = told_descriptor (told_bytes (told_file (told_root 0o755) at_f 4 (mode_alone 0o644)) 4 bytes) 0 (Some (at_offset offset))

-- `write 0` of 128 bytes, and of one more

writes_128_bytes : writes limits None (file_of [] 0) 0 (replicate 128 0x61) (reply.Wrote 128) (with_descriptor 0 (Some (at_offset 128)) (with_bytes 4 (replicate 128 0x61) (file_of [] 0))) (logs (puts_bytes 0 0 128))
writes_128_bytes = (refl, refl, refl)

writes_one_more : writes limits None (file_of (replicate 128 0x61) 128) 0 (0x62 ∷ []) (reply.Wrote 1) (with_descriptor 0 (Some (at_offset 129)) (with_bytes 4 (replicate 128 0x61 ++ 0x62 ∷ []) (file_of (replicate 128 0x61) 128))) (logs (puts_bytes 128 128 1))
writes_one_more = (refl, refl, refl)

-- `pwrite 0 65536 ff`, `pread 0 65534 4`, `fstat 0`

abbrev behind_a_hole : List ℕ
behind_a_hole = replicate 65536 0 ++ 0xff ∷ []

writes_behind_a_hole : writes_to limits None (file_of [] 0) 0 (pos 65536) (0xff ∷ []) (reply.Wrote 1) (with_bytes 4 behind_a_hole (file_of [] 0)) (logs (puts_bytes 0 65536 1))
writes_behind_a_hole = (refl, refl, refl)

reads_over_its_end : reads_from (file_of behind_a_hole 0) 0 (pos 65534) 4 (reply.Data (0 ∷ 0 ∷ 0xff ∷ [])) (file_of behind_a_hole 0) nothing
reads_over_its_end = (refl, refl, refl)

stat_of_65537_bytes : stats_open (file_of behind_a_hole 0) 0 (reply.Stat (record { number = 4; kind = kind.File; mode = 0o644; links = 1; size = 65537 })) (file_of behind_a_hole 0) nothing
stat_of_65537_bytes = (1, links_told (file_of_is behind_a_hole 0) 4 (at_f ∷ []) refl refl refl, (refl, refl, refl))

-- `write 0` of 65,536 bytes and of 65,463 more; `get` of the last one

abbrev full : List ℕ
full = replicate 65536 0x61

writes_65536_bytes : writes limits None (file_of [] 0) 0 full (reply.Wrote 65536) (with_descriptor 0 (Some (at_offset 65536)) (with_bytes 4 full (file_of [] 0))) (logs (puts_bytes 0 0 65536))
writes_65536_bytes = (refl, refl, refl)

writes_65463_more : writes limits None (file_of full 65536) 0 (replicate 65463 0x61) (reply.Wrote 65463) (with_descriptor 0 (Some (at_offset 130999)) (with_bytes 4 (replicate 130999 0x61) (file_of full 65536))) (logs (puts_bytes 65536 65536 65463))
writes_65463_more = (refl, refl, refl)

gets_the_last : gets limits (file_of full 0) (codes "/f") (pos 65535) 9 (reply.Data (0x61 ∷ [])) (file_of full 0) nothing
gets_the_last = (refl, refl, refl)

-- `pwrite 0 68719476735 00` makes the greatest file: no list so long is computed, so its size is told of every offset

size_after_one_byte : (offset : ℕ) → length (written offset (0 ∷ []) []) ≡ offset + 1
size_after_one_byte offset = omega (arith, length-written offset (0 ∷ []) [])

stat_of_any_bytes : (bytes : List ℕ) → stats limits (file_of bytes 0) true (codes "/f") (reply.Stat (record { number = 4; kind = kind.File; mode = 0o644; links = 1; size = length bytes })) (file_of bytes 0) nothing
stat_of_any_bytes bytes = (1, links_told (file_of_is bytes 0) 4 (at_f ∷ []) refl refl refl, (refl, refl, refl))

past_the_greatest_file : writes_to limits None (file_of [] 0) 0 (pos 68719476735) (0 ∷ 0 ∷ []) (reply.Refused EFBIG) (file_of [] 0) nothing
past_the_greatest_file = (refl, refl, refl)

-- room on a disk of 64 blocks: a file of 65,536 bytes, and a directory that finds none until the file is gone

abbrev room_of : ℕ → ℕ → Room
room_of free pledged = record { costs = costs; blocks = 64; free = free; pledged = pledged; is_covered = true; orphans_of = λ name. 0; stored = λ n k. false }

first_test_is_short : IsShort (room_of 60 24) (logs (puts_bytes 0 0 65536))
first_test_is_short = (refl, lit≤ tt)

second_test_is_not : ¬ IsShort (room_of 59 0) (logs (puts_bytes 0 0 65536))
second_test_is_not short = absurd (omega (arith, short.1))

abbrev with_file_full : State
with_file_full = with_tree (file_of full 65536) (empty limits)

short_for_a_directory : IsShortFor (room_of 43 0) with_file_full (command.Path (call.Mkdir (codes "/a") 0o755))
short_for_a_directory = (
  reply.Done,
  with_tree (with_directory (codes "a" ∷ []) 5 (mode_alone 0o755) (file_of full 65536)) with_file_full,
  logs adds_name,
  ((codes "f" ∷ [], listing_told (file_of_is full 65536) [] (codes "f" ∷ []) refl, (Some 5, fresh_told (file_of_is full 65536) limits 1 (lit≤ tt) refl refl, (refl, refl, refl))), refl),
  (refl, lit≤ tt),
)

not_short_for_removals : ¬ IsShort (room_of 43 0) (logs removes_name)
not_short_for_removals short = absurd (omega (arith, short.1))

-- 18 snapshots on that disk: the last finds 9 blocks free and asks for 11

eighteenth_is_short : IsShort (room_of 9 0) a_snapshot
eighteenth_is_short = (refl, lit≤ tt)

changes_of_modes : (¬ IsShort (room_of 9 2) (logs changes_bits)) × IsShort (room_of 9 4) (logs changes_bits)
changes_of_modes = (λ short. absurd (omega (arith, short.1)), (refl, lit≤ tt))
