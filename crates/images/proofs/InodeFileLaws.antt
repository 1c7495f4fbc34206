-- Inodes put into the inode file.
use Rattle.std.proofs.Common.{◌≡◌, ◌≢◌, inl, inr, ℕ, ◌+◌, ◌*◌, ◌/◌, ◌%◌, ◌<◌, ◌≤◌, true, false, List, length, take, drop, refl, ap, ◌∙◌, arith, length-take, length-drop, length-append}
use Rattle.std.proofs.lemmas.Bool.{cases_eq, cases_lt}
use Rattle.std.proofs.lemmas.Bool.Decides.{nat_tests}
use Rattle.std.proofs.lemmas.List.{same_lists, places}
use Rattle.std.specs.Prelude.{nat_lt, ◌==◌, if◌then◌else◌, Some}
use Rattle.layout.specs.Bytes.{zeros}
use Rattle.images.specs.Nodes.{Held, file_block}
use Rattle.images.specs.Roots.{inode_part, inode_bytes_at}
use Rattle.images.specs.Overlays.{Overlay, overlaid_block, or_else}
use Rattle.images.specs.InodeFiles.{spliced_at, with_inode}

-- a part of a list after others were written over it: these, before them, behind them
part-same : (size at : ℕ) (xs ys : List ℕ) → at + length ys ≤ length xs → size ≡ length ys → take size (drop at (spliced_at at ys xs)) ≡ ys
part-same size at xs ys fits is = same_lists _ _ (simp (length-take, length-drop, length-append) (omega arith)) (λ k d h. grind (arith, places))

part-below : (size at from : ℕ) (xs ys : List ℕ) → at + length ys ≤ length xs → from + size ≤ at → take size (drop from (spliced_at at ys xs)) ≡ take size (drop from xs)
part-below size at from xs ys fits below = same_lists _ _ (simp (length-take, length-drop, length-append) (omega arith)) (λ k d h. grind (arith, places))

part-past : (size at from : ℕ) (xs ys : List ℕ) → at + length ys ≤ length xs → at + length ys ≤ from → take size (drop from (spliced_at at ys xs)) ≡ take size (drop from xs)
part-past size at from xs ys fits past = same_lists _ _ (simp (length-take, length-drop, length-append) (omega arith)) (λ k d h. grind (arith, places))

put_here : (s : ℕ) (bytes block : List ℕ) → length block ≡ 4096 → length bytes ≡ 192 → s < 21 → inode_part (spliced_at (192 * s) bytes block) s ≡ bytes
put_here s bytes block size long low = part-same 192 (192 * s) block bytes (omega arith) (omega arith)

put_there : (s r : ℕ) (bytes block : List ℕ) → length block ≡ 4096 → length bytes ≡ 192 → s < 21 → r < 21 → r ≢ s → inode_part (spliced_at (192 * s) bytes block) r ≡ inode_part block r
put_there s r bytes block size long low low_too other = elim (cases_lt r s) [
  | inl below ↦ part-below 192 (192 * s) (192 * r) block bytes (omega arith) (omega arith)
  | inr past ↦ part-past 192 (192 * s) (192 * r) block bytes (omega arith) (omega arith)
]

test_same : (i j : ℕ) → i ≡ j → (i == j) ≡ true
test_same i j is = grind (arith, nat_tests)

test_other : (i j : ℕ) → i ≢ j → (i == j) ≡ false
test_other i j other = grind (arith, nat_tests)

-- the block with it, and the others
with_block : (h : Held) (c : Overlay) (n : ℕ) (bytes : List ℕ) (i : ℕ) → i ≡ n / 21 → overlaid_block h (with_inode h c n bytes) i ≡ spliced_at (192 * (n % 21)) bytes (overlaid_block h c i)
with_block h c n bytes i is = ap (λ t. or_else (if t then Some (spliced_at (192 * (n % 21)) bytes (overlaid_block h c i)) else c.block i) (if nat_lt i c.kept then file_block h i else zeros 4096)) (test_same i (n / 21) is)

without_block : (h : Held) (c : Overlay) (n : ℕ) (bytes : List ℕ) (i : ℕ) → i ≢ n / 21 → overlaid_block h (with_inode h c n bytes) i ≡ overlaid_block h c i
without_block h c n bytes i other = ap (λ t. or_else (if t then Some (spliced_at (192 * (n % 21)) bytes (overlaid_block h c i)) else c.block i) (if nat_lt i c.kept then file_block h i else zeros 4096)) (test_other i (n / 21) other)

-- inode n is then these bytes, and each other as before
pub with_here : (h : Held) (c : Overlay) (n : ℕ) (bytes : List ℕ) → length (overlaid_block h c (n / 21)) ≡ 4096 → length bytes ≡ 192
    → inode_bytes_at (overlaid_block h (with_inode h c n bytes)) n ≡ bytes
with_here h c n bytes size long = ap (λ block. inode_part block (n % 21)) (with_block h c n bytes (n / 21) refl) ∙ put_here (n % 21) bytes _ size long (omega arith)

pub with_there : (h : Held) (c : Overlay) (n m : ℕ) (bytes : List ℕ) → length (overlaid_block h c (n / 21)) ≡ 4096 → length bytes ≡ 192 → m ≢ n
    → inode_bytes_at (overlaid_block h (with_inode h c n bytes)) m ≡ inode_bytes_at (overlaid_block h c) m
with_there h c n m bytes size long differ = elim (cases_eq (m / 21) (n / 21)) [
  | inl is ↦ ap (λ block. inode_part block (m % 21)) (with_block h c n bytes (m / 21) is)
      ∙ put_there (n % 21) (m % 21) bytes _ (ap (λ i. length (overlaid_block h c i)) is ∙ size) long (omega arith) (omega arith) (λ same. differ (omega arith))
  | inr other ↦ ap (λ block. inode_part block (m % 21)) (without_block h c n bytes (m / 21) other)
]

-- and what stands behind the inodes of each block stays
pub with_behind : (h : Held) (c : Overlay) (n i : ℕ) (bytes : List ℕ) → length (overlaid_block h c (n / 21)) ≡ 4096 → length bytes ≡ 192
    → drop 4032 (overlaid_block h (with_inode h c n bytes) i) ≡ drop 4032 (overlaid_block h c i)
with_behind h c n i bytes size long = elim (cases_eq i (n / 21)) [
  | inl is ↦ ap (drop 4032) (with_block h c n bytes i is) ∙ put_behind (n % 21) bytes _ (ap (λ k. length (overlaid_block h c k)) is ∙ size) long (omega arith)
  | inr other ↦ ap (drop 4032) (without_block h c n bytes i other)
]
  where
    behind : (at from : ℕ) (xs ys : List ℕ) → at + length ys ≤ length xs → at + length ys ≤ from → drop from (spliced_at at ys xs) ≡ drop from xs
    behind at from xs ys fits past = same_lists _ _ (simp (length-take, length-drop, length-append) (omega arith)) (λ k d h. grind (arith, places))

    put_behind : (s : ℕ) (bytes block : List ℕ) → length block ≡ 4096 → length bytes ≡ 192 → s < 21 → drop 4032 (spliced_at (192 * s) bytes block) ≡ drop 4032 block
    put_behind s bytes block size long low = behind (192 * s) 4032 block bytes (omega arith) (omega arith)
