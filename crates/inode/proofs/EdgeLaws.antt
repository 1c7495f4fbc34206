-- A file's bytes as a list.
use Rattle.std.proofs.Common.{◌≡◌, ℕ, ◌+◌, ◌-◌, ◌<◌, ◌≤◌, ◌++◌, List, length, take, drop, slice_index, refl, sym, ◌∙◌, ap, inl, inr, arith, min, max, Bool, true, false, ◌==◌, if◌then◌else◌}
use Rattle.std.proofs.lemmas.Bool.{cases_lt}
use Rattle.std.proofs.lemmas.List.{get_or_append_left, get_or-append_right, get_or-take, get_or-drop, length-take, take_all, take_min, length-drop, length-append}
use Rattle.std.proofs.lemmas.List.FromFn.{get_or-map-range_with_len, fill_by_all}
use Rattle.layout.specs.Bytes.{zeros}
use Rattle.layout.specs.FileBytes.{first_bytes}
use Rattle.buffers.specs.Positions.{with_bytes_at, truncate}
use Rattle.inode.specs.Edges.{filled, written_list}
use Rattle.inode.proofs.BytePositions.{slice_index-zeros, written_below, written_above, written_in, truncated_below}
use Rattle.layout.proofs.PartLaws.{length-first_bytes}
use Rattle.layout.proofs.ZeroLaws.{length-zeros}

byte_of : (f : ℕ → ℕ) (size k : ℕ) → k < size → slice_index (first_bytes f size) k ≡ f k
byte_of f size k lt = get_or-map-range_with_len f 0 size k k 0 lt (omega arith)

-- the first bytes of a list, filled up with zeros
filled_byte : (f : ℕ → ℕ) (size n k : ℕ) → ((p : ℕ) → size ≤ p → f p ≡ 0) → k < n → slice_index (take n (first_bytes f size) ++ zeros (n - size)) k ≡ f k
filled_byte f size n k zero_past lt =
    let len : length (take n (first_bytes f size)) ≡ min n size = length-take n (first_bytes f size) ∙ ap (min n) (length-first_bytes f size) in
    elim (cases_lt k size) [
      | inl within ↦ get_or_append_left (take n (first_bytes f size)) (zeros (n - size)) 0 k (omega arith) ∙ get_or-take n (first_bytes f size) k 0 lt ∙ byte_of f size k within
      | inr past ↦ get_or-append_right (take n (first_bytes f size)) (zeros (n - size)) (min n size) k 0 len (omega arith) ∙ slice_index-zeros (n - size) (k - min n size) ∙ sym (zero_past k past)
    ]

length-filled : (f : ℕ → ℕ) (size n : ℕ) → length (take n (first_bytes f size) ++ zeros (n - size)) ≡ n
length-filled f size n = omega (arith, length-append (take n (first_bytes f size)) (zeros (n - size)), length-take n (first_bytes f size), length-first_bytes f size, length-zeros (n - size))

-- a truncation gives the first bytes, filled up with zeros
truncated_gives : (f : ℕ → ℕ) (size n : ℕ) → ((p : ℕ) → size ≤ p → f p ≡ 0) → first_bytes (truncate f n) n ≡ take n (first_bytes f size) ++ zeros (n - size)
truncated_gives f size n zero_past =
    sym (fill_by_all (truncate f n) (take n (first_bytes f size) ++ zeros (n - size)) n 0 (length-filled f size n) (λ k lt. filled_byte f size n k zero_past lt ∙ sym (truncated_below f n k lt)))

abbrev front : (ℕ → ℕ) → ℕ → ℕ → List ℕ
front f size offset = take offset (first_bytes f size) ++ zeros (offset - size)

abbrev behind : (ℕ → ℕ) → ℕ → ℕ → List ℕ
behind f size end = drop end (first_bytes f size)

length-written : (f : ℕ → ℕ) (size offset : ℕ) (bytes : List ℕ) → length (front f size offset ++ (bytes ++ behind f size (offset + length bytes))) ≡ max size (offset + length bytes)
length-written f size offset bytes =
    omega (arith, length-append (front f size offset) (bytes ++ behind f size (offset + length bytes)), length-append bytes (behind f size (offset + length bytes)), length-drop (offset + length bytes) (first_bytes f size), length-first_bytes f size, length-filled f size offset)

written_byte : (f : ℕ → ℕ) (size offset : ℕ) (bytes : List ℕ) → ((p : ℕ) → size ≤ p → f p ≡ 0) → (k : ℕ) → k < max size (offset + length bytes)
    → slice_index (front f size offset ++ (bytes ++ behind f size (offset + length bytes))) k ≡ with_bytes_at f offset bytes k
written_byte f size offset bytes zero_past k lt =
    elim (cases_lt k offset) [
      | inl below ↦ get_or_append_left (front f size offset) (bytes ++ behind f size (offset + length bytes)) 0 k (omega (arith, length-filled f size offset)) ∙ filled_byte f size offset k zero_past below ∙ sym (written_below f offset bytes k below)
      | inr reached ↦ get_or-append_right (front f size offset) (bytes ++ behind f size (offset + length bytes)) offset k 0 (length-filled f size offset) reached ∙ elim (cases_lt k (offset + length bytes)) [
        | inl within ↦ get_or_append_left bytes (behind f size (offset + length bytes)) 0 (k - offset) (omega arith) ∙ sym (written_in f offset bytes k reached within)
        | inr past ↦
            let here : offset + length bytes + (k - offset - length bytes) ≡ k = omega arith in
            get_or-append_right bytes (behind f size (offset + length bytes)) (length bytes) (k - offset) 0 refl (omega arith)
            ∙ get_or-drop (offset + length bytes) (first_bytes f size) (k - offset - length bytes) 0
            ∙ ap (slice_index (first_bytes f size)) here
            ∙ byte_of f size k (omega arith)
            ∙ sym (written_above f offset bytes k past)
      ]
    ]

-- a write gives the first bytes, filled up with zeros, then what is written, then what stood behind
write_gives : (f : ℕ → ℕ) (size offset : ℕ) (bytes : List ℕ) → ((p : ℕ) → size ≤ p → f p ≡ 0)
    → first_bytes (with_bytes_at f offset bytes) (max size (offset + length bytes)) ≡ (take offset (first_bytes f size) ++ zeros (offset - size)) ++ (bytes ++ drop (offset + length bytes) (first_bytes f size))
write_gives f size offset bytes zero_past =
    sym (fill_by_all (with_bytes_at f offset bytes) (front f size offset ++ (bytes ++ behind f size (offset + length bytes))) (max size (offset + length bytes)) 0 (length-written f size offset bytes) (written_byte f size offset bytes zero_past))

same_first : (f g : ℕ → ℕ) (n : ℕ) → ((p : ℕ) → f p ≡ g p) → first_bytes f n ≡ first_bytes g n
same_first f g n same = fill_by_all g (first_bytes f n) n 0 (length-first_bytes f n) (λ k lt. byte_of f n k lt ∙ same k)

-- the list of bytes after a truncation
pub list_of_truncated : (f g : ℕ → ℕ) (old size : ℕ) → ((p : ℕ) → old ≤ p → f p ≡ 0) → ((p : ℕ) → g p ≡ truncate f size p) → first_bytes g size ≡ filled size (first_bytes f old)
list_of_truncated f g old size zero_past is = same_first g (truncate f size) size is ∙ truncated_gives f old size zero_past ∙ rw (length-first_bytes f old) refl

-- the list of bytes after a write
pub list_of_write : (f g : ℕ → ℕ) (old size offset : ℕ) (bytes : List ℕ) → size ≡ max old (offset + length bytes) → ((p : ℕ) → old ≤ p → f p ≡ 0) → ((p : ℕ) → g p ≡ with_bytes_at f offset bytes p)
    → first_bytes g size ≡ written_list (first_bytes f old) offset bytes
list_of_write f g old size offset bytes size_is zero_past is =
    same_first g (with_bytes_at f offset bytes) size is ∙ ap (first_bytes (with_bytes_at f offset bytes)) size_is ∙ write_gives f old offset bytes zero_past ∙ rw (length-first_bytes f old) refl

-- lists are equal where their elements are
pub same_bytes : (xs ys : List ℕ) (n : ℕ) → length xs ≡ n → length ys ≡ n → ((k : ℕ) → k < n → slice_index xs k ≡ slice_index ys k) → xs ≡ ys
same_bytes xs ys n lx ly same = fill_by_all (slice_index ys) xs n 0 lx same ∙ sym (fill_by_all (slice_index ys) ys n 0 ly (λ k lt. refl))

-- a block of zeros into which bytes were put
pub filled_block : (block bytes : List ℕ) (n : ℕ) → length block ≡ n → length bytes ≤ n → ((k : ℕ) → slice_index block k ≡ with_bytes_at (slice_index (zeros n)) 0 bytes k) → block ≡ bytes ++ zeros (n - length bytes)
filled_block block bytes n lb fits is =
    same_bytes block (bytes ++ zeros (n - length bytes)) n lb (omega (arith, length-append bytes (zeros (n - length bytes)), length-zeros (n - length bytes))) (λ k lt. is k ∙ elim (cases_lt k (length bytes)) [
      | inl within ↦ written_in (slice_index (zeros n)) 0 bytes k (omega arith) (omega arith) ∙ ap (slice_index bytes) (sub-zero k) ∙ sym (get_or_append_left bytes (zeros (n - length bytes)) 0 k within)
      | inr past ↦ written_above (slice_index (zeros n)) 0 bytes k (omega arith) ∙ slice_index-zeros n k ∙ sym (get_or-append_right bytes (zeros (n - length bytes)) (length bytes) k 0 refl past ∙ slice_index-zeros (n - length bytes) (k - length bytes))
    ])
  where
    sub-zero : (k : ℕ) → k - 0 ≡ k
    sub-zero k = omega arith

pub filled_short : (xs : List ℕ) (n : ℕ) → length xs ≤ n → filled n xs ≡ xs ++ zeros (n - length xs)
filled_short xs n le = ap (λ (b : List ℕ). b ++ zeros (n - length xs)) (take_all n xs le)

-- block 0 of an inline body
pub inline_block : (block bytes : List ℕ) (size kept : ℕ) → length block ≡ 4096 → length bytes ≡ 128 → kept ≡ min size 128
    → ((k : ℕ) → slice_index block k ≡ with_bytes_at (slice_index (zeros 4096)) 0 (take kept bytes) k) → block ≡ filled 4096 (take size bytes)
inline_block block bytes size kept lb len is put =
    let part : take kept bytes ≡ take size bytes = ap (λ (n : ℕ). take n bytes) (is ∙ ap (min size) (sym len)) ∙ take_min size bytes in
    filled_block block (take kept bytes) 4096 lb (omega (arith, length-take kept bytes)) put
    ∙ sym (filled_short (take kept bytes) 4096 (omega (arith, length-take kept bytes)))
    ∙ ap (filled 4096) part

-- no byte of an empty file counts
pub inline_none : (bytes : List ℕ) (size i : ℕ) → size ≡ 0 → zeros 4096 ≡ (if i == 0 then filled 4096 (take size bytes) else zeros 4096)
inline_none bytes size i none = rw none (each (i == 0))
  where
    each : (b : Bool) → zeros 4096 ≡ (if b then filled 4096 (take 0 bytes) else zeros 4096)
    each true = refl
    each false = refl
