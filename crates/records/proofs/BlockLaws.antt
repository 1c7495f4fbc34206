-- Which blocks of a file can be read, as its bytes tell, behind a change of them.
use Rattle.std.proofs.Common.{◌≡◌, ◌↔◌, ◌⊎◌, ◌+◌, ◌*◌, ◌/◌, ◌%◌, ◌<◌, ◌≤◌, ◌-◌, ℕ, List, length, max, slice_index, Option, Some, None, Result, Ok, Err, OnOk, IsTrue, inl, inr, refl, sym, ap, subst, ◌∙◌, arith}
use Rattle.std.proofs.lemmas.Bool.{cases_eq, cases_lt, false≢true}
use Rattle.std.proofs.lemmas.List.{get_or_past}
use Rattle.std.proofs.lemmas.List.FromFn.{fill_by_all, get_or-map-range_with_len}
use Rattle.layout.specs.Bytes.{IsBytes}
use Rattle.layout.specs.FileBytes.{first_bytes}
use Rattle.layout.specs.declared.inode.Inode.{Inode}
use Rattle.layout.specs.declared.kind.Kind.{Kind}
use Rattle.layout.specs.declared.kind.Kind.TheVariants as kinds
use Rattle.model.specs.Edits.{resized, written}
use Rattle.model.specs.Volumes.{Node, Volume, is_file_node}
use Rattle.buffers.specs.Positions.{truncate, with_bytes_at}
use Rattle.blocktree.specs.Places.{block_count}
use Rattle.blocktree.specs.Trees.{IsSoundAt}
use Rattle.images.specs.Edges.{TruncatesBlock, EndsIn, IsPartlyWritten, IsWritten}
use Rattle.images.specs.Replaying.{ReadsIn, bytes_of_node}
use Rattle.images.specs.Sizes.{CanReadBlock, IsReadBlock, IsSizedAs, TellsBlocks}
use Rattle.images.specs.Soundness.{Detail, by_bytes, by_sizes}
use Rattle.inode.specs.Edges.{filled, written_list}
use Rattle.inode.specs.Files.{ChangesBlocks, block_with, file_block}
use Rattle.inode.specs.declared.file_update.FileUpdate.{FileUpdate}
use Rattle.inode.specs.declared.file.File.{File}
use Rattle.inode.specs.declared.object.Object.{Object}
use Rattle.inofile.specs.Objects.{IsObjectIn, IsObjectOrNone}
use Rattle.inofile.specs.Settled.{content_of_object}
use Rattle.records.specs.Contents.{ArePartsSound, IsWholeIn, LeavesPart, rewriting}
use Rattle.records.specs.declared.contents.Rewrite.{Rewrite}
use Rattle.records.specs.declared.contents.Rewrite.TheVariants.{Set, Truncate, Write}
use Rattle.inode.proofs.BytePositions.{truncated_below, truncated_past, written_above, written_below, written_in}
use Rattle.layout.proofs.PartLaws.{length-first_bytes}
use Rattle.inode.proofs.EdgeLaws.{list_of_truncated, list_of_write}
use Rattle.records.proofs.ContentLaws.{resized_is, written_is}
use Rattle.records.proofs.KindLaws.{is_kind}

-- ---- bytes by position

past_end : (file : List ℕ) (p : ℕ) → length file ≤ p → slice_index file p ≡ 0
past_end file p le = get_or_past file p 0 le

all_bytes : (file : List ℕ) → first_bytes (slice_index file) (length file) ≡ file
all_bytes file = sym (fill_by_all (slice_index file) file (length file) 0 refl (λ k lt. refl))

pub byte_of : (f : ℕ → ℕ) (size k : ℕ) → ((p : ℕ) → size ≤ p → f p ≡ 0) → slice_index (first_bytes f size) k ≡ f k
byte_of f size k zero = elim (cases_lt k size) [
  | inl lt ↦ get_or-map-range_with_len f 0 size k k 0 lt (omega arith)
  | inr le ↦ past_end (first_bytes f size) k (omega (arith, le, length-first_bytes f size)) ∙ sym (zero k (omega (arith, le)))
]

written_byte : (offset : ℕ) (bytes file : List ℕ) (k : ℕ) → slice_index (written offset bytes file) k ≡ with_bytes_at (slice_index file) offset bytes k
written_byte offset bytes file k =
    let g : ℕ → ℕ = with_bytes_at (slice_index file) offset bytes in
    let size : ℕ = max (length file) (offset + length bytes) in
    let is : first_bytes g size ≡ written offset bytes file =
    list_of_write (slice_index file) g (length file) size offset bytes refl (past_end file) (λ p. refl)
    ∙ ap (λ (l : List ℕ). written_list l offset bytes) (all_bytes file) ∙ written_is offset bytes file in
    ap (λ (l : List ℕ). slice_index l k) (sym is)
    ∙ byte_of g size k (λ p le. written_above (slice_index file) offset bytes p (omega (arith, le)) ∙ past_end file p (omega (arith, le)))

resized_byte : (size : ℕ) (file : List ℕ) (k : ℕ) → slice_index (resized size file) k ≡ truncate (slice_index file) size k
resized_byte size file k =
    let g : ℕ → ℕ = truncate (slice_index file) size in
    let is : first_bytes g size ≡ resized size file =
    list_of_truncated (slice_index file) g (length file) size (past_end file) (λ p. refl) ∙ ap (filled size) (all_bytes file) ∙ resized_is size file in
    ap (λ (l : List ℕ). slice_index l k) (sym is) ∙ byte_of g size k (truncated_past (slice_index file) size)

-- ---- blocks

-- a new size ends in a block that is looked at, or not
ends_or_not : (old new i : ℕ) → EndsIn old new i ⊎ (EndsIn old new i → ⊥)
ends_or_not old new i = elim (cases_eq i (new / 4096)) [
  | inr other ↦ inr (λ e. other e.1)
  | inl here ↦ elim (cases_eq (new % 4096) 0) [
    | inl whole ↦ inr (λ e. e.0.within whole)
    | inr within ↦ elim (cases_lt new old) [
      | inl less ↦ inl (record { how = inl less; within = within }, here)
      | inr least ↦ elim (cases_lt old new) [
        | inr same ↦ inr (λ e. elim e.0.how [ inl lt ↦ omega (arith, lt, least) | inr grows ↦ omega (arith, grows.0, same) ])
        | inl more ↦ elim (cases_lt 128 new) [
          | inl large ↦ inr (λ e. elim e.0.how [ inl lt ↦ omega (arith, lt, least) | inr grows ↦ omega (arith, grows.1, large) ])
          | inr small ↦ inl (record { how = inr (more, omega (arith, small)); within = within }, here)
        ]
      ]
    ]
  ]
]

module _ (disk : ℕ → List ℕ) (f : File) (w : FileUpdate) (old new : List ℕ) (long : length old ≡ f.size) (tells : TellsBlocks (file_block disk f) old) where
  abbrev Tells : ℕ → Type 0
  Tells i = IsReadBlock new i ↔ (length (block_with disk f w i) ≡ 4096)

  small : (i n : ℕ) → slice_index new (4096 * i) ≡ n → n < 256 → IsReadBlock new i
  small i n is lt = subst (λ (m : ℕ). m < 256) (sym is) lt

  both : (i : ℕ) → IsReadBlock new i → length (block_with disk f w i) ≡ 4096 → Tells i
  both i read whole = (λ is. whole, λ is. read)

  -- the block and its first byte are as they were
  kept : (i : ℕ) → slice_index new (4096 * i) ≡ slice_index old (4096 * i) → block_with disk f w i ≡ file_block disk f i → Tells i
  kept i byte same = (
    λ is. ap length same ∙ (tells i).0 (subst (λ (m : ℕ). m < 256) byte is),
    λ is. small i _ byte ((tells i).1 (ap length (sym same) ∙ is)),
  )

  -- the same of a block past the end
  past : (i : ℕ) → slice_index new (4096 * i) ≡ slice_index old (4096 * i) → f.size ≤ 4096 * i → length (block_with disk f w i) ≡ 4096 → Tells i
  past i byte beyond whole = both i (small i 0 (byte ∙ past_end old (4096 * i) (omega (arith, long, beyond))) (omega arith)) whole

module _ (disk : ℕ → List ℕ) (f : File) (w : FileUpdate) (offset : ℕ) (bytes old : List ℕ) (are : IsBytes bytes) (long : length old ≡ f.size) (size : w.size ≡ max f.size (offset + length bytes)) (tells : TellsBlocks (file_block disk f) old) (changes : ChangesBlocks disk f w (IsPartlyWritten offset (length bytes)) (IsWritten offset (length bytes))) where
  abbrev new : List ℕ
  new = written offset bytes old

  unwritten : (i : ℕ) → slice_index new (4096 * i) ≡ slice_index old (4096 * i) → (IsWritten offset (length bytes) i → ⊥) → Tells disk f w old new long tells i
  unwritten i byte not = elim (cases_lt i (block_count w.size)) [
    | inl lt ↦ kept disk f w old new long tells i byte (changes.rest i not lt)
    | inr le ↦ past disk f w old new long tells i byte (omega (arith, le, size)) (changes.past i le)
  ]

  put : (i : ℕ) → IsWritten offset (length bytes) i → Tells disk f w old new long tells i
  put i is =
      let byte = written_byte offset bytes old (4096 * i) in
      let above = is.above in
      let below = is.below in
      elim (cases_lt (4096 * i) offset) [
        | inl part ↦ both disk f w old new long tells i
            (small disk f w old new long tells i _ (byte ∙ written_below (slice_index old) offset bytes (4096 * i) part)
            ((tells i).1 (changes.read i (record { above = above; below = below; part = inl part })))) (changes.put i is)
        | inr reached ↦ both disk f w old new long tells i
            (small disk f w old new long tells i _ (byte ∙ written_in (slice_index old) offset bytes (4096 * i) reached above) (are (4096 * i - offset))) (changes.put i is)
      ]

  pub write_tells : TellsBlocks (block_with disk f w) new
  write_tells i =
      let byte = written_byte offset bytes old (4096 * i) in
      elim (cases_lt (4096 * i) (offset + length bytes)) [
        | inr behind ↦ unwritten i (byte ∙ written_above (slice_index old) offset bytes (4096 * i) behind) (λ is. omega (arith, is.above, behind))
        | inl above ↦ elim (cases_lt offset (4096 * i + 4096)) [
          | inl below ↦ put i (record { above = above; below = below })
          | inr before ↦ unwritten i (byte ∙ written_below (slice_index old) offset bytes (4096 * i) (omega (arith, before))) (λ is. omega (arith, is.below, before))
        ]
      ]

pub truncated_tells : (disk : ℕ → List ℕ) (f : File) (w : FileUpdate) (size : ℕ) (old : List ℕ) → length old ≡ f.size → w.size ≡ size → TellsBlocks (file_block disk f) old
    → ChangesBlocks disk f w (EndsIn f.size size) (EndsIn f.size size) → TellsBlocks (block_with disk f w) (resized size old)
truncated_tells disk f w size old long to tells changes i =
    let new : List ℕ = resized size old in
    let byte = resized_byte size old (4096 * i) in
    elim (cases_lt i (block_count size)) [
      | inr le ↦ both disk f w old new long tells i
          (small disk f w old new long tells i 0 (byte ∙ truncated_past (slice_index old) size (4096 * i) (omega (arith, le))) (omega arith)) (changes.past i (omega (arith, le, to)))
      | inl lt ↦
          let same : slice_index new (4096 * i) ≡ slice_index old (4096 * i) = byte ∙ truncated_below (slice_index old) size (4096 * i) (omega (arith, lt)) in
          elim (ends_or_not f.size size i) [
            | inl ends ↦ both disk f w old new long tells i (small disk f w old new long tells i _ same ((tells i).1 (changes.read i ends))) (changes.put i ends)
            | inr not ↦ kept disk f w old new long tells i same (changes.rest i not (omega (arith, lt, to)))
          ]
    ]

-- ---- the blocks that a record leaves in part

module _ (disk : ℕ → List ℕ) (inodes : ℕ) (settled : Inode) (v : Volume) (n : ℕ) (o : Object) where
  abbrev Sized : Kind → Type 0
  Sized k = IsSizedAs k inodes (content_of_object disk o) (v n)

  size_is : (held : Sized kinds.File) → length (bytes_of_node (v n)) ≡ o.file.size
  size_is held = ap (λ (x : Option Node). length (bytes_of_node x)) held.3 ∙ held.1

  -- the same of the block that a new size ends in
  size_reads : (size : ℕ) → IsObjectIn by_sizes disk inodes settled o (v n) → IsTrue (is_file_node (v n)) → IsWholeIn disk (Truncate size) o → ReadsIn by_sizes v (rewriting n (Truncate size))
  size_reads size is file whole =
      let kind = is_kind by_sizes o.status.kind inodes (content_of_object disk o) (v n) is.stands file in
      let held = subst Sized kind is.stands in
      λ truncates_file. subst (λ (x : Option Node). IsReadBlock (bytes_of_node x) (size / 4096)) (sym held.3)
      ((held.2 (size / 4096)).1 (whole kind (size / 4096) (subst (λ (k : ℕ). TruncatesBlock k size) (size_is held) truncates_file, refl)))

  size_sound : (size count : ℕ) → IsObjectIn by_sizes disk inodes settled o (v n) → ((i : ℕ) → CanReadBlock by_sizes (file_block disk o.file) i → IsSoundAt count disk o.file.tree i)
      → ReadsIn by_sizes v (rewriting n (Truncate size)) → o.status.kind ≡ kinds.File → ArePartsSound count disk (EndsIn o.file.size size) o.file
  size_sound size count is sound reads kind i part =
      let held = subst Sized kind is.stands in
      let read = subst (λ (x : Option Node). IsReadBlock (bytes_of_node x) (size / 4096)) held.3 (reads (subst (λ (k : ℕ). TruncatesBlock k size) (sym (size_is held)) part.0)) in
      sound i ((held.2 i).0 (subst (IsReadBlock held.0) (sym part.1) read))

  -- where they can be read in memory, they can in the volume
  whole_reads : (detail : Detail) (rewrite : Rewrite) → IsObjectIn detail disk inodes settled o (v n) → IsTrue (is_file_node (v n)) → IsWholeIn disk rewrite o → ReadsIn detail v (rewriting n rewrite)
  whole_reads by_bytes rewrite is file whole = tt
  whole_reads by_sizes (Write offset bytes) is file whole =
      let kind = is_kind by_sizes o.status.kind inodes (content_of_object disk o) (v n) is.stands file in
      let held = subst Sized kind is.stands in
      λ i part. subst (λ (x : Option Node). IsReadBlock (bytes_of_node x) i) (sym held.3) ((held.2 i).1 (whole kind i part))
  whole_reads by_sizes (Set mode size) is file whole = size_reads size is file whole
  whole_reads by_sizes (Truncate size) is file whole = size_reads size is file whole

  -- and the other way round
  pub reads_sound : (detail : Detail) (rewrite : Rewrite) (count : ℕ) → IsObjectIn detail disk inodes settled o (v n) → ((i : ℕ) → CanReadBlock detail (file_block disk o.file) i → IsSoundAt count disk o.file.tree i)
      → ReadsIn detail v (rewriting n rewrite) → o.status.kind ≡ kinds.File → ArePartsSound count disk (LeavesPart o.file.size rewrite) o.file
  reads_sound by_bytes rewrite count is sound reads kind i part = sound i tt
  reads_sound by_sizes (Write offset bytes) count is sound reads kind i part =
      let held = subst Sized kind is.stands in
      sound i ((held.2 i).0 (subst (λ (x : Option Node). IsReadBlock (bytes_of_node x) i) held.3 (reads i part)))
  reads_sound by_sizes (Set mode size) count is sound reads kind i part = size_sound size count is sound reads kind i part
  reads_sound by_sizes (Truncate size) count is sound reads kind i part = size_sound size count is sound reads kind i part

pub parts_read : (detail : Detail) (disk : ℕ → List ℕ) (inodes : ℕ) (settled : Inode) (v : Volume) (n : ℕ) (x : Option Object) (rewrite : Rewrite) {T E : Type 0} (r : Result T E)
    → IsObjectOrNone detail disk inodes settled x (v n) → IsTrue (is_file_node (v n)) → ((o : Object) → x ≡ Some o → OnOk r (IsWholeIn disk rewrite o)) → OnOk r (ReadsIn detail v (rewriting n rewrite))
parts_read detail disk inodes settled v n x rewrite (Err e) is file whole = tt
parts_read detail disk inodes settled v n (Some o) rewrite (Ok y) is file whole = whole_reads disk inodes settled v n o detail rewrite is file (whole o refl)
parts_read detail disk inodes settled v n None rewrite (Ok y) is file whole = absurd (false≢true (subst (λ (x : Option Node). IsTrue (is_file_node x)) is file))
