-- A change that was prepared and then put in force.
use Rattle.std.proofs.Common.{◌≡◌, ℕ, ◌+◌, ◌-◌, ◌/◌, ◌%◌, ◌<◌, ◌≤◌, List, length, get_or, slice_index, refl, ◌∙◌, ap, arith, inl, inr, true, false, if◌then◌else◌, leb, ltb, max}
use Rattle.std.proofs.lemmas.Bool.{cases_lt}
use Rattle.std.proofs.lemmas.Bool.Decides.{nat_tests}
use Rattle.layout.specs.Bytes.{zeros}
use Rattle.buffers.specs.Positions.{with_bytes_at, truncate, laid}
use Rattle.blocktree.specs.Places.{block_count}
use Rattle.layout.specs.FileBytes.{EndsAt}
use Rattle.inode.specs.Files.{file_block, byte_at, byte_with, IsSameFile, IsCommitted}
use Rattle.inode.specs.declared.file.File.{File}
use Rattle.inode.specs.declared.file_update.FileUpdate.{FileUpdate}
use Rattle.inode.proofs.BytePositions.{written_above, truncated_past, laid_past}

laid_same : {X : Type 0} (f g : ℕ → X) (first : ℕ) (xs : List X) (i : ℕ) → f i ≡ g i → laid f first xs i ≡ laid g first xs i
laid_same {X} f g first xs i e = ap (λ (x : X). if leb first i then get_or xs (i - first) x else x) e

-- blocks that are cut off, and then changed
pub committed_blocks : (f g h : ℕ → List ℕ) (count first : ℕ) (xs : List (List ℕ)) → first + length xs ≤ count → ((j : ℕ) → g j ≡ (if ltb j count then f j else zeros 4096))
    → ((j : ℕ) → h j ≡ laid g first xs j) → (i : ℕ) → h i ≡ (if ltb i count then laid f first xs i else zeros 4096)
committed_blocks f g h count first xs fits trimmed installed i =
    installed i ∙ elim (cases_lt i count) [
      | inl lt ↦ laid_same g f first xs i (trimmed i ∙ rw (below i count lt) refl) ∙ rw (below i count lt) refl
      | inr ge ↦ laid_past g first xs i (omega arith) ∙ trimmed i ∙ rw (past i count (omega arith)) refl
    ]
  where
    below : (k n : ℕ) → k < n → ltb k n ≡ true
    below k n lt = grind (arith, nat_tests)

    past : (k n : ℕ) → n ≤ k → ltb k n ≡ false
    past k n le = grind (arith, nat_tests)

-- the bytes are those that the change was to give
pub committed_byte : (disk : ℕ → List ℕ) (old mid new : File) (w : FileUpdate) (f : ℕ → ℕ) → IsSameFile old mid → IsCommitted mid w new → ((p : ℕ) → byte_with disk old w p ≡ f p) → (p : ℕ) → byte_at disk new p ≡ f p
committed_byte disk old mid new w f same done with p =
    ap (λ (b : List ℕ). slice_index b (p % 4096)) (done.blocks disk (p / 4096)
    ∙ ap (λ (b : List ℕ). if ltb (p / 4096) (block_count w.size) then b else zeros 4096) (laid_same (file_block disk mid) (file_block disk old) w.first w.pieces.items (p / 4096) (same.blocks disk (p / 4096))))
    ∙ with p

pub written_ends : (f g : ℕ → ℕ) (old size offset : ℕ) (bytes : List ℕ) → size ≡ max old (offset + length bytes) → EndsAt old f → ((p : ℕ) → g p ≡ with_bytes_at f offset bytes p) → EndsAt size g
written_ends f g old size offset bytes is whole all p past = all p ∙ written_above f offset bytes p (omega arith) ∙ whole p (omega arith)

pub truncated_ends : (f g : ℕ → ℕ) (size : ℕ) → ((p : ℕ) → g p ≡ truncate f size p) → EndsAt size g
truncated_ends f g size all p past = all p ∙ truncated_past f size p past
