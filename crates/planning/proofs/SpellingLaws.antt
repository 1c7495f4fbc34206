-- An inode is put into the inode file.
use Rattle.std.proofs.Common.{◌≡◌, ◌≢◌, inl, inr, ℕ, ◌*◌, ◌/◌, ◌%◌, ◌<◌, ◌≤◌, List, length, drop, ap, sym, ◌∙◌, arith}
use Rattle.std.proofs.Math.Path.{fun_ext}
use Rattle.std.proofs.lemmas.Bool.{cases_eq, cond-true, cond-false, eq-eqb, ne_eqb}
use Rattle.std.specs.Prelude.{Some, nat_lt, ◌==◌, if◌then◌else◌}
use Rattle.model.specs.Attributes.{no_attributes}
use Rattle.layout.specs.Bytes.{zeros}
use Rattle.layout.specs.Inode.{inode_bytes}
use Rattle.layout.specs.declared.inode.Inode.{Inode}
use Rattle.images.specs.InodeFiles.{FitsPlace, with_inode, spliced_at}
use Rattle.images.specs.Nodes.{Held, held, file_block}
use Rattle.images.specs.Overlays.{Overlay, or_else, overlaid_block}
use Rattle.images.specs.Roots.{inode_bytes_at}
use Rattle.planning.specs.Inodes.{AreSpelled, with_inode_at, with_number}

-- what images says of putting inodes
pub record PutsOneByOne : Type 0 where
  pub there : (h : Held) (c : Overlay) (n : ℕ) (bytes : List ℕ) → FitsPlace h c n bytes → inode_bytes_at (overlaid_block h (with_inode h c n bytes)) n ≡ bytes
  pub others : (h : Held) (c : Overlay) (n m : ℕ) (bytes : List ℕ) → FitsPlace h c n bytes → m ≢ n
      → inode_bytes_at (overlaid_block h (with_inode h c n bytes)) m ≡ inode_bytes_at (overlaid_block h c) m
  pub behind : (h : Held) (c : Overlay) (n i : ℕ) (bytes : List ℕ) → FitsPlace h c n bytes
      → drop (192 * 21) (overlaid_block h (with_inode h c n bytes) i) ≡ drop (192 * 21) (overlaid_block h c i)

module _ (puts : PutsOneByOne) (inodes : ℕ) (block : ℕ → List ℕ) (inode : ℕ → Inode) (n : ℕ) (f : Inode) (spelled : AreSpelled inodes block inode) (low : 1 ≤ n) (high : n < inodes)
    (whole : length (block (n / 21)) ≡ 4096) (long : length (inode_bytes f) ≡ 192) where
  -- all blocks as changed ones over any file
  abbrev base : Held
  base = held (λ b. zeros 4096) f

  abbrev over : Overlay
  over = record { kind = f.kind; attributes = no_attributes; links = 0; size = 0; kept = 0; block = λ i. Some (block i) }

  fits : FitsPlace base over n (inode_bytes f)
  fits = record { block = whole; inode = long }

  new_block : (i : ℕ) → overlaid_block base (with_inode base over n (inode_bytes f)) i ≡ with_inode_at block n f i
  new_block i = elim (cases_eq i (n / 21)) [
    | inl is ↦
        ap (λ t. or_else (if t then Some (spliced_at (192 * (n % 21)) (inode_bytes f) (block i)) else Some (block i)) (if nat_lt i 0 then file_block base i else zeros 4096)) (eq-eqb i (n / 21) is)
        ∙ ap (λ k. spliced_at (192 * (n % 21)) (inode_bytes f) (block k)) is
        ∙ sym (cond-true (i == n / 21) (spliced_at (192 * (n % 21)) (inode_bytes f) (block (n / 21))) (block i) (eq-eqb i (n / 21) is))
    | inr other ↦
        ap (λ t. or_else (if t then Some (spliced_at (192 * (n % 21)) (inode_bytes f) (block i)) else Some (block i)) (if nat_lt i 0 then file_block base i else zeros 4096)) (ne_eqb i (n / 21) other)
        ∙ sym (cond-false (i == n / 21) (spliced_at (192 * (n % 21)) (inode_bytes f) (block (n / 21))) (block i) (ne_eqb i (n / 21) other))
  ]

  blocks_are : overlaid_block base (with_inode base over n (inode_bytes f)) ≡ with_inode_at block n f
  blocks_are = fun_ext new_block

  other_bytes : (m : ℕ) → m ≢ n → inode_bytes_at (with_inode_at block n f) m ≡ inode_bytes_at block m
  other_bytes m other = sym (ap (λ g. inode_bytes_at g m) blocks_are) ∙ puts.others base over n m (inode_bytes f) fits other

  each_spelled : (m : ℕ) → 1 ≤ m → m < inodes → inode_bytes_at (with_inode_at block n f) m ≡ inode_bytes (with_number inode n f m)
  each_spelled m some below = elim (cases_eq m n) [
    | inl is ↦
        ap (inode_bytes_at (with_inode_at block n f)) is
        ∙ sym (ap (λ g. inode_bytes_at g n) blocks_are)
        ∙ puts.there base over n (inode_bytes f) fits
        ∙ sym (ap inode_bytes (cond-true (m == n) f (inode m) (eq-eqb m n is)))
    | inr other ↦ other_bytes m other ∙ spelled.each m some below ∙ sym (ap inode_bytes (cond-false (m == n) f (inode m) (ne_eqb m n other)))
  ]

  pub one_spelled : AreSpelled inodes (with_inode_at block n f) (with_number inode n f)
  one_spelled = record {
    each = each_spelled;
    first = other_bytes 0 (λ is. absurd (omega arith)) ∙ spelled.first;
    past = λ m beyond. other_bytes m (λ is. absurd (omega arith)) ∙ spelled.past m beyond;
    behind = λ i. sym (ap (λ (g : ℕ → List ℕ). drop (192 * 21) (g i)) blocks_are) ∙ puts.behind base over n i (inode_bytes f) fits ∙ spelled.behind i;
  }
