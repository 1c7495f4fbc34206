-- The inode map over nothing: the numbers 0 to 3 are taken.
use Rattle.std.proofs.Common.{◌≡◌, inl, inr, ◌↔◌, ℕ, zero, suc, ◌/◌, ◌%◌, ◌<◌, ◌≤◌, ◌^◌, List, ◌∷◌, map, get_or, refl, ap, sym, subst, ◌∙◌, arith}
use Rattle.std.proofs.lemmas.Bool.{cases_lt, cond_above, cond_below, cond-false, ne_eqb}
use Rattle.std.proofs.lemmas.List.{get_or_past}
use Rattle.std.proofs.lemmas.List.FromFn.{get_or-map-range_with_len, length-map-range_with_len}
use Rattle.std.proofs.lemmas.Nat.Bits.{bit_at-zero}
use Rattle.std.specs.Int.{div_ceil}
use Rattle.std.specs.List.{range_with_len}
use Rattle.std.specs.Prelude.{slice_index, nat_lt, ◌==◌, if◌then◌else◌}
use Rattle.model.specs.Attributes.{no_attributes}
use Rattle.layout.specs.Bytes.{zeros}
use Rattle.layout.specs.FileBytes.{byte_in, first_bytes}
use Rattle.layout.specs.Maps.{IsTaken}
use Rattle.layout.specs.Places.{Blocks}
use Rattle.layout.specs.declared.inode.Inode.{Inode}
use Rattle.layout.specs.declared.kind.Kind.TheVariants as kinds
use Rattle.blocktree.specs.Places.{block_count}
use Rattle.images.specs.Contents.{Content, content_bytes, content_of}
use Rattle.images.specs.Nodes.{held}
use Rattle.images.specs.Soundness.{HasNoHole}
use Rattle.inode.specs.Files.{IsFile, file_block}
use Rattle.inode.specs.declared.file.File.{File}
use Rattle.inode.specs.declared.object.Status.{Status}
use Rattle.inode.specs.declared.object.Object.{Object}
use Rattle.placement.specs.Files.{content_with, object_block}
use Rattle.making.specs.Plans.{IsNumbersOn}
use Rattle.making.specs.Starts.{nothing, numbers_block}
use Rattle.layout.proofs.ZeroLaws.{zero_byte}
use Rattle.images.proofs.EmptyLaws.{held_inode}

-- the first byte has the lowest four bits
abbrev byte_is : ℕ → ℕ
byte_is p = if nat_lt p 1 then 15 else 0

byte_zero : (p : ℕ) → 1 ≤ p → byte_is p ≡ 0
byte_zero p some = sym (cond_above p 1 15 0 0 some refl)

first_byte : (k : ℕ) → slice_index (15 ∷ zeros 4095) k ≡ byte_is k
first_byte zero = refl
first_byte (suc k) = zero_byte k 4095 ∙ sym (byte_zero (suc k) (omega arith))

later_block : (i : ℕ) → 1 ≤ i → numbers_block i ≡ zeros 4096
later_block i some = cond-false (i == 0) (15 ∷ zeros 4095) (zeros 4096) (ne_eqb i 0 (λ is. absurd (omega (arith, is, some))))

numbers_byte : (p : ℕ) → slice_index (numbers_block (p / 4096)) (p % 4096) ≡ byte_is p
numbers_byte p = elim (cases_lt p 4096) [
  | inl lt ↦
      let first : p / 4096 ≡ 0 = omega arith in
      let same : p % 4096 ≡ p = omega arith in
      ap (λ i. slice_index (numbers_block i) (p % 4096)) first ∙ ap (slice_index (15 ∷ zeros 4095)) same ∙ first_byte p
  | inr ge ↦ ap (λ (b : List ℕ). slice_index b (p % 4096)) (later_block (p / 4096) (omega arith)) ∙ zero_byte (p % 4096) 4096 ∙ sym (byte_zero p (omega arith))
]

pub numbers_end : (f : File) (inodes : ℕ) → f.size ≡ div_ceil inodes 8 → 32 ≤ inodes → ((i : ℕ) → file_block nothing f i ≡ numbers_block i) → IsFile nothing f
numbers_end f inodes size some blocks p past =
    ap (λ (b : List ℕ). slice_index b (p % 4096)) (blocks (p / 4096)) ∙ numbers_byte p ∙ byte_zero p (omega (arith, past, size, some))

none_taken : (x n : ℕ) → x ≡ 0 → x / 2 ^ n % 2 ≡ 1 → ⊥
none_taken x n is taken =
    let none : x / 2 ^ n % 2 ≡ 0 = ap (λ x. x / 2 ^ n % 2) is ∙ bit_at-zero n in
    absurd (omega (arith, none, taken))

never : (n : ℕ) → byte_is (suc (suc (suc (suc n))) / 8) / 2 ^ (suc (suc (suc (suc n))) % 8) % 2 ≡ 1 → ⊥
never zero taken = absurd (omega (arith, taken))
never (suc zero) taken = absurd (omega (arith, taken))
never (suc (suc zero)) taken = absurd (omega (arith, taken))
never (suc (suc (suc zero))) taken = absurd (omega (arith, taken))
never (suc (suc (suc (suc n)))) taken = none_taken _ _ (byte_zero (suc (suc (suc (suc (suc (suc (suc (suc n))))))) / 8) (omega arith)) taken

low_taken : (n : ℕ) → (byte_is (n / 8) / 2 ^ (n % 8) % 2 ≡ 1) ↔ (n < 4)
low_taken zero = ((λ taken. omega arith), λ low. refl)
low_taken (suc zero) = ((λ taken. omega arith), λ low. refl)
low_taken (suc (suc zero)) = ((λ taken. omega arith), λ low. refl)
low_taken (suc (suc (suc zero))) = ((λ taken. omega arith), λ low. refl)
low_taken (suc (suc (suc (suc n)))) = ((λ taken. absurd (never n taken)), λ low. absurd (omega (arith, low)))

module _ (f : ℕ → ℕ) (size : ℕ) (byte : (p : ℕ) → p < size → f p ≡ byte_is p) (some : 1 ≤ size) where
  byte_at : (i : ℕ) → get_or (first_bytes f size) i 0 ≡ byte_is i
  byte_at i = elim (cases_lt i size) [
    | inl lt ↦ get_or-map-range_with_len f 0 size i i 0 lt (omega arith) ∙ byte i lt
    | inr ge ↦ get_or_past (map f (range_with_len 0 size)) i 0 (omega (arith, length-map-range_with_len f 0 size)) ∙ sym (byte_zero i (omega (arith, some, ge)))
  ]

  pub taken_low : (n : ℕ) → IsTaken (first_bytes f size) n ↔ (n < 4)
  taken_low n = (
    λ taken. (low_taken n).0 (subst (λ x. x / 2 ^ (n % 8) % 2 ≡ 1) (byte_at (n / 8)) taken),
    λ low. subst (λ x. x / 2 ^ (n % 8) % 2 ≡ 1) (sym (byte_at (n / 8))) ((low_taken n).1 low),
  )

-- the bytes of the object
object_byte : (o : Object) → ((i : ℕ) → file_block nothing o.file i ≡ numbers_block i) → (p : ℕ) → p < o.file.size → byte_in (object_block nothing o) p ≡ byte_is p
object_byte o blocks p lt =
    ap (λ (b : List ℕ). slice_index b (p % 4096)) (sym (cond_below (p / 4096) (block_count o.file.size) (file_block nothing o.file (p / 4096)) (zeros 4096) (omega (arith, lt))) ∙ blocks (p / 4096))
    ∙ numbers_byte p

pub numbers_on : (e : Blocks) (f : Inode) (o : Object) (inodes : ℕ) → o.status ≡ record { kind = kinds.InodeMap; attributes = no_attributes; links = 1 } → o.file.size ≡ div_ceil inodes 8 → 32 ≤ inodes
    → ((i : ℕ) → file_block nothing o.file i ≡ numbers_block i) → content_of (held e f) ≡ content_with o (object_block nothing o) → HasNoHole (held e f) → IsNumbersOn e f
numbers_on e f o inodes status size some blocks content whole = record {
  kind = ap (λ (i : Inode). i.kind) (sym (held_inode e f)) ∙ ap (λ (c : Content). c.kind) content ∙ ap (λ (a : Status). a.kind) status;
  whole = whole;
  taken = subst (λ (c : Content). (n : ℕ) → IsTaken (content_bytes c) n ↔ (n < 4)) (sym content)
      (taken_low (byte_in (object_block nothing o)) o.file.size (object_byte o blocks) (omega (arith, size, some)));
}
