-- What a block's bytes begin with, and the entries that they are.
use Rattle.std.proofs.Common.{◌≡◌, ℕ, zero, suc, take, drop, zero-add, append_assoc, ◌+◌, ◌≤◌, List, [], ◌∷◌, ◌++◌, length, Some, refl, sym, ap, subst, ◌∙◌, arith, true, false, bytes_eq}
use Rattle.std.proofs.lemmas.List.{length-append, drop-drop, drop_at, length-replicate}
use Rattle.layout.specs.Bytes.{zeros, Writes}
use Rattle.layout.specs.Directory.{Named, entry_bytes, IsEntry, HoldsEntries}
use Rattle.layout.specs.DirectoryNames.{number_of}
use Rattle.entries.specs.Entries.{used_by, without}

-- ---- finding

pub found_here : (name : List ℕ) (e : Named) (entries others : List Named) → entries ≡ e ∷ others → bytes_eq name e.name ≡ true → number_of name entries ≡ Some e.number
found_here name e entries others are same = ap (number_of name) are ∙ rw same refl

pub found_behind : (name : List ℕ) (e : Named) (entries others : List Named) → entries ≡ e ∷ others → bytes_eq name e.name ≡ false → number_of name entries ≡ number_of name others
found_behind name e entries others are apart = ap (number_of name) are ∙ rw apart refl

-- ---- adding

pub used_within : (inodes : ℕ) (bytes : List ℕ) (entries : List Named) → HoldsEntries inodes bytes entries → used_by entries ≤ length bytes
used_within inodes bytes [] holds = omega arith
used_within inodes bytes (e ∷ entries) holds = omega (arith, used_within inodes holds.0 entries holds.3, ap length holds.2, length-append (entry_bytes e) holds.0)

drop-zeros : (n k : ℕ) → drop k (zeros n) ≡ zeros (length (drop k (zeros n)))
unfolding zeros
drop-zeros zero zero = refl
drop-zeros zero (suc k) = refl
drop-zeros (suc n) zero = ap (λ (xs : List ℕ). 0 ∷ xs) (drop-zeros n zero)
drop-zeros (suc n) (suc k) = drop-zeros n k

take_front : (xs ys : List ℕ) (n : ℕ) → take (length xs + n) (xs ++ ys) ≡ xs ++ take n ys
take_front [] ys n = ap (λ (k : ℕ). take k ys) (zero-add n)
take_front (x ∷ xs) ys n = ap (λ (k : ℕ). take k (x ∷ (xs ++ ys))) (one_more (length xs) n) ∙ ap (λ (l : List ℕ). x ∷ l) (take_front xs ys n)
  where
    one_more : (a n : ℕ) → suc a + n ≡ suc (a + n)
    one_more a n = omega arith

drop_front : (xs ys : List ℕ) (n : ℕ) → drop (length xs + n) (xs ++ ys) ≡ drop n ys
drop_front xs ys n = sym (drop-drop n (length xs) (xs ++ ys)) ∙ ap (drop n) (drop_at xs ys (length xs) refl)

added_behind : (front rest bytes new : List ℕ) (u n : ℕ) → bytes ≡ front ++ rest
    → take (length front + u) bytes ++ (new ++ drop (length front + u + n) bytes) ≡ front ++ (take u rest ++ (new ++ drop (u + n) rest))
added_behind front rest bytes new u n is =
    let sum : length front + u + n ≡ length front + (u + n) = omega arith in
    rw (is, sum, take_front front rest u, drop_front front rest (u + n)) (append_assoc front (take u rest) (new ++ drop (u + n) rest))

pub added : (inodes : ℕ) (bytes : List ℕ) (entries : List Named) (e : Named) → IsEntry inodes e → HoldsEntries inodes bytes entries
    → HoldsEntries inodes (take (used_by entries) bytes ++ (entry_bytes e ++ drop (used_by entries + length (entry_bytes e)) bytes)) (entries ++ e ∷ [])
added inodes bytes [] e is holds =
    (drop (0 + length (entry_bytes e)) bytes, is, refl, rw holds (drop-zeros (length bytes) (0 + length (entry_bytes e))))
added inodes bytes (f ∷ entries) e is holds =
    let rest = added inodes holds.0 entries e is holds.3 in
    (take (used_by entries) holds.0 ++ (entry_bytes e ++ drop (used_by entries + length (entry_bytes e)) holds.0), holds.1, added_behind (entry_bytes f) holds.0 bytes (entry_bytes e) (used_by entries) (length (entry_bytes e)) holds.2, rest)

-- the bytes with one entry more, as they are written
pub added_at : (inodes : ℕ) (bytes tail new : List ℕ) (entries : List Named) (e : Named) (at to : ℕ) → at ≡ used_by entries → IsEntry inodes e → HoldsEntries inodes bytes entries
    → Writes 0 to (entry_bytes e) (drop at bytes) tail → new ≡ take at bytes ++ tail → HoldsEntries inodes new (entries ++ e ∷ [])
added_at inodes bytes tail new entries e at to at_is is holds wrote new_is =
    let to_is : to ≡ length (entry_bytes e) = omega (arith, wrote.length_is) in
    let behind : drop to (drop at bytes) ≡ drop (used_by entries + length (entry_bytes e)) bytes = drop-drop to at bytes ∙ ap (λ (n : ℕ). drop n bytes) (omega arith) in
    let spelled : new ≡ take (used_by entries) bytes ++ (entry_bytes e ++ drop (used_by entries + length (entry_bytes e)) bytes) = new_is ∙ rw (wrote.bytes_are, behind, at_is) refl in
    subst (λ (b : List ℕ). HoldsEntries inodes b (entries ++ e ∷ [])) (sym spelled) (added inodes bytes entries e is holds)

-- ---- removing

zeros_joined : (m n : ℕ) → zeros m ++ zeros n ≡ zeros (length (zeros m ++ zeros n))
unfolding zeros
zeros_joined zero n = ap zeros (sym (length-replicate n 0))
zeros_joined (suc m) n = ap (λ (xs : List ℕ). 0 ∷ xs) (zeros_joined m n)

-- more zeros behind the entries
pub padded : (inodes : ℕ) (bytes : List ℕ) (entries : List Named) (n : ℕ) → HoldsEntries inodes bytes entries → HoldsEntries inodes (bytes ++ zeros n) entries
padded inodes bytes [] n holds = rw holds (zeros_joined (length bytes) n)
padded inodes bytes (e ∷ entries) n holds =
    (holds.0 ++ zeros n, holds.1, ap (λ (b : List ℕ). b ++ zeros n) holds.2 ∙ append_assoc (entry_bytes e) holds.0 (zeros n), padded inodes holds.0 entries n holds.3)

pub removed_first : (inodes : ℕ) (bytes rest name : List ℕ) (e : Named) (entries others : List Named) (n : ℕ) → bytes ≡ entry_bytes e ++ rest → entries ≡ e ∷ others → HoldsEntries inodes rest others → bytes_eq name e.name ≡ true → n ≡ length (entry_bytes e)
    → HoldsEntries inodes (take 0 bytes ++ (drop (0 + n) bytes ++ zeros n)) (without name entries)
removed_first inodes bytes rest name e entries others n is are holds same count =
    let behind : drop (0 + n) bytes ≡ rest = ap (drop (0 + n)) is ∙ drop_at (entry_bytes e) rest (0 + n) (omega arith) in
    let left : without name entries ≡ others = ap (without name) are ∙ rw same refl in
    rw (left, behind) (padded inodes rest others n holds)

pub removed_behind : (inodes : ℕ) (bytes rest name : List ℕ) (e : Named) (entries others : List Named) (at n m : ℕ) → IsEntry inodes e → bytes ≡ entry_bytes e ++ rest → entries ≡ e ∷ others → bytes_eq name e.name ≡ false → m ≡ length (entry_bytes e)
    → HoldsEntries inodes (take at rest ++ (drop (at + n) rest ++ zeros n)) (without name others)
    → HoldsEntries inodes (take (m + at) bytes ++ (drop (m + at + n) bytes ++ zeros n)) (without name entries)
removed_behind inodes bytes rest name e entries others at n m is_entry is are apart count holds =
    let left : without name entries ≡ e ∷ without name others = ap (without name) are ∙ rw apart refl in
    let sum : length (entry_bytes e) + at + n ≡ length (entry_bytes e) + (at + n) = omega arith in
    rw (left, count) (
      take at rest ++ (drop (at + n) rest ++ zeros n),
      is_entry,
      rw (is, sum, take_front (entry_bytes e) rest at, drop_front (entry_bytes e) rest (at + n)) (append_assoc (entry_bytes e) (take at rest) (drop (at + n) rest ++ zeros n)),
      holds,
    )
